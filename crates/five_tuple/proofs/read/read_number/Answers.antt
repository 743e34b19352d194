use Rattle.std.proofs.Common.{◌+◌, ◌∙◌, arith, rules, take_all}
use Rattle.std.proofs.lemmas.Bool.{and_from}
use Rattle.std.proofs.lemmas.List.Folds.{list_all_more}
use Rattle.std.specs.Char.{is_ascii_digit}
use Rattle.five_tuple.proofs.HeaderWrittenNumbers.{no_digit, leading_zero, other_byte, too_large, accepted, next_digit}
use Rattle.five_tuple.proofs.read.read_number.Goals as goal

pub returns-then-is_empty-clause-value : goal.returns-then-is_empty-clause-value
returns-then-is_empty-clause-value c = no_digit c.args.most c.args.text.now (search rules)

pub returns-then-has_leading_zero-clause-value : goal.returns-then-has_leading_zero-clause-value
returns-then-has_leading_zero-clause-value c = leading_zero c.args.most c.args.text.now
    (search rules)

pub returns-then-not-is_ascii_digit-clause-value : goal.returns-then-not-is_ascii_digit-clause-value
returns-then-not-is_ascii_digit-clause-value c = other_byte c.args.most c.args.text.now
    c.loop-byte.byte-index (omega arith) (search rules)

pub returns-in_err-checked_mul-clause-value : goal.returns-in_err-checked_mul-clause-value
returns-in_err-checked_mul-clause-value c =
    let next = next_digit c.args.text.now c.loop-byte.byte-index (omega arith) (search rules) in
    rw c.from_residual.ensures
    (too_large c.args.most c.args.text.now (c.loop-byte.byte-index + 1)
    (omega (arith, c.in_err-checked_mul.ensures)))

pub returns-in_err-longer-clause-value : goal.returns-in_err-longer-clause-value
returns-in_err-longer-clause-value c =
    let next = next_digit c.args.text.now c.loop-byte.byte-index (omega arith) (search rules) in
    rw c.from_residual-in_err-longer.ensures
    (too_large c.args.most c.args.text.now (c.loop-byte.byte-index + 1)
    (omega (arith, c.in_err-longer.ensures, c.in_ok-checked_mul.ensures)))

pub returns-then-longer-most-clause-value : goal.returns-then-longer-most-clause-value
returns-then-longer-most-clause-value c =
    let next = next_digit c.args.text.now c.loop-byte.byte-index (omega arith) (search rules) in
    too_large c.args.most c.args.text.now (c.loop-byte.byte-index + 1)
    (omega (arith, c.in_ok-longer.ensures, c.in_ok-checked_mul.ensures))

pub loop-byte-preserved : goal.loop-byte-preserved
loop-byte-preserved c =
    let next = next_digit c.args.text.now c.loop-byte.byte-index (omega arith) (search rules) in
    record {
      digits = list_all_more is_ascii_digit c.args.text.now c.loop-byte.byte-index 0 (omega arith)
          ∙ and_from _ _ c.loop-byte.invariant.digits (search rules);
      value = omega (arith, c.in_ok-longer.ensures, c.in_ok-checked_mul.ensures);
      small = omega arith;
    }

pub returns-clause-value : goal.returns-clause-value
returns-clause-value c =
    let all = take_all c.loop-byte.byte-index c.args.text.now (omega arith) in
    let value = rw all at c.loop-byte.invariant.value in
    rw value (accepted c.args.most c.args.text.now (search rules) (search rules)
    (rw all at c.loop-byte.invariant.digits) (omega arith))
