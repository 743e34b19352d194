use Rattle.std.proofs.Common.{◌+◌, ◌∙◌, arith, rules, take_all}
use Rattle.std.proofs.lemmas.Bool.{and_from}
use Rattle.std.proofs.lemmas.List.{take_rest}
use Rattle.std.proofs.lemmas.List.Folds.{list_all_more}
use Rattle.std.specs.Char.{is_ascii_digit}
use Rattle.five_tuple.proofs.HeaderDottedParts.{byte_before, lacks_dot, lacks_large, lacks_other, lacks_plain}
use Rattle.five_tuple.proofs.HeaderWrittenNumbers.{next_digit}
use Rattle.five_tuple.proofs.read.address_byte_before_dot.Goals as goal

pub loop-place-preserved : goal.loop-place-preserved
loop-place-preserved c =
    let next = next_digit c.args.text.now c.loop-place.place (omega arith) (search rules) in
    record {
      digits = list_all_more is_ascii_digit c.args.text.now c.loop-place.place 0 (omega arith)
          ∙ and_from _ _ c.loop-place.invariant.digits (search rules);
      value = omega arith;
      small = omega arith;
    }

pub returns-then-not-is_ascii_digit : goal.returns-then-not-is_ascii_digit
returns-then-not-is_ascii_digit c = simp take_rest (byte_before c.args.text.now c.loop-place.place
    c.loop-place.number (omega arith) c.loop-place.invariant.digits (search rules) (search rules)
    c.loop-place.invariant.value c.loop-place.invariant.small)

pub returns-then-not-is_unpadded_tuple_field : goal.returns-then-not-is_unpadded_tuple_field
returns-then-not-is_unpadded_tuple_field c = lacks_plain c.args.text.now c.loop-place.place (omega arith)
    c.loop-place.invariant.digits (search rules) (search rules)

pub returns-then-byte-ne46 : goal.returns-then-byte-ne46
returns-then-byte-ne46 c = lacks_other c.args.text.now c.loop-place.place (omega arith)
    c.loop-place.invariant.digits c.if-byte-ne46.true (search rules)

pub returns-then-number-gt255 : goal.returns-then-number-gt255
returns-then-number-gt255 c =
    let next = next_digit c.args.text.now c.loop-place.place (omega arith) (search rules) in
    let digits = list_all_more is_ascii_digit c.args.text.now c.loop-place.place 0 (omega arith)
    ∙ and_from _ _ c.loop-place.invariant.digits (search rules) in
    lacks_large c.args.text.now (c.loop-place.place + 1) digits (omega arith)

pub returns : goal.returns
returns c = let all = take_all c.loop-place.place c.args.text.now (omega arith) in
    lacks_dot c.args.text.now (rw all at c.loop-place.invariant.digits)
