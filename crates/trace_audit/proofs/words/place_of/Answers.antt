use Rattle.std.proofs.Common.{◌==◌, ◌∙◌, ◌≡◌, Bool, List, None, Option, Some, ap, arith, le-ltb, length, lt-ltb, ltb, position, sym, ℕ}
use Rattle.base.proofs.Exports.{cond-false, cond-true, false_from_ne_true, position_or_len, position_or_len_is}
use Rattle.memchr.specs.Find.{IsFirstByte, is_byte}
use Rattle.trace_audit.proofs.words.place_of.Goals as goal

first_place : (byte : ℕ) (text : List ℕ) (at : Option ℕ) → IsFirstByte (is_byte byte) text at
    → at ≡ position (λ b. b == byte) text
first_place byte text None none =
    let p : ℕ → Bool = λ b. b == byte in
    let end = position_or_len_is p text (length text) 0 (omega arith)
    (λ k below. false_from_ne_true _ (none k (omega arith) below))
    (λ below. absurd (omega (arith, below))) in
    sym (cond-false (ltb (position_or_len p text) (length text)) (Some (position_or_len p text)) None
    (le-ltb (position_or_len p text) (length text) (omega (arith, end))))
first_place byte text (Some at) (none, passes) =
    let p : ℕ → Bool = λ b. b == byte in
    let place = position_or_len_is p text at 0 (omega (arith, none.high))
    (λ k below. false_from_ne_true _ (none.before k (omega arith) below)) (λ below. passes) in
    ap Some (sym place)
    ∙ sym (cond-true (ltb (position_or_len p text) (length text)) (Some (position_or_len p text))
    None (lt-ltb (position_or_len p text) (length text) (omega (arith, none.high, place))))

pub returns : goal.returns
returns c = first_place c.args.byte c.args.text.now c.memchr.result c.memchr.ensures
