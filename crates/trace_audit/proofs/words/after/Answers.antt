use Rattle.std.proofs.Common.{◌∙◌, ◌∷◌, ◌≡◌, ap, arith, get_or, length, length-append, refl, subst, take, take_all}
use Rattle.base.proofs.Exports.{get_or_append_left, get_or_at, take_rest}
use Rattle.trace_audit.proofs.AuditFirstWords.{not_begun, word_before}
use Rattle.trace_audit.proofs.words.after.Goals as goal

pub returns-then-text-word : goal.returns-then-text-word
returns-then-text-word c = not_begun c.args.word.now c.args.text.now
    (λ rest e. absurd (omega (arith, ap length e, length-append c.args.word.now (32 ∷ rest))))

pub returns-then-text-place : goal.returns-then-text-place
returns-then-text-place c = not_begun c.args.word.now c.args.text.now
    (λ rest e. c.if-text-place.true (ap (λ t. get_or t c.loop-place.place 0) e
    ∙ get_or_append_left c.args.word.now (32 ∷ rest) 0 c.loop-place.place c.loop-place-test.true))

pub returns-then-text-word-ne32 : goal.returns-then-text-word-ne32
returns-then-text-word-ne32 c = let word = c.args.word.now in
    not_begun word c.args.text.now (λ rest e. c.if-text-word-ne32.true
    (ap (λ t. get_or t (length word) 0) e ∙ get_or_at word 32 rest 0 (length word) refl))

pub returns : goal.returns
returns c =
    let text = c.args.text.now in
    let word = c.args.word.now in
    let front : take (length word) text ≡ word =
    subst (λ n. take n text ≡ take n word) (omega arith) c.loop-place.invariant
    ∙ take_all (length word) word (omega arith) in
    simp take_rest
    (word_before word text c.requires (omega arith) front c.if-text-word-ne32.false)
