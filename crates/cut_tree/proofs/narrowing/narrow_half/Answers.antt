use Rattle.std.proofs.Common.{◌++◌, ◌∙◌, ◌≡◌, List, Option, Some, ap, arith, sym}
use Rattle.ternary.specs.Exports.{WordValue, word_fix_of, word_meet_of}
use Rattle.policy_rules.specs.declared.rules.Rule.{Rule}
use Rattle.cut_tree.proofs.CutHalves.{lies_at}
use Rattle.cut_tree.proofs.CutNarrowing.{keeps_all, keeps_last, keeps_next, narrow_past}
use Rattle.cut_tree.proofs.narrowing.narrow_half.Goals as goal
use Rattle.cut_tree.proofs.narrowing.narrow_half.Goals.{After-mask-in-loop-rule}

pub loop-rule-preserved-in_default : goal.loop-rule-preserved-in_default
loop-rule-preserved-in_default c =
    let rules = c.args.rules.now in
    let region = c.args.region.now in
    let lies = lies_at region rules _ _ c.requires.within (omega arith) c.rule-item.is in
    let none = sym (c.cut_word_with_bit.ensures region c.mask.ensures.word c.requires.free lies) ∙ c.in_default.is in
    c.loop-rule.invariant ∙ ap (λ (xs : List Rule). c.loop-rule.kept.items ++ xs)
    (narrow_past rules _ _ _ (omega arith) c.rule-item.is none)

-- the next rule meets the half
meets_half : (c : After-mask-in-loop-rule) → ◌≡◌ {A = Option WordValue}
    (word_meet_of c.rule-item.result.word (word_fix_of c.args.region.now c.args.bit c.args.one))
    (Some c.in-Some.word)
meets_half c =
    let region = c.args.region.now in
    let lies = lies_at region c.args.rules.now _ _ c.requires.within (omega arith) c.rule-item.is in
    sym (c.cut_word_with_bit.ensures region c.mask.ensures.word c.requires.free lies) ∙ c.in-Some.is

mask_is : (c : After-mask-in-loop-rule)
    → c.mask-whole.result ≡ (word_fix_of c.args.region.now c.args.bit c.args.one).mask
mask_is c = c.mask-whole.ensures.mask ∙ ap (λ (w : WordValue). w.mask) c.fix.ensures.pair

pub returns-then-is_whole : goal.returns-then-is_whole
returns-then-is_whole c = let before = (goal.at.returns-then-is_whole c).After-mask-in-loop-rule in
    c.in_ok-push.ensures.items
    ∙ sym (keeps_last c.args.rules.now _ _ _ (word_fix_of c.args.region.now c.args.bit c.args.one)
    c.loop-rule.invariant _ _ (omega arith) c.rule-item.is (meets_half before)
    (sym c.mask-in-loop-rule.ensures.mask ∙ c.if-is_whole.true ∙ mask_is before))

pub loop-rule-preserved : goal.loop-rule-preserved
loop-rule-preserved c = let before = (goal.at.loop-rule-preserved c).After-mask-in-loop-rule in
    rw c.in_ok-push.ensures.items
    (keeps_next c.args.rules.now _ _ _ (word_fix_of c.args.region.now c.args.bit c.args.one)
    c.loop-rule.invariant _ _ (omega arith) c.rule-item.is (meets_half before)
    (λ e. c.if-is_whole.false (c.mask-in-loop-rule.ensures.mask ∙ e ∙ sym (mask_is before))))

pub returns : goal.returns
returns c = sym (keeps_all c.args.rules.now _ _ _ (word_fix_of c.args.region.now c.args.bit c.args.one)
    c.loop-rule.invariant c.loop-rule-test.false)
