use Rattle.std.proofs.Common.{◌∙◌, arith, sym}
use Rattle.cut_tree.proofs.CutNarrowing.{keeps_all, keeps_last, keeps_next}
use Rattle.cut_tree.proofs.narrowing.narrow.Goals as goal

pub returns-then-is_whole : goal.returns-then-is_whole
returns-then-is_whole c = c.in_ok-push.ensures.items ∙ sym (keeps_last c.args.rules.now _ _ _ _
    c.loop-rule.invariant _ _ (omega arith) c.rule-item.is (sym c.in-Some.ensures.pair)
    (sym c.mask.ensures.mask ∙ c.if-is_whole.true ∙ c.mask-in-loop-rule.ensures.mask))

pub loop-rule-preserved : goal.loop-rule-preserved
loop-rule-preserved c = rw c.in_ok-push.ensures.items (keeps_next c.args.rules.now _ _ _ _
    c.loop-rule.invariant _ _ (omega arith) c.rule-item.is (sym c.in-Some.ensures.pair)
    (λ e. c.if-is_whole.false (c.mask.ensures.mask ∙ e ∙ sym c.mask-in-loop-rule.ensures.mask)))

pub returns : goal.returns
returns c = sym (keeps_all c.args.rules.now _ _ _ _ c.loop-rule.invariant c.loop-rule-test.false)
