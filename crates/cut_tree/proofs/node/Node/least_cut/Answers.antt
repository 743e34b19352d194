use Rattle.std.proofs.Common.{◌∙◌, List, ap, arith, sym}
use Rattle.policy_rules.specs.declared.rules.Rule.{Rule}
use Rattle.cut_tree.specs.Exports.{least_cut_cost_below}
use Rattle.cut_tree.proofs.CutLemmas.{least_cuts}
use Rattle.cut_tree.proofs.CutTreeLemmas.{never_stuck}
use Rattle.cut_tree.proofs.node.Node.least_cut.Goals as goal

pub unreachable-requires : goal.unreachable-requires
unreachable-requires c = let node = c.args.self.now in
    never_stuck 1 node.rules.items node.region (omega arith) c.requires node.sound
    (ap (λ (rules : List Rule). least_cut_cost_below 104 rules node.region) (sym c.deref.ensures.value)
    ∙ sym c.least_cut.ensures ∙ c.in-None.is)

pub returns-clause-free : goal.returns-clause-free
returns-clause-free c = let node = c.args.self.now in
    (least_cuts node.rules.items node.region c.in-Some.cost
    (ap (λ (rules : List Rule). least_cut_cost_below 104 rules node.region) (sym c.deref.ensures.value)
    ∙ sym c.in-Some.ensures)).cuts
