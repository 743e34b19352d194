use Rattle.std.proofs.Common.{◌∙◌, ap}
use Rattle.base.proofs.Exports.{err_from_is_err_and}
use Rattle.cut_tree.specs.Exports.{cut_tree_shape_of}
use Rattle.partition.specs.Plan.{partition_sizes_of}
use Rattle.controller.proofs.ControllerCompiledPlans.{IsReady, placement_refused, plan_leads, plan_sound, planned_at, rules_refused, tree_refused}
use Rattle.controller.proofs.planning.compile.Goals as goal
use Rattle.controller.proofs.planning.compile.Goals.{After-place}

pub returns-in_err-rules-clause-refused : goal.returns-in_err-rules-clause-refused
returns-in_err-rules-clause-refused c =
    let p = err_from_is_err_and c.from_residual.result c.from_residual.ensures.1 in
    rw (p.1, p.2) (rules_refused c.args.policy.now c.args.net.now c.in_err-rules.field-0.0
    c.in_err-rules.ensures.refused)

pub returns-in_err-tree-clause-refused : goal.returns-in_err-tree-clause-refused
returns-in_err-tree-clause-refused c =
    let p = err_from_is_err_and c.from_residual-in_err-tree.result
    c.from_residual-in_err-tree.ensures.1 in
    rw (p.1, p.2)
    (tree_refused c.args.policy.now c.args.net.now c.deref.result.now c.in_err-tree.field-0.0
    c.in_ok-rules.ensures.few (c.deref.ensures.value ∙ c.in_ok-rules.ensures.rules)
    c.in_err-tree.ensures.refused)

-- what is ready when targets are chosen
ready_to_host : (c : After-place) → IsReady c.args.policy.now c.args.net.now c.deref.result.now
    (cut_tree_shape_of c.in_ok-tree.tree) c.deref-3.result.now c.deref-4.result.now
ready_to_host c = record {
  few = c.in_ok-rules.ensures.few;
  rules = c.deref.ensures.value ∙ c.in_ok-rules.ensures.rules;
  tree = c.in_ok-tree.ensures.tree;
  leaves = c.in_ok-tree.ensures.few;
  sizes_are = c.deref-3.ensures.value ∙ c.in_ok-sizes.ensures
      ∙ ap partition_sizes_of (c.deref-2.ensures.value ∙ c.in_ok-parts.ensures.parts);
  rooms_are = c.deref-4.ensures.value ∙ c.in_ok-rooms.ensures;
}

pub returns-in_err-targets-clause-refused : goal.returns-in_err-targets-clause-refused
returns-in_err-targets-clause-refused c =
    let p = err_from_is_err_and c.from_residual-in_err-targets.result
    c.from_residual-in_err-targets.ensures.1 in
    let ready = ready_to_host (goal.at.returns-in_err-targets-clause-refused c).After-place in
    rw (p.1, p.2) (placement_refused _ _ _ _ _ _ c.in_err-targets.field-0.0 ready
    c.in_err-targets.ensures.refused)

pub new-requires-clause-sound : goal.new-requires-clause-sound
new-requires-clause-sound c =
    let ready = ready_to_host (goal.at.new-requires-clause-sound c).After-place in
    let planned = planned_at _ _ _ _ _ _ _ ready c.in_ok-targets.ensures.value in
    let sound = plan_sound _ _ _ c.requires
    (c.partition_plan_laws.ensures.holds _ _ _ c.in_ok-rules.ensures.policy c.requires planned) in
    rw (c.in_ok-policy.ensures.cases, c.deref-5.ensures.value, c.in_ok-parts.ensures.parts) sound

pub returns-clause-plan : goal.returns-clause-plan
returns-clause-plan c = let ready = ready_to_host (goal.at.returns-clause-plan c).After-place in
    rw (
      c.in_ok-plan.ensures.hosted,
      c.deref-5.ensures.value,
      c.in_ok-parts.ensures.parts,
    ) (planned_at _ _ _ _ _ _ _ ready c.in_ok-targets.ensures.value)

pub returns-clause-parts : goal.returns-clause-parts
returns-clause-parts c =
    let ready = ready_to_host (goal.at.returns-clause-parts c).After-place in
    let planned = planned_at _ _ _ _ _ _ _ ready c.in_ok-targets.ensures.value in
    rw (
      c.in_ok-plan.ensures.hosted,
      c.deref-5.ensures.value,
      c.in_ok-parts.ensures.parts,
    ) (c.partition_plan_laws.ensures.holds _ _ _ c.in_ok-rules.ensures.policy c.requires planned)

pub returns-clause-leads : goal.returns-clause-leads
returns-clause-leads c = plan_leads _ _ _ (returns-clause-parts c)
