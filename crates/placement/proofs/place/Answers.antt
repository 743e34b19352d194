use Rattle.std.proofs.Common.{◌∙◌, IfOk, arith, rules}
use Rattle.base.proofs.Exports.{IfErr-weaker, IfOk-weaker, IfRefused-weaker}
use Rattle.placement.specs.Placement.{IsPlacement, RefusesPlacement}
use Rattle.placement.proofs.PlacementLemmas.{placement_is, refusal_is, sum-sizes}
use Rattle.placement.proofs.place.Goals as goal
use Rattle.placement.proofs.place.Goals.{After-take_turns}

pub take_turns-requires : goal.take_turns-requires
take_turns-requires c = rw (c.deref.ensures.value ∙ c.in_ok-wide.ensures) (record {
  partitions = c.requires.partitions;
  switches = c.requires.switches;
  few = c.requires.backups;
  small = sum-sizes c.args.sizes.now c.requires.partitions (λ k. omega (arith, c.type_inv.sizes k));
})

-- the sizes in 64 bits are the sizes
hosted : (c : After-take_turns) → IfOk c.take_turns.result (λ targets.
    IsPlacement c.args.sizes.now c.args.rooms.now c.args.backups targets.items)
hosted c = search rules

pub returns-clause-placement : goal.returns-clause-placement
returns-clause-placement c = hosted (goal.at.returns-clause-placement c).After-take_turns

pub returns-clause-value : goal.returns-clause-value
returns-clause-value c = IfOk-weaker c.take_turns.result _ _
    (λ targets. placement_is c.args.sizes.now c.args.rooms.now c.args.backups targets.items)
    (hosted (goal.at.returns-clause-value c).After-take_turns)

pub returns-clause-refused : goal.returns-clause-refused
returns-clause-refused c = IfErr-weaker c.take_turns.result _ _
    (IfRefused-weaker _ (RefusesPlacement c.args.sizes.now c.args.rooms.now c.args.backups) (λ lack
    is. (refusal_is c.args.sizes.now c.args.rooms.now c.args.backups lack.partition is, is))) (rw (
      c.deref.ensures.value ∙ c.in_ok-wide.ensures,
      c.deref-2.ensures.value ∙ c.in_ok-wide.ensures,
    ) at c.take_turns.ensures.refused)
