-- What the lists that were made say, and so what the proposal is.
use Rattle.std.proofs.Common.{◌<◌, ◌^◌, ◌∙◌, ◌≡◌, List, ap, arith, length, map}
use Rattle.base.proofs.Exports.{All-map}
use Rattle.partition.specs.Plan.{HostedPolicyPartition, partition_sizes_of}
use Rattle.switch_table.specs.Exports.{switch_table_part_of}
use Rattle.update_machine.specs.Exports.{Partition}
use Rattle.rebalance.specs.Loads.{rebalance_weights_of}
use Rattle.rebalance.specs.Spread.{IsRebalanceProposal}
use Rattle.rebalance.specs.Proposals.{rebalance_partition_targets}
use Rattle.rebalance.proofs.ProposedPlans.{AreMeasured, as_many_asked, as_many_sizes, as_many_targets, few_rooms, found_for, proposal_number, sizes_are}
use Rattle.rebalance.proofs.plan_proposal.find_proposal.Goals as goal
use Rattle.rebalance.proofs.plan_proposal.find_proposal.Goals.{In_ok-new, In_ok-old}

measured : (c : In_ok-old)
    → AreMeasured c.args.plan.now.hosted c.args.net.now c.args.journal.now c.in_ok-sizes.sizes.items
    c.in_ok-weights.weights.items c.in_ok-rooms.rooms.items c.in_ok-old.old.items
measured c = record {
  sizes_are = c.in_ok-sizes.ensures ∙ ap partition_sizes_of (c.deref.ensures.value ∙ c.in_ok-parts.ensures
      ∙ ap (map switch_table_part_of) c.hosted-hosted.ensures.hosted) ∙ sizes_are c.args.plan.now.hosted;
  weights_are = c.in_ok-weights.ensures.weights ∙ ap (λ (hosts : List HostedPolicyPartition). rebalance_weights_of
      c.args.journal.now (length hosts)) c.hosted-hosted.ensures.hosted;
  rooms_are = c.in_ok-rooms.ensures;
  old_is = c.in_ok-old.ensures ∙ ap rebalance_partition_targets c.hosted-hosted.ensures.hosted;
}

-- the placement that is proposed
chosen : (c : In_ok-new) → IsRebalanceProposal c.in_ok-sizes.sizes.items c.in_ok-weights.weights.items
    c.in_ok-rooms.rooms.items c.args.net.now.backups c.in_ok-old.old.items c.in_ok-new.new.items
chosen c = rw (c.deref-4.ensures.value, c.deref-5.ensures.value, c.deref-6.ensures.value) at
    c.in_ok-new.ensures

new_number : (c : In_ok-new) → length c.in_ok-old.old.items ≡ length c.in_ok-weights.weights.items
    → length c.in_ok-new.new.items ≡ length c.in_ok-weights.weights.items
new_number c each = proposal_number c.in_ok-sizes.sizes.items c.in_ok-weights.weights.items
    c.in_ok-rooms.rooms.items c.args.net.now.backups c.in_ok-old.old.items c.in_ok-new.new.items
    each (chosen c)

pub sizes_of-requires : goal.sizes_of-requires
sizes_of-requires c =
    rw (c.deref.ensures.value, c.in_ok-parts.ensures, c.hosted-hosted.ensures.hosted)
    (All-map (λ (part : Partition). length part.rules < 2 ^ 32) switch_table_part_of c.args.plan.now.hosted
    c.hosted-hosted.ensures.sound.few_rules)

pub peak-old_peak-requires-clause-each : goal.peak-old_peak-requires-clause-each
peak-old_peak-requires-clause-each c = rw (c.deref-2.ensures.value, c.deref-3.ensures.value)
    (as_many_targets _ _ _ _ _ _ _
    (measured (goal.at.peak-old_peak-requires-clause-each c).In_ok-old))

pub proposed_targets-requires-clause-each : goal.proposed_targets-requires-clause-each
proposed_targets-requires-clause-each c = rw (c.deref-4.ensures.value, c.deref-5.ensures.value)
    (as_many_sizes _ _ _ _ _ _ _
    (measured (goal.at.proposed_targets-requires-clause-each c).In_ok-old))

pub proposed_targets-requires-clause-partitions : goal.proposed_targets-requires-clause-partitions
proposed_targets-requires-clause-partitions c = omega (
  arith,
  ap length c.deref-5.ensures.value,
  as_many_asked _ _ _ _ _ _ _
      (measured (goal.at.proposed_targets-requires-clause-partitions c).In_ok-old),
  c.requires.plan.few,
)

pub proposed_targets-requires-clause-switches : goal.proposed_targets-requires-clause-switches
proposed_targets-requires-clause-switches c =
    rw (c.deref-6.ensures.value, c.in_ok-rooms.ensures) (few_rooms c.args.net.now c.requires.net)

pub proposed_targets-requires-clause-old : goal.proposed_targets-requires-clause-old
proposed_targets-requires-clause-old c = rw c.deref-5.ensures.value (as_many_targets _ _ _ _ _ _ _
    (measured (goal.at.proposed_targets-requires-clause-old c).In_ok-old))

pub peak-new_peak-requires-clause-each : goal.peak-new_peak-requires-clause-each
peak-new_peak-requires-clause-each c = rw (c.deref-7.ensures.value, c.deref-8.ensures.value)
    (new_number (goal.at.peak-new_peak-requires-clause-each c).In_ok-new (as_many_targets _ _ _ _ _
    _ _ (measured (goal.at.peak-new_peak-requires-clause-each c).In_ok-old)))

pub with_targets-requires : goal.with_targets-requires
with_targets-requires c = let are = measured (goal.at.with_targets-requires c).In_ok-old in
    rw c.in_ok-copy.ensures.cases (new_number (goal.at.with_targets-requires c).In_ok-new (as_many_targets _ _ _ _ _ _ _ are)
    ∙ as_many_asked _ _ _ _ _ _ _ are)

pub returns : goal.returns
returns c = found_for c.args.plan.now.policy c.args.plan.now.hosted c.args.net.now c.args.journal.now
    (record {
      plan = c.in_ok-plan.plan;
      old_peak = c.peak-old_peak.result;
      new_peak = c.peak-new_peak.result;
      bound = c.bound-bound.result;
    })
    c.in_ok-sizes.sizes.items c.in_ok-weights.weights.items c.in_ok-rooms.rooms.items
    c.in_ok-old.old.items c.in_ok-new.new.items c.rebalance_spread_laws.ensures c.requires.net
    c.requires.plan (measured (goal.at.returns c).In_ok-old)
    (chosen (goal.at.returns c).In_ok-new)
    (rw c.in_ok-copy.ensures.cases at c.in_ok-plan.ensures.policy)
    (rw c.in_ok-copy.ensures.cases at c.in_ok-plan.ensures.hosted)
    (rw c.in_ok-copy.ensures.cases at c.in_ok-plan.ensures.leads)
    (rw (c.deref-2.ensures.value, c.deref-3.ensures.value) at c.peak-old_peak.ensures)
    (rw (c.deref-7.ensures.value, c.deref-8.ensures.value) at c.peak-new_peak.ensures)
    (rw (c.deref-9.ensures.value, c.deref-10.ensures.value) at c.bound-bound.ensures)
