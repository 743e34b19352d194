-- The placement that is proposed for a plan after a journal, computed from the weights of its
-- partitions, and the text of the proposal.
use Rattle.std.specs.Prelude.{◌++◌, ◌≡◌, ◌≤◌, List, codes, decimal, length, map, zip, ℕ}
use Rattle.controller.specs.Exports.{ControllerPlanLeadsEveryHeader}
use Rattle.update_machine.specs.Exports.{Header, Item, Net, Row}
use Rattle.partition.specs.Plan.{HostedPolicyPartition, IsPartitionPlan, partition_switch_rooms_of}
use Rattle.policy_rules.specs.Exports.{IsFirstPolicyMatch, scan}
use Rattle.rebalance.specs.Loads.{RebalanceFits, bound, peak, rebalance_weights_of}
use Rattle.rebalance.specs.Spread.{IsRebalanceProposal}
use Rattle.rebalance.specs.declared.plan_proposal.Proposal.{Proposal}
use Rattle.show_text.specs.Text.{compile_text}
use Rattle.switch_table.specs.Exports.{switch_table_part_of}

-- ---- a plan, and the sizes and weights of its partitions

-- the targets of each partition
abbrev pub rebalance_partition_targets : List HostedPolicyPartition → List (List ℕ)
rebalance_partition_targets plan = map (λ (hosted : HostedPolicyPartition). hosted.1) plan

-- how many rules each partition has
abbrev pub rebalance_sizes_in : List HostedPolicyPartition → List ℕ
rebalance_sizes_in plan = map (λ (hosted : HostedPolicyPartition). length hosted.0.rules) plan

-- the weight of each partition
abbrev pub rebalance_weights_in : List Item → List HostedPolicyPartition → List ℕ
rebalance_weights_in journal plan = rebalance_weights_of journal (length plan)

-- the same partitions with other targets
abbrev pub with_targets : List HostedPolicyPartition → List (List ℕ) → List HostedPolicyPartition
with_targets plan placement = zip (map switch_table_part_of plan) placement

-- ---- the proposal

-- the placement is proposed to replace the plan's own, computed from the weights of its partitions;
-- it fits, and its peak is at least the bound and not higher than the plan's. The plan's partitions
-- are the leaves of the tree that is defined for the policy's rules, and each stays. With the new
-- targets, too, the tables lead each header to its first match, which a scan of the policy finds
pub record IsRebalanceProposedFor (rows : List Row) (plan : List HostedPolicyPartition) (net : Net) (journal : List Item)
    (placement : List (List ℕ)) : Type 0 where
  pub proposal : IsRebalanceProposal (rebalance_sizes_in plan) (rebalance_weights_in journal plan) (partition_switch_rooms_of net) net.backups
      (rebalance_partition_targets plan) placement
  pub fits : RebalanceFits (rebalance_sizes_in plan) (partition_switch_rooms_of net) net.backups placement
  pub lower : peak (rebalance_weights_in journal plan) placement
      ≤ peak (rebalance_weights_in journal plan) (rebalance_partition_targets plan)
  pub bounded : bound (rebalance_weights_in journal plan) (partition_switch_rooms_of net)
      ≤ peak (rebalance_weights_in journal plan) placement
  pub parts : IsPartitionPlan rows net plan
  pub same_parts : map switch_table_part_of (with_targets plan placement) ≡ map switch_table_part_of plan
  pub leads : ControllerPlanLeadsEveryHeader rows (with_targets plan placement)
  -- what a scan finds, to which the tables lead, is the first match
  pub first_match : (header : Header) → IsFirstPolicyMatch rows header (scan rows header)

-- the peaks of the old and the new placement, and the bound
abbrev pub rebalance_peaks_text : ℕ → ℕ → ℕ → List ℕ
rebalance_peaks_text old new least =
    codes "peak " ++ decimal old ++ codes " " ++ decimal new ++ codes "\nbound " ++ decimal least
    ++ codes "\n"

-- the same of a placement for the plan, and the plan with this placement
abbrev pub rebalance_placement_text : List Row → List HostedPolicyPartition → Net → List Item → List (List ℕ) → List ℕ
rebalance_placement_text rows plan net journal placement =
    let weights = rebalance_weights_in journal plan in
    rebalance_peaks_text (peak weights (rebalance_partition_targets plan)) (peak weights placement)
    (bound weights (partition_switch_rooms_of net)) ++ compile_text rows (with_targets plan placement) net

-- what was found is the plan with the targets of a placement that is proposed, and the peaks of
-- these and of the plan's own
pub record IsRebalanceProposalFoundFor (rows : List Row) (plan : List HostedPolicyPartition) (net : Net) (journal : List Item)
    (found : Proposal) : Type 0 where
  pub placement : List (List ℕ)
  pub proposed : IsRebalanceProposedFor rows plan net journal placement
  pub policy : found.plan.policy ≡ rows
  pub hosted : found.plan.hosted ≡ with_targets plan placement
  pub old_peak : found.old_peak ≡ peak (rebalance_weights_in journal plan) (rebalance_partition_targets plan)
  pub new_peak : found.new_peak ≡ peak (rebalance_weights_in journal plan) placement
  pub least : found.bound ≡ bound (rebalance_weights_in journal plan) (partition_switch_rooms_of net)

-- there is a proposal, and this is true of its text
pub record RebalanceProposesFor (rows : List Row) (plan : List HostedPolicyPartition) (net : Net) (journal : List Item)
    (IsWritten : List ℕ → Type 0) : Type 0 where
  pub placement : List (List ℕ)
  pub proposed : IsRebalanceProposedFor rows plan net journal placement
  pub written : IsWritten (rebalance_placement_text rows plan net journal placement)
