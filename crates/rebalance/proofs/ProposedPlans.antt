-- What is proposed for a plan fits it, and its peak is between the bound and the old one.
use Rattle.std.proofs.Common.{[], ◌++◌, ◌<◌, ◌∙◌, ◌∷◌, ◌≡◌, ◌≤◌, All, Err, Global, IfOk, List, Ok, Result, Vec, ap, arith, get_or, inl, inr, length, length-append, map, refl, subst, suc, sym, zero, ℕ}
use Rattle.base.proofs.Exports.{firsts-zip, get_or_default, length-map, length-range_with_len, range_with_len}
use Rattle.controller.specs.Exports.{ControllerPlanLeadsEveryHeader}
use Rattle.update_machine.specs.Exports.{Item, Net, Partition, Row}
use Rattle.net_file.specs.Exports.{IsNet}
use Rattle.partition.specs.Plan.{HostedPolicyPartition, IsPartitionPlan, partition_switch_rooms_of, partition_sizes_of}
use Rattle.placement.specs.Placement.{IsPlacement}
use Rattle.policy_rules.specs.Exports.{LastPolicyRuleCovers}
use Rattle.policy_rules.proofs.PolicyRulesCallerLemmas.{first_match-scan}
use Rattle.rebalance.specs.Loads.{RebalanceFits, bound, peak, weight}
use Rattle.rebalance.specs.Proposals.{IsRebalanceProposalFoundFor, IsRebalanceProposedFor, RebalanceProposesFor, rebalance_peaks_text, rebalance_sizes_in, rebalance_partition_targets, rebalance_weights_in, with_targets}
use Rattle.rebalance.specs.Spread.{AreRebalancePartitionsWeighed, IsRebalanceProposal, RebalanceSpreadLaws}
use Rattle.rebalance.specs.declared.plan_proposal.Proposal.{Proposal}
use Rattle.show_text.specs.Text.{compile_text}
use Rattle.switch_table.specs.Exports.{switch_table_part_of}

-- ---- the plan

pub sizes_are : (plan : List HostedPolicyPartition) → partition_sizes_of (map switch_table_part_of plan) ≡ rebalance_sizes_in plan
sizes_are [] = refl
sizes_are (hosted ∷ plan) = ap (λ sizes. length hosted.0.rules ∷ sizes) (sizes_are plan)

-- each partition was asked so often
pub as_many_weights : (journal : List Item) (plan : List HostedPolicyPartition)
    → length (rebalance_weights_in journal plan) ≡ length plan
as_many_weights journal plan = length-map (range_with_len 0 (length plan)) (weight journal)
    ∙ length-range_with_len 0 (length plan)

pub sized : (journal : List Item) (plan : List HostedPolicyPartition)
    → length (rebalance_sizes_in plan) ≡ length (rebalance_weights_in journal plan)
sized journal plan = omega (
  arith,
  length-map plan (λ (hosted : HostedPolicyPartition). length hosted.0.rules),
  as_many_weights journal plan,
)

pub targeted : (journal : List Item) (plan : List HostedPolicyPartition)
    → length (rebalance_partition_targets plan) ≡ length (rebalance_weights_in journal plan)
targeted journal plan = omega (
  arith,
  length-map plan (λ (hosted : HostedPolicyPartition). hosted.1),
  as_many_weights journal plan,
)

-- a partition has a rule, since its last one covers its region
has_rule : (part : Partition) → LastPolicyRuleCovers part → 0 < length part.rules
has_rule part (earlier, last, rules, covers) =
    omega (arith, ap length rules, length-append earlier (last ∷ []))

weighed : (rows : List Row) (plan : List HostedPolicyPartition) (net : Net) (journal : List Item) → IsNet net
    → IsPartitionPlan rows net plan → AreRebalancePartitionsWeighed (rebalance_sizes_in plan) (rebalance_weights_in journal plan) (partition_switch_rooms_of net)
weighed rows plan net journal sound is = record {
  each = sized journal plan;
  some = λ k d within. let few : k < length plan =
      omega (arith, within, length-map plan (λ (hosted : HostedPolicyPartition). length hosted.0.rules)) in
      let all : k < length (map (λ (hosted : HostedPolicyPartition). hosted.0) plan) = omega
      (arith, few, length-map plan (λ (hosted : HostedPolicyPartition). hosted.0)) in
      sized_at k d few all;
  few = omega (arith, length-map net.switches (λ row. row.room), sound.few_switches);
} where
  sized_at : (k d : ℕ) → k < length plan → k < length (map (λ (hosted : HostedPolicyPartition). hosted.0) plan)
      → 0 < get_or (rebalance_sizes_in plan) k d
  sized_at k d few all = by_list plan k few is.ended where
    by_list : (hosts : List HostedPolicyPartition) (k : ℕ) → k < length hosts
        → All LastPolicyRuleCovers (map (λ (hosted : HostedPolicyPartition). hosted.0) hosts)
        → 0 < get_or (rebalance_sizes_in hosts) k d
    by_list [] k below ended = absurd (omega (arith, below))
    by_list (hosted ∷ hosts) zero below ended = has_rule hosted.0 (ended 0 hosted.0 (omega arith))
    by_list (hosted ∷ hosts) (suc k) below ended = by_list hosts k (omega (arith, below))
        (λ j e within. ended (suc j) e (omega (arith, within)))

-- ---- the proposal

pub proposal_number : (sizes weights rooms : List ℕ) (backups : ℕ) (old new : List (List ℕ))
    → length old ≡ length weights → IsRebalanceProposal sizes weights rooms backups old new
    → length new ≡ length weights
proposal_number sizes weights rooms backups old new len (inl lower) = lower.spread.number
proposal_number sizes weights rooms backups old new len (inr kept) = ap length kept.same ∙ len

some_targets : (sizes rooms : List ℕ) (backups : ℕ) (P : List (List ℕ))
    → RebalanceFits sizes rooms backups P → All (λ switches. 0 < length switches) P
some_targets sizes rooms backups P fits = λ k d within.
    let here : k < length sizes = omega (arith, within, fits.number) in
    omega (arith, fits.targets k here, ap length (get_or_default P k d [] within))

pub proposed_for : (rows : List Row) (plan : List HostedPolicyPartition) (net : Net) (journal : List Item)
    (placement : List (List ℕ))
    → ((sizes weights rooms : List ℕ) (backups : ℕ) → AreRebalancePartitionsWeighed sizes weights rooms
    → RebalanceSpreadLaws sizes weights rooms backups) → IsNet net → IsPartitionPlan rows net plan
    → IsRebalanceProposal (rebalance_sizes_in plan) (rebalance_weights_in journal plan) (partition_switch_rooms_of net) net.backups
    (rebalance_partition_targets plan) placement → (All (λ switches. 0 < length switches) placement
    → ControllerPlanLeadsEveryHeader rows (with_targets plan placement))
    → IsRebalanceProposedFor rows plan net journal placement
proposed_for rows plan net journal placement laws sound is proposal leads =
    let sizes = rebalance_sizes_in plan in
    let weights = rebalance_weights_in journal plan in
    let rooms = partition_switch_rooms_of net in
    let all = laws sizes weights rooms net.backups (weighed rows plan net journal sound is) in
    let old : RebalanceFits sizes rooms net.backups (rebalance_partition_targets plan) = all.placed (rebalance_partition_targets plan)
    (subst (λ s. IsPlacement s rooms net.backups (rebalance_partition_targets plan)) (sizes_are plan) is.placement)
    in
    let fits = all.proposed (rebalance_partition_targets plan) placement old proposal in
    let count : length placement ≡ length (map switch_table_part_of plan) = omega (
      arith,
      fits.number,
      length-map plan (λ (hosted : HostedPolicyPartition). length hosted.0.rules),
      length-map plan switch_table_part_of,
    ) in record {
      proposal = proposal;
      fits = fits;
      lower = all.never_higher (rebalance_partition_targets plan) placement proposal;
      bounded = all.bounded placement fits;
      parts = is;
      same_parts = firsts-zip (map switch_table_part_of plan) placement count;
      leads = leads (some_targets sizes rooms net.backups placement fits);
      first_match = first_match-scan rows;
    }

pub few_rooms : (net : Net) → IsNet net → length (partition_switch_rooms_of net) ≤ 64
few_rooms net sound = omega (arith, length-map net.switches (λ row. row.room), sound.few_switches)

-- these lists say how great the partitions are, how often each was asked, what the switches hold,
-- and where the partitions are
pub record AreMeasured (plan : List HostedPolicyPartition) (net : Net) (journal : List Item)
    (sizes weights rooms : List ℕ) (old : List (List ℕ)) : Type 0 where
  pub sizes_are : sizes ≡ rebalance_sizes_in plan
  pub weights_are : weights ≡ rebalance_weights_in journal plan
  pub rooms_are : rooms ≡ partition_switch_rooms_of net
  pub old_is : old ≡ rebalance_partition_targets plan

module _ (plan : List HostedPolicyPartition) (net : Net) (journal : List Item) (sizes weights rooms : List ℕ)
    (old : List (List ℕ)) (are : AreMeasured plan net journal sizes weights rooms old) where
  pub as_many_asked : length weights ≡ length plan
  as_many_asked = ap length are.weights_are ∙ as_many_weights journal plan

  pub as_many_sizes : length sizes ≡ length weights
  as_many_sizes = ap length are.sizes_are ∙ sized journal plan ∙ ap length (sym are.weights_are)

  pub as_many_targets : length old ≡ length weights
  as_many_targets = ap length are.old_is ∙ targeted journal plan ∙ ap length (sym are.weights_are)

pub found_for : (rows : List Row) (plan : List HostedPolicyPartition) (net : Net) (journal : List Item)
    (found : Proposal) (sizes weights rooms : List ℕ) (old new : List (List ℕ))
    → ((sizes weights rooms : List ℕ) (backups : ℕ)
    → AreRebalancePartitionsWeighed sizes weights rooms → RebalanceSpreadLaws sizes weights rooms backups) → IsNet net
    → IsPartitionPlan rows net plan → AreMeasured plan net journal sizes weights rooms old
    → IsRebalanceProposal sizes weights rooms net.backups old new
    → found.plan.policy ≡ rows → found.plan.hosted ≡ with_targets plan new
    → (All (λ switches. 0 < length switches) new → ControllerPlanLeadsEveryHeader rows found.plan.hosted)
    → found.old_peak ≡ peak weights old → found.new_peak ≡ peak weights new
    → found.bound ≡ bound weights rooms → IsRebalanceProposalFoundFor rows plan net journal found
found_for rows plan net journal found sizes weights rooms old new laws sound is are proposal policy
    hosted leads old_peak new_peak least = record {
      placement = new;
      proposed = proposed_for rows plan net journal new laws sound is
          (rw (are.sizes_are, are.weights_are, are.rooms_are, are.old_is) at proposal)
          (λ some. subst (ControllerPlanLeadsEveryHeader rows) hosted (leads some));
      policy = policy;
      hosted = hosted;
      old_peak = rw (are.weights_are, are.old_is) at old_peak;
      new_peak = rw are.weights_are at new_peak;
      least = rw (are.weights_are, are.rooms_are) at least;
    }

-- ---- the text

-- the text that was made of what was found
pub text_of_found : {E : Type 0} (rows : List Row) (plan : List HostedPolicyPartition) (net : Net)
    (journal : List Item) (found : Proposal) (text : List ℕ) (result : Result (Vec ℕ Global) E)
    → IsRebalanceProposalFoundFor rows plan net journal found
    → text ≡ compile_text found.plan.policy found.plan.hosted net → IfOk result
    (λ whole. whole.items ≡ rebalance_peaks_text found.old_peak found.new_peak found.bound ++ text)
    → IfOk result (λ whole. RebalanceProposesFor rows plan net journal (λ told. whole.items ≡ told))
text_of_found rows plan net journal found text (Err error) is plan_text made = tt
text_of_found rows plan net journal found text (Ok whole) is plan_text made =
    let weights = rebalance_weights_in journal plan in
    let old = peak weights (rebalance_partition_targets plan) in
    let new = peak weights is.placement in
    let least = bound weights (partition_switch_rooms_of net) in
    let head : rebalance_peaks_text found.old_peak found.new_peak found.bound ≡ rebalance_peaks_text old new least =
    ap (λ n. rebalance_peaks_text n found.new_peak found.bound) is.old_peak
    ∙ ap (λ n. rebalance_peaks_text old n found.bound) is.new_peak ∙ ap (rebalance_peaks_text old new) is.least in
    let lines = ap (λ (rows : List Row). compile_text rows found.plan.hosted net) is.policy
    ∙ ap (λ (hosted : List HostedPolicyPartition). compile_text rows hosted net) is.hosted in record {
      placement = is.placement;
      proposed = is.proposed;
      written = made ∙ ap (λ first. first ++ text) head
          ∙ ap (λ rest. rebalance_peaks_text old new least ++ rest) (plan_text ∙ lines);
    }
