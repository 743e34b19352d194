-- The plan of a policy is sound.
use Rattle.std.proofs.Common.{[], ◌<◌, ◌^◌, ◌∙◌, ◌≡◌, ◌≤◌, All, Err, List, Ok, ap, arith, get_or, length, map, sym, zip, ℕ}
use Rattle.base.proofs.Exports.{All-weaker, firsts-zip, get_or-map, get_or-zip, length-map, length-zip}
use Rattle.base.specs.Exports.{IfRefused}
use Rattle.base.specs.declared.error.Failure.{Failure}
use Rattle.base.specs.declared.error.Failure.TheVariants.{Refused, NoMemory}
use Rattle.net_file.specs.Exports.{IsNet}
use Rattle.net_file.specs.declared.net.Net.{Net}
use Rattle.cut_tree.specs.Exports.{CutTreeShape, cut_leaf_count, cut_tree_of}
use Rattle.placement.specs.Placement.{RefusesPlacement, placement_of}
use Rattle.placement.specs.declared.NoRoom.{NoRoom}
use Rattle.policy_rules.specs.Exports.{RefusesPolicyRuleList, policy_rules_of, policy_row_word_total}
use Rattle.policy_rules.specs.declared.rule_list.TooManyWords.{TooManyWords}
use Rattle.cut_tree.specs.declared.tree.TooManyLeaves.{TooManyLeaves}
use Rattle.partition.specs.Parts.{partitions_of_cut_tree}
use Rattle.partition.specs.Plan.{IsPartitionPlan, HostedPolicyPartition, partition_plan_of, partition_switch_rooms_of, partition_sizes_of}
use Rattle.policy_rules.specs.Hosted as no_plan
use Rattle.partition.proofs.PartitionCallerLemmas.{no_leaves, no_room, no_words, planned}
use Rattle.controller.specs.Exports.{IsSoundControllerPlan, ControllerPlanLeadsEveryHeader, ControllerRefusesPlan, controller_placement_plan_cause, controller_rules_plan_cause, controller_tree_plan_cause}
use Rattle.policy_rules.specs.declared.policy.Row.{Row}
use Rattle.policy_rules.specs.declared.rules.Partition.{Partition}
use Rattle.policy_rules.specs.declared.rules.Rule.{Rule}
use Rattle.switch_table.proofs.SwitchTableLemmas.{tables_lead}
use Rattle.switch_table.specs.Exports.{switch_table_part_of}

pub plan_sound : (rows : List Row) (net : Net) (plan : List HostedPolicyPartition) → IsNet net
    → IsPartitionPlan rows net plan → IsSoundControllerPlan (record { policy = rows; hosted = plan })
plan_sound rows net plan network is = record {
  sound = is.sound;
  covers = is.ended;
  few = omega (arith, is.few);
  few_rules = All-weaker (λ hosted. length hosted.0.rules ≤ net.leaf_rules)
      (λ hosted. length hosted.0.rules < 2 ^ 32)
      (λ hosted small. omega (arith, small, network.leaf_rules)) plan is.leaves;
}

some_targets : (rows : List Row) (net : Net) (plan : List HostedPolicyPartition) → IsPartitionPlan rows net plan
    → All (λ hosted. 0 < length hosted.1) plan
some_targets rows net plan is = λ k d within. let first = λ (hosted : HostedPolicyPartition). hosted.0 in
    let second = λ (hosted : HostedPolicyPartition). hosted.1 in
    let sizes = length-map (map first plan) (λ part. length part.rules) ∙ length-map plan first in
    let there : get_or (map second plan) k [] ≡ (get_or plan k d).1 =
    get_or-map second plan k d [] within in
    omega (arith, (is.placement.hosted k (omega (arith, within, sizes))).number, ap length there)

-- from each switch the tables of a plan lead each header to the policy's first match
pub plan_leads : (rows : List Row) (net : Net) (plan : List HostedPolicyPartition) → IsPartitionPlan rows net plan
    → ControllerPlanLeadsEveryHeader rows plan
unfolding ControllerPlanLeadsEveryHeader
plan_leads rows net plan is version switch header sound =
    tables_lead rows plan version switch header is.sound (some_targets rows net plan is) sound

-- ---- other targets

pub retargeted_sound : (rows : List Row) (plan : List HostedPolicyPartition) (targets : List (List ℕ))
    → length targets ≡ length plan → IsSoundControllerPlan (record { policy = rows; hosted = plan })
    → IsSoundControllerPlan (record { policy = rows; hosted = zip (map switch_table_part_of plan) targets })
retargeted_sound rows plan targets len is =
    let parts : List Partition = map switch_table_part_of plan in
    let count : length parts ≡ length plan = length-map plan switch_table_part_of in
    let each : length targets ≡ length parts = len ∙ sym count in
    let firsts : map switch_table_part_of (zip parts targets) ≡ parts = firsts-zip parts targets each in
    let pairs : length (zip parts targets) ≡ length parts =
    grind (arith, length-zip parts targets, each) in record {
      sound = rw firsts is.sound;
      covers = rw firsts is.covers;
      few = omega (arith, pairs, count, is.few);
      few_rules = λ k d within. let here : k < length parts = omega (arith, within, pairs) in
          let same = ap (λ (h : HostedPolicyPartition). h.0) (get_or-zip parts targets k d here (omega arith))
          ∙ get_or-map switch_table_part_of plan k d d.0 (omega arith) in
          omega (arith, is.few_rules, ap (λ (part : Partition). length part.rules) same);
    }

pub retargeted_leads : (rows : List Row) (plan : List HostedPolicyPartition) (targets : List (List ℕ))
    → length targets ≡ length plan → IsSoundControllerPlan (record { policy = rows; hosted = plan })
    → All (λ switches. 0 < length switches) targets
    → ControllerPlanLeadsEveryHeader rows (zip (map switch_table_part_of plan) targets)
unfolding ControllerPlanLeadsEveryHeader
retargeted_leads rows plan targets len is some version switch header sound =
    let parts : List Partition = map switch_table_part_of plan in
    let each : length targets ≡ length parts = len ∙ sym (length-map plan switch_table_part_of) in
    let pairs : length (zip parts targets) ≡ length parts = grind (arith, length-zip, each) in
    tables_lead rows (zip parts targets) version switch header
    (retargeted_sound rows plan targets len is).sound
    (λ k d within. let here : k < length parts = omega (arith, within, pairs) in
    let there : k < length targets = omega (arith, here, each) in
    let same = ap (λ (h : HostedPolicyPartition). h.1) (get_or-zip parts targets k d here there) in
    omega (arith, some k d.1 there, ap length same)) sound

-- ---- the refusals of the way are those of the plan

pub rules_refused : (rows : List Row) (net : Net) (error : Failure TooManyWords)
    → IfRefused (RefusesPolicyRuleList rows) error → ControllerRefusesPlan rows net (controller_rules_plan_cause error)
rules_refused rows net (Refused words) is =
    let many : 4096 < policy_row_word_total rows = omega (arith, is.0, is.1) in
    no_words rows net many ∙ ap (λ n. Err (no_plan.TooManyWords n)) (sym is.0)
rules_refused rows net NoMemory is = tt

pub tree_refused : (rows : List Row) (net : Net) (list : List Rule) (error : Failure TooManyLeaves)
    → policy_row_word_total rows ≤ 4096 → list ≡ policy_rules_of rows
    → IfRefused (λ _. 512 < cut_leaf_count (cut_tree_of list net.leaf_rules)) error
    → ControllerRefusesPlan rows net (controller_tree_plan_cause error)
tree_refused rows net list (Refused many) few is refused = no_leaves rows net few (rw is at refused)
tree_refused rows net list NoMemory few is refused = tt

-- what the way has found before it places the partitions
pub record IsReady (rows : List Row) (net : Net) (list : List Rule) (shape : CutTreeShape)
    (sizes rooms : List ℕ) : Type 0 where
  pub few : policy_row_word_total rows ≤ 4096
  pub rules : list ≡ policy_rules_of rows
  pub tree : shape ≡ cut_tree_of list net.leaf_rules
  pub leaves : cut_leaf_count shape ≤ 512
  pub sizes_are : sizes ≡ partition_sizes_of (partitions_of_cut_tree shape)
  pub rooms_are : rooms ≡ partition_switch_rooms_of net

ready_tree : (rows : List Row) (net : Net) (list : List Rule) (shape : CutTreeShape) (sizes rooms : List ℕ)
    → IsReady rows net list shape sizes rooms → shape ≡ cut_tree_of (policy_rules_of rows) net.leaf_rules
ready_tree rows net list shape sizes rooms is = cc (is.tree, is.rules)

pub placement_refused : (rows : List Row) (net : Net) (list : List Rule) (shape : CutTreeShape)
    (sizes rooms : List ℕ) (error : Failure NoRoom) → IsReady rows net list shape sizes rooms
    → IfRefused (RefusesPlacement sizes rooms net.backups) error
    → ControllerRefusesPlan rows net (controller_placement_plan_cause error)
placement_refused rows net list shape sizes rooms (Refused lack) is refused =
    no_room rows net shape lack.partition is.few (ready_tree rows net list shape sizes rooms is)
    is.leaves (sym (ap (λ s. placement_of s (partition_switch_rooms_of net) net.backups) is.sizes_are)
    ∙ sym (ap (λ r. placement_of sizes r net.backups) is.rooms_are) ∙ refused.0)
placement_refused rows net list shape sizes rooms NoMemory is refused = tt

pub planned_at : (rows : List Row) (net : Net) (list : List Rule) (shape : CutTreeShape)
    (sizes rooms : List ℕ) (targets : List (List ℕ)) → IsReady rows net list shape sizes rooms
    → placement_of sizes rooms net.backups ≡ Ok targets
    → partition_plan_of rows net ≡ Ok (zip (partitions_of_cut_tree shape) targets)
planned_at rows net list shape sizes rooms targets is hosted =
    planned rows net shape targets is.few (ready_tree rows net list shape sizes rooms is) is.leaves
    (sym (ap (λ s. placement_of s (partition_switch_rooms_of net) net.backups) is.sizes_are)
    ∙ sym (ap (λ r. placement_of sizes r net.backups) is.rooms_are) ∙ hosted)
