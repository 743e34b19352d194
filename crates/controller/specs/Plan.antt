-- Plans: a policy with its partitions, each with its targets.
use Rattle.std.specs.Prelude.{◌<◌, ◌^◌, ◌≡◌, All, Err, List, length, map, ⊤}
use Rattle.net_file.specs.declared.net.Net.{Net}
use Rattle.partition.specs.Plan.{HostedPolicyPartition, partition_plan_of}
use Rattle.policy_rules.specs.Hosted as no_plan
use Rattle.policy_rules.specs.Exports.{AreSoundPolicyPartitions, LastPolicyRuleCovers}
use Rattle.policy_rules.specs.declared.policy.Row.{Row}
use Rattle.switch_table.specs.Exports.{switch_table_part_of}
use Rattle.controller.specs.declared.plan_error.PlanError.{PlanError}
use Rattle.controller.specs.declared.plan_error.PlanError.TheVariants.{TooManyWords, TooManyLeaves, NoRoom, NoMemory}

pub record ControllerPlanValue : Type 0 where
  pub policy : List Row
  pub hosted : List HostedPolicyPartition

-- the partitions are sound for the policy, the last rule of each covers its region, and their
-- numbers and places have 32 bits
pub record IsSoundControllerPlan (plan : ControllerPlanValue) : Type 0 where
  pub sound : AreSoundPolicyPartitions plan.policy (map (λ hosted. hosted.0) plan.hosted)
  pub covers : All LastPolicyRuleCovers (map switch_table_part_of plan.hosted)
  pub few : length plan.hosted < 2 ^ 32
  pub few_rules : All (λ hosted. length hosted.0.rules < 2 ^ 32) plan.hosted

-- why a policy has no plan on a network, or memory ran out
abbrev pub ControllerRefusesPlan : List Row → Net → PlanError → Type 0
ControllerRefusesPlan rows net (TooManyWords words) = partition_plan_of rows net ≡ Err (no_plan.TooManyWords words)
ControllerRefusesPlan rows net TooManyLeaves = partition_plan_of rows net ≡ Err no_plan.TooManyLeaves
ControllerRefusesPlan rows net (NoRoom partition) = partition_plan_of rows net ≡ Err (no_plan.NoRoom partition)
ControllerRefusesPlan rows net NoMemory = ⊤
