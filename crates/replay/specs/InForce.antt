-- The plan that is in force after a journal: that of the current version.
use Rattle.std.specs.Prelude.{◌≡◌, List}
use Rattle.controller.specs.Exports.{ControllerPlanValue}
use Rattle.update_machine.specs.Exports.{Item, Setting, journal_current_mark, journal_plan_at, machine_policy_at}
use Rattle.partition.specs.Plan.{IsPartitionPlan}

-- the plan has the policy of that version, and its partitions with their targets are the policy's
-- plan on the network
pub record IsReplayPlanInForce (setting : Setting) (journal : List Item) (plan : ControllerPlanValue) : Type 0 where
  pub policy : plan.policy ≡ machine_policy_at setting journal (journal_current_mark journal)
  pub hosted : plan.hosted ≡ journal_plan_at setting journal (journal_current_mark journal)
  pub parts : IsPartitionPlan plan.policy setting.net plan.hosted
