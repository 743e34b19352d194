use Rattle.partition.proofs.PartitionPlans.{plan_holds}
use Rattle.partition.proofs.plan.partition_plan_laws.Goals as goal

pub returns : goal.returns
returns c = record { holds = plan_holds }
