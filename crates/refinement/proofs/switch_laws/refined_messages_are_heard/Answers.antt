use Rattle.refinement.proofs.RefinedDeliveredRecords.{hearing_refines}
use Rattle.refinement.proofs.switch_laws.refined_messages_are_heard.Goals as goal

pub returns : goal.returns
returns c = hearing_refines
