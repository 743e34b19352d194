use Rattle.refinement.proofs.RefinedTableSpellings.{reached_spelled}
use Rattle.refinement.proofs.world_laws.refined_messages_have_spellings.Goals as goal

pub returns : goal.returns
returns c = reached_spelled
