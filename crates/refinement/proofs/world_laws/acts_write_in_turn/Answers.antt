use Rattle.refinement.proofs.RefinedKeptController.{posted, written_append}
use Rattle.refinement.proofs.world_laws.acts_write_in_turn.Goals as goal

pub returns-clause-parts : goal.returns-clause-parts
returns-clause-parts c = written_append

pub returns-clause-messages : goal.returns-clause-messages
returns-clause-messages c = posted
