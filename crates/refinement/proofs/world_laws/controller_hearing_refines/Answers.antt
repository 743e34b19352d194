use Rattle.refinement.proofs.RefinedControllerCalls.{hears}
use Rattle.refinement.proofs.RefinedControllerResends.{names_there}
use Rattle.refinement.proofs.world_laws.controller_hearing_refines.Goals as goal

pub returns-clause-items : goal.returns-clause-items
returns-clause-items c = hears

pub returns-clause-there : goal.returns-clause-there
returns-clause-there c = names_there
