use Rattle.refinement.proofs.RefinedSwitchLinks.{lives_refine}
use Rattle.refinement.proofs.switch_laws.switch_lives_refine.Goals as goal

pub returns : goal.returns
returns c = lives_refine
