use Rattle.refinement.proofs.RefinedSwitchLinks.{links_refine}
use Rattle.refinement.proofs.switch_laws.links_change_switches.Goals as goal

pub returns : goal.returns
returns c = links_refine
