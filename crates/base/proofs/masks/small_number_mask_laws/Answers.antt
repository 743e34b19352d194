use Rattle.base.proofs.BaseCallerLemmas.{laws}
use Rattle.base.proofs.masks.small_number_mask_laws.Goals as goal

pub returns : goal.returns
returns c = laws
