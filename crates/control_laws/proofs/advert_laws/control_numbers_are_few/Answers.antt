use Rattle.control_laws.proofs.ControlStampingSwitches.{at_ends}
use Rattle.control_laws.proofs.ControlPlannedTables.{numbers_few}
use Rattle.control_laws.proofs.advert_laws.control_numbers_are_few.Goals as goal

pub returns : goal.returns
returns c = at_ends _ numbers_few
