use Rattle.control_laws.proofs.ControlPlannedTables.{fit_behind_room, fit_in_room}
use Rattle.control_laws.proofs.advert_laws.control_numbers_fit.Goals as goal

pub returns : goal.returns
returns c = record { before = fit_in_room; behind = fit_behind_room }
