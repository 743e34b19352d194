use Rattle.std.proofs.Common.{subst, sym}
use Rattle.net_file.specs.Exports.{IsNet}
use Rattle.schedule.proofs.LoadCaseNetworks.{load_net_sound}
use Rattle.schedule.proofs.case_net.net.Goals as goal

pub returns-clause-sound : goal.returns-clause-sound
returns-clause-sound c = subst IsNet (sym c.in_ok-net.ensures) load_net_sound
