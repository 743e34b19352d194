use Rattle.packet_laws.proofs.PacketsAtRest.{reached}
use Rattle.packet_laws.proofs.PacketRouteHops.{untouched_stay}
use Rattle.packet_laws.proofs.laws.packet_untouched_rules_stay.Goals as goal

pub returns : goal.returns
returns c = reached _ untouched_stay
