use Rattle.packet_laws.proofs.PacketDrainHops.{reached}
use Rattle.packet_laws.proofs.PacketRouteHops.{hops_few, within_each, within_routes}
use Rattle.packet_laws.proofs.laws.packets_take_few_hops.Goals as goal

pub returns : goal.returns
returns c = record {
  on_each = reached _ within_each;
  by_routes = reached _ within_routes;
  few = reached _ hops_few;
}
