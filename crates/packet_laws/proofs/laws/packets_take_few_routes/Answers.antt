use Rattle.packet_laws.proofs.PacketsAtRest.{reached}
use Rattle.packet_laws.proofs.PacketFewRoutes.{detoured_few, finds_few, routes_few, searched_few, taken_few}
use Rattle.packet_laws.proofs.laws.packets_take_few_routes.Goals as goal

pub returns : goal.returns
returns c = record {
  raised = reached _ (λ setting journal is have i.
      (routes_few setting journal is have i).seeking.searched);
  searched = reached _ searched_few;
  exited = reached _ (λ setting journal is have i.
      (routes_few setting journal is have i).leaving.exited);
  detoured = reached _ detoured_few;
  found = reached _ finds_few;
  few = reached _ taken_few;
}
