use Rattle.failover.proofs.RouteSearch.{known_route_is_route, one_route, path_is_route_list, straight_path}
use Rattle.failover.proofs.laws.route_laws.Goals as goal

pub returns : goal.returns
returns c = record {
  computed = known_route_is_route;
  unique = one_route;
  short = path_is_route_list;
  straightened = straight_path;
}
