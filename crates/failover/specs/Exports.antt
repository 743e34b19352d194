-- The definitions that clauses of this crate use for databases of adverts, the links that they
-- know and the routes that are found in them, passed on from the files that define them.
pub use Rattle.failover.specs.Adverts.{adverts_after_hearing_all, first_advert, first_failover_advert_below, held_advert, is_newer_advert, no_adverts}
unfoldable pub use Rattle.failover.specs.Adverts.{adverts_after_hearing, first_adverts, is_advert_news}
pub use Rattle.failover.specs.DownSet.{IsFailoverDownLinkSet, is_failover_link_of}
pub use Rattle.failover.specs.Isolated.{IsAdvertDatabase}
unfoldable pub use Rattle.failover.specs.Isolated.{is_failover_target_isolated, advertised_links_of_each, advert_names_neighbour}
pub use Rattle.failover.specs.Links.{AreJoinedByFailoverLinks, FailoverLinksLeadTo, route_links_at, neighbours_named_by_advert, no_failover_links}
unfoldable pub use Rattle.failover.specs.Links.{IsFailoverPath, IsFailoverReachable, link_set_has, is_known_route_link, failover_known_links, neighbours_by_adverts, with_failover_link}
pub use Rattle.failover.specs.Newest.{AreAdvertsByOrigin, IsNewestAdvert}
pub use Rattle.failover.specs.Paths.{IsFailoverPathAtMost, IsFailoverTargetIsolated, IsLeastFailoverPath}
unfoldable pub use Rattle.failover.specs.Paths.{IsRoute}
pub use Rattle.failover.specs.RouteList.{IsRouteList}
unfoldable pub use Rattle.failover.specs.Routes.{route_ball, first_route, grown_route_ball, least_route_neighbour_in, route_ball_links_away, route_path_after, route_of, route_to}
pub use Rattle.failover.specs.Search.{IsRouteLinksAway, IsRouteBallEdge}
unfoldable pub use Rattle.failover.specs.Search.{AreRouteBalls, IsOutOfFailoverReach, route_path_by_balls}
