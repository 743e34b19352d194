-- The laws of adverts, of sets of links, of known links and of routes: a function of `src` ensures
-- each record.
use Rattle.std.specs.Prelude.{◌&&◌, ◌++◌, ◌<◌, ◌||◌, ◌↔◌, ◌≡◌, ◌≢◌, IsTrue, List, Option, Some, false, length, not, option_to_list, slice_index, ℕ}
use Rattle.failover.specs.declared.advert.Advert.{Advert}
use Rattle.base.specs.Exports.{has}
use Rattle.failover.specs.Adverts.{held_advert, is_advert_news, adverts_after_hearing, adverts_after_hearing_all, no_adverts, first_failover_advert_below, first_adverts}
use Rattle.failover.specs.DownSet.{is_failover_link_of, IsFailoverDownLinkSet}
use Rattle.failover.specs.Links.{neighbours_by_adverts, is_known_route_link, failover_known_links, link_set_has, no_failover_links, with_failover_link, FailoverLinksLeadTo, IsFailoverPath, IsFailoverReachable}
use Rattle.failover.specs.Paths.{IsFailoverTargetIsolated, IsRoute}
use Rattle.failover.specs.RouteList.{IsRouteList}
use Rattle.failover.specs.Routes.{route_of}
use Rattle.failover.specs.Newest.{AreAdvertsByOrigin, IsNewestAdvert}
use Rattle.failover.specs.Isolated.{advert_names_neighbour, is_failover_target_isolated}

pub record AdvertDatabaseLaws : Type 0 where
  pub none : AreAdvertsByOrigin no_adverts
  pub first : (near : List ℕ) (count : ℕ) → AreAdvertsByOrigin (first_adverts near count)
  -- at first the database has the advert of each switch, and no other
  pub begun : (near : List ℕ) (count origin : ℕ) → origin < 64 →
      held_advert (first_adverts near count) origin ≡ first_failover_advert_below near count origin
  pub kept : (adverts : List (Option Advert)) (advert : Advert) → AreAdvertsByOrigin adverts →
      AreAdvertsByOrigin (adverts_after_hearing adverts advert)
  -- an advert that is news is kept, and those of other origins stay
  pub heard : (adverts : List (Option Advert)) (advert : Advert) → AreAdvertsByOrigin adverts →
      IsTrue (is_advert_news adverts advert) →
      held_advert (adverts_after_hearing adverts advert) advert.origin ≡ Some advert
  pub others : (adverts : List (Option Advert)) (advert : Advert) (origin : ℕ) →
      origin ≢ advert.origin → held_advert (adverts_after_hearing adverts advert) origin
      ≡ held_advert adverts origin
  -- after any adverts the database has the newest of each origin, and the one that it had at first
  -- counts before them
  pub newest : (adverts : List (Option Advert)) (heard : List Advert) (origin : ℕ) →
      AreAdvertsByOrigin adverts → origin < 64 →
      IsNewestAdvert origin (option_to_list (held_advert adverts origin) ++ heard)
      (held_advert (adverts_after_hearing_all adverts heard) origin)

pub record FailoverLinkSetLaws : Type 0 where
  pub none : IsFailoverDownLinkSet no_failover_links
  pub no_link : (x y : ℕ) → link_set_has no_failover_links x y ≡ false
  pub kept : (links : List ℕ) (one other : ℕ) → IsFailoverDownLinkSet links → one ≢ other → one < 64 →
      other < 64 → IsFailoverDownLinkSet (with_failover_link links one other)
  pub added : (links : List ℕ) (one other x y : ℕ) → IsFailoverDownLinkSet links → one < 64 → other < 64 →
      link_set_has (with_failover_link links one other) x y ≡ (link_set_has links x y || is_failover_link_of one other x y)
  pub either_order : (links : List ℕ) (x y : ℕ) → link_set_has links x y ≡ link_set_has links y x
  -- sets of the same links are equal
  pub same : (a b : List ℕ) → IsFailoverDownLinkSet a → IsFailoverDownLinkSet b →
      ((x y : ℕ) → link_set_has a x y ≡ link_set_has b x y) → a ≡ b

pub record AdvertKnownLinkLaws : Type 0 where
  -- a link is known if both ends name each other
  pub known : (adverts : List (Option Advert)) (at near : ℕ) (down : List ℕ) (one other : ℕ) →
      one < 64 → other < 64 →
      has (slice_index (failover_known_links adverts at near down) one) other ≡
      is_known_route_link (neighbours_by_adverts adverts at near) down one other
  -- a link of the switch itself, by its own mask and the other's advert
  pub own : (adverts : List (Option Advert)) (at near : ℕ) (down : List ℕ) (other : ℕ) →
      length adverts ≡ 64 → at < 64 → other < 64 → at ≢ other →
      has (slice_index (failover_known_links adverts at near down) at) other ≡
      (has near other && advert_names_neighbour adverts other at && not (link_set_has down at other))
  -- a link elsewhere, by both adverts
  pub elsewhere : (adverts : List (Option Advert)) (at near : ℕ) (down : List ℕ) (one other : ℕ) →
      length adverts ≡ 64 → one < 64 → other < 64 → one ≢ other → one ≢ at → other ≢ at →
      has (slice_index (failover_known_links adverts at near down) one) other ≡
      (advert_names_neighbour adverts one other && advert_names_neighbour adverts other one
      && not (link_set_has down one other))
  pub either_end : (adverts : List (Option Advert)) (at near : ℕ) (down : List ℕ) (one other : ℕ) →
      has (slice_index (failover_known_links adverts at near down) one) other ≡
      has (slice_index (failover_known_links adverts at near down) other) one
  -- another switch is isolated if no known link ends at it
  pub isolated : (adverts : List (Option Advert)) (at target near : ℕ) (down : List ℕ) →
      length adverts ≡ 64 → IsTrue (is_failover_target_isolated adverts at target near down) ↔
      IsFailoverTargetIsolated (failover_known_links adverts at near down) at target

pub record RouteLaws : Type 0 where
  -- the function returns the defined route
  pub computed : (adverts : List (Option Advert)) (from : ℕ) (targets : List ℕ) (near : ℕ)
      (down : List ℕ) →
      IsRoute (failover_known_links adverts from near down) from targets
      (route_of adverts from targets near down)
  -- over the same links there is one route to the same targets
  pub unique : (links : List ℕ) (from : ℕ) (targets : List ℕ) (one other : Option (List ℕ)) →
      IsRoute links from targets one → IsRoute links from targets other → one ≡ other
  -- a path has distinct switches, so at most 64
  pub short : (links : List ℕ) (from target : ℕ) (path : List ℕ) → IsFailoverPath links from target path →
      IsRouteList path
  -- if a walk leads to the target, a path does too
  pub straightened : (links : List ℕ) (from target : ℕ) (rest : List ℕ) → length links ≡ 64 →
      from < 64 → FailoverLinksLeadTo links target from rest → IsFailoverReachable links from target
