-- The links that a switch knows: those that both ends name (RFC 2328, section 16.1). Its own
-- neighbours are those that it sees itself.
use Rattle.std.specs.Prelude.{[], ◌&&◌, ◌<◌, ◌==◌, ◌^◌, ◌∷◌, ◌≡◌, Bool, IsTrue, List, None, Option, Some, bit_or, map, max, min, nat_eq, not, replicate, slice_index, slice_set, ℕ}
use Rattle.base.specs.Exports.{IsDistinct, has, small_number_mask, switches}
use Rattle.failover.specs.declared.advert.Advert.{Advert}

-- the link of two switches, in either order, is in the set
unfoldable pub link_set_has : List ℕ → ℕ → ℕ → Bool
link_set_has links one other = has (slice_index links (min one other)) (max one other)

abbrev pub no_failover_links : List ℕ
no_failover_links = replicate 64 0

-- the set with the link of two switches added
unfoldable pub with_failover_link : List ℕ → ℕ → ℕ → List ℕ
with_failover_link links one other = let low =
    min one other in slice_set links low (bit_or (slice_index links low) (2 ^ max one other))

abbrev pub neighbours_named_by_advert : Option Advert → ℕ
neighbours_named_by_advert None = 0
neighbours_named_by_advert (Some advert) = advert.up

-- the neighbours that each switch names: `at` those that it sees, every other those of its advert
unfoldable pub neighbours_by_adverts : List (Option Advert) → ℕ → ℕ → List ℕ
neighbours_by_adverts adverts at near = slice_set (map neighbours_named_by_advert adverts) at near

-- two different switches name each other, and their link isn't in the set of those found down
unfoldable pub is_known_route_link : List ℕ → List ℕ → ℕ → ℕ → Bool
is_known_route_link neighbours down one other =
    not (one == other) && has (slice_index neighbours one) other && has
    (slice_index neighbours other) one && not (link_set_has down one other)

-- the switches to which this one has a link
abbrev pub route_links_at : List ℕ → List ℕ → ℕ → ℕ
route_links_at neighbours down one = small_number_mask (is_known_route_link neighbours down one)

-- the links that `at` knows: for each switch the switches to which it has a link
unfoldable pub failover_known_links : List (Option Advert) → ℕ → ℕ → List ℕ → List ℕ
failover_known_links adverts at near down = let neighbours =
    neighbours_by_adverts adverts at near in map (route_links_at neighbours down) switches

-- mask `one` of the links has the other switch
abbrev pub AreJoinedByFailoverLinks : List ℕ → ℕ → ℕ → Type 0
AreJoinedByFailoverLinks links one other = IsTrue (has (slice_index links one) other)

-- a walk from a switch over these, each joined to the one before it, to the target
abbrev pub FailoverLinksLeadTo : List ℕ → ℕ → ℕ → List ℕ → Type 0
FailoverLinksLeadTo links target at [] = at ≡ target
FailoverLinksLeadTo links target at (next ∷ rest) =
    (next < 64) × AreJoinedByFailoverLinks links at next × FailoverLinksLeadTo links target next rest

-- a path: a walk of distinct switches from one to the other
unfoldable pub IsFailoverPath : List ℕ → ℕ → ℕ → List ℕ → Type 0
IsFailoverPath links from target [] = ⊥
IsFailoverPath links from target (first ∷ rest) =
    (first ≡ from) × (first < 64) × FailoverLinksLeadTo links target first rest × IsDistinct nat_eq (first ∷ rest)

-- some path leads to the target
unfoldable pub IsFailoverReachable : List ℕ → ℕ → ℕ → Type 0
IsFailoverReachable links from target = (path : List ℕ) × IsFailoverPath links from target path
