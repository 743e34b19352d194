-- Link-state adverts, and the newest of each origin (OSPF, RFC 2328, section 13.1, with a boot
-- number instead of its ages).
use Rattle.std.specs.Prelude.{if◌then◌else◌, ◌&&◌, ◌==◌, ◌||◌, Bool, List, None, Option, Some, fold, map, nat_lt, replicate, slice_index, slice_index_or, slice_set, true, ℕ}
use Rattle.base.specs.Exports.{option_map_or, switches}
use Rattle.failover.specs.declared.advert.Advert.{Advert}

-- (boot, seq) is greater, the boot compared first
abbrev pub is_newer_advert : Advert → Advert → Bool
is_newer_advert one other = nat_lt other.boot one.boot ||
    ((other.boot == one.boot) && nat_lt other.seq one.seq)

-- the advert of an origin, if adverts are at the places of their origins
abbrev pub held_advert : List (Option Advert) → ℕ → Option Advert
held_advert adverts origin = slice_index_or adverts origin None

-- its origin is below 64, and there is none of that origin, or this one is newer
unfoldable pub is_advert_news : List (Option Advert) → Advert → Bool
is_advert_news adverts advert = nat_lt advert.origin 64 && option_map_or (is_newer_advert advert)
    (held_advert adverts advert.origin) true

-- the adverts after this one was heard
unfoldable pub adverts_after_hearing : List (Option Advert) → Advert → List (Option Advert)
adverts_after_hearing adverts advert =
    if is_advert_news adverts advert then slice_set adverts advert.origin (Some advert) else adverts

-- the adverts after these were heard, one after another
abbrev pub adverts_after_hearing_all : List (Option Advert) → List Advert → List (Option Advert)
adverts_after_hearing_all adverts heard = fold adverts_after_hearing adverts heard

abbrev pub no_adverts : List (Option Advert)
no_adverts = replicate 64 None

-- the first advert of a switch with these neighbours
abbrev pub first_advert : ℕ → ℕ → Advert
first_advert origin up = record { origin = origin; boot = 1; seq = 1; up = up }

-- the first advert of a switch, if its number is below this one
abbrev pub first_failover_advert_below : List ℕ → ℕ → ℕ → Option Advert
first_failover_advert_below near count origin = if nat_lt origin count then Some
    (first_advert origin (slice_index near origin)) else None

-- the first adverts of the switches below a number
unfoldable pub first_adverts : List ℕ → ℕ → List (Option Advert)
first_adverts near count = map (first_failover_advert_below near count) switches
