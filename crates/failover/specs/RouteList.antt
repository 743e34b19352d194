-- One to 64 distinct switches, in 64 places.
use Rattle.std.specs.Prelude.{◌-◌, ◌<◌, ◌≡◌, ◌≤◌, All, List, drop, length, nat_eq, replicate, take, ℕ}
use Rattle.base.specs.Exports.{IsDistinct, filled-take, zero_filled_list}
use Rattle.failover.specs.declared.path.Route.TheInside.{Inside}

-- one or more distinct switches
pub record IsRouteList (route : List ℕ) : Type 0 where
  pub some : 0 < length route
  pub few : length route ≤ 64
  pub switches : All (λ x. x < 64) route
  pub distinct : IsDistinct nat_eq route

-- the list: the places before its length
abbrev pub first_route_switches : Inside → List ℕ
first_route_switches r = take r.len r.switches

-- of the 64 places, those beyond the list are 0
pub record IsFilledRouteList (r : Inside) : Type 0 where
  pub places : length r.switches ≡ 64
  pub few : r.len ≤ 64
  pub rest : drop r.len r.switches ≡ replicate (64 - r.len) 0
  pub list : IsRouteList (first_route_switches r)

-- this list, in 64 places
abbrev pub filled_route_list : List ℕ → Inside
filled_route_list xs = record { switches = zero_filled_list 64 xs; len = length xs }

-- the list of 64 places, put in 64 places, gives the same places
pub filled-first_route_switches : (r : Inside) → IsFilledRouteList r → filled_route_list (first_route_switches r) ≡ r
filled-first_route_switches r h =
    let held = filled-take 64 r.len r.switches h.places h.few h.rest in rw (held.1, held.0)
