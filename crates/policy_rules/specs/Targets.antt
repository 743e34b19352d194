-- One to four switches, in four places.
use Rattle.std.specs.Prelude.{◌-◌, ◌<◌, ◌≡◌, ◌≤◌, List, drop, length, replicate, take, ℕ}
use Rattle.base.specs.Exports.{filled-take, zero_filled_list}
use Rattle.policy_rules.specs.declared.targets.Targets.TheInside.{Inside}

-- the list has one to four of the four places; the others are 0
pub record ArePolicyTargetsFilled (t : Inside) : Type 0 where
  pub places : length t.places ≡ 4
  pub some : 0 < t.len
  pub few : t.len ≤ 4
  pub rest : drop t.len t.places ≡ replicate (4 - t.len) 0

-- this list, in four places
abbrev pub policy_filled_targets : List ℕ → Inside
policy_filled_targets xs = record { places = zero_filled_list 4 xs; len = length xs }

-- the list of four places, put in four places, gives the same places
pub policy_filled_targets-take : (t : Inside) → ArePolicyTargetsFilled t
    → policy_filled_targets (take t.len t.places) ≡ t
policy_filled_targets-take t h =
    let held = filled-take 4 t.len t.places h.places h.few h.rest in rw (held.1, held.0)
