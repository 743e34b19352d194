-- One switch of the data plane, as contracts see it, and what is read off it. It has cached rules,
-- authority rules and partition rules (Yu, Rexford, Freedman and Wang, "Scalable Flow-Based
-- Networking with DIFANE", SIGCOMM 2010). Each is of a version of a two-phase update (Reitblatt,
-- Foster, Rexford, Schlesinger and Walker, "Abstractions for Network Update", SIGCOMM 2012).
use Rattle.std.specs.Prelude.{[], ◌&&◌, ◌+◌, ◌-◌, ◌<◌, ◌==◌, ◌^◌, ◌∷◌, ◌≡◌, All, Bool, IsFalse, List, Option, Some, find, is_some, min, true, unwrap_or, ℕ}
use Rattle.failover.specs.Exports.{held_advert, is_newer_advert}
use Rattle.failover.specs.declared.advert.Advert.{Advert}
use Rattle.switch_table.specs.Exports.{AreSoundSwitchTables, CacheValue}
use Rattle.switch_table.specs.declared.tables.Tables.{Tables}
use Rattle.switch_core.specs.declared.switch.Switch.TheInside.{Inside}

pub record SwitchValue : Type 0 where
  -- its place in the network
  pub number : ℕ
  pub boot : ℕ
  pub is_up : Bool
  pub is_open : Bool
  -- the version by which it looks headers up
  pub stamp : ℕ
  -- the greatest version of which it dropped the tables
  pub collected : ℕ
  -- its tables, in the order in which they came
  pub tables : List Tables
  pub cache : CacheValue
  -- the newest advert of each origin that it heard, by the origin
  pub database : List (Option Advert)
  -- the sequence number of its own newest advert in this boot
  pub seq : ℕ
  -- how many packet calls it counted
  pub handled : ℕ

abbrev pub switch_value : Inside → SwitchValue
switch_value s = record {
  number = s.number;
  boot = s.boot;
  is_up = s.is_up;
  is_open = s.is_open;
  stamp = s.stamp;
  collected = s.collected;
  tables = s.tables.items;
  cache = s.cache;
  database = s.database;
  seq = s.seq;
  handled = s.handled;
}

-- it looks headers up: it is up, and was opened in this boot
abbrev pub serves : SwitchValue → Bool
serves s = s.is_up && s.is_open

-- the tables of a version, if it has them
abbrev pub switch_held_tables : SwitchValue → ℕ → Option Tables
switch_held_tables s version = find (λ tables. tables.version == version) s.tables

abbrev pub holds_version : SwitchValue → ℕ → Bool
holds_version s version = is_some (switch_held_tables s version)

abbrev pub no_switch_tables : Tables
no_switch_tables = record { version = 0; parts = []; auth = [] }

-- the tables of its stamp, which a switch that serves has
abbrev pub switch_stamp_tables : SwitchValue → Tables
switch_stamp_tables s = unwrap_or (switch_held_tables s s.stamp) no_switch_tables

-- one more packet call; the count stops at its greatest value
abbrev pub switch_call_counted : SwitchValue → SwitchValue
switch_call_counted s = record s { handled = min (s.handled + 1) (2 ^ 64 - 1) }

abbrev pub own_advert : ℕ → ℕ → ℕ → ℕ → Advert
own_advert number boot seq up = record { origin = number; boot = boot; seq = seq; up = up }

-- no advert of the switch is newer than this boot and seq
abbrev pub HasSwitchAdvertUpTo : List (Option Advert) → ℕ → ℕ → ℕ → Type 0
HasSwitchAdvertUpTo adverts number boot seq =
    (advert : Advert) → held_advert adverts number ≡ Some advert
    → IsFalse (is_newer_advert advert (own_advert number boot seq 0))

-- what is true of each switch
pub record IsSoundSwitch (s : SwitchValue) : Type 0 where
  pub number : s.number < 64
  pub sound : All AreSoundSwitchTables s.tables
  pub own : HasSwitchAdvertUpTo s.database s.number s.boot s.seq

-- a switch that has just begun its first boot with tables of version 1
abbrev pub new_switch : ℕ → ℕ → Tables → List (Option Advert) → SwitchValue
new_switch number capacity tables database = record {
  number = number;
  boot = 1;
  is_up = true;
  is_open = true;
  stamp = 1;
  collected = 0;
  tables = tables ∷ [];
  cache = record { entries = []; capacity = capacity };
  database = database;
  seq = 1;
  handled = 0;
}
