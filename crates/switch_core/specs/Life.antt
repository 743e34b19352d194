-- What becomes of a switch when its links change, a cache entry expires, it crashes, or it boots.
use Rattle.std.specs.Prelude.{[], ◌+◌, Some, false, slice_set, true, ℕ}
use Rattle.failover.specs.Exports.{no_adverts}
use Rattle.failover.specs.declared.advert.Advert.{Advert}
use Rattle.switch_table.specs.Exports.{cache_after_clear, cache_after_expire}
use Rattle.switch_core.specs.State.{SwitchValue, own_advert}

-- its next own advert, of these neighbours
abbrev pub switch_next_advert : SwitchValue → ℕ → Advert
switch_next_advert s near = own_advert s.number s.boot (s.seq + 1) near

-- the switch after its usable links became these: it keeps its next advert
abbrev pub near_changed : SwitchValue → ℕ → SwitchValue
near_changed s near = record s {
  seq = s.seq + 1;
  database = slice_set s.database s.number (Some (switch_next_advert s near));
}

-- the cache entry at a place is removed
abbrev pub switch_entry_expired : SwitchValue → ℕ → SwitchValue
switch_entry_expired s place = record s { cache = cache_after_expire place s.cache }

-- closed, and without what it learnt: only its number, boot, cache capacity and count remain
abbrev pub switch_without_memory : SwitchValue → SwitchValue
switch_without_memory s = record s {
  is_open = false;
  stamp = 0;
  collected = 0;
  tables = [];
  cache = cache_after_clear s.cache;
  database = no_adverts;
  seq = 0;
}

abbrev pub crashed_switch : SwitchValue → SwitchValue
crashed_switch s = record (switch_without_memory s) { is_up = false }

-- up and closed, in its next boot
abbrev pub restarted_switch : SwitchValue → SwitchValue
restarted_switch s = record (switch_without_memory s) { is_up = true; boot = s.boot + 1 }
