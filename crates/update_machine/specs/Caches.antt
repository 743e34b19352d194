-- The cache of a switch, and what it says about a header (Yu, Rexford, Freedman and Wang,
-- "Scalable Flow-Based Networking with DIFANE", SIGCOMM 2010).
use Rattle.std.specs.Prelude.{[], if◌then◌else◌, ◌++◌, ◌==◌, ◌∷◌, List, nat_lt, ℕ}
use Rattle.base.specs.Exports.{option_map_or}
use Rattle.ctrl_msg.specs.declared.message.Body.{Body}
use Rattle.ctrl_msg.specs.declared.message.Body.TheVariants.{OpenAt, Stamp, CacheRule}
use Rattle.five_tuple.specs.declared.header.Header.{Header}
use Rattle.ternary.specs.Exports.{WordValue}
use Rattle.switch_table.specs.Exports.{CacheValue, cache_after_accept, cache_after_carry, cache_after_clear, cache_after_expire, cache_after_raise, switch_table_lookup_of}
use Rattle.switch_table.specs.declared.search.Found.{Found}
use Rattle.journal.specs.declared.item.Item.{Item}
use Rattle.journal.specs.declared.item.Item.TheVariants as item
use Rattle.update_machine.specs.Boots.{journal_body_to_switch}
use Rattle.update_machine.specs.Folds.{journal_folded_value}
use Rattle.update_machine.specs.Setting.{Setting}
use Rattle.update_machine.specs.Touched.{machine_touched_by}
use Rattle.update_machine.specs.Versions.{journal_stamp_of, journal_tables_at}

-- a stamp that rises removes the entries of lower versions
abbrev pub machine_cache_raised_from : ℕ → ℕ → CacheValue → CacheValue
machine_cache_raised_from earlier stamp cache = if nat_lt earlier stamp then cache_after_raise stamp cache else cache

-- a stamp that rises to a version carries the entries to it, except those that its change touches
abbrev pub machine_cache_carried_from : List WordValue → ℕ → ℕ → CacheValue → CacheValue
machine_cache_carried_from touched earlier version cache =
    if nat_lt earlier version then cache_after_carry version touched cache else cache

-- the cache after a delivered body, under the stamps before and after its delivery: a cache rule
-- is added, a switch that opens may raise its stamp, and so may one that is told to stamp
abbrev pub machine_cache_after : (ℕ → List WordValue) → ℕ → ℕ → ℕ → CacheValue → Body → CacheValue
machine_cache_after touched_of earlier stamp number cache (CacheRule version word rule action) =
    cache_after_accept stamp (record {
      version = version;
      word = word;
      rule = rule;
      action = action;
      message = number;
    }) cache
machine_cache_after touched_of earlier stamp number cache (OpenAt boot version) =
    machine_cache_raised_from earlier stamp cache
machine_cache_after touched_of earlier stamp number cache (Stamp boot version touched) =
    machine_cache_carried_from (touched_of version) earlier version cache
machine_cache_after touched_of earlier stamp number cache _ = cache

abbrev pub changes_journal_cache : Setting → ℕ → List Item → CacheValue → Item → CacheValue
changes_journal_cache setting s before cache (item.Down switch) = if switch == s then cache_after_clear cache else cache
changes_journal_cache setting s before cache (item.Booted switch boot) =
    if switch == s then cache_after_clear cache else cache
changes_journal_cache setting s before cache (item.Expired switch place message) =
    if switch == s then cache_after_expire place cache else cache
changes_journal_cache setting s before cache (item.Delivered number) =
    let stamp = journal_stamp_of (before ++ item.Delivered number ∷ []) s in
    option_map_or
    (machine_cache_after (machine_touched_by setting before) (journal_stamp_of before s) stamp number cache)
    (journal_body_to_switch before s number)
    cache
changes_journal_cache setting s before cache _ = cache

-- the cache of the switch: what its deliveries and expiries made of the empty one in its boot
unfoldable pub journal_cache_of : Setting → List Item → ℕ → CacheValue
journal_cache_of setting journal s =
    journal_folded_value (changes_journal_cache setting s) (record { entries = []; capacity = setting.net.cache }) journal

-- what the cache of the switch and the tables of its stamp say about the header
unfoldable pub machine_lookup_at : Setting → List Item → ℕ → Header → Found
machine_lookup_at setting journal s header =
    switch_table_lookup_of (journal_cache_of setting journal s).entries
    (journal_tables_at setting journal (journal_stamp_of journal s) s) header
