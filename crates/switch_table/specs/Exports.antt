-- The definitions of this crate that others use, passed on from the files that define them.
pub use Rattle.switch_table.specs.Cache.{CacheValue, HaveDistinctCacheKeys, IsCache, cache_after_accept, cache_after_clear, cache_after_expire, cache_after_raise, first_cache_entry, newest_cache_entries}
unfoldable pub use Rattle.switch_table.specs.Cache.{same_cache_key}
pub use Rattle.switch_table.specs.CacheLaws.{WasCacheEntryCarried}
pub use Rattle.switch_table.specs.Carried.{cache_after_carry, cache_all_touched, carried_cache_entry, cache_few_touched, is_cache_entry_carried, cache_word_meets_touched, cache_entry_under}
pub use Rattle.switch_table.specs.Keys.{HaveOwnCacheKeys, KeyedCacheEntry, cache_has_key, is_carried_cache_key, is_cache_key_hit, kept_cache_entries, kept_cache_entry, cache_key_of, cache_key_under, keyed_cache_entry_of}
unfoldable pub use Rattle.switch_table.specs.Keys.{equal_cache_keys}
pub use Rattle.switch_table.specs.Live.{AreCacheLiveBlocks, AreCacheLiveCounts, CountLiveCachePlaces, IsNthLiveCacheFlag, cache_live_count_set}
pub use Rattle.switch_table.specs.Lookup.{AllSwitchTableLookupsDecide, SwitchTableFindsFirstMatch, SwitchTablesReachFirstMatch, switch_table_authority_of, switch_table_lookup_in, switch_table_lookup_of, switch_table_lookup_in_plan, switch_table_redirect_of, switch_table_lookup}
pub use Rattle.switch_table.specs.Masks.{HasCacheMaskIn, HasCacheMaskOf}
pub use Rattle.switch_table.specs.Pairs.{CacheEntriesAreMasked, AreCacheEntriesUpTo, CacheKeysHaveVersions, CacheHoldsEntries}
pub use Rattle.switch_table.specs.Slots.{AreCacheSlots, IsCacheSlotNamed, SlotPair, cache_live_flags_of, is_live_cache_slot, killed_cache_slot, live_cache_pair, live_cache_pairs}
unfoldable pub use Rattle.switch_table.specs.Slots.{AreCacheSlotsNamed}
pub use Rattle.switch_table.specs.Tables.{AreSoundSwitchTables, SwitchTablePartitionDecidesAll, HostedPolicyPartition, switch_table_part_has_target, switch_table_part_of, switch_table_part_row_has, switch_table_row_of_hosted, tables_of}
