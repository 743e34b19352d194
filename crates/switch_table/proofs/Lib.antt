mod CacheCarryShift
mod CacheSlotKeys
mod CacheSlotPushes
mod CacheLiveCounts
mod FirstCacheHits
mod CacheSlotHits
mod CacheSlotRemovals
pub mod CachePairs
pub mod CacheLemmas
pub mod CacheCarryLemmas
pub mod SwitchTableLemmas
