-- How many flags of a list are set, by blocks of places.
use Rattle.std.specs.Prelude.{◌*◌, ◌<◌, ◌≡◌, ◌≤◌, Bool, List, Some, count_by, drop, length, slice_get, slice_index_or, take, true, ℕ}
use Rattle.switch_table.specs.declared.live.LiveCacheCounts.{LiveCacheCounts}

abbrev pub cache_live_count_set : List Bool → ℕ
cache_live_count_set flags = count_by (λ flag. flag) flags

-- each flag is in a block of 64, and the counts are how many flags of each block are set
pub record AreCacheLiveBlocks (counts : List ℕ) (flags : List Bool) : Type 0 where
  pub room : length flags ≤ 64 * length counts
  pub each : (k : ℕ) → k < length counts →
      slice_index_or counts k 0 ≡ cache_live_count_set (take 64 (drop (64 * k) flags))

-- there are counts for this many places
abbrev pub CountLiveCachePlaces : LiveCacheCounts → ℕ → Type 0
CountLiveCachePlaces live places = places ≤ 64 * length live.blocks.items

-- the counts are those of these flags
pub record AreCacheLiveCounts (live : LiveCacheCounts) (flags : List Bool) : Type 0 where
  pub all : live.all ≡ cache_live_count_set flags
  pub blocks : AreCacheLiveBlocks live.blocks.items flags

-- the flag at this place is set, and so are this many before it
pub record IsNthLiveCacheFlag (before place : ℕ) (flags : List Bool) : Type 0 where
  pub is_set : slice_get flags place ≡ Some true
  pub earlier : cache_live_count_set (take place flags) ≡ before
