-- Pairs of a cache among dead ones: the slots of a map.
use Rattle.std.specs.Prelude.{[], if◌then◌else◌, ◌+◌, ◌-◌, ◌<◌, ◌^◌, ◌∷◌, ◌≡◌, ◌≤◌, ◌⊎◌, All, Bool, IsFalse, List, None, Option, Some, false, filter_map, length, map, suc, take, ℕ, ⊤}
use Rattle.switch_table.specs.Keys.{KeyedCacheEntry}
use Rattle.switch_table.specs.Live.{AreCacheLiveCounts}
use Rattle.switch_table.specs.declared.key.CacheKey.{CacheKey}
use Rattle.switch_table.specs.declared.key.Slot.{Slot}
use Rattle.switch_table.specs.declared.live.LiveCacheCounts.{LiveCacheCounts}

abbrev pub SlotPair : Type 0
SlotPair = CacheKey × Slot

-- the pair of a live slot
abbrev pub live_cache_pair : SlotPair → Option KeyedCacheEntry
live_cache_pair slot = if slot.1.is_live then Some (slot.0, slot.1.learnt) else None

abbrev pub live_cache_pairs : List SlotPair → List KeyedCacheEntry
live_cache_pairs slots = filter_map live_cache_pair slots

abbrev pub is_live_cache_slot : SlotPair → Bool
is_live_cache_slot slot = slot.1.is_live

abbrev pub cache_live_flags_of : List SlotPair → List Bool
cache_live_flags_of slots = map is_live_cache_slot slots

-- the slot after it is removed: dead
abbrev pub killed_cache_slot : SlotPair → SlotPair
killed_cache_slot slot = (slot.0, record slot.1 { is_live = false })

-- the key is made of a version and a shift; that of a dead slot may be made of its place instead
abbrev pub IsCacheSlotNamed : ℕ → SlotPair → Type 0
IsCacheSlotNamed place slot =
    (slot.0.number < 2 ^ 33) ⊎ ((slot.0.number + place ≡ 2 ^ 64 - 1) × IsFalse (is_live_cache_slot slot))

-- the same is true of the keys of slots from this place on
unfoldable pub AreCacheSlotsNamed : ℕ → List SlotPair → Type 0
AreCacheSlotsNamed place [] = ⊤
AreCacheSlotsNamed place (slot ∷ slots) = IsCacheSlotNamed place slot × AreCacheSlotsNamed (suc place) slots

-- the slots before `first` are dead, and the live ones are counted
pub record AreCacheSlots (live : LiveCacheCounts) (first : ℕ) (slots : List SlotPair) : Type 0 where
  pub within : first ≤ length slots
  pub dead : All (λ slot. IsFalse (is_live_cache_slot slot)) (take first slots)
  pub counted : AreCacheLiveCounts live (cache_live_flags_of slots)
  pub named : AreCacheSlotsNamed 0 slots
