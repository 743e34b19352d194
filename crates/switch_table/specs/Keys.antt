-- Cache entries as a map has them: what was learnt, under a key.
use Rattle.std.specs.Prelude.{◌&&◌, ◌+◌, ◌-◌, ◌==◌, Bool, List, bit_and, map, not, ℕ}
use Rattle.base.specs.Exports.{IsDistinct, keys_of, list_any}
use Rattle.ternary.specs.Exports.{WordValue, word_eq}
use Rattle.switch_table.specs.Carried.{cache_word_meets_touched}
use Rattle.switch_table.specs.declared.cache.CacheEntry.{CacheEntry}
use Rattle.switch_table.specs.declared.key.CacheKey.{CacheKey}
use Rattle.switch_table.specs.declared.key.LearntEntry.{LearntEntry}

abbrev pub KeyedCacheEntry : Type 0
KeyedCacheEntry = CacheKey × LearntEntry

-- the key of an entry, if this much is added to its version
abbrev pub cache_key_of : ℕ → CacheEntry → CacheKey
cache_key_of shift entry = record { number = entry.version + shift; word = entry.word }

abbrev pub cache_learnt_of : CacheEntry → LearntEntry
cache_learnt_of entry = record { rule = entry.rule; action = entry.action; message = entry.message }

abbrev pub keyed_cache_entry_of : ℕ → CacheEntry → KeyedCacheEntry
keyed_cache_entry_of shift entry = (cache_key_of shift entry, cache_learnt_of entry)

-- the entry of a pair, if this much was added to its version
abbrev pub kept_cache_entry : ℕ → KeyedCacheEntry → CacheEntry
kept_cache_entry shift pair = record {
  version = pair.0.number - shift;
  word = pair.0.word;
  rule = pair.1.rule;
  action = pair.1.action;
  message = pair.1.message;
}

abbrev pub kept_cache_entries : ℕ → List KeyedCacheEntry → List CacheEntry
kept_cache_entries shift pairs = map (kept_cache_entry shift) pairs

unfoldable pub equal_cache_keys : CacheKey → CacheKey → Bool
equal_cache_keys a b = (a.number == b.number) && word_eq a.word b.word

-- no two pairs have the same key
abbrev pub HaveOwnCacheKeys : List KeyedCacheEntry → Type 0
HaveOwnCacheKeys pairs = IsDistinct equal_cache_keys (keys_of pairs)

abbrev pub cache_has_key : CacheKey → List KeyedCacheEntry → Bool
cache_has_key key pairs = list_any (λ pair. equal_cache_keys key pair.0) pairs

-- the key of this number whose word has this one's mask and holds the header
abbrev pub cache_key_under : ℕ → ℕ → WordValue → CacheKey
cache_key_under number header mask = record {
  number = number;
  word = record { value = bit_and header mask.mask; mask = mask.mask };
}

-- the key is that of this number and header under one of these masks
abbrev pub is_cache_key_hit : ℕ → ℕ → List WordValue → CacheKey → Bool
is_cache_key_hit number header masks key =
    list_any (λ mask. equal_cache_keys (cache_key_under number header mask) key) masks

-- the key has this number, and its word meets no touched word
abbrev pub is_carried_cache_key : ℕ → List WordValue → CacheKey → Bool
is_carried_cache_key number touched key = (key.number == number) && not (cache_word_meets_touched touched key.word)
