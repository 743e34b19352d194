-- The word of a cache rule, which has to decide as the rules that it replaces: the independent
-- rules of Yu, Rexford, Freedman and Wang, "Scalable Flow-Based Networking with DIFANE". The order
-- of the bits is our own.
use Rattle.std.specs.Prelude.{if◌then◌else◌, ◌&&◌, All, Bool, IsNone, IsSomeAnd, IsTrue, List, false, is_none, slice_get, suc, take, zero, ℕ}
use Rattle.std.specs.List.{list_all}
use Rattle.std.specs.Option.{option_map_or}
use Rattle.ternary.specs.Exports.{WordValue, word_covers_of, exact_word, ternary_with_bit_freed, word_meet_of}
use Rattle.policy_rules.specs.declared.rules.Rule.{Rule}

-- the region and the rule at this place cover the word, and it meets no word of an earlier rule
pub record IsIndependentCacheWord (region : WordValue) (rules : List Rule) (index : ℕ)
    (word : WordValue) : Type 0 where
  pub in_region : IsTrue (word_covers_of region word)
  pub in_rule : IsSomeAnd (slice_get rules index) (λ rule. IsTrue (word_covers_of rule.word word))
  pub earlier : All (λ rule. IsNone (word_meet_of word rule.word)) (take index rules)

-- the test that a word meets no word of these rules
unfoldable pub is_cache_word_apart : WordValue → List Rule → Bool
is_cache_word_apart word rules = list_all (λ rule. is_none (word_meet_of word rule.word)) rules

-- the test that a word is independent
unfoldable pub is_cache_word_independent : WordValue → List Rule → ℕ → WordValue → Bool
is_cache_word_independent region rules index word =
    word_covers_of region word && option_map_or (λ rule. word_covers_of rule.word word)
    (slice_get rules index) false
    && is_cache_word_apart word (take index rules)

-- the word with this bit freed, if that is independent
abbrev pub with_cache_bit_freed : WordValue → List Rule → ℕ → ℕ → WordValue → WordValue
with_cache_bit_freed region rules index bit word = if is_cache_word_independent region rules index (ternary_with_bit_freed word bit)
    then ternary_with_bit_freed word bit else word

-- the word of the header h, its bits below n freed one after another
unfoldable pub widening_of : ℕ → WordValue → List Rule → ℕ → ℕ → WordValue
widening_of h region rules index zero = exact_word h
widening_of h region rules index (suc n) = with_cache_bit_freed region rules index n
    (widening_of h region rules index n)

-- the word of h, all its 104 bits freed one after another, if they can be
unfoldable pub widen : ℕ → WordValue → List Rule → ℕ → WordValue
widen h region rules index = widening_of h region rules index 104
