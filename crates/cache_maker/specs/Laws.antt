-- The laws of independent words and of `widen`: a function of `src` ensures each record of laws.
use Rattle.std.specs.Prelude.{◌<◌, ◌^◌, ◌↔◌, ◌≡◌, All, IsTrue, List, Some, position, ℕ}
use Rattle.ternary.specs.Exports.{IsWord, WordValue, word_covers_of, ternary_with_bit_freed, holds, is_word_bit_fixed}
use Rattle.policy_rules.specs.declared.rules.Rule.{Rule}
use Rattle.policy_rules.specs.Exports.{is_held_by_policy_rule}
use Rattle.cache_maker.specs.Independent.{IsIndependentCacheWord, is_cache_word_independent, widen}

pub record IndependentCacheWordLaws : Type 0 where
  pub test : (region : WordValue) (rules : List Rule) (index : ℕ) (word : WordValue)
      → IsTrue (is_cache_word_independent region rules index word) ↔ IsIndependentCacheWord region rules index word
  -- whatever header the word holds, this rule is the first to hold it
  pub first_hit : (region : WordValue) (rules : List Rule) (index : ℕ) (word : WordValue) (h : ℕ)
      → IsIndependentCacheWord region rules index word → IsTrue (holds word h) →
      position (is_held_by_policy_rule h) rules ≡ Some index
  pub within : (region : WordValue) (rules : List Rule) (index : ℕ) (word : WordValue) (h : ℕ)
      → IsIndependentCacheWord region rules index word → IsTrue (holds word h) → IsTrue (holds region h)
  -- a smaller word is independent too
  pub smaller : (region : WordValue) (rules : List Rule) (index : ℕ) (word part : WordValue)
      → IsTrue (word_covers_of word part) → IsIndependentCacheWord region rules index word →
      IsIndependentCacheWord region rules index part

-- the header is in the region, and the rule at this place is the first to hold it
pub record IsDecidedBeforeWidening (h : ℕ) (region : WordValue) (rules : List Rule) (index : ℕ) : Type 0 where
  pub bound : h < 2 ^ 104
  pub region_word : IsWord region
  pub words : All (λ (rule : Rule). IsWord rule.word) rules
  pub held : IsTrue (holds region h)
  pub first_hit : position (is_held_by_policy_rule h) rules ≡ Some index

-- an independent word that holds the header, and none of whose fixed bits can be freed
pub record IsWidestCacheWord (h : ℕ) (region : WordValue) (rules : List Rule) (index : ℕ)
    (word : WordValue) : Type 0 where
  pub is_word : IsWord word
  pub header : IsTrue (holds word h)
  pub independent : IsIndependentCacheWord region rules index word
  pub widest : (bit : ℕ) → bit < 104 → IsTrue (is_word_bit_fixed word bit)
      → ¬ IsIndependentCacheWord region rules index (ternary_with_bit_freed word bit)

-- what `widen` ensures of its result, for proofs in which no call runs
pub record WidenLaws : Type 0 where
  pub widest : (h : ℕ) (region : WordValue) (rules : List Rule) (index : ℕ)
      → IsDecidedBeforeWidening h region rules index → IsWidestCacheWord h region rules index (widen h region rules index)
