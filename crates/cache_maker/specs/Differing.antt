-- The bits by which rules differ from a header.
use Rattle.std.specs.Prelude.{◌<◌, ◌==◌, ◌^◌, ◌≡◌, Bool, List, bit_and, bit_xor, get_or, ℕ}
use Rattle.std.specs.Int.{bit_at}
use Rattle.ternary.specs.Exports.{WordValue}
use Rattle.policy_rules.specs.declared.rules.Rule.{Rule}

-- the bits that the word fixes to a value that h doesn't have
abbrev pub cache_widening_difference : ℕ → WordValue → ℕ
cache_widening_difference h word = bit_and (bit_xor h word.value) word.mask

-- the word that fixes these bits of h meets the other: h and the other differ in none of them
abbrev pub meets_widened_word : ℕ → ℕ → WordValue → Bool
meets_widened_word h fixed word = bit_and (cache_widening_difference h word) fixed == 0

abbrev pub rule_meets_widened_word : ℕ → ℕ → Rule → Bool
rule_meets_widened_word h fixed rule = meets_widened_word h fixed rule.word

-- of the fixed bits, those whose reasons don't have the bit b
pub record AreFixedBitsWithoutReason (fixed : ℕ) (reasons : List ℕ) (b stays : ℕ) : Type 0 where
  pub small : stays < 2 ^ 104
  pub gone : (n : ℕ) → bit_at stays n ≡ 1
      → (bit_at fixed n ≡ 1) × (bit_at (get_or reasons n 0) b ≡ 0)
  pub stay : (n : ℕ) → bit_at fixed n ≡ 1 → bit_at (get_or reasons n 0) b ≡ 0 → bit_at stays n ≡ 1
