-- What is true of the rules at a node of a tree.
use Rattle.std.specs.Prelude.{◌<◌, ◌≤◌, All, IsTrue, List, length, ℕ}
use Rattle.ternary.specs.Exports.{IsWord, WordValue, word_covers_of, is_word_bit_fixed}
use Rattle.policy_rules.specs.declared.rules.Rule.{Rule}

-- the region leaves no bit free: it is one header
abbrev pub IsCutRegionOneHeader : WordValue → Type 0
IsCutRegionOneHeader region = (bit : ℕ) → bit < 104 → IsTrue (is_word_bit_fixed region bit)

-- the region holds each header of the rule
abbrev pub LiesInCutRegion : WordValue → Rule → Type 0
LiesInCutRegion region rule = IsTrue (word_covers_of region rule.word)

-- the words of the rules satisfy `IsWord`
abbrev pub AreCutRuleWords : List Rule → Type 0
AreCutRuleWords rules = All (λ rule. IsWord rule.word) rules

-- each rule lies within the region, and one header has at most one rule
pub record AreCutNodeRules (rules : List Rule) (region : WordValue) : Type 0 where
  pub whole : IsWord region
  pub words : AreCutRuleWords rules
  pub within : All (LiesInCutRegion region) rules
  pub ended : IsCutRegionOneHeader region → length rules ≤ 1
