-- The list of a policy's rules: its rows by falling priority, each as words of a ternary memory.
use Rattle.std.specs.Prelude.{[], ◌*◌, ◌++◌, ◌<◌, ◌==◌, ◌^◌, ◌∷◌, ◌≡◌, All, List, None, Some, filter, flat_map, length, map, slice_index_or, suc, sum_by, zero, ℕ}
use Rattle.base.specs.Exports.{enumerate_from}
use Rattle.five_tuple.specs.Exports.{port_range_cover_of}
use Rattle.ternary.specs.Exports.{IsWord, WordValue, any_word}
use Rattle.policy_rules.specs.Scan.{policy_hit_of}
use Rattle.policy_rules.specs.Words.{words_of_policy_row}
use Rattle.policy_rules.specs.declared.policy.Row.{Row}
use Rattle.policy_rules.specs.declared.policy.Hit.{Hit}
use Rattle.policy_rules.specs.declared.policy.Action.TheVariants.{Drop}
use Rattle.policy_rules.specs.declared.rules.Rule.{Rule}
use Rattle.policy_rules.specs.declared.rule_list.TooManyWords.{TooManyWords}

-- the rows whose priority is below this one, by falling priority
unfoldable pub policy_rows_falling_below : ℕ → List Row → List Row
policy_rows_falling_below zero rows = []
policy_rows_falling_below (suc priority) rows =
    filter (λ row. row.priority == priority) rows ++ policy_rows_falling_below priority rows

-- the rows by falling priority, which has 32 bits
unfoldable pub policy_rows_by_falling_priority : List Row → List Row
policy_rows_by_falling_priority rows = policy_rows_falling_below (2 ^ 32) rows

-- words, with what the row does with their headers
abbrev pub policy_words_with_hit : Row → List WordValue → List (WordValue × Hit)
policy_words_with_hit row words = map (λ word. (word, policy_hit_of (Some row))) words

-- the words of the row, with what it does with their headers
abbrev pub policy_row_word_hits : Row → List (WordValue × Hit)
policy_row_word_hits row = policy_words_with_hit row (words_of_policy_row row)

-- a word and what becomes of its headers, as the rule of a rank
abbrev pub ranked_policy_rule : ℕ × (WordValue × Hit) → Rule
ranked_policy_rule (rank, entry) =
    record { word = entry.0; rank = rank; rule = entry.1.rule; action = entry.1.action }

-- the entries as rules, with ranks from this one on
unfoldable pub policy_rules_ranked_from : ℕ → List (WordValue × Hit) → List Rule
policy_rules_ranked_from rank entries = map ranked_policy_rule (enumerate_from rank entries)

-- the new rules are the old ones and after them these entries, each ranked by its place
abbrev pub AppendsRankedPolicyRules : List Rule → List Rule → List (WordValue × Hit) → Type 0
AppendsRankedPolicyRules old new entries = new ≡ old ++ policy_rules_ranked_from (length old) entries

-- the entries of rows, and last the default, whose word holds each header
abbrev pub policy_hits_with_default : List Row → List (WordValue × Hit)
policy_hits_with_default rows = flat_map policy_row_word_hits rows ++ (any_word, policy_hit_of None) ∷ []

-- the rules of these rows: each entry has its place as its rank
unfoldable pub policy_rules_of : List Row → List Rule
policy_rules_of rows = policy_rules_ranked_from 0 (policy_hits_with_default (policy_rows_by_falling_priority rows))

-- how many words a row has
abbrev pub policy_row_word_count : Row → ℕ
policy_row_word_count row = length (port_range_cover_of row.sport) * length (port_range_cover_of row.dport)

-- how many words the rows have together
abbrev pub policy_row_word_total : List Row → ℕ
policy_row_word_total rows = sum_by policy_row_word_count rows

-- why rows have no list of rules: they have too many words
abbrev pub RefusesPolicyRuleList : List Row → TooManyWords → Type 0
RefusesPolicyRuleList rows many = (many.words ≡ policy_row_word_total rows) × (4096 < many.words)

-- the rule for headers that no row matches
abbrev pub policy_default_rule : ℕ → Rule
policy_default_rule rank = record { word = any_word; rank = rank; rule = None; action = Drop }

-- what becomes of the headers of a rule
abbrev pub policy_hit_of_rule : Rule → Hit
policy_hit_of_rule rule = record { rule = rule.rule; action = rule.action }

-- rules by rank from 0, of which the last, the default, holds each header
pub record IsPolicyRuleList (rules : List Rule) : Type 0 where
  pub ranks : (place : ℕ) (d : Rule) → place < length rules
      → (slice_index_or rules place d).rank ≡ place
  pub words : All (λ rule. IsWord rule.word) rules
  pub ends : (earlier : List Rule) × (rules ≡ earlier ++ policy_default_rule (length earlier) ∷ [])
