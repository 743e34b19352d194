-- The laws of policies, of their rule lists and of changes: a function of the crate ensures the
-- record of each.
use Rattle.std.specs.Prelude.{◌++◌, ◌+◌, ◌≡◌, ◌≤◌, ◌⊎◌, All, Contains, IsFalse, IsPermutation, IsTrue, List, Ok, Some, length, option_map}
use Rattle.base.specs.Exports.{list_any}
use Rattle.five_tuple.specs.Exports.{IsHeader, header_fields_of, header_number_of}
use Rattle.five_tuple.specs.declared.header.Header.{Header}
use Rattle.ternary.specs.Exports.{IsWord, WordValue, holds, word_meets}
use Rattle.policy_rules.specs.Policy.{IsFirstPolicyMatch, policy_row_matches}
use Rattle.policy_rules.specs.SoundPolicies.{IsPolicy, IsSoundPolicyRow}
use Rattle.policy_rules.specs.Rules.{first_policy_rule}
use Rattle.policy_rules.specs.RuleList.{IsPolicyRuleList, policy_rows_by_falling_priority, policy_hit_of_rule, policy_rules_of, policy_row_word_count, policy_row_word_total}
use Rattle.policy_rules.specs.Words.{words_of_policy_row}
use Rattle.policy_rules.specs.Applied.{IsPolicyAmendment, policy_additions, policy_change_applied, policy_rows_after_removal}
use Rattle.policy_rules.specs.declared.amendment.Edit.{Edit}
use Rattle.policy_rules.specs.declared.policy.Hit.{Hit}
use Rattle.policy_rules.specs.declared.policy.Row.{Row}
use Rattle.policy_rules.specs.Scan.{scan}
use Rattle.policy_rules.specs.Touched.{touched_policy_rows, touched_policy_words}
use Rattle.policy_rules.specs.Repeats.{IsPolicyPriorityFalling}

pub record PolicyLaws : Type 0 where
  -- a policy has one first match of a header
  pub one : (rows : List Row) (header : Header) (hit : Hit) → IsPolicy rows
      → IsFirstPolicyMatch rows header hit → hit ≡ scan rows header
  -- the scan of any rows is their first match
  pub scan : (rows : List Row) (header : Header) → IsFirstPolicyMatch rows header (scan rows header)
  -- the rows by falling priority are the rows in falling order, and no other list of them is
  pub sorted : (rows : List Row) → IsPolicy rows → IsPermutation rows (policy_rows_by_falling_priority rows)
  pub falling : (rows : List Row) → IsPolicyPriorityFalling (policy_rows_by_falling_priority rows)
  pub only : (rows sorted : List Row) → IsPolicy rows → IsPermutation rows sorted
      → IsPolicyPriorityFalling sorted → sorted ≡ policy_rows_by_falling_priority rows

-- the words of a sound row ..
pub record PolicyRowWordsLaws : Type 0 where
  pub words : (row : Row) → IsSoundPolicyRow row → All IsWord (words_of_policy_row row)
  -- .. are as many as pairs of blocks ..
  pub count : (row : Row) → length (words_of_policy_row row) ≡ policy_row_word_count row
  -- .. and hold exactly the headers that the row matches
  pub holds : (row : Row) (header : Header) → IsSoundPolicyRow row → IsHeader header
      → list_any (λ word. holds word (header_number_of header)) (words_of_policy_row row)
      ≡ policy_row_matches row (header_fields_of header)

-- the rules of a policy's rows ..
pub record PolicyRuleListLaws : Type 0 where
  -- .. are a rule list ..
  pub list : (rows : List Row) → IsPolicy rows → IsPolicyRuleList (policy_rules_of rows)
  -- .. of one rule more than the rows have words, ..
  pub count : (rows : List Row) → IsPolicy rows → length (policy_rules_of rows) ≡ policy_row_word_total rows + 1
  -- .. of which the first that holds a header has the rule and the action of the first match
  pub first_match : (rows : List Row) (header : Header) → IsPolicy rows → IsHeader header
      → option_map policy_hit_of_rule (first_policy_rule (policy_rules_of rows) header) ≡ Some (scan rows header)

-- the result of a change to a policy ..
pub record PolicyAmendmentLaws : Type 0 where
  -- .. is a policy ..
  pub policy : (rows after : List Row) (change : List Edit) → IsPolicy rows → IsPolicyAmendment change
      → policy_change_applied rows change ≡ Ok after → IsPolicy after
  -- .. of at most 2,000 rows ..
  pub few : (rows after : List Row) (change : List Edit) → policy_change_applied rows change ≡ Ok after
      → length after ≤ 2000
  -- .. each of which is a row of the policy or one that the change adds; ..
  pub rows : (rows after : List Row) (change : List Edit) → policy_change_applied rows change ≡ Ok after
      → All (λ row. Contains rows row ⊎ Contains (policy_additions change) row) after
  -- .. only the rows that stay and those that it adds decide each header; ..
  pub decides : (rows after : List Row) (change : List Edit) (header : Header)
      → policy_change_applied rows change ≡ Ok after
      → IsFirstPolicyMatch (policy_rows_after_removal rows change ++ policy_additions change) header (scan after header)
  -- .. a header that no removed and no added row matches has the first match that it had, ..
  pub same : (rows after : List Row) (change : List Edit) (header : Header) → IsPolicy rows
      → policy_change_applied rows change ≡ Ok after
      → All (λ row. IsFalse (policy_row_matches row (header_fields_of header))) (touched_policy_rows rows change)
      → scan after header ≡ scan rows header
  -- .. and so has each header of a word that meets no word of these rows
  pub apart : (rows after : List Row) (change : List Edit) (word : WordValue) (header : Header)
      → IsPolicy rows → IsPolicyAmendment change → IsHeader header → policy_change_applied rows change ≡ Ok after
      → All (λ touched. IsFalse (word_meets word touched)) (touched_policy_words rows change)
      → IsTrue (holds word (header_number_of header)) → scan after header ≡ scan rows header
