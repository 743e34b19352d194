-- The shape of a list of rules: ranks by place, words, and the default at the end.
use Rattle.std.proofs.Common.{[], ◌++◌, ◌+◌, ◌<◌, ◌∙◌, ◌∷◌, ◌≡◌, All, List, None, Some, ap, arith, flat_map, get_or, length, length-append, map, ℕ}
use Rattle.base.proofs.Exports.{All-append, All-cons, All-map, All-nil, All-permutation, All-tail, and_zero_r, enumerate_from, get_or-enumerate_from, get_or-map, length-enumerate_from, sum_by-IsPermutation}
use Rattle.five_tuple.specs.Exports.{TuplePortBlock, IsTuplePortBlock, port_range_cover_of}
use Rattle.five_tuple.proofs.FiveTupleCallerLemmas.{is_cover_of}
use Rattle.ternary.specs.Exports.{IsWord, WordValue, any_word}
use Rattle.policy_rules.specs.declared.policy.Row.{Row}
use Rattle.policy_rules.specs.declared.policy.Hit.{Hit}
use Rattle.policy_rules.specs.declared.rules.Rule.{Rule}
use Rattle.policy_rules.specs.Exports.{IsPolicy, IsPolicyRuleList, IsSoundPolicyRow, policy_rows_by_falling_priority, policy_default_rule, policy_row_word_hits, policy_hit_of, policy_rules_ranked_from, ranked_policy_rule, policy_rules_of, policy_hits_with_default, policy_row_word_count, word_of_policy_row, policy_row_word_total, words_of_policy_row}
use Rattle.policy_rules.proofs.PolicyRowWords.{IsWord-word_of_row}
use Rattle.policy_rules.proofs.PolicyRuleRanks.{length-rules_ranked_from, rules_ranked_from-append, length-entries}
use Rattle.policy_rules.proofs.PolicyFallingRows.{IsPermutation-by_falling_priority}

HasWord : WordValue × Hit → Type 0
HasWord entry = IsWord entry.0

no_words : All HasWord []
no_words = λ k d h. absurd (omega arith)

words_at : (row : Row) (source : TuplePortBlock) (destinations : List TuplePortBlock) → IsSoundPolicyRow row
    → IsTuplePortBlock source → All IsTuplePortBlock destinations
    → All IsWord (map (word_of_policy_row row source) destinations)
words_at row source destinations sound masked all = All-map IsWord (word_of_policy_row row source)
    destinations (λ k d within. IsWord-word_of_row row source (get_or destinations k d) sound masked
    (all k d within))

words_of_pairs : (row : Row) (destinations sources : List TuplePortBlock) → IsSoundPolicyRow row
    → All IsTuplePortBlock sources → All IsTuplePortBlock destinations
    → All IsWord (flat_map (λ source. map (word_of_policy_row row source) destinations) sources)
words_of_pairs row destinations [] sound all masked = All-nil _
words_of_pairs row destinations (s ∷ ss) sound all masked = All-append IsWord
    (map (word_of_policy_row row s) destinations)
    (flat_map (λ source. map (word_of_policy_row row source) destinations) ss)
    (words_at row s destinations sound (all 0 s (omega arith)) masked)
    (words_of_pairs row destinations ss sound (All-tail IsTuplePortBlock s ss all) masked)

pub IsWord-words_of_row : (row : Row) → IsSoundPolicyRow row → All IsWord (words_of_policy_row row)
IsWord-words_of_row row sound = words_of_pairs row (port_range_cover_of row.dport) (port_range_cover_of row.sport) sound
    (is_cover_of row.sport sound.sport).masked (is_cover_of row.dport sound.dport).masked

words_of_rows : (rows : List Row) → All IsSoundPolicyRow rows → All HasWord (flat_map policy_row_word_hits rows)
unfolding HasWord
words_of_rows [] sound = no_words
words_of_rows (row ∷ rows) sound = All-append HasWord (policy_row_word_hits row) (flat_map policy_row_word_hits rows)
    (All-map HasWord (λ word. (word, policy_hit_of (Some row))) (words_of_policy_row row)
    (IsWord-words_of_row row (sound 0 row (omega arith))))
    (words_of_rows rows (All-tail IsSoundPolicyRow row rows sound))

words_ranked : (k : ℕ) (entries : List (WordValue × Hit)) → All HasWord entries
    → All (λ (rule : Rule). IsWord rule.word) (policy_rules_ranked_from k entries)
unfolding HasWord policy_rules_ranked_from
words_ranked k [] all = λ i d h. absurd (omega arith)
words_ranked k (entry ∷ entries) all = All-cons (λ (rule : Rule). IsWord rule.word)
    (ranked_policy_rule (k, entry)) (policy_rules_ranked_from (k + 1) entries) (all 0 entry (omega arith))
    (words_ranked (k + 1) entries (All-tail HasWord entry entries all))

rank_at : (entries : List (WordValue × Hit)) (place : ℕ) (d : Rule)
    → place < length (policy_rules_ranked_from 0 entries) → (get_or (policy_rules_ranked_from 0 entries) place d).rank ≡ place
unfolding policy_rules_ranked_from
rank_at entries place d within =
    let some : WordValue × Hit = (any_word, policy_hit_of None) in
    let start : ℕ × (WordValue × Hit) = (0, some) in
    let inside : place < length entries = omega (arith, length-rules_ranked_from 0 entries) in
    ap (λ (rule : Rule). rule.rank)
    (get_or-map ranked_policy_rule (enumerate_from 0 entries) place start d
    (omega (arith, length-rules_ranked_from 0 entries, length-enumerate_from 0 entries)))
    ∙ ap (λ p. (ranked_policy_rule p).rank) (get_or-enumerate_from 0 entries place start inside)
    ∙ omega arith

any_is_word : IsWord any_word
any_is_word = record { within = and_zero_r 0; bounded = omega arith }

pub IsRuleList-rules_of : (rows : List Row) → IsPolicy rows → IsPolicyRuleList (policy_rules_of rows)
unfolding policy_rules_of policy_rules_ranked_from HasWord
IsRuleList-rules_of rows policy =
    let sorted = policy_rows_by_falling_priority rows in
    let entries = flat_map policy_row_word_hits sorted in
    let last : WordValue × Hit = (any_word, policy_hit_of None) in record {
      ranks = rank_at (policy_hits_with_default sorted);
      words = words_ranked 0 (policy_hits_with_default sorted)
          (All-append HasWord entries (last ∷ []) (words_of_rows sorted (All-permutation IsSoundPolicyRow
          rows sorted (IsPermutation-by_falling_priority rows policy.sound) policy.sound))
          (All-cons HasWord last [] any_is_word no_words));
      ends = (
        policy_rules_ranked_from 0 entries,
        rules_ranked_from-append 0 entries (last ∷ [])
            ∙ ap (λ rank. policy_rules_ranked_from 0 entries ++ policy_default_rule rank ∷ []) {x = 0 + length entries}
            {y = length (policy_rules_ranked_from 0 entries)} (omega (arith, length-rules_ranked_from 0 entries)),
      );
    }

pub length-rules_of : (rows : List Row) → IsPolicy rows → length (policy_rules_of rows) ≡ policy_row_word_total
    rows + 1
unfolding policy_rules_of
length-rules_of rows policy =
    let sorted = policy_rows_by_falling_priority rows in
    let total = sum_by-IsPermutation policy_row_word_count rows sorted
    (IsPermutation-by_falling_priority rows policy.sound) in
    omega (
      arith,
      length-rules_ranked_from 0 (policy_hits_with_default sorted),
      length-append (flat_map policy_row_word_hits sorted) ((any_word, policy_hit_of None) ∷ []),
      length-entries sorted,
      total,
    )
