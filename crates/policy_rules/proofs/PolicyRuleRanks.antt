-- Ranks by place, as a list of rules grows.
use Rattle.std.proofs.Common.{[], ◌*◌, ◌++◌, ◌+◌, ◌∙◌, ◌∷◌, ◌≡◌, ◌≤◌, List, ap, append_assoc, arith, flat_map, length, length-append, map, mul-le-mul_left, refl, ℕ, rules}
use Rattle.base.proofs.Exports.{length-enumerate_from, length-map, sum_by-cons}
use Rattle.ternary.specs.Exports.{WordValue}
use Rattle.policy_rules.specs.declared.policy.Hit.{Hit}
use Rattle.policy_rules.specs.declared.policy.Row.{Row}
use Rattle.policy_rules.specs.declared.rules.Rule.{Rule}
use Rattle.policy_rules.specs.Exports.{policy_row_word_hits, policy_rules_ranked_from, ranked_policy_rule, policy_words_with_hit, policy_row_word_count, word_of_policy_row, policy_row_word_total, words_of_policy_row}
use Rattle.five_tuple.specs.Exports.{TuplePortBlock, port_range_cover_of}

pub length-rules_ranked_from : (n : ℕ) (xs : List (WordValue × Hit)) → length (policy_rules_ranked_from n xs) ≡ length
    xs
unfolding policy_rules_ranked_from
length-rules_ranked_from n xs = rw (length-map, length-enumerate_from) refl

pub rules_ranked_from-append : (n : ℕ) (xs ys : List (WordValue × Hit))
    → policy_rules_ranked_from n (xs ++ ys) ≡ policy_rules_ranked_from n xs ++ policy_rules_ranked_from (n + length xs) ys
unfolding policy_rules_ranked_from
rules_ranked_from-append n [] ys = ap (λ k. policy_rules_ranked_from k ys) (omega arith)
rules_ranked_from-append n (x ∷ xs) ys = ap (λ rest. ranked_policy_rule (n, x) ∷ rest)
    (rules_ranked_from-append (n + 1) xs ys ∙ ap (λ k. policy_rules_ranked_from (n + 1) xs ++ policy_rules_ranked_from k ys)
    (omega arith))

-- more entries after those that are done
pub ranked_more : (old now new : List Rule) (done more all : List (WordValue × Hit))
    → now ≡ old ++ policy_rules_ranked_from (length old) done → new ≡ now ++ policy_rules_ranked_from (length now) more
    → all ≡ done ++ more → new ≡ old ++ policy_rules_ranked_from (length old) all
ranked_more old now new done more all is pushed joined =
    search (rules, length-append, length-rules_ranked_from, append_assoc, rules_ranked_from-append)

-- how many rules there are then
pub length_ranked : (old now : List Rule) (done : List (WordValue × Hit))
    → now ≡ old ++ policy_rules_ranked_from (length old) done → length now ≡ length old + length done
length_ranked old now done is = search (rules, length-append, length-rules_ranked_from)

-- a word for each pair of blocks
length-pairs : (row : Row) (destinations sources : List TuplePortBlock)
    → length (flat_map (λ source. map (word_of_policy_row row source) destinations) sources) ≡ length
    sources * length destinations
length-pairs row destinations [] = omega arith
length-pairs row destinations (source ∷ sources) =
    let here : length (map (word_of_policy_row row source) destinations) ≡ length destinations =
    length-map _ _ in
    omega (
      arith,
      length-append (map (word_of_policy_row row source) destinations)
          (flat_map (λ source. map (word_of_policy_row row source) destinations) sources),
      here,
      length-pairs row destinations sources,
    )

pub length-words_of_row : (row : Row) → length (words_of_policy_row row) ≡ policy_row_word_count row
length-words_of_row row = length-pairs row (port_range_cover_of row.dport) (port_range_cover_of row.sport)

-- of at most 30 blocks each, at most 900
pub few_pairs : (row : Row) (destinations sources : List TuplePortBlock) → length destinations ≤ 30
    → length sources ≤ 30 → length
    (policy_words_with_hit row (flat_map (λ source. map (word_of_policy_row row source) destinations) sources)) ≤ 900
few_pairs row destinations sources few most =
    let words = flat_map (λ source. map (word_of_policy_row row source) destinations) sources in
    let same : length (policy_words_with_hit row words) ≡ length words = length-map _ _ in
    omega (arith, same, length-pairs row destinations sources, mul-le-mul_left (length sources) few)

-- as many entries as words
pub length-entries : (rows : List Row) → length (flat_map policy_row_word_hits rows) ≡ policy_row_word_total rows
length-entries [] = refl
length-entries (row ∷ rows) =
    let same : length (policy_row_word_hits row) ≡ length (words_of_policy_row row) = length-map _ _ in
    omega (
      arith,
      length-append (policy_row_word_hits row) (flat_map policy_row_word_hits rows),
      same,
      length-words_of_row row,
      length-entries rows,
      sum_by-cons policy_row_word_count row rows,
    )
