-- The first rule that holds a header has the rule and the action of the policy's first match.
use Rattle.std.proofs.Common.{[], ◌&&◌, ◌++◌, ◌+◌, ◌∙◌, ◌∷◌, ◌≡◌, All, Bool, List, None, Option, Some, ap, append_assoc, arith, bit_and, cond, eq-eqb, false, find, flat_map, get_or, map, option_map, refl, true, ℕ, rules}
use Rattle.base.proofs.Exports.{All-permutation, All-tail, and_zero_r, any_within, find-append, list_any, list_any_flat_map, list_any_map, option_or}
use Rattle.five_tuple.specs.Exports.{TuplePortBlock, IsHeader, IsTuplePortBlock, tuple_port_block_holds, port_range_cover_of, header_fields_of, header_number_of, address_prefix_matches, proto_matches}
use Rattle.five_tuple.proofs.FiveTupleCallerLemmas.{is_cover_of}
use Rattle.five_tuple.specs.declared.header.Header.{Header}
use Rattle.ternary.specs.Exports.{WordValue, any_word, holds}
use Rattle.policy_rules.specs.declared.policy.Row.{Row}
use Rattle.policy_rules.specs.declared.policy.Hit.{Hit}
use Rattle.policy_rules.specs.Exports.{IsPolicy, IsSoundPolicyRow, policy_rows_by_falling_priority, policy_row_word_hits, first_policy_rule, policy_hit_of, policy_hit_of_rule, is_held_by_policy_rule, policy_rules_ranked_from, policy_row_matches, policy_rules_of, scan, policy_hits_with_default, policy_words_with_hit, word_of_policy_row, words_of_policy_row}
use Rattle.policy_rules.proofs.PolicyRowWords.{holds-word_of_row}
use Rattle.policy_rules.proofs.PolicyFallingRows.{IsPermutation-by_falling_priority, find-by_falling_priority}

-- what the first word that holds a number says
abbrev pub found : ℕ → List (WordValue × Hit) → Option Hit
found n entries = option_map (λ entry. entry.1) (find (λ entry. holds entry.0 n) entries)

-- ---- ranks do not matter

found-ranked : (n k : ℕ) (entries : List (WordValue × Hit))
    → option_map policy_hit_of_rule (find (is_held_by_policy_rule n) (policy_rules_ranked_from k entries)) ≡ found n entries
unfolding policy_rules_ranked_from
found-ranked n k [] = refl
found-ranked n k (entry ∷ entries) = search (rules, found-ranked n (k + 1) entries)

-- ---- one row

found-append : (n : ℕ) (xs ys : List (WordValue × Hit))
    → found n (xs ++ ys) ≡ option_or (found n xs) (found n ys)
found-append n xs ys = search (rules, find-append)

found-policy_words_with_hit : (n : ℕ) (row : Row) (words : List WordValue) → found n (policy_words_with_hit row words) ≡ cond
    (list_any (λ word. holds word n) words) (Some (policy_hit_of (Some row))) None
found-policy_words_with_hit n row [] = refl
found-policy_words_with_hit n row (word ∷ words) = search (rules, found-policy_words_with_hit n row words)

none_passes : (a b : Bool) → (a && false && b) ≡ false
none_passes a b = search rules

-- some word of the row holds a header where the row matches it
pub holds-words_of_row : (row : Row) (h : Header) → IsSoundPolicyRow row → IsHeader h
    → list_any (λ word. holds word (header_number_of h)) (words_of_policy_row row) ≡ policy_row_matches row (header_fields_of h)
holds-words_of_row row h sound bits =
    let f = header_fields_of h in
    let n = header_number_of h in
    let sources = is_cover_of row.sport sound.sport in
    let destinations = is_cover_of row.dport sound.dport in
    let front = address_prefix_matches row.src f.src && address_prefix_matches row.dst f.dst in
    let last = proto_matches row.proto f.proto in
    let inner = λ (source : TuplePortBlock) (masked : IsTuplePortBlock source). list_any_map
    (λ word. holds word n) (word_of_policy_row row source) (port_range_cover_of row.dport)
    ∙ any_within (λ b. front && tuple_port_block_holds f.sport source && b && last)
    (none_passes (front && tuple_port_block_holds f.sport source) last)
    (λ destination. holds (word_of_policy_row row source destination) n) (tuple_port_block_holds f.dport)
    (port_range_cover_of row.dport) (λ k d within. holds-word_of_row row source
    (get_or (port_range_cover_of row.dport) k d) h sound masked (destinations.masked k d within) bits) in
    list_any_flat_map (λ word. holds word n)
    (λ source. map (word_of_policy_row row source) (port_range_cover_of row.dport)) (port_range_cover_of row.sport)
    ∙ any_within (λ b. front && b && list_any (tuple_port_block_holds f.dport) (port_range_cover_of row.dport) && last)
    (ap (λ b. b && last) (none_passes front (list_any (tuple_port_block_holds f.dport) (port_range_cover_of row.dport))))
    (λ source. list_any (λ word. holds word n)
    (map (word_of_policy_row row source) (port_range_cover_of row.dport))) (tuple_port_block_holds f.sport)
    (port_range_cover_of row.sport)
    (λ k d within. inner (get_or (port_range_cover_of row.sport) k d) (sources.masked k d within))
    ∙ rw (sources.exact f.sport bits.sport, destinations.exact f.dport bits.dport) refl

found-row : (row : Row) (h : Header) → IsSoundPolicyRow row → IsHeader h
    → found (header_number_of h) (policy_row_word_hits row) ≡ cond (policy_row_matches row (header_fields_of h))
    (Some (policy_hit_of (Some row))) None
found-row row h sound bits = found-policy_words_with_hit (header_number_of h) row (words_of_policy_row row)
    ∙ ap (λ b. cond b (Some (policy_hit_of (Some row))) None) (holds-words_of_row row h sound bits)

-- ---- all rows

holds-any_word : (n : ℕ) → holds any_word n ≡ true
unfolding holds
holds-any_word n = eq-eqb (bit_and n 0) 0 (and_zero_r n)

found-rows : (rows : List Row) (h : Header) → All IsSoundPolicyRow rows → IsHeader h
    → found (header_number_of h) (policy_hits_with_default rows) ≡ Some
    (policy_hit_of (find (λ row. policy_row_matches row (header_fields_of h)) rows))
found-rows [] h sound bits = cc (holds-any_word (header_number_of h))
found-rows (row ∷ rows) h sound bits =
    let n = header_number_of h in
    let here = found-row row h (sound 0 row (omega arith)) bits in
    let there = found-rows rows h (All-tail IsSoundPolicyRow row rows sound) bits in
    ap (found n) (append_assoc (policy_row_word_hits row) (flat_map policy_row_word_hits rows)
    ((any_word, policy_hit_of None) ∷ []))
    ∙ found-append n (policy_row_word_hits row) (policy_hits_with_default rows)
    ∙ rw (here, there) (by_case (policy_row_matches row (header_fields_of h)))
  where
    by_case : (b : Bool) → option_or (cond b (Some (policy_hit_of (Some row))) None)
        (Some (policy_hit_of (find (λ row. policy_row_matches row (header_fields_of h)) rows))) ≡ Some
        (policy_hit_of (cond b (Some row) (find (λ row. policy_row_matches row (header_fields_of h)) rows)))
    by_case true = refl
    by_case false = refl

-- the first rule that holds a header has the rule and the action of the first match
pub first_rule-rules_of : (rows : List Row) (h : Header) → IsPolicy rows → IsHeader h
    → option_map policy_hit_of_rule (first_policy_rule (policy_rules_of rows) h) ≡ Some (scan rows h)
unfolding policy_rules_of
first_rule-rules_of rows h policy bits =
    let sorted = All-permutation IsSoundPolicyRow rows (policy_rows_by_falling_priority rows)
    (IsPermutation-by_falling_priority rows policy.sound) policy.sound in
    found-ranked (header_number_of h) 0 (policy_hits_with_default (policy_rows_by_falling_priority rows))
    ∙ found-rows (policy_rows_by_falling_priority rows) h sorted bits
    ∙ ap (λ best. Some (policy_hit_of best))
    (find-by_falling_priority (λ row. policy_row_matches row (header_fields_of h)) rows policy.sound
    policy.distinct)
