-- A header that no row which a change touches matches is decided as before.
use Rattle.std.proofs.Common.{[], ◌++◌, ◌||◌, ◌∙◌, ◌∷◌, ◌≡◌, All, Bool, Contains, IsFalse, IsTrue, List, MatchOption, None, Ok, Option, Some, ap, append-nil, arith, eq-eqb, eqb, eqb-true, false, filter, filter_map, find, not, refl, subst, sym, true, ℕ}
use Rattle.base.proofs.Exports.{All-append, All-cons, All-contains, All-contains_itself, All-flat_map_parts, All-nil, All-weaker, Contains-append_left, Contains-append_right, cons_option, filter-append, filter_implied, find_found, in_cons_option, list_any, list_any_none}
use Rattle.five_tuple.specs.Exports.{IsHeader, header_fields_of, header_number_of}
use Rattle.five_tuple.specs.declared.header.Header.{Header}
use Rattle.ternary.specs.Exports.{WordValue, holds, word_meets}
use Rattle.ternary.proofs.TernaryCallerLemmas.{held_meets}
use Rattle.policy_rules.specs.Exports.{PolicyHasDistinctPriorities, IsPolicyAmendment, IsFirstPolicyMatch, IsPolicy, IsSoundPolicyRow, policy_additions, amended_policy_rows, policy_change_applied, highest_policy_row, policy_hit_of, policy_removals, removed_policy_rows, policy_edits_remove, policy_row_matches, scan, policy_rows_after_removal, touched_policy_rows, touched_policy_words, words_of_policy_row}
use Rattle.policy_rules.specs.declared.amendment.Edit.{Edit}
use Rattle.policy_rules.specs.declared.policy.Row.{Row}
use Rattle.policy_rules.proofs.AmendmentCases.{additions_sound, can_apply}
use Rattle.policy_rules.proofs.PolicyFirstMatch.{first_match-scan, one_of_priority}
use Rattle.policy_rules.proofs.PolicyRuleLaw.{holds-words_of_row}
use Rattle.policy_rules.proofs.PolicyFallingRows.{filter_none}

-- ---- the rows that are removed

-- of rows of distinct priorities the one that has this priority is found
find_there : (rows : List Row) (row : Row) (priority : ℕ) → PolicyHasDistinctPriorities rows
    → Contains rows row → row.priority ≡ priority
    → find (λ (x : Row). eqb x.priority priority) rows ≡ Some row
find_there rows row priority distinct there same = by (find has rows) (find_found has rows) where
  has : Row → Bool
  has x = eqb x.priority priority

  by : (found : Option Row)
      → MatchOption found (All (λ x. has x ≡ false) rows) (λ x. Contains rows x × (has x ≡ true))
      → found ≡ Some row
  by None none =
      let passing : has row ≡ true = eq-eqb _ _ same in
      let failing : has row ≡ false = All-contains (λ x. has x ≡ false) rows row none there in
      absurd (cc)
  by (Some other) (in_rows, is) =
      ap Some (one_of_priority rows distinct other row in_rows there (eqb-true _ _ is ∙ sym same))

is_removed : (rows : List Row) (row : Row) (removed : List ℕ) → PolicyHasDistinctPriorities rows
    → Contains rows row → list_any (λ n. eqb n row.priority) removed ≡ true
    → Contains (filter_map (λ n. find (λ (x : Row). eqb x.priority n) rows) removed) row
is_removed rows row [] distinct there is = cc is
is_removed rows row (n ∷ removed) distinct there is =
    by (eqb n row.priority) refl (λ later. is_removed rows row removed distinct there later)
  where
    rest : List Row
    rest = filter_map (λ n. find (λ (x : Row). eqb x.priority n) rows) removed

    by : (b : Bool) → eqb n row.priority ≡ b
        → (list_any (λ n. eqb n row.priority) removed ≡ true → Contains rest row)
        → Contains (cons_option (find (λ (x : Row). eqb x.priority n) rows) rest) row
    by true here later = rw (find_there rows row n distinct there (sym (eqb-true _ _ here)))
        (0, omega arith, refl)
    by false other later = in_cons_option (find (λ (x : Row). eqb x.priority n) rows) rest row
        (later (sym (ap (λ b. b || list_any (λ n. eqb n row.priority) removed) other) ∙ is))

All-removed : (P : Row → Type 0) (rows : List Row) (removed : List ℕ) → All P rows
    → All P (filter_map (λ n. find (λ (x : Row). eqb x.priority n) rows) removed)
All-removed P rows [] all = All-nil P
All-removed P rows (n ∷ removed) all = by (find (λ (x : Row). eqb x.priority n) rows)
    (find_found (λ (x : Row). eqb x.priority n) rows) _ (All-removed P rows removed all)
  where
    by : (found : Option Row) → MatchOption found (All (λ (x : Row). eqb x.priority n ≡ false) rows)
        (λ (x : Row). Contains rows x × (eqb x.priority n ≡ true)) → (rest : List Row) → All P rest
        → All P (cons_option found rest)
    by None none rest kept = kept
    by (Some row) (there, is) rest kept = All-cons P row rest
        (All-contains P rows row all there) kept

-- ---- the rows that match

-- where no touched row passes a test, the same rows pass as before
passes_same : (p : Row → Bool) (rows : List Row) (change : List Edit)
    → PolicyHasDistinctPriorities rows → All (λ row. p row ≡ false) (touched_policy_rows rows change)
    → filter p (amended_policy_rows rows change) ≡ filter p rows
passes_same p rows change distinct none =
    filter-append p (policy_rows_after_removal rows change) (policy_additions change)
    ∙ ap (λ added. filter p (policy_rows_after_removal rows change) ++ added) (filter_none p (policy_additions change)
    (All-weaker (Contains (policy_additions change)) (λ row. p row ≡ false) (λ row there. out row
    (Contains-append_right (removed_policy_rows rows change) (policy_additions change) row there))
    (policy_additions change) (All-contains_itself (policy_additions change)))) ∙ append-nil _ ∙ filter_implied p
    stays rows (All-weaker (Contains rows) (λ row. p row ≡ true → stays row ≡ true) (λ row there. by
    row there (policy_edits_remove change row.priority) refl) rows (All-contains_itself rows))
  where
    stays : Row → Bool
    stays row = not (policy_edits_remove change row.priority)

    out : (row : Row) → Contains (touched_policy_rows rows change) row → p row ≡ false
    out row = All-contains (λ row. p row ≡ false) (touched_policy_rows rows change) row none

    by : (row : Row) → Contains rows row → (gone : Bool) → policy_edits_remove change row.priority ≡ gone
        → p row ≡ true → stays row ≡ true
    by row there false is passes = ap not is
    by row there true is passes =
        let failing = out row (Contains-append_left (removed_policy_rows rows change) (policy_additions change)
        row (is_removed rows row (policy_removals change) distinct there is)) in
        absurd (cc)

pub scan-untouched : (rows after : List Row) (change : List Edit) (header : Header)
    → IsPolicy rows → policy_change_applied rows change ≡ Ok after
    → All (λ row. IsFalse (policy_row_matches row (header_fields_of header))) (touched_policy_rows rows change)
    → scan after header ≡ scan rows header
scan-untouched rows after change header policy is none =
    ap (λ rows. scan rows header) (sym (can_apply rows after change is).is)
    ∙ ap (λ matching. policy_hit_of (highest_policy_row matching))
    (passes_same (λ row. policy_row_matches row (header_fields_of header)) rows change policy.distinct none)

pub first_match-amended : (rows after : List Row) (change : List Edit) (header : Header)
    → policy_change_applied rows change ≡ Ok after
    → IsFirstPolicyMatch (amended_policy_rows rows change) header (scan after header)
first_match-amended rows after change header is =
    subst (λ (xs : List Row). IsFirstPolicyMatch (amended_policy_rows rows change) header (scan xs header))
    (can_apply rows after change is).is (first_match-scan (amended_policy_rows rows change) header)

-- ---- words apart

-- a row whose words are apart from a word matches no header of it
unmatched : (word : WordValue) (header : Header) → IsHeader header
    → IsTrue (holds word (header_number_of header)) → (row : Row) → IsSoundPolicyRow row
    → All (λ touched. IsFalse (word_meets word touched)) (words_of_policy_row row)
    → IsFalse (policy_row_matches row (header_fields_of header))
unmatched word header bits held row sound words_apart =
    sym (holds-words_of_row row header sound bits)
    ∙ list_any_none (λ w. holds w (header_number_of header)) (words_of_policy_row row)
    (All-weaker (λ touched. IsFalse (word_meets word touched)) (λ w. holds w (header_number_of header) ≡ false)
    (λ w is. by w is (holds w (header_number_of header)) refl) (words_of_policy_row row) words_apart)
  where
    by : (w : WordValue) → IsFalse (word_meets word w) → (b : Bool) → holds w (header_number_of header) ≡ b
        → holds w (header_number_of header) ≡ false
    by w misses false is = is
    by w misses true is = let both = held_meets word w (header_number_of header) held is in absurd (cc)

pub scan-apart : (rows after : List Row) (change : List Edit) (word : WordValue) (header : Header)
    → IsPolicy rows → IsPolicyAmendment change → IsHeader header → policy_change_applied rows change ≡ Ok after
    → All (λ touched. IsFalse (word_meets word touched)) (touched_policy_words rows change)
    → IsTrue (holds word (header_number_of header)) → scan after header ≡ scan rows header
scan-apart rows after change word header policy amendment bits is words_apart held =
    let touched = touched_policy_rows rows change in
    let sound = All-append IsSoundPolicyRow (removed_policy_rows rows change) (policy_additions change)
    (All-removed IsSoundPolicyRow rows (policy_removals change) policy.sound)
    (additions_sound change amendment.sound) in
    let parts = All-flat_map_parts (λ w. IsFalse (word_meets word w)) words_of_policy_row touched words_apart in
    scan-untouched rows after change header policy is
    (λ k d within. unmatched word header bits held _ (sound k d within) (parts k d within))
