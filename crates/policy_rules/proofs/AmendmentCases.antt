-- What a change makes of a policy, by cases.
use Rattle.std.proofs.Common.{[], ◌&&◌, ◌+◌, ◌<◌, ◌||◌, ◌∙◌, ◌∷◌, ◌≡◌, ◌≢◌, ◌≤◌, ◌⊎◌, All, AllPairs, Bool, Contains, Err, List, Ok, Result, ap, arith, cond, count_by, eq-eqb, eqb, false, filter, inl, inr, le-ltb, length, lt-ltb, ltb, ltb-false, map, not, refl, subst, suc, sym, true, ℕ, rules}
use Rattle.base.proofs.Exports.{All-append, All-cons, All-contains_itself, All-filter, All-nil, All-weaker, AllPairs-append, AllPairs-filter, AllPairs-map, Decides-eqb, IsDistinct, IsDistinct-from_AllPairs, IsIntersection, any-filter_same, any_key, count_by-le-length, exact_unsigned_eq, is_member, length-IsIntersection, length-filter_both, length-map, list_all, list_any, list_any_at, nat_eq_equiv, nat_tests, sum_by-cons}
use Rattle.policy_rules.specs.declared.policy.Row.{Row}
use Rattle.policy_rules.specs.Exports.{PolicyEditAddsOnly, PolicyHasDistinctPriorities, IsPolicyAmendment, IsPolicy, IsSoundPolicyEdit, IsSoundPolicyRow, policy_additions, policy_change_adds_taken, amended_policy_rows, policy_change_applied, policy_has_priority, policy_removals, policy_edits_remove, policy_change_removes_absent, policy_rows_after_removal}
use Rattle.policy_rules.proofs.PolicyRowWords.{eqb_sym}
use Rattle.policy_rules.specs.declared.amendment.Edit.{Edit}
use Rattle.policy_rules.specs.declared.amendment.Edit.TheVariants.{Remove, Add}
use Rattle.policy_rules.specs.declared.applying.Inapplicable.{Inapplicable}
use Rattle.policy_rules.specs.declared.applying.Inapplicable.TheVariants.{Absent, Taken, TooManyRows}

-- ---- the cases

abbrev outcome : Bool → Bool → Bool → List Row → Result (List Row) Inapplicable
outcome absent taken many rows = cond absent (Err Absent)
    (cond taken (Err Taken) (cond many (Err (TooManyRows (length rows))) (Ok rows)))

by_cases : (rows : List Row) (change : List Edit) {absent taken many : Bool} → policy_change_removes_absent rows
    change ≡ absent → policy_change_adds_taken rows change ≡ taken → ltb 2000 (length (amended_policy_rows rows change))
    ≡ many → policy_change_applied rows change ≡ outcome absent taken many (amended_policy_rows rows change)
unfolding policy_change_applied
by_cases rows change one two three = search rules

pub is_absent : (rows : List Row) (change : List Edit) → policy_change_removes_absent rows change ≡ true
    → policy_change_applied rows change ≡ Err Absent
is_absent rows change absent = by_cases rows change absent refl refl

pub is_taken : (rows : List Row) (change : List Edit) → policy_change_removes_absent rows change ≡ false
    → policy_change_adds_taken rows change ≡ true → policy_change_applied rows change ≡ Err Taken
is_taken rows change there taken = by_cases rows change there taken refl

pub is_too_long : (rows : List Row) (change : List Edit) → policy_change_removes_absent rows change ≡ false
    → policy_change_adds_taken rows change ≡ false → 2000 < length (amended_policy_rows rows change)
    → policy_change_applied rows change ≡ Err (TooManyRows (length (amended_policy_rows rows change)))
is_too_long rows change there free long = by_cases rows change there free (lt-ltb _ _ long)

pub is_applied : (rows : List Row) (change : List Edit) → policy_change_removes_absent rows change ≡ false
    → policy_change_adds_taken rows change ≡ false → length (amended_policy_rows rows change) ≤ 2000
    → policy_change_applied rows change ≡ Ok (amended_policy_rows rows change)
is_applied rows change there free few = by_cases rows change there free (le-ltb _ _ few)

-- what holds where a change can be applied
pub record CanApply (rows : List Row) (change : List Edit) (after : List Row) : Type 0 where
  pub there : policy_change_removes_absent rows change ≡ false
  pub free : policy_change_adds_taken rows change ≡ false
  pub few : length after ≤ 2000
  pub is : amended_policy_rows rows change ≡ after

pub can_apply : (rows after : List Row) (change : List Edit) → policy_change_applied rows change ≡ Ok after
    → CanApply rows change after
can_apply rows after change is = by (policy_change_removes_absent rows change) (policy_change_adds_taken rows change)
    (ltb 2000 (length (amended_policy_rows rows change))) refl refl refl
    (sym (by_cases rows change refl refl refl) ∙ is)
  where
    by : (absent taken many : Bool) → policy_change_removes_absent rows change ≡ absent
        → policy_change_adds_taken rows change ≡ taken → ltb 2000 (length (amended_policy_rows rows change)) ≡ many
        → outcome absent taken many (amended_policy_rows rows change) ≡ Ok after
        → CanApply rows change after
    by true taken many one two three ok = cc ok
    by false true many one two three ok = cc ok
    by false false true one two three ok = cc ok
    by false false false one two three ok =
        let same : amended_policy_rows rows change ≡ after = cc ok in record {
          there = one;
          free = two;
          few = subst (λ xs. length xs ≤ 2000) same (ltb-false 2000 _ three);
          is = same;
        }

-- ---- the rows are a policy

pub All-additions : (P : Row → Type 0) (edits : List Edit) → All (PolicyEditAddsOnly P) edits
    → All P (policy_additions edits)
All-additions P [] only = All-nil _
All-additions P (Remove priority ∷ edits) only = All-additions P edits
    (λ k d within. only (suc k) d (omega arith))
All-additions P (Add row ∷ edits) only = All-cons P row (policy_additions edits)
    (only 0 (Add row) (omega arith))
    (All-additions P edits (λ k d within. only (suc k) d (omega arith)))

-- the rows that sound edits add are sound
pub additions_sound : (edits : List Edit) → All IsSoundPolicyEdit edits → All IsSoundPolicyRow (policy_additions edits)
additions_sound edits sound = All-additions IsSoundPolicyRow edits
    (All-weaker IsSoundPolicyEdit (PolicyEditAddsOnly IsSoundPolicyRow) by_edit edits sound)
  where
    by_edit : (edit : Edit) → IsSoundPolicyEdit edit → PolicyEditAddsOnly IsSoundPolicyRow edit
    by_edit (Remove priority) sound = tt
    by_edit (Add row) sound = sound

-- no added row has the priority of one that stays
apart : (staying added : List Row) → list_any (λ row. policy_has_priority staying row.priority) added
    ≡ false → All (λ (x : Row). All (λ (y : Row). x.priority ≢ y.priority) added) staying
apart staying added free = search (rules, list_any_at, eq-eqb)

pub IsPolicy-amended : (rows : List Row) (change : List Edit) → IsPolicy rows → IsPolicyAmendment change
    → policy_change_adds_taken rows change ≡ false → length (amended_policy_rows rows change) ≤ 2000
    → IsPolicy (amended_policy_rows rows change)
IsPolicy-amended rows change policy amendment free few =
    let stays : Row → Bool = λ row. not (policy_edits_remove change row.priority) in record {
      sound = All-append IsSoundPolicyRow (policy_rows_after_removal rows change) (policy_additions change)
          (All-filter stays IsSoundPolicyRow rows policy.sound) (additions_sound change amendment.sound);
      distinct = AllPairs-append (λ (x y : Row). x.priority ≢ y.priority) (policy_rows_after_removal rows change)
          (policy_additions change)
          (AllPairs-filter (λ (x y : Row). x.priority ≢ y.priority) stays rows policy.distinct)
          amendment.distinct.added_once (apart (policy_rows_after_removal rows change) (policy_additions change) free);
      few = omega (arith, few);
    }

pub IsPolicy-applied : (rows after : List Row) (change : List Edit) → IsPolicy rows
    → IsPolicyAmendment change → policy_change_applied rows change ≡ Ok after → IsPolicy after
IsPolicy-applied rows after change policy amendment is = let can = can_apply rows after change is in
    rw can.is at (IsPolicy-amended rows change policy amendment can.free (rw can.is can.few))

pub All-applied : (P : Row → Type 0) (rows after : List Row) (change : List Edit) → All P rows
    → All P (policy_additions change) → policy_change_applied rows change ≡ Ok after → All P after
All-applied P rows after change kept added is = let can = can_apply rows after change is in
    subst (All P) can.is (All-append P (policy_rows_after_removal rows change) (policy_additions change)
    (All-filter (λ (row : Row). not (policy_edits_remove change row.priority)) P rows kept) added)

pub rows-applied : (rows after : List Row) (change : List Edit) → policy_change_applied rows change ≡ Ok after
    → All (λ row. Contains rows row ⊎ Contains (policy_additions change) row) after
rows-applied rows after change is =
    All-applied (λ row. Contains rows row ⊎ Contains (policy_additions change) row) rows after change
    (λ k d within. inl (All-contains_itself rows k d within))
    (λ k d within. inr (All-contains_itself (policy_additions change) k d within)) is

-- ---- by sets of priorities

-- the test holds of exactly these numbers
abbrev pub IsSetOf : (ℕ → Bool) → List ℕ → Type 0
IsSetOf test numbers = (q : ℕ) → test q ≡ list_any (λ n. eqb n q) numbers

-- the priorities of rows
abbrev pub priorities : List Row → List ℕ
priorities rows = map (λ (row : Row). row.priority) rows

is_member_is : (numbers : List ℕ) (q : ℕ)
    → is_member eqb numbers q ≡ list_any (λ n. eqb n q) numbers
is_member_is numbers q = ap (λ (test : ℕ → Bool). list_any test numbers) (λ i n. eqb_sym q n i)

-- the priorities of the rows that the change removes
abbrev gone_priorities : List Row → List Edit → List ℕ
gone_priorities rows change = priorities (filter (λ row. policy_edits_remove change row.priority) rows)

gone_once : (rows : List Row) (change : List Edit) → PolicyHasDistinctPriorities rows
    → IsDistinct eqb (gone_priorities rows change)
gone_once rows change distinct = IsDistinct-from_AllPairs Decides-eqb (gone_priorities rows change)
    (AllPairs-map (λ (x y : ℕ). x ≢ y) (λ (row : Row). row.priority)
    (filter (λ row. policy_edits_remove change row.priority) rows) (AllPairs-filter (λ (x y : Row). x.priority
    ≢ y.priority) (λ row. policy_edits_remove change row.priority) rows distinct))

-- they are those that the policy has, of those that the change removes
gone_are : (rows : List Row) (change : List Edit)
    → IsIntersection eqb (policy_removals change) (priorities rows) (gone_priorities rows change)
gone_are rows change q = search (rules, is_member_is, any_key, any-filter_same, exact_unsigned_eq)

fewer : (gone staying all removed : ℕ) → gone + staying ≡ all
    → ltb gone removed ≡ ltb all (staying + removed)
fewer gone staying all removed split = grind (arith, nat_tests)

one_more : (a b : ℕ) → ltb a b ≡ ltb (suc a) (suc b)
one_more a b = grind (arith, nat_tests)

-- not all pass a test where fewer pass than there are
some_fails : (test : ℕ → Bool) (xs : List ℕ)
    → not (list_all test xs) ≡ ltb (count_by test xs) (length xs)
some_fails test [] = refl
some_fails test (x ∷ xs) =
    cc (by (test x) (some_fails test xs), sum_by-cons (λ y. cond (test y) 1 0) x xs)
  where
    few : count_by test xs ≤ length xs
    few = count_by-le-length test xs

    by : (b : Bool) → not (list_all test xs) ≡ ltb (count_by test xs) (length xs)
        → not (b && list_all test xs) ≡ ltb (cond b 1 0 + count_by test xs) (suc (length xs))
    by true rest = rest ∙ one_more _ _ ∙ ap (λ n. ltb n (suc (length xs))) (omega arith)
    by false rest = sym (lt-ltb _ _ (omega (arith, few)))

-- the policy lacks a priority that is removed where fewer rows go than priorities are removed
pub absent_by : (rows : List Row) (change : List Edit) → PolicyHasDistinctPriorities rows
    → AllPairs (λ (x y : ℕ). x ≢ y) (policy_removals change) → policy_change_removes_absent rows change
    ≡ ltb (length rows) (length (policy_rows_after_removal rows change) + length (policy_removals change))
absent_by rows change distinct once =
    let gone = filter (λ row. policy_edits_remove change row.priority) rows in
    let held : (q : ℕ) → policy_has_priority rows q ≡ is_member eqb (priorities rows) q =
    λ q. sym (any_key (λ (row : Row). row.priority) rows q) ∙ sym (is_member_is (priorities rows) q)
    in
    let count = sym (length-map gone (λ (row : Row). row.priority))
    ∙ length-IsIntersection nat_eq_equiv (policy_removals change) (priorities rows) (priorities gone)
    (IsDistinct-from_AllPairs Decides-eqb (policy_removals change) once) (gone_once rows change distinct)
    (gone_are rows change)
    ∙ ap (λ (test : ℕ → Bool). count_by test (policy_removals change)) (λ i q. sym (held q) i) in
    some_fails (policy_has_priority rows) (policy_removals change)
    ∙ ap (λ n. ltb n (length (policy_removals change))) (sym count)
    ∙ fewer (length gone) (length (policy_rows_after_removal rows change)) (length rows)
    (length (policy_removals change))
    (length-filter_both (λ row. policy_edits_remove change row.priority)
    (λ row. not (policy_edits_remove change row.priority)) (λ row. refl) rows)

none_passes : (rows : List Row) → list_any (λ row. false) rows ≡ false
none_passes [] = refl
none_passes (row ∷ rows) = none_passes rows

one_passes : (a b c d e : Bool) → e ≡ (c || d) → ((a || b) || e) ≡ ((a || c) || (b || d))
one_passes a b c d e is = search rules

passes_either : (p q : Row → Bool) (rows : List Row)
    → list_any (λ row. p row || q row) rows ≡ (list_any p rows || list_any q rows)
passes_either p q [] = refl
passes_either p q (row ∷ rows) = search (rules, one_passes, passes_either p q rows)

-- of two lists a row of the first has the priority of one of the second, or the other way round
share_priority : (rows others : List Row) → list_any (λ row. policy_has_priority rows row.priority) others
    ≡ list_any (λ row. policy_has_priority others row.priority) rows
share_priority rows [] = sym (none_passes rows)
share_priority rows (other ∷ others) =
    let later : Row → Bool = λ row. policy_has_priority others row.priority in
    ap (λ b. policy_has_priority rows other.priority || b) (share_priority rows others)
    ∙ ap (λ (test : Row → Bool). list_any test rows || list_any later rows)
    (λ i row. eqb_sym row.priority other.priority i)
    ∙ sym (passes_either (λ row. eqb other.priority row.priority) later rows)

pub taken_by : (new : ℕ → Bool) (rows : List Row) (change : List Edit)
    → IsSetOf new (priorities (policy_additions change))
    → policy_change_adds_taken rows change ≡ list_any (λ row. new row.priority) (policy_rows_after_removal rows change)
taken_by new rows change is_new = share_priority (policy_rows_after_removal rows change) (policy_additions change)
    ∙ ap (λ (test : Row → Bool). list_any test (policy_rows_after_removal rows change))
    (λ i row. (sym (any_key (λ (added : Row). added.priority) (policy_additions change) row.priority)
    ∙ sym (is_new row.priority)) i)
