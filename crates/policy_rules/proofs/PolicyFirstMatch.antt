-- The first match: of the rows that match, the one that none exceeds in priority.
use Rattle.std.proofs.Common.{[], ◌++◌, ◌∙◌, ◌∷◌, ◌≡◌, ◌≢◌, ◌≤◌, All, Bool, Bor, Contains, List, MatchOption, None, Option, Some, ap, append-nil, arith, cond, false, filter, find, get_or, inl, inr, le-leb, leb-true, ltb, ltb-false, ltb-true, refl, subst, sym, true, ℕ, rules}
use Rattle.base.proofs.Exports.{All-cons, All-contains, All-nil, All-push, All-weaker, AllPairs-filter, AllPass-from_list_all, Contains-append_left, Contains-push, cases_lt, contains_later, find_found, get_or_default, list_all-from_AllPass, option_map_or}
use Rattle.five_tuple.specs.Exports.{header_fields_of}
use Rattle.five_tuple.specs.declared.header.Header.{Header}
use Rattle.policy_rules.specs.declared.policy.Action.{Action}
use Rattle.policy_rules.specs.declared.policy.Hit.{Hit}
use Rattle.policy_rules.specs.declared.policy.Row.{Row}
use Rattle.policy_rules.specs.Exports.{PolicyHasDistinctPriorities, IsFirstPolicyMatch, IsHighestPolicyRowIn, highest_policy_row, policy_hit_of, is_highest_policy_row, policy_row_matches, scan}

-- ---- the highest of some rows

-- rows of distinct priorities that have one priority are one
pub one_of_priority : (rows : List Row) → PolicyHasDistinctPriorities rows → (x y : Row)
    → Contains rows x → Contains rows y → x.priority ≡ y.priority → x ≡ y
one_of_priority rows distinct x y (i, within, is) (j, inside, also) same =
    let here : get_or rows j x ≡ y = get_or_default rows j x y inside ∙ also in
    let equal : (get_or rows i x).priority ≡ (get_or rows j x).priority =
    ap (λ (row : Row). row.priority) is ∙ same ∙ sym (ap (λ (row : Row). row.priority) here) in
    elim (cases_lt i j) [
      | inl less ↦ absurd (distinct i j x less inside equal)
      | inr more ↦ elim (cases_lt j i) [
        | inl less ↦ absurd (distinct j i x less within (sym equal))
        | inr same_place ↦ sym is ∙ ap (λ k. get_or rows k x) (omega arith) ∙ here
      ]
    ]

passes : (rows : List Row) (row : Row) → All (λ (other : Row). other.priority ≤ row.priority) rows
    → is_highest_policy_row rows row ≡ true
passes rows row most = search (rules, list_all-from_AllPass, le-leb)

bounds : (rows : List Row) (row : Row) → is_highest_policy_row rows row ≡ true
    → All (λ (other : Row). other.priority ≤ row.priority) rows
bounds rows row is k d within = search (rules, leb-true, AllPass-from_list_all)

-- among rows of distinct priorities one is the highest
pub highest_is : (rows : List Row) (row : Row) → PolicyHasDistinctPriorities rows → IsHighestPolicyRowIn rows row
    → highest_policy_row rows ≡ Some row
highest_is rows row distinct is = by_case (find (is_highest_policy_row rows) rows)
    (find_found (is_highest_policy_row rows) rows)
  where
    by_case : (found : Option Row) → MatchOption found (All (λ x. is_highest_policy_row rows x ≡ false) rows)
        (λ x. Contains rows x × (is_highest_policy_row rows x ≡ true)) → found ≡ Some row
    by_case None none =
        let test = passes rows row is.highest in
        let not = All-contains (λ x. is_highest_policy_row rows x ≡ false) rows row none is.member in
        absurd (cc)
    by_case (Some other) (there, test) =
        let below = All-contains (λ (x : Row). x.priority ≤ row.priority) rows other is.highest
        there in
        let above = All-contains (λ (x : Row). x.priority ≤ other.priority) rows row
        (bounds rows other test) is.member in
        ap Some (one_of_priority rows distinct other row there is.member (omega arith))

-- rows have a highest one
top_of : (row : Row) (rows : List Row) → (best : Row) × IsHighestPolicyRowIn (row ∷ rows) best
top_of row [] = (
  row,
  record {
    member = (0, omega arith, refl);
    highest = All-cons (λ (x : Row). x.priority ≤ row.priority) row [] (omega arith) (All-nil _);
  },
)
top_of row (next ∷ rows) = by_case (top_of next rows) where
  by_case : (best : Row) × IsHighestPolicyRowIn (next ∷ rows) best → (best : Row)
      × IsHighestPolicyRowIn (row ∷ next ∷ rows) best
  by_case (best, is) = elim (cases_lt best.priority row.priority) [
    | inl lower ↦ (
      row,
      record {
        member = (0, omega arith, refl);
        highest = All-cons (λ (x : Row). x.priority ≤ row.priority) row (next ∷ rows) (omega arith)
            (All-weaker (λ (x : Row). x.priority ≤ best.priority) (λ (x : Row). x.priority
            ≤ row.priority) (λ x h. omega (arith, lower)) (next ∷ rows) is.highest);
      },
    )
    | inr upper ↦ (
      best,
      record {
        member = contains_later row (next ∷ rows) best is.member;
        highest =
            All-cons (λ (x : Row). x.priority ≤ best.priority) row (next ∷ rows) upper is.highest;
      },
    )
  ]

pub highest_of : (rows : List Row) → MatchOption (highest_policy_row rows) (rows ≡ []) (IsHighestPolicyRowIn rows)
highest_of [] = refl
highest_of (row ∷ rows) = by_case (top_of row rows) (find (is_highest_policy_row (row ∷ rows)) (row ∷ rows))
    (find_found (is_highest_policy_row (row ∷ rows)) (row ∷ rows))
  where
    by_case : (best : Row) × IsHighestPolicyRowIn (row ∷ rows) best → (found : Option Row)
        → MatchOption found (All (λ x. is_highest_policy_row (row ∷ rows) x ≡ false) (row ∷ rows))
        (λ x. Contains (row ∷ rows) x × (is_highest_policy_row (row ∷ rows) x ≡ true))
        → MatchOption found (row ∷ rows ≡ []) (IsHighestPolicyRowIn (row ∷ rows))
    by_case (best, is) None none =
        let test = passes (row ∷ rows) best is.highest in
        let not = All-contains (λ x. is_highest_policy_row (row ∷ rows) x ≡ false) (row ∷ rows) best none
        is.member in
        absurd (cc)
    by_case top (Some found) (there, test) =
        record { member = there; highest = bounds (row ∷ rows) found test }

first_match_of : (rows : List Row) (header : Header) (best : Option Row)
    → MatchOption best (filter (λ row. policy_row_matches row (header_fields_of header)) rows ≡ [])
    (IsHighestPolicyRowIn (filter (λ row. policy_row_matches row (header_fields_of header)) rows))
    → IsFirstPolicyMatch rows header (policy_hit_of best)
first_match_of rows header best none = search rules

-- the scan is the first match
pub first_match-scan : (rows : List Row) (header : Header)
    → IsFirstPolicyMatch rows header (scan rows header)
first_match-scan rows header = search (rules, first_match_of, highest_of)

abbrev hit_with : Option ℕ → Action → Hit
hit_with rule action = record { rule = rule; action = action }

first_match_by : (rows : List Row) (header : Header) (rule : Option ℕ) (action : Action)
    → PolicyHasDistinctPriorities rows → IsFirstPolicyMatch rows header (hit_with rule action)
    → hit_with rule action ≡ scan rows header
first_match_by rows header None action distinct (none, drop) = cc (drop, none)
first_match_by rows header (Some priority) action distinct (row, is, names, acts) =
    ap (λ n. hit_with (Some n) action) (sym names) ∙ ap (hit_with (Some row.priority)) (sym acts)
    ∙ sym (ap policy_hit_of (highest_is _ row (AllPairs-filter (λ (x y : Row). x.priority ≢ y.priority)
    (λ x. policy_row_matches x (header_fields_of header)) rows distinct) is))

-- rows of distinct priorities have one first match
pub first_match-only : (rows : List Row) (header : Header) (hit : Hit) → PolicyHasDistinctPriorities rows
    → IsFirstPolicyMatch rows header hit → hit ≡ scan rows header
first_match-only rows header hit = first_match_by rows header hit.rule hit.action

-- ---- one more row

-- the best of some rows, by reference
abbrev pub IsBest : List Row → Option (Bor Row) → Type 0
IsBest rows best = MatchOption best (rows ≡ []) (λ row. IsHighestPolicyRowIn rows row.now)

-- a row that matches and exceeds the best so far is the best of the rows with it
pub best_takes : (kept : List Row) (row : Row) (best new : Option (Bor Row)) (matches : Bool)
    (here : Bor Row) → new ≡ Some here → here.now ≡ row → matches ≡ true
    → option_map_or (λ (other : Bor Row). ltb other.now.priority row.priority) best true ≡ true
    → IsBest kept best → IsBest (kept ++ cond matches (row ∷ []) []) new
best_takes kept row best new false here is now matches exceeds known = cc matches
best_takes kept row best new true here is now matches exceeds known =
    let top : IsHighestPolicyRowIn (kept ++ row ∷ []) row = record {
      member = Contains-push kept row;
      highest = All-push (λ (x : Row). x.priority ≤ row.priority) kept row
          (lower best exceeds known) (omega arith);
    } in
    subst (IsBest (kept ++ row ∷ [])) (sym is)
    (subst (IsHighestPolicyRowIn (kept ++ row ∷ [])) (sym now) top)
  where
    lower : (best : Option (Bor Row))
        → option_map_or (λ (other : Bor Row). ltb other.now.priority row.priority) best true ≡ true
        → IsBest kept best → All (λ (x : Row). x.priority ≤ row.priority) kept
    lower None exceeds none = rw none (All-nil _)
    lower (Some other) exceeds is = let above = ltb-true other.now.priority row.priority exceeds in
        All-weaker (λ (x : Row). x.priority ≤ other.now.priority)
        (λ (x : Row). x.priority ≤ row.priority) (λ x h. omega (arith, above)) kept is.highest

-- another row changes nothing
pub best_keeps : (kept : List Row) (row : Row) (best : Option (Bor Row)) (matches : Bool)
    → (matches ≡ true → option_map_or (λ (other : Bor Row). ltb other.now.priority row.priority)
    best true ≡ false) → IsBest kept best → IsBest (kept ++ cond matches (row ∷ []) []) best
best_keeps kept row best false lower is = rw (append-nil kept) is
best_keeps kept row None true lower is = absurd (let e = lower refl in cc)
best_keeps kept row (Some best) true lower is =
    search (rules, Contains-append_left, All-push, ltb-false)
