-- Edits, one edit further.
use Rattle.std.proofs.Common.{[], ◌++◌, ◌+◌, ◌<◌, ◌||◌, ◌∙◌, ◌∷◌, ◌≡◌, ◌≢◌, AllPairs, Bool, List, ap, arith, cond, drop, eq-eqb, eqb, false, get_or, get_or-take, length, length-take, map, ne_eqb, refl, subst, sym, take, take-append-drop, take-take, true, ℕ, rules}
use Rattle.base.proofs.Exports.{all_pairs_push, drop_more, filter_map-append, list_any-append, list_any_at, list_any_none, pairs_before}
use Rattle.policy_rules.specs.declared.policy.Row.{Row}
use Rattle.policy_rules.specs.Exports.{ArePolicyEditsDistinct, ArePolicyEditsSeen, PolicyHasDistinctPriorities, policy_addition, policy_additions, policy_edits_of, policy_edit_removes, policy_removals, policy_edit_repeats}
use Rattle.policy_rules.proofs.PolicyDistinctRows.{distinct_push}
use Rattle.policy_rules.specs.declared.amendment.Edit.{Edit}
use Rattle.policy_rules.specs.declared.amendment.Edit.TheVariants.{Remove, Add}

-- ---- what edits remove and add

removals_remove : (edits : List Edit) (priority : ℕ) → policy_removals (edits ++ Remove priority ∷ [])
    ≡ policy_removals edits ++ priority ∷ []
removals_remove edits priority = filter_map-append policy_edit_removes edits (Remove priority ∷ [])

removals_add : (edits : List Edit) (row : Row) → policy_removals (edits ++ Add row ∷ []) ≡ policy_removals edits
removals_add edits row = search (rules, filter_map-append)

additions_remove : (edits : List Edit) (priority : ℕ)
    → policy_additions (edits ++ Remove priority ∷ []) ≡ policy_additions edits
additions_remove edits priority = search (rules, filter_map-append)

additions_add : (edits : List Edit) (row : Row) → policy_additions (edits ++ Add row ∷ []) ≡ policy_additions
    edits ++ row ∷ []
additions_add edits row = filter_map-append policy_addition edits (Add row ∷ [])

-- ---- of lists of what is removed and added

removed_back : (removed : List ℕ) → policy_removals (map Remove removed) ≡ removed
removed_back [] = refl
removed_back (priority ∷ removed) = ap (λ xs. priority ∷ xs) (removed_back removed)

none_removed : (added : List Row) → policy_removals (map Add added) ≡ []
none_removed [] = refl
none_removed (row ∷ added) = none_removed added

none_added : (removed : List ℕ) → policy_additions (map Remove removed) ≡ []
none_added [] = refl
none_added (priority ∷ removed) = none_added removed

added_back : (added : List Row) → policy_additions (map Add added) ≡ added
added_back [] = refl
added_back (row ∷ added) = ap (λ xs. row ∷ xs) (added_back added)

pub removals_of : (removed : List ℕ) (added : List Row)
    → policy_removals (policy_edits_of removed added) ≡ removed
removals_of removed added = search (rules, filter_map-append, removed_back, none_removed)

pub additions_of : (removed : List ℕ) (added : List Row)
    → policy_additions (policy_edits_of removed added) ≡ added
additions_of removed added = search (rules, filter_map-append, none_added, added_back)

-- ---- one priority more

or_more : (a b : Bool) → cond a true b ≡ (b || (a || false))
or_more a b = search rules

abbrev Puts : (ℕ → Bool) → ℕ → (ℕ → Bool) → Type 0
Puts old priority new = (q : ℕ) → new q ≡ cond (eqb priority q) true (old q)

pub seen_remove : (removed added new : ℕ → Bool) (edits : List Edit) (priority : ℕ) → Puts removed
    priority new → ArePolicyEditsSeen removed added edits → ArePolicyEditsSeen new added (edits ++ Remove priority ∷ [])
seen_remove removed added new edits priority puts seen =
    search (rules, or_more, removals_remove, list_any-append, additions_remove)

pub seen_add : (removed added new : ℕ → Bool) (edits : List Edit) (row : Row) → Puts added
    row.priority new → ArePolicyEditsSeen removed added edits → ArePolicyEditsSeen removed new (edits ++ Add row ∷ [])
seen_add removed added new edits row puts seen =
    search (rules, removals_add, or_more, additions_add, list_any-append)

-- ---- one edit more that repeats none

pub distinct_edits_push : (edits : List Edit) (edit : Edit) → ArePolicyEditsDistinct edits
    → policy_edit_repeats edits edit ≡ false → ArePolicyEditsDistinct (edits ++ edit ∷ [])
distinct_edits_push edits (Remove priority) distinct new = record {
  removed_once = subst (AllPairs (λ (x y : ℕ). x ≢ y)) (sym (removals_remove edits priority))
      (all_pairs_push (λ (x y : ℕ). x ≢ y) (policy_removals edits) priority distinct.removed_once
      (λ k d within same. let some = list_any_at (λ x. eqb x priority) (policy_removals edits) k d within
      (eq-eqb _ _ same) in
      cc));
  added_once = rw (additions_remove edits priority) distinct.added_once;
}
distinct_edits_push edits (Add row) distinct new = record {
  removed_once = rw (removals_add edits row) distinct.removed_once;
  added_once = subst PolicyHasDistinctPriorities (sym (additions_add edits row))
      (distinct_push (policy_additions edits) row distinct.added_once new);
}

-- ---- no edit among distinct ones repeats an earlier one

-- the first of distinct edits, the next, and the others
fresh_before : (earlier later : List Edit) (edit : Edit)
    → ArePolicyEditsDistinct (earlier ++ edit ∷ later) → policy_edit_repeats earlier edit ≡ false
fresh_before earlier later (Remove priority) distinct = list_any_none (λ x. eqb x priority)
    (policy_removals earlier) (λ k d within. ne_eqb _ _
    (pairs_before (λ (x y : ℕ). x ≢ y) (policy_removals earlier) priority (policy_removals later)
    (rw (filter_map-append policy_edit_removes earlier (Remove priority ∷ later)) at distinct.removed_once) k d
    within))
fresh_before earlier later (Add row) distinct =
    list_any_none (λ (x : Row). eqb x.priority row.priority) (policy_additions earlier)
    (λ k d within. ne_eqb _ _
    (pairs_before (λ (x y : Row). x.priority ≢ y.priority) (policy_additions earlier) row (policy_additions later)
    (rw (filter_map-append policy_addition earlier (Add row ∷ later)) at distinct.added_once) k d within))

pub fresh_edits : (edits : List Edit) (p k : ℕ) (d : Edit) → ArePolicyEditsDistinct (take p edits)
    → k < p → k < length edits → policy_edit_repeats (take k edits) (get_or edits k d) ≡ false
fresh_edits edits p k d distinct less within =
    let split : take p edits ≡ take k edits ++ get_or edits k d ∷ drop (k + 1) (take p edits) =
    sym (take-append-drop k (take p edits))
    ∙ ap (λ xs. xs ++ drop k (take p edits)) (take-take k p edits (omega arith)) ∙ ap
    (λ xs. take k edits ++ xs) (drop_more (take p edits) k d (omega (arith, length-take p edits)))
    ∙ ap (λ edit. take k edits ++ edit ∷ drop (k + 1) (take p edits))
    (get_or-take p edits k d less) in
    fresh_before (take k edits) (drop (k + 1) (take p edits)) (get_or edits k d)
    (subst ArePolicyEditsDistinct split distinct)
