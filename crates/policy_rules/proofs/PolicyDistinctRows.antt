-- Rows that are sound and of distinct priorities, one row further.
use Rattle.std.proofs.Common.{[], ◌++◌, ◌+◌, ◌<◌, ◌^◌, ◌||◌, ◌∙◌, ◌∷◌, ◌≡◌, ◌≢◌, ◌≤◌, All, Bool, List, ap, cond, eq-eqb, eqb, false, get_or, length, subst, sym, take, take_all, true, ℕ, rules}
use Rattle.base.proofs.Exports.{All-more, all_pairs_push, get_or_default, list_any-from_Any, list_any_more, take_more}
use Rattle.policy_rules.specs.declared.policy.Row.{Row}
use Rattle.policy_rules.specs.Exports.{PolicyHasDistinctPriorities, IsPolicy, IsSoundPolicyRow, policy_has_priority}

or_from_cond : (a b : Bool) → cond a true b ≡ (b || a)
or_from_cond a b = search rules

-- one more priority seen
pub seen_more : (rows : List Row) (i : ℕ) (row : Row) (q : ℕ) → i < length rows
    → row ≡ get_or rows i row → cond (eqb row.priority q) true (policy_has_priority (take i rows) q)
    ≡ policy_has_priority (take (i + 1) rows) q
seen_more rows i row q within is = or_from_cond (eqb row.priority q) (policy_has_priority (take i rows) q)
    ∙ ap (λ (x : Row). policy_has_priority (take i rows) q || eqb x.priority q) is
    ∙ sym (list_any_more (λ (x : Row). eqb x.priority q) rows i row within)

-- a row of a new priority leaves the priorities distinct
pub distinct_push : (rows : List Row) (row : Row) → PolicyHasDistinctPriorities rows
    → policy_has_priority rows row.priority ≡ false → PolicyHasDistinctPriorities (rows ++ row ∷ [])
distinct_push rows row distinct new = all_pairs_push (λ (x y : Row). x.priority ≢ y.priority) rows
    row distinct (λ k d within same.
    let some = list_any-from_Any (λ (x : Row). eqb x.priority row.priority) rows (
      k,
      get_or rows k d,
      within,
      get_or_default rows k (get_or rows k d) d within,
      eq-eqb _ _ same,
    ) in
    cc)

pub distinct_more : (rows : List Row) (i : ℕ) (row : Row) → i < length rows
    → row ≡ get_or rows i row → PolicyHasDistinctPriorities (take i rows)
    → policy_has_priority (take i rows) row.priority ≡ false → PolicyHasDistinctPriorities (take (i + 1) rows)
distinct_more rows i row within is distinct new =
    rw (ap (λ x. take i rows ++ x ∷ []) is ∙ sym (take_more rows i row within)) at
    (distinct_push (take i rows) row distinct new)

-- the first rows are as those of a policy are
pub record AreSoFar (rows : List Row) (i : ℕ) : Type 0 where
  pub sound : All IsSoundPolicyRow (take i rows)
  pub distinct : PolicyHasDistinctPriorities (take i rows)

pub so_far_more : (rows : List Row) (i : ℕ) (row : Row) → i < length rows
    → row ≡ get_or rows i row → AreSoFar rows i → IsSoundPolicyRow row
    → policy_has_priority (take i rows) row.priority ≡ false → AreSoFar rows (i + 1)
so_far_more rows i row within is so_far sound new = record {
  sound = All-more IsSoundPolicyRow rows i row within so_far.sound (subst IsSoundPolicyRow is sound);
  distinct = distinct_more rows i row within is so_far.distinct new;
}

pub so_far_all : (rows : List Row) (i : ℕ) → length rows ≤ i → length rows < 2 ^ 32
    → AreSoFar rows i → IsPolicy rows
so_far_all rows i past few so_far = let all = take_all i rows past in record {
  sound = subst (All IsSoundPolicyRow) all so_far.sound;
  distinct = subst PolicyHasDistinctPriorities all so_far.distinct;
  few = few;
}
