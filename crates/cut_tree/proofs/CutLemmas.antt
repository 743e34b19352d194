-- The least cut of a region.
use Rattle.std.proofs.Common.{◌<◌, ◌∙◌, ◌≡◌, IsFalse, List, None, Option, Some, ap, arith, false, inl, inr, refl, subst, suc, sym, true, zero, ℕ, rules}
use Rattle.base.proofs.Exports.{both_ways, cases_Bool, cases_eq, cond-false, cond-true}
use Rattle.ternary.specs.Exports.{WordValue, is_word_bit_fixed}
use Rattle.policy_rules.specs.declared.rules.Rule.{Rule}
use Rattle.cut_tree.specs.Exports.{CutCostsAtMost, IsLeastCut, cheaper_cut_cost, cut_cost_of, is_cheaper_cut, least_cut_cost_below}
use Rattle.cut_tree.specs.declared.choice.Cost.{Cost}

pub least_none : (rules : List Rule) (region : WordValue) → least_cut_cost_below 0 rules region ≡ None
unfolding least_cut_cost_below
least_none rules region = refl

at_fixed : (n : ℕ) (rules : List Rule) (region : WordValue) → is_word_bit_fixed region n ≡ true
    → least_cut_cost_below (suc n) rules region ≡ least_cut_cost_below n rules region
unfolding least_cut_cost_below
at_fixed n rules region fixed = rw fixed

at_free : (n : ℕ) (rules : List Rule) (region : WordValue) → is_word_bit_fixed region n ≡ false
    → least_cut_cost_below (suc n) rules region ≡ Some
    (cheaper_cut_cost (cut_cost_of rules region n) (least_cut_cost_below n rules region))
unfolding least_cut_cost_below
at_free n rules region free = rw free

-- there is none where no bit is free
pub least_nowhere : (n : ℕ) (rules : List Rule) (region : WordValue)
    → ((bit : ℕ) → bit < n → is_word_bit_fixed region bit ≡ true) → least_cut_cost_below n rules region ≡ None
least_nowhere zero rules region fixed = least_none rules region
least_nowhere (suc n) rules region fixed = at_fixed n rules region (fixed n (omega arith))
    ∙ least_nowhere n rules region (λ bit within. fixed bit (omega arith))

-- ---- the function gives a least cut

-- what is known of the least cut at a bit below a number
record IsLeastBelow (n : ℕ) (rules : List Rule) (region : WordValue) (cost : Cost) : Type 0 where
  pub is : cost ≡ cut_cost_of rules region cost.bit
  pub bound : cost.bit < n
  pub free : IsFalse (is_word_bit_fixed region cost.bit)
  pub least : (other : ℕ) → other < n → IsFalse (is_word_bit_fixed region other)
      → CutCostsAtMost cost (cut_cost_of rules region other)

at_most_self : (a : Cost) → CutCostsAtMost a a
at_most_self a = record { larger = omega arith; sum = λ e. omega arith; bit = λ e f. omega arith }

at_most_trans : (a b c : Cost) → CutCostsAtMost a b → CutCostsAtMost b c → CutCostsAtMost a c
at_most_trans a b c p q =
    record { larger = omega arith; sum = λ e. omega arith; bit = λ e f. omega arith }

-- a cheaper cost of a higher bit is less; one that isn't cheaper is at least that of a lower bit
cheaper_less : (a b : Cost) → is_cheaper_cut a b ≡ true → CutCostsAtMost a b
cheaper_less a b is = grind arith

not_cheaper : (a b : Cost) → b.bit < a.bit → is_cheaper_cut a b ≡ false → CutCostsAtMost b a
not_cheaper a b lower is = grind arith

-- no bit is free where there is no least cut
pub least_missing : (n : ℕ) (rules : List Rule) (region : WordValue) → least_cut_cost_below n rules region
    ≡ None → (bit : ℕ) → bit < n → is_word_bit_fixed region bit ≡ true
least_missing zero rules region none bit within = absurd (omega arith)
least_missing (suc n) rules region none bit within = elim (cases_Bool (is_word_bit_fixed region n)) [
  | inl fixed ↦ elim (cases_eq bit n) [
    | inl same ↦ ap (is_word_bit_fixed region) same ∙ fixed
    | inr other ↦ least_missing n rules region (sym (at_fixed n rules region fixed) ∙ none) bit
        (omega arith)
  ]
  | inr free ↦ let never = sym (at_free n rules region free) ∙ none in cc
]

-- what is known one bit further
further : (n : ℕ) (rules : List Rule) (region : WordValue) (cost : Cost) → IsLeastBelow n rules
    region cost → (is_word_bit_fixed region n ≡ false → CutCostsAtMost cost (cut_cost_of rules region n))
    → IsLeastBelow (suc n) rules region cost
further n rules region cost below here = record {
  is = below.is;
  bound = omega (arith, below.bound);
  free = below.free;
  least = λ other within free. elim (cases_eq other n) [
    | inl same ↦ let Goal : ℕ → Type 0 = λ k. CutCostsAtMost cost (cut_cost_of rules region k) in
        subst Goal (sym same) (here (sym (ap (is_word_bit_fixed region) same) ∙ free))
    | inr before ↦ below.least other (omega arith) free
  ];
}

-- a new least cut
newest : (n : ℕ) (rules : List Rule) (region : WordValue) → is_word_bit_fixed region n ≡ false
    → ((other : ℕ) → other < n → IsFalse (is_word_bit_fixed region other)
    → CutCostsAtMost (cut_cost_of rules region n) (cut_cost_of rules region other))
    → IsLeastBelow (suc n) rules region (cut_cost_of rules region n)
newest n rules region free before = record {
  is = refl;
  bound = omega arith;
  free = free;
  least = λ other within freed. elim (cases_eq other n) [
    | inl same ↦
        let Goal : ℕ → Type 0 = λ k. CutCostsAtMost (cut_cost_of rules region n) (cut_cost_of rules region k) in
        subst Goal (sym same) (at_most_self (cut_cost_of rules region n))
    | inr lower ↦ before other (omega arith) freed
  ];
}

least_after : (n : ℕ) (rules : List Rule) (region : WordValue) (before : Option Cost)
    → least_cut_cost_below n rules region ≡ before
    → ((cost : Cost) → before ≡ Some cost → IsLeastBelow n rules region cost) → is_word_bit_fixed region n
    ≡ false → IsLeastBelow (suc n) rules region (cheaper_cut_cost (cut_cost_of rules region n) before)
least_after n rules region None is known free = newest n rules region free (λ other within freed.
    absurd (both_ways _ freed (least_missing n rules region is other within)))
least_after n rules region (Some best) is known free =
    let cost = cut_cost_of rules region n in
    let below = known best refl in
    elim (cases_Bool (is_cheaper_cut cost best)) [
      | inl less ↦
          rw (cond-true _ cost best less) (newest n rules region free (λ other within freed.
          at_most_trans cost best _ (cheaper_less cost best less) (below.least other within freed)))
      | inr more ↦ let same : cheaper_cut_cost cost (Some best) ≡ best = cond-false _ cost best more in
          rw same (further n rules region best below (λ _. not_cheaper cost best below.bound more))
    ]

some_same : (a b : Cost) → Some a ≡ Some b → a ≡ b
some_same a b e = cc

least_some : (n : ℕ) (rules : List Rule) (region : WordValue) (cost : Cost)
    → least_cut_cost_below n rules region ≡ Some cost → IsLeastBelow n rules region cost
least_some zero rules region cost is = let never = sym (least_none rules region) ∙ is in cc
least_some (suc n) rules region cost is = elim (cases_Bool (is_word_bit_fixed region n)) [
  | inl fixed ↦ further n rules region cost (least_some n rules region cost
      (sym (at_fixed n rules region fixed) ∙ is)) (λ free. absurd (both_ways _ free fixed))
  | inr free ↦ subst (IsLeastBelow (suc n) rules region)
      (some_same _ _ (sym (at_free n rules region free) ∙ is)) (least_after n rules region
      (least_cut_cost_below n rules region) refl (λ best known. least_some n rules region best known) free)
]

-- the least cut of all
pub least_cuts : (rules : List Rule) (region : WordValue) (cost : Cost)
    → least_cut_cost_below 104 rules region ≡ Some cost → IsLeastCut rules region cost.bit
least_cuts rules region cost is =
    let below = least_some 104 rules region cost is in
    let Goal : (ℕ → Cost → Type 0) = λ other best. CutCostsAtMost best (cut_cost_of rules region other) in
    record {
      cuts = record { bound = below.bound; free = below.free };
      least = λ other free. subst (Goal other) below.is (below.least other free.bound free.free);
    }

-- costs of which neither is greater are those of one bit
at_most_both : (a b : Cost) → CutCostsAtMost a b → CutCostsAtMost b a → a.bit ≡ b.bit
at_most_both a b p q = grind arith

-- and it is the only one
pub least_only : (rules : List Rule) (region : WordValue) (a b : ℕ) → IsLeastCut rules region a
    → IsLeastCut rules region b → a ≡ b
least_only rules region a b p q = at_most_both (cut_cost_of rules region a) (cut_cost_of rules region b)
    (p.least b q.cuts) (q.least a p.cuts)

found_by : (rules : List Rule) (region : WordValue) (bit : ℕ) → IsLeastCut rules region bit
    → (found : Option Cost) → least_cut_cost_below 104 rules region ≡ found → (cost : Cost)
    × (least_cut_cost_below 104 rules region ≡ Some cost) × (cost.bit ≡ bit)
found_by rules region bit p None is = search (rules, both_ways, least_missing)
found_by rules region bit p (Some cost) is = search (rules, least_only, least_cuts)

pub least_found : (rules : List Rule) (region : WordValue) (bit : ℕ) → IsLeastCut rules region bit
    → (cost : Cost) × (least_cut_cost_below 104 rules region ≡ Some cost) × (cost.bit ≡ bit)
least_found rules region bit p = found_by rules region bit p (least_cut_cost_below 104 rules region) refl

pub least_is : (rules : List Rule) (region : WordValue) (bit : ℕ) → IsLeastCut rules region bit
    → least_cut_cost_below 104 rules region ≡ Some (cut_cost_of rules region bit)
least_is rules region bit p =
    let found = least_found rules region bit p in
    let below = least_some 104 rules region found.0 found.1 in
    found.1 ∙ ap Some (below.is ∙ ap (cut_cost_of rules region) found.2)
