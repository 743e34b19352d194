-- Narrowing, rule by rule.
use Rattle.std.proofs.Common.{[], ◌&&◌, ◌++◌, ◌+◌, ◌<◌, ◌∙◌, ◌∷◌, ◌≡◌, ◌≤◌, All, Bool, IsTrue, List, None, Some, ap, append-nil, append_assoc, arith, drop, eq-eqb, eqb, eqb-true, false, get_or, inl, inr, length, ne_eqb, refl, sym, true, ℕ, rules}
use Rattle.base.proofs.Exports.{All-cons, All-head, All-nil, All-same, All-tail, at_drop_all, at_item, bit_at, bit_at-lt, cases_Bool, false_from_ne_true, nat_tests, same_from_bits}
use Rattle.ternary.specs.Exports.{IsWord, WordValue, word_covers_of, word_meet_of, word_meets}
use Rattle.ternary.proofs.TernaryCallerLemmas.{covers_decides, covers_full, covers_reflexive, meet_greatest, meet_within, meet_word, meet_none, meet_some, met_joined}
use Rattle.policy_rules.specs.declared.rules.Rule.{Rule}
use Rattle.cut_tree.specs.Exports.{AreCutNodeRules, AreCutRuleWords, IsCutRegionOneHeader, LiesInCutRegion, narrow, cut_narrowed_rule}

-- ---- one rule

pub narrow_apart : (region : WordValue) (rule : Rule) (rules : List Rule)
    → word_meets rule.word region ≡ false → narrow (rule ∷ rules) region ≡ narrow rules region
unfolding narrow
narrow_apart region rule rules apart = rw apart

pub narrow_covered : (region : WordValue) (rule : Rule) (rules : List Rule)
    → word_meets rule.word region ≡ true → word_covers_of rule.word region ≡ true
    → narrow (rule ∷ rules) region ≡ cut_narrowed_rule region rule ∷ []
unfolding narrow
narrow_covered region rule rules meet covers = rw (meet, covers)

pub narrow_more : (region : WordValue) (rule : Rule) (rules : List Rule)
    → word_meets rule.word region ≡ true → word_covers_of rule.word region ≡ false
    → narrow (rule ∷ rules) region ≡ cut_narrowed_rule region rule ∷ narrow rules region
unfolding narrow
narrow_more region rule rules meet past = rw (meet, past)

pub narrow_none : (region : WordValue) → narrow [] region ≡ []
unfolding narrow
narrow_none region = refl

-- ---- the rules from one on, as a loop reads them

-- the rule with the word of its headers in the region
abbrev with_word : Rule → WordValue → Rule
with_word rule word = record rule { word = word }

pub narrow_past : (rules : List Rule) (index : ℕ) (rule : Rule) (region : WordValue)
    → index < length rules → rule ≡ get_or rules index rule → word_meet_of rule.word region ≡ None
    → narrow (drop index rules) region ≡ narrow (drop (index + 1) rules) region
narrow_past rules index rule region within is none =
    at_item (λ rs. narrow rs region) rules index rule within is
    ∙ narrow_apart region rule (drop (index + 1) rules) (meet_none _ _ none)

equal_digit : (a b : ℕ) → a < 2 → b < 2 → (a ≡ 1 → b ≡ 1) → (b ≡ 1 → a ≡ 1) → a ≡ b
equal_digit a b p q r s = grind (arith, nat_tests)

same_masks : (m r : WordValue) → IsTrue (word_covers_of m r) → IsTrue (word_covers_of r m) → m.mask ≡ r.mask
same_masks m r p q = same_from_bits m.mask r.mask (λ k.
    equal_digit (bit_at m.mask k) (bit_at r.mask k) (bit_at-lt m.mask k) (bit_at-lt r.mask k)
    (λ e. ((covers_decides m r).0 p k e).0) (λ e. ((covers_decides r m).0 q k e).0))

mask_covers : (m r : WordValue) → IsTrue (word_covers_of r m) → m.mask ≡ r.mask → IsTrue (word_covers_of m r)
mask_covers m r q e = search (rules, covers_decides)

-- a word covers the region that its meet with the region covers
covers_met : (w r m : WordValue) → word_meet_of w r ≡ Some m → word_covers_of m r ≡ word_covers_of w r
covers_met w r m met = cc (meet_greatest w r m r met, covers_reflexive r, both_true (word_covers_of w r))
  where
    both_true : (b : Bool) → (b && true) ≡ b
    both_true true = refl
    both_true false = refl

-- it does so where the meet fixes the bits that the region does, and no others
pub covers_by_mask : (w r m : WordValue) → word_meet_of w r ≡ Some m → word_covers_of w r ≡ eqb m.mask r.mask
covers_by_mask w r m met = by_case (word_covers_of w r) refl where
  inside : IsTrue (word_covers_of r m)
  inside = (meet_within w r m met).1

  by_case : (b : Bool) → word_covers_of w r ≡ b → b ≡ eqb m.mask r.mask
  by_case true is = sym (eq-eqb m.mask r.mask (same_masks m r (covers_met w r m met ∙ is) inside))
  by_case false is = sym (false_from_ne_true (eqb m.mask r.mask) (λ same. let covers =
      sym (covers_met w r m met) ∙ mask_covers m r inside (eqb-true m.mask r.mask same) in cc))

narrow_last : (rules : List Rule) (index : ℕ) (rule : Rule) (region word : WordValue)
    → index < length rules → rule ≡ get_or rules index rule → word_meet_of rule.word region ≡ Some word
    → word_covers_of rule.word region ≡ true → narrow (drop index rules) region ≡ with_word rule
    word ∷ []
unfolding cut_narrowed_rule
narrow_last rules index rule region word within is some covers = let met = meet_some _ _ _ some in
    at_item (λ rs. narrow rs region) rules index rule within is
    ∙ narrow_covered region rule (drop (index + 1) rules) met.0 covers
    ∙ ap (λ w. with_word rule w ∷ []) met.1

narrow_step : (rules : List Rule) (index : ℕ) (rule : Rule) (region word : WordValue)
    → index < length rules → rule ≡ get_or rules index rule → word_meet_of rule.word region ≡ Some word
    → word_covers_of rule.word region ≡ false → narrow (drop index rules) region ≡ with_word rule
    word ∷ narrow (drop (index + 1) rules) region
unfolding cut_narrowed_rule
narrow_step rules index rule region word within is some past =
    let rest : List Rule = drop (index + 1) rules in
    let met = meet_some _ _ _ some in
    at_item (λ rs. narrow rs region) rules index rule within is
    ∙ narrow_more region rule rest met.0 past
    ∙ ap (λ w. with_word rule w ∷ narrow rest region) met.1

pub narrow_end : (rules : List Rule) (index : ℕ) (region : WordValue) → length rules ≤ index
    → narrow (drop index rules) region ≡ []
narrow_end rules index region past = at_drop_all (λ rs. narrow rs region) rules index past
    ∙ narrow_none region

-- a loop that keeps what narrowing keeps, `whole`, has read the rules before `index`
module _ (rules kept whole : List Rule) (index : ℕ) (region : WordValue)
    (so_far : whole ≡ kept ++ narrow (drop index rules) region) where
  behind_kept : (rest : List Rule) → narrow (drop index rules) region ≡ rest → whole ≡ kept ++ rest
  behind_kept rest is = so_far ∙ ap (λ rules. kept ++ rules) is

  pub keeps_all : length rules ≤ index → whole ≡ kept
  keeps_all past = behind_kept [] (narrow_end rules index region past) ∙ append-nil kept

  -- the next rule, where it meets the region
  module _ (rule : Rule) (word : WordValue) (within : index < length rules)
      (is : rule ≡ get_or rules index rule) (met : word_meet_of rule.word region ≡ Some word) where
    pub keeps_last : word.mask ≡ region.mask → whole ≡ kept ++ with_word rule word ∷ []
    keeps_last same = behind_kept _ (narrow_last rules index rule region word within is met
        (covers_by_mask rule.word region word met ∙ eq-eqb _ _ same))

    pub keeps_next : (word.mask ≡ region.mask → ⊥)
        → whole ≡ (kept ++ with_word rule word ∷ []) ++ narrow (drop (index + 1) rules) region
    keeps_next other =
        behind_kept _ (narrow_step rules index rule region word within is met
        (covers_by_mask rule.word region word met ∙ ne_eqb _ _ other))
        ∙ sym (append_assoc kept (with_word rule word ∷ []) (narrow (drop (index + 1) rules) region))

-- ---- what narrowed rules are

-- narrowing keeps a fact of each narrowed rule
all_narrowed : (P : Rule → Type 0) (rules : List Rule) (region : WordValue)
    → ((rule : Rule) → word_meets rule.word region ≡ true → P (cut_narrowed_rule region rule))
    → All P (narrow rules region)
all_narrowed P [] region each = All-same P _ _ (narrow_none region) (All-nil P)
all_narrowed P (rule ∷ rules) region each = let rest = all_narrowed P rules region each in
    elim (cases_Bool (word_meets rule.word region)) [
      | inl meet ↦ elim (cases_Bool (word_covers_of rule.word region)) [
        | inl covers ↦ All-same P _ _ (narrow_covered region rule rules meet covers)
            (All-cons P (cut_narrowed_rule region rule) [] (each rule meet) (All-nil P))
        | inr past ↦ All-same P _ _ (narrow_more region rule rules meet past)
            (All-cons P (cut_narrowed_rule region rule) (narrow rules region) (each rule meet) rest)
      ]
      | inr apart ↦ All-same P _ _ (narrow_apart region rule rules apart) rest
    ]

pub narrow_within : (rules : List Rule) (region : WordValue)
    → All (LiesInCutRegion region) (narrow rules region)
unfolding cut_narrowed_rule
narrow_within rules region = all_narrowed (LiesInCutRegion region) rules region
    (λ rule meet. (meet_within rule.word region _ (met_joined rule.word region meet)).1)

pub narrow_few : (rules : List Rule) (region : WordValue) → length (narrow rules region) ≤ length
    rules
narrow_few [] region = omega (arith, ap length (narrow_none region))
narrow_few (rule ∷ rules) region = let rest = narrow_few rules region in
    elim (cases_Bool (word_meets rule.word region)) [
      | inl meet ↦ elim (cases_Bool (word_covers_of rule.word region)) [
        | inl covers ↦ omega (arith, ap length (narrow_covered region rule rules meet covers))
        | inr past ↦ omega (arith, ap length (narrow_more region rule rules meet past))
      ]
      | inr apart ↦ omega (arith, ap length (narrow_apart region rule rules apart))
    ]

pub narrow_words : (rules : List Rule) (region : WordValue) → IsWord region → AreCutRuleWords rules
    → AreCutRuleWords (narrow rules region)
unfolding cut_narrowed_rule
narrow_words [] region whole words = search (rules, All-same, narrow_none)
narrow_words (rule ∷ rules) region whole words =
    let P : Rule → Type 0 = λ rule. IsWord rule.word in
    let rest = narrow_words rules region whole (All-tail P rule rules words) in
    let word : word_meets rule.word region ≡ true → P (cut_narrowed_rule region rule) = λ meet. meet_word
    rule.word region _ (All-head P rule rules words) whole (met_joined rule.word region meet) in
    elim (cases_Bool (word_meets rule.word region)) [
      | inl meet ↦ elim (cases_Bool (word_covers_of rule.word region)) [
        | inl covers ↦ All-same P _ _ (narrow_covered region rule rules meet covers)
            (All-cons P (cut_narrowed_rule region rule) [] (word meet) (All-nil P))
        | inr past ↦ All-same P _ _ (narrow_more region rule rules meet past)
            (All-cons P (cut_narrowed_rule region rule) (narrow rules region) (word meet) rest)
      ]
      | inr apart ↦ All-same P _ _ (narrow_apart region rule rules apart) rest
    ]

-- one header has at most one rule, which covers it
pub narrow_one : (rules : List Rule) (region : WordValue) → AreCutRuleWords rules → IsCutRegionOneHeader region
    → length (narrow rules region) ≤ 1
narrow_one [] region words one = omega (arith, ap length (narrow_none region))
narrow_one (rule ∷ rules) region words one =
    let P : Rule → Type 0 = λ rule. IsWord rule.word in
    let rest = narrow_one rules region (All-tail P rule rules words) one in
    elim (cases_Bool (word_meets rule.word region)) [
      | inl meet ↦
          let covers = covers_full rule.word region (All-head P rule rules words) one meet in
          omega (arith, ap length (narrow_covered region rule rules meet covers))
      | inr apart ↦ omega (arith, ap length (narrow_apart region rule rules apart))
    ]

pub narrow_node : (rules : List Rule) (region : WordValue) → IsWord region → AreCutRuleWords rules
    → AreCutNodeRules (narrow rules region) region
narrow_node rules region whole words = search (rules, narrow_words, narrow_within, narrow_one)
