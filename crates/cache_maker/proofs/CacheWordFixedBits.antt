-- The bits that stay fixed: each has its reason, and no earlier rule is met any more. They are
-- those of the word whose bits were freed in turn.
use Rattle.std.proofs.Common.{◌%◌, ◌&&◌, ◌*◌, ◌+◌, ◌-◌, ◌<◌, ◌==◌, ◌^◌, ◌||◌, ◌∙◌, ◌≡◌, ◌≢◌, ◌≤◌, ◌⊎◌, All, Bool, IsFalse, IsSomeAnd, IsTrue, List, ap, arith, bit_and, bit_or, bit_xor, cond, eq-eqb, eqb-true, false, get_or, get_or-set_other, get_or-set_same, inl, inr, is_none, length, length-set, min, ne_eqb, not, pow_pos, refl, replicate, set, slice_get, subst, suc, sym, take, true, zero, ℕ, rules}
use Rattle.std.specs.Int.{bit_at}
use Rattle.std.specs.Int.Bits.{xor_add_and}
use Rattle.std.proofs.lemmas.Bool.{both_ways, cases_Bool, cases_lt, cases_eq, not-true}
use Rattle.std.proofs.lemmas.Bool.Decides.{nat_tests}
use Rattle.std.proofs.lemmas.List.{get_or-replicate, length-replicate}
use Rattle.std.proofs.lemmas.Option.{slice_get-get_or}
use Rattle.std.proofs.lemmas.List.Elements.{All-take}
use Rattle.std.proofs.lemmas.List.Sums.{AllPass-from_list_all, list_all-from_AllPass}
use Rattle.std.proofs.Math.ListN.{get_or-eq_default}
use Rattle.std.proofs.Math.Nat.{div-eq_of_lt-le}
use Rattle.std.proofs.Math.Pow.{pow-lt}
use Rattle.std.proofs.lemmas.Nat.{or_lt, xor_lt}
use Rattle.std.proofs.lemmas.Nat.Bits.{and_pow, bit_at_and, bit_at_or, bit_at_xor, bit_at-lt, bit_at-zero, bit_at_above, bit_at-pow_other, bit_at-pow_same, same_from_bits}
use Rattle.ternary.proofs.TernaryCallerLemmas.{or_left, or_right}
use Rattle.ternary.specs.Exports.{WordCoversLaws, TernaryExactLaws, TernaryFreeLaws, IsWord, TernaryMeetLaws, WordValue, words_agree_at, exact_word, ternary_with_bit_freed, is_word_bit_fixed, word_meet_of, word_meets}
use Rattle.policy_rules.specs.declared.rules.Rule.{Rule}
use Rattle.cache_maker.specs.Independent.{IsIndependentCacheWord, is_cache_word_apart, is_cache_word_independent, widening_of}
use Rattle.cache_maker.specs.Differing.{AreFixedBitsWithoutReason, cache_widening_difference, rule_meets_widened_word}
use Rattle.cache_maker.proofs.IndependentCacheWords.{true_not}
use Rattle.cache_maker.proofs.WidenedCacheWords.{widened_independent, widened_word}
use Rattle.cache_maker.proofs.CacheWordDifferences.{as_header, differs_at, past_header, same_at, still_fixed, test_parts}

-- what `widen` is given: `closed` has the bits that the region or the rule fixes
pub record IsGiven (h : ℕ) (region : WordValue) (rules : List Rule) (index closed : ℕ) : Type 0 where
  pub covers : WordCoversLaws
  pub meet : TernaryMeetLaws
  pub exact : TernaryExactLaws
  pub free : TernaryFreeLaws
  pub bound : h < 2 ^ 104
  pub words : All (λ (rule : Rule). IsWord rule.word) rules
  pub start : IsIndependentCacheWord region rules index (exact_word h)
  pub within : index < length rules
  pub d : Rule
  pub closes : (n : ℕ) → not (bit_at closed n == 1)
      ≡ (not (is_word_bit_fixed region n) && not (is_word_bit_fixed (get_or rules index d).word n))

-- some earlier rule differs from the header in these bits
pub record IsOfRule (h : ℕ) (earlier : List Rule) (reason : ℕ) : Type 0 where
  pub place : ℕ
  pub d : Rule
  pub within : place < length earlier
  pub is : cache_widening_difference h (get_or earlier place d).word ≡ reason

-- a bit is fixed because it is closed, or because it is the highest one by which an earlier rule
-- differs from the header, which does so in none of the fixed bits below
pub record AreFixed (h closed : ℕ) (earlier : List Rule) (fixed : ℕ) (reasons : List ℕ) : Type 0 where
  pub sized : length reasons ≡ 104
  pub small : fixed < 2 ^ 104
  pub closed_stay : (n : ℕ) → bit_at closed n ≡ 1 → bit_at fixed n ≡ 1
  pub no_reason : (n : ℕ) → bit_at closed n ≡ 1 → get_or reasons n 0 ≡ 0
  pub highest : (n : ℕ) → bit_at fixed n ≡ 1 → get_or reasons n 0 < 2 ^ (suc n)
  pub lower : (n j : ℕ) → bit_at fixed n ≡ 1 → j < n → bit_at (get_or reasons n 0) j ≡ 1
      → bit_at fixed j ≡ 0
  pub cause : (n : ℕ) → bit_at fixed n ≡ 1
      → (bit_at closed n ≡ 1) ⊎ IsOfRule h earlier (get_or reasons n 0)

-- ---- digits

zero_of : (d : ℕ) → d < 2 → d ≢ 1 → d ≡ 0
zero_of d small other = omega (arith, small, other)

digit_same : (a b : ℕ) → a < 2 → b < 2 → (a == 1) ≡ (b == 1) → a ≡ b
digit_same a b p q e = grind (arith, nat_tests)

-- the bits of two masks
pub closes_both : (region rule : WordValue) (m n : ℕ) → m ≡ region.mask → n ≡ rule.mask → (bit : ℕ)
    → not (bit_at (bit_or m n) bit == 1)
    ≡ (not (is_word_bit_fixed region bit) && not (is_word_bit_fixed rule bit))
unfolding is_word_bit_fixed
closes_both region rule m n same also bit = search (rules, nat_tests, bit_at_or, bit_at-lt)

-- ---- a turn

-- a turn leaves the bits before it as they are
kept_after : TernaryFreeLaws → (h : ℕ) (region : WordValue) (rules : List Rule) (index n m : ℕ) → n < m
    → is_word_bit_fixed (widening_of h region rules index m) n
    ≡ is_word_bit_fixed (widening_of h region rules index (suc n)) n
unfolding widening_of
kept_after free h region rules index n zero below = absurd (omega arith)
kept_after free h region rules index n (suc m) below = elim (cases_lt n m) [
  | inl within ↦ let other : n ≢ m = omega arith in
      by_test (is_cache_word_independent region rules index (ternary_with_bit_freed (widening_of h region rules index m) m))
      other
      ∙ kept_after free h region rules index n m within
  | inr past ↦ let same : suc m ≡ suc n = omega arith in
      ap (λ k. is_word_bit_fixed (widening_of h region rules index k) n) same
] where
  by_test : (b : Bool) → n ≢ m
      → is_word_bit_fixed (cond b (ternary_with_bit_freed (widening_of h region rules index m) m)
      (widening_of h region rules index m)) n ≡ is_word_bit_fixed (widening_of h region rules index m) n
  by_test true other = free.other_bit (widening_of h region rules index m) m n other
  by_test false other = refl

-- a bit stays fixed where it can't be freed in its turn
turn : TernaryExactLaws → TernaryFreeLaws → (h : ℕ) (region : WordValue) (rules : List Rule) (index n m : ℕ)
    → n < m → n < 104 → is_word_bit_fixed (widening_of h region rules index m) n
    ≡ not (is_cache_word_independent region rules index (ternary_with_bit_freed (widening_of h region rules index n) n))
unfolding widening_of
turn exact free h region rules index n m before below =
    kept_after free h region rules index n m before
    ∙ by_test (is_cache_word_independent region rules index (ternary_with_bit_freed (widening_of h region rules index n) n))
  where
    by_test : (b : Bool) → is_word_bit_fixed (cond b (ternary_with_bit_freed (widening_of h region rules index n) n)
        (widening_of h region rules index n)) n ≡ not b
    by_test true = free.same_bit (widening_of h region rules index n) n
    by_test false = still_fixed exact free h region rules index n n (omega arith) below

pub independent_at : {h : ℕ} {region : WordValue} {rules : List Rule} {index closed : ℕ}
    → IsGiven h region rules index closed → (n : ℕ)
    → IsIndependentCacheWord region rules index (widening_of h region rules index n)
independent_at {h} {region} {rules} {index} given n = search (rules, widened_independent)

-- whether a bit is fixed at last
at_last : {h : ℕ} {region : WordValue} {rules : List Rule} {index closed : ℕ}
    → IsGiven h region rules index closed → (n : ℕ) → n < 104
    → is_word_bit_fixed (widening_of h region rules index 104) n ≡ not (not (bit_at closed n == 1)
    && is_cache_word_apart (ternary_with_bit_freed (widening_of h region rules index n) n) (take index rules))
at_last {h} {region} {rules} {index} {closed} given n below =
    let word = widening_of h region rules index n in
    let apart = is_cache_word_apart (ternary_with_bit_freed word n) (take index rules) in
    turn given.exact given.free h region rules index n 104 below below
    ∙ ap not (sym (ap (λ b. b && apart) (given.closes n)
    ∙ test_parts given.free region rules index n word given.d given.within (independent_at given n)))

-- ---- the words that a freed word meets

-- it meets those that differ from the header in none of its fixed bits
met_if : {h : ℕ} {region : WordValue} {rules : List Rule} {index closed : ℕ}
    → IsGiven h region rules index closed → (n : ℕ) (rule : WordValue)
    → ((j : ℕ) → j ≢ n → IsTrue (is_word_bit_fixed (widening_of h region rules index n) j)
    → bit_at (cache_widening_difference h rule) j ≡ 0)
    → IsTrue (word_meets (ternary_with_bit_freed (widening_of h region rules index n) n) rule)
unfolding is_word_bit_fixed words_agree_at
met_if {h} {region} {rules} {index} given n rule none = (given.free.meets_others word rule n).1 agrees
  where
    word : WordValue
    word = widening_of h region rules index n

    agrees : (j : ℕ) → j ≢ n → IsTrue (words_agree_at word rule j)
    agrees j other = elim (cases_Bool (words_agree_at word rule j)) [
      | inl agree ↦ agree
      | inr apart_at ↦ elim (cases_Bool (is_word_bit_fixed word j)) [
        | inl fixed ↦ let one = differs_at word rule h j fixed
            (as_header given.covers given.free h region rules index n j fixed) apart_at in
            absurd (omega (arith, one, none j other fixed))
        | inr unfixed ↦ absurd (both_ways _ apart_at (ap (λ f. not (f && (bit_at rule.mask j == 1))
            || (bit_at word.value j == bit_at rule.value j)) unfixed))
      ]
    ]

met_only : {h : ℕ} {region : WordValue} {rules : List Rule} {index closed : ℕ}
    → IsGiven h region rules index closed → (n : ℕ) (rule : WordValue)
    → IsTrue (word_meets (ternary_with_bit_freed (widening_of h region rules index n) n) rule)
    → (j : ℕ) → j ≢ n → IsTrue (is_word_bit_fixed (widening_of h region rules index n) j)
    → bit_at (cache_widening_difference h rule) j ≡ 0
met_only {h} {region} {rules} {index} given n rule met j other fixed =
    let word = widening_of h region rules index n in
    same_at word rule h j fixed (as_header given.covers given.free h region rules index n j fixed)
    ((given.free.meets_others word rule n).0 met j other)

-- ---- the bits that are fixed at last

-- the bits below n are those that are fixed at last
abbrev AreSameBelow : ℕ → WordValue → ℕ → Type 0
AreSameBelow fixed word n = (j : ℕ) → j < n → bit_at fixed j ≡ bit_at word.mask j

-- what is fixed in the turn of n, below it
in_turn : {h : ℕ} {region : WordValue} {rules : List Rule} {index closed : ℕ}
    → IsGiven h region rules index closed → (fixed n : ℕ) → n < 104
    → AreSameBelow fixed (widening_of h region rules index 104) n → (j : ℕ) → j < n
    → is_word_bit_fixed (widening_of h region rules index n) j ≡ (bit_at fixed j == 1)
unfolding is_word_bit_fixed
in_turn {h} {region} {rules} {index} given fixed n below same j before =
    kept_after given.free h region rules index j n before
    ∙ sym (kept_after given.free h region rules index j 104 (omega arith))
    ∙ ap (λ b. b == 1) (sym (same j before))

-- a reason is the differing bits of a rule that the freed word meets
reason_meets : {h : ℕ} {region : WordValue} {rules : List Rule} {index closed fixed : ℕ}
    {reasons : List ℕ} → IsGiven h region rules index closed
    → AreFixed h closed (take index rules) fixed reasons → (n : ℕ) → n < 104
    → AreSameBelow fixed (widening_of h region rules index 104) n → bit_at fixed n ≡ 1
    → IsOfRule h (take index rules) (get_or reasons n 0)
    → is_cache_word_apart (ternary_with_bit_freed (widening_of h region rules index n) n) (take index rules) ≡ false
unfolding is_cache_word_apart
reason_meets {h} {region} {rules} {index} {closed} {fixed} {reasons} given are n below same one of =
    elim (cases_Bool (is_cache_word_apart freed (take index rules))) [
      | inr apart ↦ apart
      | inl apart ↦ absurd (both_ways (word_meets freed rule.word) (sym (given.meet.some freed rule.word)
          ∙ (not-true _ (AllPass-from_list_all (λ rule. is_none (word_meet_of freed rule.word))
          (take index rules) apart of.place of.d of.within))) met)
    ]
  where
    freed : WordValue
    freed = ternary_with_bit_freed (widening_of h region rules index n) n

    rule : Rule
    rule = get_or (take index rules) of.place of.d

    met : IsTrue (word_meets freed rule.word)
    met = met_if given n rule.word (λ j other fixed_there. elim (cases_lt j n) [
      | inl before ↦
          let set = eqb-true _ _ (sym (in_turn given fixed n below same j before) ∙ fixed_there) in
          zero_of _ (bit_at-lt (cache_widening_difference h rule.word) j) (λ differs.
          omega (arith, are.lower n j one before (ap (λ x. bit_at x j) (sym of.is) ∙ differs), set))
      | inr past ↦ ap (λ x. bit_at x j) of.is
          ∙ bit_at_above (get_or reasons n 0) (suc n) j (are.highest n one) (omega arith)
    ])

-- where n not_so fixed, the freed word meets no rule
unfixed_apart : {h : ℕ} {region : WordValue} {rules : List Rule} {index closed : ℕ}
    → IsGiven h region rules index closed → (fixed n : ℕ) → n < 104
    → All (λ rule. IsFalse (rule_meets_widened_word h fixed rule)) (take index rules)
    → AreSameBelow fixed (widening_of h region rules index 104) n → bit_at fixed n ≢ 1
    → IsTrue (is_cache_word_apart (ternary_with_bit_freed (widening_of h region rules index n) n) (take index rules))
unfolding is_cache_word_apart
unfixed_apart {h} {region} {rules} {index} {closed} given fixed n below told same unset =
    list_all-from_AllPass (λ rule. is_none (word_meet_of freed rule.word)) (take index rules)
    (λ k d within. true_not _ (given.meet.some freed (get_or (take index rules) k d).word
    ∙ apart (get_or (take index rules) k d) (words k d within) (told k d within)))
  where
    freed : WordValue
    freed = ternary_with_bit_freed (widening_of h region rules index n) n

    words : All (λ (rule : Rule). IsWord rule.word) (take index rules)
    words = All-take (λ (rule : Rule). IsWord rule.word) index rules given.words

    apart : (rule : Rule) → IsWord rule.word → IsFalse (rule_meets_widened_word h fixed rule)
        → word_meets freed rule.word ≡ false
    apart rule is_word unmet = elim (cases_Bool (word_meets freed rule.word)) [
      | inr gone ↦ gone
      | inl met ↦ absurd (both_ways (rule_meets_widened_word h fixed rule) unmet
          (eq-eqb _ _ (same_from_bits _ 0 (λ j. bit_at_and (cache_widening_difference h rule.word) fixed j
          ∙ none met j ∙ sym (bit_at-zero j)))))
    ] where
      none : IsTrue (word_meets freed rule.word) → (j : ℕ)
          → min (bit_at (cache_widening_difference h rule.word) j) (bit_at fixed j) ≡ 0
      none met j = elim (cases_eq (bit_at fixed j) 1) [
        | inr other ↦ omega (arith, zero_of _ (bit_at-lt fixed j) other)
        | inl set ↦ let other : j ≢ n = λ here. unset (ap (λ k. bit_at fixed k) (sym here) ∙ set) in
            omega (arith, differs_not met j other set)
      ] where
        differs_not : IsTrue (word_meets freed rule.word) → (j : ℕ) → j ≢ n → bit_at fixed j ≡ 1
            → bit_at (cache_widening_difference h rule.word) j ≡ 0
        differs_not met j other set = elim (cases_lt j n) [
          | inl before ↦ met_only given n rule.word met j other
              (in_turn given fixed n below same j before ∙ eq-eqb _ _ set)
          | inr past ↦ elim (cases_lt j 104) [
            | inl within ↦ met_only given n rule.word met j other
                (still_fixed given.exact given.free h region rules index n j past within)
            | inr beyond ↦ past_header h j rule.word is_word beyond
          ]
        ]

same_bit : {h : ℕ} {region : WordValue} {rules : List Rule} {index closed fixed : ℕ}
    {reasons : List ℕ} → IsGiven h region rules index closed
    → AreFixed h closed (take index rules) fixed reasons
    → All (λ rule. IsFalse (rule_meets_widened_word h fixed rule)) (take index rules) → (n : ℕ) → n < 104
    → AreSameBelow fixed (widening_of h region rules index 104) n
    → bit_at fixed n ≡ bit_at (widening_of h region rules index 104).mask n
unfolding is_word_bit_fixed
same_bit {h} {region} {rules} {index} {closed} {fixed} {reasons} given are told n below same =
    digit_same _ _ (bit_at-lt fixed n) (bit_at-lt (widening_of h region rules index 104).mask n)
    (elim (cases_eq (bit_at fixed n) 1) [
      | inl one ↦ eq-eqb _ _ one ∙ sym (at_last given n below ∙ caused (are.cause n one) one)
      | inr other ↦ ne_eqb _ _ other ∙ sym (at_last given n below
          ∙ ap (λ b. not (b && apart)) (ap not (ne_eqb _ _ (λ set. other (are.closed_stay n set))))
          ∙ ap not (unfixed_apart given fixed n below told same other))
    ])
  where
    apart : Bool
    apart = is_cache_word_apart (ternary_with_bit_freed (widening_of h region rules index n) n) (take index rules)

    caused : (bit_at closed n ≡ 1) ⊎ IsOfRule h (take index rules) (get_or reasons n 0)
        → bit_at fixed n ≡ 1 → not (not (bit_at closed n == 1) && apart) ≡ true
    caused (inl set) one = ap (λ b. not (not b && apart)) (eq-eqb _ _ set)
    caused (inr of) one = ap (λ b. not (not (bit_at closed n == 1) && b))
        (reason_meets given are n below same one of) ∙ neither (not (bit_at closed n == 1))
      where
        neither : (b : Bool) → not (b && false) ≡ true
        neither true = refl
        neither false = refl

same_below : {h : ℕ} {region : WordValue} {rules : List Rule} {index closed fixed : ℕ}
    {reasons : List ℕ} → IsGiven h region rules index closed
    → AreFixed h closed (take index rules) fixed reasons
    → All (λ rule. IsFalse (rule_meets_widened_word h fixed rule)) (take index rules) → (n : ℕ) → n ≤ 104
    → AreSameBelow fixed (widening_of h region rules index 104) n
same_below given are told zero upto j before = absurd (omega (arith, before))
same_below {h} {region} {rules} {index} {closed} {fixed} given are told (suc n) upto j before =
    elim (cases_lt j n) [
      | inl earlier ↦ same_below given are told n (omega arith) j earlier
      | inr past ↦
          subst (λ k. bit_at fixed k ≡ bit_at (widening_of h region rules index 104).mask k)
          (sym (omega arith))
          (same_bit given are told n (omega arith) (same_below given are told n (omega arith)))
    ]

pub word_at_last : {h : ℕ} {region : WordValue} {rules : List Rule} {index closed fixed : ℕ}
    {reasons : List ℕ} → IsGiven h region rules index closed
    → AreFixed h closed (take index rules) fixed reasons
    → All (λ rule. IsFalse (rule_meets_widened_word h fixed rule)) (take index rules)
    → let word : WordValue = record { value = bit_and h fixed; mask = fixed } in
    word ≡ widening_of h region rules index 104
unfolding is_word_bit_fixed
word_at_last {h} {region} {rules} {index} {closed} {fixed} given are told =
    ap (λ (m : ℕ). let w : WordValue = record { value = bit_and h m; mask = m } in w) masks
    ∙ ap (λ (v : ℕ). let w : WordValue = record { value = v; mask = word.mask } in w) values
  where
    word : WordValue
    word = widening_of h region rules index 104

    is_word : IsWord word
    is_word = widened_word given.free h region rules index 104 (given.exact.word h given.bound)

    masks : fixed ≡ word.mask
    masks = same_from_bits _ _ (λ j. elim (cases_lt j 104) [
      | inl within ↦ same_below given are told 104 (omega arith) j within
      | inr beyond ↦ bit_at_above fixed 104 j are.small beyond
          ∙ sym (bit_at_above word.mask 104 j is_word.bounded beyond)
    ])

    values : bit_and h word.mask ≡ word.value
    values = same_from_bits _ _ (λ j. bit_at_and h word.mask j ∙ by_bit j
        ∙ sym (bit_at_and word.value word.mask j)) ∙ is_word.within
      where
        by_bit : (j : ℕ) → min (bit_at h j) (bit_at word.mask j)
            ≡ min (bit_at word.value j) (bit_at word.mask j)
        by_bit j = elim (cases_eq (bit_at word.mask j) 1) [
          | inl set ↦ ap (λ b. min b (bit_at word.mask j))
              (sym (as_header given.covers given.free h region rules index 104 j (eq-eqb _ _ set)))
          | inr unset ↦ omega (arith, zero_of _ (bit_at-lt word.mask j) unset)
        ]

pub word_is_sound : {h : ℕ} {region : WordValue} {rules : List Rule} {index closed fixed : ℕ}
    {reasons : List ℕ} → IsGiven h region rules index closed
    → AreFixed h closed (take index rules) fixed reasons
    → All (λ rule. IsFalse (rule_meets_widened_word h fixed rule)) (take index rules)
    → let word : WordValue = record { value = bit_and h fixed; mask = fixed } in IsWord word
word_is_sound {h} {region} {rules} {index} given are told = rw (word_at_last given are told)
    (widened_word given.free h region rules index 104 (given.exact.word h given.bound))

-- ---- at first, and with one reason more

abbrev pub no_reasons : List ℕ
no_reasons = replicate 104 0

pub fixed_at_first : (h closed : ℕ) (earlier : List Rule) → closed < 2 ^ 104
    → AreFixed h closed earlier closed no_reasons
fixed_at_first h closed earlier small = record {
  sized = length-replicate {A = ℕ} 104 0;
  small = small;
  closed_stay = λ n set. set;
  no_reason = λ n set. none n;
  highest = λ n set. subst (λ x. x < 2 ^ (suc n)) (sym (none n)) (pow_pos (suc n));
  lower = λ n j set before has.
      absurd (omega (arith, ap (λ x. bit_at x j) (none n) ∙ bit_at-zero j, has));
  cause = λ n set. inl set;
} where
  none : (n : ℕ) → get_or no_reasons n 0 ≡ 0
  none n = elim (cases_lt n 104) [
    | inl within ↦ get_or-replicate 104 n 0 0 within
    | inr beyond ↦
        let outside : length no_reasons ≤ n = omega (arith, length-replicate {A = ℕ} 104 0, beyond) in
        get_or-eq_default no_reasons 0 outside
  ]

-- an earlier rule, and its bits, of which b is the highest and none is fixed
pub record IsNewReason (h fixed : ℕ) (earlier : List Rule) (reason b : ℕ) : Type 0 where
  pub of : IsOfRule h earlier reason
  pub unfixed : bit_and reason fixed ≡ 0
  pub within : b < 104
  pub set : bit_at reason b ≡ 1
  pub small : reason < 2 ^ (suc b)

none_of_both : (a b j : ℕ) → bit_and a b ≡ 0 → bit_at a j ≡ 1 → bit_at b j ≡ 0
none_of_both a b j none set = let small = bit_at-lt b j in
    omega (arith, sym (bit_at_and a b j) ∙ ap (λ x. bit_at x j) none ∙ bit_at-zero j, set, small)

-- a bit of the new ones
new_is : (fixed : ℕ) (reasons : List ℕ) (b stays : ℕ) → AreFixedBitsWithoutReason fixed reasons b stays → (n : ℕ)
    → bit_at (bit_or stays (2 ^ b)) n ≡ 1
    → (n ≡ b) ⊎ ((n ≢ b) × (bit_at fixed n ≡ 1) × (bit_at (get_or reasons n 0) b ≡ 0))
new_is fixed reasons b stays without n set = elim (cases_eq n b) [
  | inl here ↦ inl here
  | inr other ↦ let none = bit_at-pow_other b n other in
      let was = without.gone n (omega (arith, sym (bit_at_or stays (2 ^ b) n) ∙ set, none)) in
      inr (other, was.0, was.1)
]

-- the closed bits have no reasons, so they stay with those that stay of the others
pub without_open : {h closed fixed : ℕ} {earlier : List Rule} {reasons : List ℕ} {b kept : ℕ}
    → AreFixed h closed earlier fixed reasons → closed < 2 ^ 104
    → AreFixedBitsWithoutReason (bit_xor fixed closed) reasons b kept
    → AreFixedBitsWithoutReason fixed reasons b (bit_or closed kept)
without_open {h} {closed} {fixed} {earlier} {reasons} {b} {kept} are bound without = record {
  small = or_lt 104 closed kept bound without.small;
  gone = λ n one. elim (cases_eq (bit_at closed n) 1) [
    | inl is ↦ (are.closed_stay n is, ap (λ x. bit_at x b) (are.no_reason n is) ∙ bit_at-zero b)
    | inr other ↦ let was = without.gone n (omega (
      arith,
      sym (bit_at_or closed kept n) ∙ one,
      zero_of _ (bit_at-lt closed n) other,
      (bit_at-lt kept n),
    )) in (omega (arith, sym (bit_at_xor fixed closed n) ∙ was.0, zero_of, bit_at-lt), was.1)
  ];
  stay = λ n one none. elim (cases_eq (bit_at closed n) 1) [
    | inl is ↦ or_left closed kept n is
    | inr other ↦ or_right closed kept n (without.stay n (bit_at_xor fixed closed n
        ∙ of_one _ _ one (zero_of _ (bit_at-lt closed n) other)) none)
  ];
} where
  of_one : (a c : ℕ) → a ≡ 1 → c ≡ 0 → (a + c) % 2 ≡ 1
  of_one a c one none = omega (arith, one, none)

pub fixed_next : (h closed fixed : ℕ) (earlier : List Rule) (reasons : List ℕ)
    (reason b stays : ℕ) → AreFixed h closed earlier fixed reasons
    → IsNewReason h fixed earlier reason b → AreFixedBitsWithoutReason fixed reasons b stays
    → AreFixed h closed earlier (bit_or stays (2 ^ b)) (set reasons b reason)
fixed_next h closed fixed earlier reasons reason b stays are new without = record {
  sized = length-set reasons b reason ∙ are.sized;
  small = or_lt 104 stays (2 ^ b) without.small (pow-lt new.within);
  closed_stay = λ n closed_n.
      let none = ap (λ x. bit_at x b) (are.no_reason n closed_n) ∙ bit_at-zero b in
      or_left stays (2 ^ b) n (without.stay n (are.closed_stay n closed_n) none);
  no_reason = λ n closed_n. let other : n ≢ b = λ here. absurd
      (omega (arith, unfixed, ap (λ k. bit_at fixed k) here, are.closed_stay n closed_n)) in
      others n other ∙ are.no_reason n closed_n;
  highest = λ n one. elim (new_is fixed reasons b stays without n one) [
    | inl here ↦ rw here (rw same new.small)
    | inr was ↦ subst (λ x. x < 2 ^ (suc n)) (sym (others n was.0)) (are.highest n was.1)
  ];
  lower = λ n j one before has. zero_of _ (bit_at-lt (bit_or stays (2 ^ b)) j) (λ also.
      elim (new_is fixed reasons b stays without n one) [
        | inl here ↦ elim (new_is fixed reasons b stays without j also) [
          | inl top ↦ absurd (omega (arith, top, here, before))
          | inr was ↦ absurd (omega (
            arith,
            was.1,
            none_of_both reason fixed j new.unfixed (ap (λ x. bit_at x j) (sym same)
                ∙ ap (λ k. bit_at (get_or (set reasons b reason) k 0) j) (sym here) ∙ has),
          ))
        ]
        | inr was ↦ let in_reason = ap (λ x. bit_at x j) (sym (others n was.0)) ∙ has in
            elim (new_is fixed reasons b stays without j also) [
              | inl top ↦ absurd (omega (
                arith,
                was.2,
                ap (λ k. bit_at (get_or reasons n 0) k) (sym top) ∙ in_reason,
              ))
              | inr there ↦ absurd (omega (arith, there.1, are.lower n j was.1 before in_reason))
            ]
      ]);
  cause = λ n one. elim (new_is fixed reasons b stays without n one) [
    | inl here ↦ inr (rw (ap (λ k. get_or (set reasons b reason) k 0) here ∙ same) new.of)
    | inr was ↦ elim (are.cause n was.1) [
      | inl closed_n ↦ inl closed_n
      | inr of ↦ inr (subst (λ x. IsOfRule h earlier x) (sym (others n was.0)) of)
    ]
  ];
} where
  unfixed : bit_at fixed b ≡ 0
  unfixed = none_of_both reason fixed b new.unfixed new.set

  same : get_or (set reasons b reason) b 0 ≡ reason
  same = get_or-set_same reasons b reason 0 (omega (arith, are.sized, new.within))

  others : (n : ℕ) → n ≢ b → get_or (set reasons b reason) n 0 ≡ get_or reasons n 0
  others n other = get_or-set_other reasons b n reason 0 other

-- ---- each reason brings the end nearer

-- the bits below n as a number, of which the lowest counts most
pub rank : ℕ → ℕ → ℕ
rank fixed zero = 0
rank fixed (suc n) = 2 * rank fixed n + bit_at fixed n

rank_bound : (fixed n : ℕ) → rank fixed n < 2 ^ n
unfolding rank
rank_bound fixed zero = omega arith
rank_bound fixed (suc n) = let small = bit_at-lt fixed n in omega (arith, rank_bound fixed n, small)

rank_same : (old new n : ℕ) → ((j : ℕ) → j < n → bit_at new j ≡ bit_at old j)
    → rank new n ≡ rank old n
unfolding rank
rank_same old new zero same = refl
rank_same old new (suc n) same = let here = same n (omega arith) in
    omega (arith, rank_same old new n (λ j below. same j (omega (arith, below))), here)

rank_more : (old new b n : ℕ) → b < n → ((j : ℕ) → j < b → bit_at new j ≡ bit_at old j)
    → bit_at old b ≡ 0 → bit_at new b ≡ 1 → rank old n < rank new n
unfolding rank
rank_more old new b zero below same unset set = absurd (omega (arith, below))
rank_more old new b (suc n) below same unset set = elim (cases_eq n b) [
  | inl here ↦ let zero_here = ap (λ k. bit_at old k) here ∙ unset in
      let one_here = ap (λ k. bit_at new k) here ∙ set in
      let old_rank = ap (λ k. rank old k) here in
      let new_rank = ap (λ k. rank new k) here in
      omega (arith, rank_same old new b same, zero_here, one_here, old_rank, new_rank)
  | inr past ↦ let small = bit_at-lt old n in
      omega (arith, rank_more old new b n (omega (arith, past, below)) same unset set, small)
]

-- what is left until all bits are fixed
pub left_over : ℕ → ℕ
left_over fixed = 2 ^ 104 - rank fixed 104

pub left_less : (h closed fixed : ℕ) (earlier : List Rule) (reasons : List ℕ) (reason b stays : ℕ)
    → AreFixed h closed earlier fixed reasons → IsNewReason h fixed earlier reason b
    → AreFixedBitsWithoutReason fixed reasons b stays → left_over (bit_or stays (2 ^ b)) < left_over fixed
unfolding left_over
left_less h closed fixed earlier reasons reason b stays are new without =
    let more = rank_more fixed (bit_or stays (2 ^ b)) b 104 new.within same
    (none_of_both reason fixed b new.unfixed new.set)
    (or_right stays (2 ^ b) b (bit_at-pow_same b)) in
    omega (arith, more, rank_bound (bit_or stays (2 ^ b)) 104)
  where
    same : (j : ℕ) → j < b → bit_at (bit_or stays (2 ^ b)) j ≡ bit_at fixed j
    same j below = elim (cases_eq (bit_at fixed j) 1) [
      | inl set ↦ or_left stays (2 ^ b) j (without.stay j set
          (bit_at_above (get_or reasons j 0) (suc j) b (are.highest j set) (omega arith))) ∙ sym set
      | inr other ↦ zero_of _ (bit_at-lt (bit_or stays (2 ^ b)) j)
          (λ one. elim (new_is fixed reasons b stays without j one) [
            | inl here ↦ absurd (omega (arith, here, below))
            | inr was ↦ other was.1
          ])
          ∙ sym (zero_of _ (bit_at-lt fixed j) other)
    ]

-- the bits of a number, of which b is the highest
pub top_set : (n b : ℕ) → 2 ^ b ≤ n → n < 2 * 2 ^ b → bit_at n b ≡ 1
top_set n b low high = search (rules, div-eq_of_lt-le)

-- ---- the fixed bits without some

-- the bits `left` are still to be looked at
pub record IsPartWithout (fixed : ℕ) (reasons : List ℕ) (b stays left : ℕ) : Type 0 where
  pub small : stays < 2 ^ 104
  pub bound : left < 2 ^ 104
  pub waits : (n : ℕ) → bit_at left n ≡ 1 → bit_at stays n ≡ 1
  pub gone : (n : ℕ) → bit_at stays n ≡ 1 → (bit_at fixed n ≡ 1)
      × ((bit_at left n ≡ 1) ⊎ (bit_at (get_or reasons n 0) b ≡ 0))
  pub stay : (n : ℕ) → bit_at fixed n ≡ 1 → bit_at (get_or reasons n 0) b ≡ 0 → bit_at stays n ≡ 1

pub bit_within : (n k : ℕ) → n < 2 ^ 104 → bit_at n k ≡ 1 → k < 104
bit_within n k small one = elim (cases_lt k 104) [
  | inl below ↦ below
  | inr past ↦ absurd (omega (arith, one, bit_at_above n 104 k small past))
]

xor_same : (a n : ℕ) → bit_at a n ≡ 1 → bit_at (bit_xor a (2 ^ n)) n ≡ 0
xor_same a n one = cc (bit_at_xor a (2 ^ n) n, one, bit_at-pow_same n)

xor_other : (a n j : ℕ) → j ≢ n → bit_at (bit_xor a (2 ^ n)) j ≡ bit_at a j
xor_other a n j other = search (rules, bit_at_xor, bit_at-pow_other, bit_at-lt)

-- a bit that is left without n not_so n, and was left
xor_left : (a n j : ℕ) → bit_at a n ≡ 1 → bit_at (bit_xor a (2 ^ n)) j ≡ 1
    → (j ≢ n) × (bit_at a j ≡ 1)
xor_left a n j one also = search (rules, xor_same, xor_other)

pub fewer : (n k : ℕ) → bit_at n k ≡ 1 → bit_xor n (2 ^ k) < n
fewer n k one = search (rules, xor_add_and, and_pow)

pub part_at_first : (fixed : ℕ) (reasons : List ℕ) (b : ℕ) → fixed < 2 ^ 104
    → IsPartWithout fixed reasons b fixed fixed
part_at_first fixed reasons b small = search rules

pub part_at_last : {fixed : ℕ} {reasons : List ℕ} {b stays : ℕ}
    → IsPartWithout fixed reasons b stays 0 → AreFixedBitsWithoutReason fixed reasons b stays
part_at_last part = search (rules, bit_at-zero)

-- the bit n stays, since its reason doesn't have b
pub part_stays : {fixed : ℕ} {reasons : List ℕ} {b stays left : ℕ}
    → IsPartWithout fixed reasons b stays left → (n : ℕ) → bit_at left n ≡ 1
    → bit_at (get_or reasons n 0) b ≡ 0 → IsPartWithout fixed reasons b stays (bit_xor left (2 ^ n))
part_stays {fixed} {reasons} {b} {stays} {left} part n one none = record {
  small = part.small;
  bound = xor_lt 104 left (2 ^ n) part.bound (pow-lt (bit_within left n part.bound one));
  waits = λ j also. part.waits j (xor_left left n j one also).1;
  gone = λ j also. let was = part.gone j also in (
    was.0,
    elim was.1 [
      | inr gone ↦ inr gone
      | inl waits ↦ elim (cases_eq j n) [
        | inl here ↦ inr (ap (λ k. bit_at (get_or reasons k 0) b) here ∙ none)
        | inr other ↦ inl (xor_other left n j other ∙ waits)
      ]
    ],
  );
  stay = part.stay;
}

-- it goes, since its reason has b
pub part_goes : {fixed : ℕ} {reasons : List ℕ} {b stays left : ℕ}
    → IsPartWithout fixed reasons b stays left → (n : ℕ) → bit_at left n ≡ 1
    → bit_at (get_or reasons n 0) b ≢ 0
    → IsPartWithout fixed reasons b (bit_xor stays (2 ^ n)) (bit_xor left (2 ^ n))
part_goes {fixed} {reasons} {b} {stays} {left} part n one some = record {
  small = xor_lt 104 stays (2 ^ n) part.small (pow-lt (bit_within left n part.bound one));
  bound = xor_lt 104 left (2 ^ n) part.bound (pow-lt (bit_within left n part.bound one));
  waits = λ j also. let was = xor_left left n j one also in
      xor_other stays n j was.0 ∙ part.waits j was.1;
  gone = λ j also. let was = xor_left stays n j (part.waits n one) also in
      let before = part.gone j was.1 in (
        before.0,
        elim before.1 [ inr gone ↦ inr gone | inl waits ↦ inl (xor_other left n j was.0 ∙ waits) ],
      );
  stay = λ j is none.
      let other : j ≢ n = λ here. some (ap (λ k. bit_at (get_or reasons k 0) b) (sym here) ∙ none) in
      xor_other stays n j other ∙ part.stay j is none;
}

-- ---- a rule that is met gives a reason

-- each earlier rule differs from the header
pub differs_somewhere : {h : ℕ} {region : WordValue} {rules : List Rule} {index closed : ℕ}
    → IsGiven h region rules index closed → (place : ℕ) (d : Rule) → place < length (take index rules)
    → cache_widening_difference h (get_or (take index rules) place d).word ≢ 0
unfolding widening_of
differs_somewhere {h} {region} {rules} {index} given place d within none =
    both_ways (word_meets (exact_word h) rule.word)
    (sym (given.meet.some (exact_word h) rule.word) ∙ given.start.earlier place d within)
    (given.free.meets_bit (exact_word h) rule.word 0
    ∙ ap (λ b. b && words_agree_at (exact_word h) rule.word 0)
    (met_if given 0 rule.word (λ j other fixed. zero_at j)) ∙ agrees)
  where
    rule : Rule
    rule = get_or (take index rules) place d

    zero_at : (j : ℕ) → bit_at (cache_widening_difference h rule.word) j ≡ 0
    zero_at j = ap (λ x. bit_at x j) none ∙ bit_at-zero j

    agrees : IsTrue (words_agree_at (exact_word h) rule.word 0)
    agrees = elim (cases_Bool (words_agree_at (exact_word h) rule.word 0)) [
      | inl is ↦ is
      | inr not_so ↦ let fixed = given.exact.no_free_bit h 0 (omega arith) in
          let one = differs_at (exact_word h) rule.word h 0 fixed
          (as_header given.covers given.free h region rules index 0 0 fixed) not_so in
          absurd (omega (arith, one, zero_at 0))
    ]

pub is_new_reason : {h : ℕ} {region : WordValue} {rules : List Rule} {index closed : ℕ}
    → IsGiven h region rules index closed → (fixed place : ℕ) (d : Rule) (reason b : ℕ)
    → (place < length (take index rules)) × IsSomeAnd (slice_get (take index rules) place)
    (λ rule. IsTrue (rule_meets_widened_word h fixed rule))
    → reason ≡ cache_widening_difference h (get_or (take index rules) place d).word
    → 2 ^ b ≤ reason → reason < 2 * 2 ^ b → IsNewReason h fixed (take index rules) reason b
is_new_reason {h} {region} {rules} {index} given fixed place d reason b met made low high = record {
  of = record { place = place; d = d; within = met.0; is = sym made };
  unfixed = ap (λ n. bit_and n fixed) made ∙ eqb-true _ _ (subst (λ o. IsSomeAnd o (λ rule.
      IsTrue (rule_meets_widened_word h fixed rule))) (slice_get-get_or (take index rules) place d met.0) met.1);
  within = elim (cases_lt b 104) [
    | inl below ↦ below
    | inr beyond ↦ absurd (omega (
      arith,
      top,
      ap (λ n. bit_at n b) made
          ∙ past_header h b (get_or (take index rules) place d).word
          (All-take (λ (rule : Rule). IsWord rule.word) index rules given.words place d met.0) beyond,
    ))
  ];
  set = top;
  small = omega (arith, high);
} where
  top : bit_at reason b ≡ 1
  top = top_set reason b low high
