-- Independent words: the test, what they hold, and smaller ones.
use Rattle.std.proofs.Common.{[], ◌&&◌, ◌<◌, ◌^◌, ◌∙◌, ◌∷◌, ◌≡◌, All, Bool, IsNone, IsSomeAnd, IsTrue, List, None, Option, Some, ap, arith, cond, false, get_or, get_or-take, is_none, is_some, length, length-take, lt-ltb, nat_lt, not, position, refl, slice_get, subst, sym, take, true, ℕ, rules}
use Rattle.std.specs.Option.{option_map_or}
use Rattle.std.proofs.lemmas.Bool.{and_parts, not-true}
use Rattle.std.proofs.lemmas.Option.{slice_get_within, slice_get-get_or, get_or_from_slice_get}
use Rattle.std.proofs.lemmas.List.Quantifiers.{position-Some}
use Rattle.std.proofs.lemmas.List.Sums.{AllPass-from_list_all, list_all-from_AllPass, position_or_len_is}
use Rattle.ternary.specs.Exports.{WordCoversLaws, IsWord, TernaryMeetLaws, WordValue, word_covers_of, exact_word, holds, word_meet_of}
use Rattle.policy_rules.specs.declared.rules.Rule.{Rule}
use Rattle.policy_rules.specs.Exports.{is_held_by_policy_rule}
use Rattle.policy_rules.proofs.PolicyRulesCallerLemmas.{none_from_not_some}
use Rattle.cache_maker.specs.Independent.{IsIndependentCacheWord, is_cache_word_apart, is_cache_word_independent}

-- ---- tests and facts

pub true_not : (b : Bool) → b ≡ false → not b ≡ true
true_not b e = search rules

some_and : (index : ℕ) (rules : List Rule) (word : WordValue)
    → option_map_or (λ rule. word_covers_of rule.word word) (slice_get rules index) false ≡ true
    → IsSomeAnd (slice_get rules index) (λ rule. IsTrue (word_covers_of rule.word word))
some_and index rules word = by_rule (slice_get rules index) where
  by_rule : (o : Option Rule) → option_map_or (λ rule. word_covers_of rule.word word) o false ≡ true
      → IsSomeAnd o (λ rule. IsTrue (word_covers_of rule.word word))
  by_rule None e = cc
  by_rule (Some rule) e = e

and_some : (index : ℕ) (rules : List Rule) (word : WordValue) → IsSomeAnd (slice_get rules index)
    (λ rule. IsTrue (word_covers_of rule.word word)) → option_map_or (λ rule. word_covers_of rule.word word)
    (slice_get rules index) false ≡ true
and_some index rules word = by_rule (slice_get rules index) where
  by_rule : (o : Option Rule) → IsSomeAnd o (λ rule. IsTrue (word_covers_of rule.word word))
      → option_map_or (λ rule. word_covers_of rule.word word) o false ≡ true
  by_rule None e = absurd e
  by_rule (Some rule) e = e

pub test_true : (region : WordValue) (rules : List Rule) (index : ℕ) (word : WordValue)
    → IsTrue (is_cache_word_independent region rules index word) → IsIndependentCacheWord region rules index word
unfolding is_cache_word_independent is_cache_word_apart
test_true region rules index word test =
    let both = and_parts _ _ test in
    let parts = and_parts _ _ both.0 in record {
      in_region = parts.0;
      in_rule = some_and index rules word parts.1;
      earlier = λ k d within. not-true _
          (AllPass-from_list_all _ (take index rules) both.1 k d within);
    }

pub test_of : (region : WordValue) (rules : List Rule) (index : ℕ) (word : WordValue)
    → IsIndependentCacheWord region rules index word → IsTrue (is_cache_word_independent region rules index word)
unfolding is_cache_word_independent is_cache_word_apart
test_of region rules index word is =
    let earlier = list_all-from_AllPass (λ rule. is_none (word_meet_of word rule.word))
    (take index rules) (λ k d within. true_not _ (is.earlier k d within)) in
    rw (is.in_region, and_some index rules word is.in_rule, earlier) refl

-- ---- headers

pub first_hit : WordCoversLaws → TernaryMeetLaws → (region : WordValue) (rules : List Rule) (index : ℕ)
    (word : WordValue) (h : ℕ) → IsIndependentCacheWord region rules index word → IsTrue (holds word h)
    → position (is_held_by_policy_rule h) rules ≡ Some index
first_hit covers meet region rules index word h is held = by_rule (slice_get rules index) refl
    is.in_rule
  where
    by_rule : (o : Option Rule) → slice_get rules index ≡ o
        → IsSomeAnd o (λ rule. IsTrue (word_covers_of rule.word word)) → position (is_held_by_policy_rule h) rules
        ≡ Some index
    by_rule None at no_rule = absurd no_rule
    by_rule (Some rule) at covered =
        let within = slice_get_within rules index rule at in
        let here = ap (is_held_by_policy_rule h) (get_or_from_slice_get rules index rule rule at)
        ∙ covers.held rule.word word h covered held in
        ap (λ n. cond (nat_lt n (length rules)) (Some n) None) (position_or_len_is (is_held_by_policy_rule h) rules
        index rule (omega arith) (λ k below. not_held k below) (λ _. here))
        ∙ ap (λ b. cond b (Some index) None) (lt-ltb index (length rules) within)
      where
        right_false : (b : Bool) → (true && b) ≡ false → b ≡ false
        right_false b e = e

        apart : (earlier : Rule) → IsNone (word_meet_of word earlier.word) → holds earlier.word h ≡ false
        apart earlier none = right_false (holds earlier.word h)
            (ap (λ b. b && holds earlier.word h) (sym held)
            ∙ meet.none word earlier.word h (none_from_not_some _ none))

        not_held : (k : ℕ) → k < index → is_held_by_policy_rule h (get_or rules k rule) ≡ false
        not_held k below =
            let past = slice_get_within rules index rule at in
            let there : k < length (take index rules) = omega (arith, length-take index rules) in
            apart (get_or rules k rule) (subst (λ (r : Rule). IsNone (word_meet_of word r.word))
            (get_or-take index rules k rule below) (is.earlier k rule there))

pub smaller : WordCoversLaws → TernaryMeetLaws → (region : WordValue) (rules : List Rule) (index : ℕ)
    (word part : WordValue) → IsTrue (word_covers_of word part) → IsIndependentCacheWord region rules index word
    → IsIndependentCacheWord region rules index part
smaller covers meet region rules index word part inside is = record {
  in_region = covers.transitive region word part is.in_region inside;
  in_rule = by_rule (slice_get rules index) is.in_rule;
  earlier = λ k d within. apart (get_or (take index rules) k d) (is.earlier k d within);
} where
  by_rule : (o : Option Rule) → IsSomeAnd o (λ rule. IsTrue (word_covers_of rule.word word))
      → IsSomeAnd o (λ rule. IsTrue (word_covers_of rule.word part))
  by_rule None no_rule = no_rule
  by_rule (Some rule) covered = covers.transitive rule.word word part covered inside

  apart : (rule : Rule) → IsNone (word_meet_of word rule.word) → IsNone (word_meet_of part rule.word)
  apart rule none = ap is_some (meet.monotone word part rule.word inside (none_from_not_some _ none))

-- there is a rule at the first hit
hit_within : (h : ℕ) (rules : List Rule) (index : ℕ) → position (is_held_by_policy_rule h) rules ≡ Some index
    → slice_get rules index ≡ None → ⊥
hit_within h [] index hit at = cc
hit_within h (first ∷ rules) index hit at =
    let found = position-Some (is_held_by_policy_rule h) (first ∷ rules) index first hit in
    cc ((slice_get-get_or (first ∷ rules) index first found.0), at)

-- the word of a header that this rule is the first to hold
pub exact_independent : WordCoversLaws → TernaryMeetLaws → (region : WordValue) (rules : List Rule)
    (index h : ℕ) → IsWord region → All (λ rule. IsWord rule.word) rules → h < 2 ^ 104
    → IsTrue (holds region h) → position (is_held_by_policy_rule h) rules ≡ Some index
    → IsIndependentCacheWord region rules index (exact_word h)
exact_independent covers meet region rules index h region_word words bound held hit = record {
  in_region = covers.exact region h region_word bound ∙ held;
  in_rule = by_rule (slice_get rules index) refl;
  earlier = λ k d within. let below : k < index = omega (arith, length-take index rules) in
      let rule = get_or rules k d in
      let word : IsWord rule.word = words k d (omega (arith, length-take index rules)) in
      let apart = meet.some (exact_word h) rule.word ∙ meet.symmetric (exact_word h) rule.word
      ∙ meet.exact rule.word h word bound ∙ (position-Some (is_held_by_policy_rule h) rules index d hit).2 k
      below in
      subst (λ (r : Rule). IsNone (word_meet_of (exact_word h) r.word))
      (sym (get_or-take index rules k d below)) apart;
} where
  by_rule : (o : Option Rule) → slice_get rules index ≡ o
      → IsSomeAnd o (λ rule. IsTrue (word_covers_of rule.word (exact_word h)))
  by_rule None at = absurd (hit_within h rules index hit at)
  by_rule (Some rule) at =
      let found = position-Some (is_held_by_policy_rule h) rules index rule hit in
      let here = get_or_from_slice_get rules index rule rule at in
      let word = subst (λ (r : Rule). IsWord r.word) here (words index rule found.0) in
      covers.exact rule.word h word bound ∙ ap (is_held_by_policy_rule h) (sym here) ∙ found.1

-- the test, a part at a time
pub is_independent_at : (region : WordValue) (rules : List Rule) (index : ℕ) (word : WordValue)
    (d : Rule) → index < length rules → is_cache_word_independent region rules index word
    ≡ ((word_covers_of region word && word_covers_of (get_or rules index d).word word)
    && is_cache_word_apart word (take index rules))
unfolding is_cache_word_independent
is_independent_at region rules index word d within = cc (slice_get-get_or rules index d within)
