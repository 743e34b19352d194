use Rattle.std.proofs.Common.{◌<◌, ◌^◌, ◌∙◌, ◌≡◌, ◌≢◌, IfSome, IsTrue, ap, arith, bit_and, bit_or, bit_xor, get_or, length-take, refl, subst, sym, take}
use Rattle.std.proofs.lemmas.List.Quantifiers.{position-Some}
use Rattle.std.proofs.lemmas.Nat.{one_shl, or_lt, xor_lt}
use Rattle.five_tuple.specs.Exports.{header_number_of}
use Rattle.policy_rules.specs.Exports.{is_held_by_policy_rule}
use Rattle.ternary.specs.Exports.{IsWord, WordValue, exact_word, ternary_with_bit_freed, holds, is_word_bit_fixed}
use Rattle.cache_maker.specs.Differing.{AreFixedBitsWithoutReason}
use Rattle.cache_maker.specs.Independent.{IsIndependentCacheWord, widen, widening_of}
use Rattle.cache_maker.proofs.IndependentCacheWords.{exact_independent}
use Rattle.cache_maker.proofs.CacheWordFixedBits.{IsGiven, IsNewReason, closes_both, differs_somewhere, fixed_at_first, fixed_next, independent_at, is_new_reason, left_less, left_over, without_open, word_at_last, word_is_sound}
use Rattle.cache_maker.proofs.WidenedCacheWords.{widened_holds, widest}
use Rattle.cache_maker.proofs.cache_word.widen.Goals as goal

pub loop-place-init : goal.loop-place-init
loop-place-init c =
    let number = c.number-number.result in
    let region = c.args.region.now in
    let rules = c.args.rules.now in
    let index = c.args.index in
    let closed = bit_or c.mask.result c.mask-2.result in
    let same = c.number-number.ensures.number in
    let sound = c.cache_maker_words_are_sound.ensures in
    let bound = subst (λ n. n < 2 ^ 104) same c.number-number.ensures.bound in
    let start = exact_independent c.covers_laws.ensures c.meet_laws.ensures region rules index
    (header_number_of c.args.h.now) sound.region sound.rules bound c.requires.region c.requires.first_hit in
    let d = c.index-rules-index.result in
    let given : IsGiven number region rules index closed = record {
      covers = c.covers_laws.ensures;
      meet = c.meet_laws.ensures;
      exact = c.ternary_exact_laws.ensures;
      free = c.free_laws.ensures;
      bound = c.number-number.ensures.bound;
      words = sound.rules;
      start = subst (λ n. IsIndependentCacheWord region rules index (exact_word n)) (sym same) start;
      within = (position-Some (is_held_by_policy_rule (header_number_of c.args.h.now)) rules index d
          c.requires.first_hit).0;
      d = d;
      closes = closes_both region (get_or rules index d).word c.mask.result c.mask-2.result
          c.mask.ensures.mask c.mask-2.ensures.mask;
    } in record {
      given = given;
      are = rw c.no_cache_word_reasons-reasons.ensures (fixed_at_first number closed (take index rules)
          (or_lt 104 c.mask.result c.mask-2.result c.mask.ensures.bound c.mask-2.ensures.bound));
      from = omega arith;
    }

pub offset_bounds-earlier-place : goal.offset_bounds-earlier-place
offset_bounds-earlier-place c =
    omega (arith, length-take c.args.index c.args.rules.now, (c.in-Some.ensures.met).0)

pub bounds-earlier-place : goal.bounds-earlier-place
bounds-earlier-place c = (c.in-Some.ensures.met).0

pub ilog2-bit-requires : goal.ilog2-bit-requires
ilog2-bit-requires c =
    let some = differs_somewhere c.loop-place.invariant.given c.in-Some.place
    c.index-earlier-place.result (c.in-Some.ensures.met).0 in
    let positive : c.differing-reason.result ≢ 0 = λ none. some (sym c.differing-reason.ensures ∙ none) in
    omega (arith, positive)

-- what the met rule gives
new_reason : (c : goal.After-reasons-1) → IsNewReason c.number-number.result c.loop-place.fixed
    (take c.args.index c.args.rules.now) c.differing-reason.result c.ilog2-bit.result
new_reason c = is_new_reason c.loop-place.invariant.given c.loop-place.fixed c.in-Some.place
    c.index-earlier-place.result c.differing-reason.result c.ilog2-bit.result c.in-Some.ensures.met
    c.differing-reason.ensures c.ilog2-bit.ensures.power_le c.ilog2-bit.ensures.next_power_gt

closed_bound : (c : goal.After-without) → bit_or c.mask.result c.mask-2.result < 2 ^ 104
closed_bound c = or_lt 104 c.mask.result c.mask-2.result c.mask.ensures.bound c.mask-2.ensures.bound

-- what stays of all fixed bits
stays : (c : goal.After-without) → AreFixedBitsWithoutReason c.loop-place.fixed c.loop-place.reasons
    c.ilog2-bit.result (bit_or (bit_or c.mask.result c.mask-2.result) c.without.result)
stays c = without_open c.loop-place.invariant.are (closed_bound c) c.without.ensures

pub without-requires-clause-fixed : goal.without-requires-clause-fixed
without-requires-clause-fixed c = xor_lt 104 c.loop-place.fixed
    (bit_or c.mask.result c.mask-2.result) c.loop-place.invariant.are.small
    (or_lt 104 c.mask.result c.mask-2.result c.mask.ensures.bound c.mask-2.ensures.bound)

pub without-requires-clause-bit : goal.without-requires-clause-bit
without-requires-clause-bit c = (new_reason c).within

pub bounds-reasons-bit : goal.bounds-reasons-bit
bounds-reasons-bit c = (is_new_reason c.loop-place.invariant.given c.loop-place.fixed
    c.in-Some.place c.index-earlier-place.result c.differing-reason.result c.ilog2-bit.result
    c.in-Some.ensures.met c.differing-reason.ensures c.ilog2-bit.ensures.power_le
    c.ilog2-bit.ensures.next_power_gt).within

pub loop-place-smaller : goal.loop-place-smaller
loop-place-smaller c =
    let b = c.ilog2-bit.result in
    let new = is_new_reason c.loop-place.invariant.given c.loop-place.fixed c.in-Some.place
    c.index-earlier-place.result c.differing-reason.result b c.in-Some.ensures.met
    c.differing-reason.ensures c.ilog2-bit.ensures.power_le c.ilog2-bit.ensures.next_power_gt in
    let all = bit_or (bit_or c.mask.result c.mask-2.result) c.without.result in
    subst (λ x. left_over (bit_or all x) < left_over c.loop-place.fixed)
    (sym (one_shl b 128 (omega (arith, new.within))))
    (left_less _ _ _ _ _ c.differing-reason.result b all c.loop-place.invariant.are new (stays c))

pub loop-place-preserved : goal.loop-place-preserved
loop-place-preserved c =
    let b = c.ilog2-bit.result in
    let new = is_new_reason c.loop-place.invariant.given c.loop-place.fixed c.in-Some.place
    c.index-earlier-place.result c.differing-reason.result b c.in-Some.ensures.met
    c.differing-reason.ensures c.ilog2-bit.ensures.power_le c.ilog2-bit.ensures.next_power_gt in
    let all = bit_or (bit_or c.mask.result c.mask-2.result) c.without.result in record {
      given = c.loop-place.invariant.given;
      are = rw (one_shl b 128 (omega (arith, new.within))) (fixed_next _ _ _ _ _
          c.differing-reason.result b all c.loop-place.invariant.are new (stays c));
      from = omega (arith, (c.in-Some.ensures.met).0);
    }

pub unwrap-requires : goal.unwrap-requires
unwrap-requires c = c.new.ensures.taken.1 (word_is_sound c.loop-place.invariant.given
    c.loop-place.invariant.are (c.in_default.ensures.none refl))

-- the word that is made, and what is known of it
made_word : (c : goal.After-unwrap) → (c.unwrap.result ≡ widening_of c.number-number.result
    c.args.region.now c.args.rules.now c.args.index 104) × IsWord c.unwrap.result
made_word c =
    let pair : WordValue = record {
      value = bit_and c.number-number.result c.loop-place.fixed;
      mask = c.loop-place.fixed;
    } in
    let some = subst (λ o. IfSome o (λ (w : WordValue). (w ≡ pair) × IsWord w)) c.unwrap.ensures
    c.new.ensures.pair in (
      some.0 ∙ word_at_last c.loop-place.invariant.given c.loop-place.invariant.are
          (c.in_default.ensures.none refl),
      some.1,
    )

pub returns : goal.returns
unfolding widen
returns c =
    let number = c.number-number.result in
    let region = c.args.region.now in
    let rules = c.args.rules.now in
    let index = c.args.index in
    let given = c.loop-place.invariant.given in
    let same = c.number-number.ensures.number in
    let (made, is_word) = made_word c in
    let held = widened_holds given.covers given.exact given.free number region rules index 104
    given.bound in record {
      widened = made ∙ ap (λ n. widening_of n region rules index 104) same;
      header = subst (λ (w : WordValue). IsTrue (holds w (header_number_of c.args.h.now))) (sym made)
          (subst (λ n. IsTrue (holds (widening_of number region rules index 104) n)) same held);
      independent = subst (λ (w : WordValue). IsIndependentCacheWord region rules index w) (sym made)
          (independent_at given 104);
      widest = λ bit within fixed is. widest given.covers given.meet given.free number region rules
          index bit within (subst (λ (w : WordValue). IsTrue (is_word_bit_fixed w bit)) made fixed)
          (subst (λ (w : WordValue). IsIndependentCacheWord region rules index (ternary_with_bit_freed w bit)) made is);
      word = is_word;
    }
