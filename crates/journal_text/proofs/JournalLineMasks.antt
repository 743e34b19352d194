-- The switches of a mask, the least one first.
use Rattle.std.proofs.Common.{[], ◌+◌, ◌<◌, ◌^◌, ◌∷◌, ◌≡◌, ◌≢◌, ◌≤◌, Bool, arith, bit_xor, false, filter, inl, inr, refl, suc, sym, true, zero, ℕ}
use Rattle.base.proofs.Exports.{cases_eq, has-xor_other, has-zero, least_below, least_lt, range_with_len}
use Rattle.base.specs.Exports.{has, least_in_number_set, switches}
use Rattle.failover.proofs.RouteRowLoop.{first_left, has_less-same}

-- tests that agree on a range pick the same of it
picks_agree : (p q : ℕ → Bool) (a n : ℕ) → ((j : ℕ) → a ≤ j → p j ≡ q j)
    → filter p (range_with_len a n) ≡ filter q (range_with_len a n)
picks_agree p q a zero same = refl
picks_agree p q a (suc n) same =
    let rest = picks_agree p q (a + 1) n (λ j from. same j (omega (arith, from))) in
    rw (same a (omega arith), rest) refl

-- a test that leaves out but the first number that another one picks
picks_first : (p q : ℕ → Bool) (a n s : ℕ) → a ≤ s → s < a + n → p s ≡ true → q s ≡ false
    → ((j : ℕ) → j < s → p j ≡ false) → ((j : ℕ) → j ≢ s → q j ≡ p j)
    → filter p (range_with_len a n) ≡ s ∷ filter q (range_with_len a n)
picks_first p q a zero s from below is gone least others = absurd (omega arith)
picks_first p q a (suc n) s from below is gone least others = elim (cases_eq a s) [
  | inl here ↦
      let apart : (j : ℕ) → a + 1 ≤ j → j ≢ s = λ j above e. omega (arith, above, here, e) in
      let rest = picks_agree p q (a + 1) n (λ j above. sym (others j (apart j above))) in
      rw (here, is, gone, sym here, rest) refl
  | inr apart ↦ let before : p a ≡ false = least a (omega (arith, from, apart)) in
      rw (others a apart, before)
      (picks_first p q (a + 1) n s (omega arith) (omega arith) is gone least others)
]

-- the least switch of a mask, and then those of the rest
pub least_first : (mask : ℕ) → mask < 2 ^ 64 → (mask ≡ 0 → ⊥) → filter (has mask) switches
    ≡ least_in_number_set mask ∷ filter (has (bit_xor mask (2 ^ least_in_number_set mask))) switches
unfolding switches
least_first mask fits some =
    let least = least_in_number_set mask in
    let there = first_left mask fits some in
    picks_first (has mask) (has (bit_xor mask (2 ^ least))) 0 64 least (omega arith)
    (least_lt mask (omega arith) fits) there (has_less-same mask least there)
    (least_below mask (omega arith) fits) (λ j apart. has-xor_other mask least j apart)

-- no switch
pub none_left : (mask : ℕ) → mask ≡ 0 → filter (has mask) switches ≡ []
unfolding switches
none_left mask none = rw none (all_out 0 64) where
  all_out : (a n : ℕ) → filter (has 0) (range_with_len a n) ≡ []
  all_out a zero = refl
  all_out a (suc n) = rw (has-zero a) (all_out (a + 1) n)
