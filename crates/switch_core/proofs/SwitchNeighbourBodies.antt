-- A body for each neighbour below a number.
use Rattle.std.proofs.Common.{[], ◌++◌, ◌+◌, ◌-◌, ◌<◌, ◌==◌, ◌^◌, ◌∙◌, ◌∷◌, ◌≡◌, ◌≤◌, List, ap, append-nil, arith, cond, eq-zero-or-pos, false, filter, inl, inr, map, suc, sym, true, w64, zero, ℕ}
use Rattle.base.proofs.Exports.{bit_at_above, filter_more, has-zero, leading_length, leading_zeros, least_below, map-append, range_with_len, trailing_zeros}
use Rattle.base.specs.Exports.{has, least_in_number_set, switches}
use Rattle.ctrl_msg.specs.declared.message.Body.{Body}
use Rattle.ctrl_msg.specs.declared.message.Message.{Message}
use Rattle.ctrl_msg.specs.declared.message.Place.TheVariants.{Switch}
use Rattle.switch_core.specs.Exports.{switch_flood}

abbrev for_switch : Body → ℕ → Message
for_switch body other = record { to = Switch other; body = body }

-- the messages for the neighbours below n
unfoldable pub told : ℕ → Body → ℕ → List Message
told near body n = map (for_switch body) (filter (has near) (range_with_len 0 n))

-- one more switch
told_one : (near : ℕ) (body : Body) (n : ℕ) → told near body (n + 1) ≡ told near body n
    ++ map (for_switch body) (cond (has near n) (n ∷ []) [])
unfolding told
told_one near body n = ap (map (for_switch body)) (filter_more (has near) n)
    ∙ map-append (for_switch body) (filter (has near) (range_with_len 0 n))
    (cond (has near n) (n ∷ []) [])

pub adverts_near : (near : ℕ) (body : Body) (n : ℕ) → has near n ≡ true →
    told near body (n + 1) ≡ told near body n ++ record { to = Switch n; body = body } ∷ []
adverts_near near body n is = cc (told_one near body n, is)

pub told_far : (near : ℕ) (body : Body) (n : ℕ) → has near n ≡ false →
    told near body (n + 1) ≡ told near body n
told_far near body n is = cc (told_one near body n, is, append-nil (told near body n))

-- none is told where no neighbour is left
told_same : (near : ℕ) (body : Body) (n k : ℕ) → ((j : ℕ) → n ≤ j → j < n + k → has near j ≡ false)
    → told near body (n + k) ≡ told near body n
told_same near body n zero none = let same : n + 0 ≡ n = omega arith in ap (told near body) same
told_same near body n (suc k) none = let next : n + suc k ≡ n + k + 1 = omega arith in
    ap (told near body) next
    ∙ told_far near body (n + k) (none (n + k) (omega arith) (omega arith))
    ∙ told_same near body n k (λ j from below. none j from (omega arith))

-- no neighbour is below the least one, nor any where there is none
none_below : (near j : ℕ) → near < 2 ^ 64 → j < trailing_zeros w64 near → has near j ≡ false
unfolding least_in_number_set
none_below near j fits below = elim (eq-zero-or-pos near) [
  | inl none ↦ ap (λ n. has n j) none ∙ has-zero j
  | inr some ↦ least_below near some fits j below
]

pub told_none : (near : ℕ) (body : Body) → near < 2 ^ 64
    → told near body (trailing_zeros w64 near) ≡ []
unfolding told
told_none near body fits = let least : ℕ = trailing_zeros w64 near in
    ap (told near body) (omega arith)
    ∙ told_same near body 0 least (λ j from below. none_below near j fits (omega (arith, below)))

pub told_all : (near : ℕ) (body : Body) (n : ℕ) → near < 2 ^ 64 → 64 - leading_zeros w64 near ≤ n
    → told near body n ≡ switch_flood near body
unfolding told switch_flood has switches
told_all near body n fits past =
    let long = leading_length 64 near fits in
    let same : (i : ℕ) → long.0 ≤ i → told near body i ≡ told near body long.0 = λ i from.
    ap (told near body) (omega (arith, from)) ∙ told_same near body long.0 (i - long.0)
    (λ j above below. ap (λ d. d == 1) (bit_at_above near long.0 j long.2 above)) in
    same n (omega (arith, long.1, past)) ∙ sym (same 64 (omega (arith, long.1)))
