-- The numbers of slots that pass a test.
use Rattle.std.proofs.Common.{[], ◌++◌, ◌+◌, ◌<◌, ◌∙◌, ◌∷◌, ◌≡◌, ◌≤◌, Bool, List, None, ap, append-nil, append_assoc, arith, cond, false, filter, length, refl, suc, sym, zero, ℕ}
use Rattle.base.proofs.Exports.{filter-append, filter_more, get_or_past, range_more, range_with_len}
use Rattle.travelling.specs.Travelling.{TravellingFlights, travelling_stands_at, flight}

-- none between passes
pub none_between : (test : ℕ → Bool) (from more : ℕ)
    → ((i : ℕ) → from ≤ i → i < from + more → test i ≡ false)
    → filter test (range_with_len 0 (from + more)) ≡ filter test (range_with_len 0 from)
none_between test from zero none = ap (λ k. filter test (range_with_len 0 k)) (omega arith)
none_between test from (suc more) none = ap (λ k. filter test (range_with_len 0 k)) (omega arith)
    ∙ filter_more test (from + more)
    ∙ ap (λ b. filter test (range_with_len 0 (from + more)) ++ cond b ((from + more) ∷ []) [])
    (none (from + more) (omega arith) (omega arith))
    ∙ append-nil (filter test (range_with_len 0 (from + more))) ∙ none_between test from more
    (λ i above below. none i above (omega (arith, below)))

-- those that pass, first below a number and then from it on
pub filter_on : (test : ℕ → Bool) (from more : ℕ) → filter test (range_with_len 0 (from + more))
    ≡ filter test (range_with_len 0 from) ++ filter test (range_with_len from more)
filter_on test from zero = ap (λ k. filter test (range_with_len 0 k)) (omega arith)
    ∙ sym (append-nil (filter test (range_with_len 0 from)))
filter_on test from (suc more) =
    let next_more : ◌≡◌ {A = ℕ} (more + 1) (suc more) = omega arith in
    let last : List ℕ = cond (test (from + more)) ((from + more) ∷ []) [] in
    let low : List ℕ = filter test (range_with_len 0 from) in
    let high : List ℕ = filter test (range_with_len from more) in
    ap (λ k. filter test (range_with_len 0 k)) (omega arith)
    ∙ filter_more test (from + more)
    ∙ ap (λ numbers. numbers ++ last) (filter_on test from more)
    ∙ append_assoc low high last
    ∙ ap (λ numbers. low ++ numbers)
    (sym (filter-append test (range_with_len from more) ((from + more) ∷ []))
    ∙ ap (filter test) (sym (range_more from more (from + more) refl))
    ∙ ap (λ k. filter test (range_with_len from k)) next_more)

-- what a packet of no slot does
pub beyond : (before : TravellingFlights) (s i : ℕ) → length before ≤ i
    → travelling_stands_at s (flight before i) ≡ false
beyond before s i past = rw (get_or_past before i None past) refl
