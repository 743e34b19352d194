-- Numbers of a range that are picked by a test.
use Rattle.std.proofs.Common.{◌&&◌, ◌+◌, ◌-◌, ◌<◌, ◌==◌, ◌∙◌, ◌≡◌, ◌≤◌, Bool, ap, arith, eq-eqb, eqb-true, filter, length, refl, true, ℕ}
use Rattle.base.proofs.Exports.{and-true, any-filter_same, get_or-range_with_len, length-range_with_len, list_any, list_any-from_Any, range_with_len}

any_in_range : (s low n : ℕ) → low ≤ s → s < low + n
    → list_any (λ x. x == s) (range_with_len low n) ≡ true
any_in_range s low n above below =
    let long : length (range_with_len low n) ≡ n = length-range_with_len low n in
    let own : low + (s - low) ≡ s = omega arith in
    list_any-from_Any (λ x. x == s) (range_with_len low n) (
      s - low,
      s,
      omega arith,
      get_or-range_with_len low n (s - low) s (omega arith) ∙ own,
      eq-eqb s s refl,
    )

-- a number of the range is among those that pass where it passes
pub any_picked : (test : ℕ → Bool) (s low n : ℕ) → low ≤ s → s < low + n
    → list_any (λ x. x == s) (filter test (range_with_len low n)) ≡ test s
any_picked test s low n above below = any-filter_same (λ x. x == s) test (test s)
    (λ k same. ap test (eqb-true k s same)) (range_with_len low n)
    ∙ ap (λ b. test s && b) (any_in_range s low n above below) ∙ and-true (test s)
