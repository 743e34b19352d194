-- Numbers of a range that are picked by a test, and what is made of them.
use Rattle.std.proofs.Common.{[], ◌+◌, ◌<◌, ◌∙◌, ◌∷◌, ◌≡◌, ◌≤◌, Bool, IsFalse, IsTrue, ap, arith, cond, false, length, subst, suc, take_while, true, zero, ℕ}
use Rattle.base.proofs.Exports.{range_with_len, take_while-cons}
pub use Rattle.control_laws.proofs.ControlPickedNumbers.{any_picked}

-- ---- ranges

-- as many pass in front as pass up to one that doesn't
pub passing_is : (test : ℕ → Bool) (low n k : ℕ) → k ≤ n
    → ((v : ℕ) → low ≤ v → v < low + k → IsTrue (test v))
    → (k < n → IsFalse (test (low + k))) → length (take_while test (range_with_len low n)) ≡ k
passing_is test low zero k few all stops = omega (arith, few)
passing_is test low (suc n) zero few all stops =
    ap length (take_while-cons test low (range_with_len (low + 1) n))
    ∙ ap (λ b. length (cond b (low ∷ take_while test (range_with_len (low + 1) n)) []))
    (subst (λ v. IsFalse (test v)) (omega arith) (stops (omega arith)))
passing_is test low (suc n) (suc k) few all stops =
    let passes : test low ≡ true = all low (omega arith) (omega arith) in
    ap length (take_while-cons test low (range_with_len (low + 1) n))
    ∙ ap (λ b. length (cond b (low ∷ take_while test (range_with_len (low + 1) n)) [])) passes
    ∙ ap suc
    (passing_is test (low + 1) n k (omega arith) (λ v above below. all v (omega arith)
    (omega arith)) (λ more. subst (λ v. IsFalse (test v)) (omega arith) (stops (omega arith))))
