-- The least number from one on that passes a test.
use Rattle.std.specs.Prelude.{◌<◌, ◌≡◌, ◌≤◌, Bool, MatchOption, Option, false, true, ℕ}

-- the least number at or above `from` that passes the test; none if none does
abbrev pub IsLeastInWorldFrom : (ℕ → Bool) → ℕ → Option ℕ → Type 0
IsLeastInWorldFrom test from next = MatchOption next
    ((i : ℕ) → from ≤ i → test i ≡ false)
    (λ least. (from ≤ least) × (test least ≡ true)
    × ((i : ℕ) → from ≤ i → i < least → test i ≡ false))
