-- Sets of priorities, which are ordered by number.
use Rattle.std.proofs.Common.{◌≡◌, BTreeSet, arith, cond, eqb, is_eq, nat_cmp, true, ℕ}
use Rattle.base.proofs.Exports.{Updates, contains, nat_tests}

-- equal in the order is equal
pub is_eq-nat_cmp : (a b : ℕ) → is_eq (nat_cmp a b) ≡ eqb a b
is_eq-nat_cmp a b = grind (arith, nat_tests)

-- a set with one priority more
pub set_with : (old new : BTreeSet ℕ) (priority : ℕ) → Updates nat_cmp old new priority true
    → (q : ℕ) → contains nat_cmp new q ≡ cond (eqb priority q) true (contains nat_cmp old q)
set_with old new priority updates q = cc (updates.0 q, is_eq-nat_cmp priority q)
