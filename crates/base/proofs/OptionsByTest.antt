-- Values that a test chooses, and those that are there where it passes.
use Rattle.std.proofs.Common.{if◌then◌else◌, ◌<◌, ◌==◌, ◌≡◌, ◌≢◌, ◌≤◌, ◌⊎◌, Bool, IsSome, None, Option, Some, arith, cond, false, is_some, ltb, ne_eqb, true, ℕ, rules}
use Rattle.std.proofs.lemmas.Bool.Decides.{nat_tests}

pub passes_from_is_some : {X : Type 0} (b : Bool) (o : Option X) → is_some (cond b o None) ≡ true → b ≡ true
passes_from_is_some b o e = search rules

-- what is there under a test passes it
pub some_passes : {A : Type 0} (b : Bool) (o : Option A) → IsSome (cond b o None) → b ≡ true
some_passes b o some = search rules

pub some_passes_of : {X : Type 0} (b : Bool) (x : X) → IsSome (cond b (Some x) None) → b ≡ true
some_passes_of b x is = search rules

-- an end that isn't the switch
pub none_where_other : {X : Type 0} (s t end : ℕ) (told : X) → s ≡ t → end ≢ t
    → (if s == end then Some told else None) ≡ None
none_where_other {X = X} s t end told is other = search (rules, ne_eqb)

pub either_way_same : {X : Type 0} (b : Bool) (x : X) → x ≡ (if b then x else x)
either_way_same b x = search rules

pub cond_if_below : {X : Type 0} (low n : ℕ) (a b : X) → low < n → cond (ltb low n) a b ≡ a
cond_if_below low n a b many = grind (arith, nat_tests)

pub cond_if_above : {X : Type 0} (low n : ℕ) (a b : X) → n ≤ low → cond (ltb low n) a b ≡ b
cond_if_above low n a b few = grind (arith, nat_tests)

-- a test didn't refuse
pub not_refused : {A : Type 0} (b : Bool) (x y : A) → cond b None (Some x) ≡ Some y → (b ≡ false) × (x ≡ y)
not_refused b x y e = search rules

-- a test passed, and then something was read
pub passes_then_some : {A : Type 0} (b : Bool) (o : Option A) (y : A) → cond b o None ≡ Some y → (b ≡ true) × (o ≡ Some y)
passes_then_some b o y e = search rules

pub cond_cases : {A : Type 0} (b : Bool) (x y z : A) → cond b x y ≡ z → ((b ≡ true) × (x ≡ z)) ⊎ ((b ≡ false) × (y ≡ z))
cond_cases b x y z e = search rules
