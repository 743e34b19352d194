-- What is at a place of a list that was changed at one.
use Rattle.std.proofs.Common.{[], if◌then◌else◌, ◌++◌, ◌+◌, ◌-◌, ◌<◌, ◌==◌, ◌∙◌, ◌∷◌, ◌≡◌, List, None, Option, Some, add-one, ap, arith, drop, drop-cons, drop-set-lt, get_or, length, length-set, length-take-le, map, option_map, refl, remove, replicate, set, slice_get, suc, swap_remove, sym, take, take_at, zero, ℕ, rules}
use Rattle.std.specs.Option.{option_map_or}
use Rattle.std.proofs.Math.Seq.{drop-append_seam, take-append_seam}
use Rattle.std.proofs.lemmas.List.{at_drop_more, drop-map, get_or_push, length_push, map-append, set-append_left, take-map, take-set}
use Rattle.std.proofs.lemmas.Option.{same_Some}
use Prim.Native.Nat.compare.{suc-suc}
use Rattle.base.proofs.OptionsByTest.{either_way_same}

pub get_pushed : {X : Type 0} (xs : List X) (x : X) (i : ℕ)
    → slice_get (xs ++ x ∷ []) i ≡ (if i == length xs then Some x else slice_get xs i)
get_pushed [] x zero = refl
get_pushed [] x (suc i) = grind arith
get_pushed (y ∷ xs) x zero = grind arith
get_pushed (y ∷ xs) x (suc i) = rw suc-suc (get_pushed xs x i)

pub get_set_found : {X : Type 0} (f : X → X) (xs : List X) (i j : ℕ) (found : Option X)
    → slice_get xs i ≡ found → slice_get (option_map_or (λ x. set xs i (f x)) found xs) j
    ≡ (if j == i then option_map f (slice_get xs j) else slice_get xs j)
get_set_found f [] i j None at = either_way_same (j == i) None
get_set_found f [] i j (Some x) at = absurd (cc)
get_set_found f (y ∷ xs) zero j None at = absurd (cc)
get_set_found f (y ∷ xs) zero zero (Some x) at = ap (option_map f) (sym at)
get_set_found f (y ∷ xs) zero (suc j) (Some x) at = grind arith
get_set_found f (y ∷ xs) (suc i) zero None at = grind arith
get_set_found f (y ∷ xs) (suc i) zero (Some x) at = grind arith
get_set_found f (y ∷ xs) (suc i) (suc j) None at = rw suc-suc (get_set_found f xs i j None at)
get_set_found f (y ∷ xs) (suc i) (suc j) (Some x) at = rw suc-suc (get_set_found f xs i j (Some x) at)

pub get_set_same : {X : Type 0} (xs : List X) (i : ℕ) (y : X) → i < length xs
    → slice_get (set xs i y) i ≡ Some y
get_set_same [] i y within = absurd (omega (arith, within))
get_set_same (x ∷ xs) zero y within = refl
get_set_same (x ∷ xs) (suc i) y within = get_set_same xs i y (omega (arith, within))

pub get_set_other : {X : Type 0} (xs : List X) (i j : ℕ) (y : X) → (j ≡ i → ⊥)
    → slice_get (set xs i y) j ≡ slice_get xs j
get_set_other [] i j y other = refl
get_set_other (x ∷ xs) zero zero y other = absurd (other refl)
get_set_other (x ∷ xs) zero (suc j) y other = refl
get_set_other (x ∷ xs) (suc i) zero y other = refl
get_set_other (x ∷ xs) (suc i) (suc j) y other = get_set_other xs i j y (λ e. other (ap suc e))

pub get_push_left : {X : Type 0} (xs : List X) (y : X) (k : ℕ) → k < length xs
    → slice_get (xs ++ y ∷ []) k ≡ slice_get xs k
get_push_left [] y k within = absurd (omega (arith, within))
get_push_left (x ∷ xs) y zero within = refl
get_push_left (x ∷ xs) y (suc k) within = get_push_left xs y k (omega (arith, within))

pub get_push_at : {X : Type 0} (xs : List X) (y : X) (k : ℕ) → k ≡ length xs
    → slice_get (xs ++ y ∷ []) k ≡ Some y
get_push_at [] y zero e = refl
get_push_at [] y (suc k) e = absurd (omega (arith, e))
get_push_at (x ∷ xs) y zero e = absurd (omega (arith, e))
get_push_at (x ∷ xs) y (suc k) e = get_push_at xs y k (omega (arith, e))

pub get_replicate : {X : Type 0} (n : ℕ) (y : X) (k : ℕ) (x : X)
    → slice_get (replicate n y) k ≡ Some x → y ≡ x
get_replicate zero y k x there = absurd cc
get_replicate (suc n) y zero x there = same_Some y x there
get_replicate (suc n) y (suc k) x there = get_replicate n y k x there

-- one place has one item
pub one_item : {X : Type 0} (xs : List X) (i k : ℕ) (x y : X) → slice_get xs i ≡ Some x → k ≡ i
    → slice_get xs k ≡ Some y → x ≡ y
one_item xs i k x y here same there = same_Some x y (sym here ∙ ap (slice_get xs) (sym same) ∙ there)

-- a function of a list from an element on, as a loop reads it
pub at_item : {X Y : Type 0} (f : List X → Y) (xs : List X) (i : ℕ) (x : X) → i < length xs
    → x ≡ get_or xs i x → f (drop i xs) ≡ f (x ∷ drop (i + 1) xs)
at_item f xs i x within is = cc (at_drop_more f xs i x within, is)

pub drop_at_item : {M : Type 0} (meters : List M) (at : ℕ) (meter : M) → at < length meters
    → get_or meters at meter ≡ meter → drop at meters ≡ meter ∷ drop (at + 1) meters
drop_at_item meters at meter within is_meter = search (rules, add-one, drop-cons)

pub drop_set : {M : Type 0} (meters : List M) (at : ℕ) (new : M)
    → drop (at + 1) (set meters at new) ≡ drop (at + 1) meters
drop_set meters at new = drop-set-lt (at + 1) meters at new (omega arith)

pub seam_at : {M : Type 0} (front back : List M) (at : ℕ) → length front ≡ at
    → (take at (front ++ back) ≡ front) × (drop at (front ++ back) ≡ back)
seam_at front back at long = search (rules, take-append_seam, drop-append_seam)

pub remove-set : {M : Type 0} (meters : List M) (at : ℕ) (new : M) → at < length meters
    → remove (set meters at new) at ≡ take at meters ++ drop (at + 1) meters
remove-set meters at new within = search (rules, take-set, add-one, drop-set-lt)

pub drop_removed : {M : Type 0} (meters : List M) (at : ℕ) (new : M) → at < length meters
    → drop at (remove (set meters at new) at) ≡ drop (at + 1) meters
drop_removed meters at new within =
    ap (drop at) (remove-set meters at new within)
    ∙ (seam_at (take at meters) (drop (at + 1) meters) at (length-take-le at meters (omega arith))).1

pub map-remove : {X Y : Type 0} (f : X → Y) (xs : List X) (k : ℕ) →
    map f (remove xs k) ≡ remove (map f xs) k
map-remove f xs k =
    cc (map-append f (take k xs) (drop (suc k) xs), take-map f k xs, drop-map f (suc k) xs)

pub put_last : {X : Type 0} (xs : List X) (y : X) (i : ℕ) (d : X) → i < length xs →
    swap_remove (xs ++ y ∷ []) i d ≡ set xs i y
put_last xs y i d within =
    let len : length (xs ++ y ∷ []) - 1 ≡ length xs = omega (arith, length_push xs y) in
    ap (λ n. take n (set (xs ++ y ∷ []) i (get_or (xs ++ y ∷ []) n d))) len
    ∙ ap (λ z. take (length xs) (set (xs ++ y ∷ []) i z)) (get_or_push xs y d (length xs) refl)
    ∙ ap (take (length xs)) (set-append_left xs (y ∷ []) i y within)
    ∙ take_at (set xs i y) (y ∷ []) (length xs) (length-set xs i y)

-- nothing goes where there is nothing
pub none_removed : {X : Type 0} (xs : List X) (i : ℕ) → slice_get xs i ≡ None → remove xs i ≡ xs
none_removed [] zero none = refl
none_removed [] (suc i) none = refl
none_removed (x ∷ xs) zero none = absurd cc
none_removed (x ∷ xs) (suc i) none = ap (λ rest. x ∷ rest) (none_removed xs i none)

pub set-replicate : {X : Type 0} (x : X) (n i : ℕ) → set (replicate n x) i x ≡ replicate n x
set-replicate x zero i = refl
set-replicate x (suc n) zero = refl
set-replicate x (suc n) (suc i) = ap (λ rest. x ∷ rest) (set-replicate x n i)

mapped_at : {X : Type 0} (f : X → X) (xs : List X) (i : ℕ) (d : X)
    → get_or (map f (take i xs) ++ drop i xs) i d ≡ get_or xs i d
mapped_at f [] zero d = refl
mapped_at f [] (suc i) d = refl
mapped_at f (x ∷ xs) zero d = refl
mapped_at f (x ∷ xs) (suc i) d = mapped_at f xs i d

mapped_next : {X : Type 0} (f : X → X) (xs : List X) (i : ℕ) (d : X) → i < length xs
    → set (map f (take i xs) ++ drop i xs) i (f (get_or xs i d)) ≡ map f (take (suc i) xs) ++ drop
    (suc i) xs
mapped_next f [] i d within = absurd (omega arith)
mapped_next f (x ∷ xs) zero d within = refl
mapped_next f (x ∷ xs) (suc i) d within = ap (λ ys. f x ∷ ys) (mapped_next f xs i d (omega arith))

-- the walk's next item is the old one at its place
pub mapped_read : {X : Type 0} (f : X → X) (xs ys : List X) (i : ℕ) (d : X)
    → ys ≡ map f (take i xs) ++ drop i xs → get_or ys i d ≡ get_or xs i d
mapped_read f xs ys i d e = ap (λ l. get_or l i d) e ∙ mapped_at f xs i d

-- and with that replaced it has come one further
pub mapped_more : {X : Type 0} (f : X → X) (xs ys : List X) (i : ℕ) (d y : X) → i < length xs
    → ys ≡ map f (take i xs) ++ drop i xs → y ≡ f (get_or ys i d)
    → set ys i y ≡ map f (take (i + 1) xs) ++ drop (i + 1) xs
mapped_more f xs ys i d y within e made =
    cc (e, made, mapped_read f xs ys i d e, mapped_next f xs i d within, add-one i)

-- a front that is put back in its place
pub take_put_back : {X : Type 0} (n : ℕ) (old new : List X) → length new ≡ length (take n old)
    → take n (new ++ drop n old) ≡ new
take_put_back zero old [] len = refl
take_put_back zero old (x ∷ new) len = absurd (omega arith)
take_put_back (suc n) [] [] len = refl
take_put_back (suc n) [] (x ∷ new) len = absurd (omega arith)
take_put_back (suc n) (o ∷ old) [] len = absurd (omega arith)
take_put_back (suc n) (o ∷ old) (x ∷ new) len = cc (take_put_back n old new (omega arith))
