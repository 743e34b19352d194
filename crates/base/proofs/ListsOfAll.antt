-- What is true of all elements, of all pairs of them, or of one that is there.
use Rattle.std.proofs.Common.{[], ◌++◌, ◌+◌, ◌<◌, ◌∙◌, ◌∷◌, ◌≡◌, All, AllPairs, Contains, IfSome, IsSomeAnd, List, None, Option, Some, ap, arith, drop, filter_map, flat_map, get_or, get_or-append-add, length, length-append, map, refl, remove, slice_get, subst, suc, sym, take, zero, ℕ, rules}
use Rattle.std.specs.List.{AllZip, cons_option, range_with_len}
use Rattle.std.proofs.lemmas.List.{get_or-map, get_or_append_left, length-map}
use Rattle.std.proofs.lemmas.List.Elements.{All-append, All-cons, All-contains, All-contains_itself, All-drop, All-head, All-nil, All-tail, All-take, All-weaker, Contains-append_left, Contains-append_right}
use Rattle.std.proofs.lemmas.List.Kept.{AllPairs-cons}
use Rattle.std.proofs.lemmas.Option.{get_or_from_slice_get, slice_get-get_or, slice_get_past, slice_get_within}
use Rattle.base.proofs.ListLemmas.{in_cons_option}

pub AllPairs-append : {X : Type 0} (R : X → X → Type 0) (xs ys : List X) → AllPairs R xs → AllPairs R ys
    → All (λ x. All (R x) ys) xs → AllPairs R (xs ++ ys)
AllPairs-append R [] ys ones others cross = others
AllPairs-append R (x ∷ xs) ys ones others cross = AllPairs-cons R x (xs ++ ys) (All-append (R x) xs
    ys (λ k d within. ones 0 (suc k) d (omega arith) (omega arith)) (cross 0 x (omega arith)))
    (AllPairs-append R xs ys (λ i j d less within. ones (suc i) (suc j) d (omega arith)
    (omega arith)) others (λ k d within. cross (suc k) d (omega arith)))

get_or-seam : {X : Type 0} (xs : List X) (y : X) (zs : List X) (d : X)
    → get_or (xs ++ y ∷ zs) (length xs) d ≡ y
get_or-seam [] y zs d = refl
get_or-seam (x ∷ xs) y zs d = get_or-seam xs y zs d

-- what comes before an element is related to it
pub pairs_before : {X : Type 0} (R : X → X → Type 0) (xs : List X) (y : X) (zs : List X)
    → AllPairs R (xs ++ y ∷ zs) → All (λ x. R x y) xs
pairs_before R xs y zs pairs k d within =
    subst (λ x. R x y) (get_or_append_left xs (y ∷ zs) d k within)
    (subst (R (get_or (xs ++ y ∷ zs) k d)) (get_or-seam xs y zs d)
    (pairs k (length xs) d within (omega (arith, length-append xs (y ∷ zs)))))

pub contains_later : {X : Type 0} (y : X) (ys : List X) (x : X) → Contains ys x → Contains (y ∷ ys) x
contains_later y ys x (k, within, is) = (suc k, omega arith, is)

pub All-flat_map_parts : {X Y : Type 0} (P : Y → Type 0) (f : X → List Y) (xs : List X) → All P (flat_map f xs)
    → All (λ x. All P (f x)) xs
All-flat_map_parts P f [] all = All-nil (λ x. All P (f x))
All-flat_map_parts P f (x ∷ xs) all = let part = All-contains P (f x ++ flat_map f xs) in
    All-cons (λ x. All P (f x)) x xs
    (All-weaker (Contains (f x)) P (λ y there. part y all
    (Contains-append_left (f x) (flat_map f xs) y there)) (f x) (All-contains_itself (f x)))
    (All-flat_map_parts P f xs (All-weaker (Contains (flat_map f xs)) P
    (λ y there. part y all (Contains-append_right (f x) (flat_map f xs) y there)) (flat_map f xs)
    (All-contains_itself (flat_map f xs))))

pub All-filter_map : {X Y : Type 0} (P : Y → Type 0) (f : X → Option Y) (xs : List X)
    → All (λ x. IfSome (f x) P) xs → All P (filter_map f xs)
All-filter_map P f [] all = All-nil P
All-filter_map {X} {Y} P f (x ∷ xs) all = by_case (f x) (All-head (λ z. IfSome (f z) P) x xs all)
    (All-filter_map P f xs (All-tail (λ z. IfSome (f z) P) x xs all))
  where
    by_case : (o : Option Y) → IfSome o P → All P (filter_map f xs)
        → All P (cons_option o (filter_map f xs))
    by_case None here rest = rest
    by_case (Some y) here rest = All-cons P y (filter_map f xs) here rest

pub Contains-filter_map : {X Y : Type 0} (f : X → Option Y) (xs : List X) (x : X) (y : Y) → Contains xs x
    → f x ≡ Some y → Contains (filter_map f xs) y
Contains-filter_map f [] x y (k, within, is) made = absurd (omega (arith, within))
Contains-filter_map f (z ∷ zs) x y (zero, within, is) made = search rules
Contains-filter_map f (z ∷ zs) x y (suc k, within, is) made = in_cons_option (f z) (filter_map f zs)
    y (Contains-filter_map f zs x y (k, omega arith, is) made)

-- what is left of two elements of a list is related where they are
pub AllPairs-filter_map : {X Y : Type 0} (R : X → X → Type 0) (S : Y → Y → Type 0)
    (f : X → Option Y) → ((a b : X) → R a b → IfSome (f a) (λ y. IfSome (f b) (λ z. S y z)))
    → (xs : List X) → AllPairs R xs → AllPairs S (filter_map f xs)
AllPairs-filter_map R S f each [] pairs = λ i j d less within. absurd (omega (arith, within))
AllPairs-filter_map {X} {Y} R S f each (x ∷ xs) pairs = by_case (f x)
    (λ k d within. each x (get_or xs k d) (pairs 0 (suc k) d (omega arith) (omega arith)))
    (AllPairs-filter_map R S f each xs
    (λ i j d less within. pairs (suc i) (suc j) d (omega arith) (omega arith)))
  where
    by_case : (o : Option Y) → All (λ b. IfSome o (λ y. IfSome (f b) (λ z. S y z))) xs
        → AllPairs S (filter_map f xs) → AllPairs S (cons_option o (filter_map f xs))
    by_case None first rest = rest
    by_case (Some y) first rest =
        AllPairs-cons S y (filter_map f xs) (All-filter_map (S y) f xs first) rest

pub Contains-map : {X Y : Type 0} (f : X → Y) (xs : List X) (x : X) → Contains xs x
    → Contains (map f xs) (f x)
Contains-map f xs x (k, within, is) = let len : length (map f xs) ≡ length xs = length-map _ _ in
    (k, omega arith, get_or-map f xs k x (f x) within ∙ ap f is)

pub AllPairs-map : {X Y : Type 0} (R : Y → Y → Type 0) (f : X → Y) (xs : List X)
    → AllPairs (λ a b. R (f a) (f b)) xs → AllPairs R (map f xs)
AllPairs-map R f [] pairs = λ i j d less within. absurd (omega arith)
AllPairs-map R f (x ∷ xs) pairs = λ i j d less within.
    let len : length (map f (x ∷ xs)) ≡ length (x ∷ xs) = length-map (x ∷ xs) f in
    rw (get_or-map f (x ∷ xs) i x d (omega arith), get_or-map f (x ∷ xs) j x d (omega arith))
    (pairs i j x less (omega arith))

pub All-remove : {X : Type 0} (P : X → Type 0) (xs : List X) (k : ℕ) → All P xs →
    All P (remove xs k)
All-remove P xs k all = All-append P (take k xs) (drop (suc k) xs) (All-take P k xs all)
    (All-drop P (suc k) xs all)

-- the item at a place, if there is one
pub IfSome-at_place : {A : Type 0} (P : A → Type 0) (xs : List A) (place : ℕ) (o : Option A) → All P xs
    → slice_get xs place ≡ o → IfSome o P
IfSome-at_place P xs place None sound e = tt
IfSome-at_place P xs place (Some x) sound e = subst P (get_or_from_slice_get xs place x x e)
    (sound place x (slice_get_within xs place x e))

-- an element that is there
pub there_at : {X : Type 0} (P : X → Type 0) (xs : List X) (k : ℕ) (d : X)
    → IsSomeAnd (slice_get xs k) P
    → (k < length xs) × (slice_get xs k ≡ Some (get_or xs k d)) × P (get_or xs k d)
there_at P xs k d is = search (rules, slice_get-get_or, slice_get_past)

pub All-one : {X : Type 0} (P : X → Type 0) (x : X) → P x → All P (x ∷ [])
All-one P x is k d within = search rules

AllZip-range_next : {A : Type 0} (R : ℕ → A → Type 0) (low count next : ℕ) (all : List A) (one : A)
    → low + count ≡ next → AllZip R (range_with_len low count) all → R next one
    → AllZip R (range_with_len low (suc count)) (all ++ one ∷ [])
AllZip-range_next R low zero next [] one is each last = search rules
AllZip-range_next R low zero next (first ∷ all) one is each last = absurd each
AllZip-range_next R low (suc count) next [] one is each last = absurd each
AllZip-range_next R low (suc count) next (first ∷ all) one is each last =
    (each.0, AllZip-range_next R (low + 1) count next all one (omega arith) each.1 last)

-- one more behind those of the ports below its own
pub AllZip-range_more : {A : Type 0} (R : ℕ → A → Type 0) (count : ℕ) (all : List A) (one : A)
    → AllZip R (range_with_len 0 count) all → R count one
    → AllZip R (range_with_len 0 (count + 1)) (all ++ one ∷ [])
AllZip-range_more R count all one each last = search (rules, AllZip-range_next)

-- where each is seen as one of these, so are all
pub seen_are : {A S : Type 0} (seen : A → S) (value : ℕ → S) (ports : List ℕ) (all : List A)
    → AllZip (λ port one. seen one ≡ value port) ports all → map seen all ≡ map value ports
seen_are seen value [] [] each = refl
seen_are seen value [] (one ∷ all) each = absurd each
seen_are seen value (port ∷ ports) [] each = absurd each
seen_are seen value (port ∷ ports) (one ∷ all) each =
    cc (each.0, seen_are seen value ports all each.1)

-- what is true of all is true of the next one
pub holds_next : {A : Type 0} (P : A → Type 0) (all first later : List A) (one : A)
    → first ++ one ∷ later ≡ all → All P all → P one
holds_next P all first later one parts holds = subst P
    (ap (λ xs. get_or xs (length first + 0) one) (sym parts)
    ∙ get_or-append-add first (one ∷ later) 0 one) (holds (length first + 0) one
    (omega (arith, ap length parts, length-append first (one ∷ later))))

pub contains_at : {X : Type 0} (xs : List X) (k : ℕ) (x : X) → slice_get xs k ≡ Some x → Contains xs x
contains_at xs k x there = (k, slice_get_within xs k x there, get_or_from_slice_get xs k x x there)
