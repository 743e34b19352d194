-- Lists joined end to end, pair by pair, or made of what each element gives.
use Rattle.std.proofs.Common.{[], ◌++◌, ◌+◌, ◌<◌, ◌∙◌, ◌∷◌, ◌≡◌, List, Option, ap, append-nil, append_assoc, arith, drop, drop-cons, filter_map, flat_map, get_or, length, refl, suc, sym, take, take-add, take-append-drop, zip, ℕ, rules}
use Rattle.std.specs.List.{cons_option, enumerate_from}
use Rattle.std.specs.Option.{option_map_or}
use Rattle.std.proofs.lemmas.Grind.{flat_map-append}
use Rattle.std.proofs.lemmas.List.{take_more}
use Rattle.std.proofs.lemmas.List.Elements.{filter_map-append}

pub zip_pushed : {A B : Type 0} (xs : List A) (ys : List B) (x : A) (y : B) → length xs ≡ length ys
    → zip (xs ++ x ∷ []) (ys ++ y ∷ []) ≡ zip xs ys ++ (x, y) ∷ []
zip_pushed [] [] x y same = refl
zip_pushed [] (b ∷ ys) x y same = absurd (omega (arith, same))
zip_pushed (a ∷ xs) [] x y same = absurd (omega (arith, same))
zip_pushed (a ∷ xs) (b ∷ ys) x y same = cc (zip_pushed xs ys x y (omega (arith, same)))

pub enumerate_push : {X : Type 0} (n : ℕ) (xs : List X) (x : X)
    → enumerate_from n (xs ++ x ∷ []) ≡ enumerate_from n xs ++ (n + length xs, x) ∷ []
enumerate_push {X} n [] x =
    let e : n ≡ n + 0 = omega arith in ap {B = List (ℕ × X)} (λ k. (k, x) ∷ []) e
enumerate_push {X} n (y ∷ ys) x =
    ap {B = List (ℕ × X)} (λ l. (n, y) ∷ l) (enumerate_push (n + 1) ys x
    ∙ ap {B = List (ℕ × X)} (λ k. enumerate_from (n + 1) ys ++ (k, x) ∷ []) (omega arith))

-- what is in the middle of nothing is nothing
pub middle_none : {X : Type 0} (xs ys zs : List X) → xs ++ (ys ++ zs) ≡ [] → ys ≡ []
middle_none [] [] zs is = refl
middle_none [] (y ∷ ys) zs is = cc is
middle_none (x ∷ xs) ys zs is = cc is

-- the first items were written, and then the rest
pub both_written : {A : Type 0} (old begun new first rest : List A) → begun ≡ old ++ first
    → new ≡ begun ++ rest → new ≡ old ++ (first ++ rest)
both_written old begun new first rest first_is grown = search (rules, append_assoc)

-- one more item of a list
pub taken_more : {X Y : Type 0} (f : X → List Y) (xs : List X) (i : ℕ) (x : X) → i < length xs
    → x ≡ get_or xs i x → flat_map f (take i xs) ++ f x ≡ flat_map f (take (i + 1) xs)
taken_more f xs i x within at = sym (
    ap (flat_map f) (take_more xs i x within ∙ ap (λ y. take i xs ++ y ∷ []) (sym at))
    ∙ flat_map-append f (take i xs) (x ∷ [])
    ∙ ap (λ l. flat_map f (take i xs) ++ l) (append-nil (f x)))

one_found : {Y Z : Type 0} (f : Y → List Z) (o : Option Y)
    → flat_map f (cons_option o []) ≡ option_map_or f o []
one_found f o = search rules

-- one more item, for which another may be found
pub found_more : {X Y Z : Type 0} (f : Y → List Z) (h : X → Option Y) (xs : List X) (i : ℕ) (x : X)
    → i < length xs → x ≡ get_or xs i x
    → flat_map f (filter_map h (take i xs)) ++ option_map_or f (h x) []
    ≡ flat_map f (filter_map h (take (i + 1) xs))
found_more f h xs i x within at = sym (
    ap (λ l. flat_map f (filter_map h l))
    (take_more xs i x within ∙ ap (λ y. take i xs ++ y ∷ []) (sym at))
    ∙ ap (flat_map f) (filter_map-append h (take i xs) (x ∷ []))
    ∙ flat_map-append f (filter_map h (take i xs)) (filter_map h (x ∷ []))
    ∙ ap (λ l. flat_map f (filter_map h (take i xs)) ++ l) (one_found f (h x)))

-- pieces are those before a place, the one there, and the rest
pub flat_map-at : {X : Type 0} (f : X → List ℕ) (xs : List X) (i : ℕ) (d : X) → i < length xs
    → flat_map f (take i xs) ++ (f (get_or xs i d) ++ flat_map f (drop (suc i) xs)) ≡ flat_map f xs
flat_map-at f xs i d within = sym (flat_map-append f (take i xs) (get_or xs i d ∷ drop (suc i) xs))
    ∙ ap (flat_map f)
    (ap (λ ys. take i xs ++ ys) (sym (drop-cons xs i d within)) ∙ take-append-drop i xs)

-- the pieces of a few more
flat_map-more : {X : Type 0} (f : X → List ℕ) (xs block : List X) (at : ℕ)
    → block ≡ take (length block) (drop at xs) → flat_map f (take at xs) ++ flat_map f block
    ≡ flat_map f (take (at + length block) xs)
flat_map-more f xs block at is = search (rules, flat_map-append, take-add)

-- the same of an item that is known to stand there
pub flat_map-there : {X : Type 0} (f : X → List ℕ) (xs : List X) (i : ℕ) (x : X) → i < length xs
    → get_or xs i x ≡ x
    → flat_map f (take i xs) ++ (f x ++ flat_map f (drop (suc i) xs)) ≡ flat_map f xs
flat_map-there f xs i x within own = cc (own, flat_map-at f xs i x within)

-- the pieces of one more
pub flat_map-one : {X : Type 0} (f : X → List ℕ) (xs : List X) (i : ℕ) (x : X) → i < length xs
    → get_or xs i x ≡ x → flat_map f (take i xs) ++ f x ≡ flat_map f (take (i + 1) xs)
flat_map-one f xs i x within own = ap (λ y. flat_map f (take i xs) ++ f y) (sym own)
    ∙ ap (λ bytes. flat_map f (take i xs) ++ bytes) (sym (append-nil (f (get_or xs i x))))
    ∙ flat_map-more f xs (get_or xs i x ∷ []) i (sym (ap (take 1) (drop-cons xs i x within)))
