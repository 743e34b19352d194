-- What is true of each element, by recursion over the list.
use Rattle.std.proofs.Common.{[], ◌++◌, ◌∷◌, ◌≡◌, Bool, IsTrue, List, Option, Some, filter, flat_map, map, option_to_list, rules}
use Rattle.std.specs.List.{AllByRecursion, list_all}
use Rattle.std.specs.Prelude.{⊤}

pub each_map : {X Y : Type 0} (P : Y → Type 0) (f : X → Y) (xs : List X)
    → AllByRecursion (λ x. P (f x)) xs → AllByRecursion P (map f xs)
each_map P f [] all = tt
each_map P f (x ∷ xs) all = (all.0, each_map P f xs all.1)

pub each_append : {X : Type 0} (P : X → Type 0) (xs ys : List X) → AllByRecursion P xs
    → AllByRecursion P ys → AllByRecursion P (xs ++ ys)
each_append P [] ys all others = others
each_append P (x ∷ xs) ys all others = (all.0, each_append P xs ys all.1 others)

pub each_flat_map : {X Y : Type 0} (P : Y → Type 0) (f : X → List Y)
    → ((x : X) → AllByRecursion P (f x)) → (xs : List X) → AllByRecursion P (flat_map f xs)
each_flat_map P f all [] = tt
each_flat_map P f all (x ∷ xs) = search (rules, each_append, each_flat_map P f all xs)

pub each_always : {X : Type 0} (P : X → Type 0) → ((x : X) → P x) → (xs : List X) → AllByRecursion P xs
each_always P all [] = tt
each_always P all (x ∷ xs) = (all x, each_always P all xs)

-- what passes a test has what follows from it and from what all have
pub each_passing : {X : Type 0} (Q P : X → Type 0) (test : X → Bool)
    → ((x : X) → Q x → IsTrue (test x) → P x) → (xs : List X) → AllByRecursion Q xs
    → AllByRecursion P (filter test xs)
each_passing Q P test so [] all = tt
each_passing Q P test so (x ∷ xs) all = search (rules, each_passing Q P test so xs all.1)

pub each_filter : {X : Type 0} (P : X → Type 0) (test : X → Bool)
    → ((x : X) → IsTrue (test x) → P x) → (xs : List X) → AllByRecursion P (filter test xs)
each_filter P test so xs =
    each_passing (λ x. ⊤) P test (λ x any. so x) xs (each_always (λ x. ⊤) (λ x. tt) xs)

pub each_kept : {X : Type 0} (P : X → Type 0) (test : X → Bool) (xs : List X)
    → AllByRecursion P xs → AllByRecursion P (filter test xs)
each_kept P test = each_passing P P test (λ x all is. all)

pub each_flat_map_in : {X Y : Type 0} (P : Y → Type 0) (f : X → List Y) (xs : List X)
    → AllByRecursion (λ x. AllByRecursion P (f x)) xs → AllByRecursion P (flat_map f xs)
each_flat_map_in P f [] all = tt
each_flat_map_in P f (x ∷ xs) all = search (rules, each_append, each_flat_map_in P f xs all.1)

pub each_option : {X : Type 0} (P : X → Type 0) (o : Option X) → ((x : X) → o ≡ Some x → P x)
    → AllByRecursion P (option_to_list o)
each_option P o all = search rules

pub each_of_all : {X : Type 0} (test : X → Bool) (xs : List X) → IsTrue (list_all test xs)
    → AllByRecursion (λ x. IsTrue (test x)) xs
each_of_all test [] all = tt
each_of_all test (x ∷ xs) all = search (rules, each_of_all test xs)

pub each_unmap : {X Y : Type 0} (P : Y → Type 0) (f : X → Y) (xs : List X)
    → AllByRecursion P (map f xs) → AllByRecursion (λ x. P (f x)) xs
each_unmap P f [] all = tt
each_unmap P f (x ∷ xs) all = (all.0, each_unmap P f xs all.1)
