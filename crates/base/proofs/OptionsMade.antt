-- Options of any kind: what is there, and what is made of it.
use Rattle.std.proofs.Common.{◌≡◌, ◌≤◌, IfNone, IsSome, MatchOption, None, Ok, Option, Some, false, is_some, length, ok_or, option_and_then, option_map, option_to_list, true, ℕ, rules}
use Rattle.std.specs.Option.{option_or}

pub the_some : {A : Type 0} (o : Option A) → IsSome o → (x : A) × (o ≡ Some x)
the_some o some = search rules

pub some_same : {X : Type 0} (o : Option X) (x y : X) → o ≡ Some x → o ≡ Some y → x ≡ y
some_same o x y p q = cc

pub same_some : {A : Type 0} (a b : A) (o : Option A) → o ≡ Some a → o ≡ Some b → a ≡ b
same_some a b o p q = cc

pub some_of_map : {X Y : Type 0} (f : X → Y) (o : Option X) (y : Y) → option_map f o ≡ Some y → (x : X)
    × (o ≡ Some x) × (f x ≡ y)
some_of_map f o y e = search rules

pub some_of_then : {X Y : Type 0} (f : X → Option Y) (o : Option X) (y : Y) → option_and_then f o ≡ Some y
    → (x : X) × (o ≡ Some x) × (f x ≡ Some y)
some_of_then f o y e = search rules

pub MatchOption-weaker : {X P P' : Type 0} {Q Q' : X → Type 0} (o : Option X) → (P → P') →
    ((x : X) → Q x → Q' x) → MatchOption o P Q → MatchOption o P' Q'
MatchOption-weaker o left right h = search rules

-- two values that are both what an option says are equal
pub MatchOption-same : {X Y : Type 0} (o : Option Y) (a b none : X) (some : Y → X) →
    MatchOption o (a ≡ none) (λ y. a ≡ some y) → MatchOption o (b ≡ none) (λ y. b ≡ some y) →
    a ≡ b
MatchOption-same o a b none some one other = search rules

pub IfNone-weaker : {T P Q : Type 0} (found : Option T) → IfNone found P → (P → Q) → IfNone found Q
IfNone-weaker found p so = search rules

-- a number of which nothing is known
pub none_seen : {A B : Type 0} (seen : A → B) (found : Option A) (there : Option B)
    → option_map seen found ≡ there → is_some found ≡ false → there ≡ None
none_seen seen found there e f = search rules

-- what is made of an item is there where the item is
pub none_made_of : {A B : Type 0} (of : A → B) (item : Option A) (made : Option B)
    → made ≡ option_map of item → is_some made ≡ false → item ≡ None
none_made_of of item made e none = search rules

pub option_or-none : {X : Type 0} (o : Option X) → option_or o None ≡ o
option_or-none o = search rules

pub option_or-assoc : {X : Type 0} (o p q : Option X) → option_or (option_or o p) q ≡ option_or o
    (option_or p q)
option_or-assoc o p q = search rules

pub false_not_true : false ≡ true → ⊥
false_not_true e = absurd cc

pub none_is_not : {A : Type 0} (x : A) → None ≡ Some x → ⊥
none_is_not x e = absurd cc

pub none_is_not_some : {A : Type 0} (o : Option A) → o ≡ None → IsSome o → ⊥
none_is_not_some o e some = search (rules, false_not_true, none_is_not)

pub length-option_to_list : {A : Type 0} (o : Option A) → length (option_to_list o) ≤ 1
length-option_to_list o = search rules

pub some_of_ok_or : {X E : Type 0} (read : Option X) (refusal : E) (x : X) → ok_or read refusal ≡ Ok x
    → read ≡ Some x
some_of_ok_or read refusal x is = search rules
