-- What has a number after a call, for proofs of the crates above too.
use Rattle.std.proofs.Common.{[], if◌then◌else◌, ◌++◌, ◌+◌, ◌==◌, ◌∙◌, ◌∷◌, ◌≡◌, All, Err, IfSome, IsErr, List, None, Ok, Option, Result, Some, add-one, ap, arith, length, length-set, map, option_map, refl, set, slice_get, suc, zero, ℕ}
use Rattle.base.proofs.Exports.{All-push, get_push_at, get_push_left, get_pushed, get_set_found, length-map, map_push, option_map_or, slice_get-map, slice_get_within}
use Prim.Native.Nat.compare.{suc-suc}
use Rattle.message_bag.specs.Exports.{HasPosted, bag_item_numbered, bag_with_changed}

-- one more gets the next number; the others stay
pub numbered_pushed : {X : Type 0} (xs : List X) (x : X) (number : ℕ)
    → bag_item_numbered (xs ++ x ∷ []) number
    ≡ (if number == length xs + 1 then Some x else bag_item_numbered xs number)
numbered_pushed xs x zero = grind arith
numbered_pushed xs x (suc place) = rw (add-one, suc-suc) (get_pushed xs x place)

-- a change is of one number; the others stay
pub numbered_changed : {X : Type 0} (change : X → X) (xs : List X) (changed number : ℕ)
    → bag_item_numbered (bag_with_changed change xs changed) number ≡ (if number == changed
    then option_map change (bag_item_numbered xs number) else bag_item_numbered xs number)
numbered_changed change xs zero zero = grind arith
numbered_changed change xs zero (suc place) = grind arith
numbered_changed change xs (suc at) zero = grind arith
numbered_changed change xs (suc at) (suc place) =
    rw suc-suc (get_set_found change xs at place (slice_get xs at) refl)

-- a change leaves as many as before
pub length_changed : {X : Type 0} (change : X → X) (xs : List X) (number : ℕ)
    → length (bag_with_changed change xs number) ≡ length xs
length_changed change xs zero = refl
length_changed change xs (suc place) = by_one (slice_get xs place) where
  by_one : (o : Option _) → length (option_map_or (λ x. set xs place (change x)) o xs) ≡ length xs
  by_one None = refl
  by_one (Some x) = length-set xs place (change x)

-- what each one gives
pub numbered_map : {X Y : Type 0} (f : X → Y) (xs : List X) (number : ℕ)
    → bag_item_numbered (map f xs) number ≡ option_map f (bag_item_numbered xs number)
numbered_map f xs zero = refl
numbered_map f xs (suc place) = get_map xs place where
  get_map : (xs : List _) (i : ℕ) → slice_get (map f xs) i ≡ option_map f (slice_get xs i)
  get_map [] i = refl
  get_map (x ∷ xs) zero = refl
  get_map (x ∷ xs) (suc i) = get_map xs i

-- ---- an item that is posted, or not, if memory runs out

pub post_failed : {X E : Type 0} (r : Result ℕ E) (x : X) (old new : List X) → IsErr r → new ≡ old
    → HasPosted r x old new
post_failed (Ok number) x old new failed same = absurd cc
post_failed (Err e) x old new failed same = record { number = tt; posted = tt; unchanged = same }

module _ {X E : Type 0} (x : X) (old new : List X) where
  -- what was true of all is true of all, if it is true of this one
  pub all_posted : (P : X → Type 0) (r : Result ℕ E) → HasPosted r x old new → All P old → P x → All P new
  all_posted P (Ok number) post all is = rw post.posted (All-push P old x all is)
  all_posted P (Err e) post all is = rw post.unchanged all

  pub posted_mapped : {Y : Type 0} (f : X → Y) (seen : List Y) (r : Result ℕ E) → HasPosted r x old new
      → map f old ≡ seen → HasPosted r (f x) seen (map f new)
  posted_mapped f seen (Ok number) post view = record {
    number = omega (arith, post.number, length-map old f, ap length view);
    posted = rw (post.posted, map_push, view) refl;
    unchanged = tt;
  }
  posted_mapped f seen (Err e) post view = record { number = tt; posted = tt; unchanged = rw post.unchanged view }

  -- what had a number still has it
  pub still_numbered : (y : X) (number : ℕ) (r : Result ℕ E) → HasPosted r x old new
      → bag_item_numbered old number ≡ Some y → bag_item_numbered new number ≡ Some y
  still_numbered y zero r post is = absurd cc
  still_numbered y (suc place) (Ok number) post is =
      rw post.posted (get_push_left old x place (slice_get_within old place y is) ∙ is)
  still_numbered y (suc place) (Err e) post is = rw post.unchanged is

  pub last_numbered : (number : ℕ) → HasPosted {E = E} (Ok number) x old new → bag_item_numbered new number ≡ Some x
  last_numbered zero post = absurd (omega (arith, post.number))
  last_numbered (suc place) post = rw post.posted (get_push_at old x place (omega (arith, post.number)))

-- one that is posted again
pub mapped_again : {X Y E : Type 0} (f : X → Y) (old new : List X) (seen : List Y) (place : ℕ) (r : Result ℕ E)
    → map f old ≡ seen → IfSome (slice_get old place) (λ x. HasPosted r x old new)
    → IfSome (slice_get seen place) (λ y. HasPosted r y seen (map f new))
mapped_again f old new seen place r view again =
    rw (← view, slice_get-map f old place) (by_one (slice_get old place) again)
  where
    by_one : (o : Option _) → IfSome o (λ x. HasPosted r x old new)
        → IfSome (option_map f o) (λ y. HasPosted r y (map f old) (map f new))
    by_one None post = tt
    by_one (Some x) post = posted_mapped x old new f (map f old) r post refl
