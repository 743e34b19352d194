-- Frames of all beside what became of each message.
use Rattle.std.proofs.Common.{[], if◌then◌else◌, ◌++◌, ◌-◌, ◌<◌, ◌∙◌, ◌∷◌, ◌≡◌, ◌≤◌, Bool, List, None, Ok, Option, Some, ap, arith, false, is_some, length, min, not, option_and_then, refl, set, slice_get, suc, sym, true, zero, zip, ℕ}
use Rattle.base.proofs.Exports.{length-zip, option_map_or, seconds-zip, zip_pushed}
use Rattle.ctrl_msg.specs.declared.message.Message.{Message}
use Rattle.message_bag.specs.Exports.{HasPosted, Post, bag_frames_posted, is_deliverable, bag_post_may_be_delivered, new_bag_post, bag_posted_frames, bag_frames_remembered, bag_post_statuses, bag_waiting_status, bag_with_changed, bag_post_with_status}
use Rattle.message_bag.specs.declared.deliveries.MessageState.{MessageState}

-- what became of one changes
zip_set : (change : MessageState → MessageState) (all : List (List (List ℕ))) (statuses : List MessageState) (i : ℕ)
    → length all ≡ length statuses
    → zip all
    (option_map_or (λ status. set statuses i (change status)) (slice_get statuses i) statuses)
    ≡ option_map_or (λ post. set (zip all statuses) i (bag_post_with_status change post))
    (slice_get (zip all statuses) i) (zip all statuses)
zip_set change [] [] i same = refl
zip_set change [] (s ∷ statuses) i same = absurd (omega (arith, same))
zip_set change (m ∷ all) [] i same = absurd (omega (arith, same))
zip_set change (m ∷ all) (s ∷ statuses) zero same = refl
zip_set change (m ∷ all) (s ∷ statuses) (suc i) same =
    let rest = zip_set change all statuses i (omega (arith, same)) in
    by_one (slice_get statuses i) (slice_get (zip all statuses) i) rest
  where
    by_one : (o : Option MessageState) (p : Option Post)
        → zip all (option_map_or (λ status. set statuses i (change status)) o statuses)
        ≡ option_map_or (λ post. set (zip all statuses) i (bag_post_with_status change post)) p
        (zip all statuses)
        → zip (m ∷ all) (option_map_or (λ status. set (s ∷ statuses) (suc i) (change status)) o
        (s ∷ statuses)) ≡ option_map_or (λ post. set ((m, s) ∷ zip all statuses) (suc i)
        (bag_post_with_status change post)) p ((m, s) ∷ zip all statuses)
    by_one None None is = ap (λ more. (m, s) ∷ more) is
    by_one None (Some p) is = ap (λ more. (m, s) ∷ more) is
    by_one (Some o) None is = ap (λ more. (m, s) ∷ more) is
    by_one (Some o) (Some p) is = ap (λ more. (m, s) ∷ more) is

zip_changed : (change : MessageState → MessageState) (all : List (List (List ℕ))) (statuses : List MessageState)
    (number : ℕ) → length all ≡ length statuses
    → zip all (bag_with_changed change statuses number)
    ≡ bag_with_changed (bag_post_with_status change) (zip all statuses) number
zip_changed change all statuses zero same = refl
zip_changed change all statuses (suc place) same = zip_set change all statuses place same

-- so the posts change, by whatever name they go
pub posts_changed : (change : MessageState → MessageState) (all : List (List (List ℕ)))
    (statuses after : List MessageState) (posts : List Post) (number : ℕ) → length all ≡ length statuses
    → zip all statuses ≡ posts → after ≡ bag_with_changed change statuses number
    → zip all after ≡ bag_with_changed (bag_post_with_status change) posts number
posts_changed change all statuses after posts number same are made =
    cc (made, zip_changed change all statuses number same, are)

pub statuses_of_zip : (all : List (List (List ℕ))) (statuses : List MessageState)
    → length all ≡ length statuses → bag_post_statuses (zip all statuses) ≡ statuses
statuses_of_zip all statuses same = seconds-zip all statuses (sym same)

pub length_of_zip : (all : List (List (List ℕ))) (statuses : List MessageState)
    → length all ≡ length statuses → length (zip all statuses) ≡ length statuses
length_of_zip all statuses same = cc (length-zip all statuses, same, itself (length statuses)) where
  itself : (n : ℕ) → min n n ≡ n
  itself n = omega arith

-- one more message waits behind them
pub one_more : {E : Type 0} (number : ℕ) (all more : List (List (List ℕ))) (statuses after : List MessageState)
    (posts : List Post) (m : Message) → length all ≡ length statuses → zip all statuses ≡ posts
    → HasPosted {E = E} (Ok number) (bag_posted_frames m) all more → after ≡ statuses ++ bag_waiting_status ∷ []
    → HasPosted {E = E} (Ok number) (new_bag_post m) posts (zip more after)
one_more number all more statuses after posts m same are post added = record {
  number = omega (arith, post.number, same, ap length are, length_of_zip all statuses same);
  posted = rw (post.posted, added, zip_pushed all statuses (bag_posted_frames m) bag_waiting_status same, are) refl;
  unchanged = tt;
}

-- ---- the frames of a number

-- what the bag says of a number its deliveries say
pub deliverable_same : (all : List (List (List ℕ))) (statuses : List MessageState) (number : ℕ)
    → length all ≡ length statuses
    → is_deliverable statuses number ≡ is_some (bag_frames_posted (zip all statuses) number)
deliverable_same all statuses zero same = refl
deliverable_same all statuses (suc place) same = at_place all statuses place same where
  by_flag : (b : Bool) (m : List (List ℕ)) → not b ≡ is_some (if b then None else Some m)
  by_flag true m = refl
  by_flag false m = refl

  at_place : (all : List (List (List ℕ))) (statuses : List MessageState) (i : ℕ)
      → length all ≡ length statuses → option_map_or bag_post_may_be_delivered (slice_get statuses i) false
      ≡ is_some (option_and_then bag_frames_remembered (slice_get (zip all statuses) i))
  at_place [] [] i same = refl
  at_place [] (s ∷ statuses) i same = absurd (omega (arith, same))
  at_place (m ∷ all) [] i same = absurd (omega (arith, same))
  at_place (m ∷ all) (s ∷ statuses) zero same = by_flag s.forgotten m
  at_place (m ∷ all) (s ∷ statuses) (suc i) same = at_place all statuses i (omega (arith, same))

-- by whatever name the posts go
pub deliverable_as : (all : List (List (List ℕ))) (statuses : List MessageState) (posts : List Post)
    (number : ℕ) → length all ≡ length statuses → zip all statuses ≡ posts
    → is_deliverable statuses number ≡ is_some (bag_frames_posted posts number)
deliverable_as all statuses posts number same are = deliverable_same all statuses number same
    ∙ ap (λ posts. is_some (bag_frames_posted posts number)) are

-- those of a message that isn't forgotten are the frames that are kept under its number
pub the_frames : (all : List (List (List ℕ))) (statuses : List MessageState) (number : ℕ)
    (fs : List (List ℕ)) → is_deliverable statuses number ≡ true
    → slice_get all (number - 1) ≡ Some fs → bag_frames_posted (zip all statuses) number ≡ Some fs
the_frames all statuses zero fs is kept = absurd cc
the_frames all statuses (suc place) fs is kept = let at : suc place - 1 ≡ place = omega arith in
    at_place all statuses place is (ap (slice_get all) (sym at) ∙ kept)
  where
    at_place : (all : List (List (List ℕ))) (statuses : List MessageState) (i : ℕ)
        → option_map_or bag_post_may_be_delivered (slice_get statuses i) false ≡ true → slice_get all i
        ≡ Some fs → option_and_then bag_frames_remembered (slice_get (zip all statuses) i) ≡ Some fs
    at_place [] statuses i is kept = absurd (cc kept)
    at_place (m ∷ all) [] i is kept = absurd (cc is)
    at_place (m ∷ all) (s ∷ statuses) zero is kept = by_flag s.forgotten is where
      by_flag : (b : Bool) → not b ≡ true → (if b then None else Some m) ≡ Some fs
      by_flag true is = absurd cc
      by_flag false is = kept
    at_place (m ∷ all) (s ∷ statuses) (suc i) is kept = at_place all statuses i is kept

-- such a number is one of a message
pub deliverable_within : (statuses : List MessageState) (number : ℕ)
    → is_deliverable statuses number ≡ true → (1 ≤ number) × (number ≤ length statuses)
deliverable_within statuses zero is = absurd cc
deliverable_within statuses (suc place) is =
    let there = within statuses place is in (omega arith, omega (arith, there))
  where
    within : (statuses : List MessageState) (i : ℕ)
        → option_map_or bag_post_may_be_delivered (slice_get statuses i) false ≡ true → i < length statuses
    within [] i is = absurd cc
    within (s ∷ statuses) zero is = omega arith
    within (s ∷ statuses) (suc i) is = omega (arith, within statuses i is)
