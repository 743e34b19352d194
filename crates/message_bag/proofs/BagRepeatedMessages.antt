-- A message that is posted again, and what is still posted behind more.
use Rattle.std.proofs.Common.{[], ◌++◌, ◌-◌, ◌∙◌, ◌∷◌, ◌≡◌, All, IfSome, IsSome, List, None, Option, Result, Some, ap, arith, get_or, map, refl, set, slice_get, subst, suc, sym, zero, ℕ}
use Rattle.base.proofs.Exports.{IfSome-at_place, slice_get-map}
use Rattle.ctrl_msg.specs.declared.message.Message.{Message}
use Rattle.message_bag.proofs.BagNumberedPosts.{all_posted, mapped_again, still_numbered}
use Rattle.message_bag.specs.Exports.{AreBagKeptFrames, AreAdvertsPostedInBag, BagFirst, HasPosted, IsBagPostLike, IsAdvertPostedInBag, bag_frames_in, bag_item_numbered, bag_posted_frames}
use Rattle.message_bag.specs.declared.sharing_bag.PostedAdvert.{PostedAdvert}

-- ---- a message once more

module _ {E : Type 0} (kept : List (List (List ℕ))) (firsts longer : List BagFirst) (bag : List (List (List ℕ)))
    (r : Result ℕ E) (view : map (bag_frames_in kept) firsts ≡ bag) where
  pub repeated : (number : ℕ) → IfSome (slice_get firsts (number - 1)) (λ first. HasPosted r first firsts longer)
      → IfSome (bag_item_numbered bag number) (λ fs. HasPosted r fs bag (map (bag_frames_in kept) longer))
  repeated zero again = tt
  repeated (suc place) again = let same : suc place - 1 ≡ place = omega arith in
      mapped_again (bag_frames_in kept) firsts longer bag place r view (rw same at again)

  pub repeated_kept : (number : ℕ) → IsSome (bag_item_numbered bag number)
      → IfSome (slice_get firsts (number - 1)) (λ first. HasPosted r first firsts longer)
      → All (AreBagKeptFrames kept) firsts → All (AreBagKeptFrames kept) longer
  repeated_kept zero is again all = absurd cc
  repeated_kept (suc place) is again all = let same : suc place - 1 ≡ place = omega arith in
      by_one (slice_get firsts place) refl (rw same at again)
      (subst (λ b. IsSome (slice_get b place)) (sym view) is)
    where
      by_one : (o : Option BagFirst) → slice_get firsts place ≡ o → IfSome o (λ first. HasPosted r first firsts longer)
          → IsSome (slice_get (map (bag_frames_in kept) firsts) place) → All (AreBagKeptFrames kept) longer
      by_one None at post is = absurd (cc (is, slice_get-map (bag_frames_in kept) firsts place, at))
      by_one (Some first) at post is = all_posted first firsts longer (AreBagKeptFrames kept) r post all
          (IfSome-at_place (AreBagKeptFrames kept) firsts place (Some first) all at)

-- ---- adverts

-- they are still posted behind one more message
pub adverts_posted : {E : Type 0} (r : Result ℕ E) (more : List (List ℕ)) (bag longer : List (List (List ℕ)))
    (adverts : List (Option PostedAdvert)) → HasPosted r more bag longer → AreAdvertsPostedInBag bag adverts
    → AreAdvertsPostedInBag longer adverts
adverts_posted r more bag longer adverts post posted = λ place. by_one (get_or adverts place None) (posted place) where
  by_one : (o : Option PostedAdvert) → IsAdvertPostedInBag bag o → IsAdvertPostedInBag longer o
  by_one None is = tt
  by_one (Some last) is = still_numbered more bag longer (bag_posted_frames last.message) last.number r post is

pub again_posted : {E : Type 0} (r : Result ℕ E) (bag longer : List (List (List ℕ))) (adverts : List (Option PostedAdvert))
    (place : ℕ) (last : PostedAdvert) → AreAdvertsPostedInBag bag adverts → get_or adverts place None ≡ Some last
    → IfSome (bag_item_numbered bag last.number) (λ fs. HasPosted r fs bag longer) → AreAdvertsPostedInBag longer adverts
again_posted r bag longer adverts place last posted there again =
    adverts_posted r (bag_posted_frames last.message) bag longer adverts
    (rw (subst (IsAdvertPostedInBag bag) there (posted place)) at again) posted

-- those of more places
pub all_same : (bag : List (List (List ℕ))) (adverts more : List (Option PostedAdvert))
    → ((place : ℕ) → get_or more place None ≡ get_or adverts place None)
    → AreAdvertsPostedInBag bag adverts → AreAdvertsPostedInBag bag more
all_same bag adverts more same posted = λ place. subst (IsAdvertPostedInBag bag) (sym (same place)) (posted place)

-- one more at a place
pub one_set : (bag : List (List (List ℕ))) (adverts : List (Option PostedAdvert)) (place : ℕ) (o : Option PostedAdvert)
    → AreAdvertsPostedInBag bag adverts → IsAdvertPostedInBag bag o → AreAdvertsPostedInBag bag (set adverts place o)
one_set bag [] place o posted is k = posted k
one_set bag (a ∷ adverts) zero o posted is zero = is
one_set bag (a ∷ adverts) zero o posted is (suc k) = posted (suc k)
one_set bag (a ∷ adverts) (suc place) o posted is zero = posted zero
one_set bag (a ∷ adverts) (suc place) o posted is (suc k) =
    one_set bag adverts place o (λ j. posted (suc j)) is k

-- the message of an advert that says the same, perhaps to another receiver
pub likened : (bag : List (List (List ℕ))) (adverts : List (Option PostedAdvert)) (place : ℕ) (last : PostedAdvert) (m : Message)
    → AreAdvertsPostedInBag bag adverts → get_or adverts place None ≡ Some last → last.message.body ≡ m.body
    → IsBagPostLike bag last.number m
likened bag adverts place last m posted there same =
    let is : IsAdvertPostedInBag bag (Some last) = subst (IsAdvertPostedInBag bag) there (posted place) in
    (last.message.to, is ∙ ap (λ b. Some (bag_posted_frames (record { to = last.message.to; body = b }))) same)

-- to the same receiver it is the same
pub same_advert : (one other : Message) → one.to ≡ other.to → one.body ≡ other.body → one ≡ other
same_advert one other to body = ap (λ t. record { to = t; body = one.body }) to ∙ ap (λ b. record { to = other.to; body = b }) body

-- an empty place behind the others says nothing
pub padded_same : (adverts : List (Option PostedAdvert)) (place : ℕ)
    → get_or (adverts ++ None ∷ []) place None ≡ get_or adverts place None
padded_same [] zero = refl
padded_same [] (suc place) = refl
padded_same (a ∷ adverts) zero = refl
padded_same (a ∷ adverts) (suc place) = padded_same adverts place
