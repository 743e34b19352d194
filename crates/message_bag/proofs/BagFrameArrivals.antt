-- An assembler that was fed with frames of a message holds those that have come.
use Rattle.std.proofs.Common.{[], ◌+◌, ◌<◌, ◌↔◌, ◌∙◌, ◌∷◌, ◌≡◌, ◌≢◌, Bool, Contains, IsSome, List, None, Some, ap, arith, cond, false, flat_map, inl, inr, is_some, length, ne_eqb, refl, slice_index_or, subst, sym, true, ℕ}
use Rattle.base.proofs.Exports.{All-contains, All-contains_itself, All-head, All-tail, cases_eq, same_Some, some_passes, the_some}
use Rattle.ctrl_msg.specs.declared.message.Message.{Message}
use Rattle.wire.specs.Exports.{AreWireFramesHeld, AreWireFrames, AreWireFramesRising, IsWireFrameOfCount, IsRefusedWireFrame, another_count, another_frame, chunk_in_wire_frame, wire_chunks, count_in_wire_frame, frames, wire_frame_held_at, no_message, past_the_count, place_in_wire_frame, too_long, too_short, wire_frames_with_frame}
use Rattle.wire.proofs.WireFrameAssembly.{spelled_by}
use Rattle.wire.proofs.WireDecoding.{one_message}
use Rattle.wire.proofs.WireFramesHeld.{all_held, first_is, held_count, same_place}
use Rattle.message_bag.specs.Exports.{AreBagFramesAllFed, AreBagFramesOf, HasBagFrames, bag_frames_held_after}
use Rattle.message_bag.proofs.BagHeldFrames.{found_there, held_part, held_there, is_found, part, part_all, part_none, part_rises, with_part}
use Rattle.message_bag.proofs.BagFrameSizes.{IsSized, frames_rise, frames_sized, length_frames}

-- ---- a frame that comes, whichever are held

-- that a frame of rising frames is of their count
of_count : (from count : ℕ) (fs : List (List ℕ)) (place : ℕ) (f : List ℕ) → AreWireFramesRising from count fs
    → wire_frame_held_at fs place ≡ Some f → IsWireFrameOfCount count f
of_count from count [] place f rising at = absurd (cc at)
of_count from count (g ∷ gs) place f rising at = elim (cases_eq (place_in_wire_frame g) place) [
  | inl same ↦ subst (IsWireFrameOfCount count) (first_is g f gs place same at) rising.1
  | inr other ↦
      let miss : wire_frame_held_at (g ∷ gs) place ≡ wire_frame_held_at gs place = rw (ne_eqb (place_in_wire_frame g) place other) refl in
      of_count (place_in_wire_frame g + 1) count gs place f rising.2 (sym miss ∙ at)
]

pub record IsOneOf (m : Message) (f : List ℕ) : Type 0 where
  pub at : wire_frame_held_at (frames m) (place_in_wire_frame f) ≡ Some f
  pub of : IsWireFrameOfCount (length (wire_chunks m)) f
  pub sized : IsSized f

pub is_one_of : (m : Message) (f : List ℕ) → HasBagFrames m → Contains (frames m) f → IsOneOf m f
is_one_of m f has there =
    let count = length (wire_chunks m) in
    let at = held_there 0 count (frames m) f (frames_rise m has) there in record {
      at = at;
      of = of_count 0 count (frames m) (place_in_wire_frame f) f (frames_rise m has) at;
      sized = All-contains IsSized (frames m) f (frames_sized m has.fits) there;
    }

-- a place that is held passes the test
passes : (m : Message) (p : ℕ → Bool) (n : ℕ) → IsSome (wire_frame_held_at (part p (frames m)) n) → p n ≡ true
passes m p n some = some_passes (p n) (wire_frame_held_at (frames m) n) (subst IsSome (held_part p (frames m) n) some)

-- where all places are held, all frames are
all_are : (m : Message) (p : ℕ → Bool) → HasBagFrames m
    → AreWireFramesHeld (part p (frames m)) (length (wire_chunks m)) → part p (frames m) ≡ frames m
all_are m p has held = part_all p 0 (length (wire_chunks m)) (frames m) (frames_rise m has)
    (λ n lt. passes m p n (held n lt))

-- the frames of a message are not refused, whichever of them are held
pub never_refused : (m : Message) (p q : ℕ → Bool) (f : List ℕ) → HasBagFrames m → IsOneOf m f
    → wire_frames_with_frame (part p (frames m)) f ≡ part q (frames m) → IsRefusedWireFrame (part p (frames m)) f → ⊥
never_refused m p q f has one joined (too_short lt) = absurd (omega (arith, one.sized.long))
never_refused m p q f has one joined (too_long lt) = absurd (omega (arith, one.sized.short))
never_refused m p q f has one joined (past_the_count le) = absurd (omega (arith, one.of.below, one.of.count_is))
never_refused m p q f has one joined (another_count place g at other) =
    other (held_count 0 (length (wire_chunks m)) (part p (frames m)) place g
    (part_rises p 0 (length (wire_chunks m)) (frames m) (frames_rise m has)) at ∙ sym one.of.count_is)
never_refused m p q f has one joined (another_frame g at other) =
    other (by_test (p (place_in_wire_frame f)) (sym (held_part p (frames m) (place_in_wire_frame f)) ∙ at))
  where
    by_test : (b : Bool) → cond b (wire_frame_held_at (frames m) (place_in_wire_frame f)) None ≡ Some g → g ≡ f
    by_test true is = same_Some g f (sym is ∙ one.at)
    by_test false is = absurd (cc is)
never_refused m p q f has one joined (no_message all none) =
    let held = subst (λ n. AreWireFramesHeld (part q (frames m)) n) one.of.count_is
    (subst (λ fs. AreWireFramesHeld fs (count_in_wire_frame f)) joined all) in
    none m (record { fits = has.fits; frames_are = joined ∙ all_are m q has held })

-- ---- frames that have come, in any order

-- a frame of this place has come
abbrev has_come : List (List ℕ) → ℕ → Bool
has_come fed n = is_some (wire_frame_held_at fed n)

come_here : (f : List ℕ) (fed : List (List ℕ)) → has_come (f ∷ fed) (place_in_wire_frame f) ≡ true
come_here f fed = rw (same_place (place_in_wire_frame f)) refl

come_elsewhere : (f : List ℕ) (fed : List (List ℕ)) (n : ℕ) → n ≢ place_in_wire_frame f
    → has_come (f ∷ fed) n ≡ has_come fed n
come_elsewhere f fed n other = rw (ne_eqb (place_in_wire_frame f) n (λ e. other (sym e))) refl

joins : (m : Message) (f : List ℕ) (fed : List (List ℕ)) → HasBagFrames m → IsOneOf m f
    → wire_frames_with_frame (part (has_come fed) (frames m)) f ≡ part (has_come (f ∷ fed)) (frames m)
joins m f fed has one = with_part (has_come fed) (has_come (f ∷ fed)) 0 (length (wire_chunks m))
    (frames m) f (frames_rise m has) one.at (come_elsewhere f fed) (come_here f fed)

held_is : (m : Message) (fed : List (List ℕ)) → HasBagFrames m → AreBagFramesOf m fed
    → bag_frames_held_after fed ≡ part (has_come fed) (frames m)
held_is m [] has of = sym (part_none (has_come []) (frames m) (λ n. refl))
held_is m (f ∷ fed) has of =
    let one = is_one_of m f has (All-head (Contains (frames m)) f fed of) in
    ap (λ held. wire_frames_with_frame held f) (held_is m fed has (All-tail (Contains (frames m)) f fed of)) ∙ joins m f fed has one

pub taken : (m : Message) (f : List ℕ) (fed : List (List ℕ)) → HasBagFrames m → AreBagFramesOf m (f ∷ fed)
    → IsRefusedWireFrame (bag_frames_held_after fed) f → ⊥
taken m f fed has of refused =
    let one = is_one_of m f has (All-head (Contains (frames m)) f fed of) in
    never_refused m (has_come fed) (has_come (f ∷ fed)) f has one (joins m f fed has one)
    (subst (λ held. IsRefusedWireFrame held f) (held_is m fed has (All-tail (Contains (frames m)) f fed of)) refused)

-- each place has come where each frame has
places_come : (m : Message) (fed : List (List ℕ)) → HasBagFrames m → AreBagFramesAllFed m fed
    → (n : ℕ) → n < length (wire_chunks m) → has_come fed n ≡ true
places_come m fed has among n lt =
    let g = the_some (wire_frame_held_at (frames m) n)
    (all_held (length (wire_chunks m)) (frames m) (frames_rise m has) (length_frames m) n lt) in
    let found = found_there (frames m) n g.0 g.1 in
    let come : Contains fed g.0 = All-contains (Contains fed) (frames m) g.0 among found.0 in
    subst (λ k. has_come fed k ≡ true) found.1 (is_found fed g.0 come)

pub whole : (m : Message) (fed : List (List ℕ)) → HasBagFrames m → AreBagFramesOf m fed → AreBagFramesAllFed m fed
    → bag_frames_held_after fed ≡ frames m
whole m fed has of among = held_is m fed has of ∙ part_all (has_come fed) 0 (length (wire_chunks m))
    (frames m) (frames_rise m has) (places_come m fed has among)

-- a frame whose place has come has come itself
frame_come : (m : Message) (fed : List (List ℕ)) (g : List ℕ) → HasBagFrames m → AreBagFramesOf m fed → Contains (frames m) g
    → has_come fed (place_in_wire_frame g) ≡ true → Contains fed g
frame_come m fed g has of there come =
    let h = the_some (wire_frame_held_at fed (place_in_wire_frame g)) come in
    let found = found_there fed (place_in_wire_frame g) h.0 h.1 in
    let one = is_one_of m g has there in
    let other = is_one_of m h.0 has (All-contains (Contains (frames m)) fed h.0 of found.0) in
    let same : h.0 ≡ g = same_Some h.0 g (sym other.at ∙ ap (wire_frame_held_at (frames m)) found.1 ∙ one.at) in
    subst (Contains fed) same found.0

pub all_come : (m : Message) (f : List ℕ) (fed : List (List ℕ)) → HasBagFrames m → AreBagFramesOf m (f ∷ fed)
    → (AreWireFramesHeld (bag_frames_held_after (f ∷ fed)) (count_in_wire_frame f) ↔ AreBagFramesAllFed m (f ∷ fed))
all_come m f fed has of = (forth, back) where
  count : ℕ
  count = length (wire_chunks m)

  one : IsOneOf m f
  one = is_one_of m f has (All-head (Contains (frames m)) f fed of)

  forth : AreWireFramesHeld (bag_frames_held_after (f ∷ fed)) (count_in_wire_frame f) → AreBagFramesAllFed m (f ∷ fed)
  forth held = λ k d lt. let g = slice_index_or (frames m) k d in
      let there : Contains (frames m) g = All-contains_itself (frames m) k d lt in
      let below : place_in_wire_frame g < count = (is_one_of m g has there).of.below in
      let all = subst (AreWireFramesHeld (part (has_come (f ∷ fed)) (frames m))) one.of.count_is
      (subst (λ fs. AreWireFramesHeld fs (count_in_wire_frame f)) (held_is m (f ∷ fed) has of) held) in
      frame_come m (f ∷ fed) g has of there (passes m (has_come (f ∷ fed)) (place_in_wire_frame g) (all (place_in_wire_frame g) below))

  back : AreBagFramesAllFed m (f ∷ fed) → AreWireFramesHeld (bag_frames_held_after (f ∷ fed)) (count_in_wire_frame f)
  back among = rw (whole m (f ∷ fed) has of among) (subst (AreWireFramesHeld (frames m))
      (sym one.of.count_is) (all_held count (frames m) (frames_rise m has) (length_frames m)))

-- ---- frames are of one message

pub same_message : (m other : Message) (fs : List (List ℕ)) → AreWireFrames m fs → AreWireFrames other fs → other ≡ m
same_message m other fs are are_other =
    one_message (flat_map chunk_in_wire_frame fs) other m (spelled_by other fs are_other) (spelled_by m fs are)
