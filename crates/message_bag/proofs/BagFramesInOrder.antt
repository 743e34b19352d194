-- The frames of a message that come in the order of their places, as an assembler is fed with them
-- that puts a message together at once.
use Rattle.std.proofs.Common.{[], ◌+◌, ◌<◌, ◌^◌, ◌∙◌, ◌∷◌, ◌≡◌, ◌≢◌, ◌≤◌, Contains, IsSome, List, Some, ap, arith, inl, inr, le-ltb, length, lt-ltb, ltb, slice_get, subst, suc, sym, true, zero, ℕ}
use Rattle.base.proofs.Exports.{cases_lt, same_Some, slice_get_within, some_passes}
use Rattle.ctrl_msg.specs.declared.message.Message.{Message}
use Rattle.wire.specs.Exports.{AreWireFramesHeld, IsRefusedWireFrame, wire_chunks, count_in_wire_frame, frame, frames, wire_frames_from, wire_frame_held_at, place_in_wire_frame, wire_frames_with_frame}
use Rattle.wire.proofs.WireFrameBytes.{place_of_frame}
use Rattle.wire.proofs.WireFramesHeld.{all_held}
use Rattle.message_bag.specs.Exports.{HasBagFrames}
use Rattle.message_bag.proofs.BagFrameArrivals.{IsOneOf, is_one_of, never_refused}
use Rattle.message_bag.proofs.BagHeldFrames.{held_part, part, part_all, part_none, with_part}
use Rattle.message_bag.proofs.BagFrameSizes.{few_frames, frames_rise, length_frames}

-- the frames of the places before this one
abbrev pub frames_before : Message → ℕ → List (List ℕ)
frames_before m place = part (λ n. ltb n place) (frames m)

pub none_before : (m : Message) → frames_before m 0 ≡ []
none_before m = part_none (λ n. ltb n 0) (frames m) (λ n. le-ltb n 0 (omega arith))

pub all_before : (m : Message) → HasBagFrames m → frames_before m (length (frames m)) ≡ frames m
all_before m has = part_all (λ n. ltb n (length (frames m))) 0 (length (wire_chunks m)) (frames m)
    (frames_rise m has) (λ n lt. lt-ltb _ _ (omega (arith, length_frames m)))

-- ---- the frame of a place

place_from : (place count : ℕ) (parts : List (List ℕ)) (i : ℕ) (f : List ℕ) → place + length parts ≤ count
    → count < 2 ^ 32 → slice_get (wire_frames_from place count parts) i ≡ Some f → place_in_wire_frame f ≡ place + i
place_from place count [] i f within few at = absurd (cc at)
place_from place count (part ∷ parts) zero f within few at =
    ap place_in_wire_frame (sym (same_Some (frame place count part) f at))
    ∙ place_of_frame place count part (omega arith) ∙ omega arith
place_from place count (part ∷ parts) (suc i) f within few at =
    place_from (place + 1) count parts i f (omega arith) few at ∙ omega arith

there : (fs : List (List ℕ)) (i : ℕ) (f : List ℕ) → slice_get fs i ≡ Some f → Contains fs f
there [] i f at = absurd (cc at)
there (g ∷ gs) zero f at = (0, omega arith, same_Some g f at)
there (g ∷ gs) (suc i) f at = let rest = there gs i f at in (suc rest.0, omega (arith, rest.1), rest.2)

-- one place more
beside : (n place : ℕ) → n ≢ place → ltb n (place + 1) ≡ ltb n place
beside n place other = elim (cases_lt n place) [
  | inl lt ↦ lt-ltb n (place + 1) (omega arith) ∙ sym (lt-ltb n place lt)
  | inr ge ↦ elim (cases_lt place n) [
    | inl above ↦ le-ltb n (place + 1) (omega arith) ∙ sym (le-ltb n place ge)
    | inr le ↦ absurd (other (omega arith))
  ]
]

-- what comes of the frame of the next place
pub record ComesNext (m : Message) (place : ℕ) (f : List ℕ) : Type 0 where
  pub taken : IsRefusedWireFrame (frames_before m place) f → ⊥
  pub held : wire_frames_with_frame (frames_before m place) f ≡ frames_before m (place + 1)
  pub some : place + 1 ≡ length (frames m) → AreWireFramesHeld (frames_before m (place + 1)) (count_in_wire_frame f)
  pub none : AreWireFramesHeld (frames_before m (place + 1)) (count_in_wire_frame f) → place + 1 ≡ length (frames m)

pub comes_next : (m : Message) (place : ℕ) (f : List ℕ) → HasBagFrames m → slice_get (frames m) place ≡ Some f
    → ComesNext m place f
comes_next m place f has at = record {
  taken = never_refused m (λ n. ltb n place) (λ n. ltb n (place + 1)) f has one joined;
  held = joined;
  some = λ last. subst (AreWireFramesHeld (frames_before m (place + 1))) (sym one.of.count_is)
      (rw (ap (frames_before m) last ∙ all_before m has)
      (all_held (length (wire_chunks m)) (frames m) (frames_rise m has) (length_frames m)));
  none = λ held. elim (cases_lt (place + 1) (length (frames m))) [
    | inl lt ↦ absurd (missing (place + 1)
        (subst (AreWireFramesHeld (frames_before m (place + 1))) one.of.count_is held (place + 1) (omega (arith, length_frames m))))
    | inr ge ↦ omega (arith, slice_get_within (frames m) place f at)
  ];
} where
  missing : (n : ℕ) → IsSome (wire_frame_held_at (frames_before m n) n) → ⊥
  missing n some =
      let passed : ltb n n ≡ true = some_passes (ltb n n) (wire_frame_held_at (frames m) n) (subst IsSome (held_part (λ k. ltb k n) (frames m) n) some) in
      absurd (cc (sym passed ∙ le-ltb n n (omega arith)))

  one : IsOneOf m f
  one = is_one_of m f has (there (frames m) place f at)

  here : place_in_wire_frame f ≡ place
  here = place_from 0 (length (wire_chunks m)) (wire_chunks m) place f (omega arith) (few_frames m has) at
      ∙ omega arith

  joined : wire_frames_with_frame (frames_before m place) f ≡ frames_before m (place + 1)
  joined = with_part (λ n. ltb n place) (λ n. ltb n (place + 1)) 0 (length (wire_chunks m)) (frames m)
      f (frames_rise m has) one.at (λ n other. beside n place (λ e. other (e ∙ sym here)))
      (lt-ltb _ _ (omega (arith, here)))
