-- The message that comes out of its frames.
use Rattle.std.proofs.Common.{[], ◌+◌, ◌-◌, ◌^◌, ◌∙◌, ◌∷◌, ◌≡◌, ◌≤◌, All, List, Some, add-one, ap, append-nil, arith, drop, length, length-drop, refl, slice_get, subst, sym, take, take_all, ℕ}
use Rattle.base.proofs.Exports.{All-head, slice_get_within}
use Rattle.ctrl_msg.specs.declared.message.Message.{Message}
use Rattle.wire.specs.Exports.{AreWireFramesHeld, AreWireFrames, IsRefusedWireFrame, IsWireSpelling, chunk_in_wire_frame, count_in_wire_frame, frames, wire_frames_with_frame}
use Rattle.wire.proofs.WireFrameAssembly.{spelled_by}
use Rattle.wire.proofs.WireDecoding.{one_message}
use Rattle.message_bag.specs.Exports.{AreBagFramesOfMessage, HasBagFrames}
use Rattle.message_bag.proofs.BagFramesInOrder.{all_before, comes_next, frames_before, none_before}
use Rattle.message_bag.proofs.BagFrameSizes.{IsSized, few_frames, frames_sized, length_frames}

pub are_frames : (m : Message) (fs : List (List ℕ)) → HasBagFrames m → fs ≡ frames m → AreWireFrames m fs
are_frames m fs has is = record { fits = has.fits; frames_are = is }

-- the one chunk is the spelling
pub spelled_alone : (f : List ℕ) → (of : AreBagFramesOfMessage (f ∷ [])) → IsWireSpelling of.0 (chunk_in_wire_frame f)
spelled_alone f of = subst (IsWireSpelling of.0) (append-nil (chunk_in_wire_frame f))
    (spelled_by of.0 (f ∷ []) (are_frames of.0 (f ∷ []) of.1 of.2))

pub alone_are : (f bytes : List ℕ) (m : Message) → AreBagFramesOfMessage (f ∷ []) → bytes ≡ chunk_in_wire_frame f
    → IsWireSpelling m bytes → AreWireFrames m (f ∷ [])
alone_are f bytes m of is spelled =
    let same : m ≡ of.0 = one_message (chunk_in_wire_frame f) m of.0 (subst (IsWireSpelling m) is spelled)
    (spelled_alone f of) in
    subst (λ n. AreWireFrames n (f ∷ [])) (sym same) (are_frames of.0 (f ∷ []) of.1 of.2)

-- ---- an assembler that is fed with one frame after the other

-- it holds those of the places before this one, and this frame is next
pub record IsFedTo (first : List ℕ) (fs held : List (List ℕ)) (next : List ℕ) (place : ℕ) (m : Message) : Type 0 where
  pub has : HasBagFrames m
  pub is : first ∷ drop 1 fs ≡ frames m
  pub held_is : held ≡ frames_before m place
  pub next_is : slice_get (frames m) place ≡ Some next

pub begins : (first : List ℕ) (fs held : List (List ℕ)) → (of : AreBagFramesOfMessage (first ∷ drop 1 fs)) → held ≡ []
    → IsFedTo first fs held first 0 of.0
begins first fs held of empty = record {
  has = of.1;
  is = of.2;
  held_is = empty ∙ sym (none_before of.0);
  next_is = ap (λ all. slice_get all 0) (sym of.2);
}

pub not_refused : (first : List ℕ) (fs held : List (List ℕ)) (next : List ℕ) (place : ℕ) (m : Message)
    → IsFedTo first fs held next place m → IsRefusedWireFrame held next → ⊥
not_refused first fs held next place m fed refused =
    (comes_next m place next fed.has fed.next_is).taken (subst (λ h. IsRefusedWireFrame h next) fed.held_is refused)

-- what is held then
joined : (first : List ℕ) (fs held after : List (List ℕ)) (next : List ℕ) (place : ℕ) (m : Message)
    → IsFedTo first fs held next place m → after ≡ wire_frames_with_frame held next → after ≡ frames_before m (place + 1)
joined first fs held after next place m fed is =
    is ∙ ap (λ h. wire_frames_with_frame h next) fed.held_is ∙ (comes_next m place next fed.has fed.next_is).held

behind_first : (first : List ℕ) (fs : List (List ℕ)) (place : ℕ)
    → slice_get (first ∷ drop 1 fs) (place + 1) ≡ slice_get fs (place + 1)
behind_first first [] place = rw add-one refl
behind_first first (f ∷ fs) place = rw add-one refl

pub goes_on : (first : List ℕ) (fs held after : List (List ℕ)) (next other : List ℕ) (place : ℕ) (m : Message)
    → IsFedTo first fs held next place m → after ≡ wire_frames_with_frame held next → slice_get fs (place + 1) ≡ Some other
    → IsFedTo first fs after other (place + 1) m
goes_on first fs held after next other place m fed is at = record {
  has = fed.has;
  is = fed.is;
  held_is = joined first fs held after next place m fed is;
  next_is = ap (λ all. slice_get all (place + 1)) (sym fed.is) ∙ behind_first first fs place ∙ at;
}

pub comes_out : (first : List ℕ) (fs held after : List (List ℕ)) (next : List ℕ) (place : ℕ) (m answer : Message)
    → IsFedTo first fs held next place m → after ≡ wire_frames_with_frame held next → AreWireFramesHeld after (count_in_wire_frame next)
    → AreWireFrames answer after → AreWireFrames answer (first ∷ drop 1 fs)
comes_out first fs held after next place m answer fed is all are =
    let now = joined first fs held after next place m fed is in
    let last : place + 1 ≡ length (frames m) =
    (comes_next m place next fed.has fed.next_is).none (subst (λ h. AreWireFramesHeld h (count_in_wire_frame next)) now all) in
    subst (AreWireFrames answer) (now ∙ ap (frames_before m) last ∙ all_before m fed.has ∙ sym fed.is) are

-- there is one more as long as not all are held
pub never_short : (first : List ℕ) (fs held after : List (List ℕ)) (next : List ℕ) (place : ℕ) (m : Message)
    → IsFedTo first fs held next place m → after ≡ wire_frames_with_frame held next → (AreWireFramesHeld after (count_in_wire_frame next) → ⊥)
    → length fs ≤ place + 1 → ⊥
never_short first fs held after next place m fed is none short =
    let within = slice_get_within (frames m) place next fed.next_is in
    let last : place + 1 ≡ length (frames m) = omega (arith, ap length fed.is, length-drop 1 fs) in
    none (subst (λ h. AreWireFramesHeld h (count_in_wire_frame next)) (sym (joined first fs held after next place m fed is))
    ((comes_next m place next fed.has fed.next_is).some last))

pub never_past : (first : List ℕ) (fs held : List (List ℕ)) (next : List ℕ) (place : ℕ) (m : Message)
    → IsFedTo first fs held next place m → 2 ^ 32 - 1 ≤ place → ⊥
never_past first fs held next place m fed past =
    absurd (omega (arith, slice_get_within (frames m) place next fed.next_is, few_frames m fed.has, length_frames m))

-- a frame of a message has its header
pub long_alone : (f : List ℕ) → AreBagFramesOfMessage (f ∷ []) → 8 ≤ length f
long_alone f of =
    let sized : IsSized f = All-head IsSized f [] (subst (All IsSized) (sym of.2) (frames_sized of.0 of.1.fits)) in
    omega (arith, sized.long)

-- what follows the header
pub rest_is : (f : List ℕ) → take (length f - 8) (drop 8 f) ≡ chunk_in_wire_frame f
rest_is f = take_all (length f - 8) (drop 8 f) (omega (arith, length-drop 8 f))
