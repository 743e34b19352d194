-- Which frames are held, in the order of their places.
use Rattle.std.proofs.Common.{[], ◌+◌, ◌-◌, ◌<◌, ◌∙◌, ◌∷◌, ◌≡◌, ◌≤◌, Bool, Err, IsSome, List, None, Ok, OnErr, OnOk, Option, Result, Some, ap, arith, eqb, eqb-true, false, filter, inl, inr, insert, le-ltb, leb, length, lt-ltb, ltb, ltb-false, ne_eqb, not, position, refl, slice_get, subst, suc, sym, true, ℕ}
use Rattle.base.proofs.Exports.{IfRefused-weaker, cases_eq, cases_lt, cond-true, cond_some, false_from_ne_true, false_not_true, nat_tests, none_is_not, none_is_not_some, on_err, on_ok, position_or_len, same_Some}
use Rattle.ctrl_msg.specs.declared.message.Message.{Message}
use Rattle.wire.specs.declared.assembler.FrameCheck.TheVariants.{Held, New}
use Rattle.base.specs.Exports.{IfRefused}
use Rattle.base.specs.declared.error.Failure.{Failure}
use Rattle.wire.specs.declared.error.Malformed.{Malformed}
use Rattle.wire.specs.Exports.{WireFramesAgree, AreWireFramesHeld, AreWireFrames, AreNoWireMessageFrames, AreWireFramesRising, AreWireFramesTogether, IsWireMessageAssembled, IsWireAssemblerFed, IsWireFrameCheck, IsWireFrameOfCount, IsRefusedWireFrame, WireFrameJoins, another_count, another_frame, count_in_wire_frame, wire_frame_held_at, no_message, past_the_count, place_in_wire_frame, too_long, too_short, wire_frames_with_frame}
use Rattle.wire.proofs.WireFormatLaws.{AreBytes}
use Rattle.wire.proofs.WireFrameBytes.{frame_again}
use Rattle.wire.proofs.WireFrameAssembly.{rising_few}

-- ---- tests of places

pub same_place : (n : ℕ) → eqb n n ≡ true
same_place n = grind (arith, nat_tests)

other_place : (m n : ℕ) → m < n → eqb m n ≡ false
other_place m n lt = grind (arith, nat_tests)

later_place : (m n : ℕ) → n < m → eqb m n ≡ false
later_place m n lt = grind (arith, nat_tests)

not_below : (m n : ℕ) → n ≤ m → ltb m n ≡ false
not_below m n le = le-ltb m n le

no_bound : (m n : ℕ) → m < n → not (leb n m) ≡ true
no_bound m n lt = grind (arith, nat_tests)

a_bound : (m n : ℕ) → n ≤ m → not (leb n m) ≡ false
a_bound m n le = grind (arith, nat_tests)

pub first_is : (g f : List ℕ) (gs : List (List ℕ)) (place : ℕ) → place_in_wire_frame g ≡ place → wire_frame_held_at (g ∷ gs) place ≡ Some f → g ≡ f
first_is g f gs place same e = same_Some g f (sym (rw (same, same_place place) refl) ∙ e)

other_than : (g : List ℕ) (gs : List (List ℕ)) (place : ℕ) → place ≤ place_in_wire_frame g → wire_frame_held_at (g ∷ gs) place ≡ None → place < place_in_wire_frame g
other_than g gs place le none = elim (cases_lt place (place_in_wire_frame g)) [
  | inl lt ↦ lt
  | inr ge ↦ let same : place_in_wire_frame g ≡ place = omega arith in
      absurd (none_is_not g (sym none ∙ (rw (same, same_place place) refl)))
]

-- ---- frames behind a place

-- no frame is at a lower place
pub none_below : (from count : ℕ) (fs : List (List ℕ)) (place : ℕ) → AreWireFramesRising from count fs → place < from → wire_frame_held_at fs place ≡ None
none_below from count [] place rising lt = refl
none_below from count (f ∷ fs) place rising lt = let le = rising.0 in
    rw (later_place (place_in_wire_frame f) place (omega arith)) (none_below (place_in_wire_frame f + 1) count fs place rising.2 (omega arith))

pub none_lower : (from count : ℕ) (fs : List (List ℕ)) (place : ℕ) → AreWireFramesRising from count fs → place < from
    → filter (λ g. ltb (place_in_wire_frame g) place) fs ≡ []
none_lower from count [] place rising lt = refl
none_lower from count (f ∷ fs) place rising lt = let le = rising.0 in
    rw (not_below (place_in_wire_frame f) place (omega arith)) (none_lower (place_in_wire_frame f + 1) count fs place rising.2 (omega arith))

pub all_higher : (from count : ℕ) (fs : List (List ℕ)) (place : ℕ) → AreWireFramesRising from count fs → place < from
    → filter (λ g. ltb place (place_in_wire_frame g)) fs ≡ fs
all_higher from count [] place rising lt = refl
all_higher from count (f ∷ fs) place rising lt = let le = rising.0 in
    rw (lt-ltb place (place_in_wire_frame f) (omega arith))
    (ap (λ gs. f ∷ gs) (all_higher (place_in_wire_frame f + 1) count fs place rising.2 (omega arith)))

-- ---- all places are held exactly if there are as many frames as the count

pub step_held : (f : List ℕ) (fs : List (List ℕ)) (place : ℕ) → place_in_wire_frame f < place → wire_frame_held_at (f ∷ fs) place ≡ wire_frame_held_at fs place
step_held f fs place lt = rw (other_place (place_in_wire_frame f) place lt) refl

enough : (from count : ℕ) (fs : List (List ℕ)) → AreWireFramesRising from count fs
    → ((place : ℕ) → from ≤ place → place < count → IsSome (wire_frame_held_at fs place)) → count - from ≤ length fs
enough from count [] rising held = elim (cases_lt from count) [
  | inl lt ↦ absurd (none_is_not_some (wire_frame_held_at [] from) refl (held from (omega arith) lt))
  | inr le ↦ omega arith
]
enough from count (f ∷ fs) rising held =
    let le = rising.0 in
    let below = rising.1.below in
    elim (cases_lt from (place_in_wire_frame f)) [
      | inl lt ↦
          let none : wire_frame_held_at (f ∷ fs) from ≡ None = none_below (place_in_wire_frame f) count (f ∷ fs) from (omega arith, rising.1, rising.2) lt in
          absurd (none_is_not_some (wire_frame_held_at (f ∷ fs) from) none (held from (omega arith) (omega arith)))
      | inr ge ↦ let here : place_in_wire_frame f ≡ from = omega arith in
          let others = enough (place_in_wire_frame f + 1) count fs rising.2
          (λ place le2 lt2. subst IsSome (step_held f fs place (omega arith)) (held place (omega arith) lt2)) in
          omega arith
    ]

all_there : (from count : ℕ) (fs : List (List ℕ)) → AreWireFramesRising from count fs → length fs + from ≡ count
    → (place : ℕ) → from ≤ place → place < count → IsSome (wire_frame_held_at fs place)
all_there from count [] rising all place le lt = absurd (omega arith)
all_there from count (f ∷ fs) rising all place le lt =
    let few = rising_few (place_in_wire_frame f + 1) count fs rising.2 in
    let from_le = rising.0 in
    let below = rising.1.below in
    let here : place_in_wire_frame f ≡ from = omega arith in
    elim (cases_lt from place) [
      | inl behind ↦ subst IsSome (sym (step_held f fs place (omega arith)))
          (all_there (place_in_wire_frame f + 1) count fs rising.2 (omega arith) place (omega arith) lt)
      | inr ge ↦ let at : place ≡ place_in_wire_frame f = omega arith in
          rw (at, same_place (place_in_wire_frame f)) refl
    ]

pub all_held : (count : ℕ) (fs : List (List ℕ)) → AreWireFramesRising 0 count fs → length fs ≡ count → AreWireFramesHeld fs count
all_held count fs rising all place lt = all_there 0 count fs rising (omega arith) place (omega arith) lt

pub held_all : (count : ℕ) (fs : List (List ℕ)) → AreWireFramesRising 0 count fs → AreWireFramesHeld fs count → length fs ≡ count
held_all count fs rising held =
    let few = rising_few 0 count fs rising in
    let many = enough 0 count fs rising (λ place le lt. held place lt) in omega arith

-- ---- a frame that is held already

pub held_above : (from count : ℕ) (fs : List (List ℕ)) (place : ℕ) (f : List ℕ) → AreWireFramesRising from count fs
    → wire_frame_held_at fs place ≡ Some f → from ≤ place
held_above from count fs place f rising at = elim (cases_lt place from) [
  | inl lt ↦ absurd (none_is_not f (sym (none_below from count fs place rising lt) ∙ at))
  | inr le ↦ le
]

pub held_stays : (from count : ℕ) (fs : List (List ℕ)) (f : List ℕ) → AreWireFramesRising from count fs → wire_frame_held_at fs (place_in_wire_frame f) ≡ Some f → wire_frames_with_frame fs f ≡ fs
held_stays from count [] f rising e = absurd (none_is_not f e)
held_stays from count (g ∷ gs) f rising e = elim (cases_lt (place_in_wire_frame g) (place_in_wire_frame f)) [
  | inl lt ↦
      let rest = held_stays (place_in_wire_frame g + 1) count gs f rising.2 (sym (step_held g gs (place_in_wire_frame f) lt) ∙ e) in
      rw (lt-ltb _ _ lt, not_below (place_in_wire_frame f) (place_in_wire_frame g) (omega arith)) (ap (λ hs. g ∷ hs) rest)
  | inr ge ↦
      let le = held_above (place_in_wire_frame g) count (g ∷ gs) (place_in_wire_frame f) f (omega arith, rising.1, rising.2) e in
      rw (
        not_below (place_in_wire_frame g) (place_in_wire_frame f) ge,
        not_below (place_in_wire_frame f) (place_in_wire_frame g) le,
        none_lower (place_in_wire_frame g + 1) count gs (place_in_wire_frame f) rising.2 (omega arith),
        all_higher (place_in_wire_frame g + 1) count gs (place_in_wire_frame f) rising.2 (omega arith),
      ) (ap (λ h. h ∷ gs) (sym (first_is g f gs (place_in_wire_frame f) (omega arith) e)))
]

-- ---- a frame of a new place

abbrev pub index_of : List (List ℕ) → ℕ → ℕ
index_of fs place = position_or_len (λ g. leb place (place_in_wire_frame g)) fs

pub new_joins : (from count : ℕ) (fs : List (List ℕ)) (f : List ℕ) → AreWireFramesRising from count fs → wire_frame_held_at fs (place_in_wire_frame f) ≡ None
    → wire_frames_with_frame fs f ≡ insert fs (index_of fs (place_in_wire_frame f)) f
new_joins from count [] f rising none = refl
new_joins from count (g ∷ gs) f rising none =
    elim (cases_lt (place_in_wire_frame g) (place_in_wire_frame f)) [
      | inl lt ↦
          let rest = new_joins (place_in_wire_frame g + 1) count gs f rising.2 (sym (step_held g gs (place_in_wire_frame f) lt) ∙ none) in
          let next : 1 + index_of gs (place_in_wire_frame f) ≡ suc (index_of gs (place_in_wire_frame f)) = omega arith in
          rw (lt-ltb _ _ lt, not_below (place_in_wire_frame f) (place_in_wire_frame g) (omega arith), no_bound (place_in_wire_frame g) (place_in_wire_frame f) lt, next)
          (ap (λ hs. g ∷ hs) rest)
      | inr ge ↦
          let behind : place_in_wire_frame f < place_in_wire_frame g = other_than g gs (place_in_wire_frame f) ge none in
          rw (
            not_below (place_in_wire_frame g) (place_in_wire_frame f) ge,
            lt-ltb _ _ behind,
            a_bound (place_in_wire_frame g) (place_in_wire_frame f) ge,
            none_lower (place_in_wire_frame g + 1) count gs (place_in_wire_frame f) rising.2 (omega arith),
            all_higher (place_in_wire_frame g + 1) count gs (place_in_wire_frame f) rising.2 (omega arith),
          ) refl
    ]

pub new_rises : (from count : ℕ) (fs : List (List ℕ)) (f : List ℕ) → AreWireFramesRising from count fs → from ≤ place_in_wire_frame f → IsWireFrameOfCount count f
    → wire_frame_held_at fs (place_in_wire_frame f) ≡ None → AreWireFramesRising from count (wire_frames_with_frame fs f)
new_rises from count [] f rising le of none = (le, of, tt)
new_rises from count (g ∷ gs) f rising le of none =
    elim (cases_lt (place_in_wire_frame g) (place_in_wire_frame f)) [
      | inl lt ↦
          let rest = new_rises (place_in_wire_frame g + 1) count gs f rising.2 (omega arith) of (sym (step_held g gs (place_in_wire_frame f) lt) ∙ none) in
          rw (lt-ltb _ _ lt, not_below (place_in_wire_frame f) (place_in_wire_frame g) (omega arith)) (rising.0, rising.1, rest)
      | inr ge ↦
          let behind : place_in_wire_frame f < place_in_wire_frame g = other_than g gs (place_in_wire_frame f) ge none in
          rw (
            not_below (place_in_wire_frame g) (place_in_wire_frame f) ge,
            lt-ltb _ _ behind,
            none_lower (place_in_wire_frame g + 1) count gs (place_in_wire_frame f) rising.2 (omega arith),
            all_higher (place_in_wire_frame g + 1) count gs (place_in_wire_frame f) rising.2 (omega arith),
          )
          (le, of, (omega arith, rising.1, rising.2))
    ]

pub index_within : (fs : List (List ℕ)) (place : ℕ) → index_of fs place ≤ length fs
index_within [] place = omega arith
index_within (g ∷ gs) place = elim (cases_lt (place_in_wire_frame g) place) [
  | inl lt ↦ let rest = index_within gs place in rw (no_bound (place_in_wire_frame g) place lt) (omega arith)
  | inr ge ↦ rw (a_bound (place_in_wire_frame g) place ge) (omega arith)
]

-- ---- the count of held frames

pub rising_together : (count : ℕ) (fs : List (List ℕ)) → AreWireFramesRising 0 count fs → AreWireFramesTogether fs
rising_together count [] rising = tt
rising_together count (f ∷ fs) rising = subst (λ n. AreWireFramesRising 0 n (f ∷ fs)) (sym rising.1.count_is) rising

pub held_count : (from count : ℕ) (fs : List (List ℕ)) (place : ℕ) (g : List ℕ) → AreWireFramesRising from count fs → wire_frame_held_at fs place ≡ Some g → count_in_wire_frame g ≡ count
held_count from count [] place g rising e = absurd (none_is_not g e)
held_count from count (f ∷ fs) place g rising e = elim (cases_eq (place_in_wire_frame f) place) [
  | inl same ↦ subst (λ h. count_in_wire_frame h ≡ count) (first_is f g fs place same e) rising.1.count_is
  | inr other ↦
      let next : wire_frame_held_at (f ∷ fs) place ≡ wire_frame_held_at fs place = rw (ne_eqb (place_in_wire_frame f) place other) refl in
      held_count (place_in_wire_frame f + 1) count fs place g rising.2 (sym next ∙ e)
]

pub agree_first : (fs : List (List ℕ)) (g : List ℕ) (count : ℕ) (b : Bool) → AreWireFramesTogether fs → slice_get fs 0 ≡ Some g → b ≡ eqb (count_in_wire_frame g) count → WireFramesAgree fs count b
agree_first [] g count b together e is = absurd (none_is_not g e)
agree_first (f ∷ fs) g count true together e is = let same : f ≡ g = same_Some f g e in
    subst (λ n. AreWireFramesRising 0 n (f ∷ fs)) (ap count_in_wire_frame same ∙ eqb-true _ _ (sym is)) together
agree_first (f ∷ fs) g count false together e is =
    let same : f ≡ g = same_Some f g e in
    let at : wire_frame_held_at (f ∷ fs) (place_in_wire_frame f) ≡ Some f = rw (same_place (place_in_wire_frame f)) refl in
    (place_in_wire_frame f, f, at, λ one. absurd (cc (is ∙ ap (λ n. eqb n count) (ap count_in_wire_frame (sym same) ∙ one) ∙ same_place count)))

-- ---- where a frame belongs

pub of_its_count : (f : List ℕ) → 9 ≤ length f → AreBytes f → place_in_wire_frame f < count_in_wire_frame f → IsWireFrameOfCount (count_in_wire_frame f) f
of_its_count f long are below = record { below = below; whole = frame_again f (omega arith) are; count_is = refl }

pub check_held : (held : List (List ℕ)) (f g : List ℕ) → 9 ≤ length f → length f ≤ 16384
    → place_in_wire_frame f < count_in_wire_frame f → AreWireFramesRising 0 (count_in_wire_frame f) held
    → wire_frame_held_at held (place_in_wire_frame f) ≡ Some g → g ≡ f → IsWireFrameCheck held f Held
check_held held f g long short below rising at same =
    let is : wire_frame_held_at held (place_in_wire_frame f) ≡ Some f = at ∙ ap (λ h. Some h) same in (
      record { long = long; short = short; below = below; rising = rising; same = λ h at2. same_Some h f (sym at2 ∙ is) },
      held_stays 0 (count_in_wire_frame f) held f rising is,
    )

pub check_new : (held : List (List ℕ)) (f : List ℕ) (index : ℕ) → 9 ≤ length f → length f ≤ 16384
    → AreBytes f → place_in_wire_frame f < count_in_wire_frame f → AreWireFramesRising 0 (count_in_wire_frame f) held
    → wire_frame_held_at held (place_in_wire_frame f) ≡ None → index ≡ index_of held (place_in_wire_frame f)
    → IsWireFrameCheck held f (New index)
check_new held f index long short are below rising none at =
    let joins = new_joins 0 (count_in_wire_frame f) held f rising none ∙ ap (λ i. insert held i f) (sym at) in
    let rises = new_rises 0 (count_in_wire_frame f) held f rising (omega arith) (of_its_count f long are below) none in
    let within : index ≤ length held = rw at (index_within held (place_in_wire_frame f)) in (
      record { long = long; short = short; below = below; rising = rising; same = λ h at2. absurd (none_is_not h (sym none ∙ at2)) },
      within,
      joins,
      subst (AreWireFramesRising 0 (count_in_wire_frame f)) joins rises,
    )

-- the index of the first frame at a place or behind it
pub index_found : (fs : List (List ℕ)) (place index : ℕ) → Some index ≡ position (λ g. leb place (place_in_wire_frame g)) fs → index ≡ index_of fs place
index_found fs place index e =
    sym (cond_some (ltb (index_of fs place) (length fs)) (index_of fs place) index (sym e)).1

pub index_past : (fs : List (List ℕ)) (place : ℕ) → None ≡ position (λ g. leb place (place_in_wire_frame g)) fs → length fs ≡ index_of fs place
index_past fs place e =
    let past = ltb-false (index_of fs place) (length fs) (false_from_ne_true _ (λ t. none_is_not (index_of fs place) (e ∙ cond-true (ltb (index_of fs place) (length fs)) (Some (index_of fs place)) None t))) in
    let within = index_within fs place in omega arith

-- ---- what taking in a frame answers

not_refused : (held : List (List ℕ)) (f : List ℕ) → WireFrameJoins held f
    → (AreWireFramesHeld (wire_frames_with_frame held f) (count_in_wire_frame f) → ((m : Message) → AreWireFrames m (wire_frames_with_frame held f) → ⊥) → ⊥)
    → IsRefusedWireFrame held f → ⊥
not_refused held f joins whole (too_short lt) = absurd (omega (arith, joins.long))
not_refused held f joins whole (too_long lt) = absurd (omega (arith, joins.short))
not_refused held f joins whole (past_the_count le) = absurd (omega (arith, joins.below))
not_refused held f joins whole (another_count place g at other) = other (held_count 0 (count_in_wire_frame f) held place g joins.rising at)
not_refused held f joins whole (another_frame g at other) = other (joins.same g at)
not_refused held f joins whole (no_message all none) = whole all none

-- running out of memory, or a frame that is refused, changes nothing
fed_err : (held : List (List ℕ)) (f : List ℕ) (after : List (List ℕ)) (error : Failure Malformed)
    → AreWireFramesTogether held → IfRefused (λ _. IsRefusedWireFrame held f) error → after ≡ held → IsWireAssemblerFed held f after (Err error)
fed_err held f after error together refused unchanged = record {
  together = subst AreWireFramesTogether (sym unchanged) together;
  refused = refused;
  taken = tt;
  is_held = tt;
  some = tt;
  message = tt;
  unchanged = unchanged;
}

pub fed : (held : List (List ℕ)) (f : List ℕ) (after : List (List ℕ)) (result : Result (Option Message) (Failure Malformed))
    → AreWireFramesTogether held → WireFrameJoins held f → AreWireFramesRising 0 (count_in_wire_frame f) (wire_frames_with_frame held f) → IsWireMessageAssembled (wire_frames_with_frame held f) (count_in_wire_frame f) result
    → OnOk result (after ≡ wire_frames_with_frame held f) → OnErr result (after ≡ held) → IsWireAssemblerFed held f after result
fed held f after (Ok None) together joins rising answer is unchanged =
    let incomplete : AreWireFramesHeld (wire_frames_with_frame held f) (count_in_wire_frame f) → ⊥ = λ all. answer (held_all (count_in_wire_frame f) (wire_frames_with_frame held f) rising all) in
    record {
      together = subst AreWireFramesTogether (sym is) (rising_together (count_in_wire_frame f) (wire_frames_with_frame held f) rising);
      refused = tt;
      taken = not_refused held f joins (λ all none. incomplete all);
      is_held = is;
      some = (λ e. absurd (false_not_true e), λ all. absurd (incomplete (subst (λ fs. AreWireFramesHeld fs (count_in_wire_frame f)) is all)));
      message = tt;
      unchanged = tt;
    }
fed held f after (Ok (Some m)) together joins rising answer is unchanged = record {
  together = subst AreWireFramesTogether (sym is) (rising_together (count_in_wire_frame f) (wire_frames_with_frame held f) rising);
  refused = tt;
  taken = not_refused held f joins (λ all none. none m answer.1);
  is_held = is;
  some = (λ e. subst (λ fs. AreWireFramesHeld fs (count_in_wire_frame f)) (sym is) (all_held (count_in_wire_frame f) (wire_frames_with_frame held f) rising answer.0), λ all. refl);
  message = subst (AreWireFrames m) (sym is) answer.1;
  unchanged = tt;
}
fed held f after (Err error) together joins rising answer is unchanged = fed_err held f after error
    together (IfRefused-weaker (λ _. AreNoWireMessageFrames (wire_frames_with_frame held f) (count_in_wire_frame f))
    (λ _. IsRefusedWireFrame held f) (λ _ none. no_message
    (all_held (count_in_wire_frame f) (wire_frames_with_frame held f) rising none.0) none.1) error answer) unchanged

pub fed_held : (held : List (List ℕ)) (f : List ℕ) (result : Result (Option Message) (Failure Malformed))
    → AreWireFramesTogether held → IsWireFrameCheck held f Held → IsWireMessageAssembled held (count_in_wire_frame f) result
    → IsWireAssemblerFed held f held result
fed_held held f result together check answer = fed held f held result together check.0
    (rw check.1 check.0.rising) (rw check.1 answer) (on_ok result (sym check.1))
    (on_err result refl)

pub fed_new : (held : List (List ℕ)) (f : List ℕ) (index : ℕ) (after : List (List ℕ)) (result : Result (Option Message) (Failure Malformed))
    → AreWireFramesTogether held → IsWireFrameCheck held f (New index)
    → IsWireMessageAssembled (insert held index f) (count_in_wire_frame f) result
    → OnOk result (after ≡ insert held index f) → OnErr result (after ≡ held) → IsWireAssemblerFed held f after result
fed_new held f index after result together check answer is unchanged = fed held f after result
    together check.0 (rw check.2 check.3) (rw check.2 answer) (rw check.2 is) unchanged
