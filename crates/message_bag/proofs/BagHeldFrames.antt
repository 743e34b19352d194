-- Those of rising frames whose places pass a test, as an assembler holds them.
use Rattle.std.proofs.Common.{[], ◌+◌, ◌<◌, ◌∙◌, ◌∷◌, ◌≡◌, ◌≢◌, ◌≤◌, Bool, Contains, IsSome, List, None, Option, Some, ap, arith, cond, eqb, false, filter, inl, inr, le-ltb, length, lt-ltb, ltb, ne_eqb, refl, slice_index_or, suc, sym, true, zero, ℕ}
use Rattle.base.proofs.Exports.{cases_eq, cases_lt, none_is_not}
use Rattle.wire.specs.Exports.{AreWireFramesRising, wire_frame_held_at, place_in_wire_frame, wire_frames_with_frame}
use Rattle.wire.proofs.WireFramesHeld.{all_higher, first_is, held_above, none_lower, step_held, same_place}

abbrev pub part : (ℕ → Bool) → List (List ℕ) → List (List ℕ)
part p fs = filter (λ f. p (place_in_wire_frame f)) fs

later : (from less count : ℕ) (fs : List (List ℕ)) → less ≤ from → AreWireFramesRising from count fs → AreWireFramesRising less count fs
later from less count [] le rising = tt
later from less count (f ∷ fs) le rising = (omega (arith, rising.0), rising.1, rising.2)

pub part_rises : (p : ℕ → Bool) (from count : ℕ) (fs : List (List ℕ)) → AreWireFramesRising from count fs
    → AreWireFramesRising from count (part p fs)
part_rises p from count [] rising = tt
part_rises p from count (f ∷ fs) rising =
    by_test (p (place_in_wire_frame f)) (part_rises p (place_in_wire_frame f + 1) count fs rising.2)
  where
    by_test : (b : Bool) → AreWireFramesRising (place_in_wire_frame f + 1) count (part p fs)
        → AreWireFramesRising from count (cond b (f ∷ part p fs) (part p fs))
    by_test true rest = (rising.0, rising.1, rest)
    by_test false rest = later (place_in_wire_frame f + 1) from count (part p fs) (omega (arith, rising.0)) rest

pub part_all : (p : ℕ → Bool) (from count : ℕ) (fs : List (List ℕ)) → AreWireFramesRising from count fs
    → ((n : ℕ) → n < count → p n ≡ true) → part p fs ≡ fs
part_all p from count [] rising all = refl
part_all p from count (f ∷ fs) rising all =
    rw (all (place_in_wire_frame f) rising.1.below) (ap (λ gs. f ∷ gs) (part_all p (place_in_wire_frame f + 1) count fs rising.2 all))

pub part_none : (p : ℕ → Bool) (fs : List (List ℕ)) → ((n : ℕ) → p n ≡ false) → part p fs ≡ []
part_none p [] none = refl
part_none p (f ∷ fs) none = rw (none (place_in_wire_frame f)) (part_none p fs none)

-- tests that agree from a place on
part_same : (p q : ℕ → Bool) (from count : ℕ) (fs : List (List ℕ)) → AreWireFramesRising from count fs
    → ((n : ℕ) → from ≤ n → q n ≡ p n) → part q fs ≡ part p fs
part_same p q from count [] rising same = refl
part_same p q from count (f ∷ fs) rising same =
    rw (same (place_in_wire_frame f) rising.0) (ap (λ gs. cond (p (place_in_wire_frame f)) (f ∷ gs) gs)
    (part_same p q (place_in_wire_frame f + 1) count fs rising.2 (λ n le. same n (omega (arith, rising.0)))))

-- what is held at a place
pub held_part : (p : ℕ → Bool) (fs : List (List ℕ)) (n : ℕ) → wire_frame_held_at (part p fs) n ≡ cond (p n) (wire_frame_held_at fs n) None
held_part p [] n = by_test (p n) where
  by_test : (b : Bool) → wire_frame_held_at [] n ≡ cond b (wire_frame_held_at [] n) None
  by_test true = refl
  by_test false = refl
held_part p (f ∷ fs) n = let rest = held_part p fs n in
    elim (cases_eq (place_in_wire_frame f) n) [
      | inl same ↦ here (p (place_in_wire_frame f)) (ap p (sym same)) (rw same (same_place n)) rest
      | inr other ↦ behind (p (place_in_wire_frame f)) (ne_eqb (place_in_wire_frame f) n other) rest
    ]
  where
    here : (b : Bool) → p n ≡ b → eqb (place_in_wire_frame f) n ≡ true
        → wire_frame_held_at (part p fs) n ≡ cond (p n) (wire_frame_held_at fs n) None
        → wire_frame_held_at (cond b (f ∷ part p fs) (part p fs)) n ≡ cond (p n) (wire_frame_held_at (f ∷ fs) n) None
    here true is hit rest = rw (is, hit) refl
    here false is hit rest = rest ∙ rw is refl

    behind : (b : Bool) → eqb (place_in_wire_frame f) n ≡ false
        → wire_frame_held_at (part p fs) n ≡ cond (p n) (wire_frame_held_at fs n) None
        → wire_frame_held_at (cond b (f ∷ part p fs) (part p fs)) n ≡ cond (p n) (wire_frame_held_at (f ∷ fs) n) None
    behind true miss rest = rw miss rest
    behind false miss rest = rw miss rest

-- one frame more: the test now passes its place too
pub with_part : (p q : ℕ → Bool) (from count : ℕ) (fs : List (List ℕ)) (f : List ℕ) → AreWireFramesRising from count fs
    → wire_frame_held_at fs (place_in_wire_frame f) ≡ Some f → ((n : ℕ) → n ≢ place_in_wire_frame f → q n ≡ p n) → q (place_in_wire_frame f) ≡ true
    → wire_frames_with_frame (part p fs) f ≡ part q fs
with_part p q from count [] f rising at same here = absurd (none_is_not f at)
with_part p q from count (g ∷ gs) f rising at same here =
    elim (cases_lt (place_in_wire_frame g) (place_in_wire_frame f)) [
      | inl lt ↦
          let rest = with_part p q (place_in_wire_frame g + 1) count gs f rising.2 (sym (step_held g gs (place_in_wire_frame f) lt) ∙ at) same here in
          rw (same (place_in_wire_frame g) (λ e. absurd (omega arith))) (before (p (place_in_wire_frame g)) lt rest)
      | inr ge ↦
          let le = held_above (place_in_wire_frame g) count (g ∷ gs) (place_in_wire_frame f) f (omega arith, rising.1, rising.2) at in
          let one : place_in_wire_frame g ≡ place_in_wire_frame f = omega arith in
          let is : g ≡ f = first_is g f gs (place_in_wire_frame f) one at in
          let rest : part q gs ≡ part p gs = part_same p q (place_in_wire_frame g + 1) count gs rising.2 (λ n above. same n (λ e. absurd (omega arith))) in
          let now : q (place_in_wire_frame g) ≡ true = ap q one ∙ here in
          let part_now : part q (g ∷ gs) ≡ f ∷ part p gs = rw (now, rest) (ap (λ h. h ∷ part p gs) is) in
          among (p (place_in_wire_frame g)) one ∙ sym part_now
    ]
  where
    before : (b : Bool) → place_in_wire_frame g < place_in_wire_frame f → wire_frames_with_frame (part p gs) f ≡ part q gs
        → wire_frames_with_frame (cond b (g ∷ part p gs) (part p gs)) f ≡ cond b (g ∷ part q gs) (part q gs)
    before true lt rest =
        rw (lt-ltb _ _ lt, le-ltb (place_in_wire_frame f) (place_in_wire_frame g) (omega arith)) (ap (λ hs. g ∷ hs) rest)
    before false lt rest = rest

    among_later : (b : Bool) → place_in_wire_frame g ≡ place_in_wire_frame f → filter (λ h. ltb (place_in_wire_frame h) (place_in_wire_frame f)) (part p gs) ≡ []
        → filter (λ h. ltb (place_in_wire_frame f) (place_in_wire_frame h)) (part p gs) ≡ part p gs
        → wire_frames_with_frame (cond b (g ∷ part p gs) (part p gs)) f ≡ f ∷ part p gs
    among_later true one lower higher =
        rw (le-ltb (place_in_wire_frame g) (place_in_wire_frame f) (omega arith), le-ltb (place_in_wire_frame f) (place_in_wire_frame g) (omega arith), lower, higher) refl
    among_later false one lower higher = rw (lower, higher) refl

    among : (b : Bool) → place_in_wire_frame g ≡ place_in_wire_frame f → wire_frames_with_frame (cond b (g ∷ part p gs) (part p gs)) f ≡ f ∷ part p gs
    among b one =
        let rises : AreWireFramesRising (place_in_wire_frame g + 1) count (part p gs) = part_rises p (place_in_wire_frame g + 1) count gs rising.2 in
        among_later b one (none_lower (place_in_wire_frame g + 1) count (part p gs) (place_in_wire_frame f) rises (omega arith))
        (all_higher (place_in_wire_frame g + 1) count (part p gs) (place_in_wire_frame f) rises (omega arith))

-- ---- frames that are in a list

held_from : (from count : ℕ) (fs : List (List ℕ)) (f : List ℕ) (k : ℕ) → AreWireFramesRising from count fs → k < length fs
    → slice_index_or fs k f ≡ f → wire_frame_held_at fs (place_in_wire_frame f) ≡ Some f
held_from from count [] f k rising lt is = absurd (omega arith)
held_from from count (g ∷ gs) f zero rising lt is = let same : g ≡ f = is in rw (same, same_place (place_in_wire_frame f)) refl
held_from from count (g ∷ gs) f (suc k) rising lt is =
    let rest : wire_frame_held_at gs (place_in_wire_frame f) ≡ Some f = held_from (place_in_wire_frame g + 1) count gs f k rising.2 (omega arith) is in
    let behind = held_above (place_in_wire_frame g + 1) count gs (place_in_wire_frame f) f rising.2 rest in
    step_held g gs (place_in_wire_frame f) (omega arith) ∙ rest

-- each of rising frames is held at its place
pub held_there : (from count : ℕ) (fs : List (List ℕ)) (f : List ℕ) → AreWireFramesRising from count fs → Contains fs f
    → wire_frame_held_at fs (place_in_wire_frame f) ≡ Some f
held_there from count fs f rising there = held_from from count fs f there.0 rising there.1 there.2

-- a frame that is found is in the list, and at the place
pub found_there : (fs : List (List ℕ)) (place : ℕ) (f : List ℕ) → wire_frame_held_at fs place ≡ Some f
    → Contains fs f × (place_in_wire_frame f ≡ place)
found_there [] place f at = absurd (none_is_not f at)
found_there (g ∷ gs) place f at = elim (cases_eq (place_in_wire_frame g) place) [
  | inl same ↦ let is : g ≡ f = first_is g f gs place same at in
      ((0, omega arith, is), ap place_in_wire_frame (sym is) ∙ same)
  | inr other ↦
      let miss : wire_frame_held_at (g ∷ gs) place ≡ wire_frame_held_at gs place = rw (ne_eqb (place_in_wire_frame g) place other) refl in
      let rest = found_there gs place f (sym miss ∙ at) in
      ((suc rest.0.0, omega (arith, rest.0.1), rest.0.2), rest.1)
]

some_either : (b : Bool) (x : List ℕ) (o : Option (List ℕ)) → IsSome o → IsSome (cond b (Some x) o)
some_either true x o some = refl
some_either false x o some = some

found_from : (fs : List (List ℕ)) (f : List ℕ) (k : ℕ) → k < length fs → slice_index_or fs k f ≡ f
    → IsSome (wire_frame_held_at fs (place_in_wire_frame f))
found_from [] f k lt is = absurd (omega arith)
found_from (g ∷ gs) f zero lt is = let same : g ≡ f = is in rw (same, same_place (place_in_wire_frame f)) refl
found_from (g ∷ gs) f (suc k) lt is =
    some_either (eqb (place_in_wire_frame g) (place_in_wire_frame f)) g (wire_frame_held_at gs (place_in_wire_frame f)) (found_from gs f k (omega arith) is)

-- where a frame is in a list, one is found at its place
pub is_found : (fs : List (List ℕ)) (f : List ℕ) → Contains fs f → IsSome (wire_frame_held_at fs (place_in_wire_frame f))
is_found fs f there = found_from fs f there.0 there.1 there.2
