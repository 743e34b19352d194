-- The versions of the plans that are kept, as the marks settle.
use Rattle.std.proofs.Common.{[], ◌++◌, ◌+◌, ◌-◌, ◌<◌, ◌∙◌, ◌∷◌, ◌≡◌, ◌≤◌, All, Bool, List, ap, arith, cond, false, filter, get_or, leb, length, map, refl, subst, suc, sym, true, zero, ℕ}
use Rattle.base.proofs.Exports.{All-append, All-filter, get_or-map, get_or-range_with_len, length-map, length-range_with_len, map-append, nat_tests, range_more, range_with_len}
use Rattle.version_update.specs.Exports.{MarksValue, SettlesVersionMarks, VersionMarksStaySettled, version_marks_with_switch_changed, version_marks_with_version}
use Rattle.version_update.specs.declared.marks.Settled.{Settled}
use Rattle.version_update.specs.declared.record.SwitchRecord.{SwitchRecord}
use Rattle.controller.specs.Exports.{ControllerValue, IsSoundController, IsSoundControllerPlan, ControllerKeptPlan, ControllerSettlesWith, ControllerStaysSound, controller_live_versions, controller_kept_plans_from}

test_le : (a b : ℕ) → a ≤ b → leb a b ≡ true
test_le a b le = grind (arith, nat_tests)

-- all numbers pass
all_from : (to a n : ℕ) → to ≤ a → filter (leb to) (range_with_len a n) ≡ range_with_len a n
all_from to a zero le = refl
all_from to a (suc n) le = cc (test_le to a le, all_from to (a + 1) n (omega arith))

-- the numbers from `to` on
numbers_from : (to a n : ℕ) → a ≤ to → to ≤ a + n → filter (leb to) (range_with_len a n)
    ≡ range_with_len to (a + n - to)
numbers_from to a zero low high = let none : 0 ≡ a + 0 - to = omega arith in ap (range_with_len to)
    none
numbers_from to a (suc n) low high = by_place (leb to a) refl
    (λ above. numbers_from to (a + 1) n (omega (arith, above)) (omega (arith, above)))
  where
    rest : List ℕ
    rest = filter (leb to) (range_with_len (a + 1) n)

    by_place : (b : Bool) → leb to a ≡ b → (a < to → rest ≡ range_with_len to (a + 1 + n - to))
        → cond b (a ∷ rest) rest ≡ range_with_len to (a + suc n - to)
    by_place true is more =
        let same : a ≡ to = grind (arith, nat_tests) in
        let count : suc n ≡ a + suc n - to = omega arith in
        ap (λ l. a ∷ l) (all_from to (a + 1) n (omega arith)) ∙ ap (λ k. range_with_len k (suc n))
        same ∙ ap (range_with_len to) count
    by_place false is more =
        let above : a < to = grind (arith, nat_tests) in
        let count : a + 1 + n - to ≡ a + suc n - to = omega arith in
        more above ∙ ap (range_with_len to) count

-- a test on versions
versions_picked : (to : ℕ) (plans : List ControllerKeptPlan)
    → map (λ kept. kept.version) (controller_kept_plans_from to plans) ≡ filter (leb to)
    (map (λ kept. kept.version) plans)
versions_picked to [] = refl
versions_picked to (kept ∷ plans) = by_test (leb to kept.version) (versions_picked to plans) where
  by_test : (b : Bool) → map (λ kept. kept.version) (controller_kept_plans_from to plans) ≡ filter (leb to)
      (map (λ kept. kept.version) plans)
      → map (λ kept. kept.version) (cond b (kept ∷ controller_kept_plans_from to plans) (controller_kept_plans_from to plans))
      ≡ cond b (kept.version ∷ filter (leb to) (map (λ kept. kept.version) plans))
      (filter (leb to) (map (λ kept. kept.version) plans))
  by_test true same = ap (λ l. kept.version ∷ l) same
  by_test false same = same

-- no plan is let go twice
pub plans_twice : (to : ℕ) (plans : List ControllerKeptPlan) → controller_kept_plans_from to (controller_kept_plans_from to plans)
    ≡ controller_kept_plans_from to plans
plans_twice to [] = refl
plans_twice to (kept ∷ plans) = by_test (leb to kept.version) refl (plans_twice to plans) where
  by_test : (b : Bool) → leb to kept.version ≡ b → controller_kept_plans_from to (controller_kept_plans_from to plans)
      ≡ controller_kept_plans_from to plans → controller_kept_plans_from to
      (cond b (kept ∷ controller_kept_plans_from to plans) (controller_kept_plans_from to plans)) ≡ cond b
      (kept ∷ controller_kept_plans_from to plans) (controller_kept_plans_from to plans)
  by_test true is same = cc (is, same)
  by_test false is same = same

-- the plans that are kept when the marks settle are those of the current version and later ones
pub settled_versions : (before marks : MarksValue) (answer : Settled) (kept plans : List ControllerKeptPlan)
    → SettlesVersionMarks before marks answer → before.current ≤ before.count → map (λ kept. kept.version) kept
    ≡ controller_live_versions before → plans ≡ controller_kept_plans_from marks.current kept
    → map (λ kept. kept.version) plans ≡ controller_live_versions marks
settled_versions before marks answer kept plans is low versions picked =
    let count : before.current + (before.count + 1 - before.current) - marks.current
    ≡ marks.count + 1 - marks.current = omega (arith, is.count, low) in
    ap (map (λ kept. kept.version)) picked ∙ versions_picked marks.current kept
    ∙ ap (filter (leb marks.current)) versions
    ∙ numbers_from marks.current before.current _ is.current.rises
    (omega (arith, is.current.bound, low))
    ∙ ap (range_with_len marks.current) count

-- with one more version
pub versions_more : (marks : MarksValue) (plans : List ControllerKeptPlan) (next : ControllerKeptPlan)
    → marks.current ≤ marks.count → next.version ≡ marks.count + 1
    → map (λ kept. kept.version) plans ≡ controller_live_versions marks
    → map (λ kept. kept.version) (plans ++ next ∷ []) ≡ controller_live_versions (version_marks_with_version marks)
versions_more marks plans next low number versions =
    let last : marks.current + (marks.count + 1 - marks.current) ≡ marks.count + 1 = omega arith in
    map-append (λ (kept : ControllerKeptPlan). kept.version) plans (next ∷ [])
    ∙ ap (λ l. l ++ next.version ∷ []) versions
    ∙ ap (λ v. controller_live_versions marks ++ v ∷ []) number
    ∙ sym (range_more marks.current (marks.count + 1 - marks.current) (marks.count + 1) last)
    ∙ ap (range_with_len marks.current) (omega (arith, low))

abbrev pub AreSoundPlans : List ControllerKeptPlan → Type 0
AreSoundPlans plans = All (λ kept. IsSoundControllerPlan kept.plan) plans

-- a list of one sound plan
pub one_sound : (next : ControllerKeptPlan) → IsSoundControllerPlan next.plan → AreSoundPlans (next ∷ [])
one_sound next sound zero d within = sound
one_sound next sound (suc k) d within = absurd (omega (arith, within))

-- what a controller's fields keep
abbrev pub IsWhole : MarksValue → List ControllerKeptPlan → Type 0
IsWhole marks plans = IsSoundController (record { marks = marks; plans = plans })

pub whole : (old before marks : MarksValue) (answer : Settled) (kept plans : List ControllerKeptPlan)
    → VersionMarksStaySettled old marks → SettlesVersionMarks before marks answer
    → before.current ≤ before.count → map (λ kept. kept.version) kept ≡ controller_live_versions before
    → AreSoundPlans kept → plans ≡ controller_kept_plans_from marks.current kept → IsWhole marks plans
whole old before marks answer kept plans stays is low versions sound picked =
    let passes : ControllerKeptPlan → Bool = λ kept. leb marks.current kept.version in
    let some = All-filter passes (λ kept. IsSoundControllerPlan kept.plan) kept sound in record {
      marks = stays.settled;
      sound = subst AreSoundPlans (sym picked) some;
      versions = settled_versions before marks answer kept plans is low versions picked;
    }

-- settling from a controller's marks, as it is seen
pub settles_seen : (s : ℕ) (change : SwitchRecord → SwitchRecord) (old marks : MarksValue)
    (kept : List ControllerKeptPlan) (answer : Settled) (value : ControllerValue)
    → record { marks = old; plans = kept } ≡ value → SettlesVersionMarks (version_marks_with_switch_changed s change old) marks answer
    → SettlesVersionMarks (version_marks_with_switch_changed s change value.marks) marks answer
settles_seen s change old marks kept answer value seen settled =
    subst (λ (value : ControllerValue). SettlesVersionMarks (version_marks_with_switch_changed s change value.marks) marks answer) seen
    settled

module _ (s : ℕ) (change : SwitchRecord → SwitchRecord) (old : MarksValue) (kept : List ControllerKeptPlan)
    (marks : MarksValue) (answer : Settled) (plans : List ControllerKeptPlan) where
  -- one switch's record changed
  pub whole_at : IsWhole old kept → VersionMarksStaySettled old marks
      → SettlesVersionMarks (version_marks_with_switch_changed s change old) marks answer → plans ≡ controller_kept_plans_from marks.current kept
      → IsWhole marks plans
  whole_at is stays settled picked = whole old (version_marks_with_switch_changed s change old) marks answer kept
      plans stays settled is.marks.bounds.last is.versions is.sound picked

  pub settles_at : (value : ControllerValue) → record { marks = old; plans = kept } ≡ value
      → SettlesVersionMarks (version_marks_with_switch_changed s change old) marks answer → plans ≡ controller_kept_plans_from marks.current kept
      → ControllerSettlesWith (version_marks_with_switch_changed s change value.marks) value.plans
      (record { marks = marks; plans = plans })
  settles_at value seen settled picked =
      let P : ControllerValue → Type 0 = λ value. ControllerSettlesWith (version_marks_with_switch_changed s change value.marks)
      value.plans (record { marks = marks; plans = plans }) in
      subst P seen (record { marks = (answer, settled); plans = picked })

  pub stays_at : (value : ControllerValue) → record { marks = old; plans = kept } ≡ value
      → IsWhole old kept → VersionMarksStaySettled old marks → SettlesVersionMarks (version_marks_with_switch_changed s change old) marks
      answer → plans ≡ controller_kept_plans_from marks.current kept
      → ControllerStaysSound value (record { marks = marks; plans = plans })
  stays_at value seen is stays settled picked =
      let P : ControllerValue → Type 0 = λ value. ControllerStaysSound value
      (record { marks = marks; plans = plans }) in
      subst P seen (record {
        controller = whole_at is stays settled picked;
        switches = stays.switches;
      })

module _ (old : MarksValue) (kept : List ControllerKeptPlan) (next : ControllerKeptPlan) (marks : MarksValue)
    (answer : Settled) (mid plans : List ControllerKeptPlan) where
  -- the kept plans and the next one
  abbrev pub IsPushed : Type 0
  IsPushed = mid ≡ kept ++ next ∷ []

  with_next : IsPushed → plans ≡ controller_kept_plans_from marks.current mid → plans ≡ controller_kept_plans_from marks.current
      (kept ++ next ∷ [])
  with_next pushed picked = picked ∙ ap (controller_kept_plans_from marks.current) pushed

  -- one more version
  pub whole_more : IsSoundControllerPlan next.plan → next.version ≡ old.count + 1 → IsWhole old kept → VersionMarksStaySettled old marks
      → SettlesVersionMarks (version_marks_with_version old) marks answer → IsPushed → plans ≡ controller_kept_plans_from marks.current mid
      → IsWhole marks plans
  whole_more sound number is stays settled pushed picked = whole old (version_marks_with_version old) marks answer
      (kept ++ next ∷ []) plans stays settled (omega (arith, is.marks.bounds.last))
      (versions_more old kept next is.marks.bounds.last number is.versions)
      (All-append (λ kept. IsSoundControllerPlan kept.plan) kept _ is.sound (one_sound next sound))
      (with_next pushed picked)

  pub stays_more : IsSoundControllerPlan next.plan → next.version ≡ old.count + 1 → (value : ControllerValue)
      → record { marks = old; plans = kept } ≡ value → IsWhole old kept → VersionMarksStaySettled old marks
      → SettlesVersionMarks (version_marks_with_version old) marks answer → IsPushed → plans ≡ controller_kept_plans_from marks.current mid
      → ControllerStaysSound value (record { marks = marks; plans = plans })
  stays_more sound number value seen is stays settled pushed picked =
      let P : ControllerValue → Type 0 = λ value. ControllerStaysSound value
      (record { marks = marks; plans = plans }) in
      subst P seen (record {
        controller = whole_more sound number is stays settled pushed picked;
        switches = stays.switches;
      })

-- each version that is kept is there
pub versions_within : (marks : MarksValue) (plans read : List ControllerKeptPlan) → read ≡ plans
    → IsSoundController (record { marks = marks; plans = plans })
    → All (λ kept. (1 ≤ kept.version) × (kept.version ≤ marks.count)) read
versions_within marks plans read same is = rw same (λ k d within.
    let number = sym (length-map plans (λ kept. kept.version)) ∙ ap length is.versions
    ∙ length-range_with_len marks.current (marks.count + 1 - marks.current) in
    let below : k < marks.count + 1 - marks.current = omega (arith, number, within) in
    let at = sym (get_or-map (λ (kept : ControllerKeptPlan). kept.version) plans k d 0 within)
    ∙ ap (λ l. get_or l k 0) is.versions
    ∙ get_or-range_with_len marks.current (marks.count + 1 - marks.current) k 0 below in
    (omega (arith, at, is.marks.bounds.first), omega (arith, at, below)))
