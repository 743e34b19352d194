-- Nobody stamps with a version that isn't current yet, or is told or said to.
use Rattle.std.proofs.Common.{[], ◌++◌, ◌<◌, ◌==◌, ◌∙◌, ◌∷◌, ◌≡◌, ◌≤◌, Bool, IfSome, List, None, Option, Some, arith, false, if◌then◌else◌, inl, inr, map, option_and_then, refl, subst, sym, true, ℕ}
use Rattle.update_machine.specs.Exports.{Body, Install, Item, Message, OpenAt, Place, Setting, Stamp, Stamped, Tables, JournalVersionsAreNumbered, acked_stamp, journal_body_to_controller, journal_body_to_switch, journal_controller_heard, journal_current_mark, machine_first_open, heard, journal_known_boot, members, journal_message_of, journal_next_retired, machine_open_sent, journal_retired_mark, machine_version_to_stamp_with, journal_stamp_of, machine_stamped_version_in, machine_message_to_switch, journal_version_count}
use Rattle.update_machine.proofs.Exports.{numbered_at_first, other_more, plan_stays, start_laws, submitted_more, touched_stays}
use Rattle.control_laws.specs.Exports.{AreControlInstallTablesPlanned, HasControlItemCause, ControlInstallsArePlanned, IsRightControlInstall, IsRightControlMessage, IsRightControlOpening, IsRightControlStamp, AreControlTouchedWords, ControlStampsSayTouched, control_stamp_message_to}
use Rattle.control_laws.proofs.ControlFactsGrown.{AreKept, FromCauses, NeverFalls, by_number, count_more, current_more, from_causes, heard_more, known_rises, new_or_old, opened_in, opened_is, opened_more, opens_by, raised, retired_more, stamp_told}
use Rattle.base.proofs.Exports.{⊤, AllByRecursion, IfSome_then, each_always, each_append, each_map, each_option, nat_tests, option_map_or, option_or}
use Rattle.ctrl_msg.specs.Exports.{message_to_controller}
use Rattle.control_laws.proofs.ControlPieceCauses.{said_parts}
use Rattle.control_laws.proofs.ControlAckKinds.{stamp_less, stamped_is}
use Rattle.control_laws.proofs.ControlSaidToController.{acked_stamp_within, each_weaker, least_within, open_within, tells, told_by, told_by_more, told_sent}
use Rattle.ternary.specs.Exports.{WordValue}

-- ---- versions are numbered from 1 without a gap

pub numbered_kept : (setting : Setting) → AreKept (HasControlItemCause setting) JournalVersionsAreNumbered
numbered_kept setting before (Item.Submitted file version) cause known =
    submitted_more before file version cause.next known
numbered_kept setting before next cause known = other_more before next refl known

pub caused_numbered : FromCauses (λ setting. JournalVersionsAreNumbered)
caused_numbered =
    from_causes (λ setting. JournalVersionsAreNumbered) numbered_kept (λ setting. numbered_at_first)

-- ---- how far the marks and what is sent of versions may go: at most to the current version, and
-- tables only as they are planned.

-- ---- what never falls

pub current_rises : NeverFalls journal_current_mark
current_rises setting before (Item.Current version) cause =
    let rises = cause.rises in rw (current_more before (Item.Current version)) (omega arith)
current_rises setting before next cause = rw (current_more before next) (omega arith)

pub count_rises : (before : List Item) (next : Item)
    → journal_version_count before ≤ journal_version_count (before ++ next ∷ [])
count_rises before (Item.Submitted file version) =
    rw (count_more before (Item.Submitted file version)) (omega arith)
count_rises before next = rw (count_more before next) (omega arith)

-- ---- current

-- the current version is there
pub record IsThere (journal : List Item) : Type 0 where
  pub first : 1 ≤ journal_current_mark journal
  pub there : journal_current_mark journal ≤ journal_version_count journal

pub there_kept : (setting : Setting) → AreKept (HasControlItemCause setting) IsThere
there_kept setting before (Item.Current version) cause is =
    let next : Item = Item.Current version in record {
      first = rw (current_more before next) (omega (arith, is.first));
      there = rw (current_more before next, count_more before next) (omega arith);
    }
there_kept setting before next cause is = record {
  first = rw (current_more before next) is.first;
  there = rw (current_more before next) (omega (arith, is.there, count_rises before next));
}

pub there_at_first : IsThere []
there_at_first = record {
  first = omega (arith, start_laws.current);
  there = omega (arith, start_laws.current, start_laws.count);
}

-- ---- tables

planned_on : (setting : Setting) (before : List Item) (next : Item) (s : ℕ) (installed : Tables)
    → JournalVersionsAreNumbered before → AreControlInstallTablesPlanned setting before s installed
    → AreControlInstallTablesPlanned setting (before ++ next ∷ []) s installed
planned_on setting before next s installed numbered are = record {
  version = are.version;
  first = are.first;
  last = omega (arith, are.last, count_rises before next);
  planned = cc (are.planned, plan_stays setting before (next ∷ []) are.version numbered are.last);
}

pub right_planned : (setting : Setting) (before : List Item) (s boot : ℕ) (installed : Tables)
    → IsThere before → IsRightControlInstall setting before s boot installed
    → AreControlInstallTablesPlanned setting before s installed
right_planned setting before s boot installed is right = record {
  version = right.version;
  first = elim right.which [
    | inl newest ↦ omega (arith, newest, is.first, is.there)
    | inr current ↦ omega (arith, current, is.first)
  ];
  last = right.there;
  planned = right.planned;
}

-- tables are sent as they are planned, and stay so
pub record IsPlannedSoFar (setting : Setting) (journal : List Item) : Type 0 where
  pub marks : IsThere journal
  pub versions : JournalVersionsAreNumbered journal
  pub installs : ControlInstallsArePlanned setting journal

pub planned_kept : (setting : Setting) → AreKept (HasControlItemCause setting) (IsPlannedSoFar setting)
planned_kept setting before next cause are = record {
  marks = there_kept setting before next cause are.marks;
  versions = numbered_kept setting before next cause are.versions;
  installs = λ s boot n installed is. elim
      (by_number before next n (machine_message_to_switch s (Install boot installed)) is) [
        | inl new ↦ planned_on setting before next s installed are.versions (right_planned setting
            before s boot installed are.marks (subst (HasControlItemCause setting before) new cause))
        | inr old ↦ planned_on setting before next s installed are.versions
            (are.installs s boot n installed old)
      ];
}

pub planned_at_first : (setting : Setting) → IsPlannedSoFar setting []
planned_at_first setting = record {
  marks = there_at_first;
  versions = numbered_at_first;
  installs = λ s boot n installed is.
      let none : None ≡ Some (machine_message_to_switch s (Install boot installed)) =
      rw (start_laws.message n).message at is in absurd cc;
}

pub caused_planned : FromCauses IsPlannedSoFar
caused_planned = from_causes IsPlannedSoFar planned_kept planned_at_first

pub installs_planned : FromCauses ControlInstallsArePlanned
installs_planned setting journal have = (caused_planned setting journal have).installs

-- ---- current versions

-- a message that lets a switch stamp, or says that it does, is of a version that is current or was
abbrev pub IsOfCurrent : List Item → Place → Body → Type 0
IsOfCurrent journal (Place.Switch s) body =
    IfSome (machine_version_to_stamp_with body) (λ version. version ≤ journal_current_mark journal)
IsOfCurrent journal Place.Controller (Stamped s boot version) = version ≤ journal_current_mark journal
IsOfCurrent journal to body = ⊤

pub record StampsAreCurrent (journal : List Item) : Type 0 where
  pub marks : IsThere journal
  pub sent : (n : ℕ) (message : Message) → journal_message_of journal n ≡ Some message
      → IsOfCurrent journal message.to message.body
  pub opened : (s boot version : ℕ) → opened_in journal s boot ≡ Some version
      → (version ≤ journal_current_mark journal) × (boot ≤ journal_known_boot journal s)
  pub stamps : (s : ℕ) → journal_stamp_of journal s ≤ journal_current_mark journal
  pub told : (s boot : ℕ) → AllByRecursion (λ version. version ≤ journal_current_mark journal)
      (told_by (machine_stamped_version_in s boot) journal)
  pub retired : journal_retired_mark journal < journal_current_mark journal

-- ---- openings

pub right_current : (before : List Item) (s boot version : ℕ) → StampsAreCurrent before
    → IsRightControlOpening before s boot version → version ≤ journal_current_mark before
right_current before s boot version are right = elim right.opens [
  | inl first ↦ omega (arith, first.current)
  | inr same ↦ (are.opened s (journal_known_boot before s) version (sym (opened_is before s) ∙ same)).0
]

opened_on : (setting : Setting) (before : List Item) (next : Item) (s boot version : ℕ)
    → HasControlItemCause setting before next → StampsAreCurrent before
    → opened_in (before ++ next ∷ []) s boot ≡ Some version
    → (version ≤ journal_current_mark (before ++ next ∷ [])) × (boot ≤ journal_known_boot (before ++ next ∷ []) s)
opened_on setting before next s boot version cause are opened =
    by_opened (opened_in before s boot) refl (sym (opened_more before next s boot) ∙ opened)
  where
    later : (version ≤ journal_current_mark before) × (boot ≤ journal_known_boot before s)
        → (version ≤ journal_current_mark (before ++ next ∷ []))
        × (boot ≤ journal_known_boot (before ++ next ∷ []) s)
    later here =
        let below = here.0 in
        let past = here.1 in
        let rises = current_rises setting before next cause in
        let knows = known_rises before next s in (omega arith, omega arith)

    by_opened : (o : Option ℕ) → opened_in before s boot ≡ o
        → option_or o (machine_first_open (machine_open_sent s boot next)) ≡ Some version
        → (version ≤ journal_current_mark (before ++ next ∷ []))
        × (boot ≤ journal_known_boot (before ++ next ∷ []) s)
    by_opened (Some w) e opens = later (are.opened s boot version (e ∙ opens))
    by_opened None e opens =
        let right : IsRightControlOpening before s boot version = subst (HasControlItemCause setting before)
        (opens_by next s boot version opens).1 cause in
        later (right_current before s boot version are right, omega arith)

-- ---- messages

sent_current : (setting : Setting) (before : List Item) (to : Place) (body : Body)
    → StampsAreCurrent before → IsRightControlMessage setting before to body → IsOfCurrent before to body
sent_current setting before (Place.Switch s) (OpenAt boot version) are right =
    right_current before s boot version are right
sent_current setting before (Place.Switch s) (Stamp boot version touched) are right =
    let current = right.current in omega arith
sent_current setting before (Place.Switch s) _ are right = tt
sent_current setting before Place.Controller (Stamped s boot version) are right =
    omega (arith, right.stamps, are.stamps s)
sent_current setting before Place.Controller _ are right = tt

current_on : (setting : Setting) (before : List Item) (next : Item) (to : Place) (body : Body)
    → HasControlItemCause setting before next → IsOfCurrent before to body
    → IsOfCurrent (before ++ next ∷ []) to body
current_on setting before next (Place.Switch s) body cause is = IfSome_then (machine_version_to_stamp_with body) is
    (λ version below. omega (arith, below, current_rises setting before next cause))
current_on setting before next Place.Controller (Stamped s boot version) cause is =
    omega (arith, is, current_rises setting before next cause)
current_on setting before next Place.Controller _ cause is = tt

-- ---- stamps

delivered_current : (before : List Item) (s number : ℕ) → StampsAreCurrent before
    → raised (journal_stamp_of before s) (option_and_then machine_version_to_stamp_with (journal_body_to_switch before s number))
    ≤ journal_current_mark before
delivered_current before s number are = by_said (journal_body_to_switch before s number) refl where
  by_stamp : (stamp : Option ℕ) → IfSome stamp (λ version. version ≤ journal_current_mark before)
      → raised (journal_stamp_of before s) stamp ≤ journal_current_mark before
  by_stamp None current = are.stamps s
  by_stamp (Some version) current = omega (arith, are.stamps s, current)

  by_said : (said : Option Body) → journal_body_to_switch before s number ≡ said
      → raised (journal_stamp_of before s) (option_and_then machine_version_to_stamp_with said) ≤ journal_current_mark before
  by_said None e = are.stamps s
  by_said (Some body) e = by_stamp (machine_version_to_stamp_with body)
      (are.sent number (machine_message_to_switch s body) (said_parts before s number body e).sent)

stamps_on : (setting : Setting) (before : List Item) (next : Item) (s : ℕ)
    → HasControlItemCause setting before next → StampsAreCurrent before
    → journal_stamp_of (before ++ next ∷ []) s ≤ journal_current_mark (before ++ next ∷ [])
stamps_on setting before (Item.Delivered number) s cause are =
    omega (arith, stamp_told before number s, delivered_current before s number are, current_rises)
stamps_on setting before next s cause are =
    omega (arith, stamp_less before next s refl, are.stamps s, are.marks.first, current_rises)

-- ---- what is told of stamps

gives_current : (before : List Item) (next : Item) (s boot : ℕ) → StampsAreCurrent before
    → AllByRecursion (λ version. version ≤ journal_current_mark before)
    (tells (machine_stamped_version_in s boot) before next)
gives_current before (Item.Delivered number) s boot are =
    each_option (λ version. version ≤ journal_current_mark before)
    (option_and_then (machine_stamped_version_in s boot) (journal_body_to_controller before number))
    (λ version told. are.sent number (message_to_controller (Stamped s boot version))
    (told_sent (machine_stamped_version_in s boot) (Stamped s boot) (stamped_is s boot) before number version told))
gives_current before _ s boot are = tt

told_on : (setting : Setting) (before : List Item) (next : Item) (s boot : ℕ) → HasControlItemCause setting
    before next → StampsAreCurrent before → AllByRecursion (λ version. version
    ≤ journal_current_mark (before ++ next ∷ [])) (told_by (machine_stamped_version_in s boot) (before ++ next ∷ []))
told_on setting before next s boot cause are =
    subst (AllByRecursion (λ version. version ≤ journal_current_mark (before ++ next ∷ [])))
    (sym (told_by_more (machine_stamped_version_in s boot) before next))
    (each_weaker (λ version. version ≤ journal_current_mark before) (λ version. version
    ≤ journal_current_mark (before ++ next ∷ [])) (λ version below. omega (arith, current_rises))
    (told_by (machine_stamped_version_in s boot) before ++ tells (machine_stamped_version_in s boot) before next)
    (each_append (λ version. version ≤ journal_current_mark before) (told_by (machine_stamped_version_in s boot) before)
    (tells (machine_stamped_version_in s boot) before next) (are.told s boot)
    (gives_current before next s boot are)))

-- ---- retired versions

-- so is what a switch is known to stamp with
pub acked_current : (journal : List Item) (s : ℕ) → StampsAreCurrent journal
    → acked_stamp journal s ≤ journal_current_mark journal
acked_current journal s are = acked_stamp_within journal s (journal_current_mark journal)
    (open_within journal s (journal_current_mark journal) (λ version opened.
    (are.opened s (journal_known_boot journal s) version (sym (opened_is journal s) ∙ opened)).0))
    (are.told s (journal_known_boot journal s))

pub next_below : (setting : Setting) (journal : List Item) → StampsAreCurrent journal
    → journal_next_retired setting journal < journal_current_mark journal
unfolding journal_next_retired
next_below setting journal are =
    let within = least_within (map (acked_stamp journal) (members setting journal))
    (journal_current_mark journal) (each_map (λ x. x ≤ journal_current_mark journal) (acked_stamp journal)
    (members setting journal) (each_always (λ s. acked_stamp journal s ≤ journal_current_mark journal)
    (λ s. acked_current journal s are) (members setting journal))) in
    omega (arith, within, are.marks.first)

retired_on : (setting : Setting) (before : List Item) (next : Item)
    → HasControlItemCause setting before next → StampsAreCurrent before
    → journal_retired_mark (before ++ next ∷ []) < journal_current_mark (before ++ next ∷ [])
retired_on setting before (Item.Retired version) cause are = rw (retired_more, current_more)
    (omega (arith, next_below))
retired_on setting before (Item.Current version) cause are = rw (retired_more, current_more)
    (omega (arith, are.retired))
retired_on setting before next cause are =
    rw (retired_more before next, current_more before next) are.retired

-- ---- together

pub current_kept : (setting : Setting) → AreKept (HasControlItemCause setting) StampsAreCurrent
current_kept setting before next cause are = record {
  marks = there_kept setting before next cause are.marks;
  sent = λ n message is. current_on setting before next message.to message.body cause
      (new_or_old (HasControlItemCause setting) (IsOfCurrent before) before next cause
      (λ k sent. sent_current setting before sent.to sent.body are) are.sent n message is);
  opened = λ s boot version is. opened_on setting before next s boot version cause are is;
  stamps = λ s. stamps_on setting before next s cause are;
  told = λ s boot. told_on setting before next s boot cause are;
  retired = retired_on setting before next cause are;
}

pub first_opened : (s boot version : ℕ) → opened_in [] s boot ≡ Some version
    → (version ≡ 1) × (boot ≡ 1)
unfolding opened_in
first_opened s boot version opened = grind (arith, nat_tests)

none_told : (s boot : ℕ) → told_by (machine_stamped_version_in s boot) [] ≡ []
unfolding journal_controller_heard
none_told s boot = refl

pub current_at_first : StampsAreCurrent []
current_at_first = record {
  marks = there_at_first;
  sent = λ n message is.
      let none : None ≡ Some message = rw (start_laws.message n).message at is in absurd cc;
  opened = λ s boot version is. let first = first_opened s boot version is in
      (omega (arith, start_laws.current), omega (arith, start_laws.known s));
  stamps = λ s. omega (arith, start_laws.stamp s, start_laws.current);
  told = λ s boot. rw (none_told s boot) tt;
  retired = omega (arith, start_laws.retired, start_laws.current);
}

-- ---- what is true of all that is said to a switch is true of all that it heard

-- what it heard before goes on to hold, and what it hears now was sent to it
pub heard_on : (P Q : Body → Type 0) (before : List Item) (next : Item) (s : ℕ)
    → ((body : Body) → P body → Q body)
    → ((number : ℕ) (body : Body) → journal_message_of before number ≡ Some (machine_message_to_switch s body) → P body)
    → AllByRecursion P (heard before s) → AllByRecursion Q (heard (before ++ next ∷ []) s)
heard_on P Q before (Item.Down t) s on sent all =
    subst (AllByRecursion Q) (sym (heard_more before (Item.Down t) s)) (by_test (t == s))
  where
    by_test : (b : Bool) → AllByRecursion Q (if b then [] else heard before s)
    by_test true = tt
    by_test false = each_weaker P Q on (heard before s) all
heard_on P Q before (Item.Booted t boot) s on sent all =
    subst (AllByRecursion Q) (sym (heard_more before (Item.Booted t boot) s)) (by_test (t == s))
  where
    by_test : (b : Bool) → AllByRecursion Q (if b then [] else heard before s)
    by_test true = tt
    by_test false = each_weaker P Q on (heard before s) all
heard_on P Q before (Item.Delivered number) s on sent all =
    rw (heard_more before (Item.Delivered number) s) (by_said (journal_body_to_switch before s number) refl)
  where
    by_said : (said : Option Body) → journal_body_to_switch before s number ≡ said → AllByRecursion Q
        (option_map_or (λ body. heard before s ++ body ∷ []) said (heard before s))
    by_said None e = each_weaker P Q on (heard before s) all
    by_said (Some body) e =
        each_append Q (heard before s) (body ∷ []) (each_weaker P Q on (heard before s) all)
        (on body (sent number body (said_parts before s number body e).sent), tt)
heard_on P Q before next s on sent all = subst (AllByRecursion Q) (sym (heard_more before next s))
    (each_weaker P Q on (heard before s) all)

-- ---- each stamp that was sent says what the change of its version touches

record AreTouched (setting : Setting) (journal : List Item) : Type 0 where
  marks : IsThere journal
  versions : JournalVersionsAreNumbered journal
  stamps : ControlStampsSayTouched setting journal

touched_on : (setting : Setting) (before : List Item) (next : Item) (version : ℕ)
    (touched : List WordValue) → JournalVersionsAreNumbered before
    → AreControlTouchedWords setting before version touched
    → AreControlTouchedWords setting (before ++ next ∷ []) version touched
touched_on setting before next version touched are is = record {
  first = is.first;
  last = omega (arith, is.last, count_rises before next);
  says = is.says ∙ sym (touched_stays setting before (next ∷ []) version are is.last);
}

touched_kept : (setting : Setting) → AreKept (HasControlItemCause setting) (AreTouched setting)
touched_kept setting before next cause are = record {
  marks = there_kept setting before next cause are.marks;
  versions = numbered_kept setting before next cause are.versions;
  stamps = record {
    sent = λ n s boot version touched is. elim
        (by_number before next n (control_stamp_message_to s boot version touched) is) [
          | inl new ↦ let right = subst (HasControlItemCause setting before) new cause in
              touched_on setting before next version touched are.versions (record {
                first = omega (arith, right.current, are.marks.first);
                last = omega (arith, right.current, are.marks.there);
                says = right.says;
              })
          | inr old ↦ touched_on setting before next version touched are.versions
              (are.stamps.sent n s boot version touched old)
        ];
  };
}

touched_at_first : (setting : Setting) → AreTouched setting []
touched_at_first setting = record {
  marks = there_at_first;
  versions = numbered_at_first;
  stamps = record {
    sent = λ n s boot version touched is. absurd (cc (rw (start_laws.message n).message at is));
  };
}

pub stamps_touched : FromCauses ControlStampsSayTouched
stamps_touched setting journal have =
    (from_causes AreTouched touched_kept touched_at_first setting journal have).stamps
