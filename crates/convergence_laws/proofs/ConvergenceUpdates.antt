-- In a quiet journal every update has ended.
use Rattle.std.proofs.Common.{[], if◌then◌else◌, ◌++◌, ◌+◌, ◌-◌, ◌<◌, ◌==◌, ◌||◌, ◌∙◌, ◌∷◌, ◌≡◌, ◌≤◌, ◌⊎◌, Bool, IsFalse, IsTrue, List, None, Option, Some, ap, arith, eq-eqb, false, fold, inl, inr, is_some, length, max, nat_eq, nat_lt, refl, sym, true, unwrap_or, ℕ, rules}
use Rattle.base.proofs.Exports.{list_any, nat_tests}
use Rattle.update_machine.specs.Exports.{Body, JournalItemsHaveCauses, Hello, Install, Installed, IsQuietMachineJournal, Item, OpenAt, Setting, Stamp, Stamped, MachineStepOfRow, Tables, acked_stamp, journal_after_steps, journal_boot_of, journal_controller_heard, journal_current_mark, has_acked, heard, machine_installed_version, is_machine_later_body, is_member, is_up, journal_known_boot, journal_opened_at, piece, serves, journal_version_count}
use Rattle.ctrl_msg.specs.Exports.{message_to_controller}
use Rattle.update_machine.proofs.Exports.{have_append}
use Rattle.control_laws.specs.Exports.{ControlLawHoldsAtEnds}
use Rattle.control_laws.proofs.Exports.{acked_stamp_opened, at_ends, bounded, fold_up, known_first, member_parts, opened_in, opened_is, settled_at_ends}
use Rattle.convergence_laws.specs.Exports.{IsNetworkUpdated}
use Rattle.convergence_laws.proofs.ConvergenceCaughtUp.{AreReady, IsCaughtUp, caught_updated, items_caused}
use Rattle.convergence_laws.proofs.ConvergenceAnswers.{HaveSpoken, piece_spoken, spoken_at_first}
use Rattle.convergence_laws.proofs.ConvergenceDownSwitches.{caused_recorded}
use Rattle.convergence_laws.proofs.ConvergenceTables.{AllInstalled, installs_at_first, piece_installs}
use Rattle.convergence_laws.proofs.ConvergencePlainItems.{IsIn, in_filter_map, in_right}
use Rattle.convergence_laws.proofs.ConvergedReceipts.{WasHeard, heard_of, told_of}
use Rattle.convergence_laws.proofs.ConvergenceMessages.{IsInOrder, IsSent, pieces_in_order}
use Rattle.convergence_laws.proofs.ConvergenceStamps.{HaveStamps, IsStampSent, piece_stamps, stamps_at_first}
use Rattle.ternary.specs.Exports.{WordValue}

-- ---- greatest and least numbers

in_fold : (first v : ℕ) (xs : List ℕ) → IsIn v xs → v ≤ fold max first xs
in_fold first v [] is = absurd is
in_fold first v (x ∷ xs) is = elim is [
  | inl here ↦ omega (arith, here, fold_up (max first x) xs)
  | inr later ↦ in_fold (max first x) v xs later
]

any_in : (v : ℕ) (xs : List ℕ) → IsIn v xs → IsTrue (list_any (nat_eq v) xs)
any_in v [] is = absurd is
any_in v (x ∷ xs) is = elim is [
  | inl here ↦ let same : nat_eq v x ≡ true = eq-eqb v x (sym here) in rw same refl
  | inr later ↦ by_test (nat_eq v x) (any_in v xs later)
] where
  by_test : (b : Bool) → IsTrue (list_any (nat_eq v) xs) → IsTrue (b || list_any (nat_eq v) xs)
  by_test true any = refl
  by_test false any = any

-- ---- what is known at the end of a step

-- the causes, and what steps keep
record Standing (setting : Setting) (journal : List Item) : Type 0 where
  causes : JournalItemsHaveCauses (IsInOrder setting) [] journal
  spoken : HaveSpoken journal
  installs : AllInstalled setting journal
  stamps : HaveStamps setting journal

steps_stand : (setting : Setting) (before : List Item) (steps : List MachineStepOfRow)
    → Standing setting before → Standing setting (journal_after_steps setting before steps)
steps_stand setting before [] stand = stand
steps_stand setting before (next ∷ steps) stand =
    steps_stand setting (before ++ piece setting before next.row next.step) steps (record {
      causes = have_append (IsInOrder setting) [] before (piece setting before next.row next.step)
          stand.causes (pieces_in_order setting before next.row next.step);
      spoken = piece_spoken setting before next.row next.step stand.spoken;
      installs = piece_installs setting before next.row next.step stand.installs;
      stamps = piece_stamps setting before next.row next.step
          (caused_recorded setting before (items_caused setting before stand.causes)).current
          stand.stamps;
    })

pub steps_ready : (setting : Setting) (steps : List MachineStepOfRow)
    → AreReady setting (journal_after_steps setting [] steps)
steps_ready setting steps =
    let journal : List Item = journal_after_steps setting [] steps in
    let stand : Standing setting journal = steps_stand setting [] steps (record {
      causes = tt;
      spoken = spoken_at_first;
      installs = installs_at_first setting;
      stamps = stamps_at_first setting;
    }) in
    let caused = items_caused setting journal stand.causes in record {
      causes = stand.causes;
      recorded = caused_recorded setting journal caused;
      bounds = bounded setting journal caused;
      settled = settled_at_ends.stepped setting steps;
      spoken = stand.spoken;
      installs = stand.installs;
      stamps = stand.stamps;
    }

-- ---- what is known of boots

-- bodies that no other body replaces
abbrev is_alone : Body → Bool
is_alone (Install boot tables) = true
is_alone (OpenAt boot version) = true
is_alone (Hello s boot) = true
is_alone (Installed s boot version) = true
is_alone _ = false

says_same : (body of : Body) → IsTrue (is_alone of)
    → (body ≡ of) ⊎ IsTrue (is_machine_later_body body of) → body ≡ of
says_same body of alone h3 = search rules

was_itself : (bodies : List Body) (of : Body) → IsTrue (is_alone of) → WasHeard bodies of
    → IsIn of bodies
was_itself bodies of alone was = rw (says_same was.body of alone was.says) at was.is

pub hello_known : (journal : List Item) (s boot : ℕ) → IsIn (Hello s boot) (journal_controller_heard journal)
    → boot ≤ journal_known_boot journal s
unfolding journal_known_boot
hello_known journal s boot is = search (rules, eq-eqb, in_fold, in_filter_map)

-- the controller knows the boot of each switch that is up
known_own : (setting : Setting) (journal : List Item) → AreReady setting journal
    → IsQuietMachineJournal setting journal → (s : ℕ) → s < length setting.net.switches
    → IsTrue (is_up journal s) → journal_known_boot journal s ≡ journal_boot_of journal s
known_own setting journal are quiet s there up = let below = are.recorded.known.boots.known s in
    elim (are.spoken.hellos.each s up) [
      | inl none ↦ absurd none
      | inr said ↦ elim said [
        | inl first ↦ omega (arith, below, first, known_first journal s)
        | inr sent ↦ let told : journal_boot_of journal s ≤ journal_known_boot journal s = hello_known journal s
            (journal_boot_of journal s) (was_itself (journal_controller_heard journal) _ refl (told_of setting
            journal s (Hello s (journal_boot_of journal s)) quiet are.causes there sent up refl refl)) in
            omega (arith, below, told)
      ]
    ]

-- ---- what is acknowledged

pub installed_acked : (journal : List Item) (s version : ℕ)
    → IsIn (Installed s (journal_known_boot journal s) version) (journal_controller_heard journal)
    → IsTrue (has_acked journal s version)
unfolding has_acked
installed_acked journal s version is = any_in version _
    (in_right version (if journal_known_boot journal s == 1 then 1 ∷ [] else []) _
    (in_filter_map (machine_installed_version s (journal_known_boot journal s))
    (Installed s (journal_known_boot journal s) version) version (journal_controller_heard journal) is
    (rw ((eq-eqb s s refl), eq-eqb (journal_known_boot journal s) (journal_known_boot journal s) refl) refl)))

pub first_acked : (journal : List Item) (s : ℕ) → journal_known_boot journal s ≡ 1
    → IsTrue (has_acked journal s 1)
unfolding has_acked
first_acked journal s first = rw (eq-eqb (journal_known_boot journal s) 1 first) refl

not_below : (v w : ℕ) → w ≤ v → IsFalse (nat_lt v w)
not_below v w above = grind (arith, nat_tests)

-- a switch that is up acknowledged each version from the current one to the last
all_installed : (setting : Setting) (journal : List Item) → AreReady setting journal
    → IsQuietMachineJournal setting journal → (s version : ℕ) → s < length setting.net.switches
    → IsTrue (is_up journal s) → journal_current_mark journal ≤ version → version ≤ journal_version_count journal
    → IsTrue (has_acked journal s version)
all_installed setting journal are quiet s version there up above below = elim (are.installs.each s
    version there ((are.recorded.known.serving s).not_over up own) above below) [
      | inl none ↦ absurd none
      | inr had ↦ elim had [
        | inl first ↦ rw first.0 (first_acked journal s first.1)
        | inr sent ↦ let tables : Tables = sent.tables in
            let body : Body = Install (journal_known_boot journal s) tables in
            elim (are.spoken.answers.each s body (was_itself (heard journal s) body refl
            (heard_of setting journal s body quiet are.causes there sent.sent up (ap Some own)
            (not_below tables.version (journal_current_mark journal) (omega (arith, sent.of, above)))))) [
              | inl none ↦ absurd none
              | inr answer ↦ rw sent.of at (installed_acked journal s tables.version
                  (was_itself (journal_controller_heard journal) _ refl (told_of setting journal s
                  (Installed s (journal_known_boot journal s) tables.version) quiet are.causes there answer
                  up (ap (λ b. Some (s, b)) own) (not_below tables.version (journal_current_mark journal)
                  (omega (arith, sent.of, above))))))
            ]
      ]
    ]
  where
    own : journal_known_boot journal s ≡ journal_boot_of journal s
    own = known_own setting journal are quiet s there up

-- in the first boot a switch is opened at the first version
opened_first : (journal : List Item) (s : ℕ) → journal_known_boot journal s ≡ 1
    → journal_opened_at journal s ≡ Some 1
unfolding journal_opened_at
opened_first journal s first = rw (eq-eqb (journal_known_boot journal s) 1 first) refl

-- ---- opened switches

-- it heard the version at which it was opened, except in its first boot
opening_heard : (setting : Setting) (journal : List Item) → AreReady setting journal
    → IsQuietMachineJournal setting journal → (s version : ℕ) → s < length setting.net.switches
    → IsTrue (is_up journal s) → journal_opened_at journal s ≡ Some version
    → (journal_boot_of journal s ≡ 1) ⊎ IsIn (OpenAt (journal_boot_of journal s) version) (heard journal s)
opening_heard setting journal are quiet s version there up opened =
    elim (are.recorded.openings s (journal_boot_of journal s) version (ap (opened_in journal s)
    (sym (known_own setting journal are quiet s there up)) ∙ sym (opened_is journal s) ∙ opened)) [
      | inl first ↦ inl first
      | inr sent ↦ inr (was_itself (heard journal s) _ refl (heard_of setting journal s
          (OpenAt (journal_boot_of journal s) version) quiet are.causes there sent up refl refl))
    ]

pub some_opening : (journal : List Item) (s : ℕ) → IsTrue (is_member journal s)
    → (version : ℕ) × (journal_opened_at journal s ≡ Some version)
some_opening journal s member = by_opened _ refl (member_parts journal s member).1 where
  by_opened : (o : Option ℕ) → journal_opened_at journal s ≡ o → IsTrue (is_some o)
      → (version : ℕ) × (journal_opened_at journal s ≡ Some version)
  by_opened None e is = absurd cc
  by_opened (Some version) e is = (version, e)

member_serves : (setting : Setting) (journal : List Item) → AreReady setting journal
    → IsQuietMachineJournal setting journal → (s : ℕ) → s < length setting.net.switches
    → IsTrue (is_up journal s) → IsTrue (is_member journal s) → IsTrue (serves journal s)
member_serves setting journal are quiet s there up member =
    let opening = some_opening journal s member in
    elim (opening_heard setting journal are quiet s opening.0 there up opening.1) [
      | inl first ↦ are.recorded.first s up first
      | inr told ↦ elim (are.spoken.answers.each s (OpenAt (journal_boot_of journal s) opening.0) told) [
        | inl none ↦ absurd none
        | inr serving ↦ serving
      ]
    ]

-- ---- stamps

-- a stamp, or one of a greater version
later_stamp : (body : Body) (boot version : ℕ) (touched : List WordValue)
    → (body ≡ Stamp boot version touched) ⊎ IsTrue (is_machine_later_body body (Stamp boot version touched))
    → (later : ℕ) × (words : List WordValue) × (body ≡ Stamp boot later words) × (version ≤ later)
later_stamp body boot version touched h4 = search (rules, nat_tests)

later_stamped : (body : Body) (s boot version : ℕ)
    → (body ≡ Stamped s boot version) ⊎ IsTrue (is_machine_later_body body (Stamped s boot version))
    → (later : ℕ) × (body ≡ Stamped s boot later) × (version ≤ later)
later_stamped body s boot version h4 = search (rules, nat_tests)

pub stamped_acked : (journal : List Item) (s version : ℕ)
    → IsIn (Stamped s (journal_known_boot journal s) version) (journal_controller_heard journal)
    → version ≤ acked_stamp journal s
unfolding acked_stamp
stamped_acked journal s version is = search (rules, in_fold, in_filter_map, eq-eqb)

told_stamps : (setting : Setting) (journal : List Item) → AreReady setting journal
    → IsQuietMachineJournal setting journal → (s : ℕ) → s < length setting.net.switches → IsTrue (is_up journal s)
    → IsStampSent journal s (journal_known_boot journal s) (journal_current_mark journal)
    → journal_current_mark journal ≤ acked_stamp journal s
told_stamps setting journal are quiet s there up stamp = omega (
  arith,
  later.3,
  more.2,
  stamped_acked journal s more.0 (rw more.1 at told.is),
) where
  known : ℕ
  known = journal_known_boot journal s

  own : known ≡ journal_boot_of journal s
  own = known_own setting journal are quiet s there up

  was : WasHeard (heard journal s) (Stamp known (journal_current_mark journal) stamp.touched)
  was = heard_of setting journal s _ quiet are.causes there stamp.sent up (ap Some own) refl

  later : (v : ℕ) × (words : List WordValue) × (was.body ≡ Stamp known v words)
      × (journal_current_mark journal ≤ v)
  later = later_stamp was.body known (journal_current_mark journal) stamp.touched was.says

  answer : IsSent journal (message_to_controller (Stamped s known later.0))
  answer = elim (are.spoken.answers.each s (Stamp known later.0 later.1) (rw later.2 at was.is)) [
    | inl none ↦ absurd none
    | inr sent ↦ sent
  ]

  told : WasHeard (journal_controller_heard journal) (Stamped s known later.0)
  told = told_of _ journal s _ quiet are.causes there answer up (ap (λ b. Some (s, b)) own) refl

  more : (v : ℕ) × (told.body ≡ Stamped s known v) × (later.0 ≤ v)
  more = later_stamped told.body s known later.0 told.says

-- one that was opened at the current version is known to stamp with it
pub opened_stamps : (journal : List Item) (s : ℕ) → journal_opened_at journal s ≡ Some (journal_current_mark journal)
    → journal_current_mark journal ≤ acked_stamp journal s
opened_stamps journal s opened = omega (arith, acked_stamp_opened, ap (λ o. unwrap_or o 0) opened)

-- ---- together

quiet_caught : (setting : Setting) (journal : List Item) → AreReady setting journal
    → IsQuietMachineJournal setting journal → IsCaughtUp setting journal
quiet_caught setting journal are quiet =
    search (rules, known_own, all_installed, member_serves, opened_stamps, told_stamps)

pub updated_at_ends :
    ControlLawHoldsAtEnds (λ setting journal. IsQuietMachineJournal setting journal → IsNetworkUpdated setting journal)
updated_at_ends = at_ends (λ setting journal. IsQuietMachineJournal setting journal → IsNetworkUpdated setting journal)
    (λ setting steps quiet. let ready = steps_ready setting steps in
    caught_updated setting (journal_after_steps setting [] steps) ready
    (quiet_caught setting (journal_after_steps setting [] steps) ready quiet))
