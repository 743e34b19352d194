-- Where the controller knows of each switch that is up what it needs, every update has ended.
use Rattle.std.proofs.Common.{[], ◌&&◌, ◌-◌, ◌<◌, ◌||◌, ◌∙◌, ◌∷◌, ◌≡◌, ◌≤◌, All, Bool, IsFalse, IsTrue, List, ap, arith, false, fold, inl, inr, is_some, length, min, not, refl, sym, true, unwrap_or, ℕ, rules}
use Rattle.base.proofs.Exports.{All-from_recursion, AllByRecursion, each_map, list_all}
use Rattle.update_machine.specs.Exports.{AreMachineMarksSettled, JournalItemsHaveCauses, Item, Setting, acked_stamp, journal_boot_of, journal_current_mark, has_acked, is_joining, is_member, is_over, is_up, is_waited_for_in_journal, journal_known_boot, machine_least_number, members, journal_next_retired, journal_retired_mark, serves, journal_stamp_of, machine_switches_of, journal_version_count}
use Rattle.control_laws.specs.Exports.{HasControlItemCause, ControlMarksAreBounded, ControlMembersAcknowledged}
use Rattle.control_laws.proofs.Exports.{acknowledged, each_range, have_weaker, member_parts}
use Rattle.convergence_laws.specs.Exports.{IsNetworkUpdated}
use Rattle.convergence_laws.proofs.ConvergenceAnswers.{HaveSpoken}
use Rattle.convergence_laws.proofs.ConvergenceDownSwitches.{AreRecorded}
use Rattle.convergence_laws.proofs.ConvergenceTables.{AllInstalled}
use Rattle.convergence_laws.proofs.ConvergencePlainItems.{IsIn, all_in, each_of_in, in_range, of_filter, of_range}
use Rattle.convergence_laws.proofs.ConvergenceMessages.{IsInOrder}
use Rattle.convergence_laws.proofs.ConvergenceStamps.{HaveStamps}

-- ---- least numbers, and tests of all

fold_least : (c first : ℕ) (xs : List ℕ) → first ≡ c → AllByRecursion (λ x. x ≡ c) xs
    → fold min first xs ≡ c
fold_least c first [] is all = is
fold_least c first (x ∷ xs) is all = fold_least c (min first x) xs (omega (arith, is, all.0)) all.1

least_same : (c : ℕ) (xs : List ℕ) → AllByRecursion (λ x. x ≡ c) xs
    → unwrap_or (machine_least_number xs) c ≡ c
least_same c xs all = search (rules, fold_least)

all_true : (test : ℕ → Bool) (xs : List ℕ) → ((x : ℕ) → IsIn x xs → IsTrue (test x))
    → IsTrue (list_all test xs)
all_true test [] all = refl
all_true test (x ∷ xs) all = rw (all x (inl refl)) (all_true test xs (λ y is. all y (inr is)))

-- ---- what is known at the end of a step

pub record AreReady (setting : Setting) (journal : List Item) : Type 0 where
  pub causes : JournalItemsHaveCauses (IsInOrder setting) [] journal
  pub recorded : AreRecorded journal
  pub bounds : ControlMarksAreBounded setting journal
  pub settled : AreMachineMarksSettled setting journal
  pub spoken : HaveSpoken journal
  pub installs : AllInstalled setting journal
  pub stamps : HaveStamps setting journal

pub items_caused : (setting : Setting) (journal : List Item)
    → JournalItemsHaveCauses (IsInOrder setting) [] journal → JournalItemsHaveCauses (HasControlItemCause setting) [] journal
items_caused setting journal have = search (rules, have_weaker)

-- ---- what the controller is to know

-- it waits for no switch that is down; of each that is up it knows the boot, and each one
-- acknowledged every version from the current one to the last. Members serve, and are known to
-- stamp with the current version
pub record IsCaughtUp (setting : Setting) (journal : List Item) : Type 0 where
  pub switches : All (λ s. IsTrue (is_up journal s || not (is_waited_for_in_journal journal s)))
      (machine_switches_of setting)
  pub known : (s : ℕ) → s < length setting.net.switches → IsTrue (is_up journal s)
      → journal_known_boot journal s ≡ journal_boot_of journal s
  pub acked : (s version : ℕ) → s < length setting.net.switches → IsTrue (is_up journal s)
      → journal_current_mark journal ≤ version → version ≤ journal_version_count journal
      → IsTrue (has_acked journal s version)
  pub serving : (s : ℕ) → s < length setting.net.switches → IsTrue (is_up journal s)
      → IsTrue (is_member journal s) → IsTrue (serves journal s)
  pub stamps : (s : ℕ) → s < length setting.net.switches → IsTrue (is_up journal s)
      → IsTrue (is_member journal s) → journal_current_mark journal ≤ acked_stamp journal s

-- ---- members

-- a member is up: a switch that is down, and for which nobody waits, is none
member_up : (setting : Setting) (journal : List Item) → AreReady setting journal
    → IsCaughtUp setting journal → (s : ℕ) → s < length setting.net.switches
    → IsTrue (is_member journal s) → IsTrue (is_up journal s)
member_up setting journal are caught s there member = by_up (is_up journal s) refl
    (all_in (λ t. IsTrue (is_up journal t || not (is_waited_for_in_journal journal t))) s (machine_switches_of setting)
    caught.switches (in_range s 0 (length setting.net.switches) (omega arith) (omega arith)))
  where
    not_true : (b : Bool) → IsTrue (not b) → IsFalse b
    not_true true is = absurd cc
    not_true false is = refl

    by_up : (b : Bool) → is_up journal s ≡ b → IsTrue (b || not (is_waited_for_in_journal journal s))
        → IsTrue (is_up journal s)
    by_up true e waits = e
    by_up false e waits =
        let parts = member_parts journal s member in
        let closed = are.recorded.closed s (record {
          down = e;
          confirmed = not_true (is_waited_for_in_journal journal s) waits;
          not_over = parts.0;
        }) in
        absurd (cc (sym (ap (λ o. is_some o) closed) ∙ parts.1))

-- so the current version is the last one
current_is : (setting : Setting) (journal : List Item) → AreReady setting journal
    → IsCaughtUp setting journal → journal_current_mark journal ≡ journal_version_count journal
current_is setting journal are caught = search (rules, all_true, of_filter, of_range, member_up)

-- and each switch that is up is a member
up_member : (setting : Setting) (journal : List Item) → AreReady setting journal
    → IsCaughtUp setting journal → (s : ℕ) → s < length setting.net.switches
    → IsTrue (is_up journal s) → IsTrue (is_member journal s)
up_member setting journal are caught s there up = by_member (is_member journal s) refl where
  joins : (over member : Bool) → over ≡ false → member ≡ false → IsTrue (not over && not member)
  joins over member none closed = rw (none, closed) refl

  by_member : (b : Bool) → is_member journal s ≡ b → IsTrue (is_member journal s)
  by_member true e = e
  by_member false e =
      let not_over : is_over journal s ≡ false =
      (are.recorded.known.serving s).not_over up (caught.known s there up) in
      let none = all_in (λ t. IsTrue (is_joining journal t)
      → IsFalse (has_acked journal t (journal_current_mark journal))) s (machine_switches_of setting)
      are.settled.joining (in_range s 0 (length setting.net.switches) (omega arith) (omega arith))
      (joins (is_over journal s) (is_member journal s) not_over e) in
      absurd (cc (sym none ∙ (caught.acked s (journal_current_mark journal) there up (omega arith)
      (omega (arith, are.bounds.there)))))

-- ---- retired

retired_is : (setting : Setting) (journal : List Item) → AreReady setting journal
    → IsCaughtUp setting journal → journal_retired_mark journal ≡ journal_current_mark journal - 1
unfolding journal_next_retired
retired_is setting journal are caught = are.settled.retired ∙ ap (λ n. n - 1)
    (least_same (journal_current_mark journal) _ (each_map (λ x. x ≡ journal_current_mark journal)
    (acked_stamp journal) (members setting journal) (each_of_in _ (members setting journal)
    (λ s is. of_member s (of_filter (is_member journal) s (machine_switches_of setting) is)))))
  where
    of_member : (s : ℕ) → IsIn s (machine_switches_of setting) × IsTrue (is_member journal s)
        → acked_stamp journal s ≡ journal_current_mark journal
    of_member s parts =
        let there : s < length setting.net.switches = omega (arith, (of_range s 0 _ parts.0).1) in
        let known = caught.stamps s there (member_up _ _ are caught s there parts.1) parts.1 in
        omega (arith, known, are.bounds.known s)

-- ---- together

pub caught_updated : (setting : Setting) (journal : List Item) → AreReady setting journal
    → IsCaughtUp setting journal → IsNetworkUpdated setting journal
caught_updated setting journal are caught = record {
  serving = All-from_recursion (λ s. IsTrue (is_up journal s) → IsTrue (serves journal s))
      (machine_switches_of setting) (each_range (λ s. IsTrue (is_up journal s) → IsTrue (serves journal s))
      0 (length setting.net.switches) (λ s above below. up_serves s (omega (arith, below))));
  stamps = All-from_recursion (λ s. IsTrue (is_up journal s)
      → journal_stamp_of journal s ≡ journal_version_count journal) (machine_switches_of setting)
      (each_range _ 0 (length setting.net.switches)
      (λ s above below up. let there : s < length setting.net.switches = omega (arith, below) in
      let known = caught.stamps s there up (up_member setting journal are caught s there up) in
      omega (arith, known, members.stamps s (up_serves s there up), are.bounds.stamps s, current)));
  current = current;
  retired = retired_is setting journal are caught ∙ ap (λ n. n - 1) current;
} where
  current : journal_current_mark journal ≡ journal_version_count journal
  current = current_is setting journal are caught

  members : ControlMembersAcknowledged setting journal
  members = acknowledged setting journal (items_caused setting journal are.causes)

  up_serves : (s : ℕ) → s < length setting.net.switches → IsTrue (is_up journal s)
      → IsTrue (serves journal s)
  up_serves s there up = caught.serving s there up (up_member setting journal are caught s there up)
