-- Versions are few, each has its plan, and the tables of each are those of its plan.
use Rattle.std.proofs.Common.{[], ◌&&◌, ◌++◌, ◌+◌, ◌-◌, ◌<◌, ◌==◌, ◌^◌, ◌||◌, ◌∷◌, ◌≡◌, ◌≤◌, Bool, IsTrue, List, None, Option, Some, append_assoc, arith, eqb-true, false, if◌then◌else◌, inl, inr, not, refl, subst, true, unwrap_or, ℕ, rules}
use Rattle.net_file.specs.Exports.{IsNet}
use Rattle.update_machine.specs.Exports.{Body, MachineVersionHasPlan, MachineJournalHasRoom, JournalItemsHaveCauses, MachineJournalsHaveRoom, Install, Item, Setting, Step, MachineStepOfRow, Tables, JournalVersionsAreNumbered, journal_adverts_known, journal_after_steps, journal_body_to_switch, journal_boot_of, message_collects_version, journal_crash_items, heard, journal_held_adverts, holds_version, machine_body_installs_version, is_first_boot_in_journal, is_link_up_in_journal, is_up, journal_known_boot, journal_link_changes, machine_link_items, journal_message_of, most_live_journal_versions, most_journal_versions, near, journal_next_message, own_advert, journal_own_seq, piece, machine_restart_items, journal_retired_mark, machine_sent_items_from, serves, journal_steps_in, machine_message_to_switch, journal_version_count}
use Rattle.update_machine.proofs.Exports.{first_has_plan, has_plan_stays, have_append, next_has_plan, open_net, plan_stays, start_laws}
use Rattle.control_laws.specs.Exports.{AreControlInstallTablesPlanned, AreControlTablesOf, ControlBootsArePast, ControlMessageBringsPlannedTables, HasControlItemCause, ControlNumbersAreFew, ControlNumbersFit, ControlStepsSendAtMost, ControlStepsSendFew, ControlTablesArePlanned, ControlVersionsArePlanned, control_messages_sent_count}
use Rattle.control_laws.proofs.ControlFactsGrown.{AreKept, FromCauses, boot_more, count_more, from_causes, heard_more, known_rises, retired_more}
use Rattle.control_laws.proofs.ControlPieceCauses.{pieces_have, said_parts}
use Rattle.control_laws.proofs.ControlMessageCounts.{sent}
use Rattle.control_laws.proofs.ControlAdvertNumbers.{FewNumbers, at_most_one, numbers_at_first, numbers_behind, sent_both}
use Rattle.control_laws.proofs.ControlPieceKinds.{piece_few}
use Rattle.control_laws.proofs.ControlLinkSends.{once}
use Rattle.failover.specs.Exports.{first_adverts, is_advert_news}
use Rattle.base.specs.Exports.{has, small_number_mask, number_set_where, switches}
use Rattle.control_laws.proofs.ControlNetLinks.{is_net, restart, restarted, solo}
use Rattle.base.proofs.Exports.{All-from_recursion, AllByRecursion, cases_lt, list_any, list_any-append, option_map_or}
use Rattle.control_laws.proofs.ControlCurrentVersions.{IsPlannedSoFar, count_rises, heard_on, planned_at_first, planned_kept}

-- ---- where steps begin with room, all numbers fit

-- ---- versions

versions_on : (setting : Setting)
    → AreKept (HasControlItemCause setting) (λ journal. journal_version_count journal ≤ 64)
versions_on setting before next cause few = search (rules, count_more)

pub versions_few : FromCauses (λ setting journal. journal_version_count journal ≤ 64)
versions_few = from_causes _ versions_on (λ setting. omega (arith, start_laws.count))

-- ---- numbers

extra : (none : Bool) → (if none then 2 else 1) ≡ 1 + once none
extra none = search rules

pub numbers_few : (setting : Setting) (steps : List MachineStepOfRow) → IsNet setting.net
    → ControlNumbersAreFew setting (journal_after_steps setting [] steps)
numbers_few setting steps net =
    let few = numbers_behind setting net [] steps tt (numbers_at_first setting) in record {
      boots = few.boots;
      seqs = λ s there. omega (arith, few.seqs, extra);
    }

-- ---- room

room_is : (journal : List Item) → MachineJournalHasRoom journal → sent journal < 990_000
unfolding journal_next_message
room_is journal room = omega (arith, room)

next_is : (journal : List Item) → journal_next_message journal ≡ sent journal + 1
unfolding journal_next_message
next_is journal = refl

sent_few : (setting : Setting) → IsNet setting.net → (before : List Item)
    (steps : List MachineStepOfRow) → JournalItemsHaveCauses (HasControlItemCause setting) [] before
    → sent before ≤ 1_000_000 → MachineJournalsHaveRoom setting before steps
    → sent (journal_after_steps setting before steps) ≤ 1_000_000
sent_few setting net before [] have few room = few
sent_few setting net before (next ∷ steps) have few room =
    let items : List Item = piece setting before next.row next.step in
    sent_few setting net (before ++ items) steps
    (have_append _ [] before items have (pieces_have setting before next.row next.step))
    (omega (
      arith,
      sent_both before items,
      room_is before room.0,
      piece_few setting net before (versions_few setting before have) next.row next.step,
    )) room.1

fit_while : (setting : Setting) (steps : List MachineStepOfRow) → IsNet setting.net
    → sent (journal_after_steps setting [] steps) ≤ 1_000_000
    → ControlNumbersFit setting (journal_after_steps setting [] steps)
fit_while setting steps net small =
    let journal : List Item = journal_after_steps setting [] steps in
    let few : ControlNumbersAreFew setting journal = numbers_few setting steps net in record {
      sent = small;
      message = omega (arith, small, next_is journal);
      boots = λ s. omega (arith, small, few.boots s);
      seqs = λ s there. omega (arith, few.seqs, extra, at_most_one);
    }

-- as a step begins
pub fit_in_room : (setting : Setting) (steps : List MachineStepOfRow) → IsNet setting.net
    → MachineJournalHasRoom (journal_after_steps setting [] steps) → ControlNumbersFit setting (journal_after_steps setting [] steps)
fit_in_room setting steps net room = fit_while setting steps net (omega (arith, room_is))

-- as a step that began with room has ended
pub fit_behind_room : (setting : Setting) (steps : List MachineStepOfRow) → IsNet setting.net
    → MachineJournalsHaveRoom setting [] steps → ControlNumbersFit setting (journal_after_steps setting [] steps)
fit_behind_room setting steps net room =
    fit_while setting steps net (sent_few setting net [] steps tt (omega arith) room)

-- ---- messages and numbers of small journals, computed

-- ---- a link comes back: each end tells the other both adverts

abbrev failed : List Item
failed = Item.Row 1 (Step.LinkDown 0 1) ∷ Item.LinkIs 0 1 false ∷ []

four_sent : control_messages_sent_count (piece open_net failed 2 (Step.LinkUp 0 1)) ≡ 4
unfolding piece machine_link_items journal_link_changes journal_held_adverts journal_adverts_known own_advert journal_own_seq near
    is_link_up_in_journal serves is_up journal_boot_of heard journal_steps_in journal_next_message machine_sent_items_from first_adverts is_advert_news has
    number_set_where switches small_number_mask
four_sent = refl

-- so that step sends more than three
not_three : ControlStepsSendAtMost 3 open_net failed → ⊥
not_three few = absurd (omega (arith, few 2 (Step.LinkUp 0 1), four_sent))

-- ---- the link failed without a message, so there may be one number more

failed_numbers : journal_own_seq open_net failed 0 ≡ 2
unfolding journal_own_seq near is_link_up_in_journal serves is_up journal_boot_of journal_steps_in small_number_mask number_set_where switches
failed_numbers = refl

-- ---- no boot begins without a message

third_boot : ControlNumbersAreFew open_net (Item.Booted 0 3 ∷ []) → ⊥
unfolding journal_boot_of
third_boot few = let limit : 3 ≤ 1 = few.boots 0 in omega arith

last_boot : ControlNumbersFit open_net (Item.Booted 0 (2 ^ 32 - 1) ∷ []) → ⊥
unfolding journal_boot_of
last_boot fit = let limit : 2 ^ 32 - 1 < 2 ^ 32 - 1 = fit.boots 0 in omega arith

-- ---- on a network of one switch, which crashed and restarted, all is small

steps_send_few : ControlStepsSendFew solo restarted
unfolding journal_version_count
steps_send_few row step = piece_few solo is_net restarted (omega arith) row step

few_behind_them : ControlNumbersAreFew solo restarted
unfolding piece journal_crash_items machine_restart_items journal_link_changes near is_link_up_in_journal serves is_up journal_boot_of
    journal_next_message machine_sent_items_from small_number_mask number_set_where switches
few_behind_them = numbers_few solo restart is_net

fit_behind_them : ControlNumbersFit solo restarted
unfolding piece journal_crash_items machine_restart_items journal_link_changes near is_link_up_in_journal serves is_up journal_boot_of
    journal_next_message machine_sent_items_from small_number_mask number_set_where switches
fit_behind_them = fit_behind_room solo restart is_net (omega arith, (omega arith, tt))

-- ---- the boot in which a switch heard tables is known

abbrev pub HeardAreKnown : List Item → Type 0
HeardAreKnown journal = (s version : ℕ) → IsTrue
    (list_any (machine_body_installs_version version) (heard journal s))
    → journal_boot_of journal s ≤ journal_known_boot journal s

-- a body that is heard
heard_now : (before : List Item) (s number v : ℕ) (body : Body) → ControlBootsArePast before
    → journal_body_to_switch before s number ≡ Some body → IsTrue (machine_body_installs_version v body)
    → journal_boot_of before s ≤ journal_known_boot before s
heard_now before s number v (Install boot tables) boots said is =
    let parts = said_parts before s number (Install boot tables) said in
    let past = boots.sent number (machine_message_to_switch s (Install boot tables)) parts.sent in
    omega (arith, eqb-true boot (journal_boot_of before s) parts.own, past)
heard_now before s number v body boots said is = absurd cc

pub heard_known : (before : List Item) (next : Item) → ControlBootsArePast before
    → HeardAreKnown before → HeardAreKnown (before ++ next ∷ [])
heard_known before (Item.Down t) boots known s v is = rw (boot_more before (Item.Down t) s)
    (by_test (t == s) (rw (heard_more before (Item.Down t) s) at is))
  where
    by_test : (b : Bool) → IsTrue (list_any (machine_body_installs_version v) (if b then [] else heard before s))
        → journal_boot_of before s ≤ journal_known_boot (before ++ Item.Down t ∷ []) s
    by_test true none = absurd cc
    by_test false is = omega (arith, known s v is, known_rises before (Item.Down t) s)
heard_known before (Item.Booted t boot) boots known s v is = rw (boot_more before _ s)
    (by_test (t == s) (rw (heard_more before (Item.Booted t boot) s) at is))
  where
    by_test : (b : Bool) → IsTrue (list_any (machine_body_installs_version v) (if b then [] else heard before s))
        → unwrap_or (if b then Some boot else None) (journal_boot_of before s)
        ≤ journal_known_boot (before ++ Item.Booted t boot ∷ []) s
    by_test true none = absurd cc
    by_test false is = omega (arith, known s v is, known_rises before (Item.Booted t boot) s)
heard_known before (Item.Delivered number) boots known s v is = rw (boot_more before _ s)
    (by_said _ refl (rw (heard_more before (Item.Delivered number) s) at is))
  where
    rises : journal_known_boot before s ≤ journal_known_boot (before ++ Item.Delivered number ∷ []) s
    rises = known_rises before (Item.Delivered number) s

    by_parts : (b c : Bool) → IsTrue (b || (c || false))
        → (IsTrue b → journal_boot_of before s ≤ journal_known_boot before s)
        → (IsTrue c → journal_boot_of before s ≤ journal_known_boot before s)
        → journal_boot_of before s ≤ journal_known_boot before s
    by_parts true c is one other = one refl
    by_parts false true is one other = other refl
    by_parts false false is one other = absurd cc

    by_said : (said : Option Body) → journal_body_to_switch before s number ≡ said
        → IsTrue (list_any (machine_body_installs_version v)
        (option_map_or (λ body. heard before s ++ body ∷ []) said (heard before s)))
        → journal_boot_of before s ≤ journal_known_boot (before ++ Item.Delivered number ∷ []) s
    by_said None e is = omega (arith, known s v is, rises)
    by_said (Some body) e is =
        let here : journal_boot_of before s ≤ journal_known_boot before s = by_parts _ (machine_body_installs_version v body)
        (rw (list_any-append (machine_body_installs_version v) (heard before s) (body ∷ [])) at is) (known s v)
        (heard_now before s number v body boots e) in
        omega (arith, here, rises)
heard_known before next boots known s v is = rw (boot_more before next s)
    (omega (arith, known s v (rw (heard_more before next s) at is), known_rises before next s))

-- ---- planned tables

-- ---- how many versions there are

pub record AreFew (journal : List Item) : Type 0 where
  pub few : journal_version_count journal ≤ most_journal_versions
  pub live : journal_version_count journal - journal_retired_mark journal ≤ most_live_journal_versions

few_kept : (setting : Setting) → AreKept (HasControlItemCause setting) AreFew
few_kept setting before next cause are = search (rules, count_more, retired_more)

few_at_first : AreFew []
few_at_first = search (rules, start_laws)

-- ---- their plans

-- each version that was submitted has a plan
abbrev pub HavePlans : Setting → List Item → Type 0
HavePlans setting journal = (version : ℕ) → 1 < version → version ≤ journal_version_count journal
    → MachineVersionHasPlan setting journal version

plans_kept : (setting : Setting) (before : List Item) (next : Item)
    → HasControlItemCause setting before next → JournalVersionsAreNumbered before → HavePlans setting before
    → HavePlans setting (before ++ next ∷ [])
plans_kept setting before (Item.Submitted file version) cause are plans v above below =
    let next : Item = Item.Submitted file version in
    let newest : version ≡ v → MachineVersionHasPlan setting (before ++ next ∷ []) v =
    λ same. subst (MachineVersionHasPlan setting (before ++ next ∷ [])) same (next_has_plan setting before file
    version cause.rows are cause.next cause.policy cause.planned) in
    elim (cases_lt (journal_version_count before) v) [
      | inl new ↦ newest (omega (arith, new, count_more before next, below, cause.next))
      | inr old ↦ has_plan_stays setting before (next ∷ []) v are old (plans v above old)
    ]
plans_kept setting before next cause are plans v above below =
    let old : v ≤ journal_version_count before = rw (count_more before next) at below in
    has_plan_stays setting before (next ∷ []) v are old (plans v above old)

-- ---- tables

tables_on : (setting : Setting) (before : List Item) (next : Item) (s : ℕ) (installed : Tables)
    → AreControlTablesOf setting before s installed → AreControlTablesOf setting (before ++ next ∷ []) s installed
tables_on setting before next s installed are = search (rules, count_rises, append_assoc)

brings_on : (setting : Setting) (before : List Item) (next : Item) (s : ℕ) (body : Body)
    → ControlMessageBringsPlannedTables setting before s body → ControlMessageBringsPlannedTables setting (before ++ next ∷ []) s body
brings_on setting before next s (Install boot installed) brings = tables_on _ before next s _ brings
brings_on setting before next s _ brings = tt

-- tables that are planned for some version are those of the version that they name
pub own_tables : (setting : Setting) (journal : List Item) (s : ℕ) (installed : Tables)
    → JournalVersionsAreNumbered journal → AreControlInstallTablesPlanned setting journal s installed
    → AreControlTablesOf setting journal s installed
own_tables setting journal s installed are is = search (rules, plan_stays)

sent_brings : (setting : Setting) (journal : List Item) (s number : ℕ)
    → JournalVersionsAreNumbered journal → IsPlannedSoFar setting journal → (body : Body)
    → journal_message_of journal number ≡ Some (machine_message_to_switch s body) → ControlMessageBringsPlannedTables setting journal s body
sent_brings setting journal s number are so_far body sent = search (rules, own_tables)

-- ---- together

pub record IsPlanned (setting : Setting) (journal : List Item) : Type 0 where
  pub few : AreFew journal
  pub plans : HavePlans setting journal
  pub so_far : IsPlannedSoFar setting journal
  pub heard : (s : ℕ) → AllByRecursion (ControlMessageBringsPlannedTables setting journal s) (heard journal s)

pub all_kept : (setting : Setting) → AreKept (HasControlItemCause setting) (IsPlanned setting)
all_kept setting before next cause is = record {
  few = few_kept setting before next cause is.few;
  plans = plans_kept setting before next cause is.so_far.versions is.plans;
  so_far = planned_kept setting before next cause is.so_far;
  heard = λ s. heard_on (ControlMessageBringsPlannedTables setting before s) _ before next s
      (brings_on setting before next s) (λ number body sent. sent_brings setting before s number
      is.so_far.versions is.so_far body sent) (is.heard s);
}

pub all_at_first : (setting : Setting) → IsPlanned setting []
all_at_first setting = search (rules, start_laws, planned_at_first)

pub caused_planned : FromCauses IsPlanned
caused_planned = from_causes IsPlanned all_kept all_at_first

pub versions_planned : FromCauses ControlVersionsArePlanned
versions_planned setting journal have = let is = caused_planned setting journal have in record {
  few = is.few.few;
  live = is.few.live;
  planned = λ first version above below. elim (cases_lt 1 version) [
    | inl later ↦ is.plans version later below
    | inr own ↦ rw (one_version version above own) at (first_has_plan setting journal first)
  ];
} where
  one_version : (version : ℕ) → 1 ≤ version → version ≤ 1 → 1 ≡ version
  one_version version above own = omega (arith, above, own)

-- ---- what is held

brought : (setting : Setting) (journal : List Item) (s version : ℕ) (bodies : List Body)
    → AllByRecursion (ControlMessageBringsPlannedTables setting journal s) bodies
    → IsTrue (list_any (machine_body_installs_version version) bodies)
    → (1 ≤ version) × (version ≤ journal_version_count journal)
brought setting journal s version [] all any = absurd cc
brought setting journal s version (body ∷ bodies) all any =
    search (rules, eqb-true, brought setting journal s version bodies all.1)

held_there : (setting : Setting) (journal : List Item) (s version : ℕ) → IsPlanned setting journal
    → IsTrue (holds_version journal s version) → (1 ≤ version) × (version ≤ journal_version_count journal)
unfolding holds_version
held_there setting journal s version is holds =
    by_heard (list_any (machine_body_installs_version version) (heard journal s)) refl
    (left _ (not (list_any (message_collects_version version) (heard journal s))) holds)
  where
    left : (b c : Bool) → IsTrue (b && c) → IsTrue b
    left true c both = refl
    left false c both = cc

    first : version ≡ 1 → (1 ≤ version) × (version ≤ journal_version_count journal)
    first own = let marks = is.so_far.marks in
        (omega (arith, own), omega (arith, own, marks.first, marks.there))

    by_heard : (b : Bool) → list_any (machine_body_installs_version version) (heard journal s) ≡ b
        → IsTrue (b || (version == 1 && is_first_boot_in_journal journal s))
        → (1 ≤ version) × (version ≤ journal_version_count journal)
    by_heard true e has = brought setting journal s version (heard journal s) (is.heard s) e
    by_heard false e has = first (eqb-true version 1 (left (version == 1) _ has))

pub tables_planned : FromCauses ControlTablesArePlanned
tables_planned setting journal have = let is = caused_planned setting journal have in record {
  sent = λ s boot n installed sent. own_tables setting journal s installed is.so_far.versions
      (is.so_far.installs s boot n installed sent);
  heard = λ s. All-from_recursion (ControlMessageBringsPlannedTables setting journal s) (heard journal s) (is.heard s);
  held = λ s version holds. held_there setting journal s version is holds;
}
