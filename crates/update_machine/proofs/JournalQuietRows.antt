-- Quiet networks and others, computed.
use Rattle.std.proofs.Common.{[], ◌++◌, ◌<◌, ◌||◌, ◌∙◌, ◌∷◌, ◌≡◌, ◌≤◌, ◌⊎◌, All, Bool, IsFalse, IsTrue, List, Some, arith, false, inl, inr, map, not, refl, suc, sym, true, true≢false, zero, ℕ}
use Rattle.base.proofs.Exports.{All-from_recursion, All-weaker, AllByRecursion, list_any}
use Rattle.update_machine.specs.Exports.{AreMachineMessagesReceived, AreMachineMarksSettled, Body, Drop, How, IsQuietMachineJournal, Item, MachineCurrentMayRise, Message, Step, Tables, acked_stamp, journal_boot_of, journal_can_use, journal_claim_of, journal_controller_heard, journal_current_mark, machine_item_finds_down, has_acked, is_joining, is_link_up_in_journal, is_member, is_over, is_up, is_waited_for_in_journal, journal_known_boot, journal_knows_link, journal_message_of, journal_next_current, journal_next_retired, journal_opened_at, journal_retired_mark, serves, machine_switches_of, journal_version_count, was_delivered_in_journal}
use Rattle.update_machine.proofs.JournalExampleNetworks.{advert, answered, any_word, at, delivered, left_by, one, open_net, plan_q, ring, round, tables_of, to, to_controller}
use Rattle.switch_table.specs.Exports.{cache_all_touched}

-- ---- what switches can use and know of failing links, computed

-- at first, behind the round, once switch a heard b's advert, and in its next boot; there it hears
-- of one end, of both, and old adverts that change nothing
abbrev journals : List (List Item)
journals = [] ∷ round ∷ (round ++ Item.Delivered 1 ∷ []) ∷ again ∷ (again ++ hears 5 1 2 9)
    ∷ (again ++ hears 5 1 2 9 ++ hears 6 3 2 6)
    ∷ (again ++ hears 5 1 2 9 ++ hears 6 3 2 6 ++ hears 7 3 1 4) ∷ []
  where
    again : List Item
    again = round ++ Item.Down 0 ∷ Item.Booted 0 2 ∷ []

    hears : ℕ → ℕ → ℕ → ℕ → List Item
    hears number origin seq up =
        Item.Sent number (to 0 (advert origin 1 seq up)) ∷ Item.Delivered number ∷ []

-- of a link of others switch a goes by what it heard; of its own it sees its own end too
pub known_rows : map (λ journal. journal_knows_link ring journal 0 1 3) journals
    ≡ true ∷ true ∷ false ∷ false ∷ false ∷ true ∷ true ∷ []
unfolding journal_claim_of is_link_up_in_journal journal_message_of serves
known_rows = refl

pub own_known_rows : map (λ journal. journal_knows_link ring journal 0 2 0) journals
    ≡ true ∷ false ∷ false ∷ false ∷ false ∷ false ∷ false ∷ []
unfolding journal_claim_of is_link_up_in_journal journal_message_of serves
own_known_rows = refl

-- it can use a link that is up, between switches that serve, from either end
pub usable_rows : journal_can_use ring round 0 1 ∷ journal_can_use ring round 1 0 ∷ journal_can_use ring round 2 0
    ∷ journal_can_use ring round 0 3 ∷ journal_can_use ring (round ++ Item.Down 1 ∷ []) 0 1 ∷ []
    ≡ true ∷ true ∷ false ∷ false ∷ false ∷ []
unfolding is_link_up_in_journal serves
usable_rows = refl

-- the packet found two links down, whichever end is named first
pub found_rows : list_any (machine_item_finds_down 1 1 3) round ∷ list_any (machine_item_finds_down 1 3 1) round
    ∷ list_any (machine_item_finds_down 1 2 3) round ∷ list_any (machine_item_finds_down 2 1 3) round ∷ []
    ≡ true ∷ true ∷ false ∷ false ∷ []
found_rows = refl

-- ---- the rule of the marks, computed

-- no switch is joining, so none that is acknowledged current
none_joins : (journal : List Item)
    → AllByRecursion (λ s. is_joining journal s ≡ false) (machine_switches_of open_net)
    → All (λ s. IsTrue (is_joining journal s)
    → IsFalse (has_acked journal s (journal_current_mark journal))) (machine_switches_of open_net)
none_joins journal none = All-weaker (λ s. is_joining journal s ≡ false)
    (λ s. IsTrue (is_joining journal s) → IsFalse (has_acked journal s (journal_current_mark journal)))
    (λ s not_joining joins. absurd (true≢false (sym joins ∙ not_joining))) (machine_switches_of open_net)
    (All-from_recursion (λ s. is_joining journal s ≡ false) (machine_switches_of open_net) none)

only_two : (v : ℕ) → 1 < v → v ≤ 2 → v ≡ 2
only_two v above below = omega (arith, above, below)

-- an update is sent; a has its tables, and so has b, whose acknowledgement is under way
abbrev installing : List Item
installing = Item.Submitted 2 2 ∷ Item.Sent 1 (to 0 (Body.Install 1 (tables_of plan_q 2 0)))
    ∷ Item.Sent 2 (to 1 (Body.Install 1 (tables_of plan_q 2 1))) ∷ Item.Delivered 1
    ∷ Item.Sent 3 (to_controller (Body.Installed 0 1 2)) ∷ Item.Delivered 2
    ∷ Item.Sent 4 (to_controller (Body.Installed 1 1 2)) ∷ Item.Delivered 3 ∷ []

-- current waits
pub settled_before : AreMachineMarksSettled open_net installing
unfolding journal_known_boot journal_controller_heard is_over journal_opened_at is_member has_acked acked_stamp
    journal_current_mark journal_retired_mark journal_next_current journal_next_retired journal_version_count journal_message_of
settled_before = record {
  current = inr refl;
  joining = none_joins installing (refl, (refl, tt));
  retired = refl;
}

-- b's acknowledgement is delivered: current may rise to 2, and to no greater version
abbrev acknowledged : List Item
acknowledged = installing ++ Item.Delivered 4 ∷ []

pub may_rise : MachineCurrentMayRise open_net acknowledged 2
unfolding journal_known_boot journal_controller_heard is_over journal_opened_at is_member has_acked acked_stamp
    journal_current_mark journal_retired_mark journal_next_current journal_next_retired journal_version_count journal_message_of
may_rise = record {
  rises = omega arith;
  there = omega arith;
  acknowledged = λ v above below. rw (only_two v above below) refl;
}

-- before that nothing is settled
pub not_settled : AreMachineMarksSettled open_net acknowledged → ⊥
unfolding journal_known_boot journal_controller_heard is_over journal_opened_at is_member has_acked acked_stamp
    journal_current_mark journal_retired_mark journal_next_current journal_next_retired journal_version_count journal_message_of
not_settled settled = elim settled.current [
  | inl last ↦ absurd (omega (arith, last))
  | inr waits ↦ true≢false waits
]

-- it does, and is settled
pub settled_behind : AreMachineMarksSettled open_net (acknowledged ++ Item.Current 2 ∷ [])
unfolding journal_known_boot journal_controller_heard is_over journal_opened_at is_member has_acked acked_stamp
    journal_current_mark journal_retired_mark journal_next_current journal_next_retired journal_version_count journal_message_of
settled_behind = record {
  current = inl refl;
  joining = none_joins (acknowledged ++ Item.Current 2 ∷ []) (refl, (refl, tt));
  retired = refl;
}

-- both stamp with version 2, but b's message is under way: 1 isn't retired yet; then it is
abbrev stamped : List Item
stamped = acknowledged ++ Item.Current 2 ∷ Item.Sent 5 (to_controller (Body.Stamped 0 1 2))
    ∷ Item.Sent 6 (to_controller (Body.Stamped 1 1 2)) ∷ Item.Delivered 5 ∷ []

pub retires_none : journal_next_retired open_net stamped ≡ 0
unfolding journal_known_boot journal_controller_heard is_over journal_opened_at is_member has_acked acked_stamp
    journal_current_mark journal_retired_mark journal_next_current journal_next_retired journal_version_count journal_message_of
retires_none = refl

pub retires_first : journal_next_retired open_net (stamped ++ Item.Delivered 6 ∷ []) ≡ 1
unfolding journal_known_boot journal_controller_heard is_over journal_opened_at is_member has_acked acked_stamp
    journal_current_mark journal_retired_mark journal_next_current journal_next_retired journal_version_count journal_message_of
retires_first = refl

-- ---- an update, computed

-- what becomes of a packet and of an update
abbrev pub updated : List Item
updated =
    Item.Row 1 (Step.Packet 0 one) ∷ Item.Entered 1 0 one ∷ Item.Seeking 1 1 0 (0 ∷ 1 ∷ [])
    ∷ Item.Row 2 (Step.Update 2) ∷ Item.Submitted 2 2
    ∷ Item.Sent 1 (to 0 (Body.Install 1 (tables_of plan_q 2 0)))
    ∷ Item.Sent 2 (to 1 (Body.Install 1 (tables_of plan_q 2 1)))
    ∷ answered 3 1 3 (Body.Installed 0 1 2) ++ answered 3 2 4 (Body.Installed 1 1 2)
    ++ delivered 3 3 ++ delivered 3 4 ++ Item.Current 2 ∷ Item.Sent 5 (to 0 (Body.Stamp 1 2 cache_all_touched))
    ∷ Item.Sent 6 (to 1 (Body.Stamp 1 2 cache_all_touched)) ∷ answered 3 5 7 (Body.Stamped 0 1 2)
    ++ answered 3 6 8 (Body.Stamped 1 1 2) ++ delivered 3 7 ++ delivered 3 8 ++ Item.Retired 1
    ∷ Item.Sent 9 (to 0 (Body.Collect 1 1)) ∷ Item.Sent 10 (to 1 (Body.Collect 1 1)) ∷ delivered 3 9
    ++ delivered 3 10 ++ Item.Row 4 (Step.Hop 1) ∷ Item.Hopped 1 1 ∷ Item.Row 4 (Step.Hop 1)
    ∷ Item.Decided 1 2 (Some 100) Drop (How.Authority 1 0)
    ∷ Item.Sent 11 (to 0 (Body.CacheRule 2 any_word (Some 100) Drop)) ∷ Item.Dropped 1 ∷ []

-- while a packet is on its way its version is retired; the authority looks it up by the next one
pub update_rows : left_by open_net (at 1 (Step.Packet 0 one) ∷ at 2 (Step.Update 2)
    ∷ at 3 (Step.Deliver 1) ∷ at 3 (Step.Deliver 2) ∷ at 3 (Step.Deliver 3) ∷ at 3 (Step.Deliver 4)
    ∷ at 3 (Step.Deliver 5) ∷ at 3 (Step.Deliver 6) ∷ at 3 (Step.Deliver 7) ∷ at 3 (Step.Deliver 8)
    ∷ at 3 (Step.Deliver 9) ∷ at 3 (Step.Deliver 10) ∷ at 4 (Step.Hop 1) ∷ at 4 (Step.Hop 1) ∷ [])
    ≡ updated
unfolding left_by
update_rows = refl

-- ---- quiet rows

by_parts : (journal : List Item)
    → AllByRecursion (λ s. IsTrue (is_up journal s || not (is_waited_for_in_journal journal s)))
    (machine_switches_of open_net) → AreMachineMessagesReceived open_net journal journal → IsQuietMachineJournal open_net journal
by_parts journal switches messages = record {
  switches = All-from_recursion (λ s. IsTrue (is_up journal s || not (is_waited_for_in_journal journal s)))
      (machine_switches_of open_net) switches;
  messages = messages;
}

-- what is true of a and of b is true of each switch
of_both : (P : ℕ → Type 0) → P 0 → P 1 → (s : ℕ) → s < 2 → P s
of_both P a b zero there = a
of_both P a b (suc zero) there = b
of_both P a b (suc (suc s)) there = absurd (omega arith)

-- of what matters to neither, anything holds
neither : (matters : ℕ → Bool) (P : ℕ → Type 0) → matters 0 ≡ false → matters 1 ≡ false → (s : ℕ)
    → s < 2 → IsTrue (matters s) → P s
neither matters P a b = of_both (λ s. IsTrue (matters s) → P s)
    (λ m. absurd (true≢false (sym m ∙ a))) (λ m. absurd (true≢false (sym m ∙ b)))

-- what wasn't delivered, and is replaced by nothing, isn't received
unmet : (delivered : Bool) → IsTrue delivered ⊎ ⊥ → delivered ≡ false → ⊥
unmet delivered (inl came) lacks = true≢false (sym came ∙ lacks)
unmet delivered (inr none) lacks = absurd none

-- ---- switches

pub quiet_at_first : IsQuietMachineJournal open_net []
unfolding was_delivered_in_journal is_up journal_boot_of journal_current_mark
quiet_at_first = by_parts _ (refl, (refl, tt)) tt

-- a is down, and waited for until it is confirmed
pub waits_for_a : IsQuietMachineJournal open_net (Item.Row 1 (Step.Crash 0) ∷ Item.Down 0 ∷ []) → ⊥
unfolding was_delivered_in_journal is_up journal_boot_of journal_current_mark
waits_for_a quiet = true≢false (sym (quiet.switches 0 0 (omega arith)))

pub quiet_without_a : IsQuietMachineJournal open_net
    (Item.Row 1 (Step.Crash 0) ∷ Item.Down 0 ∷ Item.Row 2 (Step.Confirm 0) ∷ Item.OverNow 0 ∷ [])
unfolding was_delivered_in_journal is_up journal_boot_of journal_current_mark
quiet_without_a = by_parts _ (refl, (refl, tt)) tt

-- ---- messages

-- nothing of an update was delivered
pub update_waits : IsQuietMachineJournal open_net (Item.Row 1 (Step.Update 2) ∷ Item.Submitted 2 2
    ∷ Item.Sent 1 (to 0 (Body.Install 1 (tables_of plan_q 2 0)))
    ∷ Item.Sent 2 (to 1 (Body.Install 1 (tables_of plan_q 2 1))) ∷ []) → ⊥
unfolding was_delivered_in_journal is_up journal_boot_of journal_current_mark
update_waits quiet = elim (quiet.messages.0 0 (omega arith) refl) [
  | inl delivered ↦ true≢false (sym delivered)
  | inr replaced ↦ elim replaced [ inl other ↦ true≢false (sym other.1) | inr none ↦ absurd none ]
]

-- all but a cache rule was, which doesn't matter
pub quiet_once_updated : IsQuietMachineJournal open_net updated
unfolding was_delivered_in_journal is_up journal_boot_of journal_current_mark
quiet_once_updated = by_parts _ (refl, (refl, tt)) (
  λ s there m. inl refl,
  (
    λ s there m. inl refl,
    (
      λ s there m. inl refl,
      (
        λ s there m. inl refl,
        (
          λ s there m. inl refl,
          (
            λ s there m. inl refl,
            (
              λ s there m. inl refl,
              (
                λ s there m. inl refl,
                (λ s there m. inl refl, (λ s there m. inl refl, (neither _ _ refl refl, tt))),
              ),
            ),
          ),
        ),
      ),
    ),
  ),
)

-- boot 2 of a began, and its hello was sent; what was sent in its first boot, an advert too, or is
-- of that boot doesn't matter any more
abbrev restarted : List Item
restarted = Item.Row 1 (Step.Resend 0) ∷ Item.Sent 1 (to 0 (advert 1 1 1 1))
    ∷ Item.Sent 2 (to 0 (Body.OpenAt 1 1)) ∷ Item.Row 2 (Step.Crash 0) ∷ Item.Down 0
    ∷ Item.Row 3 (Step.Restart 0) ∷ Item.Booted 0 2 ∷ Item.Sent 3 (to_controller (Body.Hello 0 2))
    ∷ Item.Row 4 (Step.Deliver 3) ∷ Item.Delivered 3 ∷ Item.Sent 4 (to 0 (Body.Stamp 1 1 []))
    ∷ Item.Sent 5 (to_controller (Body.Stamped 0 1 1)) ∷ []

pub quiet_in_boot_2 : IsQuietMachineJournal open_net restarted
unfolding was_delivered_in_journal is_up journal_boot_of journal_current_mark
quiet_in_boot_2 = by_parts _ (refl, (refl, tt)) (
  neither _ _ refl refl,
  (
    neither _ _ refl refl,
    (λ s there m. inl refl, (neither _ _ refl refl, (neither _ _ refl refl, tt))),
  ),
)

-- an advert that was sent since does matter
pub advert_waits : IsQuietMachineJournal open_net (restarted ++ Item.Sent 6 (to 0 (advert 1 1 2 1)) ∷ []) → ⊥
unfolding was_delivered_in_journal is_up journal_boot_of journal_current_mark
advert_waits quiet = unmet _ (quiet.messages.1.1.1.1.1.0 0 (omega arith) refl) refl

-- nor does what was sent before a boot began that has the number of the one before
pub boot_begins : IsQuietMachineJournal open_net (Item.Sent 1 (to 0 (Body.Stamp 1 1 [])) ∷ Item.Booted 0 1 ∷ [])
unfolding was_delivered_in_journal is_up journal_boot_of journal_current_mark
boot_begins = by_parts _ (refl, (refl, tt)) (neither _ _ refl refl, tt)

-- tables of a version below the current one, and their acknowledgement, don't matter
pub quiet_without_old_tables : IsQuietMachineJournal open_net
    (Item.Sent 1 (to 0 (Body.Install 1 (tables_of plan_q 1 0)))
    ∷ Item.Sent 2 (to_controller (Body.Installed 0 1 1)) ∷ Item.Current 2 ∷ [])
unfolding was_delivered_in_journal is_up journal_boot_of journal_current_mark
quiet_without_old_tables = by_parts _ (refl, (refl, tt)) (
  neither _ _ refl refl,
  (neither _ _ refl refl, tt),
)

-- a delivery before its sending delivers nothing
pub delivered_too_early :
    IsQuietMachineJournal open_net (Item.Delivered 1 ∷ Item.Sent 1 (to_controller (Body.Hello 0 1)) ∷ []) → ⊥
unfolding was_delivered_in_journal is_up journal_boot_of journal_current_mark
delivered_too_early quiet = unmet _ (quiet.messages.0 0 (omega arith) refl) refl

-- ---- replaced messages

-- a later equal message, a stamp of a greater version and a newer advert replace those before them
pub quiet_by_later : IsQuietMachineJournal open_net
    (Item.Sent 1 (to_controller (Body.Hello 1 1)) ∷ Item.Sent 2 (to 0 (Body.Stamp 1 2 []))
    ∷ Item.Sent 3 (to 0 (advert 1 1 1 1)) ∷ Item.Sent 4 (to_controller (Body.Hello 1 1))
    ∷ Item.Sent 5 (to 0 (Body.Stamp 1 3 [])) ∷ Item.Sent 6 (to 0 (advert 1 1 2 0))
    ∷ Item.Delivered 4 ∷ Item.Delivered 5 ∷ Item.Delivered 6 ∷ [])
unfolding was_delivered_in_journal is_up journal_boot_of journal_current_mark
quiet_by_later = by_parts _ (refl, (refl, tt)) (
  λ s there m. inr (inr (inr (inl (record { receiver = refl; says = inl refl }, refl)))),
  (
    λ s there m. inr (inr (inr (inl (record { receiver = refl; says = inr refl }, refl)))),
    (
      λ s there m. inr (inr (inr (inl (record { receiver = refl; says = inr refl }, refl)))),
      (λ s there m. inl refl, (λ s there m. inl refl, (λ s there m. inl refl, tt))),
    ),
  ),
)

-- ---- what doesn't replace

abbrev hello : Message
hello = to_controller (Body.Hello 1 1)

-- the earlier of two equal messages doesn't replace the later one
pub later_waits :
    IsQuietMachineJournal open_net (Item.Sent 1 hello ∷ Item.Sent 2 hello ∷ Item.Delivered 1 ∷ []) → ⊥
unfolding was_delivered_in_journal is_up journal_boot_of journal_current_mark
later_waits quiet = unmet _ (quiet.messages.1.0 1 (omega arith) refl) refl

-- other tables of the same version don't replace those before them
pub other_tables_wait : (one other : Tables) → one.version ≡ 1 → (one ≡ other → ⊥)
    → IsQuietMachineJournal open_net (Item.Sent 1 (to 0 (Body.Install 1 one))
    ∷ Item.Sent 2 (to 0 (Body.Install 1 other)) ∷ Item.Delivered 2 ∷ []) → ⊥
unfolding was_delivered_in_journal is_up journal_boot_of journal_current_mark
other_tables_wait one other version apart quiet =
    elim (quiet.messages.0 0 (omega arith) (rw version refl)) [
      | inl delivered ↦ true≢false (sym delivered)
      | inr replaced ↦ elim replaced [
        | inl later ↦ elim later.0.says [
          | inl same ↦ apart (let equal : other ≡ one = cc in sym equal)
          | inr more ↦ true≢false (sym more)
        ]
        | inr none ↦ absurd none
      ]
    ]
