-- No premise of recovery and of rollouts is idle: schedules of two switches that lack one,
-- computed; and three that recover, though their networks aren't quiet.
use Rattle.std.proofs.Common.{[], ◌&&◌, ◌++◌, ◌+◌, ◌==◌, ◌||◌, ◌∙◌, ◌∷◌, ◌≡◌, ◌⊎◌, Bool, Contains, IsTrue, List, None, Ok, Option, Some, ap, append-nil, arith, codes, drop, false, inl, inr, map, not, option_map, refl, suc, sym, take, true, true≢false, zero, ℕ}
use Rattle.base.proofs.Exports.{All-cons, All-from_recursion, All-nil, and_parts}
use Rattle.failover.specs.Exports.{no_failover_links, with_failover_link}
use Rattle.update_machine.specs.Exports.{Advertise, Answers, AreAllMachineEventSteps, AreMachineMessagesReceived, AreMachineSteps, Body, Confirm, Crash, Deliver, Event, Flush, Forget, JournalItemsHaveCauses, Hop, Installed, IsQuietMachineJournal, IsJournalMessageReceived, IsJournalMessageReplaced, Item, LinkDown, LinkUp, Lose, Message, NoAuthority, One, Packet, Place, MachineMessageReplaces, Resend, Restart, Seek, Setting, Step, MachineStepOfRow, Update, journal_after_steps, is_machine_later_body, is_up, is_waited_for_in_journal, journal_next_delivery, next_waiting, piece, was_delivered_in_journal}
use Rattle.steps.specs.Exports.{StepSwitchExists}
use Rattle.update_machine.proofs.Exports.{advert, at, by_action, left_by, network, one, open_net, out_or_drop, plan_p, plan_q, switch, to, to_controller}
use Rattle.convergence_laws.specs.Exports.{IsNetworkUpdated}
use Rattle.forwarding_laws.specs.Exports.{RolloutAccountsForAll, ForwardingRecoveryAsksEach, ForwardingDropsNothing, EndsInRecovery, RolloutEndsRightly, RolloutFailsNothing, RolloutHasItem, HoldNewestAlone, NoneIsStuck, NothingFailsInRollout}
use Rattle.forwarding_laws.proofs.RecoveredNetworks.{recovered_updated}

-- ---- schedules of single steps, and such that end in a flush

abbrev numbered : ℕ → List Step → List MachineStepOfRow
numbered row [] = []
numbered row (step ∷ steps) = at row step ∷ numbered (row + 1) steps

single : (setting : Setting) (row : ℕ) (steps : List Step) (before : List Item)
    → AreMachineSteps setting row (map One steps) before (numbered row steps)
single setting row [] before = refl
single setting row (step ∷ steps) before = (
  at row step ∷ [],
  numbered (row + 1) steps,
  record { split = refl },
  refl,
  single setting (row + 1) steps _,
)

abbrev row_behind : ℕ → List Step → ℕ
row_behind row [] = row
row_behind row (step ∷ steps) = row_behind (row + 1) steps

flushed : (setting : Setting) (row : ℕ) (steps : List Step) (before : List Item)
    (deliveries : List MachineStepOfRow) → AreAllMachineEventSteps setting journal_next_delivery (row_behind row steps)
    (journal_after_steps setting before (numbered row steps)) deliveries
    → AreMachineSteps setting row (map One steps ++ Flush ∷ []) before (numbered row steps ++ deliveries)
flushed setting row [] before deliveries all =
    (deliveries, [], record { split = sym (append-nil deliveries) }, all, refl)
flushed setting row (step ∷ steps) before deliveries all = (
  at row step ∷ [],
  numbered (row + 1) steps ++ deliveries,
  record { split = refl },
  refl,
  flushed setting (row + 1) steps _ deliveries all,
)

-- ---- a flush, computed

abbrev flush : ℕ → Setting → ℕ → List Item → List MachineStepOfRow
flush zero setting row before = []
flush (suc n) setting row before = elim (next_waiting before) [
  | None ↦ []
  | Some i ↦ at row (Deliver i)
      ∷ flush n setting row (before ++ piece setting before row (Deliver i))
]

all_flushed : (n : ℕ) (setting : Setting) (row : ℕ) (before : List Item)
    → journal_next_delivery (journal_after_steps setting before (flush n setting row before)) ≡ None
    → AreAllMachineEventSteps setting journal_next_delivery row before (flush n setting row before)
all_flushed zero setting row before none = none
all_flushed (suc n) setting row before none =
    by_next (next_waiting before) refl (all_flushed n setting row) none
  where
    steps_of : Option ℕ → List MachineStepOfRow
    steps_of o = elim o [
      | None ↦ []
      | Some i ↦ at row (Deliver i)
          ∷ flush n setting row (before ++ piece setting before row (Deliver i))
    ]

    by_next : (o : Option ℕ) → next_waiting before ≡ o → ((behind : List Item)
        → journal_next_delivery (journal_after_steps setting behind (flush n setting row behind)) ≡ None
        → AreAllMachineEventSteps setting journal_next_delivery row behind (flush n setting row behind))
        → journal_next_delivery (journal_after_steps setting before (steps_of o)) ≡ None
        → AreAllMachineEventSteps setting journal_next_delivery row before (steps_of o)
    by_next None e rest none = none
    by_next (Some i) e rest none = (
      refl,
      ap (λ o. option_map Deliver o) e,
      rest (before ++ piece setting before row (Deliver i)) none,
    )

-- ---- recovery

not_current : ◌≡◌ {A = ℕ} 1 2 → ⊥
not_current is = omega (arith, is)

-- an update whose tables were lost, and then no resend
abbrev tables_lost : List Step
tables_lost = Update 2 ∷ Forget 1 ∷ Forget 2 ∷ Confirm 0 ∷ Confirm 1 ∷ []

abbrev tables_lost_journal : List Item
tables_lost_journal = journal_after_steps open_net [] (numbered 1 tables_lost)

without_resends : Answers open_net (map One tables_lost ++ Flush ∷ []) tables_lost_journal
unfolding left_by
without_resends = record {
  steps = numbered 1 tables_lost;
  allowed = flushed open_net 1 tables_lost [] [] refl;
  written = refl;
}

not_without_resends : IsNetworkUpdated open_net tables_lost_journal → ⊥
unfolding left_by
not_without_resends updated = not_current updated.current

-- nor without the flush
abbrev undelivered : List Step
undelivered = Update 2 ∷ Confirm 0 ∷ Confirm 1 ∷ Resend 0 ∷ Resend 1 ∷ []

abbrev undelivered_journal : List Item
undelivered_journal = journal_after_steps open_net [] (numbered 1 undelivered)

without_flush : Answers open_net (map One undelivered) undelivered_journal
without_flush = record {
  steps = numbered 1 undelivered;
  allowed = single open_net 1 undelivered [];
  written = refl;
}

not_without_flush : IsNetworkUpdated open_net undelivered_journal → ⊥
unfolding left_by
not_without_flush updated = not_current updated.current

-- an update waits for a switch that is down and isn't confirmed
abbrev unconfirmed : List Step
unconfirmed = Crash 0 ∷ Update 2 ∷ Resend 0 ∷ Resend 1 ∷ []

abbrev unconfirmed_front : List Item
unconfirmed_front = journal_after_steps open_net [] (numbered 1 unconfirmed)

abbrev unconfirmed_flush : List MachineStepOfRow
unconfirmed_flush = flush 24 open_net 5 unconfirmed_front

abbrev unconfirmed_journal : List Item
unconfirmed_journal = journal_after_steps open_net [] (numbered 1 unconfirmed ++ unconfirmed_flush)

without_confirms : Answers open_net (map One unconfirmed ++ Flush ∷ []) unconfirmed_journal
unfolding left_by
without_confirms = record {
  steps = numbered 1 unconfirmed ++ unconfirmed_flush;
  allowed = flushed open_net 1 unconfirmed [] unconfirmed_flush
      (all_flushed 24 open_net 5 unconfirmed_front refl);
  written = refl;
}

not_without_confirms : IsNetworkUpdated open_net unconfirmed_journal → ⊥
unfolding left_by
not_without_confirms updated = not_current updated.current

-- ---- recovered, and not quiet

asks_both : (step : ℕ → Step) → ForwardingRecoveryAsksEach open_net.net step (One (step 0) ∷ One (step 1) ∷ [])
asks_both step = record {
  only = All-cons is_one (One (step 0)) (One (step 1) ∷ []) (0, refl)
      (All-cons is_one (One (step 1)) [] (1, refl) (All-nil is_one));
  each = λ s there. by_switch s there;
} where
  is_one : Event → Type 0
  is_one row = (s : ℕ) × (row ≡ One (step s))

  by_switch : (s : ℕ) → StepSwitchExists open_net.net s
      → Contains (One (step 0) ∷ One (step 1) ∷ []) (One (step s))
  by_switch zero there = (0, omega arith, refl)
  by_switch (suc zero) there = (1, omega arith, refl)
  by_switch (suc (suc s)) there = absurd (omega (arith, there))

-- the rows that bring recovery
abbrev recipe : List Step
recipe = Confirm 0 ∷ Confirm 1 ∷ Resend 0 ∷ Resend 1 ∷ []

in_recovery : (front : List Step)
    → EndsInRecovery open_net.net (map One (front ++ recipe) ++ Flush ∷ [])
in_recovery front = record {
  front = map One front;
  confirms = One (Confirm 0) ∷ One (Confirm 1) ∷ [];
  resends = One (Resend 0) ∷ One (Resend 1) ∷ [];
  ends = by_front front;
  confirmed = asks_both Confirm;
  resent = asks_both Resend;
} where
  by_front : (front : List Step) → map One (front ++ recipe) ++ Flush ∷ []
      ≡ map One front ++ (One (Confirm 0) ∷ One (Confirm 1) ∷ [])
      ++ (One (Resend 0) ∷ One (Resend 1) ∷ []) ++ Flush ∷ []
  by_front [] = refl
  by_front (step ∷ front) = ap (λ rest. One step ∷ rest) (by_front front)

-- nothing that is sent in these items passes the test
abbrev none_pass : (Message → Bool) → List Item → Bool
none_pass test [] = true
none_pass test (Item.Sent number later ∷ after) = not (test later) && none_pass test after
none_pass test (_ ∷ after) = none_pass test after

not_both : (b : Bool) → IsTrue b → IsTrue (not b) → ⊥
not_both true is isn't = true≢false (sym isn't)
not_both false is isn't = true≢false (sym is)

-- so nothing of it replaces a message, where whatever does so passes
unreplaced : (test : Message → Bool) (message : Message)
    → ((later : Message) → MachineMessageReplaces later message → IsTrue (test later))
    → (after : List Item) → IsTrue (none_pass test after) → IsJournalMessageReplaced message after → ⊥
unreplaced test message passes [] none replaced = replaced
unreplaced test message passes (Item.Sent number later ∷ after) none (inl here) =
    not_both (test later) (passes later here.0) (and_parts (not (test later)) _ none).0
unreplaced test message passes (Item.Sent number later ∷ after) none (inr behind) =
    unreplaced test message passes after (and_parts (not (test later)) _ none).1 behind
unreplaced test message passes (_ ∷ after) none replaced =
    unreplaced test message passes after none replaced

-- and where it wasn't delivered, it wasn't received
unreceived : (test : Message → Bool) (number : ℕ) (message : Message)
    → ((later : Message) → MachineMessageReplaces later message → IsTrue (test later))
    → (after : List Item) → IsTrue (none_pass test after) → was_delivered_in_journal after number ≡ false
    → IsJournalMessageReceived number message after → ⊥
unreceived test number message passes after none lacks (inl came) = true≢false (sym came ∙ lacks)
unreceived test number message passes after none lacks (inr replaced) =
    unreplaced test message passes after none replaced

-- an advert of a was sent to b and lost, and then the only link to b failed
abbrev advert_lost : List Step
advert_lost = LinkDown 0 1 ∷ LinkUp 0 1 ∷ Forget 1 ∷ LinkDown 0 1 ∷ recipe

abbrev advert_lost_front : List Item
advert_lost_front = journal_after_steps open_net [] (numbered 1 advert_lost)

abbrev advert_lost_flush : List MachineStepOfRow
advert_lost_flush = flush 24 open_net 9 advert_lost_front

abbrev advert_lost_journal : List Item
advert_lost_journal = journal_after_steps open_net [] (numbered 1 advert_lost ++ advert_lost_flush)

with_advert_lost : Answers open_net (map One advert_lost ++ Flush ∷ []) advert_lost_journal
unfolding left_by
with_advert_lost = record {
  steps = numbered 1 advert_lost ++ advert_lost_flush;
  allowed = flushed open_net 1 advert_lost [] advert_lost_flush
      (all_flushed 24 open_net 9 advert_lost_front refl);
  written = refl;
}

recovered_without_advert : IsNetworkUpdated open_net advert_lost_journal
recovered_without_advert =
    recovered_updated open_net (map One advert_lost ++ Flush ∷ []) advert_lost_journal
    (in_recovery (take 4 advert_lost)) with_advert_lost

both : (a b : Bool) → IsTrue a → IsTrue b → IsTrue (a && b)
both true b is also = also
both false b is also = is

abbrev is_to_b : Place → Bool
is_to_b (Place.Switch s) = s == 1
is_to_b Place.Controller = false

abbrev is_advert_of_a : Body → Bool
is_advert_of_a (Advertise advert) = advert.origin == 0
is_advert_of_a _ = false

advert_passes : (boot seq up : ℕ) (later : Message) → MachineMessageReplaces later (to 1 (advert 0 boot seq up))
    → IsTrue (is_to_b later.to && is_advert_of_a later.body)
advert_passes boot seq up later replaces = both (is_to_b later.to) (is_advert_of_a later.body)
    (ap is_to_b replaces.receiver) (by_body later.body replaces.says)
  where
    by_body : (body : Body) → (body ≡ advert 0 boot seq up)
        ⊎ IsTrue (is_machine_later_body body (advert 0 boot seq up)) → IsTrue (is_advert_of_a body)
    by_body body (inl same) = ap is_advert_of_a same
    by_body (Advertise advert) (inr later) = (and_parts (advert.origin == 0) _ later).0
    by_body _ (inr later) = absurd (true≢false (sym later))

not_quiet_without_advert : IsQuietMachineJournal open_net advert_lost_journal → ⊥
unfolding left_by
not_quiet_without_advert quiet = unreceived (λ later. is_to_b later.to && is_advert_of_a later.body)
    1 (to 1 (advert 0 1 3 2)) (advert_passes 1 3 2) (drop 5 advert_lost_journal) refl refl
    (quiet.messages.0 1 (omega arith) refl)

-- or a itself went down, which alone could send it again
abbrev origin_gone : List Step
origin_gone = LinkDown 0 1 ∷ LinkUp 0 1 ∷ Forget 1 ∷ Crash 0 ∷ recipe

abbrev origin_gone_front : List Item
origin_gone_front = journal_after_steps open_net [] (numbered 1 origin_gone)

abbrev origin_gone_flush : List MachineStepOfRow
origin_gone_flush = flush 24 open_net 9 origin_gone_front

abbrev origin_gone_journal : List Item
origin_gone_journal = journal_after_steps open_net [] (numbered 1 origin_gone ++ origin_gone_flush)

with_origin_gone : Answers open_net (map One origin_gone ++ Flush ∷ []) origin_gone_journal
unfolding left_by
with_origin_gone = record {
  steps = numbered 1 origin_gone ++ origin_gone_flush;
  allowed = flushed open_net 1 origin_gone [] origin_gone_flush
      (all_flushed 24 open_net 9 origin_gone_front refl);
  written = refl;
}

recovered_without_origin : IsNetworkUpdated open_net origin_gone_journal
recovered_without_origin =
    recovered_updated open_net (map One origin_gone ++ Flush ∷ []) origin_gone_journal
    (in_recovery (take 4 origin_gone)) with_origin_gone

not_quiet_without_origin : IsQuietMachineJournal open_net origin_gone_journal → ⊥
unfolding left_by
not_quiet_without_origin quiet = unreceived (λ later. is_to_b later.to && is_advert_of_a later.body)
    1 (to 1 (advert 0 1 3 2)) (advert_passes 1 3 2) (drop 5 origin_gone_journal) refl refl
    (quiet.messages.0 1 (omega arith) (refl {a = true}))

-- tables were delivered twice, and the second acknowledgement was lost
abbrev answer_lost : List Step
answer_lost = Update 2 ∷ Deliver 1 ∷ Deliver 1 ∷ Deliver 3 ∷ Forget 4 ∷ recipe

abbrev answer_lost_front : List Item
answer_lost_front = journal_after_steps open_net [] (numbered 1 answer_lost)

abbrev answer_lost_flush : List MachineStepOfRow
answer_lost_flush = flush 24 open_net 10 answer_lost_front

abbrev answer_lost_journal : List Item
answer_lost_journal = journal_after_steps open_net [] (numbered 1 answer_lost ++ answer_lost_flush)

with_answer_lost : Answers open_net (map One answer_lost ++ Flush ∷ []) answer_lost_journal
unfolding left_by
with_answer_lost = record {
  steps = numbered 1 answer_lost ++ answer_lost_flush;
  allowed = flushed open_net 1 answer_lost [] answer_lost_flush
      (all_flushed 24 open_net 10 answer_lost_front refl);
  written = refl;
}

recovered_without_answer : IsNetworkUpdated open_net answer_lost_journal
recovered_without_answer =
    recovered_updated open_net (map One answer_lost ++ Flush ∷ []) answer_lost_journal
    (in_recovery (take 5 answer_lost)) with_answer_lost

abbrev is_to_controller : Place → Bool
is_to_controller Place.Controller = true
is_to_controller (Place.Switch s) = false

abbrev is_answer_of_a : Body → Bool
is_answer_of_a (Installed s boot version) = s == 0
is_answer_of_a _ = false

answer_passes : (boot version : ℕ) (later : Message)
    → MachineMessageReplaces later (to_controller (Installed 0 boot version))
    → IsTrue (is_to_controller later.to && is_answer_of_a later.body)
answer_passes boot version later replaces =
    both (is_to_controller later.to) (is_answer_of_a later.body)
    (ap is_to_controller replaces.receiver) (by_body later.body replaces.says)
  where
    by_body : (body : Body) → (body ≡ Installed 0 boot version)
        ⊎ IsTrue (is_machine_later_body body (Installed 0 boot version)) → IsTrue (is_answer_of_a body)
    by_body body (inl same) = ap is_answer_of_a same
    by_body (Installed s of earlier) (inr later) = absurd (true≢false (sym later))
    by_body _ (inr later) = absurd (true≢false (sym later))

not_quiet_without_answer : IsQuietMachineJournal open_net answer_lost_journal → ⊥
unfolding left_by
not_quiet_without_answer quiet =
    unreceived (λ later. is_to_controller later.to && is_answer_of_a later.body) 4
    (to_controller (Installed 0 1 2)) (answer_passes 1 2) (drop 10 answer_lost_journal) refl refl
    (quiet.messages.1.1.1.0 0 (omega arith) (refl {a = true}))

-- ---- nothing old is left

-- one round: a crashes and restarts, gets the tables of both versions while it joins, and its
-- acknowledgements arrive once the first one is retired
abbrev joining : List Step
joining = Crash 0 ∷ Restart 0 ∷ Deliver 1 ∷ Deliver 2 ∷ Update 2 ∷ Deliver 4 ∷ Deliver 5 ∷ Deliver 7
    ∷ Deliver 8 ∷ Deliver 9 ∷ recipe

abbrev joining_front : List Item
joining_front = journal_after_steps open_net [] (numbered 1 joining)

abbrev joining_flush : List MachineStepOfRow
joining_flush = flush 24 open_net 15 joining_front

abbrev joining_journal : List Item
joining_journal = journal_after_steps open_net [] (numbered 1 joining ++ joining_flush)

one_round : Answers open_net (map One joining ++ Flush ∷ []) joining_journal
unfolding left_by
one_round = record {
  steps = numbered 1 joining ++ joining_flush;
  allowed = flushed open_net 1 joining [] joining_flush
      (all_flushed 24 open_net 15 joining_front refl);
  written = refl;
}

one_recovers : EndsInRecovery open_net.net (map One joining ++ Flush ∷ [])
one_recovers = in_recovery (take 10 joining)

not_held : true ≡ false → ⊥
not_held is = cc

not_after_one_round : HoldNewestAlone open_net joining_journal → ⊥
unfolding left_by
not_after_one_round newest = not_held (newest 0 1 (omega arith) refl)

-- nor does it help that this network is quiet
abbrev all_delivered : List Item → Bool
all_delivered [] = true
all_delivered (Item.Sent number message ∷ after) = was_delivered_in_journal after number && all_delivered after
all_delivered (_ ∷ after) = all_delivered after

all_received : (setting : Setting) (journal items : List Item) → IsTrue (all_delivered items)
    → AreMachineMessagesReceived setting journal items
all_received setting journal [] all = tt
all_received setting journal (Item.Sent number message ∷ after) all = (
  λ s there m. inl (and_parts (was_delivered_in_journal after number) _ all).0,
  all_received setting journal after (and_parts (was_delivered_in_journal after number) _ all).1,
)
all_received setting journal (_ ∷ after) all = all_received setting journal after all

quiet_after_one_round : IsQuietMachineJournal open_net joining_journal
unfolding left_by
quiet_after_one_round = record {
  switches = All-from_recursion
      (λ s. IsTrue (is_up joining_journal s || not (is_waited_for_in_journal joining_journal s)))
      (0 ∷ 1 ∷ []) (refl {a = true}, (refl {a = true}, tt));
  messages = all_received open_net joining_journal joining_journal (refl {a = true});
}

-- ---- rollouts

not_lost : (Some (Crash 0) ≡ Some (Lose 1)) → ⊥
not_lost is = cc

-- a switch that crashes loses its packets
abbrev crashed : List Step
crashed = Packet 0 one ∷ Crash 0 ∷ []

abbrev crashed_journal : List Item
crashed_journal = journal_after_steps open_net [] (numbered 1 crashed)

with_crash : Answers open_net (map One crashed) crashed_journal
with_crash = record {
  steps = numbered 1 crashed;
  allowed = single open_net 1 crashed [];
  written = refl;
}

not_with_crash : JournalItemsHaveCauses (ForwardingDropsNothing open_net) [] crashed_journal → ⊥
unfolding left_by
not_with_crash have = not_lost have.1.1.1.1.1.0

-- and where a link fails a packet may find it down and be stuck
abbrev link_failed : List Step
link_failed = Packet 0 one ∷ LinkDown 0 1 ∷ Hop 1 ∷ []

abbrev link_failed_journal : List Item
link_failed_journal = journal_after_steps open_net [] (numbered 1 link_failed)

with_link_down : Answers open_net (map One link_failed) link_failed_journal
with_link_down = record {
  steps = numbered 1 link_failed;
  allowed = single open_net 1 link_failed [];
  written = refl;
}

not_with_link_down : NoneIsStuck link_failed_journal → ⊥
unfolding left_by
not_with_link_down none =
    none 1 0 NoAuthority (Seek 1 0) (with_failover_link no_failover_links 0 1) (7, omega arith, refl)

-- where the links of the network lead to no target, a packet is stuck though nothing fails
abbrev apart_net : Setting
apart_net = record {
  net = network (switch (codes "a") 2 0 ∷ switch (codes "b") 4 100 ∷ []) [];
  files = out_or_drop;
  plan = by_action (Ok plan_p) (Ok plan_q);
}

abbrev one_packet : List Step
one_packet = Packet 0 one ∷ []

nothing_failed : NothingFailsInRollout (map One one_packet)
nothing_failed = All-cons RolloutFailsNothing (One (Packet 0 one)) [] refl (All-nil RolloutFailsNothing)

abbrev cut_off_journal : List Item
cut_off_journal = journal_after_steps apart_net [] (numbered 1 one_packet)

unconnected : Answers apart_net (map One one_packet) cut_off_journal
unconnected = record {
  steps = numbered 1 one_packet;
  allowed = single apart_net 1 one_packet [];
  written = refl;
}

not_unconnected : NoneIsStuck cut_off_journal → ⊥
unfolding left_by
not_unconnected none = none 1 0 NoAuthority (Seek 1 0) no_failover_links (2, omega arith, refl)

-- and before a drain a packet still travels
abbrev undrained_journal : List Item
undrained_journal = journal_after_steps open_net [] (numbered 1 one_packet)

undrained : Answers open_net (map One one_packet) undrained_journal
undrained = record {
  steps = numbered 1 one_packet;
  allowed = single open_net 1 one_packet [];
  written = refl;
}

abbrev is_end : Item → Bool
is_end (Item.Dropped packet) = true
is_end (Item.Left packet port leaving) = true
is_end (Item.Lost packet) = true
is_end _ = false

abbrev has_end : List Item → Bool
has_end [] = false
has_end (first ∷ rest) = is_end first || has_end rest

ends_end : (setting : Setting) (packet : ℕ) (before : List Item) (found : Item)
    → RolloutEndsRightly setting packet before found → IsTrue (is_end found)
ends_end setting packet before (Item.Dropped i) own = refl
ends_end setting packet before (Item.Left i port leaving) own = refl
ends_end setting packet before (Item.Lost i) own = refl
ends_end setting packet before _ own = absurd own

end_there : (before : List Item) (found : Item) (rest : List Item) → IsTrue (is_end found)
    → IsTrue (has_end (before ++ found ∷ rest))
end_there [] found rest is = ap (λ b. b || has_end rest) is
end_there (first ∷ before) found rest is =
    ap (λ b. is_end first || b) (end_there before found rest is) ∙ either (is_end first)
  where
    either : (b : Bool) → (b || true) ≡ true
    either true = refl
    either false = refl

not_undrained : RolloutAccountsForAll open_net undrained_journal → ⊥
unfolding left_by
not_undrained all = by_end (all 1 0 one (1, omega arith, refl)) where
  by_end : RolloutHasItem (RolloutEndsRightly open_net 1) undrained_journal → ⊥
  by_end ended = true≢false (sym (end_there ended.before ended.found ended.rest
      (ends_end open_net 1 ended.before ended.found ended.own)) ∙ sym (ap has_end ended.stands))
