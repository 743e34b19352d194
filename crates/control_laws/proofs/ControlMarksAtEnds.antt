-- At the end of each step the marks are settled.
use Rattle.std.proofs.Common.{[], ◌++◌, ◌+◌, ◌<◌, ◌∙◌, ◌∷◌, ◌≡◌, ◌≤◌, All, Bool, IsTrue, List, None, Option, Some, append-nil, append_assoc, arith, drop, false, fold, get_or, inl, length, min, refl, subst, suc, sym, take, take-append-drop, true, unwrap_or, ℕ, rules}
use Rattle.update_machine.specs.Exports.{JournalAnswersSoFar, AreMachineMarksSettled, JournalBeginsAnswer, Body, Deliver, Event, Forget, JournalItemsHaveCauses, Hello, Hop, Install, Installed, IsJournalReached, IsMachineSetting, Item, Lose, Message, Place, Setting, Step, MachineStepOfRow, Update, acked_stamp, machine_after_hello, journal_after_steps, machine_all_acked, machine_confirm_items, journal_controller_heard, machine_controller_items, journal_current_mark, machine_deliver_items, machine_delivery_items, has_acked, machine_installs_to, machine_installs_to_all, is_member, is_journal_controller_message, is_over, journal_known_boot, machine_least_number, members, journal_message_of, journal_next_retired, nothing, journal_opened_at, piece, journal_retired_mark, machine_settling, machine_step_items, machine_switches_of, machine_message_to_switch, machine_update_items, journal_version_count}
use Rattle.ctrl_msg.specs.Exports.{message_to_controller}
use Rattle.update_machine.proofs.Exports.{AreOf, HasNexts, IsEventOf, answers_so_far, begins_itself, first_steps_are, have_append, have_take, open_net, start_laws}
use Rattle.control_laws.specs.Exports.{HasControlItemCause, ControlLawHoldsAtEnds, ControlLawHoldsReached, ControlMarkRiseHasCause, control_asks_controller}
use Rattle.control_laws.proofs.ControlVersionTrials.{second}
use Rattle.base.proofs.Exports.{⊤, All-from_recursion, AllByRecursion, each_always, each_map, take-append_seam}
use Rattle.steps.specs.Exports.{IsEventOfSteps, IsStep}
use Rattle.control_laws.proofs.ControlFactsGrown.{FromCauses, have_front, have_weaker}
use Rattle.control_laws.proofs.ControlMessageSends.{each_of_network}
use Rattle.control_laws.proofs.ControlMarkLaws.{bounded}
use Rattle.control_laws.proofs.ControlStampingSwitches.{at_ends}
use Rattle.control_laws.proofs.ControlPieceCauses.{pieces_have}
use Rattle.control_laws.proofs.ControlSaidToController.{confirm_cases, deliver_cases, update_cases}
use Rattle.control_laws.proofs.ControlCurrentVersions.{current_at_first, next_below}
use Rattle.control_laws.proofs.ControlIdleSteps.{Leave, installs_reopen, leaves_keep, others_keep, sends_leave}
use Rattle.control_laws.proofs.ControlMarksSettle.{NoneJoins, in_two, settled_on, settles}

-- ---- steps for the controller, and rises of the current mark, computed on two switches

abbrev answered : List Item
answered = Item.Submitted 2 2 ∷ Item.Sent 1 (machine_message_to_switch 0 (Install 1 second)) ∷ Item.Delivered 1
    ∷ Item.Sent 2 (message_to_controller (Installed 0 1 2)) ∷ []

-- the acknowledgement is for the controller, the tables are not, nor is a message that wasn't sent
its_answer : control_asks_controller answered (Step.Deliver 2) ≡ true
unfolding journal_message_of
its_answer = refl

not_its_tables : control_asks_controller answered (Step.Deliver 1) ≡ false
unfolding journal_message_of
not_its_tables = refl

not_unsent : control_asks_controller answered (Step.Deliver 3) ≡ false
unfolding journal_message_of
not_unsent = refl

an_update : control_asks_controller answered (Step.Update 1) ≡ true
an_update = refl

not_a_crash : control_asks_controller answered (Step.Crash 0) ≡ false
not_a_crash = refl

-- ---- rises of the current mark

only_two : (v : ℕ) → 1 < v → v ≤ 2 → 2 ≡ v
only_two v above below = omega (arith, above, below)

abbrev both_answered : List Item
both_answered = answered ++ Item.Sent 3 (message_to_controller (Installed 1 1 2)) ∷ Item.Delivered 2
    ∷ Item.Delivered 3 ∷ []

rises : ControlMarkRiseHasCause open_net both_answered (Item.Current 2)
unfolding journal_controller_heard journal_current_mark has_acked is_member is_over journal_known_boot journal_message_of journal_opened_at
    journal_version_count
rises = record {
  rises = omega arith;
  there = omega arith;
  acknowledged = λ v above below.
      subst (λ n. IsTrue (machine_all_acked open_net both_answered n)) (only_two v above below) refl;
}

-- not before both switches are heard
not_before : ControlMarkRiseHasCause open_net answered (Item.Current 2) → ⊥
unfolding journal_controller_heard journal_current_mark has_acked is_member is_over journal_known_boot journal_message_of journal_opened_at
    journal_version_count
not_before rises =
    let no : false ≡ true = rises.acknowledged 2 (omega arith) (omega arith) in absurd cc

-- nor to a version that isn't there
not_to_third : ControlMarkRiseHasCause open_net both_answered (Item.Current 3) → ⊥
unfolding journal_version_count
not_to_third rises = absurd (omega (arith, rises.there))

-- ---- journals of steps of the network: whatever causes each of their pieces has, such a journal
-- has

-- the step names switches, links and files that are there; packets and messages have any number, as
-- a flush and a drain end only where they end
abbrev pub NamesOwn : Setting → Step → Type 0
NamesOwn setting (Hop packet) = ⊤
NamesOwn setting (Lose packet) = ⊤
NamesOwn setting (Deliver message) = ⊤
NamesOwn setting (Forget message) = ⊤
NamesOwn setting step = IsStep setting.net (length setting.files) step

names_own : (setting : Setting) (step : Step)
    → IsStep setting.net (length setting.files) step → NamesOwn setting step
names_own setting (Hop packet) is = tt
names_own setting (Lose packet) is = tt
names_own setting (Deliver message) is = tt
names_own setting (Forget message) is = tt
names_own setting step is = is

pub has_nexts : (setting : Setting) → HasNexts (NamesOwn setting)
has_nexts setting = record { delivery = λ number. tt; hop = λ packet. tt }

-- each piece of such a step has these causes
abbrev pub OwnPiecesHave : (List Item → Item → Type 0) → Setting → Type 0
OwnPiecesHave cause setting = (journal : List Item) (row : ℕ) (step : Step)
    → NamesOwn setting step → JournalItemsHaveCauses cause journal (piece setting journal row step)

pub own_steps : (setting : Setting) (steps : List MachineStepOfRow)
    → All (λ (next : MachineStepOfRow). IsStep setting.net (length setting.files) next.step) steps
    → AreOf (NamesOwn setting) steps
own_steps setting [] own = tt
own_steps setting (next ∷ steps) own = (
  names_own setting next.step (own 0 next (omega arith)),
  own_steps setting steps (λ k d within. own (suc k) d (omega (arith, within))),
)

pub own_event : (setting : Setting) (event : Event)
    → IsEventOfSteps setting.net (length setting.files) event → IsEventOf (NamesOwn setting) event
own_event setting event is = search rules

-- what is true after the row and then its items is true after the piece
pub behind_piece : (setting : Setting) (journal : List Item) (row : ℕ) (step : Step)
    (Fact : List Item → Type 0)
    → (let here = journal ++ Item.Row row step ∷ [] in
    Fact (here ++ machine_step_items setting journal step here))
    → Fact (journal ++ piece setting journal row step)
unfolding piece
behind_piece setting journal row step Fact = subst Fact (append_assoc journal
    (Item.Row row step ∷ []) (machine_step_items setting journal step (journal ++ Item.Row row step ∷ [])))

-- what holds at first, and behind each piece of such a step where it held before it
pub record IsCarried (setting : Setting) (Fact : List Item → Type 0) : Type 0 where
  pub first : Fact []
  pub piece : (journal : List Item) (row : ℕ) (step : Step) → NamesOwn setting step
      → Fact journal → Fact (journal ++ piece setting journal row step)

pub carried_on : (setting : Setting) (Fact : List Item → Type 0) → IsCarried setting Fact
    → (before : List Item) (steps : List MachineStepOfRow) → AreOf (NamesOwn setting) steps → Fact before
    → Fact (journal_after_steps setting before steps)
carried_on setting Fact carried before [] own is = is
carried_on setting Fact carried before (next ∷ steps) own is =
    carried_on setting Fact carried (before ++ piece setting before next.row next.step) steps
    own.1 (carried.piece before next.row next.step own.0 is)

pub reached_carries : (setting : Setting) (Fact : List Item → Type 0) → IsCarried setting Fact
    → (journal : List Item) → IsJournalReached setting journal → Fact journal
reached_carries setting Fact carried journal reached = rw reached.written (carried_on setting Fact
    carried [] reached.steps (own_steps setting reached.steps reached.own) carried.first)

pub so_far_carries : (setting : Setting) (Fact : List Item → Type 0) → IsCarried setting Fact
    → (events : List Event) (journal : List Item)
    → All (IsEventOfSteps setting.net (length setting.files)) events
    → JournalAnswersSoFar setting events journal → Fact journal
so_far_carries setting Fact carried events journal own answers = subst Fact (sym answers.written)
    (carried_on setting Fact carried [] answers.steps
    (first_steps_are (NamesOwn setting) (has_nexts setting) setting 1 events [] answers.steps (λ k d
    within. own_event setting (get_or events k d) (own k d within)) answers.allowed) carried.first)

-- so what follows for all first items of journals with such a fact is true of each reached journal
pub carried_reached : (Fact Holds : Setting → List Item → Type 0)
    → ((setting : Setting) → IsCarried setting (Fact setting))
    → ((setting : Setting) (journal rest : List Item) → Fact setting (journal ++ rest)
    → Holds setting journal) → ControlLawHoldsReached Holds
carried_reached Fact Holds carried firsts = record {
  reached = λ setting journal is. firsts setting journal [] (rw (append-nil journal)
      (reached_carries setting (Fact setting) (carried setting) journal is));
  within = λ setting journal rest is. firsts setting journal rest
      (reached_carries setting (Fact setting) (carried setting) (journal ++ rest) is);
  answered = λ setting events journal own answers. begun setting events journal own
      (begins_itself setting events journal (answers_so_far setting events journal answers));
  begun = begun;
} where
  begun : (setting : Setting) (events : List Event) (journal : List Item)
      → All (IsEventOfSteps setting.net (length setting.files)) events
      → JournalBeginsAnswer setting events journal → Holds setting journal
  begun setting events journal own begins = subst (Holds setting) (sym begins.written)
      (firsts setting (take begins.length begins.whole) (drop begins.length begins.whole)
      (subst (Fact setting) (sym (take-append-drop begins.length begins.whole)) (so_far_carries
      setting (Fact setting) (carried setting) events begins.whole own begins.answers)))

-- the first items have their causes
pub begin_has : (cause : List Item → Item → Type 0) (journal rest : List Item)
    → JournalItemsHaveCauses cause [] (journal ++ rest) → JournalItemsHaveCauses cause [] journal
begin_has cause journal rest whole = subst (JournalItemsHaveCauses cause []) (take-append_seam journal rest)
    (have_take cause [] (journal ++ rest) (length journal) whole)

-- as one that holds where items have these causes
pub reached : (Holds : Setting → List Item → Type 0) (cause : Setting → List Item → Item → Type 0)
    → ((setting : Setting) (journal : List Item) → JournalItemsHaveCauses (cause setting) [] journal
    → Holds setting journal) → ((setting : Setting) → OwnPiecesHave (cause setting) setting)
    → ControlLawHoldsReached Holds
reached Holds cause caused pieces = carried_reached _ Holds (λ setting. record {
  first = tt;
  piece = λ journal row step own have.
      have_append (cause setting) [] journal _ have (pieces setting journal row step own);
})
    (λ setting journal rest have. caused setting journal (begin_has _ journal rest have))

-- ---- facts of networks that are as settings should be

abbrev pub OfSettings : (Setting → List Item → Type 0) → Setting → List Item → Type 0
OfSettings Fact setting journal = IsMachineSetting setting → Fact setting journal

pub setting_carries : (Fact : Setting → List Item → Type 0)
    → ((setting : Setting) → Fact setting [])
    → ((setting : Setting) (journal : List Item) (row : ℕ) (step : Step) → IsMachineSetting setting
    → NamesOwn setting step → Fact setting journal
    → Fact setting (journal ++ piece setting journal row step))
    → (setting : Setting) → IsCarried setting (OfSettings Fact setting)
setting_carries Fact first behind setting = search rules

-- if such a fact gives the items their causes, what follows from these is true of reached journals
pub reached_by : (Fact Holds : Setting → List Item → Type 0)
    (cause : Setting → List Item → Item → Type 0)
    → ((setting : Setting) → IsCarried setting (OfSettings Fact setting))
    → ((setting : Setting) (journal : List Item) → Fact setting journal
    → JournalItemsHaveCauses (cause setting) [] journal) → ((setting : Setting) (journal : List Item)
    → IsMachineSetting setting → JournalItemsHaveCauses (cause setting) [] journal → Holds setting journal)
    → ControlLawHoldsReached (OfSettings Holds)
reached_by Fact Holds cause carried causes caused = carried_reached (OfSettings Fact)
    (OfSettings Holds) carried (λ setting journal rest fact is. caused setting journal is
    (begin_has (cause setting) journal rest (causes setting (journal ++ rest) (fact is))))

-- ---- where the current mark rises; the retired one is never above what the members' acknowledged
-- stamps allow.

fold_above : (bound first : ℕ) (xs : List ℕ) → bound ≤ first
    → AllByRecursion (λ x. bound ≤ x) xs → bound ≤ fold min first xs
fold_above bound first [] above all = above
fold_above bound first (x ∷ xs) above all =
    fold_above bound (min first x) xs (omega (arith, above, all.0)) all.1

-- what is at most each of some numbers is at most the least of them
least_above : (bound other : ℕ) (xs : List ℕ) → bound ≤ other
    → AllByRecursion (λ x. bound ≤ x) xs → bound ≤ unwrap_or (machine_least_number xs) other
least_above bound other [] above all = above
least_above bound other (x ∷ xs) above all = fold_above bound x xs all.0 all.1

-- so the retired mark is at most the next one
pub behind : FromCauses (λ setting journal. journal_retired_mark journal ≤ journal_next_retired setting journal)
unfolding journal_next_retired
behind setting journal have =
    let are = bounded setting journal have in
    let above = least_above (journal_retired_mark journal + 1) (journal_current_mark journal) _
    (omega (arith, are.retired)) (each_map (λ x. journal_retired_mark journal + 1 ≤ x) (acked_stamp journal)
    (members setting journal) (each_of_network _ setting (is_member journal)
    (λ s there member. omega (arith, are.stamped s there member)))) in
    omega (arith, above)

-- ---- rises of current

rises_one : (setting : Setting) (before : List Item) (next : Item)
    → HasControlItemCause setting before next → ControlMarkRiseHasCause setting before next
rises_one setting before (Item.Current version) cause = cause
rises_one setting before _ cause = tt

pub rises_rightly : FromCauses (λ setting. JournalItemsHaveCauses (ControlMarkRiseHasCause setting) [])
rises_rightly setting journal have = search (rules, have_weaker)

-- ---- marks at ends

-- each item has its cause
abbrev AreCaused : Setting → List Item → Type 0
AreCaused setting journal = JournalItemsHaveCauses (HasControlItemCause setting) [] journal

settled_in : (setting : Setting) (now : List Item) → AreCaused setting (now ++ machine_settling setting now)
    → AreMachineMarksSettled setting (now ++ machine_settling setting now)
settled_in setting now have =
    let caused = have_front (HasControlItemCause setting) [] now (machine_settling setting now) have in
    settles setting now (bounded setting now caused).there
    (behind setting (now ++ machine_settling setting now) have)

-- items that leave the controller leave it settled
left_settled : (setting : Setting) (journal items : List Item) → Leave journal items
    → AreMachineMarksSettled setting journal → AreMachineMarksSettled setting (journal ++ items)
left_settled setting journal items leave settled = search (rules, settled_on, leaves_keep)

-- ---- what is delivered to the controller

installs_leave : (setting : Setting) (s : ℕ) (journal : List Item)
    → Leave journal (machine_installs_to setting s journal)
unfolding machine_installs_to
installs_leave setting s journal = sends_leave journal _ (installs_reopen setting journal s _)

hello_leaves : (setting : Setting) (before : List Item) (body : Body) (journal : List Item)
    → Leave journal (machine_after_hello setting before body journal)
hello_leaves setting before (Hello s boot) journal = grind (arith, installs_leave)
hello_leaves setting before _ journal = tt

heard_settled : (setting : Setting) (before : List Item) (body : Body) (now : List Item)
    → AreCaused setting (now ++ machine_controller_items setting before body now)
    → AreMachineMarksSettled setting (now ++ machine_controller_items setting before body now)
unfolding machine_controller_items
heard_settled setting before body now =
    let one : List Item = now ++ machine_settling setting now in
    let hello : List Item = machine_after_hello setting before body one in
    subst (λ js. AreCaused setting js → AreMachineMarksSettled setting js)
    (sym (in_two (machine_settling setting) (machine_after_hello setting before body) now))
    (λ have. left_settled setting one hello (hello_leaves setting before body one)
    (settled_in setting now (have_front (HasControlItemCause setting) [] one hello have)))

-- a message to the controller is there
pub told_is : (before : List Item) (number : ℕ) → IsTrue (is_journal_controller_message before number)
    → (body : Body) × (journal_message_of before number ≡ Some (message_to_controller body))
told_is before number is = by_message (journal_message_of before number) refl is where
  by_receiver : (to : Place) (body : Body)
      → journal_message_of before number ≡ Some (record { to = to; body = body })
      → IsTrue (is_journal_controller_message before number)
      → (body : Body) × (journal_message_of before number ≡ Some (message_to_controller body))
  by_receiver Place.Controller body e is = (body, e)
  by_receiver (Place.Switch s) body e is = let no : false ≡ true = rw e at is in absurd cc

  by_message : (o : Option Message) → journal_message_of before number ≡ o
      → IsTrue (is_journal_controller_message before number)
      → (body : Body) × (journal_message_of before number ≡ Some (message_to_controller body))
  by_message None e is = let no : false ≡ true = rw e at is in absurd cc
  by_message (Some message) e is = by_receiver message.to message.body e is

delivered_settled : (setting : Setting) (before : List Item) (number : ℕ) (now : List Item)
    → IsTrue (is_journal_controller_message before number)
    → AreCaused setting (now ++ machine_delivery_items setting before number now)
    → AreMachineMarksSettled setting (now ++ machine_delivery_items setting before number now)
unfolding machine_delivery_items
delivered_settled setting before number now is = search (rules, told_is, heard_settled)

-- where the items have their causes the marks are settled
abbrev Settles : Setting → List Item → Type 0
Settles setting journal = AreCaused setting journal → AreMachineMarksSettled setting journal

deliver_settled : (setting : Setting) (before : List Item) (number : ℕ) (here : List Item)
    → IsTrue (is_journal_controller_message before number) → AreMachineMarksSettled setting here
    → Settles setting (here ++ machine_deliver_items setting before number here)
deliver_settled setting before number here is settled = deliver_cases (Settles setting) setting
    before number here (λ have. left_settled setting here nothing (tt, tt) settled)
    (delivered_settled setting before number (here ++ Item.Delivered number ∷ []) is)

-- ---- an update, and a confirmation

update_settled : (setting : Setting) (file : ℕ) (here : List Item) → AreMachineMarksSettled setting here
    → Settles setting (here ++ machine_update_items setting file here)
update_settled setting file here settled =
    let now : List Item = here ++ Item.Submitted file (journal_version_count here + 1) ∷ [] in
    update_cases (Settles setting) setting file here
    (λ code have. left_settled setting here (Item.Refused file code ∷ []) (tt, tt) settled)
    (settled_in setting (now ++ machine_installs_to_all setting now))

confirm_settled : (setting : Setting) (s : ℕ) (here : List Item) → AreMachineMarksSettled setting here
    → Settles setting (here ++ machine_confirm_items setting s here)
confirm_settled setting s here settled = confirm_cases (Settles setting) setting s here
    (λ have. left_settled setting here nothing (tt, tt) settled) (settled_in setting _)

-- ---- steps

told_settled : (setting : Setting) (before here : List Item) (step : Step)
    → IsTrue (control_asks_controller before step) → AreMachineMarksSettled setting here
    → Settles setting (here ++ machine_step_items setting before step here)
told_settled setting before here step is settled =
    search (rules, deliver_settled, update_settled, confirm_settled)

step_settled : (setting : Setting) (before : List Item) (row : ℕ) (step : Step)
    → AreMachineMarksSettled setting before → Settles setting (before ++ piece setting before row step)
step_settled setting before row step settled = by_kind (control_asks_controller before step) refl where
  by_kind : (b : Bool) → control_asks_controller before step ≡ b
      → Settles setting (before ++ piece setting before row step)
  by_kind false e = λ have. settled_on _ before _ (others_keep setting before row step e) settled
  by_kind true e = behind_piece setting before row step (Settles setting) (told_settled setting
      before _ step e (left_settled setting before (Item.Row row step ∷ []) (tt, tt) settled))

steps_settled : (setting : Setting) (before : List Item) (steps : List MachineStepOfRow)
    → AreCaused setting before → AreMachineMarksSettled setting before
    → AreMachineMarksSettled setting (journal_after_steps setting before steps)
steps_settled setting before [] have settled = settled
steps_settled setting before (next ∷ steps) have settled =
    let after : List Item = before ++ piece setting before next.row next.step in
    let caused : AreCaused setting after = have_append (HasControlItemCause setting) [] before _ have
    (pieces_have setting before next.row next.step) in
    steps_settled setting after steps caused
    (step_settled setting before next.row next.step settled caused)

-- ---- the beginning

none_joins_first : (s : ℕ) → NoneJoins [] s
none_joins_first s joins = search (rules, start_laws)

first_settled : (setting : Setting) → AreMachineMarksSettled setting []
first_settled setting = record {
  current = inl (start_laws.current ∙ sym start_laws.count);
  joining = All-from_recursion (NoneJoins []) (machine_switches_of setting)
      (each_always (NoneJoins []) none_joins_first (machine_switches_of setting));
  retired = let current = start_laws.current in
      omega (arith, start_laws.retired, current, next_below setting [] current_at_first);
}

pub settled_at_ends : ControlLawHoldsAtEnds (λ setting journal. AreMachineMarksSettled setting journal)
settled_at_ends = search (rules, at_ends, steps_settled, first_settled)
