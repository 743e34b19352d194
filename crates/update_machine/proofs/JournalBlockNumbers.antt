-- Each block of a piece takes the next numbers.
use Rattle.base.proofs.Exports.{⊤, flat_map-append, option_or, option_or-assoc, option_or-none, sum_by-append}
use Rattle.std.proofs.Common.{[], ◌++◌, ◌+◌, ◌∙◌, ◌∷◌, ◌≡◌, ◌≤◌, Bool, List, None, Option, Some, ap, append-nil, append_assoc, arith, map, refl, subst, suc, sym, take, zero, ℕ}
use Rattle.update_machine.specs.Exports.{Action, MachineAuthorityRule, JournalBeginsAnswer, Body, Confirm, Crash, Deliver, Event, Exit, Expire, Forget, Found, JournalItemsHaveCauses, Header, Hop, How, Item, Leg, LinkDown, LinkUp, Lose, Message, Packet, Resend, Restart, Seek, Setting, Step, MachineStepOfRow, MachineTakesNextNumber, Update, machine_after_hello, journal_after_steps, journal_all_given, journal_leg_arrival_items, machine_arrive_items, machine_authority_items, journal_authority_rule, journal_cache_items, machine_confirm_items, machine_controller_items, machine_count_of, journal_crash_items, machine_current_items, machine_deliver_items, machine_delivery_items, machine_end_items, machine_expire_items, journal_first_given, folded_journal_from, journal_folded_value, machine_forget_items, machine_found_items, machine_onward_items, journal_packet_header_at, machine_hop_items, machine_blocks_in_turn, machine_installs_to, machine_installs_to_all, is_machine_packet_entry, is_machine_sending_item, journal_items_then, journal_last_given, machine_leg_items, journal_leg_of, journal_link_changes, machine_link_items, machine_lookup_at, machine_lookup_items, machine_lose_items, machine_move_items, journal_next_message, journal_next_packet, machine_open_items, machine_packet_items, piece, journal_reroute_by, machine_reroute_items, machine_resend_items, machine_restart_items, machine_retired_items, machine_send_items, machine_sends_or_nothing, machine_sent_items_from, machine_settling, journal_stamp_of, machine_step_items, machine_submitted_items, journal_switch_items, machine_update_items}

-- ---- causes of items, for any table of causes

-- causes go on by causes
pub have_append : (cause : List Item → Item → Type 0) (before xs ys : List Item)
    → JournalItemsHaveCauses cause before xs → JournalItemsHaveCauses cause (before ++ xs) ys
    → JournalItemsHaveCauses cause before (xs ++ ys)
have_append cause before [] ys first then = rw (append-nil before) at then
have_append cause before (x ∷ xs) ys first then = (
  first.0,
  have_append cause (before ++ x ∷ []) xs ys first.1 (rw (append_assoc before (x ∷ []) xs) then),
)

-- items, and what comes behind a journal that has them
pub have_put : (cause : List Item → Item → Type 0) (items : List Item)
    (rest : List Item → List Item) (journal : List Item) →
    JournalItemsHaveCauses cause journal items → JournalItemsHaveCauses cause (journal ++ items) (rest (journal ++ items))
    → JournalItemsHaveCauses cause journal (journal_items_then items rest journal)
have_put cause items rest journal first then = have_append cause journal items
    (rest (journal ++ items)) first then

-- the same of one item
pub have_first : (cause : List Item → Item → Type 0) (item : Item) (rest : List Item → List Item)
    (journal : List Item) →
    cause journal item → JournalItemsHaveCauses cause (journal ++ item ∷ []) (rest (journal ++ item ∷ []))
    → JournalItemsHaveCauses cause journal (journal_items_then (item ∷ []) rest journal)
have_first cause item rest journal first then = have_put cause (item ∷ []) rest journal (first, tt)
    then

-- each of the blocks has its causes behind any journal
abbrev pub BlocksHave : (List Item → Item → Type 0) → List (List Item → List Item) → Type 0
BlocksHave cause [] = ⊤
BlocksHave cause (block ∷ blocks) = ((now : List Item) → JournalItemsHaveCauses cause now (block now))
    × BlocksHave cause blocks

-- and so they have them in turn
pub have_in_turn : (cause : List Item → Item → Type 0) (blocks : List (List Item → List Item))
    → BlocksHave cause blocks →
    (journal : List Item) → JournalItemsHaveCauses cause journal (machine_blocks_in_turn blocks journal)
have_in_turn cause [] all journal = tt
have_in_turn cause (block ∷ blocks) all journal = have_put cause (block journal) (machine_blocks_in_turn blocks)
    journal (all.0 journal) (have_in_turn cause blocks all.1 (journal ++ block journal))

-- ---- whatever causes each piece has, an answer has, and so has each beginning of one

-- the first items have their causes
pub have_take : (cause : List Item → Item → Type 0) (before xs : List Item) (n : ℕ)
    → JournalItemsHaveCauses cause before xs → JournalItemsHaveCauses cause before (take n xs)
have_take cause before xs zero causes = tt
have_take cause before [] (suc n) causes = tt
have_take cause before (x ∷ xs) (suc n) causes =
    (causes.0, have_take cause (before ++ x ∷ []) xs n causes.1)

-- each piece has these causes
abbrev pub PiecesHave : (List Item → Item → Type 0) → Setting → Type 0
PiecesHave cause setting = (journal : List Item) (row : ℕ) (step : Step)
    → JournalItemsHaveCauses cause journal (piece setting journal row step)

-- so the journal of any steps has them
pub steps_have : (cause : List Item → Item → Type 0) (setting : Setting) → PiecesHave cause setting
    → (before : List Item) (steps : List MachineStepOfRow) → JournalItemsHaveCauses cause [] before
    → JournalItemsHaveCauses cause [] (journal_after_steps setting before steps)
steps_have cause setting pieces before [] causes = causes
steps_have cause setting pieces before (next ∷ steps) causes = steps_have cause setting pieces
    (before ++ piece setting before next.row next.step) steps (have_append cause [] before
    (piece setting before next.row next.step) causes (pieces before next.row next.step))

pub begun_has : (cause : List Item → Item → Type 0) (setting : Setting) → PiecesHave cause setting
    → (events : List Event) (journal : List Item) → JournalBeginsAnswer setting events journal
    → JournalItemsHaveCauses cause [] journal
begun_has cause setting pieces events journal begins = subst (JournalItemsHaveCauses cause [])
    (sym begins.written) (have_take cause [] begins.whole begins.length (subst (JournalItemsHaveCauses cause [])
    (sym begins.answers.written) (steps_have cause setting pieces [] begins.answers.steps tt)))

-- ---- what a journal says once more items stand behind it, one law for each of the folds

-- the last that was told in two parts is that of the second, or else that of the first
pub last_given_append : {X : Type 0} (tells : Item → Option X) (before items : List Item)
    → journal_last_given tells (before ++ items) ≡ option_or (journal_last_given tells items)
    (journal_last_given tells before)
last_given_append tells [] items = sym (option_or-none (journal_last_given tells items))
last_given_append tells (item ∷ before) items = ap (λ o. option_or o (tells item))
    (last_given_append tells before items)
    ∙ option_or-assoc (journal_last_given tells items) (journal_last_given tells before) (tells item)

-- the first that was told is that of the first part, or else that of the second
pub first_given_append : {X : Type 0} (tells : Item → Option X) (before items : List Item) →
    journal_first_given tells (before ++ items)
    ≡ option_or (journal_first_given tells before) (journal_first_given tells items)
first_given_append tells [] items = refl
first_given_append tells (item ∷ before) items =
    ap (option_or (tells item)) (first_given_append tells before items)
    ∙ sym (option_or-assoc (tells item) (journal_first_given tells before) (journal_first_given tells items))

pub count_of_append : (test : Item → Bool) (before items : List Item)
    → machine_count_of test (before ++ items) ≡ machine_count_of test before + machine_count_of test items
count_of_append test before items = sum_by-append _ before items

pub all_given_append : {X : Type 0} (gives : Item → List X) (before items : List Item)
    → journal_all_given gives (before ++ items) ≡ journal_all_given gives before ++ journal_all_given gives items
all_given_append gives before items = flat_map-append gives before items

-- items behind others go on from what those made of the value, and from the journal with them
pub folded_from_append : {X : Type 0} (changes : List Item → X → Item → X) (first : List Item)
    (value : X) (before items : List Item) → folded_journal_from changes first value (before ++ items)
    ≡ folded_journal_from changes (first ++ before) (folded_journal_from changes first value before) items
folded_from_append changes first value [] items = cc (append-nil first)
folded_from_append changes first value (item ∷ before) items =
    folded_from_append changes (first ++ item ∷ []) (changes first value item) before items
    ∙ ap (λ js. folded_journal_from changes js
    (folded_journal_from changes (first ++ item ∷ []) (changes first value item) before) items)
    (append_assoc first (item ∷ []) before)

pub folded_append : {X : Type 0} (changes : List Item → X → Item → X) (start : X)
    (before items : List Item) →
    journal_folded_value changes start (before ++ items) ≡ folded_journal_from changes before
    (journal_folded_value changes start before) items
folded_append changes start before items = folded_from_append changes [] start before items

-- ---- number blocks

abbrev pub Next : List Item → List Item → Type 0
Next journal items = JournalItemsHaveCauses MachineTakesNextNumber journal items

pub next_rises : (before : List Item) (next : Item)
    → journal_next_message before ≤ journal_next_message (before ++ next ∷ [])
unfolding journal_next_message
next_rises before next = omega (arith, count_of_append is_machine_sending_item before (next ∷ []))

pub next_sent : (journal : List Item) (n : ℕ) (message : Message)
    → journal_next_message (journal ++ Item.Sent n message ∷ []) ≡ journal_next_message journal + 1
unfolding journal_next_message
next_sent journal n message = rw (count_of_append is_machine_sending_item journal) (omega arith)

sent_from_next : (messages : List Message) (journal : List Item) (n : ℕ) → n ≡ journal_next_message journal
    → Next journal (machine_sent_items_from n messages)
unfolding machine_sent_items_from
sent_from_next [] journal n first = tt
sent_from_next (message ∷ messages) journal n first = (
  first,
  sent_from_next messages (journal ++ Item.Sent n message ∷ []) (n + 1)
      (ap (λ k. k + 1) first ∙ sym (next_sent journal n message)),
)

pub sends_next : (journal : List Item) (messages : List Message)
    → Next journal (machine_send_items journal messages)
sends_next journal messages = sent_from_next messages journal (journal_next_message journal) refl

-- ---- packets

pub leg_next : (setting : Setting) (journal : List Item) (i s : ℕ) (leg : Leg)
    → Next journal (machine_leg_items setting journal i s leg)
unfolding machine_leg_items
leg_next setting journal i s leg = grind arith

pub end_next : (setting : Setting) (i s : ℕ) (action : Action) (journal : List Item)
    → Next journal (machine_end_items setting i s action journal)
unfolding machine_end_items
end_next setting i s Action.Drop journal = grind arith
end_next setting i s (Action.Out port) journal = grind (arith, leg_next)

pub cache_next : (setting : Setting) (i s : ℕ) (found : MachineAuthorityRule) (journal : List Item)
    → Next journal (journal_cache_items setting i s found journal)
unfolding journal_cache_items
cache_next setting i s found journal = grind (arith, sends_next)

pub authority_next : (setting : Setting) (i s : ℕ) (found : Option MachineAuthorityRule)
    (journal : List Item) → Next journal (machine_authority_items setting i s found journal)
unfolding machine_authority_items
authority_next setting i s None journal = tt
authority_next setting i s (Some found) journal =
    let decided : Item = Item.Decided i found.version found.rule.rule found.rule.action
    (How.Authority s found.part.number) in
    let blocks = journal_cache_items setting i s found ∷ machine_end_items setting i s found.rule.action ∷ [] in
    have_first MachineTakesNextNumber decided (machine_blocks_in_turn blocks) journal tt
    (have_in_turn MachineTakesNextNumber blocks
    (cache_next setting i s found, (end_next setting i s found.rule.action, tt))
    (journal ++ decided ∷ []))

pub found_next : (setting : Setting) (i s : ℕ) (what : Found) (journal : List Item)
    → Next journal (machine_found_items setting i s what journal)
found_next setting i s (Found.Cached entry) journal =
    let decided = Item.Decided i entry.version entry.rule entry.action (How.Cached entry.message) in
    have_first MachineTakesNextNumber decided (machine_end_items setting i s entry.action) journal tt
    (end_next setting i s entry.action (journal ++ decided ∷ []))
found_next setting i s (Found.Authority partition place) journal = authority_next setting i s
    (journal_authority_rule setting journal (journal_stamp_of journal s) partition place) journal
found_next setting i s (Found.Redirect partition targets) journal = leg_next setting journal i s
    (Seek (journal_stamp_of journal s) partition)

pub lookup_next : (setting : Setting) (i s : ℕ) (journal : List Item)
    → Next journal (machine_lookup_items setting i s journal)
unfolding machine_lookup_items
lookup_next setting i s journal = found_next setting i s
    (machine_lookup_at setting journal s (journal_packet_header_at journal i)) journal

arrive_by_next : (setting : Setting) (i s : ℕ) (leg : Option Leg) (journal : List Item)
    → Next journal (journal_leg_arrival_items setting i s leg journal)
arrive_by_next setting i s None journal = tt
arrive_by_next setting i s (Some (Exit port)) journal = (tt, tt)
arrive_by_next setting i s (Some (Seek version partition)) journal =
    grind (arith, lookup_next, authority_next)

pub arrive_next : (setting : Setting) (i s : ℕ) (journal : List Item)
    → Next journal (machine_arrive_items setting i s journal)
unfolding machine_arrive_items
arrive_next setting i s journal = arrive_by_next setting i s (journal_leg_of journal i) journal

go_on_next : (setting : Setting) (i s : ℕ) (journal : List Item)
    → Next journal (machine_onward_items setting i s journal)
go_on_next setting i s journal = grind (arith, arrive_next)

reroute_by_next : (setting : Setting) (i s : ℕ) (leg : Option Leg) (journal : List Item)
    → Next journal (journal_reroute_by setting i s leg journal)
reroute_by_next setting i s None journal = tt
reroute_by_next setting i s (Some leg) journal = grind (arith, have_put, go_on_next)

reroute_next : (setting : Setting) (i s : ℕ) (journal : List Item)
    → Next journal (machine_reroute_items setting i s journal)
unfolding machine_reroute_items
reroute_next setting i s journal = reroute_by_next setting i s (journal_leg_of journal i) journal

pub move_next : (setting : Setting) (i s : ℕ) (journal : List Item)
    → Next journal (machine_move_items setting i s journal)
unfolding machine_move_items
move_next setting i s journal = grind (arith, arrive_next, have_put, reroute_next)

-- ---- the controller

current_next : (setting : Setting) (journal : List Item)
    → Next journal (machine_current_items setting journal)
unfolding machine_current_items
current_next setting journal = grind (arith, have_put, sends_next)

open_next : (setting : Setting) (journal : List Item) → Next journal (machine_open_items setting journal)
unfolding machine_open_items
open_next setting journal = sends_next journal _

retired_next : (setting : Setting) (journal : List Item)
    → Next journal (machine_retired_items setting journal)
unfolding machine_retired_items
retired_next setting journal = grind (arith, have_put, sends_next)

pub settling_next : (setting : Setting) (journal : List Item)
    → Next journal (machine_settling setting journal)
unfolding machine_settling
settling_next setting journal =
    have_in_turn MachineTakesNextNumber (machine_current_items setting ∷ machine_open_items setting ∷ machine_retired_items setting ∷ [])
    (current_next setting, (open_next setting, (retired_next setting, tt))) journal

installs_next : (setting : Setting) (s : ℕ) (journal : List Item)
    → Next journal (machine_installs_to setting s journal)
unfolding machine_installs_to
installs_next setting s journal = sends_next journal _

all_installs_next : (setting : Setting) (journal : List Item)
    → Next journal (machine_installs_to_all setting journal)
unfolding machine_installs_to_all
all_installs_next setting journal = sends_next journal _

pub submitted_next : (setting : Setting) (journal : List Item)
    → Next journal (machine_submitted_items setting journal)
submitted_next setting journal = have_in_turn MachineTakesNextNumber (machine_installs_to_all setting ∷ machine_settling setting
    ∷ []) (all_installs_next setting, (settling_next setting, tt)) journal

-- ---- deliveries

pub links_next : (setting : Setting) (before journal : List Item)
    → Next journal (journal_link_changes setting before journal)
unfolding journal_link_changes
links_next setting before journal = sends_next journal _

switch_next : (setting : Setting) (before : List Item) (s : ℕ) (body : Body) (journal : List Item)
    → Next journal (journal_switch_items setting before s body journal)
unfolding journal_switch_items
switch_next setting before s (Body.Install boot tables) journal = sends_next journal _
switch_next setting before s (Body.Stamp boot version touched) journal = sends_next journal _
switch_next setting before s (Body.OpenAt boot version) journal =
    grind (arith, have_first, links_next)
switch_next setting before s (Body.Advertise advert) journal = grind (arith, sends_next)
switch_next setting before s _ journal = tt

hello_next : (setting : Setting) (before : List Item) (body : Body) (journal : List Item)
    → Next journal (machine_after_hello setting before body journal)
hello_next setting before (Body.Hello s boot) journal = grind (arith, installs_next)
hello_next setting before _ journal = tt

controller_next : (setting : Setting) (before : List Item) (body : Body) (journal : List Item)
    → Next journal (machine_controller_items setting before body journal)
unfolding machine_controller_items
controller_next setting before body journal =
    have_in_turn MachineTakesNextNumber (machine_settling setting ∷ machine_after_hello setting before body ∷ [])
    (settling_next setting, (hello_next setting before body, tt)) journal

pub delivery_next : (setting : Setting) (before : List Item) (number : ℕ) (journal : List Item)
    → Next journal (machine_delivery_items setting before number journal)
unfolding machine_delivery_items
delivery_next setting before number journal = grind (arith, switch_next, controller_next)

-- ---- each piece takes the next numbers, so packets and messages are numbered without a gap

-- a row takes no number
packet_behind_row : (journal : List Item) (row : ℕ) (step : Step)
    → journal_next_packet (journal ++ Item.Row row step ∷ []) ≡ journal_next_packet journal
unfolding journal_next_packet
packet_behind_row journal row step = rw (count_of_append is_machine_packet_entry journal) (omega arith)

packet_next : (setting : Setting) (i s : ℕ) (header : Header) (journal : List Item)
    → i ≡ journal_next_packet journal → Next journal (machine_packet_items setting i s header journal)
unfolding machine_packet_items
packet_next setting i s header journal next = grind (arith, have_first, lookup_next)

lost_next : (packets : List ℕ) (journal : List Item) → Next journal (map Item.Lost packets)
lost_next [] journal = tt
lost_next (i ∷ packets) journal = (tt, lost_next packets (journal ++ Item.Lost i ∷ []))

crash_put : (setting : Setting) (before : List Item) (s : ℕ) (packets : List ℕ)
    (journal : List Item) → Next journal
    (journal_items_then (Item.Down s ∷ map Item.Lost packets) (journal_link_changes setting before) journal)
crash_put setting before s packets journal =
    let down : List Item = Item.Down s ∷ map Item.Lost packets in
    let first : Next journal (Item.Down s ∷ map Item.Lost packets) =
    (tt, lost_next packets (journal ++ Item.Down s ∷ [])) in
    have_put MachineTakesNextNumber down (journal_link_changes setting before) journal first
    (links_next setting before (journal ++ down))

sends_or_nothing_next : (journal : List Item) (messages : List Message)
    → Next journal (machine_sends_or_nothing journal messages)
sends_or_nothing_next journal [] = (tt, tt)
sends_or_nothing_next journal (message ∷ messages) = sends_next journal (message ∷ messages)

step_next : (setting : Setting) (before : List Item) (row : ℕ) (step : Step) → let behind =
    before ++ Item.Row row step ∷ [] in Next behind (machine_step_items setting before step behind)
unfolding machine_hop_items machine_lose_items machine_deliver_items machine_forget_items machine_expire_items machine_update_items machine_link_items
    journal_crash_items machine_restart_items machine_confirm_items machine_resend_items
step_next setting before row (Packet switch header) = packet_next setting (journal_next_packet before)
    switch header _ (sym (packet_behind_row before row (Packet switch header)))
step_next setting before row (Hop packet) = grind (arith, move_next)
step_next setting before row (Lose packet) = grind arith
step_next setting before row (Deliver message) = grind (arith, have_first, delivery_next)
step_next setting before row (Forget message) = grind arith
step_next setting before row (Expire switch place) = grind arith
step_next setting before row (Update file) = grind (arith, have_first, submitted_next)
step_next setting before row (LinkDown one two) = grind (arith, have_first, links_next)
step_next setting before row (LinkUp one two) = grind (arith, have_first, links_next)
step_next setting before row (Crash switch) = grind (arith, crash_put)
step_next setting before row (Restart switch) = grind (arith, have_first, sends_next)
step_next setting before row (Confirm switch) = grind (arith, have_first, settling_next)
step_next setting before row (Resend switch) = sends_or_nothing_next _ _

pub piece_next : (setting : Setting) (journal : List Item) (row : ℕ) (step : Step)
    → Next journal (piece setting journal row step)
unfolding piece
piece_next setting journal row step = have_first MachineTakesNextNumber (Item.Row row step)
    (machine_step_items setting journal step) journal tt (step_next setting journal row step)
