-- Items that don't concern the links leave as they are the adverts that switches tell, and those
-- that don't concern a switch either, what it knows of the network.
use Rattle.std.proofs.Common.{[], ◌&&◌, ◌++◌, ◌+◌, ◌==◌, ◌∙◌, ◌∷◌, ◌≡◌, ◌≤◌, Bool, IsFalse, IsTrue, List, None, Some, ap, append_assoc, arith, count_by, eq-eqb, false, find, if◌then◌else◌, nat_lt, not, option_and_then, refl, suc, sym, true, unwrap_or, zero, ℕ}
use Rattle.update_machine.specs.Exports.{Header, Item, JournalKnownKeeps, MachineWalkLeads, MachineLinksKeep, MachineMessageKeeps, JournalMessagesKeep, NoMachineItemConcerns, MachineKeepsJournalPackets, JournalPoliciesKeep, Setting, MachineStepItems, journal_adverts_known, journal_boot_of, changes_journal_sendings, machine_item_concerns_known, machine_item_concerns_links, item_concerns_journal_lookups, machine_item_concerns_message, machine_item_concerns_messages, machine_item_concerns_packets, machine_item_concerns_policies, machine_item_concerns_steps, machine_item_concerns_switch, machine_item_concerns_waiting, machine_count_of, journal_version_file, journal_first_given, machine_item_gives_boot, machine_item_gives_file, machine_item_gives_message, machine_item_gives_step, machine_item_gives_travelling, machine_item_gives_switch_up, gives_journal_waited_for, journal_step_changes_links, heard, journal_held_adverts, machine_hosted_or_none, is_cut_off_in_journal, is_deliverable, is_machine_delivery_item, is_journal_forgetting, is_forgotten_in_journal, is_machine_packet_entry, is_machine_sending_item, is_journal_submission, is_up, is_waited_for_in_journal, is_waiting, machine_lookup_at, journal_message_of, near, journal_next_message, journal_next_packet, journal_next_policy, next_travelling, next_waiting, own_advert, journal_own_seq, journal_plan_at, machine_policy_at, machine_policy_by, machine_policy_in, journal_present_step, journal_route_from, machine_sendings, journal_stamp_of, journal_steps_in, machine_touched_by, travels_in_journal, journal_version_count, was_delivered_in_journal}
use Rattle.base.proofs.Exports.{option_map_or, range_with_len, result_ok}
use Rattle.update_machine.proofs.JournalSilentSteps.{Keeps, Silent, Stays, count_stays, fewer, first_stays, folded_stays, last_or_stays, last_stays, link_stays, near_stays, neither_left, neither_right, stays, switch_keeps, weight_stays}
use Rattle.policy_rules.proofs.PolicyRulesCallerLemmas.{find_same}

-- ---- a way keeps within switches that no link leads out of

pub ends_within : (joined : ℕ → ℕ → Bool) (within : ℕ → Bool)
    → ((one two : ℕ) → IsTrue (within one) → IsTrue (joined one two) → IsTrue (within two))
    → (at : ℕ) (path : List ℕ) (target : ℕ) → IsTrue (within at) → MachineWalkLeads joined at path target
    → IsTrue (within target)
ends_within joined within keeps at [] target here leads = rw leads at here
ends_within joined within keeps at (next ∷ path) target here leads =
    ends_within joined within keeps next path target (keeps at next here leads.0) leads.1

-- ---- silent links

-- ---- the number of the own advert

boot_silent : (s : ℕ) → Silent machine_item_concerns_links (machine_item_gives_boot s) None
boot_silent s before (Item.Booted switch boot) apart = cc
boot_silent s before _ apart = refl

up_silent : (s : ℕ) → Silent machine_item_concerns_links (machine_item_gives_switch_up s) None
up_silent s before (Item.Booted switch boot) apart = cc
up_silent s before (Item.Down switch) apart = cc
up_silent s before _ apart = refl

boot_stays : (s : ℕ) → Stays machine_item_concerns_links (λ js. journal_boot_of js s)
unfolding journal_boot_of
boot_stays s = last_or_stays (machine_item_gives_boot s) 1 machine_item_concerns_links (boot_silent s)

up_stays : (s : ℕ) → Stays machine_item_concerns_links (λ js. is_up js s)
unfolding is_up
up_stays s = last_or_stays (machine_item_gives_switch_up s) true machine_item_concerns_links (up_silent s)

abbrev once : Bool → ℕ
once b = if b then 1 else 0

-- such an item alone changes no links
alone_same : (b c : Bool) → c ≡ true → once (b && not c) ≡ 0
alone_same true c e = rw e refl
alone_same false c e = refl

change_alone : (setting : Setting) (s boot : ℕ) (before : List Item) (item : Item)
    → near setting (before ++ item ∷ []) s ≡ near setting before s
    → once (journal_step_changes_links setting s boot (record { before = before; items = item ∷ [] })) ≡ 0
change_alone setting s boot before item same =
    alone_same (journal_boot_of before s == boot) _ (eq-eqb _ _ (sym same))

change_more : (setting : Setting) (s boot : ℕ) (before : List Item) (item : Item)
    → near setting (before ++ item ∷ []) s ≡ near setting before s
    → (newest : MachineStepItems) → newest.before ++ newest.items ≡ before
    → journal_step_changes_links setting s boot (record newest { items = newest.items ++ item ∷ [] })
    ≡ journal_step_changes_links setting s boot newest
change_more setting s boot before item same newest ends =
    ap (λ n. journal_boot_of newest.before s == boot && not (near setting newest.before s == n)) (
    ap (λ js. near setting js s)
    (sym (append_assoc newest.before newest.items (item ∷ [])) ∙ ap (λ js. js ++ item ∷ []) ends)
    ∙ same ∙ ap (λ js. near setting js s) (sym ends)
    )

-- by whether the switch is up, the number of its advert has its boot and its count
seq_by : (setting : Setting) (s : ℕ) (after before : List Item) (up : Bool)
    → is_up after s ≡ up → is_up before s ≡ up → journal_boot_of after s ≡ journal_boot_of before s
    → count_by (journal_step_changes_links setting s (journal_boot_of before s)) (journal_steps_in after)
    ≡ count_by (journal_step_changes_links setting s (journal_boot_of before s)) (journal_steps_in before)
    → journal_own_seq setting after s ≡ journal_own_seq setting before s
unfolding journal_own_seq
seq_by setting s after before true now was boot count = rw (now, was, boot, count, journal_own_seq) refl
seq_by setting s after before false now was boot count = rw (now, was, journal_own_seq) refl

seq_stay : (setting : Setting) (s : ℕ) (before : List Item) (item : Item)
    → IsFalse (machine_item_concerns_links before item)
    → journal_own_seq setting (before ++ item ∷ []) s ≡ journal_own_seq setting before s
seq_stay setting s before item apart =
    let one : NoMachineItemConcerns machine_item_concerns_links before (item ∷ []) = (apart, tt) in
    let same = near_stays setting s before (item ∷ []) one in
    seq_by setting s (before ++ item ∷ []) before (is_up before s)
    (up_stays s before (item ∷ []) one) refl (boot_stays s before (item ∷ []) one)
    (weight_stays (λ step. once (journal_step_changes_links setting s (journal_boot_of before s) step)) before item
    (record {
      alone = change_alone setting s (journal_boot_of before s) before item same;
      more = λ newest ends row_less. ap once
          (change_more setting s (journal_boot_of before s) before item same newest ends);
    }))

seq_stays : (setting : Setting) (s : ℕ) → Stays machine_item_concerns_links (λ js. journal_own_seq setting js s)
seq_stays setting s before items none =
    stays (λ js. journal_own_seq setting js s) machine_item_concerns_links (seq_stay setting s) before items none

advert_stays : (setting : Setting) (s : ℕ) → Stays machine_item_concerns_links (λ js. own_advert setting js s)
unfolding own_advert
advert_stays setting s before items none =
    let links : near setting (before ++ items) s ≡ near setting before s =
    near_stays setting s before items none in
    rw ((boot_stays s before items none), seq_stays setting s before items none, links) refl

pub links_keep : (setting : Setting) (before items : List Item)
    → NoMachineItemConcerns machine_item_concerns_links before items → MachineLinksKeep setting before (before ++ items)
links_keep setting before items none = record {
  up = link_stays before items none;
  near = λ s. near_stays setting s before items none;
  seq = λ s. seq_stays setting s before items none;
  advert = λ s. advert_stays setting s before items none;
}

-- ---- what a switch knows

known_stays : (setting : Setting) (s : ℕ) (before items : List Item)
    → NoMachineItemConcerns (machine_item_concerns_switch s) before items → NoMachineItemConcerns machine_item_concerns_links before items
    → journal_adverts_known setting (before ++ items) s ≡ journal_adverts_known setting before s
unfolding journal_adverts_known
known_stays setting s before items none no_links =
    let switch = switch_keeps setting s before items none in
    let bodies : heard (before ++ items) s ≡ heard before s = switch.heard in
    let advert : own_advert setting (before ++ items) s ≡ own_advert setting before s =
    advert_stays setting s before items no_links in
    rw (switch.boot, switch.up, bodies, advert) refl

pub known_keeps : (setting : Setting) (s : ℕ) (before items : List Item)
    → NoMachineItemConcerns (machine_item_concerns_known s) before items → JournalKnownKeeps setting s before (before ++ items)
unfolding journal_held_adverts journal_route_from is_cut_off_in_journal
known_keeps setting s before items none =
    let own = fewer (machine_item_concerns_switch s) (machine_item_concerns_known s)
    (λ js item apart. neither_left (machine_item_concerns_switch s js item) (machine_item_concerns_links js item) apart)
    before items none in
    let links = fewer machine_item_concerns_links (machine_item_concerns_known s)
    (λ js item apart. neither_right (machine_item_concerns_switch s js item) (machine_item_concerns_links js item) apart)
    before items none in
    let known = known_stays setting s before items own links in
    let near_same = near_stays setting s before items links in
    let switch = switch_keeps setting s before items own in record {
      known = known;
      held = rw known refl;
      links = λ down. rw (switch.boot, switch.up, switch.heard, near_same) refl;
      route = λ targets down. rw (known, near_same) refl;
      cut_off = λ down target. rw (known, near_same) refl;
    }

-- ---- policies, and what a switch says of a header

file_silent : (v : ℕ) → Silent machine_item_concerns_policies (machine_item_gives_file v) None
file_silent v before (Item.Submitted file version) apart = cc
file_silent v before _ apart = refl

count_silent : Silent machine_item_concerns_policies is_journal_submission false
count_silent before item apart = apart

file_stays : (before items : List Item) → NoMachineItemConcerns machine_item_concerns_policies before items → (v : ℕ)
    → journal_version_file (before ++ items) v ≡ journal_version_file before v
unfolding journal_version_file
file_stays before items none v = by_test (v == 1) where
  by_test : (b : Bool) → (if b then Some 1 else journal_first_given (machine_item_gives_file v) (before ++ items))
      ≡ (if b then Some 1 else journal_first_given (machine_item_gives_file v) before)
  by_test true = refl
  by_test false = first_stays (machine_item_gives_file v) machine_item_concerns_policies (file_silent v) before items none

-- where the versions up to this one have the same files, it has the same policy
pub policy_by_files : (setting : Setting) (one other : List Item) (v : ℕ)
    → ((k : ℕ) → 1 ≤ k → k ≤ v → journal_version_file one k ≡ journal_version_file other k)
    → machine_policy_in setting one v ≡ machine_policy_in setting other v
unfolding machine_policy_in
policy_by_files setting one other zero same = refl
policy_by_files setting one other (suc v) same =
    ap (λ o. option_and_then (λ file. result_ok (machine_policy_by setting o file)) (journal_version_file one (suc v)))
    (policy_by_files setting one other v (λ k first last. same k first (omega (arith, last))))
    ∙ ap (option_and_then (λ file. result_ok (machine_policy_by setting (machine_policy_in setting other v) file)))
    (same (suc v) (omega arith) (omega arith))

policy_count_stays : Stays machine_item_concerns_policies journal_version_count
unfolding journal_version_count
policy_count_stays before items none =
    rw (count_stays is_journal_submission machine_item_concerns_policies count_silent before items none) refl

policy_in_keeps : (setting : Setting) (before items : List Item)
    → NoMachineItemConcerns machine_item_concerns_policies before items → (v : ℕ)
    → machine_policy_in setting (before ++ items) v ≡ machine_policy_in setting before v
policy_in_keeps setting before items none v = policy_by_files setting (before ++ items) before v
    (λ k first last. file_stays before items none k)

touched_keeps : (before items : List Item) → NoMachineItemConcerns machine_item_concerns_policies before items
    → (setting : Setting) (v : ℕ)
    → machine_touched_by setting (before ++ items) v ≡ machine_touched_by setting before v
unfolding machine_touched_by
touched_keeps before items none setting zero = refl
touched_keeps before items none setting (suc v) =
    cc (file_stays before items none (suc v), policy_in_keeps setting before items none v)

pub policies_keep : (before items : List Item) → NoMachineItemConcerns machine_item_concerns_policies before items
    → JournalPoliciesKeep before (before ++ items)
unfolding machine_policy_at journal_plan_at journal_next_policy
policies_keep before items none = record {
  count = policy_count_stays before items none;
  file = file_stays before items none;
  rows = λ setting v. policy_in_keeps setting before items none v;
  policy = λ setting v. ap (λ o. unwrap_or o []) (policy_in_keeps setting before items none v);
  plan = λ setting v. ap (λ o. option_map_or (λ rows. machine_hosted_or_none (setting.plan rows)) o [])
      (policy_in_keeps setting before items none v);
  touched = touched_keeps before items none;
  next = λ setting file. ap (λ v. machine_policy_by setting (machine_policy_in setting (before ++ items) v) file)
      (policy_count_stays before items none) ∙ ap (λ o. machine_policy_by setting o file)
      (policy_in_keeps setting before items none (journal_version_count before));
}

pub lookup_stays : (setting : Setting) (s : ℕ) (header : Header)
    → Stays (item_concerns_journal_lookups s) (λ js. machine_lookup_at setting js s header)
unfolding machine_lookup_at journal_plan_at
lookup_stays setting s header before items none =
    let switch = switch_keeps setting s before items (fewer (machine_item_concerns_switch s) (item_concerns_journal_lookups s)
    (λ js item apart. neither_left (machine_item_concerns_switch s js item) (machine_item_concerns_policies js item) apart)
    before items none) in
    let policy : machine_policy_in setting (before ++ items) (journal_stamp_of before s)
    ≡ machine_policy_in setting before (journal_stamp_of before s) =
    policy_in_keeps setting before items (fewer machine_item_concerns_policies (item_concerns_journal_lookups s)
    (λ js item apart. neither_right (machine_item_concerns_switch s js item) (machine_item_concerns_policies js item) apart)
    before items none) (journal_stamp_of before s) in
    rw (switch.stamp, switch.cache, policy) refl

-- ---- switches that are waited for

waited_silent : (s : ℕ) → Silent (machine_item_concerns_waiting s) (gives_journal_waited_for s) None
waited_silent s before (Item.Down switch) apart = rw apart refl
waited_silent s before (Item.OverNow switch) apart = rw apart refl
waited_silent s before _ apart = refl

pub waited_stays : (s : ℕ) → Stays (machine_item_concerns_waiting s) (λ js. is_waited_for_in_journal js s)
waited_stays s = last_or_stays (gives_journal_waited_for s) false (machine_item_concerns_waiting s) (waited_silent s)

-- ---- items that don't concern a message, all messages, all packets or the steps leave their facts
-- as they are.

-- ---- a message

message_silent : (n : ℕ) → Silent (machine_item_concerns_message n) (machine_item_gives_message n) None
message_silent n before (Item.Sent number message) apart = rw apart refl
message_silent n before _ apart = refl

delivery_silent : (n : ℕ) → Silent (machine_item_concerns_message n) (is_machine_delivery_item n) false
delivery_silent n before (Item.Delivered number) apart = apart
delivery_silent n before _ apart = refl

forgetting_silent : (n : ℕ) → Silent (machine_item_concerns_message n) (is_journal_forgetting n) false
forgetting_silent n before (Item.Forgotten number) apart = apart
forgetting_silent n before _ apart = refl

pub message_keeps : (n : ℕ) (before items : List Item)
    → NoMachineItemConcerns (machine_item_concerns_message n) before items → MachineMessageKeeps n before (before ++ items)
unfolding journal_message_of was_delivered_in_journal is_forgotten_in_journal is_deliverable
message_keeps n before items none =
    let message = last_stays _ _ (message_silent n) before items none in
    let forgotten = ap (nat_lt 0) (count_stays _ _ (forgetting_silent n) before items none) in
    record {
      message = message;
      delivered = ap (nat_lt 0) (count_stays _ _ (delivery_silent n) before items none);
      forgotten = forgotten;
      deliverable = rw (message, forgotten) refl;
    }

-- ---- all messages

sending_silent : Silent machine_item_concerns_messages is_machine_sending_item false
sending_silent before (Item.Sent number message) apart = apart
sending_silent before _ apart = refl

sendings_silent : Keeps machine_item_concerns_messages changes_journal_sendings
sendings_silent before sent (Item.Sent number message) apart = cc
sendings_silent before sent _ apart = refl

pub each_silent : (n : ℕ) (before : List Item) (item : Item) → IsFalse (machine_item_concerns_messages before item)
    → IsFalse (machine_item_concerns_message n before item)
each_silent n before (Item.Sent number message) apart = cc
each_silent n before (Item.Delivered number) apart = cc
each_silent n before (Item.Forgotten number) apart = cc
each_silent n before _ apart = refl

sent_count_stays : Stays machine_item_concerns_messages (machine_count_of is_machine_sending_item)
sent_count_stays = count_stays is_machine_sending_item machine_item_concerns_messages sending_silent

-- so the first number that passes a test of facts that stay is the same
first_stays_of : (count : List Item → ℕ) (test : List Item → ℕ → Bool) (concerns : List Item
    → Item → Bool) → Stays concerns count → ((n : ℕ) → Stays concerns (λ js. test js n))
    → Stays concerns (λ js. find (test js) (range_with_len 1 (count js)))
first_stays_of count test concerns counts tests before items none =
    ap (λ k. find (test (before ++ items)) (range_with_len 1 k)) (counts before items none)
    ∙ find_same (test (before ++ items)) (test before) (λ n. tests n before items none)
    (range_with_len 1 (count before))

waiting_same : (n : ℕ) → Stays machine_item_concerns_messages (λ js. is_waiting js n)
waiting_same n before items none =
    let keeps = message_keeps n before items
    (fewer (machine_item_concerns_message n) machine_item_concerns_messages (each_silent n) before items none) in
    rw (keeps.deliverable, keeps.delivered) refl

pub messages_keep : (before items : List Item) → NoMachineItemConcerns machine_item_concerns_messages before items
    → JournalMessagesKeep before (before ++ items)
unfolding journal_next_message next_waiting machine_sendings
messages_keep before items none = record {
  next = ap (λ k. k + 1) (sent_count_stays before items none);
  waiting = first_stays_of _ is_waiting _ sent_count_stays waiting_same before items none;
  sent = folded_stays _ [] _ sendings_silent before items none;
}

-- ---- all packets

packet_silent : Silent machine_item_concerns_packets is_machine_packet_entry false
packet_silent before (Item.Entered packet switch header) apart = apart
packet_silent before (Item.Closed packet switch) apart = apart
packet_silent before _ apart = refl

travel_silent : (i : ℕ) → Silent machine_item_concerns_packets (machine_item_gives_travelling i) None
travel_silent i before (Item.Entered packet switch header) apart = cc
travel_silent i before (Item.Dropped packet) apart = cc
travel_silent i before (Item.Left packet port leaving) apart = cc
travel_silent i before (Item.Lost packet) apart = cc
travel_silent i before (Item.Stuck packet switch cause leg down) apart = cc
travel_silent i before _ apart = refl

travels_stay : (i : ℕ) → Stays machine_item_concerns_packets (λ js. travels_in_journal js i)
unfolding travels_in_journal
travels_stay i = last_or_stays (machine_item_gives_travelling i) false machine_item_concerns_packets (travel_silent i)

packet_count_stays : Stays machine_item_concerns_packets (machine_count_of is_machine_packet_entry)
packet_count_stays = count_stays is_machine_packet_entry machine_item_concerns_packets packet_silent

pub packets_keep : (before items : List Item) → NoMachineItemConcerns machine_item_concerns_packets before items
    → MachineKeepsJournalPackets before (before ++ items)
unfolding journal_next_packet next_travelling
packets_keep before items none = record {
  next = ap (λ k. k + 1) (packet_count_stays before items none);
  travelling = first_stays_of _ travels_in_journal _ packet_count_stays travels_stay before items none;
}

-- ---- steps

step_silent : Silent machine_item_concerns_steps machine_item_gives_step None
step_silent before (Item.Row row step) apart = cc
step_silent before _ apart = refl

pub step_stays : Stays machine_item_concerns_steps journal_present_step
unfolding journal_present_step
step_stays = last_stays machine_item_gives_step machine_item_concerns_steps step_silent
