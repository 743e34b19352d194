-- How many messages each block of a piece sends.
use Rattle.std.proofs.Common.{[], if◌then◌else◌, ◌++◌, ◌+◌, ◌∷◌, ◌≡◌, ◌≤◌, Bool, IsFalse, List, Option, arith, cond, false, filter, flat_map, length, length-append, map, not, refl, true, ℕ, rules}
use Rattle.base.proofs.Exports.{length-flat_map, length-map, length-range_with_len, length_filter_less, range_with_len, sum_by-cons, sum_each}
use Rattle.update_machine.specs.Exports.{Action, Advert, MachineAuthorityRule, Body, Found, Header, Item, Leg, Message, NoMachineItemConcerns, Setting, Step, machine_advert_to, machine_after_hello, machine_arrive_items, machine_authority_items, journal_cache_items, machine_item_concerns_policies, machine_confirm_items, machine_controller_items, machine_count_of, machine_current_items, machine_end_items, machine_expire_items, machine_forget_items, machine_found_items, has_acked, journal_held_adverts, machine_hello_of, machine_hop_items, machine_blocks_in_turn, journal_install_for, machine_installs_to, machine_installs_to_all, is_member, is_machine_sending_item, is_up, journal_items_then, machine_leg_items, machine_lookup_items, machine_lose_items, members, machine_move_items, near, journal_next_message, nothing, machine_open_items, machine_packet_items, machine_advert_passed_on, machine_reroute_items, machine_resend_items, journal_resent_by_controller, journal_resent_by_switch, journal_resent_to_member, machine_retired_items, machine_send_items, machine_sends_or_nothing, machine_sent_items_from, machine_settling, machine_step_items, machine_submitted_items, machine_switches_in, machine_switches_of, journal_unacked_installs, machine_update_items, journal_version_count}
use Rattle.base.specs.Exports.{has}
use Rattle.net_file.specs.Exports.{IsNet}
use Rattle.update_machine.proofs.Exports.{count_of_append, policies_keep}
use Rattle.control_laws.proofs.ControlCommands.{IsOfSettling, settling_settles}
use Rattle.control_laws.proofs.ControlFactsGrown.{have_weaker}
use Rattle.control_laws.proofs.ControlTrafficItems.{IsWorkStep}
use Rattle.control_laws.proofs.ControlLinkSends.{held_few}

abbrev pub sent : List Item → ℕ
sent items = machine_count_of is_machine_sending_item items

-- ---- items one after another

pub sent_more : (next : Item) (items : List Item)
    → sent (next ∷ items) ≡ cond (is_machine_sending_item next) 1 0 + sent items
sent_more next items = sum_by-cons (λ x. cond (is_machine_sending_item x) 1 0) next items

sent_all : (messages : List Message) (n : ℕ) → sent (machine_sent_items_from n messages) ≡ length messages
unfolding machine_sent_items_from
sent_all [] n = refl
sent_all (message ∷ messages) n = omega (arith, sent_more, sent_all messages (n + 1))

pub sends_count : (journal : List Item) (messages : List Message)
    → sent (machine_send_items journal messages) ≡ length messages
sends_count journal messages = sent_all messages (journal_next_message journal)

pub put_few : (first : List Item) (rest : List Item → List Item) (journal : List Item)
    → sent (journal_items_then first rest journal) ≡ sent first + sent (rest (journal ++ first))
put_few first rest journal = count_of_append is_machine_sending_item first (rest (journal ++ first))

-- ---- packets: a lookup at an authority switch may send one cache rule

leg_few : (setting : Setting) (journal : List Item) (i s : ℕ) (leg : Leg)
    → sent (machine_leg_items setting journal i s leg) ≡ 0
unfolding machine_leg_items
leg_few setting journal i s leg = grind arith

end_few : (setting : Setting) (i s : ℕ) (act : Action) (journal : List Item)
    → sent (machine_end_items setting i s act journal) ≡ 0
unfolding machine_end_items
end_few setting i s act journal = search (rules, leg_few)

cache_few : (setting : Setting) (i s : ℕ) (rule : MachineAuthorityRule) (journal : List Item)
    → sent (journal_cache_items setting i s rule journal) ≤ 1
unfolding journal_cache_items
cache_few setting i s rule journal = grind (arith, sends_count)

authority_few : (setting : Setting) (i s : ℕ) (rule : Option MachineAuthorityRule) (journal : List Item)
    → sent (machine_authority_items setting i s rule journal) ≤ 1
unfolding machine_authority_items
authority_few setting i s rule journal =
    search (rules, sent_more, put_few, count_of_append, cache_few, end_few)

found_few : (setting : Setting) (i s : ℕ) (what : Found) (journal : List Item)
    → sent (machine_found_items setting i s what journal) ≤ 1
found_few setting i s what journal = grind (arith, sent_more, end_few, authority_few, leg_few)

lookup_few : (setting : Setting) (i s : ℕ) (journal : List Item)
    → sent (machine_lookup_items setting i s journal) ≤ 1
unfolding machine_lookup_items
lookup_few setting i s journal = search (rules, found_few)

arrive_few : (setting : Setting) (i s : ℕ) (journal : List Item)
    → sent (machine_arrive_items setting i s journal) ≤ 1
unfolding machine_arrive_items
arrive_few setting i s journal = grind (arith, lookup_few, authority_few)

reroute_few : (setting : Setting) (i s : ℕ) (journal : List Item)
    → sent (machine_reroute_items setting i s journal) ≤ 1
unfolding machine_reroute_items
reroute_few setting i s journal = grind (arith, sent_more, arrive_few)

move_few : (setting : Setting) (i s : ℕ) (journal : List Item)
    → sent (machine_move_items setting i s journal) ≤ 1
unfolding machine_move_items
move_few setting i s journal = grind (arith, sent_more, arrive_few, reroute_few)

pub packet_few : (setting : Setting) (i s : ℕ) (header : Header) (journal : List Item)
    → sent (machine_packet_items setting i s header journal) ≤ 1
unfolding machine_packet_items
packet_few setting i s header journal = grind (arith, sent_more, lookup_few)

-- so what is work alone sends at most one message
pub step_few : (setting : Setting) (before : List Item) (step : Step) (here : List Item)
    → IsWorkStep step → sent (machine_step_items setting before step here) ≤ 1
unfolding machine_hop_items machine_lose_items machine_forget_items machine_expire_items
step_few setting before step here = search (rules, move_few)

-- ---- settling

switches_few : (setting : Setting) → IsNet setting.net → (test : ℕ → Bool)
    → length (filter test (machine_switches_of setting)) ≤ 64
switches_few setting net test = search (rules, length_filter_less, length-range_with_len)

-- the same message to each of these switches
each_few : (setting : Setting) → IsNet setting.net → (journal : List Item) (to : ℕ → Message)
    (test : ℕ → Bool) → sent (machine_send_items journal (map to (filter test (machine_switches_of setting)))) ≤ 64
each_few setting net journal to test = omega (
  arith,
  sends_count journal (map to (filter test (machine_switches_of setting))),
  length-map (filter test (machine_switches_of setting)) to,
  switches_few setting net test,
)

-- a mark that rises is told to the members
mark_few : (setting : Setting) → IsNet setting.net → (journal : List Item) (next : Item)
    → is_machine_sending_item next ≡ false → (to : ℕ → Message) (rises : Bool) → sent (elim rises [
      | false ↦ []
      | true ↦ journal_items_then (next ∷ []) (λ raised. machine_send_items raised
          (map to (members setting journal))) journal
    ]) ≤ 64
mark_few setting net journal next none to false = omega arith
mark_few setting net journal next none to true = let alone : sent (next ∷ []) ≡ 0 = rw none refl in
    omega (arith, put_few, each_few setting net (journal ++ next ∷ []) to (is_member journal))

current_few : (setting : Setting) → IsNet setting.net → (journal : List Item)
    → sent (machine_current_items setting journal) ≤ 64
unfolding machine_current_items
current_few setting net journal = mark_few setting net journal (Item.Current _) refl _ _

open_few : (setting : Setting) → IsNet setting.net → (journal : List Item)
    → sent (machine_open_items setting journal) ≤ 64
unfolding machine_open_items
open_few setting net journal = each_few setting net journal _ _

retired_few : (setting : Setting) → IsNet setting.net → (journal : List Item)
    → sent (machine_retired_items setting journal) ≤ 64
unfolding machine_retired_items
retired_few setting net journal = mark_few setting net journal (Item.Retired _) refl _ _

pub settling_few : (setting : Setting) → IsNet setting.net → (journal : List Item)
    → sent (machine_settling setting journal) ≤ 192
unfolding machine_settling
settling_few setting net journal =
    let raised : List Item = journal ++ machine_current_items setting journal in
    let opened : List Item = raised ++ machine_open_items setting raised in
    omega (
      arith,
      put_few (machine_current_items setting journal)
          (machine_blocks_in_turn (machine_open_items setting ∷ machine_retired_items setting ∷ [])) journal,
      put_few (machine_open_items setting raised) (machine_blocks_in_turn (machine_retired_items setting ∷ [])) raised,
      put_few (machine_retired_items setting opened) (machine_blocks_in_turn []) opened,
      current_few setting net journal,
      open_few setting net raised,
      retired_few setting net opened,
    )

-- ---- tables

-- there are few versions
range_few : (journal : List Item) (to : ℕ → Message) (low n : ℕ)
    → sent (machine_send_items journal (map to (range_with_len low n))) ≤ n
range_few journal to low n = omega (
  arith,
  sends_count journal (map to (range_with_len low n)),
  length-map (range_with_len low n) to,
  length-range_with_len low n,
)

pub installs_few : (setting : Setting) (s : ℕ) (journal : List Item)
    → sent (machine_installs_to setting s journal) ≤ journal_version_count journal + 1
unfolding machine_installs_to
installs_few setting s journal = omega (arith, range_few)

all_installs_few : (setting : Setting) → IsNet setting.net → (journal : List Item)
    → sent (machine_installs_to_all setting journal) ≤ 64
unfolding machine_installs_to_all
all_installs_few setting net journal = each_few setting net journal _ _

pub submitted_few : (setting : Setting) → IsNet setting.net → (journal : List Item)
    → sent (machine_submitted_items setting journal) ≤ 256
submitted_few setting net journal = search (rules, put_few, all_installs_few, settling_few)

-- ---- what is sent again

unacked_few : (setting : Setting) (journal : List Item) (s low n : ℕ)
    → length (journal_unacked_installs setting journal s (range_with_len low n)) ≤ n
unacked_few setting journal s low n =
    let test : ℕ → Bool = λ version. not (has_acked journal s version) in
    omega (
      arith,
      length-map (filter test (range_with_len low n))
          (λ version. journal_install_for setting journal version s),
      length_filter_less test (range_with_len low n),
      length-range_with_len low n,
    )

one_if : (b : Bool) (message : Message) → length (if b then message ∷ [] else []) ≤ 1
one_if b message = search rules

none_if : (b : Bool) (message : Message) → length (if b then [] else message ∷ []) ≤ 1
none_if b message = search rules

member_few : (setting : Setting) (journal : List Item) (s : ℕ)
    → length (journal_resent_to_member setting journal s) ≤ journal_version_count journal + 3
member_few setting journal s = search (rules, length-append, unacked_few, none_if)

controller_resent_few : (setting : Setting) (journal : List Item) (s : ℕ)
    → length (journal_resent_by_controller setting journal s) ≤ journal_version_count journal + 3
unfolding journal_resent_by_controller
controller_resent_few setting journal s = search (rules, member_few, unacked_few)

-- all adverts that are held, to each neighbour
switch_resent_few : (setting : Setting) → IsNet setting.net → (journal : List Item) (s : ℕ)
    → length (journal_resent_by_switch setting journal s) ≤ 4097
switch_resent_few setting net journal s = by_up (is_up journal s) where
  by_up : (up : Bool) → length {A = Message} (elim up [
    | false ↦ []
    | true ↦ machine_hello_of journal s
        ∷ flat_map (λ neighbour. map (machine_advert_to neighbour) (journal_held_adverts setting journal s))
        (machine_switches_in setting (near setting journal s))
  ]) ≤ 4097
  by_up false = omega arith
  by_up true = omega (
    arith,
    length-flat_map (λ neighbour. map (machine_advert_to neighbour) (journal_held_adverts setting journal s))
        (machine_switches_in setting (near setting journal s)),
    sum_each (λ neighbour. length (map (machine_advert_to neighbour) (journal_held_adverts setting journal s))) 64
        (machine_switches_in setting (near setting journal s)) (λ neighbour. omega (
          arith,
          held_few setting journal s,
          length-map (journal_held_adverts setting journal s) (machine_advert_to neighbour),
        )),
    switches_few setting net (has (near setting journal s)),
  )

pub resend_few : (setting : Setting) → IsNet setting.net → (s : ℕ) (journal : List Item)
    → sent (machine_resend_items setting s journal) ≤ 4100 + journal_version_count journal
unfolding machine_resend_items
resend_few setting net s journal = by_messages _ (omega (
  arith,
  length-append (journal_resent_by_switch setting journal s) (journal_resent_by_controller setting journal s),
  switch_resent_few setting net journal s,
  controller_resent_few setting journal s,
))
  where
    by_messages : (messages : List Message) → length messages ≤ 4100 + journal_version_count journal
        → sent (machine_sends_or_nothing journal messages) ≤ 4100 + journal_version_count journal
    by_messages [] few = omega arith
    by_messages (message ∷ messages) few = omega (arith, sends_count)

-- ---- steps without links

pub update_few : (setting : Setting) → IsNet setting.net → (file : ℕ) (journal : List Item)
    → sent (machine_update_items setting file journal) ≤ 256
unfolding machine_update_items
update_few setting net file journal = search (rules, sent_more, submitted_few)

pub confirm_few : (setting : Setting) → IsNet setting.net → (s : ℕ) (journal : List Item)
    → sent (machine_confirm_items setting s journal) ≤ 192
unfolding machine_confirm_items
confirm_few setting net s journal = search (rules, sent_more, settling_few)

pub passed_few : (setting : Setting) → IsNet setting.net → (journal : List Item) (s : ℕ)
    (advert : Advert) → length (machine_advert_passed_on setting journal s advert) ≤ 64
passed_few setting net journal s advert = omega (
  arith,
  length-map (machine_switches_in setting (near setting journal s))
      (λ neighbour. machine_advert_to neighbour advert),
  switches_few setting net (has (near setting journal s)),
)

-- ---- what the controller does: settling submits nothing

settling_submits_none : (before : List Item) (next : Item) → IsOfSettling before next
    → IsFalse (machine_item_concerns_policies before next)
settling_submits_none before next of = search rules

settling_submitless : (setting : Setting) (journal : List Item)
    → NoMachineItemConcerns machine_item_concerns_policies journal (machine_settling setting journal)
settling_submitless setting journal = have_weaker IsOfSettling _ settling_submits_none journal _
    (settling_settles setting journal)

hello_few : (setting : Setting) (before : List Item) (body : Body) (journal : List Item)
    → sent (machine_after_hello setting before body journal) ≤ journal_version_count journal + 1
hello_few setting before body journal = search (rules, installs_few)

pub controller_few : (setting : Setting) → IsNet setting.net → (before : List Item) (body : Body)
    (journal : List Item)
    → sent (machine_controller_items setting before body journal) ≤ 193 + journal_version_count journal
unfolding machine_controller_items
controller_few setting net before body journal =
    let settled : List Item = journal ++ machine_settling setting journal in
    let same : journal_version_count settled ≡ journal_version_count journal = (policies_keep journal
    (machine_settling setting journal) (settling_submitless setting journal)).count in
    omega (
      arith,
      put_few (machine_settling setting journal) (machine_blocks_in_turn (machine_after_hello setting before body ∷ [])) journal,
      put_few (machine_after_hello setting before body settled) (machine_blocks_in_turn []) settled,
      settling_few setting net journal,
      hello_few setting before body settled,
      same,
    )
