-- Which items concern a switch, a packet, a message, the links, the policies or the controller:
-- other items don't change what a journal says of them.
use Rattle.std.specs.Prelude.{◌==◌, ◌||◌, Bool, IsFalse, List, false, true, ℕ}
use Rattle.base.specs.Exports.{option_map_or}
use Rattle.ctrl_msg.specs.declared.message.Body.{Body}
use Rattle.ctrl_msg.specs.declared.message.Body.TheVariants.{OpenAt}
use Rattle.journal.specs.declared.item.Item.{Item}
use Rattle.journal.specs.declared.item.Item.TheVariants as item
use Rattle.steps.specs.declared.step.Step.TheVariants.{Hop}
use Rattle.update_machine.specs.Causes.{JournalItemsHaveCauses}
use Rattle.update_machine.specs.Messages.{is_machine_receiver_controller}
use Rattle.update_machine.specs.Travels.{journal_travels_at}
use Rattle.update_machine.specs.Versions.{is_journal_submission}
use Rattle.update_machine.specs.Boots.{is_journal_receiver_switch}
use Rattle.update_machine.specs.Links.{journal_message_of}

-- none of these items, after this journal, is one that concerns it
abbrev pub NoMachineItemConcerns : (List Item → Item → Bool) → List Item → List Item → Type 0
NoMachineItemConcerns concerns before items =
    JournalItemsHaveCauses (λ journal item. IsFalse (concerns journal item)) before items

-- the message of this number is for switch s
abbrev pub is_journal_message_to : List Item → ℕ → ℕ → Bool
is_journal_message_to before s number =
    option_map_or (λ message. is_journal_receiver_switch s message.to) (journal_message_of before number) false

-- its boots, its openings, its expired entries and what is delivered to it
abbrev pub machine_item_concerns_switch : ℕ → List Item → Item → Bool
machine_item_concerns_switch s before (item.Down switch) = switch == s
machine_item_concerns_switch s before (item.Booted switch boot) = switch == s
machine_item_concerns_switch s before (item.Opened switch version) = switch == s
machine_item_concerns_switch s before (item.Expired switch place message) = switch == s
machine_item_concerns_switch s before (item.Delivered number) = is_journal_message_to before s number
machine_item_concerns_switch s before _ = false

-- all items that name the packet, except `Closed`
abbrev pub machine_item_concerns_packet : ℕ → List Item → Item → Bool
machine_item_concerns_packet i before (item.Entered packet switch header) = packet == i
machine_item_concerns_packet i before (item.Seeking packet version partition route) = packet == i
machine_item_concerns_packet i before (item.Exiting packet route) = packet == i
machine_item_concerns_packet i before (item.Hopped packet switch) = packet == i
machine_item_concerns_packet i before (item.FoundDown packet one two) = packet == i
machine_item_concerns_packet i before (item.Rerouted packet route) = packet == i
machine_item_concerns_packet i before (item.Decided packet version rule action how) = packet == i
machine_item_concerns_packet i before (item.Left packet port leaving) = packet == i
machine_item_concerns_packet i before (item.Dropped packet) = packet == i
machine_item_concerns_packet i before (item.Lost packet) = packet == i
machine_item_concerns_packet i before (item.Stuck packet switch cause leg down) = packet == i
machine_item_concerns_packet i before _ = false

-- whether switches serve, and whether links are up
abbrev pub machine_item_concerns_links : List Item → Item → Bool
machine_item_concerns_links before (item.Down switch) = true
machine_item_concerns_links before (item.Booted switch boot) = true
machine_item_concerns_links before (item.Opened switch version) = true
machine_item_concerns_links before (item.LinkIs one two up) = true
machine_item_concerns_links before _ = false

abbrev pub is_journal_controller_message : List Item → ℕ → Bool
is_journal_controller_message before number =
    option_map_or (λ message. is_machine_receiver_controller message.to) (journal_message_of before number) false

-- a body after which a switch may serve
abbrev pub is_machine_opening_body : Body → Bool
is_machine_opening_body (OpenAt boot version) = true
is_machine_opening_body _ = false

-- what is delivered to the controller, messages by which it opens switches, confirmations,
-- submissions and marks
abbrev pub machine_item_concerns_controller : List Item → Item → Bool
machine_item_concerns_controller before (item.Delivered number) = is_journal_controller_message before number
machine_item_concerns_controller before (item.Sent number message) = is_machine_opening_body message.body
machine_item_concerns_controller before (item.OverNow switch) = true
machine_item_concerns_controller before (item.Submitted file version) = true
machine_item_concerns_controller before (item.Current version) = true
machine_item_concerns_controller before (item.Retired version) = true
machine_item_concerns_controller before _ = false

-- ---- what depends on several

-- whether the switch hears of links or sees its own: what it knows about the network
abbrev pub machine_item_concerns_known : ℕ → List Item → Item → Bool
machine_item_concerns_known s before item = machine_item_concerns_switch s before item || machine_item_concerns_links before item

-- a policy becomes a version
abbrev pub machine_item_concerns_policies : List Item → Item → Bool
machine_item_concerns_policies before item = is_journal_submission item

-- what the switch has, and by which policy: what it says about a header
abbrev pub item_concerns_journal_lookups : ℕ → List Item → Item → Bool
item_concerns_journal_lookups s before item = machine_item_concerns_switch s before item || machine_item_concerns_policies before item

-- it went down, or the controller no longer waits for it
abbrev pub machine_item_concerns_waiting : ℕ → List Item → Item → Bool
machine_item_concerns_waiting s before (item.Down switch) = switch == s
machine_item_concerns_waiting s before (item.OverNow switch) = switch == s
machine_item_concerns_waiting s before _ = false

-- the calls of a switch: packets that enter or are closed there, hops of those there, and how a hop
-- ends
abbrev pub machine_item_concerns_calls : ℕ → List Item → Item → Bool
machine_item_concerns_calls s before (item.Entered packet switch header) = switch == s
machine_item_concerns_calls s before (item.Closed packet switch) = switch == s
machine_item_concerns_calls s before (item.Row row (Hop packet)) = journal_travels_at before s packet
machine_item_concerns_calls s before (item.Hopped packet switch) = true
machine_item_concerns_calls s before (item.Stuck packet switch cause leg down) = true
machine_item_concerns_calls s before _ = false

-- ---- packets, messages and steps as wholes

-- a packet enters, is closed or ends
abbrev pub machine_item_concerns_packets : List Item → Item → Bool
machine_item_concerns_packets before (item.Entered packet switch header) = true
machine_item_concerns_packets before (item.Closed packet switch) = true
machine_item_concerns_packets before (item.Left packet port leaving) = true
machine_item_concerns_packets before (item.Dropped packet) = true
machine_item_concerns_packets before (item.Lost packet) = true
machine_item_concerns_packets before (item.Stuck packet switch cause leg down) = true
machine_item_concerns_packets before _ = false

-- the message of this number is sent, delivered or forgotten
abbrev pub machine_item_concerns_message : ℕ → List Item → Item → Bool
machine_item_concerns_message n before (item.Sent number message) = number == n
machine_item_concerns_message n before (item.Delivered number) = number == n
machine_item_concerns_message n before (item.Forgotten number) = number == n
machine_item_concerns_message n before _ = false

-- some message is sent, delivered or forgotten
abbrev pub machine_item_concerns_messages : List Item → Item → Bool
machine_item_concerns_messages before (item.Sent number message) = true
machine_item_concerns_messages before (item.Delivered number) = true
machine_item_concerns_messages before (item.Forgotten number) = true
machine_item_concerns_messages before _ = false

-- a step begins
abbrev pub machine_item_concerns_steps : List Item → Item → Bool
machine_item_concerns_steps before (item.Row row step) = true
machine_item_concerns_steps before _ = false
