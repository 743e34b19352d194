-- Which packets travel, where they entered, and on which leg they are: what `Packets` doesn't say.
use Rattle.std.specs.Prelude.{if◌then◌else◌, ◌&&◌, ◌==◌, Bool, List, None, Option, Some, false, filter, find, option_and_then, true, unwrap_or, ℕ}
use Rattle.base.specs.Exports.{range_with_len}
use Rattle.policy_rules.specs.declared.packet.Leg.{Leg}
use Rattle.policy_rules.specs.declared.packet.Leg.TheVariants.{Seek, Exit}
use Rattle.policy_rules.specs.declared.policy.Action.{Action}
use Rattle.journal.specs.declared.item.Item.{Item}
use Rattle.update_machine.specs.Folds.{machine_count_of, journal_folded_value, journal_last_given}
use Rattle.update_machine.specs.Packets.{is_machine_packet_entry, journal_standing_of, journal_decision_of}
use Rattle.policy_rules.specs.declared.policy.Action.TheVariants as action
use Rattle.journal.specs.declared.item.Item.TheVariants as item

abbrev pub machine_item_gives_ingress : ℕ → Item → Option ℕ
machine_item_gives_ingress i (item.Entered packet switch header) = if packet == i then Some switch else None
machine_item_gives_ingress i _ = None

-- the switch where it entered
unfoldable pub journal_ingress_of : List Item → ℕ → Option ℕ
journal_ingress_of journal i = journal_last_given (machine_item_gives_ingress i) journal

abbrev pub machine_item_gives_travelling : ℕ → Item → Option Bool
machine_item_gives_travelling i (item.Entered packet switch header) = if packet == i then Some true else None
machine_item_gives_travelling i (item.Dropped packet) = if packet == i then Some false else None
machine_item_gives_travelling i (item.Left packet port leaving) = if packet == i then Some false else None
machine_item_gives_travelling i (item.Lost packet) = if packet == i then Some false else None
machine_item_gives_travelling i (item.Stuck packet switch cause leg down) =
    if packet == i then Some false else None
machine_item_gives_travelling i _ = None

-- it entered and hasn't ended
unfoldable pub travels_in_journal : List Item → ℕ → Bool
travels_in_journal journal i = unwrap_or (journal_last_given (machine_item_gives_travelling i) journal) false

-- the numbers of all packets, ascending
abbrev pub journal_packets : List Item → List ℕ
journal_packets journal = range_with_len 1 (machine_count_of is_machine_packet_entry journal)

-- the least number of a travelling packet
unfoldable pub next_travelling : List Item → Option ℕ
next_travelling journal = find (travels_in_journal journal) (journal_packets journal)

abbrev pub is_at_machine_switch : ℕ → Option ℕ → Bool
is_at_machine_switch s None = false
is_at_machine_switch s (Some at) = at == s

-- it travels, and is at the switch
abbrev pub journal_travels_at : List Item → ℕ → ℕ → Bool
journal_travels_at journal s i = travels_in_journal journal i && is_at_machine_switch s (journal_standing_of journal i)

-- the packets that are at a switch on their way, ascending
abbrev pub journal_packets_at : List Item → ℕ → List ℕ
journal_packets_at journal s = filter (journal_travels_at journal s) (journal_packets journal)

-- the port of an action, if it has one
abbrev pub machine_port_of_action : Action → Option ℕ
machine_port_of_action action.Drop = None
machine_port_of_action (action.Out port) = Some port

-- the port by which the packet is to leave; 0 if it has none
abbrev pub journal_exit_port : List Item → ℕ → ℕ
journal_exit_port journal i =
    unwrap_or (option_and_then (λ decision. machine_port_of_action decision.action) (journal_decision_of journal i)) 0

-- the leg of its last `Seeking` or `Exiting`; it exits by the port of its decision
abbrev pub changes_journal_leg : ℕ → List Item → Option Leg → Item → Option Leg
changes_journal_leg i before leg (item.Seeking packet version partition route) =
    if packet == i then Some (Seek version partition) else leg
changes_journal_leg i before leg (item.Exiting packet route) =
    if packet == i then Some (Exit (journal_exit_port before i)) else leg
changes_journal_leg i before leg _ = leg

unfoldable pub journal_leg_of : List Item → ℕ → Option Leg
journal_leg_of journal i = journal_folded_value (changes_journal_leg i) None journal
