-- First tier. The packets of a journal: the header of each, where it is, and its decision. Their
-- numbers, from 1 in the order of their rows, are our own.
use Rattle.std.specs.Prelude.{if◌then◌else◌, ◌+◌, ◌==◌, Bool, List, None, Option, Some, false, true, ℕ}
use Rattle.five_tuple.specs.declared.header.Header.{Header}
use Rattle.policy_rules.specs.declared.policy.Action.{Action}
use Rattle.journal.specs.declared.item.Item.{Item}
use Rattle.journal.specs.declared.item.Item.TheVariants as item
use Rattle.update_machine.specs.Folds.{machine_count_of, journal_last_given}

-- ---- numbers

abbrev pub is_machine_packet_entry : Item → Bool
is_machine_packet_entry (item.Entered packet switch header) = true
is_machine_packet_entry (item.Closed packet switch) = true
is_machine_packet_entry _ = false

-- the number of the next packet
unfoldable pub journal_next_packet : List Item → ℕ
journal_next_packet journal = machine_count_of is_machine_packet_entry journal + 1

-- ---- where it is

abbrev pub machine_item_gives_header : ℕ → Item → Option Header
machine_item_gives_header i (item.Entered packet switch header) = if packet == i then Some header else None
machine_item_gives_header i _ = None

-- the header with which the packet entered
unfoldable pub journal_packet_header : List Item → ℕ → Option Header
journal_packet_header journal i = journal_last_given (machine_item_gives_header i) journal

abbrev pub machine_item_gives_standing : ℕ → Item → Option ℕ
machine_item_gives_standing i (item.Entered packet switch header) = if packet == i then Some switch else None
machine_item_gives_standing i (item.Hopped packet switch) = if packet == i then Some switch else None
machine_item_gives_standing i _ = None

-- the switch where it is: that of its last `Entered` or `Hopped`
unfoldable pub journal_standing_of : List Item → ℕ → Option ℕ
journal_standing_of journal i = journal_last_given (machine_item_gives_standing i) journal

-- ---- its decision

-- the version, the rule and the action that a packet got
pub record Decision : Type 0 where
  pub version : ℕ
  pub rule : Option ℕ
  pub action : Action

abbrev pub machine_item_gives_decision : ℕ → Item → Option Decision
machine_item_gives_decision i (item.Decided packet version rule action how) =
    if packet == i
    then Some (record { version = version; rule = rule; action = action })
    else None
machine_item_gives_decision i _ = None

unfoldable pub journal_decision_of : List Item → ℕ → Option Decision
journal_decision_of journal i = journal_last_given (machine_item_gives_decision i) journal
