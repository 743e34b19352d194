-- How often a switch was called for a packet: to let it in, to move it on, and to receive it at
-- the end of its route. The count is our own: by it a journal shows that its switches were called.
use Rattle.std.specs.Prelude.{[], if◌then◌else◌, ◌+◌, ◌-◌, ◌==◌, ◌^◌, ◌||◌, ◌∷◌, Bool, List, false, min, sum_by, true, ℕ}
use Rattle.base.specs.Exports.{list_any}
use Rattle.journal.specs.declared.item.Item.{Item}
use Rattle.journal.specs.declared.item.Item.TheVariants as item
use Rattle.steps.specs.declared.step.Step.TheVariants.{Hop}
use Rattle.update_machine.specs.Folds.{machine_count_of}
use Rattle.update_machine.specs.Travels.{journal_travels_at}
use Rattle.update_machine.specs.Steps.{MachineStepItems, journal_steps_in}

-- a packet entered, or is closed
abbrev pub is_machine_entry_at : ℕ → Item → Bool
is_machine_entry_at s (item.Entered packet switch header) = switch == s
is_machine_entry_at s (item.Closed packet switch) = switch == s
is_machine_entry_at s _ = false

-- a packet moved on
abbrev pub is_machine_packet_move : Item → Bool
is_machine_packet_move (item.Hopped packet switch) = true
is_machine_packet_move _ = false

-- a link was found down, and the packet got stuck right there
abbrev pub machine_stuck_at_link : List Item → Bool
machine_stuck_at_link (item.FoundDown packet one two ∷ item.Stuck i s cause leg down ∷ items) = true
machine_stuck_at_link (other ∷ items) = machine_stuck_at_link items
machine_stuck_at_link [] = false

-- the items of a hop that moved its packet on, or found it stuck before it arrived
abbrev pub journal_hop_stays_on_way : List Item → Bool
journal_hop_stays_on_way items = list_any is_machine_packet_move items || machine_stuck_at_link items

-- a hop of a packet that was at the switch is a call there, and another one if it arrives
abbrev pub journal_hop_calls : ℕ → MachineStepItems → List Item → ℕ
journal_hop_calls s step (item.Row row (Hop packet) ∷ items) =
    if journal_travels_at step.before s packet then (if journal_hop_stays_on_way items then 1 else 2) else 0
journal_hop_calls s step _ = 0

-- the greatest number that is counted
abbrev pub most_journal_handled : ℕ
most_journal_handled = 2 ^ 64 - 1

-- the entries at the switch and the calls of hops there
unfoldable pub journal_handled_count : List Item → ℕ → ℕ
journal_handled_count journal s =
    min most_journal_handled
    (machine_count_of (is_machine_entry_at s) journal
    + sum_by (λ step. journal_hop_calls s step step.items) (journal_steps_in journal))
