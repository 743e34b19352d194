-- What each step writes into the journal. The sources of its blocks are named where they are
-- defined: `Moves` for packets, `Deliveries` for adverts, `Settling` for updates.
use Rattle.base.specs.Exports.{beq}
use Rattle.std.specs.Prelude.{[], if◌then◌else◌, ◌++◌, ◌+◌, ◌-◌, ◌==◌, ◌∷◌, Bool, Err, List, None, Ok, Option, Some, false, flat_map, map, max, min, slice_get, true, unwrap_or, ℕ}
use Rattle.ctrl_msg.specs.declared.message.Body.TheVariants.{Hello}
use Rattle.ctrl_msg.specs.declared.message.Message.{Message}
use Rattle.ctrl_msg.specs.Exports.{message_to_controller}
use Rattle.five_tuple.specs.declared.header.Header.{Header}
use Rattle.policy_rules.specs.declared.applying.Inapplicable.{Inapplicable}
use Rattle.policy_rules.specs.declared.applying.Inapplicable.TheVariants.{Absent, Taken, TooManyRows}
use Rattle.policy_rules.specs.declared.policy.Row.{Row}
use Rattle.policy_rules.specs.Exports.{NoPolicyPlan, NoRoom, TooManyLeaves, TooManyWords}
use Rattle.journal.specs.declared.item.Item.{Item}
use Rattle.journal.specs.declared.item.Item.TheVariants as item
use Rattle.steps.specs.declared.step.Step.{Step}
use Rattle.steps.specs.declared.step.Step.TheVariants.{Packet, Hop, Lose, Deliver, Forget, Expire, Update, LinkDown, LinkUp, Crash, Restart, Confirm, Resend}
use Rattle.update_machine.specs.Adverts.{journal_held_adverts}
use Rattle.update_machine.specs.Boots.{journal_boot_of, is_up}
use Rattle.update_machine.specs.Caches.{journal_cache_of}
use Rattle.update_machine.specs.Deliveries.{machine_advert_to, machine_delivery_items, journal_link_changes, machine_switches_in}
use Rattle.update_machine.specs.Links.{is_link_up_in_journal, serves}
use Rattle.update_machine.specs.Marks.{most_live_journal_versions, most_journal_versions, journal_retired_mark}
use Rattle.update_machine.specs.Messages.{is_deliverable, machine_send_items}
use Rattle.update_machine.specs.Moves.{machine_lookup_items, machine_move_items, journal_items_then}
use Rattle.update_machine.specs.Packets.{journal_next_packet, journal_standing_of}
use Rattle.update_machine.specs.Setting.{Setting}
use Rattle.update_machine.specs.Settling.{journal_resent_by_controller, machine_settling, machine_submitted_items}
use Rattle.update_machine.specs.Versions.{journal_next_policy, journal_version_count}
use Rattle.update_machine.specs.Travels.{journal_packets_at, travels_in_journal}
use Rattle.update_machine.specs.LinkMasks.{near}

abbrev pub nothing : List Item
nothing = item.Nothing ∷ []

-- ---- packets

-- a packet enters at a switch that serves and is looked up there; at another one it is closed
unfoldable pub machine_packet_items : Setting → ℕ → ℕ → Header → List Item → List Item
machine_packet_items setting i s header journal = elim (serves journal s) [
  | false ↦ item.Closed i s ∷ []
  | true ↦ journal_items_then (item.Entered i s header ∷ []) (machine_lookup_items setting i s) journal
]

unfoldable pub machine_hop_items : Setting → ℕ → List Item → List Item
machine_hop_items setting i journal = elim (travels_in_journal journal i) [
  | false ↦ nothing
  | true ↦ machine_move_items setting i (unwrap_or (journal_standing_of journal i) 0) journal
]

unfoldable pub machine_lose_items : ℕ → List Item → List Item
machine_lose_items i journal = elim (travels_in_journal journal i) [
  | false ↦ nothing
  | true ↦ item.Lost i ∷ []
]

-- ---- messages

unfoldable pub machine_deliver_items : Setting → List Item → ℕ → List Item → List Item
machine_deliver_items setting before number journal = elim (is_deliverable before number) [
  | false ↦ nothing
  | true ↦ journal_items_then (item.Delivered number ∷ []) (machine_delivery_items setting before number) journal
]

unfoldable pub machine_forget_items : ℕ → List Item → List Item
machine_forget_items number journal = elim (is_deliverable journal number) [
  | false ↦ nothing
  | true ↦ item.Forgotten number ∷ []
]

unfoldable pub machine_expire_items : Setting → ℕ → ℕ → List Item → List Item
machine_expire_items setting s place journal = elim (slice_get (journal_cache_of setting journal s).entries place) [
  | None ↦ nothing
  | Some entry ↦ item.Expired s place entry.message ∷ []
]

-- ---- policies

-- the code of a change that the newest policy refuses
abbrev pub machine_apply_code : Inapplicable → ℕ
machine_apply_code Absent = 24
machine_apply_code Taken = 25
machine_apply_code (TooManyRows rows) = 26

-- the code of a policy that is refused: it has no plan, or no more versions may be unretired, or
-- no more may exist in all
abbrev pub machine_plan_code : NoPolicyPlan → ℕ
machine_plan_code (TooManyWords words) = 12
machine_plan_code TooManyLeaves = 14
machine_plan_code (NoRoom partition) = 15

abbrev pub machine_marks_code : List Item → Option ℕ
machine_marks_code journal =
    if journal_version_count journal - journal_retired_mark journal == most_live_journal_versions then Some 16
    else if journal_version_count journal == most_journal_versions then Some 17
    else None

abbrev pub machine_rows_code : Setting → List Item → List Row → Option ℕ
machine_rows_code setting journal rows = elim (setting.plan rows) [
  | Err why ↦ Some (machine_plan_code why)
  | Ok plan ↦ machine_marks_code journal
]

abbrev pub machine_update_code : Setting → List Item → ℕ → Option ℕ
machine_update_code setting journal file = elim (journal_next_policy setting journal file) [
  | Err why ↦ Some (machine_apply_code why)
  | Ok rows ↦ machine_rows_code setting journal rows
]

-- a policy that isn't refused is the newest version
unfoldable pub machine_update_items : Setting → ℕ → List Item → List Item
machine_update_items setting file journal = elim (machine_update_code setting journal file) [
  | Some code ↦ item.Refused file code ∷ []
  | None ↦ journal_items_then (item.Submitted file (journal_version_count journal + 1) ∷ [])
      (machine_submitted_items setting)
      journal
]

-- ---- links and switches

-- the link comes back or fails; nothing if it is in that state already
unfoldable pub machine_link_items : Setting → List Item → ℕ → ℕ → Bool → List Item → List Item
machine_link_items setting before one two up journal = elim (beq (is_link_up_in_journal before one two) up) [
  | true ↦ nothing
  | false ↦ journal_items_then (item.LinkIs (min one two) (max one two) up ∷ [])
      (journal_link_changes setting before)
      journal
]

-- the packets that are at a switch that was up are lost with it
unfoldable pub journal_crash_items : Setting → List Item → ℕ → List Item → List Item
journal_crash_items setting before s journal = elim (is_up before s) [
  | false ↦ nothing
  | true ↦ journal_items_then (item.Down s ∷ map item.Lost (journal_packets_at before s))
      (journal_link_changes setting before) journal
]

-- a switch that was down begins its next boot, and sends it to the controller
abbrev pub machine_hello_of : List Item → ℕ → Message
machine_hello_of journal s = message_to_controller (Hello s (journal_boot_of journal s))

unfoldable pub machine_restart_items : ℕ → List Item → List Item
machine_restart_items s journal = elim (is_up journal s) [
  | true ↦ nothing
  | false ↦ journal_items_then (item.Booted s (journal_boot_of journal s + 1) ∷ [])
      (λ booted. machine_send_items booted (machine_hello_of booted s ∷ [])) journal
]

-- the controller no longer waits for a switch that is down
unfoldable pub machine_confirm_items : Setting → ℕ → List Item → List Item
machine_confirm_items setting s journal = elim (is_up journal s) [
  | true ↦ nothing
  | false ↦ journal_items_then (item.OverNow s ∷ []) (machine_settling setting) journal
]

-- a switch that is up sends its hello again, and to each neighbour every advert that it has
abbrev pub journal_resent_by_switch : Setting → List Item → ℕ → List Message
journal_resent_by_switch setting journal s = elim (is_up journal s) [
  | false ↦ []
  | true ↦ machine_hello_of journal s
      ∷ flat_map (λ neighbour. map (machine_advert_to neighbour) (journal_held_adverts setting journal s))
      (machine_switches_in setting (near setting journal s))
]

-- these are sent, or nothing happens if there are none
abbrev pub machine_sends_or_nothing : List Item → List Message → List Item
machine_sends_or_nothing journal [] = nothing
machine_sends_or_nothing journal (message ∷ messages) = machine_send_items journal (message ∷ messages)

unfoldable pub machine_resend_items : Setting → ℕ → List Item → List Item
machine_resend_items setting s journal =
    machine_sends_or_nothing journal
    (journal_resent_by_switch setting journal s ++ journal_resent_by_controller setting journal s)

-- ---- a step

-- what a step writes after its row, where `before` is the journal before the row
abbrev pub machine_step_items : Setting → List Item → Step → List Item → List Item
machine_step_items setting before (Packet switch header) =
    machine_packet_items setting (journal_next_packet before) switch header
machine_step_items setting before (Hop packet) = machine_hop_items setting packet
machine_step_items setting before (Lose packet) = machine_lose_items packet
machine_step_items setting before (Deliver message) = machine_deliver_items setting before message
machine_step_items setting before (Forget message) = machine_forget_items message
machine_step_items setting before (Expire switch place) = machine_expire_items setting switch place
machine_step_items setting before (Update file) = machine_update_items setting file
machine_step_items setting before (LinkDown one two) = machine_link_items setting before one two false
machine_step_items setting before (LinkUp one two) = machine_link_items setting before one two true
machine_step_items setting before (Crash switch) = journal_crash_items setting before switch
machine_step_items setting before (Restart switch) = machine_restart_items switch
machine_step_items setting before (Confirm switch) = machine_confirm_items setting switch
machine_step_items setting before (Resend switch) = machine_resend_items setting switch

-- what a step of this row writes after the journal
unfoldable pub piece : Setting → List Item → ℕ → Step → List Item
piece setting journal row step =
    journal_items_then (item.Row row step ∷ []) (machine_step_items setting journal step) journal
