-- What the controller sends: the two-phase update of Reitblatt, Foster, Rexford, Schlesinger and
-- Walker, "Abstractions for Network Update", with boots and acknowledgements of our own. Each group
-- is by ascending switch, and each message has the known boot of its switch.
use Rattle.std.specs.Prelude.{[], if◌then◌else◌, ◌&&◌, ◌++◌, ◌+◌, ◌-◌, ◌==◌, ◌∷◌, List, false, filter, map, nat_lt, not, true, ℕ}
use Rattle.base.specs.Exports.{range_with_len}
use Rattle.ctrl_msg.specs.declared.message.Body.{Body}
use Rattle.ctrl_msg.specs.declared.message.Body.TheVariants.{Install, OpenAt, Stamp, Collect}
use Rattle.ctrl_msg.specs.declared.message.Message.{Message}
use Rattle.ctrl_msg.specs.declared.message.Place.TheVariants as receiver
use Rattle.journal.specs.declared.item.Item.{Item}
use Rattle.journal.specs.declared.item.Item.TheVariants as item
use Rattle.update_machine.specs.Marks.{acked_stamp, journal_current_mark, has_acked, is_joining, is_member, is_over, journal_known_boot, members, journal_next_current, journal_next_retired, open_version, journal_retired_mark}
use Rattle.update_machine.specs.Messages.{machine_send_items}
use Rattle.update_machine.specs.Moves.{machine_blocks_in_turn, journal_items_then}
use Rattle.update_machine.specs.Setting.{Setting}
use Rattle.update_machine.specs.SwitchNumbers.{machine_switches_of}
use Rattle.update_machine.specs.Touched.{machine_touched_by}
use Rattle.update_machine.specs.Versions.{journal_tables_at, journal_version_count}

-- ---- messages to a switch

abbrev pub machine_message_to_switch : ℕ → Body → Message
machine_message_to_switch s body = record { to = receiver.Switch s; body = body }

-- keep the tables of this version
abbrev pub journal_install_for : Setting → List Item → ℕ → ℕ → Message
journal_install_for setting journal version s =
    machine_message_to_switch s (Install (journal_known_boot journal s) (journal_tables_at setting journal version s))

-- serve from this version on
abbrev pub journal_open_for : List Item → ℕ → ℕ → Message
journal_open_for journal version s = machine_message_to_switch s (OpenAt (journal_known_boot journal s) version)

-- stamp with this version, which was made by a change that touches these words
abbrev pub journal_stamp_for : Setting → List Item → ℕ → ℕ → Message
journal_stamp_for setting journal version s =
    machine_message_to_switch s (Stamp (journal_known_boot journal s) version (machine_touched_by setting journal version))

-- drop the tables up to this version
abbrev pub machine_collect_for : List Item → ℕ → ℕ → Message
machine_collect_for journal version s = machine_message_to_switch s (Collect (journal_known_boot journal s) version)

-- ---- settling

-- a mark rises as far as it may, and a message is sent to each member
abbrev pub machine_raised_items : (List Item → ℕ) → (Setting → List Item → ℕ) → (ℕ → Item)
    → (List Item → ℕ → ℕ → Message) → Setting → List Item → List Item
machine_raised_items mark next says tells setting journal =
    let version = next setting journal in
    elim (nat_lt (mark journal) version) [
      | false ↦ []
      | true ↦ journal_items_then (says version ∷ [])
          (λ raised. machine_send_items raised (map (tells journal version) (members setting journal)))
          journal
    ]

-- current rises as far as the members' acknowledgements allow, and they are told to stamp with it
unfoldable pub machine_current_items : Setting → List Item → List Item
machine_current_items setting journal =
    machine_raised_items journal_current_mark journal_next_current item.Current (journal_stamp_for setting) setting journal

-- the joining switches that acknowledged the current version
abbrev pub machine_opening_switches : Setting → List Item → List ℕ
machine_opening_switches setting journal =
    filter (λ s. is_joining journal s && has_acked journal s (journal_current_mark journal))
    (machine_switches_of setting)

-- these switches are told to serve
unfoldable pub machine_open_items : Setting → List Item → List Item
machine_open_items setting journal =
    machine_send_items journal (map (journal_open_for journal (journal_current_mark journal))
    (machine_opening_switches setting journal))

-- retired rises as far as the members' stamps allow, and they are told to drop those tables
unfoldable pub machine_retired_items : Setting → List Item → List Item
machine_retired_items setting journal =
    machine_raised_items journal_retired_mark journal_next_retired item.Retired machine_collect_for setting journal

-- the three parts, one after another
unfoldable pub machine_settling : Setting → List Item → List Item
machine_settling setting journal =
    machine_blocks_in_turn (machine_current_items setting ∷ machine_open_items setting ∷ machine_retired_items setting ∷ []) journal

-- ---- what else is sent

-- the versions from the current one to the last, ascending
abbrev pub journal_versions_from_current : List Item → List ℕ
journal_versions_from_current journal =
    range_with_len (journal_current_mark journal) (journal_version_count journal + 1 - journal_current_mark journal)

-- the tables of each version from the current one on are sent to a switch that began a boot
unfoldable pub machine_installs_to : Setting → ℕ → List Item → List Item
machine_installs_to setting s journal =
    machine_send_items journal
    (map (λ version. journal_install_for setting journal version s) (journal_versions_from_current journal))

-- the tables of the newest version are sent to each switch that isn't over
unfoldable pub machine_installs_to_all : Setting → List Item → List Item
machine_installs_to_all setting journal =
    machine_send_items journal
    (map (journal_install_for setting journal (journal_version_count journal))
    (filter (λ s. not (is_over journal s)) (machine_switches_of setting)))

-- a new version is submitted
abbrev pub machine_submitted_items : Setting → List Item → List Item
machine_submitted_items setting journal = machine_blocks_in_turn (machine_installs_to_all setting ∷ machine_settling setting ∷ []) journal

-- ---- sending again

-- of these versions, the tables of those that the switch didn't acknowledge
abbrev pub journal_unacked_installs : Setting → List Item → ℕ → List ℕ → List Message
journal_unacked_installs setting journal s versions =
    map (λ version. journal_install_for setting journal version s)
    (filter (λ version. not (has_acked journal s version)) versions)

-- a member may have missed its opening, later tables, the current stamp and the retired mark
abbrev pub journal_resent_to_member : Setting → List Item → ℕ → List Message
journal_resent_to_member setting journal s =
    journal_open_for journal (open_version journal s) s
    ∷ journal_unacked_installs setting journal s (range_with_len (journal_current_mark journal + 1)
    (journal_version_count journal - journal_current_mark journal))
    ++ (if nat_lt (acked_stamp journal s) (journal_current_mark journal)
    then journal_stamp_for setting journal (journal_current_mark journal) s ∷ [] else [])
    ++ (if journal_retired_mark journal == 0
    then [] else machine_collect_for journal (journal_retired_mark journal) s ∷ [])

-- what the controller sends again: only tables to a joining switch, nothing to one that is over
unfoldable pub journal_resent_by_controller : Setting → List Item → ℕ → List Message
journal_resent_by_controller setting journal s = elim (is_over journal s) [
  | true ↦ []
  | false ↦ elim (is_member journal s) [
    | true ↦ journal_resent_to_member setting journal s
    | false ↦ journal_unacked_installs setting journal s (journal_versions_from_current journal)
  ]
]
