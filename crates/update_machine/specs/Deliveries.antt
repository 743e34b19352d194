-- What a delivery causes, and what switches send when their links change. Adverts that reach all
-- switches are those of OSPF (RFC 2328, section 13).
use Rattle.std.specs.Prelude.{[], ◌&&◌, ◌==◌, ◌∷◌, Bool, List, None, Some, false, filter, flat_map, map, nat_lt, not, true, ℕ}
use Rattle.ctrl_msg.specs.declared.message.Body.{Body}
use Rattle.ctrl_msg.specs.declared.message.Body.TheVariants.{Install, OpenAt, Stamp, Advertise, Hello, Installed, Stamped}
use Rattle.ctrl_msg.specs.declared.message.Message.{Message}
use Rattle.ctrl_msg.specs.Exports.{message_to_controller}
use Rattle.ctrl_msg.specs.declared.message.Place.TheVariants as receiver
use Rattle.failover.specs.Exports.{is_advert_news}
use Rattle.base.specs.Exports.{has}
use Rattle.failover.specs.declared.advert.Advert.{Advert}
use Rattle.journal.specs.declared.item.Item.{Item}
use Rattle.journal.specs.declared.item.Item.TheVariants as item
use Rattle.update_machine.specs.Adverts.{journal_adverts_known, journal_held_adverts, own_advert}
use Rattle.update_machine.specs.Boots.{is_up, journal_body_to_switch}
use Rattle.update_machine.specs.LinkMasks.{near}
use Rattle.update_machine.specs.Marks.{journal_known_boot}
use Rattle.update_machine.specs.Messages.{machine_send_items}
use Rattle.update_machine.specs.Moves.{machine_blocks_in_turn, journal_items_then}
use Rattle.update_machine.specs.Setting.{Setting}
use Rattle.update_machine.specs.SwitchNumbers.{machine_switches_of}
use Rattle.update_machine.specs.Settling.{machine_installs_to, machine_settling, machine_message_to_switch}
use Rattle.update_machine.specs.Versions.{journal_stamp_of}
use Rattle.update_machine.specs.Links.{serves, journal_message_of}

-- ---- link changes: `before` is the journal before the step

-- the switches of a mask, ascending
abbrev pub machine_switches_in : Setting → ℕ → List ℕ
machine_switches_in setting mask = filter (has mask) (machine_switches_of setting)

abbrev pub machine_advert_to : ℕ → Advert → Message
machine_advert_to s advert = machine_message_to_switch s (Advertise advert)

-- the switch is up, and the mask of its usable links changed
abbrev pub journal_usable_links_changed : Setting → List Item → List Item → ℕ → Bool
journal_usable_links_changed setting before journal s =
    is_up journal s && not (near setting before s == near setting journal s)

-- what the switch sends a neighbour: over a link that became usable all adverts that it has, over
-- any other one only its own
abbrev pub machine_messages_over_link : Setting → List Item → List Item → ℕ → ℕ → List Message
machine_messages_over_link setting before journal s neighbour = elim (has (near setting before s) neighbour) [
  | true ↦ machine_advert_to neighbour (own_advert setting journal s) ∷ []
  | false ↦ map (machine_advert_to neighbour) (journal_held_adverts setting journal s)
]

abbrev pub machine_messages_of : Setting → List Item → List Item → ℕ → List Message
machine_messages_of setting before journal s =
    flat_map (machine_messages_over_link setting before journal s) (machine_switches_in setting (near setting journal s))

-- each switch whose links changed sends to its neighbours, all by ascending number
unfoldable pub journal_link_changes : Setting → List Item → List Item → List Item
journal_link_changes setting before journal =
    machine_send_items journal
    (flat_map (machine_messages_of setting before journal)
    (filter (journal_usable_links_changed setting before journal) (machine_switches_of setting)))

-- ---- at a switch

-- the switch passes an advert on to its neighbours
abbrev pub machine_advert_passed_on : Setting → List Item → ℕ → Advert → List Message
machine_advert_passed_on setting journal s advert =
    map (λ neighbour. machine_advert_to neighbour advert)
    (machine_switches_in setting (near setting journal s))

-- the advert is of another switch, and newer than the one that the switch knew, if any
abbrev pub is_journal_news_to : Setting → List Item → ℕ → Advert → Bool
is_journal_news_to setting before s advert =
    not (advert.origin == s) && is_advert_news (journal_adverts_known setting before s) advert

-- a switch acknowledges tables and stamps, opens if it didn't serve, and passes news on
unfoldable pub journal_switch_items : Setting → List Item → ℕ → Body → List Item → List Item
journal_switch_items setting before s (Install boot tables) journal =
    machine_send_items journal (message_to_controller (Installed s boot tables.version) ∷ [])
journal_switch_items setting before s (Stamp boot version touched) journal =
    machine_send_items journal (message_to_controller (Stamped s boot version) ∷ [])
journal_switch_items setting before s (OpenAt boot version) journal = elim (serves before s) [
  | true ↦ []
  | false ↦ journal_items_then (item.Opened s (journal_stamp_of journal s) ∷ []) (journal_link_changes setting before)
      journal
]
journal_switch_items setting before s (Advertise advert) journal =
    elim (is_journal_news_to setting before s advert) [
      | true ↦ machine_send_items journal (machine_advert_passed_on setting journal s advert)
      | false ↦ []
    ]
journal_switch_items setting before s _ journal = []

-- ---- at the controller

-- a hello that raised the known boot of its switch
abbrev pub is_new_boot_in_journal : List Item → ℕ → ℕ → Bool
is_new_boot_in_journal before s boot = nat_lt (journal_known_boot before s) boot

-- after such a hello the controller sends the switch its tables
abbrev pub machine_after_hello : Setting → List Item → Body → List Item → List Item
machine_after_hello setting before (Hello s boot) journal = elim (is_new_boot_in_journal before s boot) [
  | true ↦ machine_installs_to setting s journal
  | false ↦ []
]
machine_after_hello setting before _ journal = []

unfoldable pub machine_controller_items : Setting → List Item → Body → List Item → List Item
machine_controller_items setting before body journal =
    machine_blocks_in_turn (machine_settling setting ∷ machine_after_hello setting before body ∷ []) journal

-- ---- a delivery

-- what the receiver does after the `Delivered`: a switch does nothing if it is down, or the message
-- is for another boot
abbrev pub machine_received_items : Setting → List Item → ℕ → Message → List Item → List Item
machine_received_items setting before number message journal = elim message.to [
  | receiver.Controller ↦ machine_controller_items setting before message.body journal
  | receiver.Switch s ↦ elim (journal_body_to_switch before s number) [
    | None ↦ []
    | Some body ↦ journal_switch_items setting before s body journal
  ]
]

unfoldable pub machine_delivery_items : Setting → List Item → ℕ → List Item → List Item
machine_delivery_items setting before number journal = elim (journal_message_of before number) [
  | None ↦ []
  | Some message ↦ machine_received_items setting before number message journal
]
