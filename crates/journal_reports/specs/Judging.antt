-- How `quiet` tests a message: whether it matters to a switch, and whether it replaces another
-- one. Its contract says that this decides whether the network is quiet.
use Rattle.std.specs.Prelude.{[], ◌&&◌, ◌==◌, ◌||◌, ◌∷◌, ◌≡◌, ◌⊎◌, Bool, IsTrue, List, None, Option, Some, false, nat_eq, nat_lt, not, option_map, slice_index_or, true, unwrap_or, ℕ, ⊤}
use Rattle.std.specs.Option.{option_eq, option_map_or}
use Rattle.ctrl_msg.specs.Exports.{body_boot, body_version}
use Rattle.update_machine.specs.Exports.{Advert, Advertise, Body, Collect, Hello, Install, Installed, Item, Message, OpenAt, Place, Stamp, Stamped, are_machine_tables_old, journal_boot_of, machine_body_carries_boot, journal_current_mark, machine_item_gives_boot, machine_item_gives_current, machine_item_gives_switch_up, gives_journal_waited_for, is_machine_advert_body, is_of_switch_boot, is_machine_ack_below_version, is_up, is_waited_for_in_journal, machine_speaking_in_body}
use Rattle.ctrl_msg.specs.declared.message.Place.TheVariants as receiver
use Rattle.failover.specs.Exports.{is_newer_advert}
use Rattle.journal.specs.declared.item.Item.TheVariants as item
use Rattle.journal_reports.specs.declared.status.SwitchStatus.{SwitchStatus}

-- ---- marks of delivered messages

-- the message of this number is marked, and all other marks are as before
abbrev pub ReportMarksOneMore : ℕ → List Bool → List Bool → Type 0
ReportMarksOneMore number before after = (n : ℕ)
    → slice_index_or after n false ≡ (number == n || slice_index_or before n false)

-- ---- the status of a switch

abbrev pub report_switch_status_with : Item → SwitchStatus → SwitchStatus
report_switch_status_with item status = record {
  switch = status.switch;
  is_up = unwrap_or (machine_item_gives_switch_up status.switch item) status.is_up;
  boot = unwrap_or (machine_item_gives_boot status.switch item) status.boot;
  is_waited_for = unwrap_or (gives_journal_waited_for status.switch item) status.is_waited_for;
  current = unwrap_or (machine_item_gives_current item) status.current;
}

-- only the item, if it concerns statuses
abbrev pub report_status_item : Item → List Item
report_status_item (item.Down s) = item.Down s ∷ []
report_status_item (item.Booted s boot) = item.Booted s boot ∷ []
report_status_item (item.OverNow s) = item.OverNow s ∷ []
report_status_item (item.Current version) = item.Current version ∷ []
report_status_item item = []

-- what the journal says about the switch
abbrev pub report_switch_status_in : List Item → ℕ → SwitchStatus
report_switch_status_in journal s = record {
  switch = s;
  is_up = is_up journal s;
  boot = journal_boot_of journal s;
  is_waited_for = is_waited_for_in_journal journal s;
  current = journal_current_mark journal;
}

-- ---- which messages matter

-- the message, to the switch or from it, matters in this status; one to it only if no boot of the
-- switch began since it was sent. None matters if the switch is down
abbrev pub matters_in_report_status : SwitchStatus → Bool → Message → Bool
matters_in_report_status status in_boot message = elim message.to [
  | receiver.Controller ↦
      status.is_up
      && option_map_or (is_of_switch_boot status.switch status.boot) (machine_speaking_in_body message.body) false
      && not (is_machine_ack_below_version status.current message.body)
  | receiver.Switch to ↦
      status.is_up && to == status.switch && in_boot
      && (is_machine_advert_body message.body || machine_body_carries_boot status.boot message.body)
      && not (are_machine_tables_old status.current message.body)
]

-- ---- which messages replace others

-- the switch that says this to the controller
abbrev pub report_speaking_switch : Body → Option ℕ
report_speaking_switch body = option_map (λ (of : ℕ × ℕ). of.0) (machine_speaking_in_body body)

abbrev pub report_is_same_advert : Advert → Advert → Bool
report_is_same_advert one other = one.origin == other.origin && one.boot == other.boot && one.seq == other.seq
    && one.up == other.up

-- both bodies are of the same kind, which is neither cache rule nor advert
abbrev pub are_reported_bodies_same_kind : Body → Body → Bool
are_reported_bodies_same_kind (Install boot tables) (Install of earlier) = true
are_reported_bodies_same_kind (OpenAt boot version) (OpenAt of earlier) = true
are_reported_bodies_same_kind (Stamp boot version touched) (Stamp of earlier others) = true
are_reported_bodies_same_kind (Collect boot version) (Collect of earlier) = true
are_reported_bodies_same_kind (Hello s boot) (Hello t of) = true
are_reported_bodies_same_kind (Installed s boot version) (Installed t of earlier) = true
are_reported_bodies_same_kind (Stamped s boot version) (Stamped t of earlier) = true
are_reported_bodies_same_kind _ _ = false

-- what the body says of a version is true of those before it too
abbrev pub report_holds_for_earlier : Body → Bool
report_holds_for_earlier (Stamp boot version touched) = true
report_holds_for_earlier (Collect boot version) = true
report_holds_for_earlier (Stamped s boot version) = true
report_holds_for_earlier _ = false

-- if there are two versions, the first is the second one, or greater if that is enough
abbrev pub is_reported_version_at_least : Bool → Option ℕ → Option ℕ → Bool
is_reported_version_at_least rises (Some version) (Some old) = version == old || (rises && nat_lt old version)
is_reported_version_at_least rises _ _ = true

abbrev pub is_version_enough_in_report : Body → Body → Bool
is_version_enough_in_report later earlier =
    is_reported_version_at_least (report_holds_for_earlier later) (body_version later) (body_version earlier)

-- the later body says what the earlier one does, of the same or a greater version, or of the same
-- or a newer advert; of tables it compares only the version, and of touched words nothing
abbrev pub journal_report_replaces_body : Body → Body → Bool
journal_report_replaces_body (Advertise advert) (Advertise earlier) =
    report_is_same_advert advert earlier || (advert.origin == earlier.origin && is_newer_advert advert earlier)
journal_report_replaces_body later earlier = are_reported_bodies_same_kind later earlier
    && option_eq nat_eq (report_speaking_switch later) (report_speaking_switch earlier)
    && option_eq nat_eq (body_boot later) (body_boot earlier) && is_version_enough_in_report later earlier

abbrev pub is_same_report_receiver : Place → Place → Bool
is_same_report_receiver (receiver.Switch s) (receiver.Switch t) = s == t
is_same_report_receiver receiver.Controller receiver.Controller = true
is_same_report_receiver _ _ = false

abbrev pub journal_report_replaces_message : Message → Message → Bool
journal_report_replaces_message later earlier =
    is_same_report_receiver later.to earlier.to && journal_report_replaces_body later.body earlier.body

-- two installs have the same tables; of two stamps the later one is of a greater version, or both
-- have the same touched words
abbrev pub HaveSameListsInReport : Body → Body → Type 0
HaveSameListsInReport (Install boot one) (Install of other) = one ≡ other
HaveSameListsInReport (Stamp boot version one) (Stamp of earlier other) =
    IsTrue (nat_lt earlier version) ⊎ (one ≡ other)
HaveSameListsInReport _ _ = ⊤

-- the later message says as much: it replaces the earlier one, if that is no cache rule
pub record ReportedMessageSaysAsMuch (later earlier : Message) : Type 0 where
  pub message : IsTrue (journal_report_replaces_message later earlier)
  pub lists : HaveSameListsInReport later.body earlier.body

abbrev pub report_has_mark : List Bool → ℕ → Bool
report_has_mark marks number = slice_index_or marks number false

-- ---- which switch an item concerns

-- the switch that a message is to, or from
abbrev pub report_switch_of_message : Message → Option ℕ
report_switch_of_message message = elim message.to [
  | receiver.Switch s ↦ Some s
  | receiver.Controller ↦ report_speaking_switch message.body
]

-- the switch that the item concerns: it begins its boot, or sends a message to it or from it
abbrev pub report_concerned_switch : Item → Option ℕ
report_concerned_switch (item.Sent number message) = report_switch_of_message message
report_concerned_switch (item.Booted s boot) = Some s
report_concerned_switch item = None

abbrev pub is_named_in_report : ℕ → Option ℕ → Bool
is_named_in_report s who = option_map_or (λ t. t == s) who false

-- ---- which switches are missed

-- the switch is down, and the controller waits for it
abbrev pub is_missed_in_report : SwitchStatus → Bool
is_missed_in_report status = not status.is_up && status.is_waited_for
