-- A quiet network: no switch is down that the controller waits for, and each message that still
-- matters was received. The notion is our own; that of a newer advert is OSPF's (RFC 2328, section
-- 13.1). It is defined for any journal: a message was delivered if a `Delivered` of its number
-- follows its sending.
use Rattle.std.specs.Prelude.{[], if◌then◌else◌, ◌&&◌, ◌==◌, ◌||◌, ◌∷◌, ◌≡◌, ◌⊎◌, All, Bool, IsTrue, List, None, Option, Some, false, nat_lt, not, true, unwrap_or, ℕ, ⊤}
use Rattle.base.specs.Exports.{list_any, option_map_or}
use Rattle.ctrl_msg.specs.Exports.{body_boot}
use Rattle.ctrl_msg.specs.declared.message.Body.{Body}
use Rattle.ctrl_msg.specs.declared.message.Body.TheVariants.{Install, Stamp, Collect, Advertise, Hello, Installed, Stamped}
use Rattle.ctrl_msg.specs.declared.message.Message.{Message}
use Rattle.ctrl_msg.specs.declared.message.Place.TheVariants as receiver
use Rattle.failover.specs.Exports.{is_newer_advert}
use Rattle.journal.specs.declared.item.Item.{Item}
use Rattle.journal.specs.declared.item.Item.TheVariants as item
use Rattle.steps.specs.Exports.{StepSwitchExists}
use Rattle.update_machine.specs.Boots.{journal_boot_of, is_up}
use Rattle.update_machine.specs.Folds.{journal_last_given}
use Rattle.update_machine.specs.Marks.{journal_current_mark}
use Rattle.update_machine.specs.Messages.{was_delivered_in_journal}
use Rattle.update_machine.specs.Setting.{Setting}
use Rattle.update_machine.specs.SwitchNumbers.{machine_switches_of}

-- ---- which messages matter

-- the switch that speaks in a body to the controller, and its boot
abbrev pub machine_speaking_in_body : Body → Option (ℕ × ℕ)
machine_speaking_in_body (Hello s boot) = Some (s, boot)
machine_speaking_in_body (Installed s boot version) = Some (s, boot)
machine_speaking_in_body (Stamped s boot version) = Some (s, boot)
machine_speaking_in_body _ = None

abbrev pub is_of_switch_boot : ℕ → ℕ → ℕ × ℕ → Bool
is_of_switch_boot s boot (switch, of) = switch == s && of == boot

abbrev pub is_machine_advert_body : Body → Bool
is_machine_advert_body (Advertise advert) = true
is_machine_advert_body _ = false

-- the body carries this boot
abbrev pub machine_body_carries_boot : ℕ → Body → Bool
machine_body_carries_boot boot body = option_map_or (λ of. of == boot) (body_boot body) false

-- tables of a version below the current one
abbrev pub are_machine_tables_old : ℕ → Body → Bool
are_machine_tables_old current (Install boot tables) = nat_lt tables.version current
are_machine_tables_old current _ = false

-- the acknowledgement of such tables
abbrev pub is_machine_ack_below_version : ℕ → Body → Bool
is_machine_ack_below_version current (Installed s boot version) = nat_lt version current
is_machine_ack_below_version current _ = false

abbrev pub machine_item_begins_boot : ℕ → Item → Bool
machine_item_begins_boot s (item.Booted switch boot) = switch == s
machine_item_begins_boot s _ = false

-- the message, with these items after it in the journal, matters to a switch that is up if the
-- switch says it in its boot to the controller, and it is no old acknowledgement. It matters too if
-- it was sent to the switch since that boot began, is an advert or for that boot, and no old tables
abbrev pub machine_message_matters : List Item → ℕ → Message → List Item → Bool
machine_message_matters journal s message after = elim message.to [
  | receiver.Controller ↦
      is_up journal s
      && option_map_or (is_of_switch_boot s (journal_boot_of journal s)) (machine_speaking_in_body message.body) false
      && not (is_machine_ack_below_version (journal_current_mark journal) message.body)
  | receiver.Switch to ↦
      is_up journal s && to == s && not (list_any (machine_item_begins_boot s) after)
      && (is_machine_advert_body message.body || machine_body_carries_boot (journal_boot_of journal s) message.body)
      && not (are_machine_tables_old (journal_current_mark journal) message.body)
]

-- ---- which of them replace others

-- the body says what the other one does, of a greater version or of a newer advert
abbrev pub is_machine_later_body : Body → Body → Bool
is_machine_later_body (Stamp boot version touched) (Stamp of earlier others) = boot == of && nat_lt earlier version
is_machine_later_body (Collect boot version) (Collect of earlier) = boot == of && nat_lt earlier version
is_machine_later_body (Stamped s boot version) (Stamped t of earlier) =
    s == t && boot == of && nat_lt earlier version
is_machine_later_body (Advertise advert) (Advertise earlier) =
    advert.origin == earlier.origin && is_newer_advert advert earlier
is_machine_later_body _ _ = false

-- the later message is to the same receiver, and says the same, or something later
pub record MachineMessageReplaces (later earlier : Message) : Type 0 where
  pub receiver : later.to ≡ earlier.to
  pub says : (later.body ≡ earlier.body) ⊎ IsTrue (is_machine_later_body later.body earlier.body)

-- ---- quiet

-- one of these items sends a message that replaces this one, and that is delivered later
abbrev pub IsJournalMessageReplaced : Message → List Item → Type 0
IsJournalMessageReplaced message [] = ⊥
IsJournalMessageReplaced message (item.Sent number later ∷ after) =
    (MachineMessageReplaces later message × IsTrue (was_delivered_in_journal after number)) ⊎ IsJournalMessageReplaced message after
IsJournalMessageReplaced message (_ ∷ after) = IsJournalMessageReplaced message after

-- the message of this number, with these items after it, was delivered, or one that replaces it
abbrev pub IsJournalMessageReceived : ℕ → Message → List Item → Type 0
IsJournalMessageReceived number message after = IsTrue (was_delivered_in_journal after number) ⊎ IsJournalMessageReplaced message after

-- the same is true of each message of these last items of the journal that matters to a switch of
-- the network
abbrev pub AreMachineMessagesReceived : Setting → List Item → List Item → Type 0
AreMachineMessagesReceived setting journal [] = ⊤
AreMachineMessagesReceived setting journal (item.Sent number message ∷ after) =
    ((s : ℕ) → StepSwitchExists setting.net s → IsTrue (machine_message_matters journal s message after)
    → IsJournalMessageReceived number message after) × AreMachineMessagesReceived setting journal after
AreMachineMessagesReceived setting journal (_ ∷ after) = AreMachineMessagesReceived setting journal after

abbrev pub gives_journal_waited_for : ℕ → Item → Option Bool
gives_journal_waited_for s (item.Down switch) = if switch == s then Some true else None
gives_journal_waited_for s (item.OverNow switch) = if switch == s then Some false else None
gives_journal_waited_for s _ = None

-- the switch went down and there is no `OverNow` of it since
abbrev pub is_waited_for_in_journal : List Item → ℕ → Bool
is_waited_for_in_journal journal s = unwrap_or (journal_last_given (gives_journal_waited_for s) journal) false

pub record IsQuietMachineJournal (setting : Setting) (journal : List Item) : Type 0 where
  pub switches : All (λ s. IsTrue (is_up journal s || not (is_waited_for_in_journal journal s)))
      (machine_switches_of setting)
  pub messages : AreMachineMessagesReceived setting journal journal
