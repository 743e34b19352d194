-- The life of a switch: its boots, whether it is up, and what it heard in its boot. A switch that
-- restarts has forgotten everything; that is our own, because the papers on DIFANE and on updates
-- in two phases have no restart. A message is read where it was sent.
use Rattle.std.specs.Prelude.{[], if◌then◌else◌, ◌&&◌, ◌++◌, ◌==◌, ◌∷◌, Bool, List, None, Option, Some, false, true, unwrap_or, ℕ}
use Rattle.base.specs.Exports.{option_map_or}
use Rattle.ctrl_msg.specs.Exports.{body_boot}
use Rattle.ctrl_msg.specs.declared.message.Body.{Body}
use Rattle.ctrl_msg.specs.declared.message.Place.{Place}
use Rattle.journal.specs.declared.item.Item.{Item}
use Rattle.journal.specs.declared.item.Item.TheVariants as item
use Rattle.update_machine.specs.Folds.{journal_folded_value, journal_last_given}
use Rattle.update_machine.specs.Links.{journal_message_of}
use Rattle.ctrl_msg.specs.declared.message.Place.TheVariants as receiver

-- ---- boots

abbrev pub machine_item_gives_boot : ℕ → Item → Option ℕ
machine_item_gives_boot s (item.Booted switch boot) = if switch == s then Some boot else None
machine_item_gives_boot s _ = None

-- the boot of its last `Booted`; the first one is 1
unfoldable pub journal_boot_of : List Item → ℕ → ℕ
journal_boot_of journal s = unwrap_or (journal_last_given (machine_item_gives_boot s) journal) 1

abbrev pub machine_item_gives_switch_up : ℕ → Item → Option Bool
machine_item_gives_switch_up s (item.Down switch) = if switch == s then Some false else None
machine_item_gives_switch_up s (item.Booted switch boot) = if switch == s then Some true else None
machine_item_gives_switch_up s _ = None

-- a switch is up at first, and if it didn't go down since its last boot
unfoldable pub is_up : List Item → ℕ → Bool
is_up journal s = unwrap_or (journal_last_given (machine_item_gives_switch_up s) journal) true

-- it is up in the boot in which it began
abbrev pub is_first_boot_in_journal : List Item → ℕ → Bool
is_first_boot_in_journal journal s = is_up journal s && journal_boot_of journal s == 1

-- ---- what a switch hears

abbrev pub is_journal_receiver_switch : ℕ → Place → Bool
is_journal_receiver_switch s (receiver.Switch switch) = switch == s
is_journal_receiver_switch s receiver.Controller = false

-- a body that carries a boot is only for that boot
abbrev pub is_journal_body_for_boot : ℕ → Body → Bool
is_journal_body_for_boot boot body = option_map_or (λ of. of == boot) (body_boot body) true

-- what the message of this number says to switch s when it is delivered after this journal:
-- nothing if it is for another switch or another boot, or the switch is down
abbrev pub journal_body_to_switch : List Item → ℕ → ℕ → Option Body
journal_body_to_switch before s number = elim (journal_message_of before number) [
  | None ↦ None
  | Some message ↦
      if is_journal_receiver_switch s message.to && is_up before s && is_journal_body_for_boot (journal_boot_of before s) message.body
      then Some message.body else None
]

abbrev pub changes_journal_heard : ℕ → List Item → List Body → Item → List Body
changes_journal_heard s before bodies (item.Down switch) = if switch == s then [] else bodies
changes_journal_heard s before bodies (item.Booted switch boot) = if switch == s then [] else bodies
changes_journal_heard s before bodies (item.Delivered number) =
    option_map_or (λ body. bodies ++ body ∷ []) (journal_body_to_switch before s number) bodies
changes_journal_heard s before bodies _ = bodies

-- the bodies that were delivered to the switch in its boot; none if it is down
unfoldable pub heard : List Item → ℕ → List Body
heard journal s = journal_folded_value (changes_journal_heard s) [] journal
