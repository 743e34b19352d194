-- The messages that were sent in a journal, in order, with the boots of their receivers.
use Rattle.std.specs.Prelude.{[], ◌++◌, ◌∷◌, List, ℕ}
use Rattle.ctrl_msg.specs.declared.message.Message.{Message}
use Rattle.ctrl_msg.specs.declared.message.Place.{Place}
use Rattle.ctrl_msg.specs.declared.message.Place.TheVariants as receiver
use Rattle.journal.specs.declared.item.Item.{Item}
use Rattle.journal.specs.declared.item.Item.TheVariants as item
use Rattle.update_machine.specs.Boots.{journal_boot_of}
use Rattle.update_machine.specs.Folds.{journal_folded_value}

-- a message, its number, and the boot of its receiver when it was sent: 0 for the controller
pub record MachineSending : Type 0 where
  pub number : ℕ
  pub message : Message
  pub boot : ℕ

abbrev pub journal_receiver_boot_at : List Item → Place → ℕ
journal_receiver_boot_at before (receiver.Switch s) = journal_boot_of before s
journal_receiver_boot_at before receiver.Controller = 0

abbrev pub changes_journal_sendings : List Item → List MachineSending → Item → List MachineSending
changes_journal_sendings before sendings (item.Sent number message) = sendings ++ record {
  number = number;
  message = message;
  boot = journal_receiver_boot_at before message.to;
} ∷ []
changes_journal_sendings before sendings _ = sendings

-- all that was sent, in order
unfoldable pub machine_sendings : List Item → List MachineSending
machine_sendings journal = journal_folded_value changes_journal_sendings [] journal
