-- What is known of boots, whatever steps are taken, and if messages are lost, repeated or late.
use Rattle.std.specs.Prelude.{◌≡◌, ◌≤◌, IfSome, IsFalse, IsTrue, List, Some, ℕ}
use Rattle.ctrl_msg.specs.Exports.{body_boot}
use Rattle.update_machine.specs.Exports.{Body, Item, Message, OpenAt, Place, journal_boot_of, is_member, is_over, is_up, journal_known_boot, journal_message_of, serves, machine_speaking_in_body, machine_message_to_switch}
use Rattle.ctrl_msg.specs.declared.message.Place.TheVariants as receiver

-- a message to a switch carries at most the boot that the controller knows of it, and one from a
-- switch at most that switch's own boot
abbrev pub ControlHasPastBoot : List Item → Place → Body → Type 0
ControlHasPastBoot journal (receiver.Switch s) body =
    IfSome (body_boot body) (λ boot. boot ≤ journal_known_boot journal s)
ControlHasPastBoot journal receiver.Controller body =
    IfSome (machine_speaking_in_body body) (λ of. of.1 ≤ journal_boot_of journal of.0)

-- the known boot of a switch is at most its own, and no message carries a later boot
pub record ControlBootsArePast (journal : List Item) : Type 0 where
  pub known : (s : ℕ) → journal_known_boot journal s ≤ journal_boot_of journal s
  pub sent : (n : ℕ) (message : Message) → journal_message_of journal n ≡ Some message →
      ControlHasPastBoot journal message.to message.body

-- all messages that open a switch in one of its boots carry the same version
abbrev pub ControlOpeningMessagesNameOneVersion : List Item → Type 0
ControlOpeningMessagesNameOneVersion journal = (s boot one other m n : ℕ)
    → journal_message_of journal m ≡ Some (machine_message_to_switch s (OpenAt boot one))
    → journal_message_of journal n ≡ Some (machine_message_to_switch s (OpenAt boot other)) → one ≡ other

-- a switch that serves is up and a member, and the controller knows its boot; a switch that is up
-- and whose boot is known isn't over
pub record ControlServingIsKnown (journal : List Item) : Type 0 where
  pub up : (s : ℕ) → IsTrue (serves journal s) → IsTrue (is_up journal s)
  pub known : (s : ℕ) → IsTrue (serves journal s) → journal_known_boot journal s ≡ journal_boot_of journal s
  pub member : (s : ℕ) → IsTrue (serves journal s) → IsTrue (is_member journal s)
  pub not_over : (s : ℕ) → IsTrue (is_up journal s) → journal_known_boot journal s ≡ journal_boot_of journal s →
      IsFalse (is_over journal s)
