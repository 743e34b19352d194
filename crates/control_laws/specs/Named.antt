-- What messages name: the switch that they are to or from, and the version that they are about.
use Rattle.std.specs.Prelude.{◌≡◌, ◌≤◌, All, IfSome, List, None, Option, Some, ℕ}
use Rattle.ctrl_msg.specs.Exports.{body_version, message_to_controller}
use Rattle.update_machine.specs.Exports.{Body, Item, Message, Place, Setting, journal_controller_heard, heard, journal_message_of, machine_speaking_in_body, machine_message_to_switch, journal_version_count}
use Rattle.ctrl_msg.specs.declared.message.Place.TheVariants as receiver
use Rattle.steps.specs.Exports.{StepSwitchExists}

-- the body names its sender, which is a switch of the network
abbrev pub IsControlSenderOfNetwork : Setting → Option (ℕ × ℕ) → Type 0
IsControlSenderOfNetwork setting None = ⊥
IsControlSenderOfNetwork setting (Some of) = StepSwitchExists setting.net of.0

-- a message to a switch goes to one of the network and names no sender; one to the controller is
-- from a switch of the network
abbrev pub IsControlMessageAddressed : Setting → Place → Body → Type 0
IsControlMessageAddressed setting (receiver.Switch s) body = StepSwitchExists setting.net s × (machine_speaking_in_body body ≡ None)
IsControlMessageAddressed setting receiver.Controller body = IsControlSenderOfNetwork setting (machine_speaking_in_body body)

-- the message is addressed like this, and its version, if it carries one, exists
pub record ControlMessageNamesThere (setting : Setting) (journal : List Item) (message : Message)
    : Type 0 where
  pub addressed : IsControlMessageAddressed setting message.to message.body
  pub version : IfSome (body_version message.body)
      (λ version. (1 ≤ version) × (version ≤ journal_version_count journal))

-- this is true of each message that was sent, and of all that switches and the controller heard
pub record ControlBodiesNameThere (setting : Setting) (journal : List Item) : Type 0 where
  pub sent : (n : ℕ) (message : Message) → journal_message_of journal n ≡ Some message
      → ControlMessageNamesThere setting journal message
  pub heard : (s : ℕ) → All (λ body. ControlMessageNamesThere setting journal (machine_message_to_switch s body))
      (heard journal s)
  pub told : All (λ body. ControlMessageNamesThere setting journal (message_to_controller body))
      (journal_controller_heard journal)
