-- What is sent to switches about the changes that made versions.
use Rattle.std.specs.Prelude.{◌≡◌, ◌≤◌, List, Some, ℕ}
use Rattle.update_machine.specs.Exports.{Item, Message, Setting, Stamp, journal_message_of, machine_message_to_switch, machine_touched_by, journal_version_count}
use Rattle.ternary.specs.Exports.{WordValue}

-- the version exists, and these are the words that its change touches
pub record AreControlTouchedWords (setting : Setting) (journal : List Item) (version : ℕ)
    (touched : List WordValue) : Type 0 where
  pub first : 1 ≤ version
  pub last : version ≤ journal_version_count journal
  pub says : touched ≡ machine_touched_by setting journal version

-- the message that tells the switch, in this boot, to stamp with a version
abbrev pub control_stamp_message_to : ℕ → ℕ → ℕ → List WordValue → Message
control_stamp_message_to s boot version touched = machine_message_to_switch s (Stamp boot version touched)

-- each message that tells a switch to stamp with a version, sent again or not, carries the words
-- that the change of that version touches
pub record ControlStampsSayTouched (setting : Setting) (journal : List Item) : Type 0 where
  pub sent : (n s boot version : ℕ) (touched : List WordValue)
      → journal_message_of journal n ≡ Some (control_stamp_message_to s boot version touched)
      → AreControlTouchedWords setting journal version touched
