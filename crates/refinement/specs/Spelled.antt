-- Messages of a journal that fit in frames.
use Rattle.std.specs.Prelude.{◌≡◌, List, Some, ℕ}
use Rattle.update_machine.specs.Exports.{Item, Message, journal_message_of}
use Rattle.message_bag.specs.Exports.{HasShortBagSpelling}

-- each message that was sent has an encoding that is short enough for frames
abbrev pub AreRefinedMessagesSpelled : List Item → Type 0
AreRefinedMessagesSpelled journal = (n : ℕ) (message : Message) → journal_message_of journal n ≡ Some message
    → HasShortBagSpelling message
