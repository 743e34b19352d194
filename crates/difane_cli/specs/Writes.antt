-- First tier. A command's journal and its outputs at the end, whatever it did.
use Rattle.std.specs.Prelude.{[], ◌≡◌, ◌⊎◌, List, ℕ}
use Rattle.shelf.specs.Exports.{SinkGainedPart, SinkState, sink_with_gained}
use Rattle.update_machine.specs.Exports.{Item}

-- the output gained this text; if the text is empty, the output's state is the same
pub record ProgramOutputWrote (text : List ℕ) (before now : SinkState) : Type 0 where
  pub whole : now.bytes ≡ sink_with_gained before.bytes text
  pub untouched : text ≡ [] → now ≡ before

-- the output wasn't touched, or gained a part of the text, and not all
abbrev pub ProgramOutputWrotePart : List ℕ → (before now : SinkState) → Type 0
ProgramOutputWrotePart text before now = (now ≡ before) ⊎ SinkGainedPart before.bytes text now.bytes

-- nothing was played, and the output's state is the same
pub record ProgramUnplayed (journal : List Item) (before now : SinkState) : Type 0 where
  pub nothing_played : journal ≡ []
  pub untouched : now ≡ before
