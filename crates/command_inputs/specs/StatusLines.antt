-- First tier. The line of a status, and how it is written.
use Rattle.std.specs.Prelude.{[], ◌∷◌, ◌≡◌, ◌≤◌, ◌⊎◌, Bool, IsTrue, List, codes, decimal, ℕ}
use Rattle.base.specs.Exports.{concat}
use Rattle.shelf.specs.Exports.{SinkFaultsRose, SinkGainedPart, SinkState, sink_with_gained}
use Rattle.command_inputs.specs.declared.status.Status.{Status}
use Rattle.command_inputs.specs.declared.status.Status.TheVariants as status

-- the line of a refused file, with its line feed
abbrev pub command_input_line : List ℕ → ℕ → ℕ → List ℕ
command_input_line file code row = concat (codes "difane: input " ∷ file
    ∷ codes " code " ∷ decimal code ∷ codes " row " ∷ decimal row ∷ codes "\n" ∷ [])

-- a line that ends with a number, with its line feed
abbrev pub command_numbered_line : List ℕ → ℕ → List ℕ
command_numbered_line text number = concat (text ∷ decimal number ∷ codes "\n" ∷ [])

-- the line of a status, with its line feed; nothing for a command that did its work
abbrev pub command_status_line : Status → List ℕ
command_status_line status.Ok = []
command_status_line (status.No line) = command_numbered_line (codes "difane: no line ") line
command_status_line status.Words = codes "difane: words\n"
command_status_line (status.Input file code row) = command_input_line file code row
command_status_line status.ReadFault = codes "difane: read fault\n"
command_status_line status.WriteFault = codes "difane: write fault\n"
command_status_line (status.Full row) = command_numbered_line (codes "difane: full row ") row
command_status_line status.NoMemory = codes "difane: no memory\n"

-- a sink gained the line, and counted no fault; or it gained a proper part of it, if it failed or
-- if its writes allocate
pub record CommandOutputWritesLine (whole : List ℕ) (takes_memory : Bool) (old new : SinkState) : Type 0 where
  pub faults : old.faults ≤ new.faults
  pub line : ((new.bytes ≡ sink_with_gained old.bytes whole) × (new.faults ≡ old.faults))
      ⊎ (SinkGainedPart old.bytes whole new.bytes × (SinkFaultsRose old.faults new.faults ⊎ IsTrue takes_memory))
