-- First tier. The inputs of a play are as the command asks, and may be played.
use Rattle.std.specs.Prelude.{◌≡◌, All, length}
use Rattle.update_machine.specs.Exports.{IsMachineSetting}
use Rattle.schedule.specs.Case.{load_case}
use Rattle.steps.specs.Exports.{IsEventOfSteps}
use Rattle.command_line.specs.Exports.{Command, ReplayArguments}
use Rattle.command_line.specs.Commands as asked
use Rattle.command_inputs.specs.Inputs.{command_inputs_of_load}
use Rattle.command_inputs.specs.Limits.{AreCommandInputsWithinLimits}
use Rattle.command_inputs.specs.Tasks.{Inputs, IsCommandInputNetOf}

-- as many policies as the command names, the network of one switch if it names none, and its
-- report; and the inputs are within the limits
pub record AreCommandInputsOfReplay (command : ReplayArguments) (inputs : Inputs) : Type 0 where
  pub net : IsCommandInputNetOf command.net inputs.setting.net
  pub policies : length inputs.setting.files ≡ length command.policies
  pub report : inputs.report ≡ command.report
  pub limits : AreCommandInputsWithinLimits inputs

-- the inputs are as the command asks: as many files as it names, or the load case
abbrev pub AreCommandPlayInputs : Command → Inputs → Type 0
AreCommandPlayInputs (asked.Replay args) inputs = AreCommandInputsOfReplay args inputs
AreCommandPlayInputs (asked.Load n) inputs = inputs ≡ command_inputs_of_load (load_case n)
AreCommandPlayInputs _ inputs = ⊥

-- the first file has a policy, with a plan on the network, all name only its ports, and the events
-- name only its switches and these files
pub record MayPlayCommandInputs (inputs : Inputs) : Type 0 where
  pub setting : IsMachineSetting inputs.setting
  pub events : All (IsEventOfSteps inputs.setting.net (length inputs.setting.files)) inputs.events
