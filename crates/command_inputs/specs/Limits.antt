-- How many files, events and rows a replay accepts.
use Rattle.std.specs.Prelude.{◌≤◌, All, length}
use Rattle.policy_file.specs.Exports.{policy_file_length}
use Rattle.steps.specs.Exports.{max_events}
use Rattle.command_line.specs.Exports.{most_policy_arguments}
use Rattle.command_inputs.specs.Tasks.{Inputs}

-- there are at most 64 files and 100,000 events, and each policy or change has at most 2,000 rows
pub record AreCommandInputsWithinLimits (inputs : Inputs) : Type 0 where
  pub files : length inputs.setting.files ≤ most_policy_arguments
  pub events : length inputs.events ≤ max_events
  pub rows : All (λ file. policy_file_length file ≤ 2000) inputs.setting.files
