-- The tasks of commands that play nothing.
use Rattle.std.specs.Prelude.{List, Option, ℕ}
use Rattle.update_machine.specs.Exports.{Net, PolicyFile, Row}
use Rattle.partition.specs.Plan.{HostedPolicyPartition}

-- a policy with its plan on a network, and the switch whose tables are printed; without it the plan
pub record CommandPrintInputs : Type 0 where
  pub policy : List Row
  pub net : Net
  pub hosted : List HostedPolicyPartition
  pub switch : Option ℕ

-- a trace, and the files of the policies and changes of its versions
pub record CommandAuditInputs : Type 0 where
  pub trace : List ℕ
  pub files : List PolicyFile
