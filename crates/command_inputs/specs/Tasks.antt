-- First tier. What a command does, once its files are read.
use Rattle.std.specs.Prelude.{◌≡◌, List, None, Option, Some, ℕ}
use Rattle.update_machine.specs.Exports.{Event, Net, Setting}
use Rattle.net_file.specs.Exports.{IsNet, net_of_one_switch}
use Rattle.command_line.specs.declared.report.Report.{Report}
pub use Rattle.command_inputs.specs.NotPlayed.{CommandAuditInputs, CommandPrintInputs}

pub record Inputs : Type 0 where
  pub setting : Setting
  pub events : List Event
  -- what the play prints
  pub report : Report

-- what a command does: it plays inputs, prints a plan or the tables of a switch, or checks a trace,
-- once its files are read
pub data CommandInputTask : Type 0 where
  Play : Inputs → CommandInputTask
  Print : CommandPrintInputs → CommandInputTask
  Audit : CommandAuditInputs → CommandInputTask

-- the network is that of a file, or of one switch
abbrev pub IsCommandInputNetOf : Option (List ℕ) → Net → Type 0
IsCommandInputNetOf None net = net ≡ net_of_one_switch
IsCommandInputNetOf (Some name) net = IsNet net
