-- First tier. The commands, by their arguments.
use Rattle.std.specs.Prelude.{List, Option, String, Vec, map, string_bytes, ℕ}
use Rattle.base.specs.Exports.{Global}
use Rattle.command_line.specs.declared.report.Report.{Report}
pub use Rattle.command_line.specs.Others.{AuditArguments, PrintArguments}

-- `replay`, `flows` or `rebalance` with `SCHEDULE POLICY ..`, and perhaps with a network's file
pub record ReplayArguments : Type 0 where
  pub schedule : List ℕ
  -- an update names one of these by its place, from 1
  pub policies : List (List ℕ)
  pub net : Option (List ℕ)
  pub report : Report

-- a command of the grammar; `load N` has only its number
pub data Command : Type 0 where
  Replay : ReplayArguments → Command
  Print : PrintArguments → Command
  Load : ℕ → Command
  Audit : AuditArguments → Command

-- the bytes of the arguments
abbrev pub argument_texts : Vec (String Global) Global → List (List ℕ)
argument_texts args = map string_bytes args.items
