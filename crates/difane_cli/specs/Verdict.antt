-- What a replay with `--quiet` says of its network: whether it is quiet after the journal, and what
-- is true of it then.
use Rattle.std.specs.Prelude.{◌↔◌, ◌≡◌, Bool, IsTrue, List, None, Option, Some, false, is_some, true, ℕ, ⊤}
use Rattle.update_machine.specs.Exports.{IsQuietMachineJournal, Item, Setting}
use Rattle.forwarding_laws.specs.Exports.{HasNetworkComeToRest}
use Rattle.command_line.specs.declared.report.Report.{Report}
use Rattle.command_line.specs.declared.report.Report.TheVariants as report

-- the report has the verdict on whether the network is quiet: only a report by lines may
abbrev pub program_asks_quiet : Report → Bool
program_asks_quiet (report.Lines quiet) = quiet
program_asks_quiet _ = false

-- the verdict is given with `--quiet`, at the end of a play that didn't stop full
abbrev pub is_program_verdict_asked : Bool → Option ℕ → Bool
is_program_verdict_asked quiet None = quiet
is_program_verdict_asked quiet (Some row) = false

-- a verdict, if there is one, is whether the network is quiet
abbrev pub IsProgramVerdictOnQuiet : Setting → List Item → Option Bool → Type 0
IsProgramVerdictOnQuiet setting journal None = ⊤
IsProgramVerdictOnQuiet setting journal (Some answer) = IsTrue answer ↔ IsQuietMachineJournal setting journal

-- what a verdict says of the network
abbrev pub ProgramQuietVerdictSays : Setting → List Item → Option Bool → Type 0
ProgramQuietVerdictSays setting journal None = ⊤
ProgramQuietVerdictSays setting journal (Some true) = HasNetworkComeToRest setting journal
ProgramQuietVerdictSays setting journal (Some false) = ¬ IsQuietMachineJournal setting journal

-- there is a verdict exactly if `--quiet` asks for it and the play didn't stop full, and it is true
pub record IsProgramQuietVerdict (quiet : Bool) (setting : Setting) (journal : List Item) (full : Option ℕ)
    (answer : Option Bool) : Type 0 where
  pub asked : is_some answer ≡ is_program_verdict_asked quiet full
  pub holds : ProgramQuietVerdictSays setting journal answer
