-- What is to be printed about a replay decides its outcome.
use Rattle.std.proofs.Common.{◌∙◌, ◌≡◌, ◌≢◌, ◌⊎◌, Bool, IsTrue, List, None, Option, Some, ap, inl, inr, refl, subst, sym}
use Rattle.update_machine.specs.Exports.{Item}
use Rattle.meters.specs.Exports.{SeenMeter}
use Rattle.shelf.specs.Exports.{ShelfFiles, SinkState}
use Rattle.command_line.specs.Exports.{Command, ReplayArguments}
use Rattle.command_line.specs.Commands as asked
use Rattle.command_line.specs.declared.report.Report.{Report}
use Rattle.command_line.specs.declared.report.Report.TheVariants as report
use Rattle.difane_cli.specs.Exports.{ProgramPlayedByReport, ProgramGivesBackMeters, IsProgramAnswer, ProgramOutcome, ProgramPlayOutcome, ProgramProposalOutcome, ProgramMemoryRanOut, is_program_output_made}
use Rattle.command_inputs.specs.Exports.{Inputs, AreCommandPlayInputs}
use Rattle.command_inputs.specs.declared.status.Status.{Status}

pub play_outcome : (command : Command) (inputs : Inputs) (files : Option ShelfFiles)
    (takes_memory : Bool) (status : Status) (journal : List Item) (taken given : List SeenMeter)
    (before now : SinkState) → AreCommandPlayInputs command inputs → inputs.report ≢ report.Placement
    → ProgramPlayOutcome command files takes_memory status journal taken given before now
    → ProgramOutcome (Some command) files takes_memory status journal taken given before now
play_outcome (asked.Print args) inputs files takes_memory status journal taken given before now own
    other outcome = absurd own
play_outcome (asked.Audit args) inputs files takes_memory status journal taken given before now own
    other outcome = absurd own
play_outcome (asked.Load n) inputs files takes_memory status journal taken given before now own
    other outcome = outcome
play_outcome (asked.Replay args) inputs files takes_memory status journal taken given before now
    own other outcome = by_report args.report (λ is. other (own.report ∙ is))
  where
    by_report : (told : Report) → (told ≡ report.Placement → ⊥)
        → ProgramPlayedByReport told
        (ProgramProposalOutcome (IsProgramAnswer (asked.Replay args) files) takes_memory status journal before now)
        (ProgramPlayOutcome (asked.Replay args) files takes_memory status journal taken given before now)
    by_report report.Placement never = absurd (never refl)
    by_report (report.Lines quiet) never = outcome
    by_report report.Flows never = outcome
    by_report report.Summary never = outcome

-- a load case is told by its summary
summed : (inputs : Inputs) → inputs.report ≡ report.Summary → inputs.report ≡ report.Placement → ⊥
summed inputs is other = let clash : report.Summary ≡ report.Placement = sym is ∙ other in cc

pub proposal_outcome : (command : Command) (inputs : Inputs) (files : Option ShelfFiles)
    (takes_memory : Bool) (status : Status) (journal : List Item) (taken given : List SeenMeter)
    (before now : SinkState) → AreCommandPlayInputs command inputs → inputs.report ≡ report.Placement
    → ((args : ReplayArguments) → command ≡ asked.Replay args
    → ProgramProposalOutcome (IsProgramAnswer (asked.Replay args) files) takes_memory status journal before now)
    → ProgramOutcome (Some command) files takes_memory status journal taken given before now
proposal_outcome (asked.Print args) inputs files takes_memory status journal taken given before now
    own is proposes = absurd own
proposal_outcome (asked.Audit args) inputs files takes_memory status journal taken given before now
    own is proposes = absurd own
proposal_outcome (asked.Load n) inputs files takes_memory status journal taken given before now own
    is proposes = absurd (summed inputs (ap (λ (i : Inputs). i.report) own) is)
proposal_outcome (asked.Replay args) inputs files takes_memory status journal taken given before now
    own is proposes = subst (λ (told : Report). ProgramPlayedByReport told
    (ProgramProposalOutcome (IsProgramAnswer (asked.Replay args) files) takes_memory status journal before now)
    (ProgramPlayOutcome (asked.Replay args) files takes_memory status journal taken given before now))
    (sym is ∙ own.report) (proposes args refl)

-- what is proposed is made in memory
pub proposal_out : (command : Command) (inputs : Inputs) (takes_memory : Bool) (journal : List Item)
    (before now : SinkState) → AreCommandPlayInputs command inputs → inputs.report ≡ report.Placement
    → IsTrue takes_memory ⊎ (now ≡ before) → ProgramMemoryRanOut (Some command) takes_memory journal before now
proposal_out (asked.Print args) inputs takes_memory journal before now own is out = absurd own
proposal_out (asked.Audit args) inputs takes_memory journal before now own is out = absurd own
proposal_out (asked.Load n) inputs takes_memory journal before now own is out =
    absurd (summed inputs (ap (λ (i : Inputs). i.report) own) is)
proposal_out (asked.Replay args) inputs takes_memory journal before now own is (inl takes) =
    inl takes
proposal_out (asked.Replay args) inputs takes_memory journal before now own is (inr same) =
    let made : IsTrue (is_program_output_made args.report None) =
    subst (λ (told : Report). IsTrue (is_program_output_made told None)) (sym is ∙ own.report) refl in
    inr (same, inr (inr made))

-- only a proposal gives the meters back
pub keeps_meters : (command : Command) (inputs : Inputs) → AreCommandPlayInputs command inputs
    → inputs.report ≢ report.Placement → ProgramGivesBackMeters (Some command) → ⊥
keeps_meters (asked.Print args) inputs own other back = absurd own
keeps_meters (asked.Audit args) inputs own other back = absurd own
keeps_meters (asked.Load n) inputs own other back = back
keeps_meters (asked.Replay args) inputs own other back = other (own.report ∙ back)
