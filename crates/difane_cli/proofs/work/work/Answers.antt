-- What is to be printed decides which play takes place.
use Rattle.std.proofs.Common.{◌≡◌, Ok, Some, subst}
use Rattle.base.proofs.Exports.{ForSome}
use Rattle.command_line.specs.Exports.{Command}
use Rattle.command_inputs.specs.Exports.{AreCommandPlayInputs, Play, task_inputs_stated, known_command_input_task}
use Rattle.difane_cli.proofs.ProgramReplayReports.{keeps_meters, play_outcome, proposal_out, proposal_outcome}
use Rattle.difane_cli.proofs.work.work.Goals as goal

pub returns-in-Placement-clause-outcome : goal.returns-in-Placement-clause-outcome
returns-in-Placement-clause-outcome g c = λ command files own read.
    let inputs = task_inputs_stated c.in-Play.inputs in
    proposal_outcome command inputs files _ _ _ _ _ _ _ (rw c.in-Play.is at own) c.in-Placement.is
    (λ args same. c.run_program_proposal.ensures.outcome args files
    (subst (λ (asked : Command). AreCommandPlayInputs asked inputs) same (rw c.in-Play.is at own))
    (subst (λ (asked : Command). ForSome (known_command_input_task files (Some asked))
    (λ read. read ≡ Ok (Play inputs))) same (rw c.in-Play.is at read)))

pub returns-in-Placement-clause-no_memory : goal.returns-in-Placement-clause-no_memory
returns-in-Placement-clause-no_memory g c = λ command own is.
    proposal_out command (task_inputs_stated c.in-Play.inputs) _ _ _ _ (rw c.in-Play.is at own)
    c.in-Placement.is (c.run_program_proposal.ensures.no_memory is)

pub returns-in_default-clause-outcome : goal.returns-in_default-clause-outcome
returns-in_default-clause-outcome g c = λ command files own read.
    play_outcome command (task_inputs_stated c.in-Play.inputs) files _ _ _ _ _ _ _
    (rw c.in-Play.is at own) c.in_default.not-Placement
    (c.play.ensures.outcome command files (rw c.in-Play.is at own) (rw c.in-Play.is at read))

pub returns-in_default-clause-meters : goal.returns-in_default-clause-meters
returns-in_default-clause-meters g c = λ command own back. absurd (keeps_meters command
    (task_inputs_stated c.in-Play.inputs) (rw c.in-Play.is at own) c.in_default.not-Placement back)
