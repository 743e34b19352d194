-- The plan that a play leaves is the one whose placement is proposed.
use Rattle.std.proofs.Common.{◌∙◌, ◌≡◌, List, Ok, Option, Some, ap, subst, sym}
use Rattle.base.proofs.Exports.{ForSome}
use Rattle.shelf.specs.Exports.{ShelfFiles}
use Rattle.command_line.specs.Exports.{ReplayArguments}
use Rattle.update_machine.specs.Exports.{Event, IsMachinePlay, Net}
use Rattle.command_line.specs.Commands as grammar
use Rattle.partition.specs.Plan.{IsPartitionPlan}
use Rattle.difane_cli.specs.Exports.{ProgramProposalOutcome, IsAfterProgramProposing, IsProgramAnswer}
use Rattle.command_inputs.specs.Exports.{AreCommandPlayInputs, Play, command_status_after, known_command_input_task, task_inputs_stated}
use Rattle.difane_cli.proofs.ProgramPlayOutcomes.{played}
use Rattle.difane_cli.proofs.ProposalOutcomes.{out_of_proposing, proposing_ends, whole_told}
use Rattle.difane_cli.proofs.proposing.run_program_proposal.Goals as goal
use Rattle.difane_cli.proofs.proposing.run_program_proposal.Goals.{After-drop-inputs-4, After-write_program_proposal, in-Err-write_program_proposal, in-Ok-write_program_proposal}
use Rattle.difane_cli.proofs.proposing.run_program_proposal.Given.{Over}

pub write_program_proposal-requires-clause-plan : goal.write_program_proposal-requires-clause-plan
write_program_proposal-requires-clause-plan g c = let plan = c.in-Ok.played.plan in
    subst (λ (net : Net). IsPartitionPlan plan.policy net plan.hosted) c.requires.net
    c.in-Ok.ensures.plan.parts

-- what the proposal comes to, by what became of its text
outcome_of : (g : Over) (c : After-write_program_proposal g) (command : ReplayArguments) (files : Option ShelfFiles)
    → AreCommandPlayInputs (grammar.Replay command) (task_inputs_stated c.args.inputs)
    → ForSome (known_command_input_task files (Some (grammar.Replay command)))
    (λ read. read ≡ Ok (Play (task_inputs_stated c.args.inputs)))
    → ProgramProposalOutcome (IsProgramAnswer (grammar.Replay command) files) g.K.Sink.takes_memory
    (command_status_after c.write_program_proposal.result c.in-Ok.played.full) c.in-Ok.played.journal
    (g.K.Sink.state c.args.out.now) (g.K.Sink.state c.write_program_proposal.new.out)
outcome_of g c command files own read = let inputs = task_inputs_stated c.args.inputs in
    let full = c.in-Ok.played.full in
    let journal = c.in-Ok.played.journal in
    let plan = c.in-Ok.played.plan in
    let before = g.K.Sink.state c.args.out.now in
    let now = g.K.Sink.state c.write_program_proposal.new.out in
    let written = c.write_program_proposal.result in
    let takes_memory = g.K.Sink.takes_memory in
    let play = subst (λ (events : List Event). IsMachinePlay inputs.setting events journal full)
    c.deref.ensures.value c.in-Ok.ensures.play in
    let answer = played c.program_answer_laws.ensures (grammar.Replay command) files inputs journal full own
    read c.requires.sound play c.in-Ok.ensures.held in
    let after = subst (λ (net : Net). IsAfterProgramProposing full plan.policy plan.hosted net journal
    takes_memory before now written) (sym c.requires.net) c.write_program_proposal.ensures in
    whole_told command files inputs journal full plan takes_memory before now written answer
    c.in-Ok.ensures.plan after

-- its status is by what became of its text
status_of : (g : Over) (c : After-drop-inputs-4 g) → c.match-write_program_proposal.status
    ≡ command_status_after c.write_program_proposal.result c.in-Ok.played.full
status_of g c = let full = c.in-Ok.played.full in
    elim c.match-write_program_proposal.branch [
      | in-Ok-write_program_proposal w ↦ w.status-is ∙ w.written-status.ensures
          ∙ ap (λ result. command_status_after result full) (sym w.in-Ok-write_program_proposal.is)
      | in-Err-write_program_proposal w ↦ w.status-is ∙ w.from-status.ensures
          ∙ ap (λ result. command_status_after result full) (sym w.in-Err-write_program_proposal.is)
    ]

pub returns-clause-outcome : goal.returns-clause-outcome
returns-clause-outcome g c = λ command files own read. rw (status_of g c) (outcome_of g
    (goal.at.returns-clause-outcome g c).After-write_program_proposal command files own read)

pub returns-clause-no_memory : goal.returns-clause-no_memory
returns-clause-no_memory g c = λ is. out_of_proposing _ _ _ _ c.in-Ok.played.full _ _ _ c.write_program_proposal.result
    c.write_program_proposal.ensures (rw (status_of g c) at is)

pub returns-clause-ended : goal.returns-clause-ended
returns-clause-ended g c = rw (status_of g c) (proposing_ends _ _ _ _ c.in-Ok.played.full
    g.K.Sink.takes_memory _ _ c.write_program_proposal.result c.write_program_proposal.ensures)
