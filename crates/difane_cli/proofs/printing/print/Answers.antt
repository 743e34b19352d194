use Rattle.std.proofs.Common.{◌∙◌, List, inl, subst, ℕ}
use Rattle.command_inputs.specs.Exports.{print_inputs_stated}
use Rattle.difane_cli.specs.Exports.{IsAfterProgramOutput}
use Rattle.difane_cli.proofs.ProgramPrintedTexts.{printed}
use Rattle.difane_cli.proofs.ProgramStatus.{output_ends, output_memory, output_statuses}
use Rattle.difane_cli.proofs.printing.print.Goals as goal

pub returns-in-Ok-clause-outcome : goal.returns-in-Ok-clause-outcome
returns-in-Ok-clause-outcome g c = λ command files own read. let before = g.K.Sink.state c.args.out.now in
    let now = g.K.Sink.state c.write_output.new.out in
    printed command files (print_inputs_stated c.args.inputs.now) g.K.Sink.takes_memory before now
    c.write_output.result own read
    (subst (λ (text : List ℕ). IsAfterProgramOutput text g.K.Sink.takes_memory before now
    c.write_output.result) (c.deref.ensures.value ∙ c.in-Ok.ensures) c.write_output.ensures)

pub returns-in-Ok-clause-no_memory : goal.returns-in-Ok-clause-no_memory
returns-in-Ok-clause-no_memory g c = λ is. inl (output_memory c.write_output.ensures is)

pub returns-in-Ok-clause-ended : goal.returns-in-Ok-clause-ended
returns-in-Ok-clause-ended g c = output_ends c.write_output.ensures

pub returns-in-Ok-clause-statuses : goal.returns-in-Ok-clause-statuses
returns-in-Ok-clause-statuses g c = output_statuses c.write_output.ensures
