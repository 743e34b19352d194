use Rattle.std.proofs.Common.{◌≡◌, inl, refl, rules}
use Rattle.trace_audit.specs.declared.trace.Verdict.TheVariants.{No, Yes}
use Rattle.command_inputs.specs.Exports.{command_input_audit_stated}
use Rattle.difane_cli.proofs.ProgramAuditEnds.{audited, verdict_on, yes_told}
use Rattle.difane_cli.proofs.ProgramStatus.{output_ends, output_memory}
use Rattle.difane_cli.proofs.auditing.program_check_trace.Goals as goal

pub returns-in-Ok-No-clause-outcome : goal.returns-in-Ok-No-clause-outcome
returns-in-Ok-No-clause-outcome g c = λ command files own accepted.
    let found : c.in-Ok-No.field-0 ≡ No c.in-Ok-No.line = search rules in
    audited command files (command_input_audit_stated c.args.inputs.now) own accepted (No c.in-Ok-No.line) _
    (verdict_on _ _ _ _ _ (No c.in-Ok-No.line) own.short c.in-Ok-No.ensures.verdict
    c.in-Ok-No.ensures.run c.in-Ok-No.ensures.justified c.deref.ensures.value
    c.deref-2.ensures.value found) refl

pub returns-in-Ok-Yes-clause-outcome : goal.returns-in-Ok-Yes-clause-outcome
returns-in-Ok-Yes-clause-outcome g c = λ command files own accepted.
    let found : c.in-Ok-Yes.field-0 ≡ Yes = search rules in
    let judged = verdict_on _ _ _ _ _ Yes own.short c.in-Ok-Yes.ensures.verdict
    c.in-Ok-Yes.ensures.run c.in-Ok-Yes.ensures.justified c.deref.ensures.value
    c.deref-2.ensures.value found in
    yes_told command files (command_input_audit_stated c.args.inputs.now) own accepted
    g.K.Sink.takes_memory (g.K.Sink.state c.args.out.now) (g.K.Sink.state c.write_output.new.out)
    c.write_output.result judged c.write_output.ensures

pub returns-in-Ok-Yes-clause-no_memory : goal.returns-in-Ok-Yes-clause-no_memory
returns-in-Ok-Yes-clause-no_memory g c = λ is. inl (output_memory c.write_output.ensures is)

pub returns-in-Ok-Yes-clause-ended : goal.returns-in-Ok-Yes-clause-ended
returns-in-Ok-Yes-clause-ended g c = output_ends c.write_output.ensures
