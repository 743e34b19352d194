use Rattle.std.proofs.Common.{[], ◌∙◌, ◌∷◌, ◌≡◌, refl}
use Rattle.command_line.specs.Exports.{audit_arguments_named}
use Rattle.command_inputs.specs.Exports.{command_input_solo_ports}
use Rattle.command_inputs.proofs.InputBegunNetwork.{as_many}
use Rattle.command_inputs.proofs.InputAuditReads.{auditing_is, both_read, trace_alone}
use Rattle.command_inputs.proofs.InputCalmReads.{stops_behind, stops_with}
use Rattle.command_inputs.proofs.InputRefusedNames.{among_first, among_last}
use Rattle.command_inputs.proofs.auditing.read_audit_inputs.Goals as goal

all_ports : 18446744073709551615 ≡ command_input_solo_ports
all_ports = refl

pub returns-in_err-trace-clause-shelf : goal.returns-in_err-trace-clause-shelf
returns-in_err-trace-clause-shelf g c =
    let args = audit_arguments_named c.args.args.now in
    let trace = c.in_err-trace.ensures.shelf in
    stops_with (args.trace ∷ []) _ _ _ _ c.in_err-trace.field-0.0 c.from_residual.result
    c.from_residual.ensures.1 (among_first args.trace args.policies)
    (trace_alone args _ _ trace.after) trace.calm trace.stops

pub returns-in_err-files-clause-shelf : goal.returns-in_err-files-clause-shelf
returns-in_err-files-clause-shelf g c =
    let args = audit_arguments_named c.args.args.now in
    let trace = c.in_ok-trace.ensures.shelf in
    let files = rw c.deref-names.ensures.value at c.in_err-files.ensures.shelf in
    stops_behind args.policies _ _ _ _ _ c.in_err-files.field-0.0
    c.from_residual-in_err-files.result c.from_residual-in_err-files.ensures.1
    (among_last [] args.trace args.policies)
    (both_read args c.in_ok-trace.trace.items _ _ _ _ all_ports c.in_ok-trace.ensures.read
    trace.after files.after)
    trace.after trace.calm files.after files.calm files.stops

pub returns-clause-shelf : goal.returns-clause-shelf
returns-clause-shelf g c =
    let trace = c.in_ok-trace.ensures.shelf in
    let files = rw c.deref-names.ensures.value at c.in_ok-files.ensures.shelf in record {
      after = both_read (audit_arguments_named c.args.args.now) c.in_ok-trace.trace.items _ _ _ _ all_ports
          c.in_ok-trace.ensures.read trace.after files.after;
      calm = files.calm ∙ trace.calm;
      stops = tt;
    }

pub returns-clause-read : goal.returns-clause-read
returns-clause-read g c = auditing_is _ _ (audit_arguments_named c.args.args.now) c.in_ok-trace.trace.items
    c.in_ok-files.files.items _ c.in_ok-trace.ensures.shelf.after.same_files all_ports
    c.in_ok-trace.ensures.read (rw c.deref-names.ensures.value at c.in_ok-files.ensures.read)

pub returns-clause-asked : goal.returns-clause-asked
returns-clause-asked g c = record {
  many = c.in_ok-files.ensures.many ∙ as_many _ _ c.deref-names.ensures.value;
  first = c.in_ok-files.ensures.first;
  sound = c.in_ok-files.ensures.sound;
  few = c.in_ok-files.ensures.few;
  short = c.in_ok-trace.ensures.within;
}
