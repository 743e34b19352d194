-- The reads of an audit: of its trace and its policies.
use Rattle.std.proofs.Common.{◌+◌, ◌∙◌, ◌∷◌, ◌≡◌, ◌≤◌, Bool, List, None, Ok, Option, Some, arith, false, refl, subst, true, ℕ}
use Rattle.base.proofs.Exports.{ForSome}
use Rattle.update_machine.specs.Exports.{PolicyFile}
use Rattle.shelf.specs.Exports.{ShelfFiles, IsShelfAfterReads, ShelfState}
use Rattle.command_line.specs.Exports.{Audit, AuditArguments}
use Rattle.command_inputs.specs.Exports.{command_audit_inputs, command_input_content_within, command_input_file_reads, command_input_most_reads, command_input_most_trace_bytes, command_input_files, command_input_solo_ports, input_files_to_refusal}
use Rattle.command_inputs.proofs.InputShelfReads.{fewer_reads, reads_then}

one_read : (accepted : Bool) (others : List Bool) → 1 ≤ input_files_to_refusal (accepted ∷ others)
one_read true others = omega arith
one_read false others = omega arith

-- the trace is read
trace_read : (known : Option ShelfFiles) (command : AuditArguments)
    → 1 ≤ command_input_most_reads known (Some (Audit command))
trace_read None command = omega arith
trace_read (Some files) command = one_read _ _

-- and then the policies, where the trace is there
policies_read : (known : Option ShelfFiles) (command : AuditArguments) (trace : List ℕ)
    → ForSome known (λ files. command_input_content_within command_input_most_trace_bytes files command.trace ≡ Ok trace)
    → 1 + command_input_file_reads true command_input_solo_ports known command.policies
    ≤ command_input_most_reads known (Some (Audit command))
policies_read None command trace is = omega arith
policies_read (Some files) command trace is = rw (is files refl) (omega arith)

pub trace_alone : (command : AuditArguments) (old new : ShelfState) → IsShelfAfterReads 1 old new
    → IsShelfAfterReads (command_input_most_reads old.files (Some (Audit command))) old new
trace_alone command old new after = fewer_reads 1 _ old new (trace_read old.files command) after

pub both_read : (command : AuditArguments) (trace : List ℕ) (ports : ℕ) (old one new : ShelfState)
    → ports ≡ command_input_solo_ports
    → ForSome old.files (λ files. command_input_content_within command_input_most_trace_bytes files command.trace ≡ Ok trace)
    → IsShelfAfterReads 1 old one
    → IsShelfAfterReads (command_input_file_reads true ports one.files command.policies) one new
    → IsShelfAfterReads (command_input_most_reads old.files (Some (Audit command))) old new
both_read command trace ports old one new mask is first second =
    reads_then 1 (command_input_file_reads true command_input_solo_ports old.files command.policies) _ old one new
    (policies_read old.files command trace is) first
    (subst (λ (p : ℕ). IsShelfAfterReads (command_input_file_reads true p old.files command.policies) one new) mask
    (subst (λ (known : Option ShelfFiles).
    IsShelfAfterReads (command_input_file_reads true ports known command.policies) one new) first.same_files second))

pub auditing_is : (known middle : Option ShelfFiles) (command : AuditArguments) (trace : List ℕ)
    (read : List PolicyFile) (ports : ℕ) → middle ≡ known → ports ≡ command_input_solo_ports
    → ForSome known (λ files. command_input_content_within command_input_most_trace_bytes files command.trace ≡ Ok trace)
    → ForSome middle (λ files. command_input_files true ports files command.policies ≡ Ok read)
    → ForSome known (λ files. command_audit_inputs files command
    ≡ Ok (record { trace = trace; files = read }))
auditing_is known middle command trace read ports same mask trace_is files_are = λ files is.
    let own : command_input_files true command_input_solo_ports files command.policies ≡ Ok read =
    subst (λ (p : ℕ). command_input_files true p files command.policies ≡ Ok read) mask
    (files_are files (same ∙ is)) in
    rw (trace_is files is, own) refl
