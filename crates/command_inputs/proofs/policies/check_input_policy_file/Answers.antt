use Rattle.std.proofs.Common.{◌≡◌, Ok, arith, false}
use Rattle.base.proofs.Exports.{common_steps}
use Rattle.policy_file.specs.Exports.{is_policy_file_change_text, policy_file_of}
use Rattle.command_inputs.proofs.InputFileChecks.{is_whole, stated_so}
use Rattle.command_inputs.proofs.policies.check_input_policy_file.Goals as goal

pub returns-in_err-file-clause-stopped : goal.returns-in_err-file-clause-stopped
returns-in_err-file-clause-stopped c = rw (stated_so c.args.is_first c.args.ports c.args.name.now
    c.args.bytes.now (grind (arith, common_steps))) (grind (arith, common_steps))

pub returns-in_err-map_err-clause-stopped : goal.returns-in_err-map_err-clause-stopped
returns-in_err-map_err-clause-stopped c = rw (stated_so c.args.is_first c.args.ports c.args.name.now
    c.args.bytes.now (grind (arith, common_steps))) (grind (arith, common_steps))

pub returns-clause-value : goal.returns-clause-value
returns-clause-value c = rw (stated_so c.args.is_first c.args.ports c.args.name.now c.args.bytes.now
    (grind (arith, common_steps))) (grind (arith, common_steps))

pub returns-clause-whole : goal.returns-clause-whole
returns-clause-whole c = λ first.
    let none : is_policy_file_change_text c.args.bytes.now ≡ false = grind (arith, common_steps) in
    let read : policy_file_of c.args.bytes.now ≡ Ok c.in_ok-file.file =
    grind (arith, common_steps) in
    is_whole c.args.bytes.now c.in_ok-file.file none read
