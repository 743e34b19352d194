use Rattle.std.proofs.Common.{arith}
use Rattle.base.proofs.Exports.{common_steps}
use Rattle.command_inputs.proofs.InputRefusedNames.{plan_read}
use Rattle.command_inputs.proofs.policies.plan_input_policy.Goals as goal

pub returns-clause-stops : goal.returns-clause-stops
returns-clause-stops c = plan_read c.args.name.now c.args.net.now c.args.policy.now c.map_err.result
    (grind (arith, common_steps))
