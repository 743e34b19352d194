use Rattle.std.proofs.Common.{IfOk, List, subst}
use Rattle.policy_rules.specs.Exports.{policy_change_applied}
use Rattle.world.specs.Exports.{IsWorldFileCompiled}
use Rattle.world.proofs.files.compiled_world_amendment.Goals as goal
use Rattle.ternary.specs.Exports.{WordValue}

pub returns-in-Ok : goal.returns-in-Ok
returns-in-Ok c =
    let result = c.compiled_world_policy.result in
    let made = policy_change_applied c.args.policy.now c.args.change.now in
    subst (λ (words : List WordValue). IfOk result (IsWorldFileCompiled c.args.net.now (made, words)))
    c.in_ok-touched-in-Ok.ensures
    (rw c.in-Ok.ensures.applied c.compiled_world_policy.ensures)
