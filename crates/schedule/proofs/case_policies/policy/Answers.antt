use Rattle.std.proofs.Common.{ap, arith, length, subst}
use Rattle.policy_rules.specs.Exports.{IsFirstPolicyPriorityRepeat}
use Rattle.schedule.proofs.LoadCaseDraws.{no_repeat, rows_count}
use Rattle.schedule.proofs.case_policies.policy.Goals as goal

pub new-requires : goal.new-requires
new-requires c = omega (arith, ap length c.in_ok-rows.ensures.0, rows_count, c.ranges.rows.fits)

pub unreachable-requires : goal.unreachable-requires
unreachable-requires c =
    let repeat = rw c.in-Err-Refused.field-0-is at c.in-Err-Refused.ensures.refused in
    no_repeat c.args.rows c.args.draws.now.state repeat.0
    (subst (λ items. IsFirstPolicyPriorityRepeat items repeat.0) c.in_ok-rows.ensures.0 repeat.2)
