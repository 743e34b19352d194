use Rattle.std.proofs.Common.{◌==◌}
use Rattle.base.proofs.Exports.{found_all}
use Rattle.policy_rules.specs.Exports.{IsSoundPolicyRow}
use Rattle.policy_rules.specs.declared.policy.Row.{Row}
use Rattle.controller.proofs.touching.controller_touch_row_of.Goals as goal

pub controller_touch_row-requires : goal.controller_touch_row-requires
controller_touch_row-requires c = found_all IsSoundPolicyRow (λ (row : Row). row.priority == c.args.priority)
    c.args.rows.now c.in-Some.row.now c.requires c.in-Some.ensures
