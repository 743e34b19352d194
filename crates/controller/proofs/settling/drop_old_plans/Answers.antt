use Rattle.std.proofs.Common.{leb, rules}
use Rattle.base.proofs.Exports.{filter_same}
use Rattle.controller.specs.Exports.{ControllerKeptPlan}
use Rattle.controller.proofs.settling.drop_old_plans.Goals as goal

pub returns : goal.returns
returns c = filter_same _ (λ (kept : ControllerKeptPlan). leb c.args.current kept.version) _
    (λ e b f called. (search rules, search rules)) _ _ c.retain.ensures.filtered
