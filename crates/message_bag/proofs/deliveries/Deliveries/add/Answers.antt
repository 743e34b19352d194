use Rattle.std.proofs.Common.{[], ◌+◌, ◌<◌, ◌^◌, ap, arith, length, subst, sym}
use Rattle.base.proofs.Exports.{common_steps}
use Rattle.message_bag.specs.Exports.{AreBagMessagesPassed}
use Rattle.message_bag.proofs.BagWaitingStatuses.{pushed_passed}
use Rattle.message_bag.proofs.deliveries.Deliveries.add.Goals as goal

pub invariant_of-self-2 : goal.invariant_of-self-2
invariant_of-self-2 c =
    let few : length c.self.inside.statuses.items + 1 < 2 ^ 32 =
    omega (arith, ap length c.self.view_is) in
    subst (AreBagMessagesPassed c.self.inside.passed) (sym (grind (arith, common_steps)))
    (pushed_passed _ _ few c.self.invariant)
