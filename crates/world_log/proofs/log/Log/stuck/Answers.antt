use Rattle.std.proofs.Common.{[], ◌∷◌, None, refl, subst}
use Rattle.journal.specs.declared.item.Item.TheVariants as item
use Rattle.travelling.specs.Travelling.{TravellingFlights}
use Rattle.world_log.specs.Exports.{LogAfter}
use Rattle.world_log.proofs.LogCalls.{log_unwritten}
use Rattle.world_log.proofs.log.Log.stuck.Goals as goal

pub returns-in_err-down : goal.returns-in_err-down
returns-in_err-down c = log_unwritten c.from_residual.ensures.0 refl

pub returns : goal.returns
returns c =
    let kept = subst (λ (travelling : TravellingFlights). LogAfter c.end.result
    (item.Stuck c.args.at.packet c.args.at.switch c.args.cause c.args.leg c.in_ok-down.down ∷ []) []
    c.args.at.packet None (record c.args.self.now { travelling = travelling }) c.end.new.self)
    c.in_ok-down.ensures.same c.end.ensures in
    rw c.in_ok-down.ensures.links at kept
