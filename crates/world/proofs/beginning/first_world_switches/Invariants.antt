use Rattle.std.proofs.Common.{◌≡◌, length, map}
use Rattle.base.proofs.Exports.{range_with_len}
use Rattle.controller.specs.Exports.{ControllerPlanValue, controller_at_start}
use Rattle.refinement.specs.Exports.{refined_switch_begun}
use Rattle.world.proofs.beginning.first_world_switches.Given as goal

abbrev pub invariant-loop-number : goal.invariant-loop-number
invariant-loop-number l = (plan : ControllerPlanValue)
    → l.controller ≡ controller_at_start (length l.net.switches) plan
    → l.switches.items ≡ map (refined_switch_begun l.net plan.hosted) (range_with_len 0 l.number)
