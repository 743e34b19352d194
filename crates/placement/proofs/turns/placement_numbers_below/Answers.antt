use Rattle.std.proofs.Common.{arith, refl}
use Rattle.base.proofs.Exports.{YieldsList-from_range, items_from_collect}
use Rattle.placement.proofs.turns.placement_numbers_below.Goals as goal

pub returns : goal.returns
returns c = items_from_collect _ c.collect.ensures.ran
    (YieldsList-from_range 0 c.args.count _ refl (omega arith))
