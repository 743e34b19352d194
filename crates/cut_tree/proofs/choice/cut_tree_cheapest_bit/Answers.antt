use Rattle.std.proofs.Common.{arith}
use Rattle.base.proofs.Exports.{bit_at-trailing_zeros, trailing_zeros, w128}
use Rattle.cut_tree.proofs.CutLeastCounts.{least_first}
use Rattle.cut_tree.proofs.choice.cut_tree_cheapest_bit.Goals as goal

pub returns-clause-member : goal.returns-clause-member
returns-clause-member c =
    let least = c.least-least.result in
    let lowest = bit_at-trailing_zeros w128 least (omega (arith, c.least-least.ensures.some)) (omega arith) in
    let last = (c.least-least.ensures.least (trailing_zeros w128 least)).0 lowest.1 in
    ((c.least-fewest.ensures.least (trailing_zeros w128 least)).0 last.member).member

pub returns-clause-least : goal.returns-clause-least
returns-clause-least c = λ other m. let least = c.least-least.result in
    let lowest = bit_at-trailing_zeros w128 least (omega (arith, c.least-least.ensures.some)) (omega arith) in
    least_first c.args.low.now.planes c.args.high.now.planes c.more_than-above.result c.args.bits
    c.least-fewest.result least (trailing_zeros w128 least) c.more_than-above.ensures
    c.least-fewest.ensures.least c.least-least.ensures.least lowest.1 lowest.2 other m
