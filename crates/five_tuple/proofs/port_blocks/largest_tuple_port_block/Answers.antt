use Rattle.five_tuple.proofs.PortCovers.{exponent_small}
use Rattle.five_tuple.proofs.PortCoverBlocks.{largest_from_code}
use Rattle.five_tuple.proofs.port_blocks.largest_tuple_port_block.Goals as goal

pub returns-clause-largest : goal.returns-clause-largest
returns-clause-largest c = largest_from_code c.args.first c.args.high c.ilog2-fitting.result
    c.min.result c.requires.ordered c.requires.high c.ilog2-fitting.ensures.power_le
    c.ilog2-fitting.ensures.next_power_gt c.min.ensures

pub returns-clause-bound : goal.returns-clause-bound
returns-clause-bound c = exponent_small c.args.first c.args.high c.min.result
    (returns-clause-largest c).block c.requires.high
