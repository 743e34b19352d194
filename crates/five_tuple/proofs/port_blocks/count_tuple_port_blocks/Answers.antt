use Rattle.std.proofs.Common.{ap, arith, inl, length, rules}
use Rattle.five_tuple.proofs.PortCoverBlocks.{is_cover_of}
use Rattle.five_tuple.proofs.port_blocks.count_tuple_port_blocks.Goals as goal

pub count-requires-clause-fits : goal.count-requires-clause-fits
count-requires-clause-fits c =
    let few = (is_cover_of c.args.range.now c.blocks-2.ensures.sound).few in
    inl (omega (arith, few, ap length c.blocks-2.ensures.blocks))

pub returns-clause-few : goal.returns-clause-few
returns-clause-few c = let few = (is_cover_of c.args.range.now c.blocks-2.ensures.sound).few in
    omega (arith, few, ap length c.blocks-2.ensures.blocks, c.count.ensures.bound)

pub overflow_cast-result : goal.overflow_cast-result
overflow_cast-result c = let few = returns-clause-few c in search rules
