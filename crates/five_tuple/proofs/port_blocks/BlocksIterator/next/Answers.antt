use Rattle.std.proofs.Common.{ap, arith, length, rules}
use Rattle.std.proofs.lemmas.Nat.{one_shl}
use Rattle.five_tuple.proofs.PortCoverBlocks.{cover_of-past, cover_of-step}
use Rattle.five_tuple.proofs.port_blocks.BlocksIterator.next.Goals as goal

pub returns-then-self-clause-steps : goal.returns-then-self-clause-steps
returns-then-self-clause-steps c =
    let past = cover_of-past c.args.self.now.next c.args.self.now.high c.if-self.true in
    (past, past)

pub returns-clause-steps : goal.returns-clause-steps
returns-clause-steps c = let e = c.largest_tuple_port_block-size.result in
    cover_of-step c.args.self.now.next c.args.self.now.high e _ c.largest_tuple_port_block-size.ensures.largest
    (one_shl e 32 (omega (arith, c.largest_tuple_port_block-size.ensures.bound))) c.args.self.now.ports

pub returns-clause-goes : goal.returns-clause-goes
returns-clause-goes c = let shorter = ap length (returns-clause-steps c) in search rules
