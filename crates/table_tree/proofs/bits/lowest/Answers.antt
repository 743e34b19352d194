use Rattle.std.proofs.Common.{arith}
use Rattle.table_tree.proofs.TableTreeMasks.{lowest_of}
use Rattle.table_tree.proofs.bits.lowest.Goals as goal

pub returns-else-bits-eq0-clause-some : goal.returns-else-bits-eq0-clause-some
returns-else-bits-eq0-clause-some c =
    lowest_of c.args.bits (omega (arith, c.if-bits-eq0.false)) (omega (arith, c.ranges.bits.fits))
