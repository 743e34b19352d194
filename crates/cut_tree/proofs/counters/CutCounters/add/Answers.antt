use Rattle.std.proofs.Common.{arith}
use Rattle.base.proofs.Exports.{bit_at-lt, bit_at-zero}
use Rattle.cut_tree.proofs.counters.CutCounters.add.Goals as goal

pub add_four-requires : goal.add_four-requires
add_four-requires c = λ bit.
    omega (arith, c.requires bit, bit_at-lt c.args.bits bit, bit_at-zero bit)

pub returns : goal.returns
returns c = λ bit. omega (arith, c.add_four.ensures bit, bit_at-zero bit)
