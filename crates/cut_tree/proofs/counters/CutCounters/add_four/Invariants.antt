use Rattle.std.proofs.Common.{◌*◌, ◌+◌, ◌^◌, ◌≡◌, ℕ}
use Rattle.base.proofs.Exports.{bit_at}
use Rattle.cut_tree.specs.Exports.{cut_count_at}
use Rattle.cut_tree.proofs.counters.CutCounters.add_four.Given as goal

abbrev pub invariant-loop-place : goal.invariant-loop-place
invariant-loop-place l = (bit : ℕ) → cut_count_at l.self.planes bit + 2 ^ l.place * bit_at l.carry bit
    ≡ cut_count_at l.fn.self.planes bit
    + (bit_at l.a bit + bit_at l.b bit + bit_at l.c bit + bit_at l.d bit)
