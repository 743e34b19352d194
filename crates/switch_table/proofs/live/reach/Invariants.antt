use Rattle.std.proofs.Common.{◌-◌, Bool, List, length}
use Rattle.switch_table.specs.Exports.{AreCacheLiveBlocks}
use Rattle.switch_table.proofs.live.reach.Given as goal

-- the counts are still those of the same flags
abbrev pub invariant-loop-counts : goal.invariant-loop-counts
invariant-loop-counts l =
    (flags : List Bool) → AreCacheLiveBlocks l.fn.counts.items flags → AreCacheLiveBlocks l.counts.items flags

abbrev pub decreases-loop-counts : goal.decreases-loop-counts
decreases-loop-counts l = l.len - length l.counts.items
