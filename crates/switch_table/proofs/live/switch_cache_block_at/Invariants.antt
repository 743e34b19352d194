use Rattle.std.proofs.Common.{◌+◌, ◌≡◌, sum, take}
use Rattle.switch_table.proofs.live.switch_cache_block_at.Given as goal

-- so many came before this block
abbrev pub invariant-loop-count : goal.invariant-loop-count
invariant-loop-count l =
    (l.block ≡ l.count-index) × (sum (take l.block l.counts) + l.left ≡ l.before)
