use Rattle.std.proofs.Common.{◌*◌, ◌-◌, ◌<◌, ◌≡◌, get_or, min, ℕ}
use Rattle.switch_table.proofs.live.fill_cache_blocks.Given as goal

-- so many are left, and the blocks before this one are counted
abbrev pub invariant-loop-count : goal.invariant-loop-count
invariant-loop-count l = (l.left ≡ l.places - 64 * l.count-index)
    × ((k : ℕ) → k < l.count-index → get_or l.count-items k 0 ≡ min (l.places - 64 * k) 64)
