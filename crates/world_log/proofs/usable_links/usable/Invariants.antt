use Rattle.std.proofs.Common.{◌<◌, ◌≡◌, get_or, length, ℕ}
use Rattle.world_log.specs.Exports.{logged_near_mask_by}
use Rattle.world_log.proofs.usable_links.usable.Given as goal

-- those so far
abbrev pub invariant-loop-s : goal.invariant-loop-s
invariant-loop-s l = (length l.near ≡ 64)
    × ((s : ℕ) → s < l.s → get_or l.near s 0 ≡ logged_near_mask_by l.links l.switches s)
