use Rattle.std.proofs.Common.{◌≡◌, take}
use Rattle.base.proofs.Exports.{position_or_len}
use Rattle.switch_table.proofs.CacheSlotHits.{hit_live}
use Rattle.switch_table.proofs.slots.CacheSlots.first_hit.Given as goal

-- the first place of a live key of the masks so far
abbrev pub invariant-loop-mask : goal.invariant-loop-mask
invariant-loop-mask l = l.least
    ≡ position_or_len (hit_live l.number l.header (take l.mask-index l.masks)) l.self-inside.map.entries
