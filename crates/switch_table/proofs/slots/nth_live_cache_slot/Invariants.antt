use Rattle.std.proofs.Common.{◌+◌, ◌≡◌, map, take}
use Rattle.switch_table.specs.Exports.{cache_live_count_set}
use Rattle.switch_table.specs.declared.key.Slot.{Slot}
use Rattle.switch_table.proofs.slots.nth_live_cache_slot.Given as goal

-- so many came before this place
abbrev pub invariant-loop-place : goal.invariant-loop-place
invariant-loop-place l =
    cache_live_count_set (map (λ (slot : Slot). slot.is_live) (take l.place l.slots)) + l.left ≡ l.before
