use Rattle.std.proofs.Common.{◌≡◌, length}
use Rattle.switch_table.specs.Exports.{live_cache_pairs}
use Rattle.switch_table.proofs.items.SlotItemsIterator.next.Given as goal

-- no live slot has been passed
abbrev pub invariant-loop-key : goal.invariant-loop-key
invariant-loop-key l = live_cache_pairs l.initial.self-inside.slots ≡ live_cache_pairs l.self-inside.slots

abbrev pub decreases-loop-key : goal.decreases-loop-key
decreases-loop-key l = length l.self-inside.slots
