use Rattle.std.proofs.Common.{◌+◌, ◌-◌, ◌≡◌, ◌≤◌, length, max, ℕ}
use Rattle.travelling.specs.Travelling.{flight}
use Rattle.travelling.proofs.travelling.make_traveller_slot.Given as goal

abbrev pub invariant-loop-slots : goal.invariant-loop-slots
invariant-loop-slots l = record {
  few : length l.slots.items ≤ max (length l.initial.slots.items) (l.number + 1);
  same : (i : ℕ) → flight l.slots.items i ≡ flight l.initial.slots.items i;
}

abbrev pub decreases-loop-slots : goal.decreases-loop-slots
decreases-loop-slots l = l.number + 1 - length l.slots.items
