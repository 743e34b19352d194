use Rattle.std.proofs.Common.{◌+◌, ◌-◌, ◌≡◌, ◌≤◌, get_or, length, max, ℕ}
use Rattle.travelling.proofs.switch_index.make_traveller_masks.Given as goal

abbrev pub invariant-loop-masks : goal.invariant-loop-masks
invariant-loop-masks l = record {
  grown : length l.initial.masks.items ≤ length l.masks.items;
  few : length l.masks.items ≤ max (length l.initial.masks.items) (l.number + 64);
  same : (j : ℕ) → get_or l.masks.items j 0 ≡ get_or l.initial.masks.items j 0;
}

abbrev pub decreases-loop-masks : goal.decreases-loop-masks
decreases-loop-masks l = l.number + 64 - length l.masks.items
