use Rattle.std.proofs.Common.{◌+◌, ◌-◌, ◌<◌, ◌≡◌, ◌≤◌, false, length, ℕ}
use Rattle.travelling.specs.SwitchIndex.{is_traveller_marked}
use Rattle.travelling.proofs.switch_index.next_traveller_mark.Given as goal

abbrev pub invariant-loop-next : goal.invariant-loop-next
invariant-loop-next l = record {
  from : l.from ≤ l.next;
  none : (i : ℕ) → l.from ≤ i → i < l.next → is_traveller_marked l.masks i l.switch ≡ false;
}

abbrev pub decreases-loop-next : goal.decreases-loop-next
decreases-loop-next l = length l.masks + 64 - l.next
