use Rattle.std.proofs.Common.{◌-◌, ◌<◌, ◌≡◌, ◌≤◌, None, length, ℕ}
use Rattle.travelling.specs.Travelling.{flight}
use Rattle.travelling.proofs.travelling.first_held_packet.Given as goal

abbrev pub invariant-loop-number : goal.invariant-loop-number
invariant-loop-number l = record {
  from : l.from ≤ l.number;
  empty : (i : ℕ) → l.from ≤ i → i < l.number → flight l.slots i ≡ None;
}

abbrev pub decreases-loop-number : goal.decreases-loop-number
decreases-loop-number l = length l.slots - l.number
