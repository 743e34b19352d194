use Rattle.std.proofs.Common.{◌<◌, ◌≡◌, get_or, length, take, ℕ}
use Rattle.rebalance.proofs.RebalanceWeights.{asked_count}
use Rattle.rebalance.proofs.weighing.weights.Given as goal

abbrev pub invariant-loop-item : goal.invariant-loop-item
invariant-loop-item l = record {
  number : length l.weights.items ≡ l.parts;
  counts : (p : ℕ) → p < l.parts
      → get_or l.weights.items p 0 ≡ asked_count l.current p (take l.item-index l.items);
}
