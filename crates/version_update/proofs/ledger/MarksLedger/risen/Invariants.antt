use Rattle.std.proofs.Common.{◌-◌, ◌<◌, ◌≤◌, IsTrue, ℕ}
use Rattle.version_update.specs.Exports.{update_all_have_acked}
use Rattle.version_update.proofs.ledger.MarksLedger.risen.Given as goal

-- each member acknowledged every version from the old mark up to this one
abbrev pub invariant-loop-current : goal.invariant-loop-current
invariant-loop-current l = record {
  rises : l.self.current ≤ l.current;
  bound : l.current ≤ l.self.count;
  acknowledged : (version : ℕ) → l.self.current < version → version ≤ l.current
      → IsTrue (update_all_have_acked version l.self.switches);
}

abbrev pub decreases-loop-current : goal.decreases-loop-current
decreases-loop-current l = l.self.count - l.current
