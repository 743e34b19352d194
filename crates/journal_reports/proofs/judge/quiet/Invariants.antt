use Rattle.std.proofs.Common.{◌||◌, ◌≡◌, ◌≤◌, All, IsTrue, drop, length, not, ℕ}
use Rattle.update_machine.specs.Exports.{AreMachineMessagesReceived, Setting, is_up, is_waited_for_in_journal, machine_switches_of, was_delivered_in_journal}
use Rattle.journal_reports.specs.Exports.{AreReportTrafficRows, report_has_mark}
use Rattle.journal_reports.proofs.judge.quiet.Given as goal

-- the items from the place on were read
abbrev pub invariant-loop-place : goal.invariant-loop-place
invariant-loop-place l = record {
  within : l.place ≤ length l.items;
  marks : (n : ℕ) → report_has_mark l.delivered.items n ≡ was_delivered_in_journal (drop l.place l.items) n;
  count : length l.rows.items ≡ l.count;
  rows : AreReportTrafficRows l.items (drop l.place l.items) l.rows.items;
  received : (setting : Setting) → length setting.net.switches ≡ l.count
      → AreMachineMessagesReceived setting l.items (drop l.place l.items);
  switches : (setting : Setting) → length setting.net.switches ≡ l.count
      → All (λ s. IsTrue (is_up l.items s || not (is_waited_for_in_journal l.items s))) (machine_switches_of setting);
}

abbrev pub decreases-loop-place : goal.decreases-loop-place
decreases-loop-place l = l.place
