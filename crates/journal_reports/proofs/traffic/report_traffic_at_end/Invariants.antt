use Rattle.std.proofs.Common.{[], ◌≡◌, length}
use Rattle.journal_reports.specs.Exports.{AreReportTrafficRows}
use Rattle.journal_reports.proofs.traffic.report_traffic_at_end.Given as goal

abbrev pub invariant-loop-switch : goal.invariant-loop-switch
invariant-loop-switch l = record {
  count : length l.rows.items ≡ l.switch;
  each : AreReportTrafficRows l.items [] l.rows.items;
}
