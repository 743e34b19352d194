use Rattle.std.proofs.Common.{[], ◌∙◌, ap, arith, length, subst, sym}
use Rattle.trace_audit.specs.Exports.{IsTraceAuditVerdict, IsTraceLineRead, Open, Whole, audit_lines_of, trace_state_seen}
use Rattle.trace_audit.specs.declared.trace.Verdict.TheVariants.{No, Yes}
use Rattle.trace_audit.proofs.AuditKnownPackets.{verdict_justified}
use Rattle.trace_audit.proofs.AuditTraceLines.{lines_next, lines_nil, lines_open}
use Rattle.trace_audit.proofs.AuditTraceRuns.{verdict_run}
use Rattle.trace_audit.proofs.AuditVerdicts.{IsSoFar, all_good, bad_here, good_here, nil_left, some_left, verdict_exact}
use Rattle.trace_audit.proofs.trace.audit.Goals as goal

pub returns-in-None : goal.returns-in-None
returns-in-None c =
    let rest = c.loop-rest.rest.now in
    let lines = audit_lines_of c.args.trace.now in
    let verdict = No c.saturating_add-line.result in
    let is : IsTraceAuditVerdict c.args.files.now lines verdict =
    bad_here c.args.files.now c.args.trace.now rest c.loop-rest.line (trace_state_seen c.loop-rest.auditor)
    (Open rest) [] c.trace_audit_files_sound.ensures c.loop-rest.invariant
    (lines_open rest (some_left rest (sym c.is_empty.ensures ∙ c.loop-rest-test.true))
    c.in-None.ensures) (λ other r. absurd r) _ c.saturating_add-line.ensures in record {
      verdict = is;
      exactly = verdict_exact c.args.files.now lines verdict is;
      run = verdict_run c.args.files.now lines verdict is;
      justified = verdict_justified c.args.files.now lines verdict is;
    }

pub returns-then-not-good : goal.returns-then-not-good
returns-then-not-good c =
    let rest = c.loop-rest.rest.now in
    let lines = audit_lines_of c.args.trace.now in
    let verdict = No c.saturating_add-line.result in
    let is : IsTraceAuditVerdict c.args.files.now lines verdict = bad_here c.args.files.now
    c.args.trace.now rest c.loop-rest.line (trace_state_seen c.loop-rest.auditor)
    (Whole c.in-Some.text.now) (audit_lines_of c.in-Some.next.now) c.trace_audit_files_sound.ensures
    c.loop-rest.invariant (lines_next rest c.in-Some.text.now c.in-Some.next.now c.in-Some.ensures)
    (subst (λ good. IsTraceLineRead c.args.files.now (trace_state_seen c.loop-rest.auditor)
    (Whole c.in-Some.text.now) (trace_state_seen c.take_trace_line.new.auditor) good) c.if-not-good.true
    c.in_ok-good-in-Some.ensures) _ c.saturating_add-line.ensures in record {
      verdict = is;
      exactly = verdict_exact c.args.files.now lines verdict is;
      run = verdict_run c.args.files.now lines verdict is;
      justified = verdict_justified c.args.files.now lines verdict is;
    }

pub loop-rest-smaller : goal.loop-rest-smaller
loop-rest-smaller c = omega (
  arith,
  ap length
      (lines_next c.loop-rest.rest.now c.in-Some.text.now c.in-Some.next.now c.in-Some.ensures),
)

pub loop-rest-preserved : goal.loop-rest-preserved
loop-rest-preserved c = let rest = c.loop-rest.rest.now in
    good_here c.args.files.now c.args.trace.now rest c.in-Some.next.now c.loop-rest.line
    (trace_state_seen c.loop-rest.auditor) (trace_state_seen c.take_trace_line.new.auditor)
    (Whole c.in-Some.text.now) c.loop-rest.invariant
    (lines_next rest c.in-Some.text.now c.in-Some.next.now c.in-Some.ensures)
    (rw c.if-not-good.false at c.in_ok-good-in-Some.ensures) _ c.saturating_add-line.ensures

pub returns : goal.returns
returns c =
    let rest = c.loop-rest.rest.now in
    let lines = audit_lines_of c.args.trace.now in
    let is : IsTraceAuditVerdict c.args.files.now lines Yes = all_good c.args.files.now c.args.trace.now
    c.loop-rest.line (trace_state_seen c.loop-rest.auditor) lines_nil (subst (λ left. IsSoFar
    c.args.files.now c.args.trace.now left c.loop-rest.line (trace_state_seen c.loop-rest.auditor))
    (nil_left rest (sym c.is_empty.ensures ∙ c.loop-rest-test.false)) c.loop-rest.invariant) in
    record {
      verdict = is;
      exactly = verdict_exact c.args.files.now lines Yes is;
      run = verdict_run c.args.files.now lines Yes is;
      justified = verdict_justified c.args.files.now lines Yes is;
    }
