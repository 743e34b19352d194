use Rattle.std.proofs.Common.{[], ◌-◌, ◌∙◌, ◌≡◌, Bool, List, ap, arith, drop, length, not, subst, sym, true≢false, ℕ}
use Rattle.std.specs.List.{list_all}
use Rattle.update_machine.specs.Exports.{IsQuietMachineJournal, Net, SwitchRow, was_delivered_in_journal}
use Rattle.journal_reports.specs.Exports.{report_has_mark, is_missed_in_report}
use Rattle.journal_reports.specs.declared.traffic.Traffic.{Traffic}
use Rattle.journal_reports.proofs.QuietReportJudge.{marks_at_end, marks_before, missed_answer, read_next, received_at_end, received_before, rows_at_end, rows_before, switches_found, waiting_answer}
use Rattle.journal_reports.proofs.judge.quiet.Goals as goal

pub returns-then-not-report_misses_no_switch : goal.returns-then-not-report_misses_no_switch
returns-then-not-report_misses_no_switch c = λ setting net. let rows = c.in_ok-rows.rows.items in
    let count = ap (λ (of : Net). length of.switches) net
    ∙ sym (ap (λ (rows : List SwitchRow). length rows) c.items.ensures)
    ∙ sym c.in_ok-rows.ensures.count in
    let some = sym (c.report_misses_no_switch.ensures ∙ ap (λ (rows : List Traffic). list_all
    (λ row. not (is_missed_in_report row.status)) rows) c.deref.ensures.value)
    ∙ c.if-not-report_misses_no_switch.true in (
      λ answer. absurd (true≢false (sym answer)),
      λ quiet. absurd (missed_answer setting c.args.journal.now rows
          (rw c.items-items.ensures at c.in_ok-rows.ensures.each) count some quiet),
    )

pub loop-place-init : goal.loop-place-init
loop-place-init c =
    let items = c.items-items.result.now in
    let rows = c.in_ok-rows.rows.items in
    let none = sym (c.report_misses_no_switch.ensures ∙ ap (λ (rows : List Traffic). list_all
    (λ row. not (is_missed_in_report row.status)) rows) c.deref.ensures.value)
    ∙ c.if-not-report_misses_no_switch.false in record {
      within = omega arith;
      marks = λ n. marks_at_end items (length items) n c.new-delivered.result.items (omega arith)
          c.new-delivered.ensures.items;
      count = c.in_ok-rows.ensures.count;
      rows = rows_at_end items (length items) rows (omega arith) c.in_ok-rows.ensures.each;
      received = λ setting count. received_at_end setting items (length items) (omega arith);
      switches = λ setting count. (switches_found setting items rows c.in_ok-rows.ensures.each
          (count ∙ sym c.in_ok-rows.ensures.count)).0 none;
    }

pub returns-then-not-branch : goal.returns-then-not-branch
returns-then-not-branch c = λ setting net. let items = c.items-items.result.now in
    let from = c.loop-place.place in
    let place = from - 1 in
    let next = c.index-items-place.result in
    let rows = c.loop-place.rows.items in
    let marks = c.deref-in-loop-place.result.now in
    let right : (n : ℕ) → report_has_mark marks n ≡ was_delivered_in_journal (drop place items) n = λ n.
    ap (λ (marks : List Bool). report_has_mark marks n) c.deref-in-loop-place.ensures.value
    ∙ marks_before items place from n next c.loop-place.delivered.items
    c.mark_delivery_for_report.new.marks.items (omega arith) (omega arith) c.index-items-place.is
    (c.loop-place.invariant.marks n) (c.in_ok-mark_delivery_for_report.ensures n) in
    let now = c.take_report_item.new.rows.items in
    let read = read_next items place from next marks rows now c.in_ok-take_report_item.field-0 (omega arith)
    (omega arith) c.index-items-place.is right c.loop-place.invariant.rows
    c.in_ok-take_report_item.ensures.concerned in
    let count = ap (λ (of : Net). length of.switches) net
    ∙ sym (ap (λ (rows : List SwitchRow). length rows) c.items.ensures)
    ∙ sym c.loop-place.invariant.count in (
      λ answer. absurd (true≢false (sym answer)),
      λ quiet. absurd (waiting_answer items place next marks rows now c.in_ok-take_report_item.field-0
          (omega arith) c.index-items-place.is read setting count
          (c.in_ok-take_report_item.ensures.some c.if-not-branch.true) c.if-not-branch.true
          (subst (IsQuietMachineJournal setting) (sym c.items-items.ensures) quiet)),
    )

pub loop-place-preserved : goal.loop-place-preserved
loop-place-preserved c =
    let items = c.items-items.result.now in
    let from = c.loop-place.place in
    let place = from - 1 in
    let next = c.index-items-place.result in
    let rows = c.loop-place.rows.items in
    let now = c.take_report_item.new.rows.items in
    let marks = c.deref-in-loop-place.result.now in
    let own : (n : ℕ) → report_has_mark c.mark_delivery_for_report.new.marks.items n
    ≡ was_delivered_in_journal (drop place items) n = λ n. marks_before items place from n next
    c.loop-place.delivered.items c.mark_delivery_for_report.new.marks.items (omega arith) (omega arith)
    c.index-items-place.is (c.loop-place.invariant.marks n) (c.in_ok-mark_delivery_for_report.ensures n) in
    let right : (n : ℕ) → report_has_mark marks n ≡ was_delivered_in_journal (drop place items) n = λ n.
    ap (λ (marks : List Bool). report_has_mark marks n) c.deref-in-loop-place.ensures.value ∙ own n in
    let read = read_next items place from next marks rows now c.in_ok-take_report_item.field-0 (omega arith)
    (omega arith) c.index-items-place.is right c.loop-place.invariant.rows
    c.in_ok-take_report_item.ensures.concerned in record {
      within = omega arith;
      marks = own;
      count = c.in_ok-take_report_item.ensures.count ∙ c.loop-place.invariant.count;
      rows = rows_before items place next marks rows now c.in_ok-take_report_item.field-0 (omega arith)
          c.index-items-place.is read c.in_ok-take_report_item.ensures.count
          c.in_ok-take_report_item.ensures.others;
      received = λ setting count. received_before items place next marks rows now
          c.in_ok-take_report_item.field-0 (omega arith) c.index-items-place.is read setting
          (count ∙ sym c.loop-place.invariant.count) from (omega arith) c.if-not-branch.false
          (c.loop-place.invariant.received setting count);
      switches = c.loop-place.invariant.switches;
    }
