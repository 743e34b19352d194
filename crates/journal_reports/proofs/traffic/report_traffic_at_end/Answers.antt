use Rattle.std.proofs.Common.{[], ◌++◌, ◌∙◌, ◌∷◌, ◌≡◌, List, ap, length-append, refl, true}
use Rattle.update_machine.specs.Exports.{Item}
use Rattle.journal_reports.specs.Exports.{report_switch_status_in}
use Rattle.journal_reports.specs.declared.traffic.Traffic.{Traffic}
use Rattle.journal_reports.proofs.QuietReadItems.{traffic_at_end}
use Rattle.journal_reports.proofs.traffic.report_traffic_at_end.Goals as goal

pub loop-switch-preserved : goal.loop-switch-preserved
loop-switch-preserved c =
    let s = c.loop-switch.switch in
    let rows = c.loop-switch.rows.items in
    let next : Traffic = record {
      status = c.of.result;
      is_in_boot = true;
      buckets = c.in_ok-buckets.buckets;
    } in
    let is : c.push.new.self.items ≡ rows ++ next ∷ [] = c.in_ok-push.ensures.items in record {
      count = cc (is, length-append rows (next ∷ []), c.loop-switch.invariant.count);
      each = rw is (traffic_at_end c.args.items.now rows next s c.loop-switch.invariant.count
          c.loop-switch.invariant.each (c.of.ensures ∙ ap (λ (js : List Item). report_switch_status_in js s)
          c.deref.ensures.value ∙ c.in_ok-told.ensures s) refl c.in_ok-buckets.ensures);
    }
