use Rattle.std.proofs.Common.{[], ◌++◌, ◌+◌, ◌||◌, ◌∙◌, ◌∷◌, ◌≡◌, ap, arith, drop, length-append, map, refl}
use Rattle.base.proofs.Exports.{err_from_is_err_and}
use Rattle.toml.specs.View.{view}
use Rattle.net_file.specs.Exports.{net_switch_has_port, net_rows_read, net_switch_read}
use Rattle.net_file.proofs.NetFilePortMasks.{in_mask_or}
use Rattle.net_file.proofs.NetFileFreshPorts.{have_port_push}
use Rattle.net_file.proofs.NetFileRowRefusals.{next_row, refused_row, refused_same}
use Rattle.net_file.proofs.NetFileValueItems.{values_more}
use Rattle.net_file.proofs.switches.read_switches.Goals as goal

pub returns-in_err-switch-clause-refused : goal.returns-in_err-switch-clause-refused
returns-in_err-switch-clause-refused c =
    let inv = c.loop-value.invariant in
    let rows = c.loop-value.rows.items in
    let more = map view (drop (c.loop-value.value-index + 1) c.args.values.now) in
    let left = values_more c.args.values.now c.loop-value.value-index c.value-item.result
    c.loop-value-test.true c.value-item.is in
    let e = c.in_err-switch.field-0.0 in
    let p = err_from_is_err_and c.from_residual.result c.from_residual.ensures.1 in
    rw (p.1, p.2) (refused_same _ _ e (inv.rest ∙ ap (net_rows_read 0 net_switch_read rows) left)
    (refused_row 0 net_switch_read rows (view c.value-item.result) more (c.loop-value.row + 1) e (omega
    (arith, inv.count, inv.row)) (rw (← c.deref.ensures.value) c.in_err-switch.ensures.refused)))

pub loop-value-preserved : goal.loop-value-preserved
loop-value-preserved c =
    let inv = c.loop-value.invariant in
    let rows = c.loop-value.rows.items in
    let row = c.in_ok-switch.switch in
    let items : c.push.new.self.items ≡ rows ++ row ∷ [] = c.in_ok-push.ensures.items in
    let more = map view (drop (c.loop-value.value-index + 1) c.args.values.now) in
    let left = values_more c.args.values.now c.loop-value.value-index c.value-item.result
    c.loop-value-test.true c.value-item.is in record {
      rest = rw items (inv.rest ∙ ap (net_rows_read 0 net_switch_read rows) left
          ∙ next_row 0 net_switch_read rows (view c.value-item.result) more row
          (rw (← c.deref.ensures.value) c.in_ok-switch.ensures.switch));
      count = rw (items, length-append, inv.count) refl;
      row = rw inv.row refl;
      taken = λ k. rw (items, have_port_push)
          (in_mask_or c.loop-value.taken row.ports k ∙ ap (λ b. b || net_switch_has_port k row) (inv.taken k));
    }
