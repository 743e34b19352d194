use Rattle.std.proofs.Common.{◌++◌, ◌∙◌, Global, Vec, ap, arith, flat_map, take_all, ℕ}
use Rattle.flow_export.specs.Lines.{exported_flow_lines}
use Rattle.meters.specs.Exports.{meter_flow_records_of}
use Rattle.difane_cli.proofs.ProgramFlowTexts.{lines_of_all}
use Rattle.difane_cli.proofs.flow_lines.program_flow_text.Goals as goal

pub returns : goal.returns
returns g c =
    let meters = c.args.meters.now in
    let i = c.loop-meter.meter-index in
    let told = λ (meter : g.row.M.Denot). exported_flow_lines (meter_flow_records_of (g.M.Meter.seen meter)) in
    ap (λ (text : Vec ℕ Global). text.items) c.into_bytes.ensures.value ∙ c.loop-meter.invariant
    ∙ ap (λ rest. exported_flow_lines c.args.gone.now ++ rest)
    (ap (flat_map told) (take_all i meters (omega (arith, c.loop-meter-test.false)))
    ∙ lines_of_all g.M.Meter.seen meters)
