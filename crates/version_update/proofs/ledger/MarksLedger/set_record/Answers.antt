use Rattle.std.proofs.Common.{◌<◌, ◌∙◌, ap, arith, length, length-take, set}
use Rattle.base.proofs.Exports.{take-set-lt}
use Rattle.version_update.specs.Exports.{MarksValue}
use Rattle.version_update.proofs.ledger.MarksLedger.set_record.Goals as goal

pub returns : goal.returns
returns c =
    let inside = c.self.inside in
    let len = ap (λ (v : MarksValue). length v.switches) c.self.view_is in
    let within : c.args.s < inside.number =
    omega (arith, length-take inside.number inside.switches, len, c.requires.switch) in
    ap (λ l. record {
      count = inside.count;
      current = inside.current;
      retired = inside.retired;
      switches = l;
    }) (take-set-lt inside.number inside.switches c.args.s c.args.known within)
    ∙ ap (λ (v : MarksValue). record {
      count = v.count;
      current = v.current;
      retired = v.retired;
      switches = set v.switches c.args.s c.args.known;
    }) c.self.view_is
