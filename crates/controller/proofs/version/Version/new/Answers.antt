use Rattle.std.proofs.Common.{◌∙◌, ap, length, map, sym}
use Rattle.base.proofs.Exports.{length-map-range_with_len, range_with_len}
use Rattle.switch_table.specs.Exports.{tables_of}
use Rattle.controller.proofs.version.Version.new.Goals as goal

pub invariant_of-result : goal.invariant_of-result
invariant_of-result c =
    let number = ap length c.in_ok-made.ensures
    ∙ length-map-range_with_len (tables_of c.args.plan.hosted c.args.version) 0 c.args.switches in
    c.in_ok-made.ensures
    ∙ ap (λ n. map (tables_of c.args.plan.hosted c.args.version) (range_with_len 0 n)) (sym number)
