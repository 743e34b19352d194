use Rattle.std.proofs.Common.{◌≡◌, arith, rules}
use Rattle.base.proofs.Exports.{common_steps}
use Rattle.flow_export.specs.Counts.{flow_count_of_header}
use Rattle.flow_export.proofs.flow_meter.count.Goals as goal

pub overflow_add-packets : goal.overflow_add-packets
overflow_add-packets c =
    let is : c.unwrap_or-packets.result ≡ flow_count_of_header c.args.header c.args.counts.now.entries =
    first_of (search rules, grind (arith, common_steps)) in
    omega (arith, is, c.requires)
