use Rattle.std.proofs.Common.{rules}
use Rattle.base.proofs.Exports.{AllZip-range_more}
use Rattle.difane_cli.proofs.metered.program_meters_by_port.Goals as goal

pub loop-port-preserved : goal.loop-port-preserved
loop-port-preserved g c = rw c.in_ok-push.ensures.items (AllZip-range_more _ c.loop-port.port
    c.loop-port.all.items c.in_ok-make.field-0 c.loop-port.invariant (search rules))
