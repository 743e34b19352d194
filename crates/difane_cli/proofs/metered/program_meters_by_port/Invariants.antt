use Rattle.std.proofs.Common.{Ok}
use Rattle.base.proofs.Exports.{AllZip, range_with_len}
use Rattle.difane_cli.proofs.metered.program_meters_by_port.Given as goal

abbrev pub invariant-loop-port : goal.invariant-loop-port
invariant-loop-port g l =
    AllZip (λ port one. goal.F-post g l.make port (Ok one)) (range_with_len 0 l.port) l.all.items
