use Rattle.std.proofs.Common.{◌∙◌, ◌≡◌, arith, false, nat_lt, sym}
use Rattle.base.proofs.Exports.{has_above, nat_tests}
use Rattle.meters.proofs.board.meter_mask_has_port.Goals as goal

pub returns-else-port-lt64 : goal.returns-else-port-lt64
returns-else-port-lt64 c = let past : nat_lt c.args.port 64 ≡ false = grind (arith, nat_tests) in
    past ∙ sym (has_above c.args.ports c.args.port c.ranges.ports.fits c.if-port-lt64.false)
