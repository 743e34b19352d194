use Rattle.network_tests.proofs.SwitchTestTables.{stands}
use Rattle.network_tests.proofs.tests.switches.is_at.Goals as goal

pub returns : goal.returns
returns c = λ is.
    stands c.args.switch.now c.args.packet.now.route c.args.packet.now.place c.here.result
    c.number.result c.here.ensures.on_route c.here.ensures.here c.number.ensures.number is
