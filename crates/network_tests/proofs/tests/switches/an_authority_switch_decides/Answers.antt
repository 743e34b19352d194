use Rattle.network_tests.proofs.tests.switches.an_authority_switch_decides.Goals as goal

pub arrive-arrived-requires-clause-authority : goal.arrive-arrived-requires-clause-authority
arrive-arrived-requires-clause-authority g c =
    rw c.in_ok-packet.ensures (c.in_ok-b.ensures.part c.in_ok-packet.packet.header)
