use Rattle.std.proofs.Common.{◌∙◌, ap}
use Rattle.switch_core.specs.Exports.{switch_arrival_by_forwarding, switch_site_around, switch_arrival_of, switch_received}
use Rattle.switch_core.specs.declared.tunnel_calls.Packet.{Packet}
use Rattle.switch_core.proofs.switch.Switch.arrive.Goals as goal

pub returns-clause-answer : goal.returns-clause-answer
unfolding switch_received
returns-clause-answer c = let site = switch_site_around c.args.near c.args.ports.now in
    c.answer_arrival.ensures
    ∙ ap (λ (p : Packet). switch_arrival_of (switch_arrival_by_forwarding c.receive-forwarding.new.self site p
    c.receive-forwarding.result)) c.carried.ensures
    ∙ ap switch_arrival_of
    (rw c.t.view_is at (c.receive-forwarding.ensures.answer site c.t.inside.packet c.t.inside.down))
