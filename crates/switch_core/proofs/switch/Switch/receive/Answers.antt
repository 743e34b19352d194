use Rattle.std.proofs.Common.{◌∙◌, ap, sym}
use Rattle.switch_core.specs.Exports.{switch_arrival_on_leg, switch_packet_to_look_up}
use Rattle.switch_core.proofs.SwitchAdmissions.{answer_counted}
use Rattle.switch_core.proofs.switch.Switch.receive.Goals as goal

pub returns-in-Seek-clause-answer : goal.returns-in-Seek-clause-answer
returns-in-Seek-clause-answer c = λ site number down.
    let packet = switch_packet_to_look_up number c.args.t.header.now c.args.t.ingress down in
    answer_counted c.args.self.now c.count-in-Seek.new.self site packet
    c.judge-forwarding.result c.count-in-Seek.ensures
    ∙ c.judge-forwarding.ensures site number down
    ∙ ap (switch_arrival_on_leg c.args.self.now site packet) (sym c.in-Seek.is)
