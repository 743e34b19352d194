use Rattle.std.proofs.Common.{◌∙◌, ◌≡◌, ap, rules}
use Rattle.switch_core.specs.Exports.{SwitchPacketMoved, switch_hop_answer, switch_rerouted_here}
use Rattle.tunnel.specs.Exports.{tunnel_marked_down}
use Rattle.switch_core.proofs.SwitchOnwardHops.{hop_down, is_down}
use Rattle.switch_core.proofs.switch.Switch.hop.Goals as goal
use Rattle.switch_core.proofs.switch.Switch.hop.Goals.{After-reroute}

rerouted : (c : After-reroute) → switch_rerouted_here c.pass.new.self c.args.near c.mark_down.new.self
    ≡ switch_hop_answer c.args.self.now c.args.near c.args.t.now
rerouted c = search (rules, is_down, hop_down)

pub returns-in-LinkDown-clause-end : goal.returns-in-LinkDown-clause-end
returns-in-LinkDown-clause-end c = c.reroute.ensures.end ∙ ap (λ (m : SwitchPacketMoved). m.end) (rerouted c)

pub returns-in-LinkDown-clause-tunnel : goal.returns-in-LinkDown-clause-tunnel
returns-in-LinkDown-clause-tunnel c = cc (c.reroute.ensures.tunnel, rerouted c)
