-- What becomes of a packet at a switch, and how the calls return it.
use Rattle.std.specs.Prelude.{None, Option, Some, ℕ}
use Rattle.ctrl_msg.specs.declared.message.Body.{Body}
use Rattle.policy_rules.specs.declared.packet.Cause.{Cause}
use Rattle.policy_rules.specs.declared.packet.Leg.{Leg}
use Rattle.switch_core.specs.declared.tunnel_calls.Arrived.{Arrived}
use Rattle.switch_core.specs.declared.tunnel_calls.Arrived.TheVariants as arrived
use Rattle.switch_core.specs.declared.deciding.Decision.{Decision}
use Rattle.switch_core.specs.declared.tunnel_calls.Entered.{Entered}
use Rattle.switch_core.specs.declared.tunnel_calls.Entered.TheVariants as entered
use Rattle.switch_core.specs.declared.tunnel_calls.Next.{Next}
use Rattle.tunnel.specs.Exports.{TunnelValue}

-- the result for a packet whose header was looked up. It is decided, with a rule for the cache of
-- the switch where it entered, unless that is this one; or it is sent to an authority switch of its
-- partition; or no route leads there
pub data SwitchAnswer : Type 0 where
  Decided : Decision → Option Body → Next → SwitchAnswer
  Seek : TunnelValue → SwitchAnswer
  Stuck : Cause → Leg → SwitchAnswer

-- the result for a packet at the end of its route: it leaves by this port, or is answered as above
pub data SwitchArrival : Type 0 where
  Out : ℕ → SwitchArrival
  Answered : SwitchAnswer → SwitchArrival

-- as `enter` returns it, if the switch serves
abbrev pub switch_entered_with : SwitchAnswer → Entered
switch_entered_with (Decided decision cache way) = entered.Decided decision way
switch_entered_with (Seek tunnel) = entered.Seek tunnel
switch_entered_with (Stuck cause leg) = entered.Stuck cause leg

abbrev pub switch_entered_by_answer : Option SwitchAnswer → Entered
switch_entered_by_answer None = entered.Closed
switch_entered_by_answer (Some answer) = switch_entered_with answer

-- as `arrive` returns it
abbrev pub switch_arrived_with : SwitchAnswer → Arrived
switch_arrived_with (Decided decision cache way) = arrived.Decided decision cache way
switch_arrived_with (Seek tunnel) = arrived.Seek tunnel
switch_arrived_with (Stuck cause leg) = arrived.Stuck cause leg

abbrev pub switch_arrival_of : SwitchArrival → Arrived
switch_arrival_of (Out port) = arrived.Out port
switch_arrival_of (Answered answer) = switch_arrived_with answer
