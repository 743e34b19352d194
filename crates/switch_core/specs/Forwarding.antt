-- What becomes of a packet at a switch, before a route is taken.
use Rattle.std.specs.Prelude.{Option, option_map, ⊤}
use Rattle.ctrl_msg.specs.declared.message.Body.{Body}
use Rattle.ctrl_msg.specs.declared.message.Body.TheVariants.{CacheRule}
use Rattle.ternary.specs.Exports.{WordValue}
use Rattle.switch_core.specs.Answering.{switch_seek_by}
use Rattle.switch_core.specs.Ends.{SwitchSite, switch_next_of, switch_set_out}
use Rattle.switch_core.specs.State.{SwitchValue}
use Rattle.switch_core.specs.Answers.{SwitchArrival}
use Rattle.switch_core.specs.Answers as answer
use Rattle.switch_core.specs.declared.deciding.Decision.{Decision}
use Rattle.switch_core.specs.declared.tunnel_calls.Packet.{Packet}
use Rattle.switch_core.specs.declared.forwarding.Forwarding.{Forwarding}
use Rattle.switch_core.specs.declared.forwarding.Forwarding.TheVariants.{Out, Decided, Seek}

-- the decision's rule with this word, for a cache
abbrev pub switch_core_cache_rule : Decision → Option WordValue → Option Body
switch_core_cache_rule decision word =
    option_map (λ word. CacheRule decision.version word decision.rule decision.action) word

-- the result, with the route that is to be taken
abbrev pub switch_arrival_by_forwarding : SwitchValue → SwitchSite → Packet → Forwarding → SwitchArrival
switch_arrival_by_forwarding s site packet (Out port) = answer.Out port
switch_arrival_by_forwarding s site packet (Decided decision word) =
    answer.Answered (answer.Decided decision (switch_core_cache_rule decision word)
    (switch_next_of s site packet decision.action))
switch_arrival_by_forwarding s site packet (Seek leg targets) =
    answer.Answered (switch_seek_by leg (switch_set_out s site.near packet leg targets))

-- the result for a packet that enters
abbrev pub switch_admitted_as : SwitchValue → SwitchSite → Packet → Option Forwarding → Option SwitchArrival
switch_admitted_as s site packet forwarding = option_map (switch_arrival_by_forwarding s site packet) forwarding

-- the forwarding is one that a lookup returns: it is not out by a port
abbrev pub IsSwitchLookupForwarding : Forwarding → Type 0
IsSwitchLookupForwarding (Out port) = ⊥
IsSwitchLookupForwarding _ = ⊤
