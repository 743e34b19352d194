-- Where a packet moves once it is decided, and why it is stuck: both rules in one place. The
-- relation `IsSwitchNextStep` says what the first one returns, and allows nothing else.
use Rattle.std.specs.Prelude.{[], if◌then◌else◌, ◌&&◌, ◌==◌, ◌∷◌, Bool, Err, List, None, Ok, Option, Result, Some, false, ok_or, option_map, true, ℕ}
use Rattle.base.specs.Exports.{list_all}
use Rattle.policy_rules.specs.declared.policy.Action.{Action}
use Rattle.policy_rules.specs.declared.policy.Action.TheVariants.{Drop, Out as OutBy}
use Rattle.policy_rules.specs.declared.packet.Leg.{Leg}
use Rattle.policy_rules.specs.declared.packet.Leg.TheVariants.{Seek as SeekLeg, Exit as ExitLeg}
use Rattle.policy_rules.specs.declared.packet.Cause.{Cause}
use Rattle.policy_rules.specs.declared.packet.Cause.TheVariants.{NoAuthority, NoRoute}
use Rattle.net_file.specs.declared.ports.Ports.{Ports}
use Rattle.net_file.specs.Exports.{owner_in_net_ports}
use Rattle.failover.specs.Exports.{is_failover_target_isolated, route_of}
use Rattle.tunnel.specs.Exports.{TunnelValue, tunnel_begun}
use Rattle.switch_core.specs.declared.tunnel_calls.Next.{Next}
use Rattle.switch_core.specs.declared.tunnel_calls.Next.TheVariants.{Dropped, Out, Exit, Stuck}
use Rattle.switch_core.specs.declared.tunnel_calls.Packet.{Packet}
use Rattle.switch_core.specs.declared.site.SwitchSite as given
use Rattle.switch_core.specs.State.{SwitchValue}

-- what a switch gets with a packet: a mask of the switches to which it has a usable link, and which
-- switch has each port
pub record SwitchSite : Type 0 where
  pub near : ℕ
  pub ports : Ports

abbrev pub switch_site_around : ℕ → Ports → SwitchSite
switch_site_around near ports = record { near = near; ports = ports }

-- the same, from the value of the code
abbrev pub switch_site_of : given.SwitchSite → SwitchSite
switch_site_of site = switch_site_around site.near site.ports.now

-- ---- the cause rule

abbrev pub is_switch_seek_leg : Leg → Bool
is_switch_seek_leg (SeekLeg version partition) = true
is_switch_seek_leg (ExitLeg port) = false

-- each target is another switch, where no link ends that the switch knows, except links found down
unfoldable pub are_switch_targets_isolated : SwitchValue → ℕ → List ℕ → List ℕ → Bool
are_switch_targets_isolated s near down targets =
    list_all (λ target. is_failover_target_isolated s.database s.number target near down) targets

-- why a packet without a route on its leg is stuck
unfoldable pub switch_stuck_cause : SwitchValue → ℕ → List ℕ → Leg → List ℕ → Cause
switch_stuck_cause s near down leg targets =
    if is_switch_seek_leg leg && are_switch_targets_isolated s near down targets then NoAuthority else NoRoute

-- the packet at the beginning of its route to the leg's targets; stuck exactly if there is none
unfoldable pub switch_set_out : SwitchValue → ℕ → Packet → Leg → List ℕ → Result TunnelValue Cause
switch_set_out s near packet leg targets =
    ok_or (option_map (λ route. tunnel_begun packet.number packet.header packet.ingress leg targets
    route packet.down) (route_of s.database s.number targets near packet.down))
    (switch_stuck_cause s near packet.down leg targets)

-- ---- the exit rule

abbrev pub switch_exit_by_tunnel : Result TunnelValue Cause → Next
switch_exit_by_tunnel (Ok tunnel) = Exit tunnel
switch_exit_by_tunnel (Err cause) = Stuck cause

-- out by a port, if its switch is this one; otherwise to its switch. No route leads to a port that
-- no switch has
unfoldable pub switch_leave_by_port : SwitchValue → ℕ → Packet → ℕ → Option ℕ → Next
switch_leave_by_port s near packet port None = Stuck NoRoute
switch_leave_by_port s near packet port (Some owner) = if owner == s.number
    then Out port
    else switch_exit_by_tunnel (switch_set_out s near packet (ExitLeg port) (owner ∷ []))

-- where a packet moves that this action decides
unfoldable pub switch_next_of : SwitchValue → SwitchSite → Packet → Action → Next
switch_next_of s site packet Drop = Dropped
switch_next_of s site packet (OutBy port) = switch_leave_by_port s site.near packet port (owner_in_net_ports site.ports port)
