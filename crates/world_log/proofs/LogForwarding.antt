-- Where a packet goes by its switch's answer, as what was written of it.
use Rattle.std.proofs.Common.{[], if◌then◌else◌, ◌<◌, ◌==◌, ◌∙◌, ◌∷◌, ◌≡◌, Bool, Err, List, None, Ok, Option, Result, Some, ap, ok_or, option_map, refl, subst, sym, ℕ}
use Rattle.update_machine.specs.Exports.{Action, CacheRule, Cause, Exit as ExitLeg, Leg, NoRoute, Out as OutBy}
use Rattle.ctrl_msg.specs.declared.message.Place.TheVariants as receiver
use Rattle.message_bag.specs.Exports.{HasShortBagSpelling}
use Rattle.message_bag.proofs.BagSpellingLengths.{alone_short}
use Rattle.net_file.specs.Exports.{owner_in_net_ports}
use Rattle.switch_core.specs.Exports.{SwitchSite, SwitchValue, switch_stuck_cause, switch_exit_by_tunnel, switch_leave_by_port, switch_next_of, switch_seek_by, switch_set_out}
use Rattle.failover.specs.Exports.{route_of}
use Rattle.tunnel.specs.Exports.{TunnelValue, tunnel_begun}
use Rattle.switch_core.specs.declared.tunnel_calls.Packet.{Packet}
use Rattle.switch_core.specs.declared.deciding.Decision.{Decision}
use Rattle.switch_core.specs.declared.tunnel_calls.Next.{Next}
use Rattle.switch_core.specs.declared.tunnel_calls.Next.TheVariants.{Out, Stuck}
use Rattle.ternary.specs.Exports.{WordValue}
use Rattle.travelling.specs.Travelling.{TravellingStanding}
use Rattle.world_log.specs.Exports.{LogAfter, log_answer_flight, log_answer_items, log_answer_posts, log_decided_flight, log_end_item, log_exit_leg, log_packet_standing, log_set_flight, log_set_item}
use Rattle.world_log.specs.declared.log.Log.{Log}

-- the route that the switch knows
pub route_known : (s : SwitchValue) (near : ℕ) (packet : Packet) (leg : Leg)
    (targets links route : List ℕ) → links ≡ packet.down
    → route_of s.database s.number targets near links ≡ Some route
    → Ok (tunnel_begun packet.number packet.header packet.ingress leg targets route packet.down)
    ≡ switch_set_out s near packet leg targets
unfolding switch_set_out
route_known s near packet leg targets links route same is =
    sym (ap (λ found. ok_or (option_map (λ route. tunnel_begun packet.number packet.header
    packet.ingress leg targets route packet.down) found) (switch_stuck_cause s near packet.down leg targets))
    (subst (λ down. route_of s.database s.number targets near down ≡ Some route) same is))

-- or why there is none
pub none_known : (s : SwitchValue) (near : ℕ) (packet : Packet) (leg : Leg) (targets links : List ℕ)
    (cause : Cause) → links ≡ packet.down → route_of s.database s.number targets near links ≡ None
    → cause ≡ switch_stuck_cause s near links leg targets → Err cause ≡ switch_set_out s near packet leg targets
unfolding switch_set_out
none_known s near packet leg targets links cause same none is = ap Err (rw same at is)
    ∙ sym (ap (λ found. ok_or (option_map (λ route. tunnel_begun packet.number packet.header
    packet.ingress leg targets route packet.down) found) (switch_stuck_cause s near packet.down leg targets))
    (rw same at none))

module _ {T E : Type 0} (r : Result T E) (at : TravellingStanding) (packet : ℕ) (old new : Log) where
  -- to an authority switch
  pub sought : (number : ℕ) (leg : Leg) (version : ℕ) (rule : Option ℕ)
      (way : Result TunnelValue Cause)
      → LogAfter r (log_set_item at leg way ∷ []) [] packet (log_set_flight version rule way) old new
      → LogAfter r (log_answer_items number at (switch_seek_by leg way)) (log_answer_posts at (switch_seek_by leg way))
      packet (log_answer_flight version rule (switch_seek_by leg way)) old new
  sought number leg version rule (Ok tunnel) log = log
  sought number leg version rule (Err cause) log = log

  -- to the switch of its port
  pub exits : (decision : Decision) (way : Result TunnelValue Cause)
      → LogAfter r (log_set_item at (log_exit_leg decision.action) way ∷ []) [] packet
      (log_set_flight decision.version decision.rule way) old new
      → LogAfter r (log_end_item at decision (switch_exit_by_tunnel way) ∷ []) [] packet
      (log_decided_flight decision (switch_exit_by_tunnel way)) old new
  exits decision (Ok tunnel) log = log
  exits decision (Err cause) log = log

-- ---- as the decision's action says

module _ {T E : Type 0} (r : Result T E) (at : TravellingStanding) (packet : ℕ) (old new : Log)
    (s : SwitchValue) (site : SwitchSite) (decision : Decision) where
  -- what was written of it goes this way
  abbrev pub Goes : Decision → Next → Type 0
  Goes decision way = LogAfter r (log_end_item at decision way ∷ []) [] packet
      (log_decided_flight decision way) old new

  abbrev pub way_by : Action → Next
  way_by action = switch_next_of s site (log_packet_standing at) action

  pub by_action : (action : Action) → decision.action ≡ action
      → Goes (record decision { action = action }) (way_by action)
      → Goes decision (way_by decision.action)
  by_action action is goes = rw is goes

  module _ (port : ℕ) where
    by_owner : (owner : Option ℕ) → owner_in_net_ports site.ports port ≡ owner
        → Goes (record decision { action = OutBy port })
        (switch_leave_by_port s site.near (log_packet_standing at) port owner)
        → Goes (record decision { action = OutBy port }) (way_by (OutBy port))
    unfolding switch_next_of
    by_owner owner is goes = rw is goes

    pub unowned : decision.action ≡ OutBy port → owner_in_net_ports site.ports port ≡ None
        → Goes (record decision { action = OutBy port }) (Stuck NoRoute)
        → Goes decision (way_by decision.action)
    unfolding switch_leave_by_port
    unowned acts is goes = by_action (OutBy port) acts (by_owner None is goes)

    abbrev way_of : ℕ → Bool → Next
    way_of owner here = if here then Out port
        else switch_exit_by_tunnel (switch_set_out s site.near (log_packet_standing at) (ExitLeg port) (owner ∷ []))

    pub owned : (owner : ℕ) (here : Bool) → decision.action ≡ OutBy port
        → owner_in_net_ports site.ports port ≡ Some owner → (owner == s.number) ≡ here
        → Goes (record decision { action = OutBy port }) (way_of owner here)
        → Goes decision (way_by decision.action)
    unfolding switch_leave_by_port
    owned owner here acts is at_home goes = by_action (OutBy port) acts
        (by_owner (Some owner) is (rw at_home goes))

-- ---- a cache rule

-- one to a switch below 64
pub rule_spelled : (s version : ℕ) (word : WordValue) (rule : Option ℕ) (act : Action) → s < 64
    → HasShortBagSpelling (record { to = receiver.Switch s; body = CacheRule version word rule act })
rule_spelled s version word rule act below = record {
  spelling = record { switch = below; suits = refl; fields = tt };
  short = alone_short _ refl;
}
