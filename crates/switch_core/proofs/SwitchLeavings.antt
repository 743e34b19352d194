-- Where a packet goes that was decided.
use Rattle.std.proofs.Common.{[], ◌==◌, ◌↔◌, ◌∙◌, ◌∷◌, ◌≡◌, ◌≢◌, Bool, Err, MatchOption, None, Ok, Option, Result, Some, ap, cond, eq-eqb, eqb-true, false, refl, true, ℕ, rules}
use Rattle.base.proofs.Exports.{MatchOption-weaker, nat_tests}
use Rattle.policy_rules.specs.declared.packet.Cause.{Cause}
use Rattle.policy_rules.specs.declared.packet.Cause.TheVariants.{NoRoute}
use Rattle.policy_rules.specs.declared.packet.Leg.TheVariants.{Exit as ExitLeg}
use Rattle.policy_rules.specs.declared.policy.Action.{Action}
use Rattle.policy_rules.specs.declared.policy.Action.TheVariants.{Drop, Out as OutBy}
use Rattle.net_file.specs.Exports.{owner_in_net_ports}
use Rattle.tunnel.specs.Exports.{TunnelValue}
use Rattle.switch_core.specs.Exports.{SwitchSite, SwitchValue, switch_stuck_cause, switch_exit_by_tunnel, switch_leave_by_port, switch_next_of, switch_route_known, switch_set_out, switch_setting_out}
use Rattle.switch_core.specs.declared.tunnel_calls.Next.{Next}
use Rattle.switch_core.specs.declared.tunnel_calls.Next.TheVariants.{Dropped, Exit, Out, Stuck}
use Rattle.switch_core.specs.declared.tunnel_calls.Packet.{Packet}
use Rattle.switch_core.proofs.SwitchLookupAnswers.{sets_out}

-- ---- by the port's owner

leaves_here : (s : SwitchValue) (near : ℕ) (packet : Packet) (port owner : ℕ) →
    owner ≡ s.number → switch_leave_by_port s near packet port (Some owner) ≡ Out port
unfolding switch_leave_by_port
leaves_here s near packet port owner is = search (rules, eq-eqb)

leaves_for : (s : SwitchValue) (near : ℕ) (packet : Packet) (port owner : ℕ) →
    owner ≢ s.number → switch_leave_by_port s near packet port (Some owner)
    ≡ switch_exit_by_tunnel (switch_set_out s near packet (ExitLeg port) (owner ∷ []))
unfolding switch_leave_by_port
leaves_for s near packet port owner other = search (rules, nat_tests)

-- an answer is one of these, where the port has an owner
exits : (s : SwitchValue) (near : ℕ) (packet : Packet) (port owner : ℕ) (P : Next → Type 0) →
    (owner ≡ s.number → P (Out port)) → ((tunnel : TunnelValue) → P (Exit tunnel)) →
    ((cause : Cause) → P (Stuck cause)) → P (switch_leave_by_port s near packet port (Some owner))
unfolding switch_leave_by_port
exits s near packet port owner P here on stuck = by_test (owner == s.number) refl
    (switch_set_out s near packet (ExitLeg port) (owner ∷ []))
  where
    by_test : (test : Bool) → (owner == s.number) ≡ test → (way : Result TunnelValue Cause) →
        P (cond test (Out port) (switch_exit_by_tunnel way))
    by_test true is way = here (eqb-true owner s.number is)
    by_test false is (Ok tunnel) = on tunnel
    by_test false is (Err cause) = stuck cause

-- ---- by the action

not_dropped : (s : SwitchValue) (near : ℕ) (packet : Packet) (port : ℕ) (owner : Option ℕ) →
    switch_leave_by_port s near packet port owner ≡ Dropped → ⊥
unfolding switch_leave_by_port
not_dropped s near packet port owner is = search rules

pub next_dropped : (s : SwitchValue) (site : SwitchSite) (packet : Packet) (action : Action) →
    (switch_next_of s site packet action ≡ Dropped) ↔ (action ≡ Drop)
unfolding switch_next_of
next_dropped s site packet action = search (rules, not_dropped)

out_by_owner : (s : SwitchValue) (near : ℕ) (packet : Packet) (by port : ℕ) (owner : Option ℕ)
    → switch_leave_by_port s near packet by owner ≡ Out port → (OutBy by ≡ OutBy port) × (owner ≡ Some s.number)
unfolding switch_leave_by_port
out_by_owner s near packet by port owner is = search rules

pub next_out : (s : SwitchValue) (site : SwitchSite) (packet : Packet) (action : Action) (port : ℕ)
    → (switch_next_of s site packet action ≡ Out port) ↔
    ((action ≡ OutBy port) × (owner_in_net_ports site.ports port ≡ Some s.number))
unfolding switch_next_of
next_out s site packet action port = search (rules, out_by_owner, leaves_here)

pub next_exit : (s : SwitchValue) (site : SwitchSite) (packet : Packet) (action : Action) (port owner : ℕ)
    → action ≡ OutBy port → owner_in_net_ports site.ports port ≡ Some owner
    → owner ≢ s.number → MatchOption (switch_route_known s site.near packet (owner ∷ []))
    (switch_next_of s site packet action ≡ Stuck NoRoute) (λ route. switch_next_of s site packet action
    ≡ Exit (switch_setting_out packet (ExitLeg port) (owner ∷ []) route))
unfolding switch_next_of switch_stuck_cause
next_exit s site packet action port owner by has other =
    let is = ap (switch_next_of s site packet) by ∙ ap (switch_leave_by_port s site.near packet port) has
    ∙ leaves_for s site.near packet port owner other in
    MatchOption-weaker (switch_route_known s site.near packet (owner ∷ []))
    (λ none. is ∙ ap switch_exit_by_tunnel none) (λ way some. is ∙ ap switch_exit_by_tunnel some)
    (sets_out s site.near packet (ExitLeg port) (owner ∷ []))

pub next_no_owner : (s : SwitchValue) (site : SwitchSite) (packet : Packet) (action : Action)
    (port : ℕ) → action ≡ OutBy port → owner_in_net_ports site.ports port ≡ None →
    switch_next_of s site packet action ≡ Stuck NoRoute
unfolding switch_next_of switch_leave_by_port
next_no_owner s site packet action port by none = cc (by, none)
