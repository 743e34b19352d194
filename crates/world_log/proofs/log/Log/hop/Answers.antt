-- A packet goes on as it is kept.
use Rattle.std.proofs.Common.{◌+◌, ◌<◌, ◌∙◌, ◌≡◌, IsErr, IsSomeAnd, None, Option, Result, Some, ap, get_or, length, option_copied, refl, set, slice_get, slice_index, subst, sym, ℕ}
use Rattle.base.proofs.Exports.{on_ok_failed, slice_get-get_or, slice_get_within}
use Rattle.switch_core.specs.Exports.{MaySwitchEndLeg, SwitchPacketMoved, SwitchStandsAtRoutePlace, SwitchValue, switch_site_around, switch_call_counted, switch_hop_onward}
use Rattle.switch_core.specs.declared.packet.Onward.{Onward}
use Rattle.switch_core.proofs.SwitchOnwardHops.{ends, goes, is_down}
use Rattle.travelling.specs.Travelling.{TravellingFlight, TravellingFlightHasPlace, TravellingStanding, traveller_standing_at, traveller_standing_kept, flight}
use Rattle.tunnel.specs.Exports.{here, next}
use Rattle.world_log.specs.Exports.{LogHasHopped, Hops, MayLoggedPacketGoOn, LogMeetsDownLink}
use Rattle.world_log.specs.declared.log.Log.{Log}
use Rattle.world_log.proofs.LogPacketMoves.{authority_counted}
use Rattle.world_log.proofs.LogHops.{arrival_log, free_hop, move_hop, passed_by, passed_hop, placed}
use Rattle.world_log.proofs.LogCalls.{log_unwritten}
use Rattle.world_log.proofs.log.Log.hop.Goals as goal
use Rattle.world_log.proofs.log.Log.hop.Goals.{After-place-place, In_ok-at-in-LinkDown}

-- ---- a packet that doesn't travel

pub returns-in-None : goal.returns-in-None
returns-in-None c =
    subst (Hops c.push.result c.args.packet c.args.near.now c.args.ports.now c.args.self.now
    c.args.switches.now (record c.args.self.now { journal = c.push.new.self }) c.args.switches.now)
    (sym (ap option_copied c.in-None.is) ∙ c.look.ensures) (record {
      written = c.push.ensures.pushed;
      unwritten = c.push.ensures.unchanged;
      rest = refl;
      switches = refl;
    })

-- ---- the packet, its switch, and the usable links of that

module _ (c : After-place-place) where
  abbrev kept : TravellingFlight
  kept = c.in-Some.kept.now

  abbrev asked : SwitchValue
  asked = get_or c.args.switches.now c.here-here.result c.index-switches-here.result

  abbrev links : ℕ
  links = slice_index c.args.near.now c.here-here.result

  its : ◌≡◌ {A = Option TravellingFlight} (Some kept) (flight c.args.self.now.travelling c.args.packet)
  its = sym (ap option_copied c.in-Some.is) ∙ c.look.ensures

  own : slice_get c.args.switches.now (here kept.tunnel) ≡ Some asked
  own = subst (λ n. slice_get c.args.switches.now n ≡ Some asked) c.here-here.ensures.here
      (slice_get-get_or c.args.switches.now c.here-here.result c.index-switches-here.result
      (subst (λ n. n < length c.args.switches.now) (sym c.here-here.ensures.here)
      (c.requires.there kept (sym its))))

  may : MayLoggedPacketGoOn c.args.packet asked links kept
  may = subst (λ n. MayLoggedPacketGoOn c.args.packet asked (slice_index c.args.near.now n) kept)
      (sym c.here-here.ensures.here) (c.requires.may kept asked (sym its) own)

  stands : SwitchStandsAtRoutePlace asked c.route-route.result.now c.place-place.result
  stands = placed (SwitchStandsAtRoutePlace asked) c.route-route.result.now c.place-place.result kept.tunnel
      c.route-route.ensures c.place-place.ensures.place may.here

  passed : (answer : Onward)
      → answer ≡ switch_hop_onward links (slice_get c.route-route.result.now (c.place-place.result + 1))
      → answer ≡ switch_hop_onward links (next kept.tunnel)
  passed answer = passed_by links answer c.route-route.result.now c.place-place.result kept.tunnel
      c.route-route.ensures c.place-place.ensures.place

  -- what the packet does there is what the hop does
  hops : {T E : Type 0} (r : Result T E) (after : SwitchValue) (new : Log)
      → LogHasHopped r c.args.packet asked links c.args.ports.now c.args.self.now after new kept
      → Hops r c.args.packet c.args.near.now c.args.ports.now c.args.self.now c.args.switches.now
      new (set c.args.switches.now c.here-here.result after)
      (flight c.args.self.now.travelling c.args.packet)
  hops r after new hopped =
      subst (Hops r c.args.packet c.args.near.now c.args.ports.now c.args.self.now
      c.args.switches.now new (set c.args.switches.now c.here-here.result after)) its (record {
        switch = asked;
        asked = after;
        own = own;
        only = ap (λ n. set c.args.switches.now n after) c.here-here.ensures.here;
        hopped = subst (λ n. LogHasHopped r c.args.packet asked (slice_index c.args.near.now n)
            c.args.ports.now c.args.self.now after new kept) c.here-here.ensures.here hopped;
      })

  fails : {T E : Type 0} (r : Result T E) (after : SwitchValue) → IsErr r
      → Hops r c.args.packet c.args.near.now c.args.ports.now c.args.self.now c.args.switches.now
      c.args.self.now (set c.args.switches.now c.here-here.result after)
      (flight c.args.self.now.travelling c.args.packet)
  fails r after failed = hops r after c.args.self.now (record {
    log = log_unwritten failed refl;
    counted = on_ok_failed _ r failed;
  })

pub pass-requires : goal.pass-requires
pass-requires c = let before = (goal.at.pass-requires c).After-place-place in
    record { serving = (may before).serving; here = stands before }

-- ---- it moves on

pub move_on-requires : goal.move_on-requires
move_on-requires c =
    let before = (goal.at.move_on-requires c).After-place-place in
    let k = kept before in
    let on = goes (links before) (next k.tunnel) c.in-Next.next
    (sym (passed before c.pass.result c.pass.ensures.onward) ∙ c.in-Next.is) in
    subst (λ o. IsSomeAnd o (TravellingFlightHasPlace (c.place-place.result + 1))) (its before)
    (subst (λ place. place + 1 < length k.tunnel.route) (sym c.place-place.ensures.place)
    (slice_get_within k.tunnel.route (k.tunnel.place + 1) c.in-Next.next on.0))

pub returns-in-Next : goal.returns-in-Next
returns-in-Next c =
    let before = (goal.at.returns-in-Next c).After-place-place in
    let k = kept before in
    let near = links before in
    let on = goes near (next k.tunnel) c.in-Next.next
    (sym (passed before c.pass.result c.pass.ensures.onward) ∙ c.in-Next.is) in
    hops before c.move_on.result c.pass.new.self c.move_on.new.self
    (move_hop c.move_on.result (asked before) near c.args.ports.now k c.args.packet
    (c.place-place.result + 1) c.in-Next.next (flight c.args.self.now.travelling c.args.packet)
    c.args.self.now c.move_on.new.self c.pass.new.self (its before) (may before).known
    (ap (λ place. place + 1) c.place-place.ensures.place) on.1 on.0 c.move_on.ensures
    c.pass.ensures.after)

-- ---- it is at the end of its route

pub receive-forwarding-requires : goal.receive-forwarding-requires
receive-forwarding-requires c =
    let before = (goal.at.receive-forwarding-requires c).After-place-place in
    let k = kept before in
    let s = asked before in
    let at = c.in_ok-at-in-AtEnd.at in
    let passed = passed before c.pass.result c.pass.ensures.onward in
    let on = ends (links before) (next k.tunnel) (sym passed ∙ c.in-AtEnd.is) in
    rw c.pass.ensures.after (record {
      serving = (may before).serving;
      stamped = (may before).stamped;
      here = stands before;
      last = (ends (links before) _ (sym c.pass.ensures.onward ∙ c.in-AtEnd.is)).0;
      authority = subst (λ h. MaySwitchEndLeg (switch_call_counted s) h c.leg-leg.result)
          (sym (ap (λ (a : TravellingStanding). a.header) c.in_ok-at-in-AtEnd.ensures.at))
          (subst (MaySwitchEndLeg (switch_call_counted s) k.tunnel.header) (sym c.leg-leg.ensures)
          (authority_counted s k.tunnel.header k.tunnel.leg ((may before).authority (ap
          (λ (m : SwitchPacketMoved). m.end) (free_hop s (links before) c.args.ports.now k None on.1 on.0)))));
    })

pub settle-requires-clause-ingress : goal.settle-requires-clause-ingress
settle-requires-clause-ingress c =
    subst (λ n. n < 64) (sym (ap (λ (a : TravellingStanding). a.ingress) c.in_ok-at-in-AtEnd.ensures.at))
    (may (goal.at.settle-requires-clause-ingress c).After-place-place).ingress

pub returns-in_err-at-in-AtEnd : goal.returns-in_err-at-in-AtEnd
returns-in_err-at-in-AtEnd c =
    fails (goal.at.returns-in_err-at-in-AtEnd c).After-place-place _ _ c.from_residual.ensures.0

pub returns-in_ok-at-in-AtEnd : goal.returns-in_ok-at-in-AtEnd
returns-in_ok-at-in-AtEnd c =
    let before = (goal.at.returns-in_ok-at-in-AtEnd c).After-place-place in
    let k = kept before in
    let s = asked before in
    let near = links before in
    let ports = c.args.ports.now in
    let self = c.args.self.now in
    let passed = passed before c.pass.result c.pass.ensures.onward in
    let on = ends near (next k.tunnel) (sym passed ∙ c.in-AtEnd.is) in
    let at = c.in_ok-at-in-AtEnd.at in
    let says = c.in_ok-at-in-AtEnd.ensures in
    let here = c.number.ensures.number ∙ ap (λ (w : SwitchValue). w.number) c.pass.ensures.after in
    hops before c.settle.result c.settle.new.switch c.settle.new.self (passed_hop s near ports k
    c.settle.result c.args.packet None self c.settle.new.self c.settle.new.switch on.1 on.0
    (arrival_log c.settle.result (length self.bag + 1) (switch_call_counted s) near ports k
    (traveller_standing_kept at) at.version at.rule c.leg-leg.result c.args.packet _ self c.settle.new.self
    (says.at ∙ ap (λ n. traveller_standing_at n k) here) says.version says.rule c.leg-leg.ensures
    (ap (λ (a : TravellingStanding). a.packet) says.at ∙ (may before).known) (rw c.pass.ensures.after at
    (c.receive-forwarding.ensures.answer (switch_site_around near ports) at.packet (traveller_standing_kept at).down))
    c.settle.ensures.log) (c.settle.ensures.same ∙ c.receive-forwarding.ensures.after
    ∙ ap switch_call_counted c.pass.ensures.after))

-- ---- the link to the next switch is down

met : (before : After-place-place) (c : In_ok-at-in-LinkDown)
    → MayLoggedPacketGoOn c.args.packet (asked before) (links before) c.in-Some.kept.now
    → c.pass.result ≡ switch_hop_onward (links before) (next c.in-Some.kept.now.tunnel)
    → c.pass.new.self ≡ switch_call_counted (asked before)
    → LogMeetsDownLink (traveller_standing_kept c.in_ok-at-in-LinkDown.at) c.in_ok-at-in-LinkDown.at.version
    c.in_ok-at-in-LinkDown.at.rule c.leg-leg-in-LinkDown.result c.targets-targets.result.now
    c.in-LinkDown.other (asked before) c.pass.new.self (links before) c.in-Some.kept.now
met before c may passed after =
    let k = c.in-Some.kept.now in
    let says = c.in_ok-at-in-LinkDown.ensures in record {
      stands = says.at ∙ ap (λ n. traveller_standing_at n k) (c.number-in-LinkDown.ensures.number
          ∙ ap (λ (w : SwitchValue). w.number) after);
      version = says.version;
      rule = says.rule;
      leg = c.leg-leg-in-LinkDown.ensures;
      targets = c.targets-targets.ensures;
      here = may.here;
      found = (is_down (links before) (next k.tunnel) c.in-LinkDown.other
          (sym passed ∙ c.in-LinkDown.is)).1;
      asked = after;
      authority = may.authority;
      ingress = may.ingress;
    }

pub go_around-requires : goal.go_around-requires
go_around-requires c =
    let at = goal.at.go_around-requires c in
    let before = at.After-place-place in
    let number = ap (λ (a : TravellingStanding). a.switch) c.in_ok-at-in-LinkDown.ensures.at
    ∙ c.number-in-LinkDown.ensures.number in
    let other = c.pass.ensures.other c.in-LinkDown.other c.in-LinkDown.is in record {
      serving = rw c.pass.ensures.after (may before).serving;
      stamped = rw c.pass.ensures.after (may before).stamped;
      met = (
        asked before,
        (
          kept before,
          met before at.In_ok-at-in-LinkDown (may before)
              (passed before c.pass.result c.pass.ensures.onward) c.pass.ensures.after,
        ),
      );
      here = subst (λ n. n < 64) (sym number) c.number-in-LinkDown.ensures.switch.number;
      different = rw (number ∙ ap (λ (w : SwitchValue). w.number) c.pass.ensures.after) other.0;
      other = other.1;
      few = c.requires.few;
    }

pub returns-in_err-at-in-LinkDown : goal.returns-in_err-at-in-LinkDown
returns-in_err-at-in-LinkDown c = fails (goal.at.returns-in_err-at-in-LinkDown c).After-place-place
    _ _ c.from_residual-in_err-at-in-LinkDown.ensures.0

pub returns-in_ok-at-in-LinkDown : goal.returns-in_ok-at-in-LinkDown
returns-in_ok-at-in-LinkDown c =
    let at = goal.at.returns-in_ok-at-in-LinkDown c in
    let before = at.After-place-place in
    let is = met before at.In_ok-at-in-LinkDown (may before)
    (passed before c.pass.result c.pass.ensures.onward) c.pass.ensures.after in
    hops before c.go_around.result c.go_around.new.switch c.go_around.new.self
    (rw (ap (λ (a : TravellingStanding). a.packet) is.stands ∙ (may before).known) at
    (c.go_around.ensures (asked before) (kept before) is))
