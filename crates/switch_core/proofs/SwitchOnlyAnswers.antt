-- The relations of the laws allow one answer.
use Rattle.std.proofs.Common.{[], ◌==◌, ◌∙◌, ◌∷◌, ◌≡◌, ◌≢◌, Bool, IsTrue, List, None, Option, Some, ap, eq-eqb, eqb-true, false, is_some, refl, slice_get, sym, true, ℕ, rules}
use Rattle.five_tuple.specs.declared.header.Header.{Header}
use Rattle.policy_rules.specs.declared.packet.Cause.TheVariants.{NoRoute}
use Rattle.policy_rules.specs.declared.packet.Leg.{Leg}
use Rattle.policy_rules.specs.declared.packet.Leg.TheVariants.{Seek as SeekLeg, Exit as ExitLeg}
use Rattle.policy_rules.specs.declared.policy.Action.{Action}
use Rattle.policy_rules.specs.declared.policy.Action.TheVariants.{Drop, Out as OutBy}
use Rattle.net_file.specs.Exports.{owner_in_net_ports}
use Rattle.base.specs.Exports.{has}
use Rattle.base.proofs.Exports.{MatchOption-same}
use Rattle.tunnel.specs.Exports.{TunnelValue, next}
use Rattle.switch_table.specs.declared.search.Found.{Found}
use Rattle.switch_table.specs.declared.search.Found.TheVariants.{Cached, Authority, Redirect}
use Rattle.switch_table.specs.declared.tables.Tables.{Tables}
use Rattle.switch_core.specs.Exports.{SwitchAnswer, IsSwitchArrival, IsSwitchReadyAsAuthority, IsSwitchAnswerByPartition, IsSwitchEntry, IsSwitchHop, IsSwitchNextStep, IsSwitchReady, IsRightSwitchAnswer, SwitchPacketMoved, SwitchFindsOwnRule, Seek, SwitchSite, Stuck, SwitchValue, arrive_answer, switch_arrived_with, switch_stuck_cause, switch_found_down_with, enter_answer, switch_held_tables, switch_hop_answer, switch_found_link_down, switch_looked_up, switch_lookup_by_stamp, switch_next_of, switch_packet_of, switch_route_around, switch_route_known, serves, switch_setting_out, switch_stamp_tables}
use Rattle.switch_core.specs.declared.tunnel_calls.Arrived.{Arrived}
use Rattle.switch_core.specs.declared.tunnel_calls.Entered.{Entered}
use Rattle.switch_core.specs.declared.tunnel_calls.HopEnd.TheVariants as hop
use Rattle.switch_core.specs.declared.tunnel_calls.Next.{Next}
use Rattle.switch_core.specs.declared.tunnel_calls.Next.TheVariants as goes
use Rattle.switch_core.specs.declared.tunnel_calls.Packet.{Packet}
use Rattle.switch_core.proofs.SwitchLookupAnswers.{lookup_is}
use Rattle.switch_core.proofs.SwitchArrivals.{arrive_anew, arrive_held, arrive_out, entry_is}
use Rattle.switch_core.proofs.SwitchLeavings.{next_dropped, next_exit, next_no_owner, next_out}
use Rattle.switch_core.proofs.SwitchHops.{down_is, hop_arrives, hop_moves, hop_stuck, hop_turns}

-- ---- alternatives

-- one first hit in one partition of a number
same_part : (tables : Tables) (header : Header) (own other : SwitchFindsOwnRule tables header) →
    own.part.number ≡ other.part.number → own.part ≡ other.part
same_part tables header own other number = search rules

-- ---- the answer of a lookup

same_decided : (s : SwitchValue) (site : SwitchSite) (packet : Packet) (version partition : ℕ)
    (tables : Tables) (answer other : SwitchAnswer) →
    IsSwitchAnswerByPartition s site packet version tables partition answer →
    IsSwitchAnswerByPartition s site packet version tables partition other → answer ≡ other
same_decided s site packet version partition tables answer other one two = search (rules, same_part)

same_answer : (s : SwitchValue) (site : SwitchSite) (packet : Packet) (answer other : SwitchAnswer) →
    IsRightSwitchAnswer s site packet answer → IsRightSwitchAnswer s site packet other → answer ≡ other
same_answer s site packet answer other one two = by_found (switch_lookup_by_stamp s packet.header) refl
  where
    by_found : (found : Found) → switch_lookup_by_stamp s packet.header ≡ found → answer ≡ other
    by_found (Cached cached) is = one.cached cached is ∙ sym (two.cached cached is)
    by_found (Authority partition place) is =
        same_decided s site packet s.stamp partition (switch_stamp_tables s) answer other
        (one.authority partition place is).0 (two.authority partition place is).0
    by_found (Redirect partition targets) is = let leg = SeekLeg s.stamp partition in
        MatchOption-same (switch_route_known s site.near packet targets) answer other
        (Stuck (switch_stuck_cause s site.near packet.down leg targets) leg)
        (λ (route : List ℕ). Seek (switch_setting_out packet leg targets route))
        (one.redirect partition targets is) (two.redirect partition targets is)

pub one_answer : (s : SwitchValue) (site : SwitchSite) (packet : Packet) (answer : SwitchAnswer) →
    IsSwitchReady s packet.header → IsRightSwitchAnswer s site packet answer → answer ≡ switch_looked_up s site packet
one_answer s site packet answer ready law = search (rules, same_answer, lookup_is)

-- ---- of a packet that enters

pub one_entry : (s : SwitchValue) (site : SwitchSite) (packet : Packet) (answer : Entered) →
    (IsTrue (serves s) → IsSwitchReady s packet.header) → IsSwitchEntry s site packet answer →
    answer ≡ enter_answer s site packet
one_entry s site packet answer ready law = search (rules, entry_is, same_answer)

-- ---- of a packet that arrives

pub one_arrival : (s : SwitchValue) (site : SwitchSite) (t : TunnelValue) (answer : Arrived) →
    IsSwitchReadyAsAuthority s t → IsSwitchArrival s site t answer → answer ≡ arrive_answer s site t
one_arrival s site t answer arriving law = by_leg t.leg refl where
  by_tables : (version partition : ℕ) → t.leg ≡ SeekLeg version partition →
      (held : Option Tables) → switch_held_tables s version ≡ held → answer ≡ arrive_answer s site t
  by_tables version partition leg (Some tables) held =
      let one = law.decided version partition tables arriving leg held in
      let two = arrive_held s site t version partition tables arriving leg held in
      one.1 ∙ ap switch_arrived_with (same_decided s site (switch_packet_of t) version partition tables
      one.0 two.0 one.2 two.2) ∙ sym two.1
  by_tables version partition leg None held =
      let gone = ap (λ (o : Option Tables). is_some o) held in
      let one = law.anew version partition arriving leg gone in
      let two = arrive_anew s site t version partition arriving leg gone in
      one.1 ∙ ap switch_arrived_with (same_answer s site (switch_packet_of t) one.0 two.0 one.2 two.2)
      ∙ sym two.1

  by_leg : (leg : Leg) → t.leg ≡ leg → answer ≡ arrive_answer s site t
  by_leg (ExitLeg port) leg = law.out port leg ∙ sym (arrive_out s site t port leg)
  by_leg (SeekLeg version partition) leg =
      by_tables version partition leg (switch_held_tables s version) refl

-- ---- of a packet that was decided

pub one_way_on : (s : SwitchValue) (site : SwitchSite) (packet : Packet) (action : Action)
    (way : Next) → IsSwitchNextStep s site packet action way → way ≡ switch_next_of s site packet action
one_way_on s site packet action way law = by_action action refl where
  by_owner : (port : ℕ) → action ≡ OutBy port → (owner : Option ℕ) →
      owner_in_net_ports site.ports port ≡ owner → way ≡ switch_next_of s site packet action
  by_owner port by None none =
      law.no_owner port by none ∙ sym (next_no_owner s site packet action port by none)
  by_owner port by (Some owner) has = by_test (owner == s.number) refl where
    by_test : (test : Bool) → (owner == s.number) ≡ test → way ≡ switch_next_of s site packet action
    by_test true is = let here = has ∙ ap Some (eqb-true owner s.number is) in
        (law.out port).1 (by, here)
        ∙ sym ((next_out s site packet action port).1 (by, here))
    by_test false is =
        let other : owner ≢ s.number = λ same. (let test = eq-eqb owner s.number same in
        cc) in
        MatchOption-same (switch_route_known s site.near packet (owner ∷ [])) way
        (switch_next_of s site packet action) (goes.Stuck NoRoute)
        (λ (route : List ℕ). goes.Exit (switch_setting_out packet (ExitLeg port) (owner ∷ []) route))
        (law.exit port owner by has other)
        (next_exit s site packet action port owner by has other)

  by_action : (a : Action) → action ≡ a → way ≡ switch_next_of s site packet action
  by_action Drop by = law.dropped.1 by ∙ sym ((next_dropped s site packet action).1 by)
  by_action (OutBy port) by = by_owner port by (owner_in_net_ports site.ports port) refl

-- ---- of a packet on its way

pub one_hop : (s : SwitchValue) (near : ℕ) (t : TunnelValue) (after : SwitchPacketMoved) →
    IsSwitchHop s near t after → after ≡ switch_hop_answer s near t
one_hop s near t after law = by_next (next t) refl where
  by_way : (other : ℕ) → switch_found_link_down near (next t) ≡ Some other → (way : Option (List ℕ)) →
      switch_route_around s near t other ≡ way → after ≡ switch_hop_answer s near t
  by_way other found None is = law.stuck other found is ∙ sym (hop_stuck s near t other found is)
  by_way other found (Some way) is = MatchOption-same (slice_get way 1) after
      (switch_hop_answer s near t) (record {
        end = hop.Arrive;
        tunnel = record t { route = way; place = 0; down = switch_found_down_with t other };
      })
      (λ (second : ℕ). record {
        end = hop.Move second;
        tunnel = record t { route = way; place = 1; down = switch_found_down_with t other };
      })
      (law.turns other way found is) (hop_turns s near t other way found is)

  by_test : (other : ℕ) → next t ≡ Some other → (test : Bool) → has near other ≡ test →
      after ≡ switch_hop_answer s near t
  by_test other onward true usable =
      law.moves other onward usable ∙ sym (hop_moves s near t other onward usable)
  by_test other onward false down =
      by_way other ((down_is near t other).1 (onward, down)) (switch_route_around s near t other) refl

  by_next : (after_it : Option ℕ) → next t ≡ after_it → after ≡ switch_hop_answer s near t
  by_next None none = law.arrives none ∙ sym (hop_arrives s near t none)
  by_next (Some other) onward = by_test other onward (has near other) refl
