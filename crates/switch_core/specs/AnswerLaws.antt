-- What a switch returns for packets, as relations in terms of lookups, rules, routes and tunnels: a
-- law of `src` ensures that the relation of each call allows its result, and no other.
use Rattle.std.specs.Prelude.{[], if◌then◌else◌, ◌+◌, ◌==◌, ◌↔◌, ◌∷◌, ◌≡◌, ◌≢◌, ◌⊎◌, Bool, IsFalse, IsSome, IsTrue, List, MatchOption, None, Option, Some, false, map, slice_get, true, ℕ}
use Rattle.five_tuple.specs.Exports.{IsHeader, header_number_of}
use Rattle.five_tuple.specs.declared.header.Header.{Header}
use Rattle.policy_rules.specs.Exports.{AreSoundPolicyPartitions, HostedPolicyPartition, first_policy_rule, scan}
use Rattle.policy_rules.specs.declared.packet.Cause.TheVariants.{NoRoute}
use Rattle.policy_rules.specs.declared.packet.How.{How}
use Rattle.policy_rules.specs.declared.packet.How.TheVariants.{Authority as ByAuthority}
use Rattle.policy_rules.specs.declared.packet.Leg.{Leg}
use Rattle.policy_rules.specs.declared.packet.Leg.TheVariants.{Seek as SeekLeg, Exit as ExitLeg}
use Rattle.policy_rules.specs.declared.policy.Action.{Action}
use Rattle.policy_rules.specs.declared.policy.Action.TheVariants.{Drop, Out as OutBy}
use Rattle.policy_rules.specs.declared.policy.Row.{Row}
use Rattle.policy_rules.specs.declared.rules.Partition.{Partition}
use Rattle.policy_rules.specs.declared.rules.Rule.{Rule}
use Rattle.net_file.specs.Exports.{owner_in_net_ports}
use Rattle.failover.specs.Exports.{route_of, with_failover_link}
use Rattle.base.specs.Exports.{has}
use Rattle.tunnel.specs.Exports.{TunnelValue, here, next, tunnel_begun}
use Rattle.cache_maker.specs.Independent.{widen}
use Rattle.switch_table.specs.Exports.{first_cache_entry, switch_table_lookup_of, switch_table_part_of, tables_of}
use Rattle.switch_table.specs.declared.cache.CacheEntry.{CacheEntry}
use Rattle.switch_table.specs.declared.search.Found.{Found}
use Rattle.switch_table.specs.declared.search.Found.TheVariants.{Cached, Authority, Redirect}
use Rattle.switch_table.specs.declared.tables.Tables.{Tables}
use Rattle.ctrl_msg.specs.declared.message.Body.{Body}
use Rattle.ctrl_msg.specs.declared.message.Body.TheVariants.{CacheRule}
use Rattle.switch_core.specs.Answering.{MaySwitchEndLeg, switch_admitted, arrive_answer, enter_answer, switch_looked_up, switch_packet_of}
use Rattle.switch_core.specs.Deciding.{IsSwitchFirstHit, switch_decision_by_entry, switch_decision_by_rule, switch_own_partition}
use Rattle.switch_core.specs.Ends.{SwitchSite, switch_stuck_cause, switch_next_of}
use Rattle.switch_core.specs.Moving.{SwitchPacketMoved, SwitchStandsAtRoutePlace, switch_found_link_down, switch_hop_answer}
use Rattle.switch_core.specs.State.{IsSoundSwitch, SwitchValue, switch_held_tables, holds_version, serves, switch_stamp_tables}
use Rattle.switch_core.specs.Answers.{SwitchAnswer, Decided, Seek, Stuck, switch_arrived_with, switch_entered_with}
use Rattle.switch_core.specs.declared.tunnel_calls.Arrived.{Arrived}
use Rattle.switch_core.specs.declared.tunnel_calls.Arrived.TheVariants as arrival
use Rattle.switch_core.specs.declared.deciding.Decision.{Decision}
use Rattle.switch_core.specs.declared.tunnel_calls.Entered.{Entered}
use Rattle.switch_core.specs.declared.tunnel_calls.Entered.TheVariants as entry
use Rattle.switch_core.specs.declared.tunnel_calls.HopEnd.TheVariants as hop
use Rattle.switch_core.specs.declared.tunnel_calls.Next.{Next}
use Rattle.switch_core.specs.declared.tunnel_calls.Next.TheVariants as goes
use Rattle.switch_core.specs.declared.tunnel_calls.Packet.{Packet}

-- ---- terms

-- a switch that serves, with the tables of its stamp, and a header
pub record IsSwitchReady (s : SwitchValue) (header : Header) : Type 0 where
  pub switch : IsSoundSwitch s
  pub serving : IsTrue (serves s)
  pub stamped : IsTrue (holds_version s s.stamp)
  pub is_header : IsHeader header

-- the switch is ready, and is an authority for the packet's leg: it has the leg's version, the
-- leg's partition is one of its own, and that partition has the header
pub record IsSwitchReadyAsAuthority (s : SwitchValue) (t : TunnelValue) : Type 0 where
  pub ready : IsSwitchReady s t.header
  pub authority : MaySwitchEndLeg s t.header t.leg

-- what the cache and the tables of the stamp say about a header
abbrev pub switch_lookup_by_stamp : SwitchValue → Header → Found
switch_lookup_by_stamp s header = switch_table_lookup_of s.cache.entries (switch_stamp_tables s) header

-- a rule of one of the tables' own partitions: the first there to hold a header of its region
pub record SwitchFindsOwnRule (tables : Tables) (header : Header) : Type 0 where
  pub part : Partition
  pub place : ℕ
  pub rule : Rule
  pub own : switch_own_partition tables part.number ≡ Some part
  pub hit : IsSwitchFirstHit header part place
  pub at_place : slice_get part.rules place ≡ Some rule
  pub first : first_policy_rule part.rules header ≡ Some rule

-- the route to the first of these targets that the switch reaches, by the links that it knows,
-- except those that the packet found down
abbrev pub switch_route_known : SwitchValue → ℕ → Packet → List ℕ → Option (List ℕ)
switch_route_known s near packet targets = route_of s.database s.number targets near packet.down

-- the packet as its route begins, on its leg to these targets, with the links that it found down
abbrev pub switch_setting_out : Packet → Leg → List ℕ → List ℕ → TunnelValue
switch_setting_out packet leg targets route =
    tunnel_begun packet.number packet.header packet.ingress leg targets route packet.down

-- the first entry of the cache to hold the header, among those of the stamp's version, decides
pub record IsSwitchCacheDecision (s : SwitchValue) (header : Header) (decision : Decision) : Type 0 where
  pub entry : CacheEntry
  pub first : first_cache_entry s.stamp (header_number_of header) s.cache.entries ≡ Some entry
  pub decided : decision ≡ switch_decision_by_entry entry

-- one of the switch's own rules decides, by the tables of the decision's version
pub record IsSwitchOwnRuleDecision (s : SwitchValue) (header : Header) (decision : Decision) : Type 0 where
  pub tables : Tables
  pub held : switch_held_tables s decision.version ≡ Some tables
  pub own : SwitchFindsOwnRule tables header
  pub decided : decision ≡ switch_decision_by_rule s.number decision.version own.part.number own.rule

-- ---- the result of a lookup

-- the rule that is sent to a cache if one of these rules decides, by tables of a version: its word
-- is the widened one
abbrev pub switch_rule_to_cache : {tables : Tables} {header : Header} → ℕ → SwitchFindsOwnRule tables header → Body
switch_rule_to_cache {tables} {header} version own =
    CacheRule version (widen (header_number_of header) own.part.region own.part.rules own.place)
    own.rule.rule own.rule.action

-- one of these rules decides, by tables of a version, and is sent to the cache of the switch where
-- the packet entered, unless that is this one
abbrev pub decided_by_switch : (s : SwitchValue) → SwitchSite → (packet : Packet) → ℕ →
    {tables : Tables} → SwitchFindsOwnRule tables packet.header → SwitchAnswer
decided_by_switch s site packet version own =
    Decided (switch_decision_by_rule s.number version own.part.number own.rule)
    (if packet.ingress == s.number then None else Some (switch_rule_to_cache version own))
    (switch_next_of s site packet own.rule.action)

-- the partition of this number decides by its first rule to hold the header
pub record IsSwitchAnswerByPartition (s : SwitchValue) (site : SwitchSite) (packet : Packet)
    (version : ℕ) (tables : Tables) (partition : ℕ) (answer : SwitchAnswer) : Type 0 where
  pub own : SwitchFindsOwnRule tables packet.header
  pub numbered : own.part.number ≡ partition
  pub answered : answer ≡ decided_by_switch s site packet version own

-- a switch that is ready looks a packet up under its stamp
pub record IsRightSwitchAnswer (s : SwitchValue) (site : SwitchSite) (packet : Packet)
    (answer : SwitchAnswer) : Type 0 where
  -- a cached rule decides with its version, its rule and its action
  pub cached : (entry : CacheEntry) → switch_lookup_by_stamp s packet.header ≡ Cached entry →
      answer ≡ Decided (switch_decision_by_entry entry) None (switch_next_of s site packet entry.action)
  -- an authority rule decides with the stamp's version: its partition's first to hold the header
  pub authority : (partition place : ℕ) →
      switch_lookup_by_stamp s packet.header ≡ Authority partition place →
      (by : IsSwitchAnswerByPartition s site packet s.stamp (switch_stamp_tables s) partition answer)
      × (by.own.place ≡ place)
  -- a partition rule sends it to exactly its targets, and it is stuck on that leg exactly if no
  -- route leads to them
  pub redirect : (partition : ℕ) (targets : List ℕ) →
      switch_lookup_by_stamp s packet.header ≡ Redirect partition targets →
      (let leg = SeekLeg s.stamp partition in
      MatchOption (switch_route_known s site.near packet targets)
      (answer ≡ Stuck (switch_stuck_cause s site.near packet.down leg targets) leg)
      (λ route. answer ≡ Seek (switch_setting_out packet leg targets route)))

-- the result of a lookup is in the relation, and nothing else is
pub record SwitchLookupLaws : Type 0 where
  pub is : (s : SwitchValue) (site : SwitchSite) (packet : Packet) →
      IsSwitchReady s packet.header →
      IsRightSwitchAnswer s site packet (switch_looked_up s site packet)
  pub only : (s : SwitchValue) (site : SwitchSite) (packet : Packet)
      (answer : SwitchAnswer) → IsSwitchReady s packet.header → IsRightSwitchAnswer s site packet answer →
      answer ≡ switch_looked_up s site packet

-- ---- a packet enters

pub record IsSwitchEntry (s : SwitchValue) (site : SwitchSite) (packet : Packet)
    (enter_answer : Entered) : Type 0 where
  -- closed exactly if the switch doesn't serve
  pub closed : (enter_answer ≡ entry.Closed) ↔ IsFalse (serves s)
  -- otherwise it is looked up
  pub answered : IsSwitchReady s packet.header →
      (answer : SwitchAnswer) × (enter_answer ≡ switch_entered_with answer)
      × IsRightSwitchAnswer s site packet answer

-- the result of `enter` is in the relation, and nothing else is
pub record SwitchEnterLaws : Type 0 where
  pub is : (s : SwitchValue) (site : SwitchSite) (packet : Packet) →
      IsSwitchEntry s site packet (enter_answer s site packet)
  pub only : (s : SwitchValue) (site : SwitchSite) (packet : Packet)
      (answer : Entered) → (IsTrue (serves s) → IsSwitchReady s packet.header) →
      IsSwitchEntry s site packet answer → answer ≡ enter_answer s site packet

-- ---- a packet was decided

pub record IsSwitchNextStep (s : SwitchValue) (site : SwitchSite) (packet : Packet) (action : Action)
    (way : Next) : Type 0 where
  -- dropped exactly if the action is to drop it
  pub dropped : (way ≡ goes.Dropped) ↔ (action ≡ Drop)
  -- out here exactly if the action's port is one of this switch
  pub out : (port : ℕ) → (way ≡ goes.Out port)
      ↔ ((action ≡ OutBy port) × (owner_in_net_ports site.ports port ≡ Some s.number))
  -- to another switch's port only by the route to that switch; stuck exactly if there is none
  pub exit : (port owner : ℕ) → action ≡ OutBy port →
      owner_in_net_ports site.ports port ≡ Some owner → owner ≢ s.number →
      MatchOption (switch_route_known s site.near packet (owner ∷ [])) (way ≡ goes.Stuck NoRoute)
      (λ route. way ≡ goes.Exit (switch_setting_out packet (ExitLeg port) (owner ∷ []) route))
  -- no route leads to a port that no switch has
  pub no_owner : (port : ℕ) → action ≡ OutBy port → owner_in_net_ports site.ports port ≡ None →
      way ≡ goes.Stuck NoRoute

-- where a decided packet moves is in the relation, and nothing else is
pub record SwitchExitLaws : Type 0 where
  pub is : (s : SwitchValue) (site : SwitchSite) (packet : Packet) (action : Action) →
      IsSwitchNextStep s site packet action (switch_next_of s site packet action)
  pub only : (s : SwitchValue) (site : SwitchSite) (packet : Packet) (action : Action)
      (way : Next) → IsSwitchNextStep s site packet action way → way ≡ switch_next_of s site packet action

-- ---- a packet arrives

pub record IsSwitchArrival (s : SwitchValue) (site : SwitchSite) (t : TunnelValue)
    (arrive_answer : Arrived) : Type 0 where
  -- at the end of its way to a port it leaves by that port
  pub out : (port : ℕ) → t.leg ≡ ExitLeg port → arrive_answer ≡ arrival.Out port
  -- on a leg of a version that the switch has it is decided by that version: by the first rule of
  -- the leg's partition to hold the header
  pub decided : (version partition : ℕ) (tables : Tables) →
      IsSwitchReadyAsAuthority s t → t.leg ≡ SeekLeg version partition → switch_held_tables s version ≡ Some tables →
      (answer : SwitchAnswer) × (arrive_answer ≡ switch_arrived_with answer)
      × IsSwitchAnswerByPartition s site (switch_packet_of t) version tables partition answer
  -- if the switch doesn't have the leg's version, it is looked up again under the stamp, as if it
  -- entered here with the links that it found down
  pub anew : (version partition : ℕ) →
      IsSwitchReadyAsAuthority s t → t.leg ≡ SeekLeg version partition → IsFalse (holds_version s version) →
      (answer : SwitchAnswer) × (arrive_answer ≡ switch_arrived_with answer)
      × IsRightSwitchAnswer s site (switch_packet_of t) answer

-- the result of `arrive` is in the relation, and nothing else is
pub record SwitchArriveLaws : Type 0 where
  pub is : (s : SwitchValue) (site : SwitchSite) (t : TunnelValue) →
      IsSwitchArrival s site t (arrive_answer s site t)
  pub only : (s : SwitchValue) (site : SwitchSite) (t : TunnelValue)
      (answer : Arrived) → IsSwitchReadyAsAuthority s t → IsSwitchArrival s site t answer →
      answer ≡ arrive_answer s site t

-- ---- where decisions come from

abbrev pub is_switch_decision_by_authority : How → Bool
is_switch_decision_by_authority (ByAuthority switch partition) = true
is_switch_decision_by_authority _ = false

-- by a cached rule of the stamp's version, or by one of the switch's own rules by the tables of
-- the decision's version; and the packet moves on as the decision's action says
pub record IsSwitchDecision (s : SwitchValue) (site : SwitchSite) (packet : Packet)
    (decision : Decision) (cache : Option Body) (way : Next) : Type 0 where
  pub source : IsSwitchCacheDecision s packet.header decision ⊎ IsSwitchOwnRuleDecision s packet.header decision
  pub onward : way ≡ switch_next_of s site packet decision.action
  -- a rule is sent to a cache exactly if an authority rule decided, and the packet entered
  -- elsewhere ..
  pub sent : IsSome cache ↔ (IsTrue (is_switch_decision_by_authority decision.how) × (packet.ingress ≢ s.number))
  -- .. and it is the rule that decided
  pub carried : (body : Body) → cache ≡ Some body →
      (by : IsSwitchOwnRuleDecision s packet.header decision)
      × (body ≡ switch_rule_to_cache decision.version by.own)

pub record SwitchDecisionLaws : Type 0 where
  -- this is true of every decision of a packet that enters or arrives
  pub on_entry : (s : SwitchValue) (site : SwitchSite) (packet : Packet)
      (decision : Decision) (way : Next) → IsSwitchReady s packet.header →
      enter_answer s site packet ≡ entry.Decided decision way →
      (cache : Option Body) × (switch_admitted s site packet ≡ Some (Decided decision cache way))
      × IsSwitchDecision s site packet decision cache way
  pub on_arrival : (s : SwitchValue) (site : SwitchSite) (t : TunnelValue)
      (decision : Decision) (cache : Option Body) (way : Next) → IsSwitchReadyAsAuthority s t →
      arrive_answer s site t ≡ arrival.Decided decision cache way →
      IsSwitchDecision s site (switch_packet_of t) decision cache way
  -- by the tables of a plan, the switch's own rules decide as the plan's policy does
  pub as_policy : (s : SwitchValue) (header : Header) (decision : Decision) (rows : List Row)
      (plan : List HostedPolicyPartition) → AreSoundPolicyPartitions rows (map switch_table_part_of plan) → IsHeader header →
      switch_held_tables s decision.version ≡ Some (tables_of plan decision.version s.number) →
      IsSwitchOwnRuleDecision s header decision →
      scan rows header ≡ record { rule = decision.rule; action = decision.action }

-- ---- a packet on its way

-- on its leg a packet may take another route, be elsewhere on it, and find links down
abbrev pub IsSwitchPacketSame : TunnelValue → TunnelValue → Type 0
IsSwitchPacketSame before after =
    after ≡ record before { route = after.route; place = after.place; down = after.down }

-- the links that a packet found down, with the one to this other switch
abbrev pub switch_found_down_with : TunnelValue → ℕ → List ℕ
switch_found_down_with t other = with_failover_link t.down (here t) other

-- its new route around these links
abbrev pub switch_route_around : SwitchValue → ℕ → TunnelValue → ℕ → Option (List ℕ)
switch_route_around s near t other = route_of s.database (here t) t.targets near (switch_found_down_with t other)

pub record IsSwitchHop (s : SwitchValue) (near : ℕ) (t : TunnelValue) (after : SwitchPacketMoved) : Type 0 where
  -- a link is found down exactly if it leads to the next switch of the route and isn't usable
  pub found : (other : ℕ) → (switch_found_link_down near (next t) ≡ Some other)
      ↔ ((next t ≡ Some other) × IsFalse (has near other))
  -- at the end of its route the packet arrives
  pub arrives : next t ≡ None → after ≡ record { end = hop.Arrive; tunnel = t }
  -- over a usable link it moves one place on
  pub moves : (other : ℕ) → next t ≡ Some other → IsTrue (has near other) →
      after ≡ record { end = hop.Move other; tunnel = record t { place = t.place + 1 } }
  -- a link that is found down joins the others; the packet is stuck if no route leads around them
  pub stuck : (other : ℕ) → switch_found_link_down near (next t) ≡ Some other →
      switch_route_around s near t other ≡ None →
      after ≡ record {
        end = hop.Stuck (switch_stuck_cause s near (switch_found_down_with t other) t.leg t.targets);
        tunnel = record t { down = switch_found_down_with t other };
      }
  -- otherwise it takes that route: it has arrived if the route ends here, and otherwise moves to
  -- its second switch
  pub turns : (other : ℕ) (way : List ℕ) → switch_found_link_down near (next t) ≡ Some other →
      switch_route_around s near t other ≡ Some way →
      MatchOption (slice_get way 1)
      (after ≡ record {
        end = hop.Arrive;
        tunnel = record t { route = way; place = 0; down = switch_found_down_with t other };
      })
      (λ second. after ≡ record {
        end = hop.Move second;
        tunnel = record t { route = way; place = 1; down = switch_found_down_with t other };
      })
  -- so a packet that moved is at that switch, to which a usable link leads, and one that arrived
  -- is still at this switch, at the end of its route
  pub stands : (other : ℕ) → after.end ≡ hop.Move other → here after.tunnel ≡ other
  pub usable : (other : ℕ) → after.end ≡ hop.Move other → IsTrue (has near other)
  pub stays : SwitchStandsAtRoutePlace s t.route t.place → after.end ≡ hop.Arrive →
      SwitchStandsAtRoutePlace s after.tunnel.route after.tunnel.place
  pub ends : after.end ≡ hop.Arrive → next after.tunnel ≡ None
  pub same_packet : IsSwitchPacketSame t after.tunnel

-- the result of `hop` is in the relation, and nothing else is
pub record SwitchHopLaws : Type 0 where
  pub is : (s : SwitchValue) (near : ℕ) (t : TunnelValue) → IsSwitchHop s near t (switch_hop_answer s near t)
  pub only : (s : SwitchValue) (near : ℕ) (t : TunnelValue) (after : SwitchPacketMoved) →
      IsSwitchHop s near t after → after ≡ switch_hop_answer s near t
