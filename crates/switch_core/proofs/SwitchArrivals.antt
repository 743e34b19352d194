-- What a switch answers as a packet enters and as it arrives.
use Rattle.std.proofs.Common.{◌↔◌, ◌≡◌, Bool, IfSome, IsFalse, IsSomeAnd, IsTrue, None, Option, Some, ap, cond, false, is_some, refl, subst, true, unwrap_or, ℕ, rules}
use Rattle.base.proofs.Exports.{option_map_or}
use Rattle.policy_rules.specs.Exports.{is_in_policy_partition}
use Rattle.policy_rules.specs.declared.packet.Leg.{Leg}
use Rattle.policy_rules.specs.declared.packet.Leg.TheVariants.{Seek, Exit}
use Rattle.policy_rules.specs.declared.rules.Partition.{Partition}
use Rattle.tunnel.specs.Exports.{TunnelValue}
use Rattle.switch_table.specs.declared.tables.Tables.{Tables}
use Rattle.switch_core.specs.Exports.{SwitchAnswer, Answered, IsSwitchReadyAsAuthority, MaySwitchEndLeg, IsSwitchAnswerByPartition, IsSwitchEntry, IsSwitchFirstHit, IsRightSwitchAnswer, SwitchSite, SwitchValue, switch_admitted, switch_arrival_of, arrive_answer, switch_arrival_on_leg, switch_arrived_with, switch_answer_in_partition, enter_answer, switch_entered_with, switch_entered_by_answer, switch_held_tables, holds_version, switch_looked_up, no_switch_core_partition, switch_own_partition, switch_packet_of, switch_core_partition_numbered, switch_own_rule_place, switch_received, serves}
use Rattle.switch_core.specs.declared.tunnel_calls.Arrived.TheVariants as arrival
use Rattle.switch_core.specs.declared.tunnel_calls.Entered.TheVariants as entry
use Rattle.switch_core.specs.declared.tunnel_calls.Packet.{Packet}
use Rattle.switch_core.proofs.SwitchLookupAnswers.{hit_in, lookup_is, sound_held, version_held}
use Rattle.switch_core.proofs.SwitchOwnLookups.{own_hit}

-- ---- a packet enters

pub entry_by : (s : SwitchValue) (site : SwitchSite) (packet : Packet) (test : Bool) →
    serves s ≡ test → switch_admitted s site packet ≡ cond test (Some (switch_looked_up s site packet)) None
unfolding switch_admitted
entry_by s site packet test is = ap (λ (b : Bool). cond b (Some (switch_looked_up s site packet)) None) is

-- a switch that answers isn't closed
not_closed : (answer : SwitchAnswer) → switch_entered_with answer ≡ entry.Closed → ⊥
not_closed answer is = search rules

pub entry_is : (s : SwitchValue) (site : SwitchSite) (packet : Packet) →
    IsSwitchEntry s site packet (enter_answer s site packet)
unfolding switch_admitted
entry_is s site packet = record {
  closed = by_test (serves s);
  answered = λ ready. (
    switch_looked_up s site packet,
    ap switch_entered_by_answer (entry_by s site packet true ready.serving),
    lookup_is s site packet ready,
  );
} where
  by_test : (test : Bool)
      → (switch_entered_by_answer (cond test (Some (switch_looked_up s site packet)) None) ≡ entry.Closed) ↔ IsFalse test
  by_test true = (λ is. absurd (not_closed (switch_looked_up s site packet) is), λ is. cc)
  by_test false = (λ is. refl, λ is. refl)

-- ---- a packet is at the end of its route

pub arrive_out : (s : SwitchValue) (site : SwitchSite) (t : TunnelValue) (port : ℕ) →
    t.leg ≡ Exit port → arrive_answer s site t ≡ arrival.Out port
unfolding switch_received
arrive_out s site t port leg = ap (λ leg. switch_arrival_of (switch_arrival_on_leg s site (switch_packet_of t) leg)) leg

-- by the tables of the leg's version, if they are held
arrived_by : (s : SwitchValue) (site : SwitchSite) (t : TunnelValue) (version partition : ℕ)
    (held : Option Tables) → t.leg ≡ Seek version partition → switch_held_tables s version ≡ held
    → switch_received s site t ≡ Answered (option_map_or (switch_answer_in_partition s site (switch_packet_of t) partition) held
    (switch_looked_up s site (switch_packet_of t)))
unfolding switch_received
arrived_by s site t version partition held leg is = cc (leg, is)

-- the first hit of the leg's partition
hit_on : (s : SwitchValue) (t : TunnelValue) (version partition : ℕ) (tables : Tables) →
    IsSwitchReadyAsAuthority s t → t.leg ≡ Seek version partition → switch_held_tables s version ≡ Some tables →
    IsSomeAnd (switch_own_partition tables partition) (λ part. IsSwitchFirstHit t.header part
    (switch_own_rule_place t.header (switch_core_partition_numbered tables partition)))
hit_on s t version partition tables arriving leg held = by_part (switch_own_partition tables partition) refl
    (subst (λ (o : Option Tables). IfSome o
    (λ tables. IsSomeAnd (switch_own_partition tables partition) (λ part. IsTrue (is_in_policy_partition t.header part)))) held
    (subst (λ (leg : Leg). MaySwitchEndLeg s t.header leg) leg arriving.authority))
  where
    by_part : (part : Option Partition) → switch_own_partition tables partition ≡ part →
        IsSomeAnd part (λ part. IsTrue (is_in_policy_partition t.header part)) →
        IsSomeAnd part (λ own. IsSwitchFirstHit t.header own
        (switch_own_rule_place t.header (unwrap_or part no_switch_core_partition)))
    by_part (Some part) is inside = own_hit tables partition part t.header
        (sound_held s version tables arriving.ready.switch held) arriving.ready.is_header is inside
    by_part None is inside = absurd inside

pub arrive_held : (s : SwitchValue) (site : SwitchSite) (t : TunnelValue) (version partition : ℕ)
    (tables : Tables) →
    IsSwitchReadyAsAuthority s t → t.leg ≡ Seek version partition → switch_held_tables s version ≡ Some tables →
    (answer : SwitchAnswer) × (arrive_answer s site t ≡ switch_arrived_with answer)
    × IsSwitchAnswerByPartition s site (switch_packet_of t) version tables partition answer
unfolding switch_answer_in_partition
arrive_held s site t version partition tables arriving leg held = (
  switch_answer_in_partition s site (switch_packet_of t) partition tables,
  ap switch_arrival_of (arrived_by s site t version partition (Some tables) leg held),
  subst (λ (v : ℕ). IsSwitchAnswerByPartition s site (switch_packet_of t) v tables partition
      (switch_answer_in_partition s site (switch_packet_of t) partition tables)) (version_held s version tables held)
      (hit_in s site (switch_packet_of t) tables.version tables partition _
      (hit_on s t version partition tables arriving leg held)).0,
)

pub none_held : (o : Option Tables) → is_some o ≡ false → o ≡ None
none_held o is = search rules

pub arrive_anew : (s : SwitchValue) (site : SwitchSite) (t : TunnelValue) (version partition : ℕ) →
    IsSwitchReadyAsAuthority s t → t.leg ≡ Seek version partition → IsFalse (holds_version s version) →
    (answer : SwitchAnswer) × (arrive_answer s site t ≡ switch_arrived_with answer)
    × IsRightSwitchAnswer s site (switch_packet_of t) answer
arrive_anew s site t version partition arriving leg gone = (
  switch_looked_up s site (switch_packet_of t),
  ap switch_arrival_of (arrived_by s site t version partition None leg
      (none_held (switch_held_tables s version) gone)),
  lookup_is s site (switch_packet_of t) arriving.ready,
)
