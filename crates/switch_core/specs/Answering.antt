-- What a switch returns for a packet that enters, or that is at the end of its route, as
-- functions: both by the result of one lookup (Yu, Rexford, Freedman and Wang, "Scalable
-- Flow-Based Networking with DIFANE", SIGCOMM 2010). The relations of `AnswerLaws` say what they
-- return, and allow no other result.
use Rattle.std.specs.Prelude.{if◌then◌else◌, ◌≡◌, Err, IfSome, IsSomeAnd, IsTrue, None, Ok, Option, Result, Some, ℕ, ⊤}
use Rattle.base.specs.Exports.{option_map_or}
use Rattle.five_tuple.specs.declared.header.Header.{Header}
use Rattle.policy_rules.specs.Exports.{is_in_policy_partition}
use Rattle.policy_rules.specs.declared.packet.Leg.{Leg}
use Rattle.policy_rules.specs.declared.packet.Leg.TheVariants.{Seek as SeekLeg, Exit as ExitLeg}
use Rattle.policy_rules.specs.declared.packet.Cause.{Cause}
use Rattle.policy_rules.specs.declared.rules.Partition.{Partition}
use Rattle.failover.specs.Exports.{no_failover_links}
use Rattle.tunnel.specs.Exports.{TunnelValue}
use Rattle.switch_table.specs.Exports.{switch_table_lookup_of}
use Rattle.switch_table.specs.declared.tables.Tables.{Tables}
use Rattle.switch_table.specs.declared.search.Found.{Found}
use Rattle.switch_table.specs.declared.search.Found.TheVariants.{Cached, Authority, Redirect}
use Rattle.switch_core.specs.Answers.{SwitchAnswer, SwitchArrival, Decided, Seek, Stuck, switch_arrival_of, switch_entered_by_answer}
use Rattle.switch_core.specs.Answers as arrival
use Rattle.switch_core.specs.declared.tunnel_calls.Arrived.{Arrived}
use Rattle.switch_core.specs.declared.tunnel_calls.Entered.{Entered}
use Rattle.switch_core.specs.declared.tunnel_calls.Packet.{Packet}
use Rattle.switch_core.specs.Deciding.{switch_decision_by_entry, switch_decision_by_rule, switch_packet_to_look_up, switch_cache_rule_sent, switch_own_rule_place, switch_own_partition, switch_core_partition_numbered, switch_core_rule_in}
use Rattle.switch_core.specs.Ends.{SwitchSite, switch_next_of, switch_set_out}
use Rattle.switch_core.specs.State.{SwitchValue, switch_held_tables, holds_version, serves, switch_stamp_tables}

-- ---- the result of a lookup

-- the rule at a place of one of the switch's own partitions decides
unfoldable pub switch_answer_by_rule : SwitchValue → SwitchSite → Packet → ℕ → Partition → ℕ → SwitchAnswer
switch_answer_by_rule s site packet version part place =
    let rule = switch_core_rule_in part place in
    Decided (switch_decision_by_rule s.number version part.number rule)
    (switch_cache_rule_sent s.number packet version part place)
    (switch_next_of s site packet rule.action)

-- on a leg, if there is a route to its targets
abbrev pub switch_seek_by : Leg → Result TunnelValue Cause → SwitchAnswer
switch_seek_by leg (Ok tunnel) = Seek tunnel
switch_seek_by leg (Err cause) = Stuck cause leg

-- by what was found in these tables
unfoldable pub switch_answer_by_found : SwitchValue → SwitchSite → Packet → Tables → Found → SwitchAnswer
switch_answer_by_found s site packet tables (Cached entry) =
    Decided (switch_decision_by_entry entry) None (switch_next_of s site packet entry.action)
switch_answer_by_found s site packet tables (Authority partition place) =
    switch_answer_by_rule s site packet tables.version (switch_core_partition_numbered tables partition) place
switch_answer_by_found s site packet tables (Redirect partition targets) =
    let leg = SeekLeg tables.version partition in
    switch_seek_by leg (switch_set_out s site.near packet leg targets)

-- by a lookup under the switch's stamp
unfoldable pub switch_looked_up : SwitchValue → SwitchSite → Packet → SwitchAnswer
switch_looked_up s site packet =
    let tables = switch_stamp_tables s in
    switch_answer_by_found s site packet tables (switch_table_lookup_of s.cache.entries tables packet.header)

-- by the first rule that holds the header, in these tables' partition of this number
unfoldable pub switch_answer_in_partition : SwitchValue → SwitchSite → Packet → ℕ → Tables → SwitchAnswer
switch_answer_in_partition s site packet partition tables =
    let part = switch_core_partition_numbered tables partition in
    switch_answer_by_rule s site packet tables.version part (switch_own_rule_place packet.header part)

-- ---- a packet enters

-- a switch that serves has the tables of its stamp
abbrev pub CanSwitchLookUp : SwitchValue → Type 0
CanSwitchLookUp s = IsTrue (serves s) → IsTrue (holds_version s s.stamp)

-- a packet that enters at this switch, and found no link down
abbrev pub switch_incoming_packet : SwitchValue → ℕ → Header → Packet
switch_incoming_packet s number header = switch_packet_to_look_up number header s.number no_failover_links

-- closed exactly if the switch doesn't serve
unfoldable pub switch_admitted : SwitchValue → SwitchSite → Packet → Option SwitchAnswer
switch_admitted s site packet = if serves s then Some (switch_looked_up s site packet) else None

-- nothing is sent to a cache
abbrev pub IsSwitchAnswerUncached : Option SwitchAnswer → Type 0
IsSwitchAnswerUncached (Some (Decided decision cache way)) = cache ≡ None
IsSwitchAnswerUncached _ = ⊤

-- as `enter` returns it
abbrev pub enter_answer : SwitchValue → SwitchSite → Packet → Entered
enter_answer s site packet = switch_entered_by_answer (switch_admitted s site packet)

-- ---- a packet is at the end of its route

-- the packet that a tunnel carries
abbrev pub switch_packet_of : TunnelValue → Packet
switch_packet_of t = switch_packet_to_look_up t.packet t.header t.ingress t.down

-- with the tables of the leg's version, the leg's partition is the switch's own and has the header
abbrev pub MaySwitchEndLeg : SwitchValue → Header → Leg → Type 0
MaySwitchEndLeg s header (SeekLeg version partition) =
    IfSome (switch_held_tables s version)
    (λ tables. IsSomeAnd (switch_own_partition tables partition) (λ part. IsTrue (is_in_policy_partition header part)))
MaySwitchEndLeg s header (ExitLeg port) = ⊤

-- out by the leg's port; or by the tables of the leg's version, or, if the switch doesn't have
-- them, by a new lookup
abbrev pub switch_arrival_on_leg : SwitchValue → SwitchSite → Packet → Leg → SwitchArrival
switch_arrival_on_leg s site packet (ExitLeg port) = arrival.Out port
switch_arrival_on_leg s site packet (SeekLeg version partition) =
    arrival.Answered (option_map_or (switch_answer_in_partition s site packet partition)
    (switch_held_tables s version) (switch_looked_up s site packet))

unfoldable pub switch_received : SwitchValue → SwitchSite → TunnelValue → SwitchArrival
switch_received s site t = switch_arrival_on_leg s site (switch_packet_of t) t.leg

-- as `arrive` returns it
abbrev pub arrive_answer : SwitchValue → SwitchSite → TunnelValue → Arrived
arrive_answer s site t = switch_arrival_of (switch_received s site t)
