-- A packet at the end of its route: its switch answers as the journal's definitions say, and its
-- answer is what becomes of the packet.
use Rattle.std.proofs.Common.{[], if◌then◌else◌, ◌++◌, ◌+◌, ◌==◌, ◌∙◌, ◌∷◌, ◌≡◌, Bool, IsTrue, List, None, Option, Some, ap, arith, eq-eqb, false, nat_eq, option_and_then, position, refl, slice_get, subst, sym, true, ℕ}
use Rattle.base.proofs.Exports.{list_any, option_map, option_map_or, unwrap_or, ⊤}
use Rattle.five_tuple.specs.Exports.{IsHeader, header_number_of}
use Rattle.update_machine.specs.Exports.{Exit, Header, Item, Leg, NoMachineItemConcerns, Ports, Seek, Setting, Tables, journal_leg_arrival_items, machine_arrive_items, machine_authority_items, journal_authority_rule, machine_item_concerns_policies, journal_decision_of, machine_first_rule_place as first_place_in, journal_packet_header_at, holds_version, machine_lookup_items, journal_next_message, journal_plan_at, machine_policy_at, journal_tables_at, journal_leg_targets}
use Rattle.net_file.specs.Exports.{net_port_owner}
use Rattle.policy_rules.specs.Exports.{is_held_by_policy_rule}
use Rattle.switch_core.specs.Exports.{SwitchArrival, SwitchValue, switch_site_around, switch_arrival_on_leg, switch_answer_by_rule, switch_answer_in_partition, switch_held_tables, switch_looked_up, switch_core_partition_numbered, switch_own_rule_place}
use Rattle.switch_core.specs.Answers as arrived
use Rattle.switch_core.specs.declared.tunnel_calls.Packet.{Packet}
use Rattle.switch_table.specs.Exports.{HostedPolicyPartition}
use Rattle.update_machine.proofs.Exports.{policies_keep}
use Rattle.packet_laws.specs.Exports.{IsPacketOnLeg, PacketFacts, packet_facts_of}
use Rattle.packet_laws.proofs.Exports.{Finds, current_planned, in_plan, last_here, one_target}
use Rattle.world_log.specs.Exports.{log_arrived_flight, log_arrived_items}
use Rattle.travelling.specs.Travelling.{TravellingFlight, TravellingStanding}
use Rattle.refinement.proofs.RefinedAuthorityDecisions.{IsAsked, IsOurs, header_is, looked_law, own_numbered, ruled_law}
use Rattle.refinement.proofs.RefinedOnwardPackets.{AreOfFacts, IsComing, answer_goes, looked_goes, ruled_goes}
use Rattle.refinement.proofs.RefinedSteps.{Known}
use Rattle.refinement.proofs.RefinedTakenLegs.{at_switch}
use Rattle.refinement.proofs.RefinedPacketFacts.{IsSeen, Targets, facts_along, flight_by}

-- ---- where a route ends

-- at the end of its route its switch is an authority of the partition that it seeks, or has the
-- port of its exit
abbrev pub IsAtEnd : Setting → List Item → ℕ → Header → Leg → Type 0
IsAtEnd setting journal s header (Seek version partition) =
    IsOurs setting journal s header version partition
IsAtEnd setting journal s header (Exit port) = net_port_owner setting.net.switches port ≡ Some s

pub ours_of : (setting : Setting) (journal : List Item) (s : ℕ) (facts : PacketFacts)
    (header : Header) (version partition : ℕ) → Known setting journal → IsHeader header
    → (seeks : IsPacketOnLeg setting journal facts header (Seek version partition))
    → IsTrue (list_any (nat_eq s) seeks.hosted.1)
    → IsOurs setting journal s header version partition
ours_of setting journal s facts header version partition knows sound seeks target =
    let planned = current_planned setting journal version knows.is knows.caused
    (omega (arith, seeks.not_retired)) seeks.current in record {
      planned = planned;
      hosted = seeks.hosted;
      finds = in_plan setting (machine_policy_at setting journal version)
          (journal_plan_at setting journal version) header seeks.hosted planned sound seeks.own.first;
      number = seeks.own.number;
      target = target;
    }

pub end_of_route : (setting : Setting) (journal : List Item) (s : ℕ) (facts : PacketFacts)
    (header : Header) (leg : Leg) → Known setting journal → IsHeader header
    → IsPacketOnLeg setting journal facts header leg
    → slice_get facts.route facts.hops ≡ Some s → slice_get facts.route (facts.hops + 1) ≡ None
    → IsAtEnd setting journal s header leg
end_of_route setting journal s facts header (Exit port) knows sound on stands last =
    on.has_port ∙ ap Some (sym (one_target on.leads.ends.target on.owner on.leads.ends.own)
    ∙ sym (last_here facts.route facts.hops s on.leads.ends.target stands last on.leads.ends.last))
end_of_route setting journal s facts header (Seek version partition) knows sound on stands last =
    ours_of setting journal s facts header version partition knows sound on
    (subst (λ at. IsTrue (list_any (nat_eq at) on.hosted.1)) (sym (last_here facts.route facts.hops
    s on.leads.ends.target stands last on.leads.ends.last)) on.leads.ends.own)

-- items by which no policy comes keep the plan
pub at_end_on : (setting : Setting) (before items : List Item) (s : ℕ) (header : Header)
    (leg : Leg) → NoMachineItemConcerns machine_item_concerns_policies before items
    → IsAtEnd setting before s header leg → IsAtEnd setting (before ++ items) s header leg
at_end_on setting before items s header (Exit port) none end = end
at_end_on setting before items s header (Seek version partition) none end =
    let keeps = policies_keep before items none in
    let same_policy = sym (keeps.policy setting version) in
    let same_plan = sym (keeps.plan setting version) in record {
      planned = rw same_policy at (rw same_plan at end.planned);
      hosted = end.hosted;
      finds = rw same_policy at (rw same_plan at end.finds);
      number = end.number;
      target = end.target;
    }

-- ---- what the switch answers, and what the journal's definitions say

-- what becomes of a packet that arrives
abbrev pub GoesOut : Targets → TravellingStanding → SwitchArrival → Type 0
GoesOut targets at (arrived.Out port) = ⊤
GoesOut targets at (arrived.Answered what) = IsComing targets at what

module _ (setting : Setting) (journal : List Item) (s : ℕ) (w : SwitchValue) (mask : ℕ)
    (ports : Ports) (packet : Packet) (asked : IsAsked setting journal s w mask ports packet) where
  abbrev at : TravellingStanding
  at = at_switch s packet

  -- the place of the first rule that holds the header, in the plan
  place_in_plan : (version partition : ℕ)
      (ours : IsOurs setting journal s packet.header version partition)
      → first_place_in setting journal version partition (journal_packet_header_at journal packet.number)
      ≡ ours.finds.place
  place_in_plan version partition ours = ap (first_place_in setting journal version partition)
      (header_is journal packet.number packet.header asked.of_packet.entered)
      ∙ ap (λ (o : Option HostedPolicyPartition). unwrap_or
      (option_and_then (λ (p : HostedPolicyPartition). position (is_held_by_policy_rule (header_number_of packet.header)) p.0.rules) o)
      0) (ap (slice_get (journal_plan_at setting journal version)) (sym ours.number) ∙ ours.finds.at)
      ∙ ours.finds.position

  -- and in the switch's own partition
  place_in_tables : (version partition : ℕ)
      (ours : IsOurs setting journal s packet.header version partition)
      → switch_own_rule_place packet.header (switch_core_partition_numbered (journal_tables_at setting journal version s) partition)
      ≡ ours.finds.place
  place_in_tables version partition ours = ap (switch_own_rule_place packet.header)
      (own_numbered (journal_plan_at setting journal version) s version partition ours.hosted
      ours.planned.parts.sound.numbers (ap (slice_get (journal_plan_at setting journal version))
      (sym ours.number) ∙ ours.finds.at) ours.number ours.target) ∙ ours.finds.position

  -- at an authority that has the version, or not
  sought_law : (t : TravellingFlight) (version partition : ℕ) (b : Bool) → holds_version journal s version ≡ b
      → IsOurs setting journal s packet.header version partition → elim b [
        | false ↦ machine_lookup_items setting packet.number s journal
        | true ↦ machine_authority_items setting packet.number s (journal_authority_rule setting journal version
            partition (first_place_in setting journal version partition
            (journal_packet_header_at journal packet.number))) journal
      ]
      ≡ log_arrived_items (journal_next_message journal) at t.version t.rule
      (switch_arrival_on_leg w (switch_site_around mask ports) packet (Seek version partition))
  unfolding switch_answer_in_partition
  sought_law t version partition false missing ours = cc
      (looked_law setting journal s w mask ports packet asked, asked.sees.tables version, missing)
  sought_law t version partition true held ours = ap (λ place. machine_authority_items setting packet.number
      s (journal_authority_rule setting journal version partition place) journal)
      (place_in_plan version partition ours)
      ∙ sym (ruled_law setting journal s w mask ports packet asked version partition ours)
      ∙ ap (λ place. log_arrived_items (journal_next_message journal) at t.version t.rule
      (arrived.Answered (switch_answer_by_rule w (switch_site_around mask ports) packet version
      (switch_core_partition_numbered (journal_tables_at setting journal version s) partition) place)))
      (sym (place_in_tables version partition ours))
      ∙ ap (λ (o : Option Tables). log_arrived_items (journal_next_message journal) at t.version t.rule
      (arrived.Answered (option_map_or (switch_answer_in_partition w (switch_site_around mask ports) packet partition) o
      (switch_looked_up w (switch_site_around mask ports) packet)))) (sym (asked.sees.tables version
      ∙ ap (λ b. if b then Some (journal_tables_at setting journal version s) else None) held))

  pub arrive_law : (t : TravellingFlight) (leg : Leg)
      → AreOfFacts t.version t.rule (packet_facts_of journal packet.number)
      → (packet_facts_of journal packet.number).leg ≡ Some leg
      → IsAtEnd setting journal s packet.header leg
      → machine_arrive_items setting packet.number s journal ≡ log_arrived_items (journal_next_message journal)
      (at_switch s packet) t.version t.rule (switch_arrival_on_leg w (switch_site_around mask ports) packet leg)
  unfolding machine_arrive_items packet_facts_of
  arrive_law t (Exit port) of takes end =
      let i : ℕ = packet.number in
      let left : Header → ℕ → Option ℕ → List Item = λ header version rule. Item.Left i port
      (record { packet = i; header = header; version = version; rule = rule }) ∷ [] in
      ap (λ leg. journal_leg_arrival_items setting i s leg journal) takes
      ∙ ap (λ header. left header
      (unwrap_or (option_map (λ decision. decision.version) (journal_decision_of journal i)) 0)
      (unwrap_or (option_map (λ decision. decision.rule) (journal_decision_of journal i)) None))
      (header_is journal i packet.header asked.of_packet.entered)
      ∙ ap (λ version. left packet.header version
      (unwrap_or (option_map (λ decision. decision.rule) (journal_decision_of journal i)) None))
      (sym of.its_version)
      ∙ ap (left packet.header t.version) (sym of.its_rule)
  arrive_law t (Seek version partition) of takes end =
      cc (takes, sought_law t version partition (holds_version journal s version) refl end)

  pub arrive_comes : (leg : Leg) → GoesOut (journal_leg_targets setting journal) (at_switch s packet)
      (switch_arrival_on_leg w (switch_site_around mask ports) packet leg)
  unfolding switch_answer_in_partition
  arrive_comes (Exit port) = tt
  arrive_comes (Seek version partition) = by_tables (switch_held_tables w version) where
    by_tables : (o : Option Tables) → IsComing (journal_leg_targets setting journal) at
        (option_map_or (switch_answer_in_partition w (switch_site_around mask ports) packet partition) o (switch_looked_up w (switch_site_around mask ports) packet))
    by_tables None = looked_goes setting journal s w mask ports packet asked
    by_tables (Some tables) = ruled_goes setting journal s tables.version
        (switch_own_rule_place packet.header (switch_core_partition_numbered tables partition)) w mask ports packet
        (switch_core_partition_numbered tables partition) asked.owners

-- ---- what becomes of the packet

pub arrival_goes : (targets : Targets) (before : List Item) (number : ℕ) (at : TravellingStanding)
    (t : TravellingFlight) (what : SwitchArrival) (facts : PacketFacts) → IsSeen at at.ingress facts
    → AreOfFacts t.version t.rule facts → GoesOut targets at what
    → log_arrived_flight t.version t.rule what ≡ flight_by targets at.packet
    (facts_along at.packet before (log_arrived_items number at t.version t.rule what) facts)
arrival_goes targets before number at t (arrived.Out port) facts seen of goes =
    rw (eq-eqb _ _ refl) refl
arrival_goes targets before number at t (arrived.Answered what) facts seen of goes =
    answer_goes targets before number at t.version t.rule what facts seen of goes
