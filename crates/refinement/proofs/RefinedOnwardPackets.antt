-- Where a packet goes on by its switch's answer: by its port, or to the targets of its partition.
use Rattle.std.proofs.Common.{[], ◌++◌, ◌<◌, ◌==◌, ◌∙◌, ◌∷◌, ◌≡◌, Bool, List, None, Option, Some, ap, eq-eqb, false, if◌then◌else◌, length, ok_or, option_map, refl, subst, sym, true, unwrap_or, ℕ}
use Rattle.base.proofs.Exports.{⊤}
use Rattle.failover.specs.Exports.{no_failover_links, route_of}
use Rattle.net_file.specs.Exports.{AreNetPortOwners, net_port_owner, owner_in_net_ports}
use Rattle.update_machine.specs.Exports.{Action, Cause, Exit, Found, Header, Item, Partition, Ports, Rule, Seek, Setting, Step, machine_lookup_at, machine_lookup_items, journal_next_message, machine_no_switch, owner, machine_packet_items, journal_retired_mark, machine_sent_items_from, serves, journal_stamp_of, journal_tables_at, journal_leg_targets}
use Rattle.switch_core.specs.Exports.{SwitchAnswer, SwitchValue, switch_admitted, switch_answer_by_found, switch_site_around, switch_decision_by_entry, switch_decision_by_rule, switch_stuck_cause, switch_answer_by_rule, switch_exit_by_tunnel, switch_incoming_packet, switch_leave_by_port, switch_looked_up, switch_next_of, switch_core_partition_numbered, switch_core_rule_in, switch_seek_by, serves as serves_now, switch_set_out, switch_stamp_tables}
use Rattle.switch_core.specs.Answers as answer
use Rattle.switch_core.specs.declared.deciding.Decision.{Decision}
use Rattle.switch_core.specs.declared.tunnel_calls.Next.TheVariants.{Out}
use Rattle.switch_core.specs.declared.tunnel_calls.Packet.{Packet}
use Rattle.tunnel.specs.Exports.{TunnelValue, tunnel_begun}
use Rattle.packet_laws.specs.Exports.{IsUnknownPacket, PacketFacts, packet_facts_after, packet_facts_of}
use Rattle.packet_laws.proofs.Exports.{FindsTargets, facts_grow, redirect_found}
use Rattle.world_log.specs.Exports.{log_answer_flight, log_answer_items, log_cache_message, log_coming_in, log_entered_flight, log_entered_items, entry, log_message_list}
use Rattle.travelling.specs.Travelling.{TravellingStanding}
use Rattle.refinement.proofs.RefinedTakenLegs.{Sees, at_switch, sees_one}
use Rattle.refinement.proofs.RefinedAuthorityDecisions.{IsAsked, IsPacket, its_stamp, looked_law, targets_are}
use Rattle.refinement.proofs.RefinedPacketFacts.{GoesOnward, IsSeen, Targets, decided_goes, facts_along, flight_by, sends_unnamed}
use Rattle.five_tuple.specs.Exports.{IsHeader}
use Rattle.update_machine.proofs.Exports.{have_append, messages_keep, switch_keeps}
use Rattle.control_laws.specs.Exports.{HasControlItemCause}
use Rattle.refinement.proofs.RefinedSteps.{Known}

-- ---- once it is decided

exit_goes : (setting : Setting) (journal : List Item) (s : SwitchValue) (near : ℕ) (packet : Packet)
    (at : ℕ) (port its : ℕ) (decision : Decision) (cause : Cause) (route : Option (List ℕ))
    → decision.action ≡ Action.Out port
    → owner setting port ≡ its → GoesOnward (journal_leg_targets setting journal) (at_switch at packet)
    packet.ingress decision (switch_exit_by_tunnel (ok_or (option_map (λ way. tunnel_begun packet.number
    packet.header packet.ingress (Exit port) (its ∷ []) way packet.down) route) cause))
exit_goes setting journal s near packet at port its decision cause None acts owns = tt
exit_goes setting journal s near packet at port its decision cause (Some route) acts owns = (
  port,
  acts,
  record { route = route; is = cc owns },
)

leave_goes : (setting : Setting) (journal : List Item) (s : SwitchValue) (near : ℕ) (packet : Packet) (at : ℕ) (port : ℕ)
    (decision : Decision) (its : Option ℕ)
    → decision.action ≡ Action.Out port → net_port_owner setting.net.switches port ≡ its
    → GoesOnward (journal_leg_targets setting journal) (at_switch at packet) packet.ingress decision
    (switch_leave_by_port s near packet port its)
unfolding switch_leave_by_port switch_set_out
leave_goes setting journal s near packet at port decision None acts owns = tt
leave_goes setting journal s near packet at port decision (Some its) acts owns =
    by_place (its == s.number) (exit_goes setting journal s near packet at port its decision
    (switch_stuck_cause s near packet.down (Exit port) (its ∷ [])) (route_of s.database s.number
    (its ∷ []) near packet.down) acts (ap (λ o. unwrap_or o machine_no_switch) owns))
  where
    by_place : (here : Bool) → GoesOnward (journal_leg_targets setting journal) (at_switch at packet)
        packet.ingress decision (switch_exit_by_tunnel (switch_set_out s near packet (Exit port) (its ∷ [])))
        → GoesOnward (journal_leg_targets setting journal) (at_switch at packet) packet.ingress decision
        (if here then Out port else switch_exit_by_tunnel (switch_set_out s near packet (Exit port) (its ∷ [])))
    by_place true goes = tt
    by_place false goes = goes

pub next_goes : (setting : Setting) (journal : List Item) (s : SwitchValue) (near : ℕ) (ports : Ports) (packet : Packet)
    (at : ℕ) (decision : Decision) (what : Action) → AreNetPortOwners setting.net.switches ports
    → decision.action ≡ what
    → GoesOnward (journal_leg_targets setting journal) (at_switch at packet) packet.ingress decision
    (switch_next_of s (switch_site_around near ports) packet what)
unfolding switch_next_of
next_goes setting journal s near ports packet at decision Action.Drop owners acts = tt
next_goes setting journal s near ports packet at decision (Action.Out port) owners acts =
    leave_goes setting journal s near packet at port decision (owner_in_net_ports ports port) acts
    (sym (owners port))

-- ---- by a lookup

-- a tunnel to the targets of a partition, at the beginning of its route
pub record IsWay (targets : Targets) (at : TravellingStanding) (tunnel : TunnelValue) : Type 0 where
  pub version : ℕ
  pub partition : ℕ
  pub route : List ℕ
  pub is : tunnel ≡ tunnel_begun at.packet at.header at.ingress (Seek version partition)
      (targets (Seek version partition)) route at.down

abbrev pub IsComing : Targets → TravellingStanding → SwitchAnswer → Type 0
IsComing targets at (answer.Decided decision cache onward) =
    GoesOnward targets at at.ingress decision onward
IsComing targets at (answer.Seek tunnel) = IsWay targets at tunnel
IsComing targets at (answer.Stuck cause leg) = ⊤

seek_goes : (targets : Targets) (packet : Packet) (s version partition : ℕ) (to : List ℕ)
    (cause : Cause) (route : Option (List ℕ)) → targets (Seek version partition) ≡ to
    → IsComing targets (at_switch s packet) (switch_seek_by (Seek version partition)
    (ok_or (option_map (λ way. tunnel_begun packet.number packet.header packet.ingress
    (Seek version partition) to way packet.down) route) cause))
seek_goes targets packet s version partition to cause None is = tt
seek_goes targets packet s version partition to cause (Some route) is = record {
  version = version;
  partition = partition;
  route = route;
  is = cc is;
}

-- by a rule of a partition of the switch's own
pub ruled_goes : (setting : Setting) (journal : List Item) (s version place : ℕ) (w : SwitchValue)
    (mask : ℕ) (ports : Ports) (packet : Packet) (part : Partition) → AreNetPortOwners setting.net.switches
    ports → IsComing (journal_leg_targets setting journal) (at_switch s packet)
    (switch_answer_by_rule w (switch_site_around mask ports) packet version part place)
unfolding switch_answer_by_rule
ruled_goes setting journal s version place w mask ports packet part owners =
    let rule : Rule = switch_core_rule_in part place in
    next_goes setting journal w mask ports packet s (switch_decision_by_rule w.number version part.number rule)
    rule.action owners refl

module _ (setting : Setting) (journal : List Item) (s : ℕ) (w : SwitchValue) (mask : ℕ)
    (ports : Ports) (packet : Packet) (asked : IsAsked setting journal s w mask ports packet) where
  abbrev leads : Targets
  leads = journal_leg_targets setting journal

  found_goes : (what : Found) → machine_lookup_at setting journal s packet.header ≡ what
      → IsComing leads (at_switch s packet) (switch_answer_by_found w (switch_site_around mask ports) packet
      (journal_tables_at setting journal (journal_stamp_of journal s) s) what)
  unfolding switch_answer_by_found switch_set_out
  found_goes (Found.Cached entry) answer =
      next_goes setting journal w mask ports packet s (switch_decision_by_entry entry) entry.action asked.owners refl
  found_goes (Found.Authority partition place) answer =
      ruled_goes setting journal s (journal_stamp_of journal s) place w mask ports packet
      (switch_core_partition_numbered (journal_tables_at setting journal (journal_stamp_of journal s) s) partition) asked.owners
  found_goes (Found.Redirect partition to) answer =
      let version : ℕ = journal_stamp_of journal s in
      let own = redirect_found setting journal s packet.header partition to
      (its_stamp setting journal s w mask ports packet asked) asked.sound answer in
      seek_goes leads packet s version partition to
      (switch_stuck_cause w mask packet.down (Seek version partition) to)
      (route_of w.database w.number to mask packet.down)
      (targets_are setting journal version partition to own.part.hosted own.part.finds.at
      own.part.number own.own)

  pub looked_goes : IsComing (journal_leg_targets setting journal) (at_switch s packet)
      (switch_looked_up w (switch_site_around mask ports) packet)
  unfolding switch_looked_up
  looked_goes = let what : Found = machine_lookup_at setting journal s packet.header in
      subst (λ f. IsComing leads (at_switch s packet)
      (switch_answer_by_found w (switch_site_around mask ports) packet (switch_stamp_tables w) f))
      (sym (asked.sees.lookup packet.header asked.serving))
      (rw (asked.sees.stamped asked.serving) (found_goes what refl))

-- ---- so what is known of it then is what the items say

-- the version and the rule of its decision, as its facts have them
pub record AreOfFacts (version : ℕ) (rule : Option ℕ) (facts : PacketFacts) : Type 0 where
  pub its_version : version ≡ unwrap_or (option_map (λ decision. decision.version) facts.decision) 0
  pub its_rule : rule ≡ unwrap_or (option_map (λ decision. decision.rule) facts.decision) None

by_way : (targets : Targets) (before : List Item) (number : ℕ) (at : TravellingStanding)
    (version partition : ℕ) (route : List ℕ) (facts : PacketFacts) → IsSeen at at.ingress facts
    → (let tunnel : TunnelValue = tunnel_begun at.packet at.header at.ingress (Seek version partition)
    (targets (Seek version partition)) route at.down in
    log_answer_flight (unwrap_or (option_map (λ decision. decision.version) facts.decision) 0)
    (unwrap_or (option_map (λ decision. decision.rule) facts.decision) None) (answer.Seek tunnel)
    ≡ flight_by targets at.packet
    (facts_along at.packet before (log_answer_items number at (answer.Seek tunnel)) facts))
by_way targets before number at version partition route facts seen =
    rw ((eq-eqb _ _ refl), seen.on, seen.header, seen.came, seen.found) refl

pub answer_goes : (targets : Targets) (before : List Item) (number : ℕ) (at : TravellingStanding)
    (version : ℕ) (rule : Option ℕ) (what : SwitchAnswer) (facts : PacketFacts)
    → IsSeen at at.ingress facts → AreOfFacts version rule facts → IsComing targets at what
    → log_answer_flight version rule what
    ≡ flight_by targets at.packet (facts_along at.packet before (log_answer_items number at what) facts)
answer_goes targets before number at version rule (answer.Decided decision cache onward) facts seen
    of comes = decided_goes targets before
    (machine_sent_items_from number (log_message_list (log_cache_message at.ingress cache))) at at.ingress decision onward
    facts (sends_unnamed at.packet number (log_cache_message at.ingress cache)) seen comes
answer_goes targets before number at version rule (answer.Seek tunnel) facts seen of comes =
    let P : ℕ → Option ℕ → TunnelValue → Type 0 = λ v r t. log_answer_flight v r (answer.Seek t)
    ≡ flight_by targets at.packet
    (facts_along at.packet before (log_answer_items number at (answer.Seek t)) facts) in
    subst (λ v. P v rule tunnel) (sym of.its_version)
    (rw of.its_rule (rw comes.is
    (by_way targets before number at comes.version comes.partition comes.route facts seen)))
answer_goes targets before number at version rule (answer.Stuck cause leg) facts seen of comes =
    rw (eq-eqb _ _ refl) refl

-- a packet that just entered
abbrev pub GoesIn : Targets → TravellingStanding → Option SwitchAnswer → Type 0
GoesIn targets at None = ⊤
GoesIn targets at (Some what) = (at.ingress ≡ at.switch) × IsComing targets at what

pub entered_goes : (targets : Targets) (before : List Item)
    (number : ℕ) (at : TravellingStanding) (what : Option SwitchAnswer) (facts : PacketFacts) → IsUnknownPacket facts
    → facts.found ≡ at.down → GoesIn targets at what → log_entered_flight what ≡ flight_by targets
    at.packet (facts_along at.packet before (log_entered_items number at what) facts)
entered_goes targets before number at None facts unknown unmarked comes = rw unknown.travels refl
entered_goes targets before number at (Some what) facts unknown unmarked comes =
    let came : Item = Item.Entered at.packet at.switch at.header in
    let seen : PacketFacts = packet_facts_after (journal_retired_mark before) came facts in
    let P : Bool → Type 0 = λ b. log_answer_flight 0 None what ≡ flight_by targets at.packet
    (facts_along at.packet (before ++ came ∷ []) (log_answer_items number at what)
    (if b then packet_facts_after (journal_retired_mark before) came facts else facts)) in
    subst P (sym (eq-eqb _ _ refl))
    (answer_goes targets (before ++ came ∷ []) number at 0 None what seen
    (record { on = refl; header = refl; came = ap Some (sym comes.0); found = unmarked }) (record {
      its_version = rw unknown.decision refl;
      its_rule = rw unknown.decision refl;
    }) comes.1)

-- ---- a packet that enters: what its step writes

-- the journal as the packet's switch looks it up
abbrev pub looking : List Item → ℕ → Step → ℕ → ℕ → Header → List Item
looking journal row taken i s header =
    journal ++ Item.Row row taken ∷ [] ++ Item.Entered i s header ∷ []

abbrev pub coming : ℕ → Header → ℕ → Packet
coming i header s = record { number = i; header = header; ingress = s; down = no_failover_links }

-- the packet has its header there, and found no link down
coming_packet : (journal : List Item) (row i s : ℕ) (taken : Step) (header : Header)
    → (packet_facts_of journal i).found ≡ no_failover_links
    → IsPacket (looking journal row taken i s header) (coming i header s)
coming_packet journal row i s taken header unmarked =
    let own : (i == i) ≡ true = eq-eqb i i refl in
    let grown = facts_grow i (journal ++ Item.Row row taken ∷ []) (Item.Entered i s header) in
    record {
      entered = ap (λ facts. facts.header) grown ∙ rw own refl;
      came = ap (λ facts. facts.ingress) grown ∙ rw own refl;
      found = ap (λ facts. facts.found) grown ∙ rw own
          (ap (λ facts. facts.found) (facts_grow i journal (Item.Row row taken)) ∙ unmarked);
    }

-- where it enters, and what is known of its switch
pub record ComesTo (setting : Setting) (journal : List Item) (i s : ℕ) (header : Header)
    (w : SwitchValue) (mask : ℕ) (ports : Ports) : Type 0 where
  pub knows : Known setting journal
  pub sees : Sees setting journal s w mask
  pub there : s < length setting.net.switches
  pub owners : AreNetPortOwners setting.net.switches ports
  pub sound : IsHeader header
  pub unmarked : (packet_facts_of journal i).found ≡ no_failover_links

module _ (setting : Setting) (journal : List Item) (row i s : ℕ) (taken : Step)
    (header : Header) (w : SwitchValue) (mask : ℕ) (ports : Ports)
    (comes : ComesTo setting journal i s header w mask ports) where
  abbrev begun : List Item
  begun = journal ++ Item.Row row taken ∷ []

  abbrev full : List Item
  full = looking journal row taken i s header

  abbrev packet : Packet
  packet = coming i header s

  same_packet : switch_incoming_packet w i header ≡ packet
  same_packet = ap (coming i header) comes.sees.number

  serving_begun : serves begun s ≡ serves journal s
  serving_begun = (switch_keeps setting s journal (Item.Row row taken ∷ []) (refl, tt)).serving

  asked : serves journal s ≡ true → IsAsked setting full s w mask ports packet
  asked serving = record {
    is = comes.knows.is;
    caused = have_append (HasControlItemCause setting) [] begun (Item.Entered i s header ∷ [])
        (have_append (HasControlItemCause setting) [] journal (Item.Row row taken ∷ []) comes.knows.caused
        (tt, tt)) (tt, tt);
    there = comes.there;
    serving = (switch_keeps setting s begun (Item.Entered i s header ∷ []) (refl, tt)).serving
        ∙ serving_begun ∙ serving;
    sees = sees_one setting begun (Item.Entered i s header) s w mask
        (record { switch = refl; links = refl; policies = refl })
        (sees_one setting journal (Item.Row row taken) s w mask
        (record { switch = refl; links = refl; policies = refl }) comes.sees);
    owners = comes.owners;
    sound = comes.sound;
    of_packet = coming_packet journal row i s taken header comes.unmarked;
  }

  same_number : journal_next_message full ≡ journal_next_message journal
  same_number = (messages_keep begun (Item.Entered i s header ∷ []) (refl, tt)).next
      ∙ (messages_keep journal (Item.Row row taken ∷ []) (refl, tt)).next

  -- what its switch answers is what the journal's definitions say
  pub come_law : machine_packet_items setting i s header (journal ++ Item.Row row taken ∷ [])
      ≡ log_entered_items (journal_next_message journal) (log_coming_in i header s) (entry w mask ports i header)
  unfolding machine_packet_items switch_admitted
  come_law = by_serving (serves journal s) refl where
    answer : Bool → Option SwitchAnswer
    answer b = if b then Some (switch_looked_up w (switch_site_around mask ports) packet) else None

    items : Bool → List Item
    items b = elim b [
      | false ↦ Item.Closed i s ∷ []
      | true ↦ Item.Entered i s header ∷ machine_lookup_items setting i s full
    ]

    by_serving : (b : Bool) → serves journal s ≡ b → items (serves begun s)
        ≡ log_entered_items (journal_next_message journal) (log_coming_in i header s) (if serves_now w
        then Some (switch_looked_up w (switch_site_around mask ports) (switch_incoming_packet w i header)) else None)
    by_serving false off = cc (serving_begun, off, comes.sees.serving)
    by_serving true on = ap items (serving_begun ∙ on) ∙ ap (λ more. Item.Entered i s header
        ∷ more) (looked_law setting full s w mask ports packet (asked on) ∙ ap (λ n. log_answer_items
        n (log_coming_in i header s) (switch_looked_up w (switch_site_around mask ports) packet)) same_number)
        ∙ ap (λ (p : Packet). log_entered_items (journal_next_message journal) (log_coming_in i header s)
        (Some (switch_looked_up w (switch_site_around mask ports) p))) (sym same_packet)
        ∙ ap (λ b. log_entered_items (journal_next_message journal) (log_coming_in i header s)
        (if b then Some (switch_looked_up w (switch_site_around mask ports) (switch_incoming_packet w i header)) else None))
        (sym (comes.sees.serving ∙ on))

  -- and it goes on by it
  pub come_goes : GoesIn (journal_leg_targets setting (looking journal row taken i s header))
      (log_coming_in i header s) (entry w mask ports i header)
  unfolding switch_admitted
  come_goes = by_serving (serves journal s) refl where
    by_serving : (b : Bool) → serves journal s ≡ b
        → GoesIn (journal_leg_targets setting full) (log_coming_in i header s) (if serves_now w
        then Some (switch_looked_up w (switch_site_around mask ports) (switch_incoming_packet w i header)) else None)
    by_serving false off = rw (comes.sees.serving ∙ off) tt
    by_serving true on = rw (comes.sees.serving ∙ on) (rw same_packet
        (refl, looked_goes setting full s w mask ports packet (asked on)))
