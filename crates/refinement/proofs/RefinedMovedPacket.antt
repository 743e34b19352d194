-- A packet on its way at its switch: what a hop writes, and what becomes of the packet.
use Rattle.std.proofs.Common.{[], ◌++◌, ◌+◌, ◌∙◌, ◌∷◌, ◌≡◌, Bool, IsTrue, List, None, Option, Some, ap, false, nat_eq, option_map, refl, rules, slice_get, subst, sym, true, unwrap_or, ℕ}
use Rattle.base.proofs.Exports.{list_any}
use Rattle.failover.specs.Exports.{route_of, with_failover_link}
use Rattle.update_machine.specs.Exports.{Cause, Exit, JournalItemsHaveCauses, Header, Hop, Item, Leg, Ports, Seek, Setting, machine_arrive_items, journal_stuck_cause_at, journal_found_down, machine_onward_items, journal_items_then, journal_leg_of, machine_move_items, near, journal_next_message, journal_next_switch, machine_no_switch, owner, journal_reroute_by, machine_reroute_items, journal_packet_route, journal_route_from, serves, journal_hop_stays_on_way, machine_stuck_on_leg_item, journal_leg_targets}
use Rattle.base.specs.Exports.{has}
use Rattle.net_file.specs.Exports.{AreNetPortOwners}
use Rattle.switch_core.specs.Exports.{SwitchArrival, SwitchPacketMoved, SwitchValue, switch_site_around, switch_arrival_on_leg, switch_call_counted, switch_stuck_cause, switch_hop_answer, switch_hopped_to, switch_found_link_down as found_by, switch_move_answer, switch_moved_along_route, switch_received, switch_rerouted_here}
use Rattle.switch_core.specs.declared.tunnel_calls.HopEnd.{HopEnd}
use Rattle.switch_core.specs.declared.tunnel_calls.Packet.{Packet}
use Rattle.switch_table.specs.Exports.{HostedPolicyPartition}
use Rattle.tunnel.specs.Exports.{TunnelValue, here, next}
use Rattle.update_machine.proofs.Exports.{have_append, messages_keep, switch_keeps}
use Rattle.control_laws.specs.Exports.{HasControlItemCause}
use Rattle.control_laws.proofs.Exports.{own}
use Rattle.packet_laws.specs.Exports.{IsPacketOnLeg, PacketFacts, packet_stage_of, packet_facts_of}
use Rattle.packet_laws.proofs.Exports.{IsWay, Knows, facts_grow, found_in, knows, last_here, next_in, one_target, route_way}
use Rattle.world_log.specs.Exports.{log_arrival, log_arrival_items, log_arrived_items, log_ended_flight, log_ended_items, log_hop_flight, log_hop_written, log_turned_items}
use Rattle.travelling.specs.Travelling.{TravellingFlight, traveller_standing_at, TravellingStanding}
use Rattle.refinement.proofs.RefinedArrivals.{IsAtEnd, arrival_goes, arrive_comes, arrive_law, at_end_on, end_of_route, ours_of}
use Rattle.refinement.proofs.RefinedOnwardPackets.{AreOfFacts}
use Rattle.refinement.proofs.RefinedSteps.{before_of}
use Rattle.refinement.proofs.RefinedPacketFacts.{Targets, arrived_still, by_targets, facts_along, flight_by, same_targets}
use Rattle.refinement.proofs.RefinedTakenLegs.{Sees, at_switch, cause_law, sees_counted, sees_one}
use Rattle.refinement.proofs.RefinedAuthorityDecisions.{IsAsked}
use Rattle.refinement.proofs.RefinedFlights.{Stands, got, on_leg, on_route_of, tunnel_on}

leg_in_facts : (journal : List Item) (i : ℕ) → journal_leg_of journal i ≡ (packet_facts_of journal i).leg
unfolding packet_facts_of
leg_in_facts journal i = refl

-- the packet goes on, or is stuck before it arrives
abbrev pub stays_by : HopEnd → Bool
stays_by HopEnd.Arrive = false
stays_by _ = true

-- where the packet and its switch are, and what its switch knows
pub record Hops (setting : Setting) (journal : List Item) (i s : ℕ) (header : Header)
    (ingress : ℕ) (leg : Leg) (w : SwitchValue) (mask : ℕ) (ports : Ports) : Type 0 where
  pub stands : Stands setting journal i s header ingress leg
  pub sees : Sees setting journal s w mask
  pub owners : AreNetPortOwners setting.net.switches ports

-- within the step the switch is asked as before it
pub record StaysAsked (setting : Setting) (journal : List Item) (s : ℕ) (header : Header)
    (leg : Leg) (w : SwitchValue) (mask : ℕ) (now : List Item) : Type 0 where
  pub caused : JournalItemsHaveCauses (HasControlItemCause setting) [] now
  pub serving : IsTrue (serves now s)
  pub sees : Sees setting now s w mask
  pub numbered : journal_next_message now ≡ journal_next_message journal
  pub leads : (leg : Leg) → journal_leg_targets setting now leg ≡ journal_leg_targets setting journal leg
  pub at_end : IsAtEnd setting journal s header leg → IsAtEnd setting now s header leg

-- and the packet has these facts there, on its leg
pub record AreFactsNow (facts : PacketFacts) (header : Header) (ingress : ℕ) (leg : Leg) (i : ℕ)
    (now : List Item) (ws : PacketFacts) (found : List ℕ) : Type 0 where
  pub same : packet_facts_of now i ≡ ws
  pub entered : ws.header ≡ Some header
  pub came : ws.ingress ≡ Some ingress
  pub takes : ws.leg ≡ Some leg
  pub on : ws.travels ≡ true
  pub decision : ws.decision ≡ facts.decision
  pub marked : ws.found ≡ found

module _ (setting : Setting) (journal : List Item) (row i s : ℕ) (header : Header)
    (ingress : ℕ) (leg : Leg) (w : SwitchValue) (mask : ℕ) (ports : Ports)
    (hops : Hops setting journal i s header ingress leg w mask ports) where
  abbrev begun : List Item
  begun = journal ++ Item.Row row (Hop i) ∷ []

  abbrev met : ℕ → List Item
  met two = begun ++ Item.FoundDown i s two ∷ []

  abbrev turned : ℕ → List ℕ → List Item
  turned two route = met two ++ Item.Rerouted i route ∷ []

  abbrev facts : PacketFacts
  facts = packet_facts_of journal i

  abbrev targets : Targets
  targets = journal_leg_targets setting journal

  abbrev down : ℕ → List ℕ
  down two = with_failover_link facts.found s two

  abbrev at_place : List ℕ → ℕ → List ℕ → TravellingFlight
  at_place route k found = on_route_of targets i facts header ingress leg route k found

  abbrev t : TravellingFlight
  t = at_place facts.route facts.hops facts.found

  abbrev number : ℕ
  number = journal_next_message journal

  abbrev packet : List ℕ → Packet
  packet found = record { number = i; header = header; ingress = ingress; down = found }

  -- ---- within the step

  abbrev Stays : List Item → Type 0
  Stays now = StaysAsked setting journal s header leg w mask now

  stays_begun : Stays begun
  stays_begun = record {
    caused = have_append (HasControlItemCause setting) [] journal (Item.Row row (Hop i) ∷ [])
        hops.stands.knows.caused (tt, tt);
    serving = (switch_keeps setting s journal (Item.Row row (Hop i) ∷ []) (refl, tt)).serving
        ∙ hops.stands.serving;
    sees = sees_one setting journal (Item.Row row (Hop i)) s w mask
        (record { switch = refl; links = refl; policies = refl }) hops.sees;
    numbered = (messages_keep journal (Item.Row row (Hop i) ∷ []) (refl, tt)).next;
    leads = same_targets setting journal (Item.Row row (Hop i) ∷ []) (refl, tt);
    at_end = at_end_on setting journal (Item.Row row (Hop i) ∷ []) s header leg (refl, tt);
  }

  stays_met : (two : ℕ) → Stays (met two)
  stays_met two = let one : Item = Item.FoundDown i s two in record {
    caused = have_append (HasControlItemCause setting) [] begun (one ∷ []) stays_begun.caused (tt, tt);
    serving = (switch_keeps setting s begun (one ∷ []) (refl, tt)).serving ∙ stays_begun.serving;
    sees = sees_one setting begun one s w mask
        (record { switch = refl; links = refl; policies = refl }) stays_begun.sees;
    numbered = (messages_keep begun (one ∷ []) (refl, tt)).next ∙ stays_begun.numbered;
    leads = λ leg. same_targets setting begun (one ∷ []) (refl, tt) leg ∙ stays_begun.leads leg;
    at_end = λ end. at_end_on setting begun (one ∷ []) s header leg (refl, tt)
        (stays_begun.at_end end);
  }

  stays_turned : (two : ℕ) (route : List ℕ) → Stays (turned two route)
  stays_turned two route = let one : Item = Item.Rerouted i route in record {
    caused = have_append (HasControlItemCause setting) [] (met two) (one ∷ []) (stays_met two).caused
        (tt, tt);
    serving = (switch_keeps setting s (met two) (one ∷ []) (refl, tt)).serving
        ∙ (stays_met two).serving;
    sees = sees_one setting (met two) one s w mask
        (record { switch = refl; links = refl; policies = refl }) (stays_met two).sees;
    numbered = (messages_keep (met two) (one ∷ []) (refl, tt)).next ∙ (stays_met two).numbered;
    leads = λ leg. same_targets setting (met two) (one ∷ []) (refl, tt) leg
        ∙ (stays_met two).leads leg;
    at_end = λ end. at_end_on setting (met two) (one ∷ []) s header leg (refl, tt)
        ((stays_met two).at_end end);
  }

  -- ---- the packet's facts there

  facts_begun : packet_facts_of begun i ≡ facts
  facts_begun = facts_grow i journal (Item.Row row (Hop i))

  abbrev facts_met : ℕ → PacketFacts
  facts_met two = record facts { found = down two }

  met_is : (two : ℕ) → packet_facts_of (met two) i ≡ facts_met two
  met_is two = facts_grow i begun (Item.FoundDown i s two) ∙ rw (own i, facts_begun) refl

  abbrev facts_turned : ℕ → List ℕ → PacketFacts
  facts_turned two route = record facts { found = down two; route = route; hops = 0 }

  turned_is : (two : ℕ) (route : List ℕ)
      → packet_facts_of (turned two route) i ≡ facts_turned two route
  turned_is two route = facts_grow i (met two) (Item.Rerouted i route) ∙ rw (own i, met_is two) refl

  -- ---- where it arrives

  abbrev AreNow : List Item → PacketFacts → List ℕ → Type 0
  AreNow now ws found = AreFactsNow (packet_facts_of journal i) header ingress leg i now ws found

  asked_now : (now : List Item) (ws : PacketFacts) (found : List ℕ) → Stays now
      → AreNow now ws found → IsAsked setting now s (switch_call_counted w) mask ports (packet found)
  asked_now now ws found stays are = record {
    is = hops.stands.knows.is;
    caused = stays.caused;
    there = hops.stands.there;
    serving = stays.serving;
    sees = sees_counted setting now s w mask stays.sees;
    owners = hops.owners;
    sound = hops.stands.sound;
    of_packet = record {
      entered = ap (λ ws. ws.header) are.same ∙ are.entered;
      came = ap (λ ws. ws.ingress) are.same ∙ are.came;
      found = ap (λ ws. ws.found) are.same ∙ are.marked;
    };
  }

  of_now : (now : List Item) (ws : PacketFacts) (found : List ℕ) → AreNow now ws found
      → AreOfFacts t.version t.rule ws
  of_now now ws found are = record { its_version = cc are.decision; its_rule = cc are.decision }

  -- the switch's answer is what the journal's definitions say
  arrival_is : (now : List Item) (ws : PacketFacts) (route : List ℕ) (k : ℕ) (found : List ℕ)
      → Stays now → AreNow now ws found → IsAtEnd setting now s header leg
      → machine_arrive_items setting i s now
      ≡ log_arrival_items number (switch_call_counted w) mask ports (at_place route k found)
  unfolding log_arrival_items switch_received
  arrival_is now ws route k found stays are end =
      let u : TravellingFlight = at_place route k found in
      let what : SwitchArrival = switch_arrival_on_leg (switch_call_counted w) (switch_site_around mask ports) (packet found) leg in
      arrive_law setting now s (switch_call_counted w) mask ports (packet found)
      (asked_now now ws found stays are) u leg
      (subst (AreOfFacts t.version t.rule) (sym are.same) (of_now now ws found are))
      (ap (λ ws. ws.leg) are.same ∙ are.takes) end
      ∙ ap (λ n. log_arrived_items n (at_switch s (packet found)) u.version u.rule what) stays.numbered
      ∙ ap (λ s. log_arrived_items number (traveller_standing_at s u) u.version u.rule what) (sym hops.sees.number)

  -- and so the packet goes on
  arrival_goes_on : (now : List Item) (ws : PacketFacts) (route : List ℕ) (k : ℕ)
      (found : List ℕ) → Stays now → AreNow now ws found
      → log_arrival (switch_call_counted w) mask ports (at_place route k found)
      ≡ flight_by targets i (facts_along i now
      (log_arrival_items number (switch_call_counted w) mask ports (at_place route k found)) ws)
  unfolding log_arrival log_arrival_items switch_received
  arrival_goes_on now ws route k found stays are =
      let u : TravellingFlight = at_place route k found in
      let what : SwitchArrival = switch_arrival_on_leg (switch_call_counted w) (switch_site_around mask ports) (packet found) leg in
      let at : TravellingStanding = at_switch s (packet found) in
      arrival_goes (journal_leg_targets setting now) now number at u what ws
      (record { on = are.on; header = are.entered; came = are.came; found = are.marked })
      (of_now now ws found are)
      (arrive_comes setting now s (switch_call_counted w) mask ports (packet found)
      (asked_now now ws found stays are) leg)
      ∙ by_targets (journal_leg_targets setting now) targets i
      (facts_along i now (log_arrived_items number at u.version u.rule what) ws) (stays.leads _)
      ∙ ap (λ s. flight_by targets i
      (facts_along i now (log_arrived_items number (traveller_standing_at s u) u.version u.rule what) ws))
      (sym hops.sees.number)

  arrival_stays : (route : List ℕ) (k : ℕ) (found : List ℕ)
      → journal_hop_stays_on_way (log_arrival_items number (switch_call_counted w) mask ports (at_place route k found)) ≡ false
  unfolding log_arrival_items
  arrival_stays route k found = let u : TravellingFlight = at_place route k found in
      arrived_still number (traveller_standing_at (switch_call_counted w).number u) u
      (switch_received (switch_call_counted w) (switch_site_around mask ports) u.tunnel)

  -- ---- what a hop comes to

  abbrev moved_to : SwitchPacketMoved → TravellingFlight
  moved_to m = record t { tunnel = m.tunnel }

  abbrev written : ℕ → Option ℕ → SwitchPacketMoved → List Item
  written at found m = log_turned_items i at found m.end m.tunnel.route
      ++ log_ended_items number (switch_call_counted w) mask ports (moved_to m) m.end

  -- what it writes, where the packet is then, and how many calls it is
  abbrev Outcome : ℕ → Option ℕ → SwitchPacketMoved → Type 0
  Outcome at found m = (machine_move_items setting i s begun ≡ written at found m)
      × (log_ended_flight (switch_call_counted w) mask ports (moved_to m) m.end
      ≡ flight_by targets i (facts_along i begun (written at found m) facts))
      × (journal_hop_stays_on_way (written at found m) ≡ stays_by m.end)

  abbrev move_by : Option ℕ → List Item
  move_by o = elim o [
    | None ↦ machine_arrive_items setting i s begun
    | Some next ↦ elim (has (near setting begun s) next) [
      | true ↦ Item.Hopped i next ∷ []
      | false ↦ journal_items_then (Item.FoundDown i s next ∷ []) (machine_reroute_items setting i s) begun
    ]
  ]

  next_is : journal_next_switch begun i ≡ next t.tunnel
  next_is = cc (next_in begun i, facts_begun)

  moves_are : (o : Option ℕ) → next t.tunnel ≡ o → machine_move_items setting i s begun ≡ move_by o
  unfolding machine_move_items
  moves_are o is = ap move_by (next_is ∙ is)

  links_are : (two : ℕ) (b : Bool) → has mask two ≡ b → has (near setting begun s) two ≡ b
  links_are two b is = ap (λ links. has links two) (sym stays_begun.sees.usable) ∙ is

  are_begun : AreNow begun facts facts.found
  are_begun = search (rules, facts_begun)

  -- it is at the end of its route
  arrives : next t.tunnel ≡ None → Outcome s None (switch_move_answer t.tunnel None)
  arrives last = (
    moves_are None last ∙ arrival_is begun facts facts.route facts.hops facts.found stays_begun
        are_begun (stays_begun.at_end (end_of_route setting journal s facts header leg
        hops.stands.knows hops.stands.sound hops.stands.on_leg hops.stands.here last)),
    arrival_goes_on begun facts facts.route facts.hops facts.found stays_begun are_begun,
    arrival_stays facts.route facts.hops facts.found,
  )

  -- it moves over a link that is usable
  moves : (two : ℕ) → next t.tunnel ≡ Some two → has mask two ≡ true
      → Outcome s None (switch_move_answer t.tunnel (Some two))
  moves two goes usable = (
    moves_are (Some two) goes ∙ ap (λ b. elim b [
      | true ↦ Item.Hopped i two ∷ []
      | false ↦ journal_items_then (Item.FoundDown i s two ∷ []) (machine_reroute_items setting i s) begun
    ]) (links_are two true usable),
    search (rules, own i),
    refl,
  )

  -- ---- the link is found down

  abbrev tunnel_down : ℕ → TunnelValue
  tunnel_down two = tunnel_on targets i header ingress leg facts.route facts.hops (down two)

  -- the route that the switch knows around it
  abbrev route_down : ℕ → Leg → Option (List ℕ)
  route_down two leg = route_of w.database w.number (targets leg) mask (down two)

  here_is : here t.tunnel ≡ s
  here_is = got facts.route facts.hops s hops.stands.here

  found_is : (two : ℕ) → next t.tunnel ≡ Some two → has mask two ≡ false
      → found_by mask (next t.tunnel) ≡ Some two
  found_is two goes off = ap (found_by mask) goes ∙ rw off refl

  blocked_is : (two : ℕ) → next t.tunnel ≡ Some two → has mask two ≡ false
      → switch_hop_answer w mask t.tunnel ≡ switch_moved_along_route w mask (tunnel_down two) (route_down two leg)
  unfolding switch_hop_answer switch_rerouted_here
  blocked_is two goes off =
      let along : ℕ → ℕ → SwitchPacketMoved = λ n k. switch_moved_along_route w mask
      (tunnel_on targets i header ingress leg facts.route facts.hops (with_failover_link facts.found n two))
      (route_of w.database k (targets leg) mask (with_failover_link facts.found n two)) in
      ap (switch_hopped_to w mask t.tunnel) (found_is two goes off)
      ∙ ap (λ n. along n n) here_is
      ∙ ap (along s) (sym hops.sees.number)

  found_met : (two : ℕ) → journal_found_down (met two) i ≡ down two
  found_met two = found_in (met two) i ∙ ap (λ (ws : PacketFacts). ws.found) (met_is two)

  route_met : (two : ℕ) → journal_packet_route setting (met two) i s leg ≡ route_down two leg
  route_met two =
      ap (journal_route_from setting (met two) s (journal_leg_targets setting (met two) leg)) (found_met two)
      ∙ ap (λ to. journal_route_from setting (met two) s to (down two)) ((stays_met two).leads leg)
      ∙ sym ((stays_met two).sees.route (targets leg) (down two))

  abbrev reroute_by_route : ℕ → Option (List ℕ) → List Item
  reroute_by_route two o = elim o [
    | None ↦ machine_stuck_on_leg_item setting (met two) i s leg ∷ []
    | Some route ↦ journal_items_then (Item.Rerouted i route ∷ []) (machine_onward_items setting i s) (met two)
  ]

  reroutes : (two : ℕ) (o : Option (List ℕ)) → route_down two leg ≡ o
      → machine_reroute_items setting i s (met two) ≡ reroute_by_route two o
  unfolding machine_reroute_items
  reroutes two o is =
      cc (leg_in_facts (met two) i, met_is two, hops.stands.takes, route_met two, is)

  blocked_items : (two : ℕ) (o : Option (List ℕ)) → next t.tunnel ≡ Some two
      → has mask two ≡ false → route_down two leg ≡ o → machine_move_items setting i s begun
      ≡ Item.FoundDown i s two ∷ reroute_by_route two o
  blocked_items two o goes off is = moves_are (Some two) goes ∙ ap (λ b. elim b [
    | true ↦ Item.Hopped i two ∷ []
    | false ↦ journal_items_then (Item.FoundDown i s two ∷ []) (machine_reroute_items setting i s) begun
  ]) (links_are two false off)
      ∙ ap (λ more. Item.FoundDown i s two ∷ more) (reroutes two o is)

  abbrev written_stuck : ℕ → ℕ → Cause → List ℕ → List Item
  written_stuck two n cause found = Item.FoundDown i s two ∷ Item.Stuck i n cause leg found ∷ []

  -- there is no other route
  stuck : (two : ℕ) → next t.tunnel ≡ Some two → has mask two ≡ false → route_down two leg ≡ None
      → Outcome s (Some two) (switch_moved_along_route w mask (tunnel_down two) None)
  stuck two goes off none = (
    blocked_items two None goes off none
        ∙ ap (λ found. written_stuck two s (journal_stuck_cause_at setting (met two) s found leg) found)
        (found_met two) ∙ ap (λ cause. written_stuck two s cause (down two))
        (cause_law setting (met two) s w mask (stays_met two).sees (down two) leg
        ∙ ap (switch_stuck_cause w mask (down two) leg) ((stays_met two).leads leg))
        ∙ ap (λ n. written_stuck two n (switch_stuck_cause w mask (down two) leg (targets leg)) (down two))
        (sym hops.sees.number),
    rw (own i) refl,
    refl,
  )

  next_turned : (two : ℕ) (route : List ℕ) → journal_next_switch (turned two route) i ≡ slice_get route 1
  next_turned two route = cc (next_in (turned two route) i, turned_is two route)

  abbrev go_by : ℕ → List ℕ → Option ℕ → List Item
  go_by two route o = elim o [
    | None ↦ machine_arrive_items setting i s (turned two route)
    | Some next ↦ Item.Hopped i next ∷ []
  ]

  -- it moves on along another route
  detours : (two : ℕ) (route : List ℕ) (other : ℕ) → next t.tunnel ≡ Some two
      → has mask two ≡ false → route_down two leg ≡ Some route → slice_get route 1 ≡ Some other
      → Outcome s (Some two)
      (switch_move_answer (record (tunnel_down two) { route = route; place = 0 }) (Some other))
  detours two route other goes off is on = (
    cc (blocked_items two (Some route) goes off is, next_turned two route, on),
    search (rules, own i),
    refl,
  )

  -- or is at its end, at another target of its leg
  links_there : Knows setting journal i (packet_stage_of journal i)
  links_there = knows setting journal i (before_of setting journal hops.stands.knows)

  ends_there : (two : ℕ) (route : List ℕ) (l : Leg) → IsPacketOnLeg setting journal facts header l
      → route_down two l ≡ Some route → slice_get route 1 ≡ None
      → IsAtEnd setting journal s header l
  ends_there two route (Exit port) on is last =
      let way = route_way setting journal s (targets (Exit port)) (down two) route links_there.links
      (sym (hops.sees.route (targets (Exit port)) (down two)) ∙ is) in
      on.has_port ∙ ap Some (sym (ap (λ o. unwrap_or o machine_no_switch) on.has_port)
      ∙ sym (one_target way.leads.ends.target (owner setting port) way.leads.ends.own)
      ∙ sym (last_here route 0 s way.leads.ends.target way.begins last way.leads.ends.last))
  ends_there two route (Seek version partition) on is last =
      let way = route_way setting journal s (targets (Seek version partition)) (down two) route
      links_there.links
      (sym (hops.sees.route (targets (Seek version partition)) (down two)) ∙ is) in
      ours_of setting journal s facts header version partition hops.stands.knows
      hops.stands.sound on
      (subst (λ all. IsTrue (list_any (nat_eq s) all))
      (ap (λ (o : Option HostedPolicyPartition). unwrap_or (option_map (λ p. p.1) o) []) on.own.found)
      (subst (λ k. IsTrue (list_any (nat_eq k) (targets (Seek version partition))))
      (sym (last_here route 0 s way.leads.ends.target way.begins last way.leads.ends.last))
      way.leads.ends.own))

  are_turned : (two : ℕ) (route : List ℕ)
      → AreNow (turned two route) (facts_turned two route) (down two)
  are_turned two route = search (rules, turned_is)

  turned_along : (two : ℕ) (route : List ℕ) (items : List Item)
      → facts_along i begun (Item.FoundDown i s two ∷ Item.Rerouted i route ∷ items) facts
      ≡ facts_along i (turned two route) items (facts_turned two route)
  turned_along two route items = rw (own i) refl

  arrives_there : (two : ℕ) (route : List ℕ) → next t.tunnel ≡ Some two
      → has mask two ≡ false → route_down two leg ≡ Some route → slice_get route 1 ≡ None
      → Outcome s (Some two)
      (switch_move_answer (record (tunnel_down two) { route = route; place = 0 }) None)
  arrives_there two route goes off is last =
      let now : List Item = turned two route in
      let items : List Item =
      log_arrival_items number (switch_call_counted w) mask ports (at_place route 0 (down two)) in (
        blocked_items two (Some route) goes off is
            ∙ ap (λ o. Item.FoundDown i s two ∷ Item.Rerouted i route ∷ go_by two route o)
            (next_turned two route ∙ last)
            ∙ ap (λ more. Item.FoundDown i s two ∷ Item.Rerouted i route ∷ more)
            (arrival_is now (facts_turned two route) route 0 (down two) (stays_turned two route)
            (are_turned two route)
            ((stays_turned two route).at_end (ends_there two route leg hops.stands.on_leg is last))),
        arrival_goes_on now (facts_turned two route) route 0 (down two) (stays_turned two route)
            (are_turned two route) ∙ ap (flight_by targets i) (sym (turned_along two route items)),
        arrival_stays route 0 (down two),
      )

  -- ---- all of it

  by_route : (two : ℕ) (o : Option (List ℕ)) → next t.tunnel ≡ Some two → has mask two ≡ false
      → route_down two leg ≡ o → Outcome s (Some two) (switch_moved_along_route w mask (tunnel_down two) o)
  by_route two None goes off is = stuck two goes off is
  by_route two (Some route) goes off is = by_next (slice_get route 1) refl where
    by_next : (o : Option ℕ) → slice_get route 1 ≡ o → Outcome s (Some two)
        (switch_move_answer (record (tunnel_down two) { route = route; place = 0 }) o)
    by_next None last = arrives_there two route goes off is last
    by_next (Some other) on = detours two route other goes off is on

  by_outcome : (found : Option ℕ) (m : SwitchPacketMoved) → found_by mask (next t.tunnel) ≡ found
      → switch_hop_answer w mask t.tunnel ≡ m → Outcome s found m
      → Outcome w.number (found_by mask (next t.tunnel)) (switch_hop_answer w mask t.tunnel)
  by_outcome found m found_it moved_it outcome =
      subst (λ n. Outcome n (found_by mask (next t.tunnel)) (switch_hop_answer w mask t.tunnel))
      (sym hops.sees.number) (subst (λ f. Outcome s f (switch_hop_answer w mask t.tunnel)) (sym found_it)
      (subst (Outcome s found) (sym moved_it) outcome))

  none_found : (o : Option ℕ) → next t.tunnel ≡ o → found_by mask (next t.tunnel) ≡ None
      → switch_hop_answer w mask t.tunnel ≡ switch_move_answer t.tunnel o
  unfolding switch_hop_answer
  none_found o is none = ap (switch_hopped_to w mask t.tunnel) none ∙ ap (switch_move_answer t.tunnel) is

  outcome : Outcome w.number (found_by mask (next t.tunnel)) (switch_hop_answer w mask t.tunnel)
  outcome = by_next (next t.tunnel) refl where
    by_link : (two : ℕ) (b : Bool) → next t.tunnel ≡ Some two → has mask two ≡ b
        → Outcome w.number (found_by mask (next t.tunnel)) (switch_hop_answer w mask t.tunnel)
    by_link two true goes usable = let none = ap (found_by mask) goes ∙ rw usable refl in
        by_outcome None (switch_move_answer t.tunnel (Some two)) none (none_found (Some two) goes none)
        (moves two goes usable)
    by_link two false goes off = by_outcome (Some two)
        (switch_moved_along_route w mask (tunnel_down two) (route_down two leg)) (found_is two goes off)
        (blocked_is two goes off) (by_route two (route_down two leg) goes off refl)

    by_next : (o : Option ℕ) → next t.tunnel ≡ o
        → Outcome w.number (found_by mask (next t.tunnel)) (switch_hop_answer w mask t.tunnel)
    by_next None last = let none : found_by mask (next t.tunnel) ≡ None = ap (found_by mask) last in
        by_outcome None (switch_move_answer t.tunnel None) none (none_found None last none)
        (arrives last)
    by_next (Some two) goes = by_link two (has mask two) goes refl

  -- where it arrives its switch is asked once more
  pub arrives_at_end : (switch_hop_answer w mask (on_leg (journal_leg_targets setting journal) i
      (packet_facts_of journal i)
      header ingress leg).tunnel).end ≡ HopEnd.Arrive → IsAtEnd setting journal s header leg
  arrives_at_end arrive = by_next (next t.tunnel) refl where
    ended : (m : SwitchPacketMoved) → switch_hop_answer w mask t.tunnel ≡ m → m.end ≡ HopEnd.Arrive
    ended m is = ap (λ (m : SwitchPacketMoved). m.end) (sym is) ∙ arrive

    by_link : (two : ℕ) (b : Bool) → next t.tunnel ≡ Some two → has mask two ≡ b
        → IsAtEnd setting journal s header leg
    by_link two true goes usable = absurd (cc (ended (switch_move_answer t.tunnel (Some two))
        (none_found (Some two) goes (ap (found_by mask) goes ∙ rw usable refl))))
    by_link two false goes off = by_way (route_down two leg) refl where
      by_turn : (route : List ℕ) (o : Option ℕ) → route_down two leg ≡ Some route
          → slice_get route 1 ≡ o → IsAtEnd setting journal s header leg
      by_turn route None is last = ends_there two route leg hops.stands.on_leg is last
      by_turn route (Some other) is on =
          absurd (cc (ended (switch_move_answer (record (tunnel_down two) { route = route; place = 0 })
          (Some other)) (blocked_is two goes off ∙ ap (switch_moved_along_route w mask (tunnel_down two)) is
          ∙ ap (switch_move_answer (record (tunnel_down two) { route = route; place = 0 })) on)))

      by_way : (o : Option (List ℕ)) → route_down two leg ≡ o → IsAtEnd setting journal s header leg
      by_way None none = absurd (cc (ended (switch_moved_along_route w mask (tunnel_down two) None)
          (blocked_is two goes off ∙ ap (switch_moved_along_route w mask (tunnel_down two)) none)))
      by_way (Some route) is = by_turn route (slice_get route 1) is refl

    by_next : (o : Option ℕ) → next t.tunnel ≡ o → IsAtEnd setting journal s header leg
    by_next None last = end_of_route setting journal s facts header leg hops.stands.knows
        hops.stands.sound hops.stands.on_leg hops.stands.here last
    by_next (Some two) goes = by_link two (has mask two) goes refl

  -- what it writes
  pub hop_law : machine_move_items setting i s (journal ++ Item.Row row (Hop i) ∷ [])
      ≡ log_hop_written (journal_next_message journal) w mask ports
      (on_leg (journal_leg_targets setting journal) i (packet_facts_of journal i) header ingress leg)
  hop_law = outcome.0

  -- where the packet is then
  pub hop_goes : log_hop_flight w mask ports
      (on_leg (journal_leg_targets setting journal) i (packet_facts_of journal i) header ingress leg)
      ≡ flight_by (journal_leg_targets setting journal) i (facts_along i (journal ++ Item.Row row (Hop i)
      ∷ []) (log_hop_written (journal_next_message journal) w mask ports (on_leg (journal_leg_targets setting journal) i
      (packet_facts_of journal i) header ingress leg)) (packet_facts_of journal i))
  hop_goes = outcome.1

  -- and whether its switch is called once or twice
  pub hop_stays : journal_hop_stays_on_way (log_hop_written (journal_next_message journal) w mask ports
      (on_leg (journal_leg_targets setting journal) i (packet_facts_of journal i) header ingress leg))
      ≡ stays_by (switch_hop_answer w mask (on_leg (journal_leg_targets setting journal) i (packet_facts_of journal i)
      header ingress leg).tunnel).end
  hop_stays = outcome.2
