-- What a hop of a packet on its way writes, the calls that it counts, and where packets are then.
use Rattle.std.proofs.Common.{[], ◌&&◌, ◌++◌, ◌<◌, ◌==◌, ◌∙◌, ◌∷◌, ◌≡◌, Bool, IsTrue, List, None, Option, Some, ap, arith, cond, false, get_or, if◌then◌else◌, length, refl, slice_get, slice_index, subst, sym, true, unwrap_or, ℕ}
use Rattle.update_machine.specs.Exports.{Exit, Header, Hop, Item, Leg, NoMachineItemConcerns, Ports, Seek, Setting, machine_item_concerns_known, machine_count_of, machine_hop_items as hop_items_of, is_at_machine_switch, is_machine_packet_entry, machine_move_items, near, journal_next_message, nothing, piece, journal_plan_at, journal_standing_of, journal_hop_stays_on_way, journal_leg_targets, travels_in_journal, journal_travels_at}
use Rattle.net_file.specs.Exports.{AreNetPortOwners}
use Rattle.switch_core.specs.Exports.{CanSwitchLookUp, MaySwitchEndLeg, SwitchStandsAtRoutePlace, SwitchValue, switch_site_around, switch_call_counted, switch_hop_answer, switch_found_link_down, switch_received, serves}
use Rattle.switch_core.specs.declared.tunnel_calls.HopEnd.TheVariants as hop
use Rattle.refinement.specs.Exports.{AreRefinedInStep, RefinedNetworkState, RefineJournal, refined_flight_in, refined_switch_of}
use Rattle.refinement.proofs.RefinedSwitchKnowledge.{requirements_hold}
use Rattle.tunnel.specs.Exports.{here, next}
use Rattle.control_laws.specs.Exports.{ControlLegEndsAt}
use Rattle.packet_laws.specs.Exports.{PacketFacts, packet_facts_of}
use Rattle.travelling.specs.Travelling.{TravellingFlight, flight, traveller_standing_at}
use Rattle.refinement.proofs.RefinedArrivals.{IsAtEnd}
use Rattle.refinement.proofs.RefinedSteps.{Known, flight_stays, reached_known}
use Rattle.refinement.proofs.RefinedMovedPacket.{Hops, arrives_at_end, hop_goes, hop_law, hop_stays, stays_by}
use Rattle.refinement.proofs.RefinedFlights.{IsStanding, got, on_leg, standing_by}
use Rattle.refinement.proofs.RefinedTakenLegs.{Sees, sees}
use Rattle.refinement.proofs.RefinedSwitchFacts.{number_shown}
use Rattle.refinement.proofs.RefinedPacketFacts.{NoneName, arrived_later, arrived_other, flight_along, flight_now, hop_sends, later_packets, none_more}
use Rattle.refinement.proofs.RefinedNetworkSwitches.{switch_is}
use Rattle.base.proofs.Exports.{sum_by-cons}
use Rattle.switch_core.specs.declared.tunnel_calls.HopEnd.{HopEnd}
use Rattle.refinement.proofs.RefinedSwitchSteps.{calls_refine}
use Rattle.packet_laws.proofs.Exports.{facts_grow}
use Rattle.world_log.specs.Exports.{log_arrival_items, log_ended_items, log_ended_switch, log_hop_flight, log_hop_written, log_hopped_flight, log_turned_items}
use Rattle.world_log.proofs.LogPacketMoves.{hopped_same}
use Rattle.refinement.proofs.RefinedPostedFrames.{are_apart}

-- ---- a packet on its way, and its switch, as that is asked what becomes of it

-- the switch and its usable links are as the journal says
pub sees_as : (setting : Setting) (journal : List Item) (s mask : ℕ) (w : SwitchValue)
    → Known setting journal → s < length setting.net.switches → w ≡ refined_switch_of setting journal s
    → mask ≡ near setting journal s → Sees setting journal s w mask
sees_as setting journal s mask w knows there own usable = subst (Sees setting journal s w)
    (sym usable) (rw own (sees setting journal s knows there))

pub looks_up_as : (setting : Setting) (journal : List Item) (s : ℕ) (w : SwitchValue)
    → Known setting journal → s < length setting.net.switches
    → w ≡ refined_switch_of setting journal s → CanSwitchLookUp w
looks_up_as setting journal s w knows there own =
    subst CanSwitchLookUp (sym own) (requirements_hold.enter setting journal s knows.holds there)

-- ---- a packet on its way

pub stands_at : (setting : Setting) (journal : List Item) (i : ℕ) (t : TravellingFlight)
    (standing : IsStanding setting journal i t) → here t.tunnel ≡ standing.switch
stands_at setting journal i t standing =
    ap (λ (u : TravellingFlight). here u.tunnel) standing.is
    ∙ got (packet_facts_of journal i).route (packet_facts_of journal i).hops standing.switch standing.stands.here

-- at the end of its route, the switch is where its leg leads
ends_at : (setting : Setting) (journal : List Item) (s : ℕ) (header : Header) (leg : Leg)
    → IsAtEnd setting journal s header leg → ControlLegEndsAt setting journal s header leg
ends_at setting journal s header (Seek version partition) end = record {
  hosted = end.hosted;
  found = subst (λ k. slice_get (journal_plan_at setting journal version) k ≡ Some end.hosted) end.number
      end.finds.at;
  number = end.number;
  holds = end.finds.holds;
  target = end.target;
}
ends_at setting journal s header (Exit port) end = end

-- all that its switch must be to be asked
pub record CanAsk (setting : Setting) (journal : List Item) (i : ℕ) (t : TravellingFlight) (s near : ℕ)
    (w : SwitchValue) (ports : Ports) : Type 0 where
  pub standing : IsStanding setting journal i t
  pub at : s ≡ standing.switch
  pub hops : Hops setting journal i standing.switch standing.header standing.ingress standing.leg w
      near ports
  pub stands : SwitchStandsAtRoutePlace w t.tunnel.route t.tunnel.place
  pub serving : IsTrue (serves w)
  pub stamped : CanSwitchLookUp w
  pub authority : (switch_hop_answer w near t.tunnel).end ≡ hop.Arrive
      → MaySwitchEndLeg w t.tunnel.header t.tunnel.leg

pub can_be_asked : (setting : Setting) (journal : List Item) (i : ℕ) (t : TravellingFlight) (s mask : ℕ)
    (w : SwitchValue) (ports : Ports) → Known setting journal
    → AreNetPortOwners setting.net.switches ports → IsStanding setting journal i t
    → s ≡ here t.tunnel → w ≡ refined_switch_of setting journal s → mask ≡ near setting journal s
    → CanAsk setting journal i t s mask w ports
can_be_asked setting journal i t s mask w ports knows owners standing at own usable =
    let here_it : s ≡ standing.switch = at ∙ stands_at setting journal i t standing in
    let there : s < length setting.net.switches = omega (arith, here_it, standing.stands.there) in
    let hops : Hops setting journal i standing.switch standing.header standing.ingress standing.leg w
    mask ports = record {
      stands = standing.stands;
      sees = rw here_it at (sees_as setting journal s mask w knows there own usable);
      owners = owners;
    } in
    let is_switch = own ∙ ap (refined_switch_of setting journal) here_it in record {
      standing = standing;
      at = here_it;
      hops = hops;
      stands = subst (λ (u : TravellingFlight). SwitchStandsAtRoutePlace w u.tunnel.route u.tunnel.place) (sym standing.is)
          (standing.stands.here ∙ ap Some (sym (ap (λ (v : SwitchValue). v.number) is_switch
          ∙ number_shown setting journal standing.switch)));
      serving = hops.sees.serving ∙ standing.stands.serving;
      stamped = looks_up_as setting journal s w knows there own;
      authority = λ arrive. rw standing.is (rw is_switch
          (requirements_hold.arrive setting journal standing.switch standing.header standing.leg
          knows.tables knows.serving knows.holds standing.stands.there standing.stands.serving
          (ends_at setting journal standing.switch standing.header standing.leg
          (arrives_at_end setting journal 0 i standing.switch standing.header standing.ingress
          standing.leg w mask ports hops (ap (λ (u : TravellingFlight). (switch_hop_answer w mask u.tunnel).end)
          (sym standing.is) ∙ arrive)))).authority);
    }

-- ---- the switch where a packet enters, or is on its way, when it is asked what becomes of it

module _ {setting : Setting} {journal : List Item} {state : RefinedNetworkState}
    (refines : RefineJournal setting journal state) where
  pub known_of : Known setting journal
  known_of = reached_known setting journal refines.sound refines.reached

  -- the links of a switch are as the journal says
  pub mask_is : (s : ℕ) → s < length setting.net.switches
      → slice_index state.near s ≡ near setting journal s
  mask_is s there = refines.usable s (omega (arith, there, refines.sound.net.few_switches))

  pub seen : (s : ℕ) (w : SwitchValue) → s < length setting.net.switches
      → w ≡ get_or state.switches s w → Sees setting journal s w (slice_index state.near s)
  seen s w there its = sees_as setting journal s (slice_index state.near s) w known_of there
      (switch_is refines s w there its) (mask_is s there)

  pub can_look_up : (s : ℕ) (w : SwitchValue) → s < length setting.net.switches
      → w ≡ get_or state.switches s w → CanSwitchLookUp w
  can_look_up s w there its =
      looks_up_as setting journal s w known_of there (switch_is refines s w there its)

  -- ---- a packet on its way

  pub standing_of : (i : ℕ) (t : TravellingFlight) → flight state.travelling i ≡ Some t
      → IsStanding setting journal i t
  standing_of i t its =
      standing_by setting journal i t (reached_known setting journal refines.sound refines.reached)
      (sym (refines.packet i ∙ flight_now setting journal i) ∙ its)

  -- its switch is there
  pub within_here : (i : ℕ) (t : TravellingFlight) (s : ℕ) → flight state.travelling i ≡ Some t
      → s ≡ here t.tunnel → s < length state.switches
  within_here i t s its at = let standing : IsStanding setting journal i t = standing_of i t its in
      omega (
        arith,
        at ∙ stands_at setting journal i t standing,
        standing.stands.there,
        refines.many,
      )

  pub can_ask : (i : ℕ) (t : TravellingFlight) (s : ℕ) (w : SwitchValue) (ports : Ports)
      → AreNetPortOwners setting.net.switches ports → flight state.travelling i ≡ Some t
      → s ≡ here t.tunnel → w ≡ get_or state.switches s w
      → CanAsk setting journal i t s (slice_index state.near s) w ports
  can_ask i t s w ports owners its at own =
      let standing = standing_of i t its in
      let there : s < length setting.net.switches =
      omega (arith, at ∙ stands_at setting journal i t standing, standing.stands.there) in
      can_be_asked setting journal i t s (slice_index state.near s) w ports
      known_of owners standing at (switch_is refines s w there own) (mask_is s there)

-- ---- hop pieces

-- ---- what it writes

abbrev begun : List Item → ℕ → ℕ → List Item
begun journal row i = journal ++ Item.Row row (Hop i) ∷ []

same_facts : (journal : List Item) (row i q : ℕ)
    → packet_facts_of (begun journal row i) q ≡ packet_facts_of journal q
same_facts journal row i q = facts_grow q journal (Item.Row row (Hop i))

pub hop_piece : (setting : Setting) (journal : List Item) (row i : ℕ) (t : TravellingFlight) (s near : ℕ)
    (w : SwitchValue) (ports : Ports) → CanAsk setting journal i t s near w ports
    → piece setting journal row (Hop i)
    ≡ Item.Row row (Hop i) ∷ log_hop_written (journal_next_message journal) w near ports t
unfolding piece hop_items_of packet_facts_of
hop_piece setting journal row i t s near w ports can =
    let new : List Item = begun journal row i in
    let same : packet_facts_of new i ≡ packet_facts_of journal i = same_facts journal row i i in
    let refines : IsStanding setting journal i t = can.standing in
    ap (λ b. Item.Row row (Hop i) ∷ elim b [
      | false ↦ nothing
      | true ↦ machine_move_items setting i (unwrap_or (journal_standing_of new i) 0) new
    ]) (ap (λ (facts : PacketFacts). facts.travels) same ∙ refines.stands.on)
    ∙ ap (λ o. Item.Row row (Hop i) ∷ machine_move_items setting i (unwrap_or o 0) new)
    (ap (λ (facts : PacketFacts). facts.stands) same ∙ refines.stands.stands)
    ∙ ap (λ items. Item.Row row (Hop i) ∷ items)
    (hop_law setting journal row i refines.switch refines.header refines.ingress refines.leg w near
    ports can.hops ∙ ap (log_hop_written (journal_next_message journal) w near ports) (sym refines.is))

-- a packet that doesn't travel
pub left_piece : (setting : Setting) (journal : List Item) (row i : ℕ) → travels_in_journal journal i ≡ false
    → piece setting journal row (Hop i) ≡ Item.Row row (Hop i) ∷ Item.Nothing ∷ []
unfolding piece hop_items_of packet_facts_of
left_piece setting journal row i off = let new : List Item = begun journal row i in
    ap (λ b. Item.Row row (Hop i) ∷ elim b [
      | false ↦ nothing
      | true ↦ machine_move_items setting i (unwrap_or (journal_standing_of new i) 0) new
    ]) (ap (λ (facts : PacketFacts). facts.travels) (same_facts journal row i i) ∙ off)

-- ---- the calls that it counts

turned_later : (i here : ℕ) (found : Option ℕ) (end : HopEnd) (route : List ℕ)
    (rest : List Item) → AreRefinedInStep rest → AreRefinedInStep (log_turned_items i here found end route ++ rest)
turned_later i here None end route rest later = later
turned_later i here (Some other) HopEnd.Arrive route rest later = (tt, (tt, later))
turned_later i here (Some other) (HopEnd.Move next) route rest later = (tt, (tt, later))
turned_later i here (Some other) (HopEnd.Stuck cause) route rest later = (tt, later)

ended_later : (number : ℕ) (w : SwitchValue) (near : ℕ) (ports : Ports) (t : TravellingFlight)
    (end : HopEnd) → AreRefinedInStep (log_ended_items number w near ports t end)
unfolding log_arrival_items
ended_later number w near ports t HopEnd.Arrive =
    arrived_later number (traveller_standing_at w.number t) t (switch_received w (switch_site_around near ports) t.tunnel)
ended_later number w near ports t (HopEnd.Move other) = (tt, tt)
ended_later number w near ports t (HopEnd.Stuck cause) = (tt, tt)

pub hop_later : (number : ℕ) (w : SwitchValue) (near : ℕ) (ports : Ports) (t : TravellingFlight)
    → AreRefinedInStep (log_hop_written number w near ports t)
hop_later number w near ports t = turned_later t.tunnel.packet w.number
    (switch_found_link_down near (next t.tunnel)) (switch_hop_answer w near t.tunnel).end
    (switch_hop_answer w near t.tunnel).tunnel.route _ (ended_later number (switch_call_counted w) near ports
    (log_hopped_flight w near t) (switch_hop_answer w near t.tunnel).end)

pub hop_packets : (row i : ℕ) (items : List Item) → AreRefinedInStep items
    → machine_count_of is_machine_packet_entry (Item.Row row (Hop i) ∷ items) ≡ 0
hop_packets row i items later =
    let sum = sum_by-cons (λ x. cond (is_machine_packet_entry x) 1 0) (Item.Row row (Hop i)) items in
    omega (arith, sum, later_packets items later)

hopped_by : (w : SwitchValue) (end : HopEnd)
    → (if stays_by end then switch_call_counted w else switch_call_counted (switch_call_counted w)) ≡ log_ended_switch (switch_call_counted w) end
hopped_by w HopEnd.Arrive = refl
hopped_by w (HopEnd.Move other) = refl
hopped_by w (HopEnd.Stuck cause) = refl

-- the packet's switch is called, and no other
calls_of_hop : (setting : Setting) (journal items : List Item) (row i s k : ℕ) (end : HopEnd)
    (b : Bool) → AreRefinedInStep items → journal_hop_stays_on_way items ≡ stays_by end
    → NoMachineItemConcerns (machine_item_concerns_known k) journal (Item.Row row (Hop i) ∷ items)
    → travels_in_journal journal i ≡ true → journal_standing_of journal i ≡ Some s → (s == k) ≡ b
    → refined_switch_of setting (journal ++ Item.Row row (Hop i) ∷ items) k
    ≡ (if b then log_ended_switch (switch_call_counted (refined_switch_of setting journal k)) end
    else refined_switch_of setting journal k)
calls_of_hop setting journal items row i s k end b later stays none on stands is =
    let w : SwitchValue = refined_switch_of setting journal k in
    let at = ap (λ x. x && is_at_machine_switch k (journal_standing_of journal i)) on ∙ ap (is_at_machine_switch k) stands ∙ is in
    calls_refine.hopped setting journal row i k items later none
    ∙ ap (λ x. if x then (if journal_hop_stays_on_way items then switch_call_counted w else switch_call_counted (switch_call_counted w)) else w) at
    ∙ ap (λ x. if b then (if x then switch_call_counted w else switch_call_counted (switch_call_counted w)) else w) stays
    ∙ ap (λ (u : SwitchValue). if b then u else w) (hopped_by w end)

-- ---- other packets

turned_other : (q i here : ℕ) (found : Option ℕ) (end : HopEnd) (route : List ℕ)
    → (i == q) ≡ false → NoneName q (log_turned_items i here found end route)
turned_other q i here None end route other = tt
turned_other q i here (Some two) HopEnd.Arrive route other = (other, (other, tt))
turned_other q i here (Some two) (HopEnd.Move next) route other = (other, (other, tt))
turned_other q i here (Some two) (HopEnd.Stuck cause) route other = (other, tt)

ended_other : (q number : ℕ) (w : SwitchValue) (near : ℕ) (ports : Ports) (t : TravellingFlight)
    (end : HopEnd) → (t.tunnel.packet == q) ≡ false
    → NoneName q (log_ended_items number w near ports t end)
unfolding log_arrival_items
ended_other q number w near ports t HopEnd.Arrive other =
    arrived_other q number (traveller_standing_at w.number t) t (switch_received w (switch_site_around near ports) t.tunnel) other
ended_other q number w near ports t (HopEnd.Move two) other = (other, tt)
ended_other q number w near ports t (HopEnd.Stuck cause) other = (other, tt)

pub hop_other : (q number : ℕ) (w : SwitchValue) (near : ℕ) (ports : Ports) (t : TravellingFlight)
    → (t.tunnel.packet == q) ≡ false → NoneName q (log_hop_written number w near ports t)
hop_other q number w near ports t other = let m = switch_hop_answer w near t.tunnel in
    none_more q
    (log_turned_items t.tunnel.packet w.number (switch_found_link_down near (next t.tunnel)) m.end m.tunnel.route)
    (log_ended_items number (switch_call_counted w) near ports (log_hopped_flight w near t) m.end)
    (turned_other q t.tunnel.packet w.number (switch_found_link_down near (next t.tunnel)) m.end
    m.tunnel.route other)
    (ended_other q number (switch_call_counted w) near ports (log_hopped_flight w near t) m.end
    (ap (λ k. k == q) (hopped_same w near t.tunnel).packet ∙ other))

-- ---- the packet and its switch

module _ (setting : Setting) (journal : List Item) (row i : ℕ) (t : TravellingFlight) (s near : ℕ)
    (w : SwitchValue) (ports : Ports) (can : CanAsk setting journal i t s near w ports) where
  abbrev number : ℕ
  number = journal_next_message journal

  abbrev items : List Item
  items = log_hop_written number w near ports t

  abbrev all : List Item
  all = Item.Row row (Hop i) ∷ items

  abbrev end : HopEnd
  end = (switch_hop_answer w near t.tunnel).end

  -- the packet itself
  pub hop_own : log_hop_flight w near ports t ≡ refined_flight_in setting (journal ++ all) i
  hop_own = let refines : IsStanding setting journal i t = can.standing in
      subst (λ (u : TravellingFlight). log_hop_flight w near ports u ≡ refined_flight_in setting
      (journal ++ Item.Row row (Hop i) ∷ log_hop_written number w near ports u) i) (sym refines.is)
      (hop_goes setting journal row i refines.switch refines.header refines.ingress refines.leg w
      near ports can.hops ∙ sym (flight_along setting journal
      (Item.Row row (Hop i) ∷ log_hop_written number w near ports (on_leg (journal_leg_targets setting journal) i
      (packet_facts_of journal i) refines.header refines.ingress refines.leg)) i (
        refl,
        (are_apart number (begun journal row i)
            (log_hop_written number w near ports (on_leg (journal_leg_targets setting journal) i
            (packet_facts_of journal i) refines.header refines.ingress refines.leg))
            (hop_sends number w near ports (on_leg (journal_leg_targets setting journal) i
            (packet_facts_of journal i) refines.header refines.ingress refines.leg)).0).policies,
      )))

  stays : journal_hop_stays_on_way items ≡ stays_by end
  stays = let refines : IsStanding setting journal i t = can.standing in
      subst (λ (u : TravellingFlight). journal_hop_stays_on_way (log_hop_written number w near ports u)
      ≡ stays_by (switch_hop_answer w near u.tunnel).end) (sym refines.is)
      (hop_stays setting journal row i refines.switch refines.header refines.ingress refines.leg
      w near ports can.hops)

  pub hop_is_packet : t.tunnel.packet ≡ i
  hop_is_packet = ap (λ (u : TravellingFlight). u.tunnel.packet) can.standing.is

  pub hop_called : (k : ℕ) (b : Bool) → (s == k) ≡ b → refined_switch_of setting (journal ++ all) k
      ≡ (if b then log_ended_switch (switch_call_counted (refined_switch_of setting journal k)) end
      else refined_switch_of setting journal k)
  unfolding packet_facts_of
  hop_called k b is =
      calls_of_hop setting journal items row i s k end b (hop_later number w near ports t) stays (
        refl,
        (are_apart number (begun journal row i) items (hop_sends number w near ports t).0).known k,
      )
      can.standing.stands.on (can.standing.stands.stands ∙ ap Some (sym can.at)) is

  pub hop_others : Known setting journal → (q : ℕ) → (i == q) ≡ false
      → refined_flight_in setting (journal ++ all) q ≡ refined_flight_in setting journal q
  hop_others knows q apart = flight_stays setting journal all q knows
      (refl, hop_other q number w near ports t (ap (λ k. k == q) hop_is_packet ∙ apart))
