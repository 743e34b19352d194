-- A packet that enters: its whole step keeps the tie.
use Rattle.std.proofs.Common.{[], ◌++◌, ◌+◌, ◌<◌, ◌==◌, ◌∙◌, ◌∷◌, ◌≡◌, ◌≤◌, Bool, List, None, Option, Some, ap, arith, cond, eq-eqb, eqb-true, false, get_or, if◌then◌else◌, length, length-set, refl, set, slice_index, subst, sym, true, ℕ}
use Rattle.base.proofs.Exports.{nat_tests, sum_by-cons}
use Rattle.update_machine.specs.Exports.{Header, Item, Leg, NoMachineItemConcerns, Packet as PacketStep, Ports, Setting, Step, machine_item_concerns_policies, machine_count_of, is_machine_packet_entry, journal_next_message, journal_next_packet, machine_packet_items, piece, journal_leg_targets}
use Rattle.switch_core.specs.Exports.{SwitchAnswer, SwitchValue, switch_call_counted}
use Rattle.refinement.specs.Exports.{AreRefinedInStep, RefinedNetworkState, RefineJournal, refined_flight_in, refined_switch_of}
use Rattle.refinement.proofs.RefinedSwitchSteps.{calls_refine}
use Rattle.packet_laws.specs.Exports.{IsUnknownPacket, packet_facts_of}
use Rattle.world_log.specs.Exports.{log_answer_items, log_coming_in, log_entered_flight, log_entered_items, log_entered_posts, entry}
use Rattle.travelling.specs.Travelling.{TravellingFlight, TravellingFlights, TravellingStanding, TravellingWithOne, flight}
use Rattle.refinement.proofs.RefinedOnwardPackets.{ComesTo, GoesIn, come_goes, come_law, entered_goes, looking}
use Rattle.refinement.proofs.RefinedSteps.{Known, Steps, flight_stays, numbered, one_changes, packets_are, refines_more, switches_are}
use Rattle.refinement.proofs.RefinedPacketFacts.{Targets, answer_later, by_targets, entered_other, entered_sends, facts_along, flight_along, later_packets, same_targets}
use Rattle.refinement.proofs.RefinedPostedFrames.{SendFrom, are_apart, posts_in}
use Rattle.net_file.specs.Exports.{AreNetPortOwners}
use Rattle.message_bag.specs.Exports.{Post}
use Rattle.steps.specs.Exports.{IsStep}
use Rattle.refinement.proofs.RefinedHopPieces.{known_of, seen}

-- ---- a packet that enters: the calls that its step counts, and where each packet is then

-- ---- one packet enters, and then none

once : (first : Item) (items : List Item) → is_machine_packet_entry first ≡ true → AreRefinedInStep items
    → machine_count_of is_machine_packet_entry (first ∷ items) ≡ 1
once first items packet later =
    let sum = sum_by-cons (λ x. cond (is_machine_packet_entry x) 1 0) first items in
    let one : ◌≡◌ {A = ℕ} (cond (is_machine_packet_entry first) 1 0) 1 = ap (λ b. cond b 1 0) packet in
    omega (arith, sum, one, later_packets items later)

pub entered_once : (number : ℕ) (at : TravellingStanding) (what : Option SwitchAnswer)
    → machine_count_of is_machine_packet_entry (log_entered_items number at what) ≡ 1
entered_once number at None = once (Item.Closed at.packet at.switch) [] refl tt
entered_once number at (Some what) = once (Item.Entered at.packet at.switch at.header)
    (log_answer_items number at what) refl (answer_later number at what)

-- ---- the switches

-- the switch where it enters is called, and no other
pub come_called : (setting : Setting) (journal : List Item) (row number q : ℕ) (at : TravellingStanding)
    (what : Option SwitchAnswer) (b : Bool) → SendFrom number (log_entered_items number at what)
    → (at.switch == q) ≡ b → refined_switch_of setting
    (journal ++ Item.Row row (PacketStep at.switch at.header) ∷ log_entered_items number at what) q
    ≡ (if b then switch_call_counted (refined_switch_of setting journal q) else refined_switch_of setting journal q)
come_called setting journal row number q at what b sends is = cc (by_answer what sends, is) where
  by_answer : (what : Option SwitchAnswer) → SendFrom number (log_entered_items number at what)
      → refined_switch_of setting (journal ++ Item.Row row (PacketStep at.switch at.header)
      ∷ log_entered_items number at what) q ≡ (if at.switch == q
      then switch_call_counted (refined_switch_of setting journal q) else refined_switch_of setting journal q)
  by_answer None sends = calls_refine.closed setting journal row at.packet at.switch q at.header
  by_answer (Some what) sends = calls_refine.entered setting journal row at.packet at.switch q
      at.header (log_answer_items number at what) (answer_later number at what)
      ((are_apart number journal (Item.Row row (PacketStep at.switch at.header)
      ∷ Item.Entered at.packet at.switch at.header ∷ log_answer_items number at what) sends).known q)

-- ---- the packets

pub come_along : (setting : Setting) (journal : List Item)
    (row number : ℕ) (taken : Step) (targets : Targets) (at : TravellingStanding) (answer : Option SwitchAnswer)
    (kept : Option TravellingFlight) (q : ℕ) (b : Bool) → Known setting journal
    → (q == at.packet) ≡ b → IsUnknownPacket (packet_facts_of journal at.packet)
    → (packet_facts_of journal at.packet).found ≡ at.down → GoesIn targets at answer
    → ((leg : Leg) → targets leg ≡ journal_leg_targets setting journal leg)
    → NoMachineItemConcerns machine_item_concerns_policies journal (Item.Row row taken ∷ log_entered_items number at answer)
    → kept ≡ refined_flight_in setting journal q → (if b then log_entered_flight answer else kept)
    ≡ refined_flight_in setting (journal ++ Item.Row row taken ∷ log_entered_items number at answer) q
come_along setting journal row number taken targets at answer kept q true knows is unknown unmarked
    comes same none was =
    let first : Item = Item.Row row taken in
    let i : ℕ = at.packet in
    entered_goes targets (journal ++ first ∷ []) number at answer (packet_facts_of journal i) unknown
    unmarked comes
    ∙ by_targets targets (journal_leg_targets setting journal) i
    (facts_along i journal (first ∷ log_entered_items number at answer) (packet_facts_of journal i)) (same _)
    ∙ sym (flight_along setting journal (first ∷ log_entered_items number at answer) i none)
    ∙ ap (refined_flight_in setting (journal ++ first ∷ log_entered_items number at answer))
    (sym (eqb-true q i is))
come_along setting journal row number taken targets at answer kept q false knows is unknown unmarked
    comes same none was =
    was ∙ sym (flight_stays setting journal (Item.Row row taken ∷ log_entered_items number at answer) q
    knows (refl, entered_other q number at answer (grind (arith, nat_tests))))

-- ---- incoming tie

-- ---- the step

module _ {setting : Setting} {journal : List Item} {state : RefinedNetworkState}
    (refines : RefineJournal setting journal state) where
  -- its number has 32 bits
  pub come_fits : journal_next_packet journal ≤ 4000000000 → state.packets + 1 ≤ 4000000000
  come_fits few = omega (arith, refines.counted, few)

  pub counted_is : journal_next_packet journal ≡ state.packets + 1
  counted_is = refines.counted

module _ {setting : Setting} {journal : List Item} {state : RefinedNetworkState}
    (refines : RefineJournal setting journal state) (row s : ℕ) (header : Header) (ports : Ports)
    (own : SwitchValue) (may : IsStep setting.net (length setting.files) (PacketStep s header))
    (owners : AreNetPortOwners setting.net.switches ports) (its : own ≡ get_or state.switches s own) where
  abbrev i : ℕ
  i = state.packets + 1

  abbrev near : ℕ
  near = slice_index state.near s

  abbrev taken : Step
  taken = PacketStep s header

  abbrev first : Item
  first = Item.Row row (PacketStep s header)

  abbrev number : ℕ
  number = journal_next_message journal

  abbrev answer : Option SwitchAnswer
  answer = entry own near ports i header

  abbrev items : List Item
  items = log_entered_items number (log_coming_in i header s) answer

  knows : Known setting journal
  knows = known_of refines

  is_new : journal_next_packet journal ≡ i
  is_new = counted_is refines

  unknown : IsUnknownPacket (packet_facts_of journal i)
  unknown = knows.kept.unknown i (omega (arith, is_new))

  comes : ComesTo setting journal i s header own near ports
  comes = record {
    knows = knows;
    sees = seen refines s own may.0 its;
    there = may.0;
    owners = owners;
    sound = may.1;
    unmarked = unknown.found;
  }

  number_is : own.number ≡ s
  number_is = comes.sees.number

  -- what the switch answers is what the journal's definitions say
  piece_is : piece setting journal row taken ≡ first ∷ items
  unfolding piece
  piece_is = cc (is_new, come_law setting journal row i s taken header own near ports comes)

  sends : SendFrom number items
  sends = (entered_sends number (log_coming_in i header s) answer).0

  once_in : machine_count_of is_machine_packet_entry items ≡ 1
  once_in = entered_once number (log_coming_in i header s) answer

  -- so the tie is kept after it
  steps_of : (after : TravellingFlights) → s < length state.switches → own ≡ refined_switch_of setting journal s
      → TravellingWithOne state.travelling i (log_entered_flight answer) after → Steps setting journal row taken
      items state.switches (set state.switches s (switch_call_counted own)) after
  steps_of after there own_is with = record {
    may = may;
    piece_is = piece_is;
    not_told = refl;
    sends = sends;
    as_many = length-set state.switches s (switch_call_counted own);
    each = λ q d below. one_changes setting journal (journal ++ first ∷ items) state.switches s q
        (switch_call_counted own) d (s == q) refl there (ap switch_call_counted own_is ∙ sym (come_called setting
        journal row number s (log_coming_in i header s) answer true sends (eq-eqb s s refl)))
        (come_called setting journal row number q (log_coming_in i header s) answer false sends)
        (switches_are refines q d below);
    travels = λ q. with q ∙ come_along setting journal row number taken
        (journal_leg_targets setting (looking journal row taken i s header)) (log_coming_in i header s) answer
        (flight state.travelling q) q (q == i) knows refl unknown unknown.found
        (come_goes setting journal row i s taken header own near ports comes) (λ leg. same_targets
        setting (journal ++ first ∷ []) (Item.Entered i s header ∷ []) (refl, tt) leg
        ∙ same_targets setting journal (first ∷ []) (refl, tt) leg)
        (refl, (are_apart number (journal ++ first ∷ []) items sends).policies)
        (packets_are refines q);
  }

  -- and what it writes and posts, by the number of the switch and of the next message
  abbrev at : TravellingStanding
  at = log_coming_in i header own.number

  pub come_piece : piece setting journal row (PacketStep s header)
      ≡ Item.Row row (PacketStep s header)
      ∷ log_entered_items (length state.posts + 1) (log_coming_in (state.packets + 1) header own.number)
      (entry own (slice_index state.near s) ports (state.packets + 1) header)
  come_piece = cc (piece_is, number_is, numbered refines)

  pub come_refines : (after : TravellingFlights) (changed : SwitchValue) → s < length state.switches
      → own ≡ refined_switch_of setting journal s → changed ≡ switch_call_counted own
      → TravellingWithOne state.travelling (state.packets + 1) (log_entered_flight
      (entry own (slice_index state.near s) ports (state.packets + 1) header)) after
      → RefineJournal setting (journal ++ Item.Row row (PacketStep s header)
      ∷ log_entered_items (length state.posts + 1) (log_coming_in (state.packets + 1) header own.number)
      (entry own (slice_index state.near s) ports (state.packets + 1) header)) (record state {
        switches = set state.switches s changed;
        travelling = after;
        packets = state.packets + 1;
        posts = state.posts ++ log_entered_posts (log_coming_in (state.packets + 1) header own.number)
            (entry own (slice_index state.near s) ports (state.packets + 1) header);
      })
  come_refines after changed there own_is changed_is entered =
      let with : SwitchValue → List Post → RefinedNetworkState = λ counted posts. record state {
        switches = set state.switches s counted;
        travelling = after;
        packets = i;
        posts = state.posts ++ posts;
      } in
      subst (λ n. RefineJournal setting (journal ++ first ∷ log_entered_items n at answer)
      (with changed (log_entered_posts at answer))) (numbered refines)
      (subst (λ k. RefineJournal setting (journal ++ first ∷ log_entered_items number
      (log_coming_in i header k) answer) (with changed (log_entered_posts (log_coming_in i header k) answer)))
      (sym number_is) (subst (λ u. RefineJournal setting (journal ++ first ∷ items) (with u
      (log_entered_posts (log_coming_in i header s) answer))) (sym changed_is) (subst (λ more. RefineJournal
      setting (journal ++ first ∷ items) (with (switch_call_counted own) more))
      (entered_sends number (log_coming_in i header s) answer).1 (refines_more refines
      (set state.switches s (switch_call_counted own)) after i row taken items (steps_of after there own_is
      entered) (omega (arith, sum_by-cons (λ x. cond (is_machine_packet_entry x) 1 0) first items, once_in))))))
