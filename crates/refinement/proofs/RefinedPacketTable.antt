-- The packets that stand at a switch: those of the table are those of the journal.
use Rattle.std.proofs.Common.{[], ◌&&◌, ◌++◌, ◌+◌, ◌<◌, ◌==◌, ◌∙◌, ◌∷◌, ◌≡◌, ◌≤◌, ◌⊎◌, Bool, IsFalse, List, None, Option, Some, ap, arith, cond, eq-eqb, eqb-true, false, filter, get_or, if◌then◌else◌, inl, inr, length, map, refl, rules, suc, sym, true, ℕ}
use Rattle.base.proofs.Exports.{any-filter_same, cases_lt, filter_agree, list_any, range_with_len, sum_by-cons}
use Rattle.update_machine.specs.Exports.{Header, Item, NoMachineItemConcerns, Packet, Ports, Setting, Step, machine_count_of, is_at_machine_switch, is_machine_packet_entry, near, journal_next_message, journal_next_packet, journal_packets_at, piece, journal_retired_mark, journal_standing_of, journal_leg_targets, travels_in_journal, journal_travels_at}
use Rattle.packet_laws.specs.Exports.{IsUnknownPacket, PacketFacts, packet_facts_after, packet_facts_of}
use Rattle.packet_laws.proofs.Exports.{numbered, ways_of_all}
use Rattle.refinement.specs.Exports.{BagsRefine, RefinedPacketComes, EntriesRefine, HopsRefine, IsRefinedJournalOfNet, RefinedNetworkState, NoRefinedRows, RefineJournal, refined_entry_at, refined_flight_in, refined_flight_of, refined_switch_of}
use Rattle.travelling.specs.Travelling.{TravellingFlight, TravellingFlights, flight, travelling_numbers_at, travelling_stands_at}
use Rattle.travelling.proofs.TravellingSlots.{beyond, none_between}
use Rattle.refinement.proofs.RefinedSteps.{Known, reached_known}
use Rattle.refinement.proofs.RefinedFlights.{IsStanding, got, standing_by}
use Rattle.refinement.proofs.RefinedRanges.{any_picked}
use Rattle.refinement.proofs.RefinedHopPieces.{CanAsk, can_be_asked, hop_others, hop_own, hop_piece, looks_up_as, standing_of}
use Rattle.refinement.proofs.RefinedPacketFacts.{NoneName, Targets, entered_sends, facts_along, flight_by, flight_now, same_targets, unnamed}
use Rattle.five_tuple.specs.Exports.{IsHeader}
use Rattle.switch_core.specs.Exports.{SwitchAnswer, SwitchValue}
use Rattle.tunnel.specs.Exports.{here}
use Rattle.world_log.specs.Exports.{log_coming_in, log_entered_flight, log_entered_items}
use Rattle.refinement.proofs.RefinedIncomingTie.{come_along}
use Rattle.refinement.proofs.RefinedOnwardPackets.{ComesTo, come_goes, come_law, looking}
use Rattle.refinement.proofs.RefinedPostedFrames.{are_apart, bag_begun, bag_delivered, bag_forgotten, bag_on, bag_sent}
use Rattle.refinement.proofs.RefinedTakenLegs.{sees}

-- ---- numbers that pass a test

-- the number is among these
abbrev pub among : ℕ → List ℕ → Bool
among i numbers = list_any (λ k. k == i) numbers

-- the first number doesn't pass
first_passes_not : (test : ℕ → Bool) (n : ℕ) → test 0 ≡ false
    → filter test (range_with_len 0 (suc n)) ≡ filter test (range_with_len 1 n)
first_passes_not test n fails = rw fails refl

-- so all that pass are found from 1 on, as far as any passes
same_numbers : (test : ℕ → Bool) (one other : ℕ) → test 0 ≡ false
    → ((i : ℕ) → one ≤ i → test i ≡ false) → ((i : ℕ) → suc other ≤ i → test i ≡ false)
    → filter test (range_with_len 0 one) ≡ filter test (range_with_len 1 other)
same_numbers test one other zero_fails none none_other =
    sym (none_between test one (suc other) (λ i above below. none i above))
    ∙ ap (λ k. filter test (range_with_len 0 k)) (omega arith)
    ∙ none_between test (suc other) one (λ i above below. none_other i above)
    ∙ first_passes_not test other zero_fails

-- ---- the table

-- a packet is among those at the switch exactly if it is there
pub among_numbers : (before : TravellingFlights) (s i : ℕ)
    → among i (travelling_numbers_at before s) ≡ travelling_stands_at s (flight before i)
unfolding travelling_numbers_at
among_numbers before s i = by_test (test i) refl where
  test : ℕ → Bool
  test = λ k. travelling_stands_at s (flight before k)

  by_test : (b : Bool) → test i ≡ b
      → among i (filter test (range_with_len 0 (length before))) ≡ test i
  by_test false e = any-filter_same (λ k. k == i) test false
      (λ k same. ap test (eqb-true k i same) ∙ e) (range_with_len 0 (length before)) ∙ sym e
  by_test true e =
      any_picked test i 0 (length before) (omega arith) (within (cases_lt i (length before)))
    where
      within : (i < length before) ⊎ (length before ≤ i) → i < 0 + length before
      within (inl less) = omega (arith, less)
      within (inr past) = absurd (let clash : true ≡ false = sym e ∙ beyond before s i past in cc)

module _ {setting : Setting} {journal : List Item} {state : RefinedNetworkState}
    (refines : RefineJournal setting journal state) (s : ℕ) where
  -- a packet is at the same switch by its route and by the journal
  same_switch : (i : ℕ) → travelling_stands_at s (flight state.travelling i) ≡ journal_travels_at journal s i
  unfolding refined_flight_in packet_facts_of
  same_switch i = by_travels (travels_in_journal journal i) refl where
    by_travels : (b : Bool) → travels_in_journal journal i ≡ b
        → travelling_stands_at s (flight state.travelling i) ≡ journal_travels_at journal s i
    by_travels false off =
        let none : flight state.travelling i ≡ None =
        refines.packet i ∙ ap (λ b. if b then Some (refined_flight_of setting journal i) else None) off in
        rw (none, off) refl
    by_travels true on =
        let t : TravellingFlight = refined_flight_of setting journal i in
        let some = refines.packet i ∙ ap (λ b. if b then Some t else None) on in
        let is = standing_of refines i t some in
        let here = ap (λ (u : TravellingFlight). get_or u.tunnel.route u.tunnel.place 0) is.is
        ∙ got (packet_facts_of journal i).route (packet_facts_of journal i).hops is.switch
        is.stands.here in
        ap (travelling_stands_at s) some ∙ ap (λ k. k == s) here
        ∙ sym (ap (λ b. b && is_at_machine_switch s (journal_standing_of journal i)) on ∙ ap (is_at_machine_switch s) is.stands.stands)

  -- so these are the packets that the journal says
  pub numbers_are : travelling_numbers_at state.travelling s ≡ journal_packets_at journal s
  unfolding travelling_numbers_at journal_next_packet
  numbers_are =
      let own = numbered setting journal (ways_of_all setting [] journal
      (reached_known setting journal refines.sound refines.reached).settled.causes) in
      filter_agree (λ i. travelling_stands_at s (flight state.travelling i)) (journal_travels_at journal s) same_switch
      (range_with_len 0 (length state.travelling))
      ∙ same_numbers (journal_travels_at journal s) (length state.travelling) (machine_count_of is_machine_packet_entry journal)
      (unnumbered 0 (travels_in_journal journal 0) refl (λ on. absurd (omega (arith, (own 0 on).0))))
      (λ i past. sym (same_switch i) ∙ beyond state.travelling s i past)
      (λ i past. unnumbered i (travels_in_journal journal i) refl (λ on. absurd (omega (arith, (own i on).1))))
    where
      unnumbered : (i : ℕ) (b : Bool) → travels_in_journal journal i ≡ b → (travels_in_journal journal i ≡ true → ⊥)
          → journal_travels_at journal s i ≡ false
      unnumbered i true on never = absurd (never on)
      unnumbered i false off never = rw off refl

-- ---- packets that are lost with a switch: what that leaves, and what the packets on their way are

-- what losses don't concern stays
pub losts_apart : (concerns : List Item → Item → Bool)
    → ((before : List Item) (k : ℕ) → IsFalse (concerns before (Item.Lost k)))
    → (before : List Item) (packets : List ℕ) → NoMachineItemConcerns concerns before (map Item.Lost packets)
losts_apart concerns spares before [] = tt
losts_apart concerns spares before (k ∷ packets) =
    (spares before k, losts_apart concerns spares (before ++ Item.Lost k ∷ []) packets)

pub losts_no_rows : (packets : List ℕ) → NoRefinedRows (map Item.Lost packets)
losts_no_rows [] = tt
losts_no_rows (k ∷ packets) = (tt, losts_no_rows packets)

-- no packet enters by them
pub losts_bring_none : (packets : List ℕ) → machine_count_of is_machine_packet_entry (map Item.Lost packets) ≡ 0
losts_bring_none [] = refl
losts_bring_none (k ∷ packets) =
    let sum = sum_by-cons (λ x. cond (is_machine_packet_entry x) 1 0) (Item.Lost k) (map Item.Lost packets) in
    omega (arith, sum, losts_bring_none packets)

-- ---- the packets on their way

-- a packet that travels no more
abbrev ended : PacketFacts → PacketFacts
ended facts = record facts { travels = false }

-- those among them travel no more, and the other items don't name the packet
facts_lost : (i : ℕ) (before : List Item) (packets : List ℕ) (more : List Item)
    (facts : PacketFacts) → NoneName i more
    → facts_along i before (map Item.Lost packets ++ more) facts
    ≡ (if among i packets then ended facts else facts)
facts_lost i before [] more facts none = unnamed i before more facts none
facts_lost i before (k ∷ packets) more facts none =
    by_same (k == i) refl (λ now. facts_lost i (before ++ Item.Lost k ∷ []) packets more now none)
  where
    after : List Item
    after = before ++ Item.Lost k ∷ []

    still : (b : Bool) → (if b then ended (ended facts) else ended facts) ≡ ended facts
    still true = refl
    still false = refl

    by_same : (b : Bool) → (k == i) ≡ b → ((now : PacketFacts) → facts_along i after
        (map Item.Lost packets ++ more) now ≡ (if among i packets then ended now else now))
        → facts_along i before (Item.Lost k ∷ map Item.Lost packets ++ more) facts
        ≡ (if among i (k ∷ packets) then ended facts else facts)
    by_same true e rest = ap (λ b. facts_along i after (map Item.Lost packets ++ more) (if b
        then packet_facts_after (journal_retired_mark before) (Item.Lost k) facts else facts)) e
        ∙ rest (ended facts) ∙ still (among i packets) ∙ sym (rw e refl)
    by_same false e rest = ap (λ b. facts_along i after (map Item.Lost packets ++ more) (if b
        then packet_facts_after (journal_retired_mark before) (Item.Lost k) facts else facts)) e ∙ rest facts
        ∙ sym (rw e refl)

-- a packet is gone where it is among them, behind items that don't name it
pub flight_lost : (targets : Targets) (i : ℕ) (before first : List Item) (packets : List ℕ)
    (more : List Item) (facts : PacketFacts) → NoneName i first → NoneName i more
    → flight_by targets i (facts_along i before (first ++ map Item.Lost packets ++ more) facts)
    ≡ (if among i packets then None else flight_by targets i facts)
flight_lost targets i before [] packets more facts none last =
    cc (facts_lost i before packets more facts last, by_among (among i packets))
  where
    by_among : (b : Bool) → flight_by targets i (if b then ended facts else facts)
        ≡ (if b then None else flight_by targets i facts)
    by_among true = refl
    by_among false = refl
flight_lost targets i before (one ∷ first) packets more facts none last =
    cc (none.0, flight_lost targets i (before ++ one ∷ []) first packets more facts none.1 last)

-- ---- the laws of this crate, of what is known within a step

module _ (setting : Setting) (journal : List Item) (row s : ℕ) (header : Header) (ports : Ports)
    (of : IsRefinedJournalOfNet setting journal ports) (there : s < length setting.net.switches)
    (sound : IsHeader header) where
  abbrev w : SwitchValue
  w = refined_switch_of setting journal s

  abbrev mask : ℕ
  mask = near setting journal s

  abbrev i : ℕ
  i = journal_next_packet journal

  abbrev taken : Step
  taken = Packet s header

  abbrev first : Item
  first = Item.Row row (Packet s header)

  abbrev answer : Option SwitchAnswer
  answer = refined_entry_at setting journal ports s header

  abbrev items : List Item
  items = log_entered_items (journal_next_message journal) (log_coming_in i header s) answer

  knows : Known setting journal
  knows = reached_known setting journal of.sound of.reached

  unknown : IsUnknownPacket (packet_facts_of journal i)
  unknown = knows.kept.unknown i (omega arith)

  comes : ComesTo setting journal i s header w mask ports
  comes = record {
    knows = knows;
    sees = sees setting journal s knows there;
    there = there;
    owners = of.owners;
    sound = sound;
    unmarked = unknown.found;
  }

  piece_is : piece setting journal row taken ≡ first ∷ items
  unfolding piece
  piece_is = cc (come_law setting journal row i s taken header w mask ports comes)

  along : (q : ℕ) (b : Bool) → (q == i) ≡ b
      → (if b then log_entered_flight answer else refined_flight_in setting journal q)
      ≡ refined_flight_in setting (journal ++ first ∷ items) q
  along q b is = come_along setting journal row (journal_next_message journal) taken
      (journal_leg_targets setting (looking journal row taken i s header)) (log_coming_in i header s) answer
      (refined_flight_in setting journal q) q b knows is unknown unknown.found
      (come_goes setting journal row i s taken header w mask ports comes)
      (λ leg. same_targets setting (journal ++ first ∷ []) (Item.Entered i s header ∷ []) (refl, tt)
      leg ∙ same_targets setting journal (first ∷ []) (refl, tt) leg) (
        refl,
        (are_apart (journal_next_message journal) (journal ++ first ∷ []) items
            (entered_sends (journal_next_message journal) (log_coming_in i header s) answer).0).policies,
      ) refl

  come : RefinedPacketComes setting journal row s header ports
  come = record {
    may = looks_up_as setting journal s w knows there refl;
    written = piece_is;
    goes = cc (piece_is, along i true (eq-eqb i i refl));
    others = λ q apart. ap (λ more. refined_flight_in setting (journal ++ more) q) piece_is
        ∙ sym (along q false apart);
  }

pub entries_refine : EntriesRefine
entries_refine = come

-- ---- a packet moves on

pub hops_refine : HopsRefine
hops_refine setting journal row i t ports of its =
    let s : ℕ = here t.tunnel in
    let w : SwitchValue = refined_switch_of setting journal s in
    let mask : ℕ = near setting journal s in
    let knows : Known setting journal = reached_known setting journal of.sound of.reached in
    let standing : IsStanding setting journal i t =
    standing_by setting journal i t knows (sym (flight_now setting journal i) ∙ its) in
    let can : CanAsk setting journal i t s mask w ports =
    can_be_asked setting journal i t s mask w ports knows of.owners standing refl refl refl in
    let written = hop_piece setting journal row i t s mask w ports can in record {
      may = record {
        there = omega (arith, can.at, can.standing.stands.there);
        stands = can.stands;
        serving = can.serving;
        stamped = can.stamped;
        authority = can.authority;
      };
      written = written;
      goes = cc (written, hop_own setting journal row i t s mask w ports can);
      others = λ k apart. ap (λ more. refined_flight_in setting (journal ++ more) k) written
          ∙ hop_others setting journal row i t s mask w ports can knows k apart;
    }

-- ---- messages

pub bags_refine : BagsRefine
bags_refine = search (rules, bag_begun, bag_sent, bag_delivered, bag_forgotten, bag_on)
