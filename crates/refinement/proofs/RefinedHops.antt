-- A hop of a packet on its way keeps the tie of a world to its journal.
use Rattle.std.proofs.Common.{[], ◌&&◌, ◌++◌, ◌+◌, ◌<◌, ◌==◌, ◌∙◌, ◌∷◌, ◌≡◌, Bool, List, None, Some, ap, arith, eq-eqb, eqb-true, false, get_or, if◌then◌else◌, is_some, length, length-set, refl, set, subst, sym, true, ℕ}
use Rattle.base.proofs.Exports.{nat_tests}
use Rattle.update_machine.specs.Exports.{Hop, Item, Lose, Ports, Setting, Step, is_at_machine_switch, machine_lose_items, journal_next_message, nothing, piece, journal_standing_of, travels_in_journal}
use Rattle.steps.specs.Exports.{IsStep}
use Rattle.packet_laws.specs.Exports.{packet_facts_of}
use Rattle.packet_laws.proofs.Exports.{facts_grow}
use Rattle.refinement.specs.Exports.{RefinedNetworkState, RefineJournal, refined_flight_in, refined_switch_of}
use Rattle.travelling.specs.Travelling.{TravellingFlight, TravellingFlights, TravellingWithOne, flight}
use Rattle.refinement.proofs.RefinedSteps.{Known, Steps, WroteOne, flight_stays, numbered, one_changes, packets_are, reached_known, refines_more, refines_silent, switches_are, switches_stay}
use Rattle.refinement.proofs.RefinedBagDeliveries.{nothing_happens}
use Rattle.refinement.proofs.RefinedPacketFacts.{flight_along, hop_sends}
use Rattle.message_bag.specs.Exports.{Post}
use Rattle.switch_core.specs.Exports.{SwitchValue, switch_call_counted, switch_hop_answer}
use Rattle.world_log.specs.Exports.{log_ended_switch, log_hop_flight, log_hop_posts, log_hop_written, log_hopped_switch}
use Rattle.refinement.proofs.RefinedHopPieces.{CanAsk, hop_called, hop_later, hop_others, hop_own, hop_packets, hop_piece, known_of, left_piece}
use Rattle.refinement.proofs.RefinedPostedFrames.{SendFrom, posts_in}

-- ---- a packet is lost

-- a row tells nothing of a packet
pub travels_on : (journal : List Item) (row i : ℕ) (step : Step)
    → travels_in_journal (journal ++ Item.Row row step ∷ []) i ≡ travels_in_journal journal i
unfolding packet_facts_of
travels_on journal row i step = ap (λ facts. facts.travels)
    (facts_grow i journal (Item.Row row step))

pub travels_as : (setting : Setting) (journal : List Item) (i : ℕ)
    → is_some (refined_flight_in setting journal i) ≡ travels_in_journal journal i
unfolding refined_flight_in
travels_as setting journal i = by_case (travels_in_journal journal i) _ where
  by_case : {X : Type 0} (b : Bool) (x : X) → is_some (if b then Some x else None) ≡ b
  by_case true x = refl
  by_case false x = refl

-- what losing a packet writes
pub lose_piece : (setting : Setting) (journal : List Item) (row i : ℕ)
    → piece setting journal row (Lose i)
    ≡ Item.Row row (Lose i) ∷ (if travels_in_journal journal i then Item.Lost i ∷ [] else nothing)
unfolding piece machine_lose_items
lose_piece setting journal row i =
    cc (travels_on journal row i (Lose i), by_case (travels_in_journal journal i))
  where
    by_case : (b : Bool) → Item.Row row (Lose i) ∷ elim b
        [ false ↦ nothing | true ↦ Item.Lost i ∷ [] ]
        ≡ Item.Row row (Lose i) ∷ (if b then Item.Lost i ∷ [] else nothing)
    by_case true = refl
    by_case false = refl

-- of the packets, it is gone
gone : (setting : Setting) (journal : List Item) (row i : ℕ) (before : TravellingFlights) (q : ℕ)
    (b : Bool) → Known setting journal → (q == i) ≡ b
    → flight before q ≡ refined_flight_in setting journal q → (if b then None else flight before q)
    ≡ refined_flight_in setting (journal ++ Item.Row row (Lose i) ∷ Item.Lost i ∷ []) q
gone setting journal row i before q true knows is was =
    let same : (i == q) ≡ true = grind (arith, nat_tests) in
    sym (flight_along setting journal (Item.Row row (Lose i) ∷ Item.Lost i ∷ []) q
    (refl, (refl, tt)) ∙ rw same refl)
gone setting journal row i before q false knows is was =
    let other : (i == q) ≡ false = grind (arith, nat_tests) in
    was ∙ sym (flight_stays setting journal (Item.Row row (Lose i) ∷ Item.Lost i ∷ []) q knows
    (refl, (other, tt)))

module _ {setting : Setting} {journal : List Item} {state : RefinedNetworkState}
    (refines : RefineJournal setting journal state) (row i : ℕ) where
  -- it travels where the table has it
  travels_there : travels_in_journal journal i ≡ is_some (flight state.travelling i)
  travels_there = sym (ap is_some (refines.packet i) ∙ travels_as setting journal i)

  -- so this is its piece
  pub lost_piece : is_some (flight state.travelling i) ≡ true
      → piece setting journal row (Lose i) ≡ Item.Row row (Lose i) ∷ Item.Lost i ∷ []
  lost_piece travelling = cc (lose_piece setting journal row i, travels_there, travelling)

  -- without it the table is as the journal says then
  pub lost : (after : TravellingFlights) → IsStep setting.net (length setting.files) (Lose i)
      → is_some (flight state.travelling i) ≡ true → TravellingWithOne state.travelling i None after
      → RefineJournal setting (journal ++ Item.Row row (Lose i) ∷ Item.Lost i ∷ [])
      (record state { travelling = after })
  lost after may travelling without = refines_silent refines state.switches after state.packets row
      (Lose i) (Item.Lost i ∷ []) (record {
        may = may;
        piece_is = lost_piece travelling;
        not_told = refl;
        sends = tt;
        as_many = refl;
        each = switches_stay refines (Item.Row row (Lose i) ∷ Item.Lost i ∷ [])
            (λ s. (refl, (refl, tt))) (λ s. (refl, (refl, tt)));
        travels = λ q. without q ∙ gone setting journal row i state.travelling q (q == i)
            (reached_known setting journal refines.sound refines.reached) refl (refines.packet q);
      }) (omega arith) refl

  -- and of a packet that doesn't travel nothing happens
  pub not_lost : IsStep setting.net (length setting.files) (Lose i)
      → is_some (flight state.travelling i) ≡ false
      → WroteOne setting journal row (Lose i) Item.Nothing state
  not_lost may resting = nothing_happens refines row (Lose i) may (λ q. refl)
      (lose_piece setting journal row i ∙ ap (λ b. Item.Row row (Lose i)
      ∷ (if b then Item.Lost i ∷ [] else nothing)) (travels_there ∙ resting))

-- ---- hop refines

-- ---- the tie

module _ {setting : Setting} {journal : List Item} {state : RefinedNetworkState}
    (refines : RefineJournal setting journal state) (row i : ℕ) (t : TravellingFlight) (s near : ℕ)
    (w : SwitchValue) (ports : Ports) (may : IsStep setting.net (length setting.files) (Hop i))
    (can : CanAsk setting journal i t s near w ports) where
  abbrev items : List Item
  items = log_hop_written (journal_next_message journal) w near ports t

  abbrev all : List Item
  all = Item.Row row (Hop i) ∷ items

  knows : Known setting journal
  knows = known_of refines

  sends : SendFrom (journal_next_message journal) items
  sends = (hop_sends (journal_next_message journal) w near ports t).0

  -- and all packets
  travels_then : (after : TravellingFlights) → TravellingWithOne state.travelling i (log_hop_flight w near ports t) after
      → (q : ℕ) → flight state.travelling q ≡ refined_flight_in setting journal q
      → flight after q ≡ refined_flight_in setting (journal ++ all) q
  travels_then after with q was = with q ∙ by_test (q == i) refl where
    by_test : (b : Bool) → (q == i) ≡ b
        → (if b then log_hop_flight w near ports t else flight state.travelling q)
        ≡ refined_flight_in setting (journal ++ all) q
    by_test true is = cc (hop_own setting journal row i t s near w ports can, eqb-true q i is)
    by_test false is = let apart : (i == q) ≡ false = grind (arith, nat_tests) in
        was ∙ sym (hop_others setting journal row i t s near w ports can knows q apart)

  steps_of : (after : TravellingFlights) → TravellingWithOne state.travelling i (log_hop_flight w near ports t) after
      → s < length state.switches → w ≡ refined_switch_of setting journal s
      → ((q : ℕ) → flight state.travelling q ≡ refined_flight_in setting journal q)
      → ((k : ℕ) (d : SwitchValue) → k < length state.switches
      → get_or state.switches k d ≡ refined_switch_of setting journal k) → Steps setting journal row (Hop i)
      items state.switches (set state.switches s (log_hopped_switch w near t)) after
  steps_of after with there own packets each = record {
    may = may;
    piece_is = hop_piece setting journal row i t s near w ports can;
    not_told = refl;
    sends = sends;
    as_many = length-set state.switches s (log_hopped_switch w near t);
    each = λ k d within. one_changes setting journal (journal ++ all) state.switches s k
        (log_hopped_switch w near t) d (s == k) refl there
        (ap (λ (u : SwitchValue). log_ended_switch (switch_call_counted u) (switch_hop_answer w near t.tunnel).end)
        own ∙ sym (hop_called setting journal row i t s near w ports can s true (eq-eqb s s refl)))
        (hop_called setting journal row i t s near w ports can k false) (each k d within);
    travels = λ q. travels_then after with q (packets q);
  }

  pub hop_refines : (after : TravellingFlights) (other : SwitchValue)
      → s < length state.switches → w ≡ refined_switch_of setting journal s → other ≡ log_hopped_switch w near t
      → TravellingWithOne state.travelling i (log_hop_flight w near ports t) after
      → RefineJournal setting (journal ++ Item.Row row (Hop i)
      ∷ log_hop_written (length state.posts + 1) w near ports t) (record state {
        switches = set state.switches s other;
        travelling = after;
        posts = state.posts ++ log_hop_posts w near ports t;
      })
  hop_refines after other there own answered left =
      let last : SwitchValue = log_hopped_switch w near t in
      let with : SwitchValue → List Post → RefinedNetworkState = λ changed posts. record state {
        switches = set state.switches s changed;
        travelling = after;
        posts = state.posts ++ posts;
      } in
      let kept = refines_more refines (set state.switches s last) after state.packets row (Hop i)
      items (steps_of after left there own (packets_are refines) (switches_are refines))
      (omega (arith, hop_packets row i items (hop_later (journal_next_message journal) w near ports t))) in
      subst (λ n. RefineJournal setting (journal ++ Item.Row row (Hop i)
      ∷ log_hop_written n w near ports t) (with other (log_hop_posts w near ports t))) (numbered refines)
      (rw answered (rw ((hop_sends (journal_next_message journal) w near ports t).1) at kept))

  -- the piece of a hop, by what its switch is told
  pub hop_piece_of : piece setting journal row (Hop i) ≡ Item.Row row (Hop i)
      ∷ log_hop_written (length state.posts + 1) w near ports t
  hop_piece_of = cc (hop_piece setting journal row i t s near w ports can, numbered refines)

-- ---- a packet that doesn't travel

module _ {setting : Setting} {journal : List Item} {state : RefinedNetworkState}
    (refines : RefineJournal setting journal state) where
  pub hop_left : (row i : ℕ) → IsStep setting.net (length setting.files) (Hop i)
      → is_some (flight state.travelling i) ≡ false
      → WroteOne setting journal row (Hop i) Item.Nothing state
  hop_left row i may resting =
      let off = sym (ap is_some (refines.packet i) ∙ travels_as setting journal i) ∙ resting in
      nothing_happens refines row (Hop i) may
      (λ s. ap (λ x. x && is_at_machine_switch s (journal_standing_of journal i)) off) (left_piece setting journal row i off)
