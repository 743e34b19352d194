-- Each hop of a drain leaves fewer to be taken, and so a drain ends.
use Rattle.std.proofs.Common.{[], ◌&&◌, ◌*◌, ◌++◌, ◌+◌, ◌-◌, ◌<◌, ◌==◌, ◌∙◌, ◌∷◌, ◌≡◌, ◌≢◌, ◌≤◌, Bool, List, None, Option, Some, ap, append_assoc, arith, eq-eqb, eqb-true, false, find, length, ne_eqb, option_map, refl, subst, sum_by, sym, true, ℕ, rules}
use Rattle.base.proofs.Exports.{and_parts, cases_eq, length-range_with_len, range_with_len, sum_by-cons}
use Rattle.update_machine.specs.Exports.{AreAllMachineEventSteps, AreFirstMachineEventSteps, JournalItemsHaveCauses, Hop, IsJournalReached, IsMachineSetting, Item, Setting, Step, MachineStepOfRow, journal_after_steps, machine_item_concerns_steps, machine_count_of, machine_item_gives_step, machine_hop_items, is_machine_packet_entry, journal_next_hop, journal_next_packet, next_travelling, journal_packets, piece, journal_present_step, machine_step_items, travels_in_journal}
use Rattle.update_machine.proofs.Exports.{AreOf, Nears, have_append, last_given_append, loop_ends, packet_keeps, step_stays}
use Rattle.control_laws.specs.Exports.{ControlLawHoldsReached}
use Rattle.control_laws.proofs.Exports.{AreKept, Both, IsCarried, NamesOwn, OfSettings, behind_piece, carried_on, fact_on, have_both, have_weaker, reached_by, reached_carries, setting_carries}
use Rattle.packet_laws.proofs.PacketsSpared.{IsNoRow, piece_ways, row_rests}
use Rattle.packet_laws.proofs.PacketsAtRest.{IsSettled, IsWayItem, no_rows, piece_causes, piece_settled, settled_at_first}
use Rattle.packet_laws.proofs.PacketHopAnswers.{hop_names}
use Rattle.packet_laws.proofs.PacketRouteHops.{BeginsRested, IsHopItem, NamesFirst, asked_more, changes_asked, hops_few, hops_more, is_asked, stays_off, turns_off}
use Rattle.packet_laws.specs.Exports.{HasPacketItemCause, changes_packet_hops_taken, packet_drain_left, packet_hops_left, packet_hops_taken, most_packet_hops}
use Rattle.packet_laws.proofs.PacketFlushMessages.{count_more, least}

-- ---- between steps no packet was asked to hop and didn't: so each step begins rested

-- what holds between steps
pub record IsReady (setting : Setting) (journal : List Item) : Type 0 where
  pub settled : IsSettled setting journal
  pub begins : JournalItemsHaveCauses BeginsRested [] journal
  pub off : (i : ℕ) → is_asked journal i ≡ false

pub hop_causes : (setting : Setting) (journal : List Item) → IsReady setting journal
    → JournalItemsHaveCauses (IsHopItem setting) [] journal
hop_causes setting journal ready = search (rules, have_both)

-- ---- a piece

no_row_begins : (before : List Item) (next : Item) → IsNoRow next → BeginsRested before next
no_row_begins before (Item.Row row step) none = absurd none
no_row_begins before next none = tt

piece_begins : (setting : Setting) (journal : List Item) (row : ℕ) (step : Step)
    → IsReady setting journal → JournalItemsHaveCauses BeginsRested journal (piece setting journal row step)
unfolding piece
piece_begins setting journal row step ready = (
  record { rests = ready.settled.rests; off = ready.off },
  have_weaker _ BeginsRested no_row_begins _ _ (no_rows setting journal row step),
)

-- the journal behind the row has its causes
row_causes : (setting : Setting) (journal : List Item) (row : ℕ) (step : Step)
    → NamesOwn setting step → IsSettled setting journal
    → JournalItemsHaveCauses (IsWayItem setting) [] (journal ++ Item.Row row step ∷ [])
unfolding piece
row_causes setting journal row step own settled = search (rules, have_append, piece_causes)

row_off : (journal : List Item) (row : ℕ) (step : Step) (j : ℕ)
    → changes_asked j journal false (Item.Row row step) ≡ false
    → is_asked journal j ≡ false → is_asked (journal ++ Item.Row row step ∷ []) j ≡ false
row_off journal row step j stays off = search (rules, asked_more)

step_off : (setting : Setting) (journal : List Item) (row : ℕ) (step : Step) (j : ℕ)
    → IsMachineSetting setting → NamesOwn setting step → IsReady setting journal
    → let here = journal ++ Item.Row row step ∷ [] in
    is_asked (here ++ machine_step_items setting journal step here) j ≡ false
step_off setting journal row (Hop i) j is own ready = by_test ((i == j) && travels_in_journal journal j) refl
  where
    here : List Item
    here = journal ++ Item.Row row (Hop i) ∷ []

    by_test : (b : Bool) → ((i == j) && travels_in_journal journal j) ≡ b
        → is_asked (here ++ machine_step_items setting journal (Hop i) here) j ≡ false
    by_test false e = stays_off j here _ (no_rows setting journal row (Hop i))
        (row_off journal row (Hop i) j (rw e refl) (ready.off j))
    by_test true e =
        let parts = and_parts (i == j) (travels_in_journal journal j) e in
        let keeps = packet_keeps j journal (Item.Row row (Hop i) ∷ []) (refl, tt) in
        turns_off j here (machine_step_items setting journal (Hop i) here)
        (no_rows setting journal row (Hop i))
        (subst (λ k. NamesFirst j (machine_hop_items setting k here)) (sym (eqb-true i j parts.0))
        (hop_names setting j here is (row_causes setting journal row (Hop i) own ready.settled)
        (row_rests journal row (Hop i) ready.settled.rests) (keeps.travels ∙ parts.1)))
step_off setting journal row step j is own ready = stays_off j (journal ++ Item.Row row step ∷ []) _
    (no_rows setting journal row step) (row_off journal row step j refl (ready.off j))

pub piece_ready : (setting : Setting) (journal : List Item) (row : ℕ) (step : Step)
    → IsMachineSetting setting → NamesOwn setting step → IsReady setting journal
    → IsReady setting (journal ++ piece setting journal row step)
piece_ready setting journal row step is own ready = record {
  settled = piece_settled setting journal row step is own ready.settled;
  begins = have_append _ [] journal _ ready.begins (piece_begins setting journal row step ready);
  off = λ j. behind_piece setting journal row step (λ js. is_asked js j ≡ false)
      (step_off setting journal row step j is own ready);
}

-- ---- steps

pub ready_at_first : (setting : Setting) → IsReady setting []
unfolding is_asked
ready_at_first setting = record { settled = settled_at_first setting; begins = tt; off = λ i. refl }

ready_carried : (setting : Setting) → IsCarried setting (OfSettings IsReady setting)
ready_carried = setting_carries IsReady ready_at_first piece_ready

pub steps_ready : (setting : Setting) (before : List Item) (steps : List MachineStepOfRow)
    → IsMachineSetting setting → AreOf (NamesOwn setting) steps → IsReady setting before
    → IsReady setting (journal_after_steps setting before steps)
steps_ready setting before steps is own ready = carried_on setting (OfSettings IsReady setting)
    (ready_carried setting) before steps own (λ is. ready) is

pub reached_ready : (setting : Setting) (journal : List Item) → IsJournalReached setting journal
    → IsMachineSetting setting → IsReady setting journal
reached_ready setting = reached_carries setting (OfSettings IsReady setting) (ready_carried setting)

-- what follows from the causes of all items is true of each reached journal, within a step too
pub reached : (Holds : Setting → List Item → Type 0) → ((setting : Setting) (journal : List Item)
    → IsMachineSetting setting → JournalItemsHaveCauses (IsHopItem setting) [] journal → Holds setting journal)
    → ControlLawHoldsReached (λ setting journal. IsMachineSetting setting → Holds setting journal)
reached Holds = reached_by IsReady Holds IsHopItem ready_carried hop_causes

-- ---- drain hops

-- ---- what a hop leaves

-- a hop is taken when its row is there
not_taken : (j n : ℕ) (before : List Item) (next : Item) → IsNoRow next
    → changes_packet_hops_taken j before n next ≡ n
not_taken j n before next none = search rules

taken_stays : (j n : ℕ) → AreKept (λ js next. IsNoRow next) (λ js. packet_hops_taken js j ≡ n)
taken_stays j n before next none same = search (rules, hops_more, not_taken)

-- a step that brings no packet in
record IsHopping (i count : ℕ) (journal : List Item) : Type 0 where
  present : journal_present_step journal ≡ Some (Hop i)
  packets : machine_count_of is_machine_packet_entry journal ≡ count

no_row_concerns : (before : List Item) (next : Item) → IsNoRow next
    → machine_item_concerns_steps before next ≡ false
no_row_concerns before next none = search rules

still_present : (before : List Item) (next : Item) (i : ℕ) → IsNoRow next
    → journal_present_step before ≡ Some (Hop i) → journal_present_step (before ++ next ∷ []) ≡ Some (Hop i)
still_present before next i none present = search (rules, step_stays, no_row_concerns)

hopping_kept : (setting : Setting) (i count : ℕ)
    → AreKept (Both (HasPacketItemCause setting) (λ js next. IsNoRow next)) (IsHopping i count)
hopping_kept setting i count before next both are = search (rules, still_present, count_more)

-- one more hop of its packet, and none of another
record IsHopped (i : ℕ) (before after : List Item) : Type 0 where
  own : packet_hops_taken after i ≡ packet_hops_taken before i + 1
  others : (j : ℕ) → j ≢ i → packet_hops_taken after j ≡ packet_hops_taken before j
  packets : journal_packets after ≡ journal_packets before

row_present : (journal : List Item) (row i : ℕ)
    → journal_present_step (journal ++ Item.Row row (Hop i) ∷ []) ≡ Some (Hop i)
unfolding journal_present_step
row_present journal row i = last_given_append machine_item_gives_step journal (Item.Row row (Hop i) ∷ [])

hop_is : (setting : Setting) (journal : List Item) (row i : ℕ) → IsReady setting journal
    → travels_in_journal journal i ≡ true → IsHopped i journal (journal ++ piece setting journal row (Hop i))
unfolding piece
hop_is setting journal row i ready on =
    subst (IsHopped i journal) (append_assoc journal (Item.Row row (Hop i) ∷ []) items) (record {
      own = behind i _ (hops_more journal (Item.Row row (Hop i)) i ∙ rw (eq-eqb i i refl, on) refl);
      others = λ j apart. behind j _ (hops_more journal (Item.Row row (Hop i)) j
          ∙ rw (ne_eqb i j (λ same. apart (sym same))) refl);
      packets = ap (range_with_len 1) hopping.packets;
    })
  where
    here : List Item
    here = journal ++ Item.Row row (Hop i) ∷ []

    items : List Item
    items = machine_step_items setting journal (Hop i) here

    behind : (j n : ℕ) → packet_hops_taken here j ≡ n → packet_hops_taken (here ++ items) j ≡ n
    behind j n is = fact_on _ _ (taken_stays j n) here items (no_rows _ journal row (Hop i)) is

    hopping : IsHopping i (machine_count_of is_machine_packet_entry journal) (here ++ items)
    hopping = fact_on _ (IsHopping i (machine_count_of is_machine_packet_entry journal))
        (hopping_kept setting i (machine_count_of is_machine_packet_entry journal)) here items
        (have_both _ _ here items (piece_ways setting journal row (Hop i) ready.settled.rests).1
        (no_rows setting journal row (Hop i))) (record {
          present = row_present journal row i;
          packets = count_more is_machine_packet_entry journal (Item.Row row (Hop i));
        })

-- ---- what is left

sum_stays : (f g : ℕ → ℕ) → ((x : ℕ) → g x ≤ f x) → (xs : List ℕ) → sum_by g xs ≤ sum_by f xs
sum_stays f g less [] = omega arith
sum_stays f g less (x ∷ xs) = omega (
  arith,
  sum_by-cons g x xs,
  sum_by-cons f x xs,
  less x,
  sum_stays f g less xs,
)

-- a sum falls where each part stays or falls, and that of an element that is found does
sum_falls : (f g : ℕ → ℕ) (test : ℕ → Bool) (i : ℕ) → ((x : ℕ) → g x ≤ f x) → g i < f i
    → (xs : List ℕ) → find test xs ≡ Some i → sum_by g xs < sum_by f xs
sum_falls f g test i less falls [] is = absurd cc
sum_falls f g test i less falls (x ∷ xs) is =
    search (rules, sum_by-cons, sum_stays, sum_falls f g test i less falls xs)

next_travels : (journal : List Item) (i : ℕ) → next_travelling journal ≡ Some i
    → travels_in_journal journal i ≡ true
unfolding next_travelling
next_travels journal i is = (least (travels_in_journal journal) 1 (machine_count_of is_machine_packet_entry journal) i is).holds

fewer_left : (journal after : List Item) (i : ℕ) → IsHopped i journal after
    → packet_hops_taken after i ≤ most_packet_hops → next_travelling journal ≡ Some i
    → packet_drain_left after < packet_drain_left journal
unfolding packet_drain_left next_travelling
fewer_left journal after i hopped few is = search (rules, sum_falls, cases_eq)

pub drain_falls : (setting : Setting) (journal : List Item) (row i : ℕ) → IsMachineSetting setting
    → IsReady setting journal → next_travelling journal ≡ Some i
    → packet_drain_left (journal ++ piece setting journal row (Hop i)) < packet_drain_left journal
drain_falls setting journal row i is ready least =
    let after : List Item = journal ++ piece setting journal row (Hop i) in
    fewer_left journal after i
    (hop_is setting journal row i ready (next_travels journal i least))
    (hops_few _ after is (hop_causes _ after (piece_ready _ _ row (Hop i) is tt ready)) i) least

-- ---- a drain

by_next : (next : Option ℕ) (acts : ℕ → Step) (step : Step) (P : Step → Type 0)
    → ((n : ℕ) → next ≡ Some n → P (acts n)) → option_map acts next ≡ Some step → P step
by_next None acts step P each is = absurd cc
by_next (Some n) acts step P each is = let same : acts n ≡ step = cc in subst P same (each n refl)

pub drain_nears : (setting : Setting) (row : ℕ) → IsMachineSetting setting
    → Nears setting journal_next_hop row (IsReady setting) packet_drain_left
drain_nears setting row is = record {
  kept = λ journal step ready next. by_next (next_travelling journal) Hop step
      (λ s. IsReady setting (journal ++ piece setting journal row s))
      (λ i least. piece_ready setting journal row (Hop i) is tt ready) next;
  nearer = λ journal step ready next. by_next (next_travelling journal) Hop step
      (λ s. packet_drain_left (journal ++ piece setting journal row s) < packet_drain_left journal)
      (λ i least. drain_falls setting journal row i is ready least) next;
}

pub drain_ends : (setting : Setting) (journal : List Item) (row : ℕ) → IsMachineSetting setting
    → IsReady setting journal → (steps : List MachineStepOfRow) × AreAllMachineEventSteps setting journal_next_hop row journal steps
drain_ends setting journal row is ready = loop_ends _ _ row _ _ (drain_nears setting row is) _ ready

-- ---- how many hops

-- there are no more steps than is left
few_steps : (setting : Setting) (next : List Item → Option Step) (row : ℕ)
    (holds : List Item → Type 0) (left : List Item → ℕ) → Nears setting next row holds left
    → (journal : List Item) (steps : List MachineStepOfRow) → holds journal
    → AreFirstMachineEventSteps setting next row journal steps → length steps ≤ left journal
few_steps setting next row holds left nears journal [] here are = omega arith
few_steps setting next row holds left nears journal (first ∷ steps) here are =
    let after : ℕ → List Item = λ k. journal ++ piece setting journal k first.step in
    let nearer = subst (λ k. left (after k) < left journal) (sym are.0)
    (nears.nearer journal first.step here are.1) in
    let rest = few_steps setting next row holds left nears (after first.row) steps
    (subst (λ k. holds (after k)) (sym are.0) (nears.kept journal first.step here are.1)) are.2 in
    omega (arith, nearer, rest)

sum_few : (journal : List Item) (xs : List ℕ)
    → sum_by (packet_hops_left journal) xs ≤ most_packet_hops * length xs
sum_few journal [] = omega arith
sum_few journal (x ∷ xs) = omega (arith, sum_by-cons (packet_hops_left journal) x xs, sum_few journal xs)

few_left : (journal : List Item) → packet_drain_left journal ≤ most_packet_hops * (journal_next_packet journal - 1)
unfolding packet_drain_left journal_next_packet
few_left journal = omega (arith, sum_few, length-range_with_len)

pub drain_short : (setting : Setting) (journal : List Item) (row : ℕ) (steps : List MachineStepOfRow)
    → IsMachineSetting setting → IsReady setting journal → AreFirstMachineEventSteps setting journal_next_hop row journal steps
    → length steps ≤ most_packet_hops * (journal_next_packet journal - 1)
drain_short setting journal row steps is ready are =
    let most = few_steps setting _ row _ _ (drain_nears setting row is) journal steps ready are in
    omega (arith, most, few_left journal)
