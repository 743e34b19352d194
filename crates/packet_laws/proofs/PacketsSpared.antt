-- What a step leaves of packets that it isn't about: they are on their way as before.
use Rattle.std.proofs.Common.{[], ◌++◌, ◌+◌, ◌==◌, ◌∙◌, ◌∷◌, ◌≡◌, ◌≤◌, ◌⊎◌, Bool, IsFalse, List, None, Option, Some, arith, eq-eqb, eqb-true, false, filter, if◌then◌else◌, inr, map, ne_eqb, refl, suc, sym, true, unwrap_or, zero, ℕ, rules}
use Rattle.base.proofs.Exports.{⊤, and_parts, option_or, range_with_len}
use Rattle.update_machine.specs.Exports.{Action, MachineAuthorityRule, Confirm, Crash, Deliver, Expire, Forget, Found, JournalItemsHaveCauses, Header, Hop, Item, Leg, LinkDown, LinkUp, Lose, Packet, MachinePacketKeeps, Resend, Restart, Setting, Step, Update, machine_arrive_items, machine_authority_items, journal_cache_items, machine_count_of, journal_crash_items, machine_end_items, machine_found_items, machine_item_gives_step, machine_item_gives_travelling, machine_hop_items, is_at_machine_switch, is_machine_packet_entry, is_up, journal_items_then, journal_last_given, machine_leg_items, journal_link_changes, machine_lookup_items, machine_lose_items, machine_move_items, nothing, machine_packet_items, journal_packets_at, piece, journal_present_step, machine_reroute_items, machine_sent_items_from, journal_standing_of, machine_step_items, travels_in_journal, journal_travels_at}
use Rattle.update_machine.proofs.Exports.{have_append, have_first, have_put, last_given_append, packet_keeps, packets_keep, step_stays}
use Rattle.control_laws.proofs.Exports.{AreKept, confirm_control, fact_on, have_weaker, serving_more, up_more}
use Rattle.packet_laws.specs.Exports.{ArePacketsResting, IsPacketMoving, IsPacketServed, HasPacketItemCause, packet_law_ends_with_row, packet_fallen_switch, gives_fallen_packet_switch, gives_whether_packet_row, gives_packet_stage}
use Rattle.packet_laws.proofs.PacketOtherBlocks.{AreAside, IsAside, aside_ways, changes_aside, control_aside, deliver_aside, expire_aside, forget_aside, link_aside, resend_aside, restart_aside, update_aside}
use Rattle.packet_laws.proofs.PacketBlocks.{Ways, hop_ways, lose_ways, packet_ways, stage_stays, travels_more}

-- ---- each piece has the causes of packets' items, whatever its step, where all packets rest
-- before it

-- ---- a crash

-- the packets from this number on are as they were
abbrev AsBefore : List Item → List Item → ℕ → Type 0
AsBefore before journal k = (j : ℕ) → k ≤ j
    → (travels_in_journal journal j ≡ travels_in_journal before j) × (journal_standing_of journal j ≡ journal_standing_of before j)

-- the switch went down in its crash
record WentDown (journal : List Item) (s : ℕ) : Type 0 where
  crashes : journal_present_step journal ≡ Some (Crash s)
  fell : packet_fallen_switch journal ≡ Some s
  down : IsFalse (is_up journal s)

at_switch : (s : ℕ) (at : Option ℕ) → is_at_machine_switch s at ≡ true → at ≡ Some s
at_switch s at is = search (rules, eqb-true)

fallen_more : (journal : List Item) (next : Item) → packet_fallen_switch (journal ++ next ∷ [])
    ≡ unwrap_or (option_or (gives_fallen_packet_switch next) (journal_last_given gives_fallen_packet_switch journal)) None
unfolding packet_fallen_switch
fallen_more journal next = cc (last_given_append gives_fallen_packet_switch journal (next ∷ []))

fallen_stays : (journal : List Item) (next : Item) → gives_fallen_packet_switch next ≡ None
    → packet_fallen_switch (journal ++ next ∷ []) ≡ packet_fallen_switch journal
unfolding packet_fallen_switch
fallen_stays journal next none = search (rules, last_given_append)

lost_on : (journal : List Item) (s k : ℕ) → WentDown journal s
    → WentDown (journal ++ Item.Lost k ∷ []) s
lost_on journal s k went = record {
  crashes = step_stays journal (Item.Lost k ∷ []) (refl, tt) ∙ went.crashes;
  fell = fallen_stays journal (Item.Lost k) refl ∙ went.fell;
  down = rw (up_more journal (Item.Lost k) s) went.down;
}

losts_ways : (setting : Setting) (before : List Item) (s k n : ℕ) (journal : List Item)
    → WentDown journal s → AsBefore before journal k
    → Ways setting journal (map Item.Lost (filter (journal_travels_at before s) (range_with_len k n)))
losts_ways setting before s k zero journal went same = tt
losts_ways setting before s k (suc n) journal went same = by_test (journal_travels_at before s k) refl
    (λ now down equal. losts_ways setting before s (k + 1) n now down equal)
  where
    rest : List ℕ
    rest = filter (journal_travels_at before s) (range_with_len (k + 1) n)

    by_test : (b : Bool) → journal_travels_at before s k ≡ b → ((now : List Item) → WentDown now s
        → AsBefore before now (k + 1) → Ways setting now (map Item.Lost rest))
        → Ways setting journal (map Item.Lost (if b then k ∷ rest else rest))
    by_test false e later = later journal went (λ j above. same j (omega (arith, above)))
    by_test true e later =
        let both = and_parts (travels_in_journal before k) (is_at_machine_switch s (journal_standing_of before k)) e in (
          record {
            travelling = (same k (omega arith)).0 ∙ both.0;
            how = inr (record {
              switch = s;
              crashes = went.crashes;
              fell = went.fell;
              down = went.down;
              stands = (same k (omega arith)).1 ∙ at_switch s (journal_standing_of before k) both.1;
            });
          },
          later (journal ++ Item.Lost k ∷ []) (lost_on journal s k went) (λ j above. let
              keeps : MachinePacketKeeps j journal (journal ++ Item.Lost k ∷ []) = packet_keeps j journal
              (Item.Lost k ∷ []) (ne_eqb k j (λ equal. omega (arith, equal, above)), tt) in (
                keeps.travels ∙ (same j (omega (arith, above))).0,
                keeps.stands ∙ (same j (omega (arith, above))).1,
              )),
        )

down_now : (journal : List Item) (s : ℕ) → journal_present_step journal ≡ Some (Crash s)
    → WentDown (journal ++ Item.Down s ∷ []) s
down_now journal s crashes = record {
  crashes = step_stays journal (Item.Down s ∷ []) (refl, tt) ∙ crashes;
  fell = fallen_more journal (Item.Down s);
  down = rw (up_more journal (Item.Down s) s, eq-eqb s s refl) refl;
}

crash_ways : (setting : Setting) (before : List Item) (s : ℕ) (journal : List Item)
    → journal_present_step journal ≡ Some (Crash s) → AsBefore before journal 0
    → Ways setting journal (journal_crash_items setting before s journal)
unfolding journal_crash_items
crash_ways setting before s journal crashes same = by_up (is_up before s) where
  by_up : (b : Bool) → Ways setting journal (elim b [
    | false ↦ nothing
    | true ↦ journal_items_then (Item.Down s ∷ map Item.Lost (journal_packets_at before s))
        (journal_link_changes setting before) journal
  ])
  by_up false = (tt, tt)
  by_up true = have_put (HasPacketItemCause setting) (Item.Down s ∷ map Item.Lost (journal_packets_at before s))
      (journal_link_changes setting before) journal (
        crashes,
        losts_ways setting before s 1 (machine_count_of is_machine_packet_entry before) _ (down_now journal s crashes)
            (λ j above. let keeps : MachinePacketKeeps j journal (journal ++ Item.Down s ∷ []) =
            packet_keeps j journal (Item.Down s ∷ []) (refl, tt) in (
              keeps.travels ∙ (same j (omega arith)).0,
              keeps.stands ∙ (same j (omega arith)).1,
            )),
      )
      (aside_ways setting _ _ (changes_aside setting before _))

-- ---- all steps

pub step_now : (before : List Item) (row : ℕ) (step : Step)
    → journal_present_step (before ++ Item.Row row step ∷ []) ≡ Some step
unfolding journal_present_step
step_now before row step = last_given_append machine_item_gives_step before (Item.Row row step ∷ [])

row_now : (before : List Item) (row : ℕ) (step : Step)
    → packet_law_ends_with_row (before ++ Item.Row row step ∷ []) ≡ true
unfolding packet_law_ends_with_row
row_now before row step = cc (last_given_append gives_whether_packet_row before (Item.Row row step ∷ []))

-- the row leaves packets and switches as they are
pub row_rests : (before : List Item) (row : ℕ) (step : Step) → ArePacketsResting before
    → ArePacketsResting (before ++ Item.Row row step ∷ [])
row_rests before row step rests = record {
  served = λ i travelling.
      let here : IsPacketServed before i = rests.served i (sym (keeps i).travels ∙ travelling) in record {
        switch = here.switch;
        stands = (keeps i).stands ∙ here.stands;
        serving = rw (serving_more before (Item.Row row step) here.switch) here.serving;
      };
  moving = λ i travelling. stage_stays before (Item.Row row step) i refl
      ∙ rests.moving i (sym (keeps i).travels ∙ travelling);
} where
  keeps : (i : ℕ) → MachinePacketKeeps i before (before ++ Item.Row row step ∷ [])
  keeps i = packet_keeps i before (Item.Row row step ∷ []) (refl, tt)

-- the steps that move no packet
abbrev pub MovesNone : Step → Type 0
MovesNone (Packet s header) = ⊥
MovesNone (Hop i) = ⊥
MovesNone (Lose i) = ⊥
MovesNone (Crash s) = ⊥
MovesNone _ = ⊤

pub step_aside : (setting : Setting) (before : List Item) (row : ℕ) (step : Step) → MovesNone step
    → let here = before ++ Item.Row row step ∷ [] in
    AreAside here (machine_step_items setting before step here)
step_aside setting before row (Deliver number) none = deliver_aside setting before number _
step_aside setting before row (Forget number) none = forget_aside number _
step_aside setting before row (Expire s place) none = expire_aside setting s place _
step_aside setting before row (Update file) none = update_aside _ file _ (step_now before row _)
step_aside setting before row (LinkDown one two) none = link_aside _ _ _ two _ _ (step_now _ row _)
step_aside setting before row (LinkUp one two) none = link_aside _ _ one two _ _ (step_now _ row _)
step_aside setting before row (Restart s) none = restart_aside s _ (step_now before row (Restart s))
step_aside setting before row (Confirm s) none = control_aside _ _ (confirm_control setting s _)
step_aside setting before row (Resend s) none = resend_aside setting s _
step_aside setting before row step none = absurd none

step_ways : (setting : Setting) (before : List Item) (row : ℕ) (step : Step) → ArePacketsResting before
    → let here = before ++ Item.Row row step ∷ [] in
    Ways setting here (machine_step_items setting before step here)
step_ways setting before row (Packet s header) rests = packet_ways setting _ _ s header (record {
  number = sym (packets_keep before (Item.Row row (Packet s header) ∷ []) (refl, tt)).next;
  row = step_now before row (Packet s header);
  behind = row_now before row (Packet s header);
})
step_ways setting before row (Hop i) rests = hop_ways _ _ i (row_rests before row (Hop i) rests)
step_ways setting before row (Lose i) rests = lose_ways setting _ i (step_now before row (Lose i))
step_ways setting before row (Crash s) rests = crash_ways setting before s _
    (step_now before row (Crash s)) (λ j above. let keeps = packet_keeps j before _ (refl, tt) in
    (keeps.travels, keeps.stands))
step_ways setting before row step rests = aside_ways _ _ _ (step_aside setting before row step tt)

pub piece_ways : (setting : Setting) (before : List Item) (row : ℕ) (step : Step)
    → ArePacketsResting before → Ways setting before (piece setting before row step)
unfolding piece
piece_ways setting before row step rests = have_first (HasPacketItemCause setting) (Item.Row row step)
    (machine_step_items setting before step) before tt (step_ways setting before row step rests)

-- ---- spared packets

-- ---- items that say nothing of where a packet is about

-- no step begins
abbrev pub IsNoRow : Item → Type 0
IsNoRow (Item.Row row step) = ⊥
IsNoRow _ = ⊤

-- nor does a packet enter, nor is one closed
abbrev pub IsInStep : Item → Type 0
IsInStep (Item.Row row step) = ⊥
IsInStep (Item.Entered packet switch header) = ⊥
IsInStep (Item.Closed packet switch) = ⊥
IsInStep _ = ⊤

-- the item doesn't bring the packet in or on, and begins no step
abbrev pub Spares : ℕ → List Item → Item → Type 0
Spares i before next = (gives_packet_stage i next ≡ None) × IsNoRow next

-- nor does a packet enter by it, nor is one closed
abbrev pub SparesAll : ℕ → List Item → Item → Type 0
SparesAll i before next = (gives_packet_stage i next ≡ None) × IsInStep next

in_step_no_row : (next : Item) → IsInStep next → IsNoRow next
in_step_no_row next within = search rules

pub spare : (i : ℕ) (before items : List Item) → JournalItemsHaveCauses (SparesAll i) before items
    → JournalItemsHaveCauses (Spares i) before items
spare i before items all = search (rules, have_weaker, in_step_no_row)

pub in_step : (i : ℕ) (before items : List Item) → JournalItemsHaveCauses (SparesAll i) before items
    → JournalItemsHaveCauses (λ js next. IsInStep next) before items
in_step i before items all = search (rules, have_weaker)

pub ends_or_not : (b : Bool) → ((if b then Some false else None) ≡ None)
    ⊎ ((if b then Some false else None) ≡ Some false)
ends_or_not b = search rules

comes_in : (i : ℕ) (next : Item) → gives_packet_stage i next ≡ None
    → (machine_item_gives_travelling i next ≡ None) ⊎ (machine_item_gives_travelling i next ≡ Some false)
comes_in i next spares = search (rules, ends_or_not)

pub spared_on : (i : ℕ) → AreKept (Spares i) (λ journal. IsPacketMoving journal i)
spared_on i before next spares done travelling = search (rules, stage_stays, travels_more)

pub spared : (i : ℕ) (before items : List Item) → JournalItemsHaveCauses (Spares i) before items
    → IsPacketMoving before i → IsPacketMoving (before ++ items) i
spared i before items spares done = fact_on (Spares i) _ (spared_on i) before items spares done

-- ---- the blocks of another packet

abbrev Spared : ℕ → List Item → List Item → Type 0
Spared j journal items = JournalItemsHaveCauses (SparesAll j) journal items

-- the packets are two
abbrev Apart : ℕ → ℕ → Type 0
Apart i j = (i == j) ≡ false

leg_spares : (setting : Setting) (j : ℕ) (journal : List Item) (i s : ℕ) (leg : Leg) → Apart i j
    → Spared j journal (machine_leg_items setting journal i s leg)
unfolding machine_leg_items
leg_spares setting j journal i s leg apart = grind (arith, apart)

end_spares : (setting : Setting) (j i s : ℕ) (act : Action) (journal : List Item) → Apart i j
    → Spared j journal (machine_end_items setting i s act journal)
unfolding machine_end_items
end_spares setting j i s Action.Drop journal apart = ((refl, tt), tt)
end_spares setting j i s (Action.Out port) journal apart = grind (arith, leg_spares, apart)

cache_spares : (setting : Setting) (j i s : ℕ) (rule : MachineAuthorityRule) (journal : List Item)
    → Spared j journal (journal_cache_items setting i s rule journal)
unfolding journal_cache_items machine_sent_items_from
cache_spares setting j i s rule journal = grind arith

authority_spares : (setting : Setting) (j i s : ℕ) (rule : Option MachineAuthorityRule)
    (journal : List Item) → Apart i j → Spared j journal (machine_authority_items setting i s rule journal)
unfolding machine_authority_items
authority_spares setting j i s None journal apart = tt
authority_spares setting j i s (Some rule) journal apart =
    grind (arith, have_append, cache_spares, end_spares, apart)

found_spares : (setting : Setting) (j i s : ℕ) (what : Found) (journal : List Item) → Apart i j
    → Spared j journal (machine_found_items setting i s what journal)
found_spares setting j i s what journal apart =
    grind (arith, end_spares, authority_spares, leg_spares, apart)

lookup_spares : (setting : Setting) (j i s : ℕ) (journal : List Item) → Apart i j
    → Spared j journal (machine_lookup_items setting i s journal)
unfolding machine_lookup_items
lookup_spares setting j i s journal apart = found_spares setting j i s _ journal apart

arrive_spares : (setting : Setting) (j i s : ℕ) (journal : List Item) → Apart i j
    → Spared j journal (machine_arrive_items setting i s journal)
unfolding machine_arrive_items
arrive_spares setting j i s journal apart = grind (arith, lookup_spares, authority_spares, apart)

reroute_spares : (setting : Setting) (j i s : ℕ) (journal : List Item) → Apart i j
    → Spared j journal (machine_reroute_items setting i s journal)
unfolding machine_reroute_items
reroute_spares setting j i s journal apart = grind (arith, arrive_spares, apart)

move_spares : (setting : Setting) (j i s : ℕ) (journal : List Item) → Apart i j
    → Spared j journal (machine_move_items setting i s journal)
unfolding machine_move_items
move_spares setting j i s journal apart = grind (arith, arrive_spares, reroute_spares, apart)

pub lookup_in_step : (setting : Setting) (i s : ℕ) (journal : List Item)
    → JournalItemsHaveCauses (λ js next. IsInStep next) journal (machine_lookup_items setting i s journal)
lookup_in_step setting i s journal = in_step (i + 1) journal _
    (lookup_spares setting (i + 1) i s journal (ne_eqb i (i + 1) (λ same. omega (arith, same))))

lookup_spare : (setting : Setting) (j i s : ℕ) (journal : List Item) → Apart i j
    → JournalItemsHaveCauses (Spares j) journal (machine_lookup_items setting i s journal)
lookup_spare setting j i s journal apart = spare j _ _ (lookup_spares setting j i s journal apart)

pub packet_spares : (setting : Setting) (j i s : ℕ) (header : Header) (journal : List Item)
    → Apart i j → JournalItemsHaveCauses (Spares j) journal (machine_packet_items setting i s header journal)
unfolding machine_packet_items
packet_spares setting j i s header journal apart = grind (arith, lookup_spare, apart)

pub hop_spares : (setting : Setting) (j i : ℕ) (journal : List Item) → Apart i j
    → Spared j journal (machine_hop_items setting i journal)
unfolding machine_hop_items
hop_spares setting j i journal apart = grind (arith, move_spares, apart)

-- ---- other steps

pub lose_spares : (j i : ℕ) (journal : List Item) → Spared j journal (machine_lose_items i journal)
unfolding machine_lose_items
lose_spares j i journal = grind arith

aside_spares_one : (j : ℕ) (before : List Item) (next : Item) → IsAside before next
    → SparesAll j before next
aside_spares_one j before (Item.Entered packet switch header) aside = absurd aside
aside_spares_one j before (Item.Closed packet switch) aside = absurd aside
aside_spares_one j before (Item.Decided packet version rule act by) aside = absurd aside
aside_spares_one j before (Item.FoundDown packet one two) aside = absurd aside
aside_spares_one j before (Item.Seeking packet version partition route) aside = absurd aside
aside_spares_one j before (Item.Exiting packet route) aside = absurd aside
aside_spares_one j before (Item.Rerouted packet route) aside = absurd aside
aside_spares_one j before (Item.Hopped packet switch) aside = absurd aside
aside_spares_one j before (Item.Row row step) aside = absurd aside
aside_spares_one j before _ aside = (refl, tt)

pub aside_spares : (j : ℕ) (before items : List Item) → AreAside before items
    → Spared j before items
aside_spares j before items aside = have_weaker IsAside _ (aside_spares_one j) before items aside

losts_spare : (j : ℕ) (packets : List ℕ) (journal : List Item)
    → Spared j journal (map Item.Lost packets)
losts_spare j [] journal = tt
losts_spare j (i ∷ packets) journal = ((refl, tt), losts_spare j packets _)

pub crash_spares : (setting : Setting) (j : ℕ) (before : List Item) (s : ℕ) (journal : List Item)
    → Spared j journal (journal_crash_items setting before s journal)
unfolding journal_crash_items
crash_spares setting j before s journal = by_up (is_up before s) where
  by_up : (b : Bool) → Spared j journal (elim b [
    | false ↦ nothing
    | true ↦ journal_items_then (Item.Down s ∷ map Item.Lost (journal_packets_at before s))
        (journal_link_changes setting before) journal
  ])
  by_up false = ((refl, tt), tt)
  by_up true = have_put (SparesAll j) (Item.Down s ∷ map Item.Lost (journal_packets_at before s))
      (journal_link_changes setting before) journal
      ((refl, tt), losts_spare j (journal_packets_at before s) (journal ++ Item.Down s ∷ []))
      (aside_spares j _ _ (changes_aside setting before _))
