-- Travelling packets stand at switches that serve, behind each item but those of a crash; and what
-- else each item keeps of packets' numbers and legs.
use Rattle.std.proofs.Common.{[], ◌++◌, ◌+◌, ◌<◌, ◌==◌, ◌∙◌, ◌∷◌, ◌≡◌, ◌≤◌, ◌⊎◌, Bool, IsFalse, IsTrue, List, None, Some, append-nil, append_assoc, arith, eqb-true, false, if◌then◌else◌, inl, inr, map, refl, subst, sym, true, ℕ, rules}
use Rattle.base.proofs.Exports.{⊤, list_any, nat_tests}
use Rattle.base.specs.Exports.{has}
use Rattle.update_machine.specs.Exports.{Exit, Item, Leg, Message, Seek, Setting, changes_journal_leg, machine_count_of, journal_crash_items, journal_exit_port, machine_item_gives_serving, machine_item_gives_standing, machine_item_gives_travelling, is_machine_packet_entry, is_up, journal_items_then, journal_leg_of, journal_link_changes, journal_next_message, journal_next_packet, nothing, journal_packets_at, machine_sent_items_from, serves, journal_standing_of, travels_in_journal}
use Rattle.update_machine.proofs.Exports.{count_of_append, folded_append}
use Rattle.control_laws.specs.Exports.{HasControlItemCause, ControlServingIsKnown}
use Rattle.control_laws.proofs.Exports.{AreKept, any_picked, ends_serve, losts_keep, serving_more}
use Rattle.packet_laws.specs.Exports.{ArePacketsServed, Blocked, CameIn, IsPacketServed, Judged, OnWay, HasPacketItemCause, PacketStage, gives_packet_stage, packet_stage_of}
use Rattle.packet_laws.proofs.PacketsSpared.{ends_or_not}
use Rattle.packet_laws.proofs.PacketBlocks.{ended, stage_next, standing_more, travels_more}

-- ---- what one more item makes of facts

pub packet_more : (before : List Item) (next : Item)
    → journal_next_packet (before ++ next ∷ []) ≡ journal_next_packet before + machine_count_of is_machine_packet_entry (next ∷ [])
unfolding journal_next_packet
packet_more before next = rw (count_of_append is_machine_packet_entry before (next ∷ [])) (omega arith)

-- ---- served packets

-- the causes of items of switches and of packets
pub record IsCaused (setting : Setting) (before : List Item) (next : Item) : Type 0 where
  pub switches : HasControlItemCause setting before next
  pub way : HasPacketItemCause setting before next
  pub known : ControlServingIsKnown before

abbrev pub NotDown : Item → Type 0
NotDown (Item.Down s) = ⊥
NotDown _ = ⊤

-- an item that brings no packet to another switch, behind which its own serves as before
pub stays_served : (before : List Item) (next : Item) (i : ℕ) → machine_item_gives_standing i next ≡ None
    → (machine_item_gives_travelling i next ≡ None) ⊎ (machine_item_gives_travelling i next ≡ Some false)
    → ((s : ℕ) → IsTrue (serves before s) → IsTrue (serves (before ++ next ∷ []) s))
    → (IsTrue (travels_in_journal before i) → IsPacketServed before i)
    → IsTrue (travels_in_journal (before ++ next ∷ []) i) → IsPacketServed (before ++ next ∷ []) i
stays_served before next i stays h4 on served travelling =
    search (rules, travels_more, standing_more)

pub still_serves : (before : List Item) (next : Item) (s : ℕ) → machine_item_gives_serving s next ≡ None
    → IsTrue (serves before s) → IsTrue (serves (before ++ next ∷ []) s)
still_serves before next s none serving = rw (serving_more before next s, none) serving

pub record IsCausedUp (setting : Setting) (before : List Item) (next : Item) : Type 0 where
  pub caused : IsCaused setting before next
  pub not_down : NotDown next

-- an item that brings a packet to a switch that serves
brought_served : (before : List Item) (next : Item) (packet s i : ℕ)
    → ((t : ℕ) → machine_item_gives_serving t next ≡ None)
    → machine_item_gives_standing i next ≡ (if packet == i then Some s else None)
    → ((packet == i) ≡ false → machine_item_gives_travelling i next ≡ None) → ArePacketsServed before
    → IsTrue (serves before s) → IsTrue (travels_in_journal (before ++ next ∷ []) i)
    → IsPacketServed (before ++ next ∷ []) i
brought_served before next packet s i silent stands moves served serving travelling =
    by_same (packet == i) refl
  where
    by_same : (b : Bool) → (packet == i) ≡ b → IsPacketServed (before ++ next ∷ []) i
    by_same true e = record {
      switch = s;
      stands = rw (standing_more before next i, stands, e) refl;
      serving = still_serves before next s (silent s) serving;
    }
    by_same false e =
        let here = served i (rw (travels_more before next i, moves e) at travelling) in record {
          switch = here.switch;
          stands = rw (standing_more before next i, stands, e) here.stands;
          serving = still_serves before next here.switch (silent here.switch) here.serving;
        }

booted_serves : (before : List Item) (switch boot s : ℕ) → ControlServingIsKnown before
    → IsFalse (is_up before switch) → IsTrue (serves before s)
    → IsTrue (serves (before ++ Item.Booted switch boot ∷ []) s)
booted_serves before switch boot s known down serving = search (rules, eqb-true, serving_more)

opened_serves : (before : List Item) (switch version s : ℕ) → IsTrue (serves before s)
    → IsTrue (serves (before ++ Item.Opened switch version ∷ []) s)
opened_serves before switch version s serving = grind (arith, serving_more, serving)

pub served_kept : (setting : Setting) → AreKept (IsCausedUp setting) ArePacketsServed
served_kept setting before (Item.Entered packet s header) is served i travelling = brought_served _
    _ packet s i (λ t. refl) refl (λ e. rw e refl) served is.caused.way.1 travelling
served_kept setting before (Item.Hopped packet s) is served i travelling = brought_served _ _ _ s i
    (λ t. refl) refl (λ e. refl) served (ends_serve _ before _ s is.caused.way.usable).1 travelling
served_kept setting before (Item.Down s) is served i travelling = absurd is.not_down
served_kept setting before (Item.Booted switch boot) is served i travelling =
    search (rules, stays_served, booted_serves)
served_kept setting before (Item.Opened switch version) is served i travelling =
    search (rules, stays_served, opened_serves)
served_kept setting before (Item.Dropped packet) is served i travelling =
    search (rules, stays_served, ends_or_not, still_serves)
served_kept setting before (Item.Left packet port leaving) is served i travelling =
    search (rules, stays_served, ends_or_not, still_serves)
served_kept setting before (Item.Lost packet) is served i travelling =
    search (rules, stays_served, ends_or_not, still_serves)
served_kept setting before (Item.Stuck packet switch cause leg down) is served i travelling =
    search (rules, stays_served, ends_or_not, still_serves)
served_kept setting before next is served i travelling = search (rules, stays_served, still_serves)

-- ---- numbers of packets

-- a packet that travels has a number that was given
abbrev pub AreNumbered : List Item → Type 0
AreNumbered journal = (i : ℕ) → IsTrue (travels_in_journal journal i) → (1 ≤ i) × (i < journal_next_packet journal)

next_first : (journal : List Item) → 1 ≤ journal_next_packet journal
unfolding journal_next_packet
next_first journal = omega arith

number_stays : (before : List Item) (next : Item) (i : ℕ)
    → (machine_item_gives_travelling i next ≡ None) ⊎ (machine_item_gives_travelling i next ≡ Some false)
    → (IsTrue (travels_in_journal before i) → (1 ≤ i) × (i < journal_next_packet before))
    → IsTrue (travels_in_journal (before ++ next ∷ []) i) → (1 ≤ i) × (i < journal_next_packet (before ++ next ∷ []))
number_stays before next i (inr ends) numbered travelling = absurd (cc (ended before next i ends))
number_stays before next i (inl same) numbered travelling =
    let there = numbered (rw (travels_more before next i, same) at travelling) in
    (there.0, omega (arith, there.1, packet_more before next))

pub numbered_kept : (setting : Setting) → AreKept (HasPacketItemCause setting) AreNumbered
numbered_kept setting before (Item.Entered packet s header) way numbered i travelling =
    by_same (packet == i) refl
  where
    next : Item
    next = Item.Entered packet s header

    grows : journal_next_packet (before ++ next ∷ []) ≡ journal_next_packet before + 1
    grows = packet_more before next

    by_same : (b : Bool) → (packet == i) ≡ b → (1 ≤ i) × (i < journal_next_packet (before ++ next ∷ []))
    by_same true e =
        let same : packet ≡ i = eqb-true packet i e in
        let number : packet ≡ journal_next_packet before = way.0.number in (
          omega (arith, same, number, next_first before),
          omega (arith, same, number, grows),
        )
    by_same false e = let there = numbered i (rw (travels_more before next i, e) at travelling) in
        (there.0, omega (arith, there.1, grows))
numbered_kept setting before (Item.Dropped packet) way numbered i travelling =
    number_stays before (Item.Dropped packet) i (ends_or_not (packet == i)) (numbered i) travelling
numbered_kept setting before (Item.Left packet port leaving) way numbered i travelling =
    search (rules, number_stays, ends_or_not)
numbered_kept setting before (Item.Lost packet) way numbered i travelling =
    number_stays before (Item.Lost packet) i (ends_or_not (packet == i)) (numbered i) travelling
numbered_kept setting before (Item.Stuck packet switch cause leg down) way numbered i travelling =
    search (rules, number_stays, ends_or_not)
numbered_kept setting before next way numbered i travelling = search (rules, number_stays)

-- ---- legs of packets

-- a packet on its way has a leg
abbrev pub HaveLegs : List Item → Type 0
HaveLegs journal = (i : ℕ) → packet_stage_of journal i ≡ Some OnWay
    → (leg : Leg) × (journal_leg_of journal i ≡ Some leg)

leg_more : (before : List Item) (next : Item) (i : ℕ)
    → journal_leg_of (before ++ next ∷ []) i ≡ changes_journal_leg i before (journal_leg_of before i) next
unfolding journal_leg_of
leg_more before next i = folded_append (changes_journal_leg i) None before (next ∷ [])

-- a packet has a leg behind an item: its own one where the item is of another packet
leg_behind : (before : List Item) (next : Item) (packet i : ℕ) → HaveLegs before
    → ((packet == i) ≡ true → (leg : Leg) × (journal_leg_of (before ++ next ∷ []) i ≡ Some leg))
    → ((packet == i) ≡ false → (gives_packet_stage i next ≡ None)
    × (changes_journal_leg i before (journal_leg_of before i) next ≡ journal_leg_of before i))
    → packet_stage_of (before ++ next ∷ []) i ≡ Some OnWay
    → (leg : Leg) × (journal_leg_of (before ++ next ∷ []) i ≡ Some leg)
leg_behind before next packet i has own other moving = search (rules, stage_next, leg_more)

-- an item that takes its packet off its way, to another stage
off_way : (before : List Item) (next : Item) (packet i : ℕ) (stage : PacketStage)
    → (Some stage ≡ Some OnWay → ⊥)
    → gives_packet_stage i next ≡ (if packet == i then Some stage else None)
    → changes_journal_leg i before (journal_leg_of before i) next ≡ journal_leg_of before i → HaveLegs before
    → packet_stage_of (before ++ next ∷ []) i ≡ Some OnWay
    → (leg : Leg) × (journal_leg_of (before ++ next ∷ []) i ≡ Some leg)
off_way before next packet i stage other tells same has moving =
    search (rules, leg_behind, stage_next)

pub legs_kept : (setting : Setting) → AreKept (HasPacketItemCause setting) HaveLegs
legs_kept setting before (Item.Seeking packet version partition route) way has i moving =
    let next : Item = Item.Seeking packet version partition route in
    leg_behind before next packet i has
    (λ e. (Seek version partition, rw (leg_more before next i, e) refl))
    (λ e. (rw e refl, rw e refl)) moving
legs_kept setting before (Item.Exiting packet route) way has i moving =
    let next : Item = Item.Exiting packet route in
    leg_behind before next packet i has
    (λ e. (Exit (journal_exit_port before i), rw (leg_more before next i, e) refl))
    (λ e. (rw e refl, rw e refl)) moving
legs_kept setting before (Item.Rerouted packet route) way has i moving =
    let next : Item = Item.Rerouted packet route in
    leg_behind before next packet i has
    (λ e. (
      way.leg,
      leg_more before next i
          ∙ subst (λ k. journal_leg_of before k ≡ Some way.leg) (eqb-true packet i e) way.blocked.takes,
    ))
    (λ e. (rw e refl, refl)) moving
legs_kept setting before (Item.Hopped packet s) way has i moving =
    let next : Item = Item.Hopped packet s in
    leg_behind before next packet i has
    (λ e. let there = has packet way.moving in (
      there.0,
      leg_more _ next i ∙ subst (λ k. journal_leg_of before k ≡ Some there.0) (eqb-true packet i e) there.1,
    ))
    (λ e. (rw e refl, refl)) moving
legs_kept setting before (Item.Entered packet s header) way has i moving =
    off_way before (Item.Entered packet s header) packet i CameIn (λ e. cc) refl refl has moving
legs_kept setting before (Item.Decided packet version rule act by) way has i moving =
    off_way before (Item.Decided packet version rule act by) packet i Judged (λ e. cc) refl refl has moving
legs_kept setting before (Item.FoundDown packet one two) way has i moving =
    off_way before (Item.FoundDown packet one two) packet i Blocked (λ e. cc) refl refl has moving
legs_kept setting before next way has i moving = search (rules, stage_next, leg_more)

-- ---- behind a crash the packets that still travel stand at switches that serve

-- ---- what is sent leaves packets as they are

sent_served : (messages : List Message) (journal : List Item) (n : ℕ) → ArePacketsServed journal
    → ArePacketsServed (journal ++ machine_sent_items_from n messages)
unfolding machine_sent_items_from
sent_served [] journal n served = subst ArePacketsServed (sym (append-nil journal)) served
sent_served (message ∷ messages) journal n served = let next : Item = Item.Sent n message in
    subst ArePacketsServed (append_assoc journal (next ∷ []) (machine_sent_items_from (n + 1) messages))
    (sent_served messages (journal ++ next ∷ []) (n + 1) (λ i. stays_served journal next i refl
    (inl refl) (λ s. still_serves journal next s refl) (served i)))

changes_served : (setting : Setting) (before journal : List Item) → ArePacketsServed journal
    → ArePacketsServed (journal ++ journal_link_changes setting before journal)
unfolding journal_link_changes
changes_served setting before journal served = sent_served _ journal (journal_next_message journal) served

-- ---- the packets that are lost

among : ℕ → List ℕ → Bool
among i packets = list_any (λ k. k == i) packets

-- a packet that travels behind those losses travelled before them, and isn't among the lost
record IsSpared (journal after : List Item) (packets : List ℕ) (i : ℕ) : Type 0 where
  travelling : IsTrue (travels_in_journal journal i)
  apart : IsFalse (among i packets)

spared_by : (packets : List ℕ) (journal : List Item) (i : ℕ)
    → IsTrue (travels_in_journal (journal ++ map Item.Lost packets) i)
    → IsSpared journal (journal ++ map Item.Lost packets) packets i
unfolding among
spared_by [] journal i travelling = search rules
spared_by (k ∷ packets) journal i travelling = by_same (k == i) refl (spared_by packets _ i
    (rw (append_assoc journal (Item.Lost k ∷ []) (map Item.Lost packets)) travelling))
  where
    lost : Item
    lost = Item.Lost k

    by_same : (b : Bool) → (k == i) ≡ b → IsSpared (journal ++ lost ∷ [])
        ((journal ++ lost ∷ []) ++ map Item.Lost packets) packets i
        → IsSpared journal (journal ++ lost ∷ map Item.Lost packets) (k ∷ packets) i
    by_same true e rest =
        let clash : false ≡ true = sym (rw (travels_more _ lost i, e) refl) ∙ rest.travelling in
        absurd cc
    by_same false e rest = record {
      travelling = rw (travels_more journal lost i, e) at rest.travelling;
      apart = rw e rest.apart;
    }

-- losses move no packet and change no switch
lost_standing : (packets : List ℕ) (journal : List Item) (i : ℕ)
    → journal_standing_of (journal ++ map Item.Lost packets) i ≡ journal_standing_of journal i
lost_standing packets journal i =
    losts_keep (λ js. journal_standing_of js i) (λ js k. standing_more js (Item.Lost k) i) packets journal

lost_serves : (packets : List ℕ) (journal : List Item) (s : ℕ)
    → serves (journal ++ map Item.Lost packets) s ≡ serves journal s
lost_serves packets journal s =
    losts_keep (λ js. serves js s) (λ js k. serving_more js (Item.Lost k) s) packets journal

-- ---- the crash

-- a packet that isn't lost is elsewhere
left_elsewhere : (before : List Item) (s i t : ℕ) → IsTrue (travels_in_journal before i)
    → journal_standing_of before i ≡ Some t → 1 ≤ i → i < 1 + machine_count_of is_machine_packet_entry before
    → IsFalse (among i (journal_packets_at before s)) → (s == t) ≡ false
unfolding among
left_elsewhere before s i t travelling stands first last apart =
    search (rules, nat_tests, any_picked)

fallen_served : (before journal : List Item) (s : ℕ) → AreNumbered before → ArePacketsServed journal
    → ((i : ℕ) → (travels_in_journal journal i ≡ travels_in_journal before i) × (journal_standing_of journal i ≡ journal_standing_of before i))
    → ArePacketsServed (journal ++ Item.Down s ∷ map Item.Lost (journal_packets_at before s))
unfolding journal_next_packet among
fallen_served before journal s numbered served same i travelling =
    let down : Item = Item.Down s in
    let packets : List ℕ = journal_packets_at before s in
    let whole = append_assoc journal (down ∷ []) (map Item.Lost packets) in
    let spared = spared_by _ _ i (subst (λ js. IsTrue (travels_in_journal js i)) (sym whole) travelling) in
    let here_travels = rw (travels_more journal down i) at spared.travelling in
    let here : IsPacketServed journal i = served i here_travels in
    let own : IsTrue (travels_in_journal before i) = sym (same i).0 ∙ here_travels in
    let stands : journal_standing_of before i ≡ Some here.switch = sym (same i).1 ∙ here.stands in
    let number = numbered i own in
    let elsewhere = left_elsewhere before s i here.switch own stands number.0
    (omega (arith, number.1)) spared.apart in
    subst (λ js. IsPacketServed js i) whole (record {
      switch = here.switch;
      stands = lost_standing packets _ i ∙ standing_more journal down i ∙ here.stands;
      serving = lost_serves packets _ _ ∙ rw (serving_more journal down _, elsewhere) here.serving;
    })

pub crash_served : (setting : Setting) (before : List Item) (s : ℕ) (journal : List Item)
    → AreNumbered before → ArePacketsServed journal
    → ((i : ℕ) → (travels_in_journal journal i ≡ travels_in_journal before i) × (journal_standing_of journal i ≡ journal_standing_of before i))
    → ArePacketsServed (journal ++ journal_crash_items setting before s journal)
unfolding journal_crash_items
crash_served setting before s journal numbered served same = by_up (is_up before s) where
  by_up : (b : Bool) → ArePacketsServed (journal ++ elim b [
    | false ↦ nothing
    | true ↦ journal_items_then (Item.Down s ∷ map Item.Lost (journal_packets_at before s))
        (journal_link_changes setting before) journal
  ])
  by_up false = λ i. stays_served journal Item.Nothing i refl (inl refl)
      (λ other. still_serves journal Item.Nothing other refl) (served i)
  by_up true = let fallen : List Item = Item.Down s ∷ map Item.Lost (journal_packets_at before s) in
      subst ArePacketsServed
      (append_assoc journal fallen (journal_link_changes setting before (journal ++ fallen)))
      (changes_served setting before _ (fallen_served before journal s numbered served same))
