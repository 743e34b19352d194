-- Each item leaves the hops of each packet within its routes: one induction by items.
use Rattle.std.proofs.Common.{[], ◌&&◌, ◌*◌, ◌++◌, ◌+◌, ◌-◌, ◌<◌, ◌==◌, ◌∙◌, ◌∷◌, ◌≡◌, ◌≤◌, Any, Bool, Contains, IsFalse, IsTrue, List, Option, Some, ap, append_assoc, arith, eqb-true, false, filter, filter_map, if◌then◌else◌, inl, length, map, refl, subst, sym, true, ℕ, rules}
use Rattle.update_machine.specs.Exports.{CacheEntry, JournalItemsHaveCauses, Hop, IsMachineSetting, Item, Setting, journal_cache_of, journal_folded_value, journal_retired_mark, journal_stamp_of, machine_touched_by, travels_in_journal}
use Rattle.update_machine.proofs.Exports.{folded_append}
use Rattle.control_laws.proofs.Exports.{AreKept, Behind, Both, fact_on, have_both, have_weaker, one_if}
use Rattle.packet_laws.specs.Exports.{AllPacketFactsKept, ArePacketsResting, HasKeptPacketFacts, CacheHasPacketEntryUnder, IsPacketOnWay, IsRightPacketCacheEntry, IsToldToStampPackets, OnWay, HasPacketItemCause, PacketFacts, PacketStage, UntouchedPacketCacheRulesStay, packet_cache_rule_at_least, changes_packet_route_hops, changes_packet_hops_taken, packet_detour_count, packet_exit_count, packet_facts_after, gives_packet_stage, packet_route_hops, packet_hops_taken, is_packet_detour, is_packet_exit, is_item_of_entered_packet, is_packet_search, most_packet_hops, most_packet_route_switches, packet_cache_rule_outlives, packet_routes_taken, packet_search_count, packet_stage_of, packet_facts_of}
use Rattle.packet_laws.proofs.PacketsSpared.{IsNoRow}
use Rattle.base.proofs.Exports.{⊤, All-contains, nat_tests, option_or, slice_get_within}
use Rattle.packet_laws.proofs.PacketsAllKept.{Before, all_kept, cached_on, facts_grow, kept_before, known_before, knows}
use Rattle.packet_laws.proofs.PacketHeaderLookups.{travels_in}
use Rattle.packet_laws.proofs.KeptPacketFacts.{exiting_after, rerouted_after, seeking_after}
use Rattle.packet_laws.proofs.PacketsAtRest.{IsWayItem, Past, switches_of_all}
use Rattle.packet_laws.proofs.PacketFewRoutes.{taken_few}
use Rattle.packet_laws.proofs.PacketBlocks.{stage_next}
use Rattle.packet_laws.proofs.PacketFlushMessages.{count_more, one_more}
use Rattle.switch_table.specs.Exports.{CacheValue, cache_after_carry, carried_cache_entry, cache_word_meets_touched}
use Rattle.switch_table.proofs.CacheCarryLemmas.{untouched_stays}
use Rattle.ternary.specs.Exports.{WordValue}
use Rattle.packet_laws.proofs.PacketCacheRules.{grows}

-- ---- whether a travelling packet was asked to hop, and its switch has yet to do so: what each
-- item makes of that.

abbrev pub changes_asked : ℕ → List Item → Bool → Item → Bool
changes_asked i before asked (Item.Row row (Hop packet)) =
    if packet == i && travels_in_journal before i then true else asked
changes_asked i before asked item = if is_item_of_entered_packet i item then false else asked

unfoldable pub is_asked : List Item → ℕ → Bool
is_asked journal i = journal_folded_value (changes_asked i) false journal

pub asked_more : (before : List Item) (next : Item) (i : ℕ)
    → is_asked (before ++ next ∷ []) i ≡ changes_asked i before (is_asked before i) next
unfolding is_asked
asked_more before next i = folded_append (changes_asked i) false before (next ∷ [])

either_false : (b : Bool) → (if b then false else false) ≡ false
either_false b = search rules

still_off : (i : ℕ) (before : List Item) (next : Item) → IsNoRow next
    → changes_asked i before false next ≡ false
still_off i before next none = search (rules, either_false)

off_kept : (i : ℕ) → AreKept (λ js next. IsNoRow next) (λ journal. is_asked journal i ≡ false)
off_kept i before next none off = cc (asked_more before next i, off, still_off i before next none)

-- items that begin no step tell it to hop no more
pub stays_off : (i : ℕ) (before items : List Item)
    → JournalItemsHaveCauses (λ js next. IsNoRow next) before items
    → is_asked before i ≡ false → is_asked (before ++ items) i ≡ false
stays_off i before items none off = fact_on _ _ (off_kept i) before items none off

-- the first of the items names the packet
abbrev pub NamesFirst : ℕ → List Item → Type 0
NamesFirst i [] = ⊥
NamesFirst i (next ∷ items) = IsTrue (is_item_of_entered_packet i next)

turned : (b asked : Bool) → IsTrue b → (if b then false else asked) ≡ false
turned b asked e = search rules

named_off : (i : ℕ) (before : List Item) (asked : Bool) (next : Item) → IsNoRow next
    → IsTrue (is_item_of_entered_packet i next) → changes_asked i before asked next ≡ false
named_off i before asked next none named = search rules

-- so it hops with the first item that names it
pub turns_off : (i : ℕ) (before items : List Item)
    → JournalItemsHaveCauses (λ js next. IsNoRow next) before items
    → NamesFirst i items → is_asked (before ++ items) i ≡ false
turns_off i before [] none first = absurd first
turns_off i before (next ∷ items) none first = rw (append_assoc before (next ∷ []) items) at
    (stays_off i _ items none.1 (asked_more before next i ∙ named_off i before _ next none.0 first))

-- ---- route hops

-- a step begins where all packets rest, and none was asked to hop
pub record IsRested (journal : List Item) : Type 0 where
  pub rests : ArePacketsResting journal
  pub off : (i : ℕ) → is_asked journal i ≡ false

abbrev pub BeginsRested : List Item → Item → Type 0
BeginsRested before (Item.Row row step) = IsRested before
BeginsRested before _ = ⊤

-- ---- what is kept

-- the packet took at most 64 hops for each route, and what is left of its route fits too, without
-- the hop that it was asked. On its last route it took as many as its place says, at most 64
record IsWithin (held : PacketFacts) (stage : Option PacketStage) (asked : Bool)
    (routes taken on : ℕ) : Type 0 where
  all : taken ≤ most_packet_route_switches * routes
  each : on ≤ most_packet_route_switches
  place : IsTrue held.travels → stage ≡ Some OnWay → on ≤ held.hops + (if asked then 1 else 0)
  left : IsTrue held.travels → stage ≡ Some OnWay → taken + (length held.route - held.hops)
      ≤ most_packet_route_switches * routes + (if asked then 1 else 0)

abbrev IsWithinOf : List Item → ℕ → Type 0
IsWithinOf journal i = IsWithin (packet_facts_of journal i) (packet_stage_of journal i) (is_asked journal i)
    (packet_routes_taken journal i) (packet_hops_taken journal i) (packet_route_hops journal i)

none_asked : (b : Bool) → b ≡ false → (if b then 1 else 0) ≤ 0
none_asked b e = search rules

route_few : (setting : Setting) (before : List Item) (held : PacketFacts)
    → IsPacketOnWay setting before held → length held.route ≤ 64
route_few setting before held way = search rules

-- as one is that the packet begins
begun_few : (setting : Setting) (before : List Item) (packet i : ℕ) (held : PacketFacts)
    → (packet == i) ≡ true → HasKeptPacketFacts setting before held (Some OnWay)
    → held.travels ≡ (packet_facts_of before packet).travels
    → IsTrue (packet_facts_of before i).travels → length held.route ≤ 64
begun_few setting before packet i held e kept same tr = search (rules, route_few, eqb-true)

-- ---- items

-- what is true before the item
record Premises (setting : Setting) (before : List Item) (next : Item) : Type 0 where
  known : Before setting before
  way : HasPacketItemCause setting before next
  begins : BeginsRested before next

-- a packet that isn't on its way
rests : {held : PacketFacts} {stage : Option PacketStage} {asked : Bool} {routes taken on : ℕ}
    → taken ≤ most_packet_route_switches * routes → on ≤ most_packet_route_switches
    → (IsTrue held.travels → stage ≡ Some OnWay → ⊥) → IsWithin held stage asked routes taken on
rests all each elsewhere = search rules

-- or that begins a route
begins_route : {held : PacketFacts} {stage : Option PacketStage} {asked : Bool} {routes taken : ℕ}
    → taken + most_packet_route_switches ≤ most_packet_route_switches * routes
    → (IsTrue held.travels → length held.route ≤ 64) → IsWithin held stage asked routes taken 0
begins_route room few = search rules

row_within : (setting : Setting) (before : List Item) (packet i : ℕ) → Before setting before
    → IsRested before → IsWithinOf before i → (b : Bool) → ((packet == i) && travels_in_journal before i) ≡ b
    → IsWithin (packet_facts_of before i) (packet_stage_of before i) (if b then true else is_asked before i)
    (packet_routes_taken before i) (if b then packet_hops_taken before i + 1 else packet_hops_taken before i)
    (if b then packet_route_hops before i + 1 else packet_route_hops before i)
row_within setting before packet i known rested within b e =
    search (rules, travels_in, slice_get_within, none_asked, route_few)

within_by : (setting : Setting) (before : List Item) (next : Item) (i : ℕ)
    → Premises setting before next → (b : Bool) → is_item_of_entered_packet i next ≡ b → IsWithinOf before i
    → IsWithin (if b then packet_facts_after (journal_retired_mark before) next (packet_facts_of before i)
    else packet_facts_of before i) (option_or (gives_packet_stage i next) (packet_stage_of before i))
    (changes_asked i before (is_asked before i) next)
    (one_more (is_packet_search i next) (packet_search_count before i) + one_more (is_packet_exit i next)
    (packet_exit_count before i) + one_more (is_packet_detour i next) (packet_detour_count before i)) (changes_packet_hops_taken i
    before (packet_hops_taken before i) next) (changes_packet_route_hops i before (packet_route_hops before i) next)
within_by setting before (Item.Row row (Hop packet)) i facts true e within = absurd cc
within_by setting before (Item.Row row (Hop packet)) i facts false e within = row_within setting
    before packet i facts.known facts.begins within ((packet == i) && travels_in_journal before i) refl
within_by setting before (Item.Entered packet s header) i facts true e within =
    rw e (rests within.all within.each (λ tr is. cc))
within_by setting before (Item.Seeking packet version partition route) i facts true e within =
    rw e (begins_route (omega (arith, within.all)) (begun_few setting before packet i _ e
    (seeking_after setting before packet 0 version partition route
    (knows setting before packet facts.known) facts.way) refl))
within_by setting before (Item.Exiting packet route) i facts true e within = rw e
    (begins_route (omega (arith, within.all)) (begun_few setting before packet i _ e (exiting_after
    setting before packet 0 route (knows setting before packet facts.known) facts.way) refl))
within_by setting before (Item.Rerouted packet route) i facts true e within = rw e
    (begins_route (omega (arith, within.all)) (begun_few setting before packet i _ e (rerouted_after
    setting before packet 0 route (knows setting before packet facts.known) facts.way) refl))
within_by setting before (Item.Hopped packet s) i facts true e within =
    let moving : packet_stage_of before i ≡ Some OnWay =
    subst (λ k. packet_stage_of before k ≡ Some OnWay) (eqb-true packet i e) facts.way.moving in
    let held : PacketFacts = packet_facts_of before i in
    let inside : IsTrue held.travels → held.hops < length held.route = λ tr.
    let way : IsPacketOnWay setting before held =
    (facts.known.kept.packets i).on_way tr (inl moving) in
    slice_get_within held.route held.hops way.under_way.switch way.stands in
    rw e (record {
      all = within.all;
      each = within.each;
      place = λ tr is. omega (arith, within.place tr moving, one_if (is_asked before i));
      left = λ tr is. omega (arith, within.left tr moving, one_if (is_asked before i), inside tr);
    })
within_by setting before (Item.FoundDown packet one two) i facts true e within =
    rw e (rests within.all within.each (λ tr is. cc))
within_by setting before (Item.Decided packet version rule act by) i facts true e within =
    rw e (rests within.all within.each (λ tr is. cc))
within_by setting before (Item.Left packet port leaving) i facts true e within =
    rests within.all within.each (λ tr is. cc)
within_by setting before (Item.Dropped packet) i facts true e within =
    rests within.all within.each (λ tr is. cc)
within_by setting before (Item.Lost packet) i facts true e within =
    rests within.all within.each (λ tr is. cc)
within_by setting before (Item.Stuck packet s cause leg down) i facts true e within =
    rests within.all within.each (λ tr is. cc)
within_by setting before (Item.Entered packet s header) i facts false e within = rw e within
within_by setting before (Item.Seeking packet version partition route) i facts false e within =
    rw e within
within_by setting before (Item.Exiting packet route) i facts false e within = rw e within
within_by setting before (Item.Rerouted packet route) i facts false e within = rw e within
within_by setting before (Item.Hopped packet s) i facts false e within = rw e within
within_by setting before (Item.FoundDown packet one two) i facts false e within = rw e within
within_by setting before (Item.Decided packet version rule act by) i facts false e within =
    rw e within
within_by setting before (Item.Left packet port leaving) i facts false e within = rw e within
within_by setting before (Item.Dropped packet) i facts false e within = rw e within
within_by setting before (Item.Lost packet) i facts false e within = rw e within
within_by setting before (Item.Stuck packet s cause leg down) i facts false e within = rw e within
within_by setting before next i facts true e within = absurd cc
within_by setting before next i facts false e within = within

-- ---- all items

pub hops_more : (before : List Item) (next : Item) (i : ℕ)
    → packet_hops_taken (before ++ next ∷ []) i ≡ changes_packet_hops_taken i before (packet_hops_taken before i) next
unfolding packet_hops_taken
hops_more before next i = folded_append (changes_packet_hops_taken i) 0 before (next ∷ [])

on_route_more : (before : List Item) (next : Item) (i : ℕ) → packet_route_hops (before ++ next ∷ []) i
    ≡ changes_packet_route_hops i before (packet_route_hops before i) next
unfolding packet_route_hops
on_route_more before next i = folded_append (changes_packet_route_hops i) 0 before (next ∷ [])

within_more : (setting : Setting) (before : List Item) (next : Item) (i : ℕ)
    → Premises setting before next → IsWithinOf before i → IsWithinOf (before ++ next ∷ []) i
unfolding packet_search_count packet_exit_count packet_detour_count
within_more setting before next i facts within = search
    (rules, facts_grow, stage_next, asked_more, count_more, hops_more, on_route_more, within_by)

within_at_first : (i : ℕ) → IsWithinOf [] i
unfolding packet_facts_of packet_stage_of is_asked packet_hops_taken packet_route_hops travels_in_journal packet_search_count packet_exit_count
    packet_detour_count
within_at_first i = record {
  all = omega arith;
  each = omega arith;
  place = λ tr is. absurd cc;
  left = λ tr is. absurd cc;
}

-- what is known before an item, and its causes
abbrev IsKnown : Setting → List Item → Item → Type 0
IsKnown setting before next =
    Both (Behind (Past (IsWayItem setting)) (AllPacketFactsKept setting)) BeginsRested before next

-- an item of a network whose steps begin rested
abbrev pub IsHopItem : Setting → List Item → Item → Type 0
IsHopItem setting before next = Both (IsWayItem setting) BeginsRested before next

ways_of : (setting : Setting) (before items : List Item)
    → JournalItemsHaveCauses (IsHopItem setting) before items → JournalItemsHaveCauses (IsWayItem setting) before items
ways_of setting before items have = search (rules, have_weaker)

all_within : (setting : Setting) (journal : List Item) → IsMachineSetting setting
    → JournalItemsHaveCauses (IsHopItem setting) [] journal → (i : ℕ) → IsWithinOf journal i
all_within setting journal is have i = fact_on (IsKnown setting) (λ js. IsWithinOf js i)
    (λ before next both within. within_more setting before next i (record {
      known = known_before setting is before next both.first;
      way = both.first.caused.caused.way;
      begins = both.second;
    }) within) [] journal
    (have_both _ _ [] journal (kept_before setting journal is (ways_of setting [] journal have))
    (have_weaker (IsHopItem setting) BeginsRested (λ js next both. both.second) [] journal have))
    (within_at_first i)

-- ---- laws

pub within_routes : (setting : Setting) (journal : List Item) → IsMachineSetting setting
    → JournalItemsHaveCauses (IsHopItem setting) [] journal → (i : ℕ)
    → packet_hops_taken journal i ≤ most_packet_route_switches * packet_routes_taken journal i
within_routes setting journal is have i = (all_within setting journal is have i).all

pub within_each : (setting : Setting) (journal : List Item) → IsMachineSetting setting
    → JournalItemsHaveCauses (IsHopItem setting) [] journal → (i : ℕ) → packet_route_hops journal i ≤ most_packet_route_switches
within_each setting journal is have i = (all_within setting journal is have i).each

pub hops_few : (setting : Setting) (journal : List Item) → IsMachineSetting setting
    → JournalItemsHaveCauses (IsHopItem setting) [] journal → (i : ℕ) → packet_hops_taken journal i ≤ most_packet_hops
hops_few setting journal is have i = omega (
  arith,
  within_routes setting journal is have i,
  taken_few setting journal is (ways_of setting [] journal have) i,
)

-- ---- a rule that a change doesn't touch outlives it

-- ---- what is left, in order

-- entries that go over are those that outlive it
left_in_order : (version : ℕ) (touched : List WordValue) (entries rest : List CacheEntry)
    → filter_map (carried_cache_entry version touched entries) rest
    ≡ map (packet_cache_rule_at_least version) (filter (packet_cache_rule_outlives version touched entries) rest)
left_in_order version touched entries [] = refl
left_in_order version touched entries (entry ∷ rest) =
    search (rules, left_in_order version touched entries rest)

-- ---- a stamp that rises

-- a stamp that rises carries the cache
stamped_cache : (setting : Setting) (before : List Item)
    (s number boot version : ℕ) (touched : List WordValue)
    → IsToldToStampPackets before s number boot version touched
    → journal_stamp_of before s < version → journal_cache_of setting (before ++ Item.Delivered number ∷ []) s
    ≡ cache_after_carry version (machine_touched_by setting before version) (journal_cache_of setting before s)
unfolding journal_cache_of
stamped_cache setting before s number boot version touched said rises =
    search (rules, nat_tests, folded_append)

-- each that isn't touched has its word there, by a rule that is right
under_it : (setting : Setting) (before : List Item)
    (s number boot version : ℕ) (touched : List WordValue) (entry : CacheEntry) → IsMachineSetting setting
    → JournalItemsHaveCauses (IsWayItem setting) [] before → IsToldToStampPackets before s number boot version touched
    → journal_stamp_of before s < version → Contains (journal_cache_of setting before s).entries entry
    → entry.version + 1 ≡ version
    → IsFalse (cache_word_meets_touched (machine_touched_by setting before version) entry.word)
    → CacheHasPacketEntryUnder setting (before ++ Item.Delivered number ∷ []) s version entry
under_it setting before s number boot version touched entry is have said rises there previous
    apart =
    let next : Item = Item.Delivered number in
    let now : List Item = before ++ next ∷ [] in
    let cache : CacheValue = journal_cache_of setting before s in
    let known : Before setting before = record {
      is = is;
      have = have;
      kept = all_kept setting before is have;
    } in
    let right = cached_on _ _ next known (grows _ _ next (switches_of_all _ [] before have) tt) s in
    let kept = subst (λ (c : CacheValue). Any
    (λ (kept : CacheEntry). (kept.version ≡ version) × (kept.word ≡ entry.word)) c.entries)
    (sym (stamped_cache setting before s number boot version touched said rises))
    (untouched_stays version _ cache entry there previous apart) in (
      kept.0,
      kept.1,
      kept.2,
      kept.3,
      (
        kept.4.0,
        (
          kept.4.1,
          All-contains (IsRightPacketCacheEntry setting now) (journal_cache_of setting now s).entries kept.1 right
              (kept.0, kept.2, kept.3),
        ),
      ),
    )

pub untouched_stay : (setting : Setting) (before : List Item) → IsMachineSetting setting
    → JournalItemsHaveCauses (IsWayItem setting) [] before → UntouchedPacketCacheRulesStay setting before
untouched_stay setting before is have s number boot version touched said rises =
    let cache : CacheValue = journal_cache_of setting before s in record {
      in_order = ap (λ (c : CacheValue). c.entries)
          (stamped_cache _ before s number boot _ touched said rises) ∙ left_in_order version _ _ _;
      untouched = λ entry there previous apart. under_it setting before s number boot version
          touched entry is have said rises there previous apart;
    }
