-- Each item leaves the routes of each packet few: one induction by items.
use Rattle.std.proofs.Common.{[], if◌then◌else◌, ◌++◌, ◌+◌, ◌<◌, ◌∙◌, ◌∷◌, ◌≡◌, ◌≤◌, Bool, List, None, Option, Some, ap, arith, eqb-true, false, inl, inr, length, refl, subst, sym, true, ℕ, rules}
use Rattle.base.proofs.Exports.{option_or, some_same, ⊤}
use Rattle.failover.specs.Exports.{IsFailoverDownLinkSet, no_failover_links}
use Rattle.failover.proofs.FailoverLinkSets.{none_is_link_set}
use Rattle.update_machine.specs.Exports.{Decision, JournalItemsHaveCauses, IsMachineSetting, Item, Leg, Seek, Setting, journal_current_mark, journal_decision_of, journal_found_down, journal_leg_of, most_journal_versions, journal_retired_mark}
use Rattle.control_laws.specs.Exports.{HasControlItemCause}
use Rattle.control_laws.proofs.Exports.{Behind, Both, bounded, current_rises, fact_on, have_both, versions_planned}
use Rattle.packet_laws.specs.Exports.{AllPacketFactsKept, Blocked, PacketFindsLinkDown, PacketFurtherCause, IsPacketLookedUp, IsPacketOnWay, Judged, PacketMeetsDown, HasPacketItemCause, PacketFacts, PacketStage, PacketStrongCause, PacketTakesRoute, packet_detour_count, packet_exit_count, packet_facts_after, packet_finding_count, gives_packet_stage, is_packet_detour, is_packet_exit, is_packet_finding_down, is_item_of_entered_packet, is_packet_search, most_packet_routes, packet_routes_taken, packet_search_count, packet_stage_of, packet_facts_of}
use Rattle.packet_laws.proofs.PacketsAllKept.{Before, facts_grow, kept_before, knows}
use Rattle.packet_laws.proofs.PacketHeaderLookups.{IsHere, decision_in, here_of, leg_in, next_in, seeking_of}
use Rattle.packet_laws.proofs.KeptPacketFacts.{Knows, seeking_after}
use Rattle.packet_laws.proofs.PacketsAtRest.{IsWayItem, Past, switches_of_all}
use Rattle.packet_laws.proofs.PacketStrongCauses.{strongly_caused}
use Rattle.packet_laws.proofs.PacketBlocks.{stage_next}
use Rattle.packet_laws.proofs.PacketFlushMessages.{FindsOne, count_more, few_unfound, finds_one, one_more, unfound}

-- ---- what is kept of a packet's routes

-- it searched at most as often as the version that it seeks says
pub record SearchesAreFew (current : ℕ) (leg : Option Leg) (search_count : ℕ) : Type 0 where
  pub none : leg ≡ None → search_count ≡ 0
  pub sought : (version partition : ℕ) → leg ≡ Some (Seek version partition)
      → search_count ≤ version
  pub searched : search_count ≤ current

-- it left by no port before it was decided
pub record ExitsAreFew (decision : Option Decision) (exit_count : ℕ) : Type 0 where
  pub undecided : decision ≡ None → exit_count ≡ 0
  pub exited : exit_count ≤ 1

-- the links that it didn't find down leave room for its detours; each was found down once
pub record DetoursAreFew (setting : Setting) (found : List ℕ) (detour_count finds : ℕ)
    : Type 0 where
  pub set : IsFailoverDownLinkSet found
  pub detoured : detour_count + unfound setting.net.links found ≤ length setting.net.links
  pub once : finds + unfound setting.net.links found ≤ length setting.net.links

-- where it was just decided it left by no port yet, and where it just found a link down there is
-- room for one more detour
abbrev pub HasRoom : Setting → List ℕ → ℕ → ℕ → Option PacketStage → Type 0
HasRoom setting found exit_count detour_count (Some Judged) = exit_count ≡ 0
HasRoom setting found exit_count detour_count (Some Blocked) =
    detour_count + unfound setting.net.links found < length setting.net.links
HasRoom setting found exit_count detour_count _ = ⊤

abbrev pub IsFew : Setting → ℕ → PacketFacts → Option PacketStage → ℕ → ℕ → ℕ → ℕ → Type 0
IsFew setting current held stage search_count exit_count detour_count finds = record {
  seeking : SearchesAreFew current held.leg search_count;
  leaving : ExitsAreFew held.decision exit_count;
  turning : DetoursAreFew setting held.found detour_count finds;
  room : HasRoom setting held.found exit_count detour_count stage;
}

abbrev pub IsFewOf : Setting → List Item → ℕ → Type 0
IsFewOf setting journal i = IsFew setting (journal_current_mark journal) (packet_facts_of journal i)
    (packet_stage_of journal i) (packet_search_count journal i) (packet_exit_count journal i) (packet_detour_count journal i)
    (packet_finding_count journal i)

-- ---- lookups

-- the version of a lookup is one that the packet didn't seek yet
record IsRaised (setting : Setting) (before : List Item) (i version : ℕ) : Type 0 where
  raised : packet_search_count before i + 1 ≤ version
  current : version ≤ journal_current_mark before

is_raised : (setting : Setting) (before : List Item) (i version partition : ℕ) (route : List ℕ)
    → Before setting before → IsFewOf setting before i
    → PacketTakesRoute setting before i (Seek version partition) route
    → ((earlier part : ℕ) → journal_leg_of before i ≡ Some (Seek earlier part) → earlier < version)
    → IsRaised setting before i version
is_raised setting before i version partition route known few takes raises =
    let knows_it : Knows setting before i (packet_stage_of before i) = knows setting before i known in
    let here = here_of setting before i _ _ knows_it.is knows_it.have knows_it.kept takes.at in
    let after = packet_facts_after 0 (Item.Seeking i version partition route) (packet_facts_of before i) in
    let way : IsPacketOnWay setting before after =
    (seeking_after _ before i 0 version _ route knows_it takes).on_way here.travelling (inl refl) in
    let on = seeking_of setting before after _ version _ way here.under.entered refl in record {
      raised = by_lookup here (omega (arith, on.not_retired)) takes.takes.looked_up;
      current = on.current;
    }
  where
    by_lookup : IsHere setting before i takes.switch → 1 ≤ version
        → IsPacketLookedUp before i takes.switch → packet_search_count before i + 1 ≤ version
    by_lookup here first (inl came) =
        let none : (packet_facts_of before i).leg ≡ None =
        ((known.kept.packets i).came_in here.travelling came).1 in
        omega (arith, few.seeking.none none, first)
    by_lookup here first (inr misses) = omega (
      arith,
      few.seeking.sought misses.version misses.partition (leg_in before i _ misses.seeks),
      raises misses.version misses.partition misses.seeks,
    )

-- ---- links found down

-- a link that is found down is one of the network, which the packet didn't find yet
finds : (setting : Setting) (before : List Item) (i one two : ℕ) → Before setting before
    → IsFewOf setting before i → PacketMeetsDown setting before i one two
    → PacketFindsLinkDown setting before i one two
    → FindsOne setting.net (packet_facts_of before i).found one two
finds setting before i one two known few meets down =
    let knows_it : Knows setting before i (packet_stage_of before i) = knows setting before i known in
    let held : PacketFacts = packet_facts_of before i in
    let here = here_of setting before i one _ knows_it.is knows_it.have knows_it.kept meets.at in
    let way = knows_it.kept.on_way here.travelling (inl meets.moving) in
    finds_one setting.net held.found one two known.is.net few.turning.set down.linked
    (knows_it.kept.avoids here.travelling meets.moving held.hops one two
    (way.stands ∙ ap Some (some_same held.stands way.under_way.switch here.under.switch
    way.under_way.stands here.under.stands ∙ sym here.at)) (sym (next_in before i) ∙ meets.goes_on))

-- ---- items

-- what is true before the item, of the packet that it names
record Premises (setting : Setting) (before : List Item) (next : Item) : Type 0 where
  known : Before setting before
  way : HasPacketItemCause setting before next
  further : PacketFurtherCause setting before next

risen : {leg : Option Leg} {search_count was current : ℕ} → was ≤ current
    → SearchesAreFew was leg search_count → SearchesAreFew current leg search_count
risen more few = record {
  none = few.none;
  sought = few.sought;
  searched = omega (arith, few.searched, more);
}

-- an item that leaves the leg, the decision, the links found and the counts as they were
kept_few : (setting : Setting) (before : List Item) (i current : ℕ) (stage : Option PacketStage)
    → journal_current_mark before ≤ current → IsFewOf setting before i → HasRoom setting
    (packet_facts_of before i).found (packet_exit_count before i) (packet_detour_count before i) stage
    → IsFew setting current (packet_facts_of before i) stage (packet_search_count before i)
    (packet_exit_count before i) (packet_detour_count before i) (packet_finding_count before i)
kept_few setting before i current stage more few room = search rules

-- and the stage too
still_few : (setting : Setting) (before : List Item) (i current : ℕ) → journal_current_mark before ≤ current
    → IsFewOf setting before i → IsFew setting current (packet_facts_of before i) (packet_stage_of before i)
    (packet_search_count before i) (packet_exit_count before i) (packet_detour_count before i) (packet_finding_count before i)
still_few setting before i current more few = search (rules, kept_few)

named_few : (setting : Setting) (before : List Item) (next : Item) (i current : ℕ)
    → Premises setting before next → journal_current_mark before ≤ current → (b : Bool)
    → is_item_of_entered_packet i next ≡ b → IsFewOf setting before i → IsFew setting current
    (if b then packet_facts_after (journal_retired_mark before) next (packet_facts_of before i)
    else packet_facts_of before i) (option_or (gives_packet_stage i next) (packet_stage_of before i))
    (one_more (is_packet_search i next) (packet_search_count before i)) (one_more (is_packet_exit i next)
    (packet_exit_count before i)) (one_more (is_packet_detour i next) (packet_detour_count before i))
    (one_more (is_packet_finding_down i next) (packet_finding_count before i))
named_few setting before (Item.Entered packet s header) i current facts more true e few =
    rw e (kept_few setting before i current None more few tt)
named_few setting before (Item.Seeking packet v p route) i current facts more true e few =
    let same : packet ≡ i = eqb-true packet i e in
    let raised : IsRaised setting before packet v = is_raised setting before packet v p route
    facts.known (subst (IsFewOf setting before) (sym same) few) facts.way facts.further.0 in
    let above : packet_search_count before i + 1 ≤ v =
    subst (λ k. packet_search_count before k + 1 ≤ v) same raised.raised in
    rw e (record {
      seeking = record {
        none = λ is. absurd cc;
        sought = λ w q is. subst (λ n. packet_search_count before i + 1 ≤ n) (cc) above;
        searched = omega (arith, above, raised.current, more);
      };
      leaving = few.leaving;
      turning = few.turning;
      room = tt;
    })
named_few setting before (Item.Exiting packet route) i current facts more true e few =
    let same : packet ≡ i = eqb-true packet i e in
    let judged = subst (λ k. packet_stage_of before k ≡ Some Judged) same facts.way.by.takes.judged in
    let first : packet_exit_count before i ≡ 0 = rw judged at few.room in
    let decision : Decision = facts.way.by.takes.decision in
    let decided = decision_in before i (Some decision)
    (subst (λ k. journal_decision_of before k ≡ Some decision) same facts.way.by.takes.decided) in
    rw e (record {
      seeking = record {
        none = λ is. absurd cc;
        sought = λ v p is. absurd cc;
        searched = omega (arith, few.seeking.searched, more);
      };
      leaving = record { undecided = λ is. absurd cc; exited = omega (arith, first) };
      turning = few.turning;
      room = tt;
    })
named_few setting before (Item.Rerouted packet route) i current facts more true e few =
    let blocked : packet_stage_of before i ≡ Some Blocked =
    subst (λ k. packet_stage_of before k ≡ Some Blocked) (eqb-true packet i e) facts.way.blocked.blocked in
    let room = rw blocked at few.room in
    rw e (record {
      seeking = risen more few.seeking;
      leaving = few.leaving;
      turning = record { set = few.turning.set; detoured = omega (arith, room); once = few.turning.once };
      room = tt;
    })
named_few setting before (Item.Hopped packet s) i current facts more true e few =
    rw e (kept_few setting before i current None more few tt)
named_few setting before (Item.FoundDown packet one two) i current facts more true e few =
    let same : packet ≡ i = eqb-true packet i e in
    let one_less : FindsOne setting.net (packet_facts_of before i).found one two =
    subst (λ k. FindsOne setting.net (packet_facts_of before k).found one two) same
    (finds setting before packet one two facts.known
    (subst (IsFewOf setting before) (sym same) few) facts.way facts.further) in
    rw e (record {
      seeking = risen more few.seeking;
      leaving = few.leaving;
      turning = record {
        set = one_less.set;
        detoured = omega (arith, few.turning.detoured, one_less.fewer);
        once = omega (arith, few.turning.once, one_less.fewer);
      };
      room = omega (arith, few.turning.detoured, one_less.fewer);
    })
named_few setting before (Item.Decided packet v rule act by) i current facts more true e few =
    let undecided : (packet_facts_of before i).decision ≡ None = decision_in before i None
    (subst (λ k. journal_decision_of before k ≡ None) (eqb-true packet i e) facts.further.0.undecided) in
    rw e (record {
      seeking = risen more few.seeking;
      leaving = record { undecided = λ is. absurd cc; exited = few.leaving.exited };
      turning = few.turning;
      room = few.leaving.undecided undecided;
    })
named_few setting before (Item.Left packet port leaving) i current facts more true e few =
    still_few setting before i current more few
named_few setting before (Item.Dropped packet) i current facts more true e few =
    still_few setting before i current more few
named_few setting before (Item.Lost packet) i current facts more true e few =
    still_few setting before i current more few
named_few setting before (Item.Stuck packet s cause leg down) i current facts more true e few =
    still_few setting before i current more few
named_few setting before (Item.Entered packet s header) i current facts more false e few =
    rw e (still_few setting before i current more few)
named_few setting before (Item.Seeking packet v p route) i current facts more false e few =
    rw e (still_few setting before i current more few)
named_few setting before (Item.Exiting packet route) i current facts more false e few =
    rw e (still_few setting before i current more few)
named_few setting before (Item.Rerouted packet route) i current facts more false e few =
    rw e (still_few setting before i current more few)
named_few setting before (Item.Hopped packet s) i current facts more false e few =
    rw e (still_few setting before i current more few)
named_few setting before (Item.FoundDown packet one two) i current facts more false e few =
    rw e (still_few setting before i current more few)
named_few setting before (Item.Decided packet v rule act by) i current facts more false e few =
    rw e (still_few setting before i current more few)
named_few setting before next i current facts more true e few = absurd cc
named_few setting before next i current facts more false e few =
    still_few setting before i current more few

-- ---- all items

few_more : (setting : Setting) (before : List Item) (next : Item) (i : ℕ)
    → Premises setting before next → HasControlItemCause setting before next
    → IsFewOf setting before i → IsFewOf setting (before ++ next ∷ []) i
unfolding packet_search_count packet_exit_count packet_detour_count packet_finding_count
few_more setting before next i facts cause few = rw (
  facts_grow i before next,
  stage_next before next i,
  count_more (is_packet_search i) before next,
  count_more (is_packet_exit i) before next,
  count_more (is_packet_detour i) before next,
  count_more (is_packet_finding_down i) before next,
)
    (named_few setting before next i (journal_current_mark (before ++ next ∷ [])) facts
    (current_rises setting before next cause) (is_item_of_entered_packet i next) refl few)

abbrev pub RoutesAreFew : Setting → List Item → Type 0
RoutesAreFew setting journal = (i : ℕ) → IsFewOf setting journal i

-- what is known before an item, and its causes
abbrev IsKnown : Setting → List Item → Item → Type 0
IsKnown setting before next =
    Both (Behind (Past (IsWayItem setting)) (AllPacketFactsKept setting)) (PacketStrongCause setting) before next

premises_of : (setting : Setting) (before : List Item) (next : Item) → IsMachineSetting setting
    → IsKnown setting before next → Premises setting before next
premises_of setting before next is both = search rules

few_at_first : (setting : Setting) → RoutesAreFew setting []
unfolding packet_facts_of packet_stage_of journal_leg_of journal_decision_of journal_found_down packet_search_count packet_exit_count packet_detour_count
    packet_finding_count
few_at_first setting i = record {
  seeking = record {
    none = λ is. refl;
    sought = λ version partition is. absurd cc;
    searched = omega arith;
  };
  leaving = record { undecided = λ is. refl; exited = omega arith };
  turning = record {
    set = none_is_link_set;
    detoured = omega (arith, few_unfound setting.net no_failover_links);
    once = omega (arith, few_unfound setting.net no_failover_links);
  };
  room = tt;
}

pub routes_few : (setting : Setting) (journal : List Item) → IsMachineSetting setting
    → JournalItemsHaveCauses (IsWayItem setting) [] journal → RoutesAreFew setting journal
routes_few setting journal is have = fact_on (IsKnown setting) (RoutesAreFew setting)
    (λ before next both few i. few_more setting before next i
    (premises_of setting before next is both) both.first.caused.caused.switches (few i)) [] journal
    (have_both _ _ [] journal (kept_before setting journal is have)
    (strongly_caused setting journal is have)) (few_at_first setting)

-- ---- laws

pub searched_few : (setting : Setting) (journal : List Item) → IsMachineSetting setting
    → JournalItemsHaveCauses (IsWayItem setting) [] journal → (i : ℕ) → packet_search_count journal i ≤ most_journal_versions
searched_few setting journal is have i = let switches = switches_of_all setting [] journal have in
    omega (
      arith,
      (routes_few setting journal is have i).seeking.searched,
      (bounded setting journal switches).there,
      (versions_planned setting journal switches).few,
    )

pub detoured_few : (setting : Setting) (journal : List Item) → IsMachineSetting setting
    → JournalItemsHaveCauses (IsWayItem setting) [] journal → (i : ℕ)
    → packet_detour_count journal i ≤ length setting.net.links
detoured_few setting journal is have i = omega (arith, (routes_few _ _ is have i).turning.detoured)

pub finds_few : (setting : Setting) (journal : List Item) → IsMachineSetting setting
    → JournalItemsHaveCauses (IsWayItem setting) [] journal → (i : ℕ)
    → packet_finding_count journal i ≤ length setting.net.links
finds_few setting journal is have i = omega (arith, (routes_few _ journal is have i).turning.once)

pub taken_few : (setting : Setting) (journal : List Item) → IsMachineSetting setting
    → JournalItemsHaveCauses (IsWayItem setting) [] journal → (i : ℕ) → packet_routes_taken journal i ≤ most_packet_routes
taken_few setting journal is have i = omega (
  arith,
  searched_few setting journal is have i,
  (routes_few setting journal is have i).leaving.exited,
  detoured_few setting journal is have i,
  is.net.few_links,
)
