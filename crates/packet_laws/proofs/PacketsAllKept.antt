-- Each item that has its causes keeps all packets on their way, and all cache rules right: one
-- induction by items.
use Rattle.std.proofs.Common.{[], ◌++◌, ◌+◌, ◌==◌, ◌∙◌, ◌∷◌, ◌≡◌, ◌≢◌, ◌≤◌, ◌⊎◌, All, Bool, IsTrue, List, None, Some, arith, eqb-true, false, if◌then◌else◌, inl, inr, refl, subst, sym, true, unwrap_or, ℕ, rules}
use Rattle.base.proofs.Exports.{All-weaker, nat_tests, option_or, some_same}
use Rattle.failover.specs.Exports.{no_failover_links}
use Rattle.update_machine.specs.Exports.{MachineAuthorityRule, Body, CacheRule, MachineVersionHasPlan, JournalItemsHaveCauses, Header, IsMachineSetting, Item, Message, Packet, Setting, Step, journal_cache_of, machine_item_changes_found, machine_item_changes_hops, changes_journal_leg, journal_current_mark, journal_decision_of, journal_found_down, machine_item_gives_decision, machine_item_gives_header, machine_item_gives_ingress, machine_item_gives_route, machine_item_gives_standing, machine_item_gives_travelling, journal_packet_header, journal_ingress_of, journal_last_given, journal_leg_of, journal_message_of, journal_next_packet, journal_plan_at, machine_policy_at, journal_present_step, journal_retired_mark, journal_route_in, journal_route_place, journal_standing_of, travels_in_journal}
use Rattle.update_machine.proofs.Exports.{begins_planned, folded_append, last_given_append, step_stays}
use Rattle.packet_laws.specs.Exports.{AllPacketFactsKept, Blocked, BringsRightPacketRule, CameIn, HasKeptPacketFacts, IsRightPacketCacheEntry, IsRightPacketRule, IsUnknownPacket, Judged, OnWay, HasPacketItemCause, PacketFacts, SendsRightPacketRule, PacketSendsRule, PacketStage, changes_packet_entry_mark, packet_entry_mark, packet_facts_after, gives_packet_stage, is_item_of_entered_packet, packet_stage_of, packet_facts_of}
use Rattle.cache_maker.specs.Independent.{widen}
use Rattle.five_tuple.specs.Exports.{header_number_of}
use Rattle.control_laws.proofs.Exports.{AreKept, Behind, HasBothCauses, NamesOwn, StampsAreCurrent, current_at_first, current_kept, fact_on, have_weaker, links_there, message_more, said_parts, stamps_touched, versions_planned, with_fact}
use Rattle.control_laws.specs.Exports.{HasControlItemCause, control_stamp_message_to}
use Rattle.packet_laws.proofs.PacketCacheRules.{Grows, cache_holds, cache_rule_right, carried_right, first_match_by_scan, grows, kept_on, right_on}
use Rattle.packet_laws.proofs.PacketHeaderLookups.{IsHere, deciding, here_of, rules_of}
use Rattle.packet_laws.proofs.KeptPacketFacts.{Knows, decided_after, entered_after, exiting_after, found_after, gone, hopped_after, rerouted_after, seeking_after}
use Rattle.packet_laws.proofs.PacketBlocks.{stage_more, stage_stays}
use Rattle.packet_laws.proofs.PacketsAtRest.{IsAsked, IsWayItem, Past, numbered, switches_of_all, ways_of_all, with_past}
use Rattle.packet_laws.proofs.PacketsServed.{packet_more}
use Rattle.packet_laws.proofs.PacketsSpared.{step_now}
use Rattle.ternary.specs.Exports.{WordValue}

-- ---- what each item makes of the facts of a packet

-- the facts behind one more item, each by its own fold
abbrev told_facts : List Item → ℕ → Item → PacketFacts
told_facts before i item = record {
  header = option_or (machine_item_gives_header i item) (journal_packet_header before i);
  ingress = option_or (machine_item_gives_ingress i item) (journal_ingress_of before i);
  stands = option_or (machine_item_gives_standing i item) (journal_standing_of before i);
  travels = unwrap_or (option_or (machine_item_gives_travelling i item) (journal_last_given (machine_item_gives_travelling i) before))
      false;
  decision = option_or (machine_item_gives_decision i item) (journal_decision_of before i);
  leg = changes_journal_leg i before (journal_leg_of before i) item;
  route = unwrap_or (option_or (machine_item_gives_route i item) (journal_last_given (machine_item_gives_route i) before)) [];
  hops = machine_item_changes_hops i before (journal_route_place before i) item;
  found = machine_item_changes_found i before (journal_found_down before i) item;
  mark = changes_packet_entry_mark i before (packet_entry_mark before i) item;
}

facts_more : (before : List Item) (i : ℕ) (item : Item)
    → packet_facts_of (before ++ item ∷ []) i ≡ told_facts before i item
unfolding packet_facts_of journal_packet_header journal_ingress_of journal_standing_of travels_in_journal journal_decision_of journal_leg_of journal_route_in journal_route_place
    journal_found_down packet_entry_mark
facts_more before i item = rw (
  last_given_append (machine_item_gives_header i) before (item ∷ []),
  last_given_append (machine_item_gives_ingress i) before (item ∷ []),
  last_given_append (machine_item_gives_standing i) before (item ∷ []),
  last_given_append (machine_item_gives_travelling i) before (item ∷ []),
  last_given_append (machine_item_gives_decision i) before (item ∷ []),
  folded_append (changes_journal_leg i) None before (item ∷ []),
  last_given_append (machine_item_gives_route i) before (item ∷ []),
  folded_append (machine_item_changes_hops i) 0 before (item ∷ []),
  folded_append (machine_item_changes_found i) no_failover_links before (item ∷ []),
  folded_append (changes_packet_entry_mark i) 0 before (item ∷ []),
) refl

by_name : (before : List Item) (i : ℕ) (item : Item) (b : Bool) → is_item_of_entered_packet i item ≡ b
    → told_facts before i item
    ≡ (if b then packet_facts_after (journal_retired_mark before) item (packet_facts_of before i) else packet_facts_of before i)
unfolding packet_facts_of journal_packet_header journal_ingress_of journal_standing_of travels_in_journal journal_decision_of journal_leg_of journal_route_in journal_route_place
    journal_found_down packet_entry_mark
by_name before i (Item.Entered packet switch header) true e = rw e refl
by_name before i (Item.Entered packet switch header) false e = rw e refl
by_name before i (Item.Seeking packet version partition route) true e = rw e refl
by_name before i (Item.Seeking packet version partition route) false e = rw e refl
by_name before i (Item.Exiting packet route) true e = rw e refl
by_name before i (Item.Exiting packet route) false e = rw e refl
by_name before i (Item.Rerouted packet route) true e = rw e refl
by_name before i (Item.Rerouted packet route) false e = rw e refl
by_name before i (Item.Hopped packet switch) true e = rw e refl
by_name before i (Item.Hopped packet switch) false e = rw e refl
by_name before i (Item.FoundDown packet one two) true e = rw e refl
by_name before i (Item.FoundDown packet one two) false e = rw e refl
by_name before i (Item.Decided packet version rule action how) true e = rw e refl
by_name before i (Item.Decided packet version rule action how) false e = rw e refl
by_name before i (Item.Left packet port leaving) true e = rw e refl
by_name before i (Item.Left packet port leaving) false e = rw e refl
by_name before i (Item.Dropped packet) true e = rw e refl
by_name before i (Item.Dropped packet) false e = rw e refl
by_name before i (Item.Lost packet) true e = rw e refl
by_name before i (Item.Lost packet) false e = rw e refl
by_name before i (Item.Stuck packet switch cause leg down) true e = rw e refl
by_name before i (Item.Stuck packet switch cause leg down) false e = rw e refl
by_name before i other true e = absurd cc
by_name before i other false e = refl

pub facts_grow : (i : ℕ) (before : List Item) (item : Item) → packet_facts_of (before ++ item ∷ []) i
    ≡ (if is_item_of_entered_packet i item then packet_facts_after (journal_retired_mark before) item (packet_facts_of before i)
    else packet_facts_of before i)
facts_grow i before item = facts_more _ i item ∙ by_name before i item (is_item_of_entered_packet i item) refl

pub facts_named : (i : ℕ) (before : List Item) (item : Item) → is_item_of_entered_packet i item ≡ true
    → packet_facts_of (before ++ item ∷ []) i ≡ packet_facts_after (journal_retired_mark before) item (packet_facts_of before i)
facts_named i before item named = cc (facts_grow i before item, named)

pub facts_other : (i : ℕ) (before : List Item) (item : Item) → is_item_of_entered_packet i item ≡ false
    → packet_facts_of (before ++ item ∷ []) i ≡ packet_facts_of before i
facts_other i before item other = cc (facts_grow i before item, other)

pub other_number : (i j : ℕ) → j ≢ i → (i == j) ≡ false
other_number i j apart = grind (arith, nat_tests)

-- ---- all kept

-- ---- steps that were asked for

abbrev AreAsked : Setting → List Item → Type 0
AreAsked setting journal = (step : Step) → journal_present_step journal ≡ Some step → NamesOwn setting step

asked_kept : (setting : Setting) → AreKept (IsAsked setting) (AreAsked setting)
asked_kept setting before next asked are other present =
    search (rules, some_same, step_now, step_stays)

present_asked : (setting : Setting) (journal : List Item)
    → JournalItemsHaveCauses (IsWayItem setting) [] journal → AreAsked setting journal
unfolding journal_present_step
present_asked setting journal have = fact_on (IsAsked setting) _ (asked_kept setting) [] journal
    (have_weaker (IsWayItem setting) (IsAsked setting) (λ js next is. is.asked) [] journal have)
    (λ step present. absurd cc)

-- ---- what is known before an item

pub record Before (setting : Setting) (before : List Item) : Type 0 where
  pub is : IsMachineSetting setting
  pub have : JournalItemsHaveCauses (IsWayItem setting) [] before
  pub kept : AllPacketFactsKept setting before

both_of_all : (setting : Setting) (before : List Item)
    → JournalItemsHaveCauses (IsWayItem setting) [] before → JournalItemsHaveCauses (HasBothCauses setting) [] before
both_of_all setting before have = search (rules, have_weaker)

pub knows : (setting : Setting) (before : List Item) (i : ℕ) → Before setting before
    → Knows setting before i (packet_stage_of before i)
knows setting before i known = record {
  is = known.is;
  have = switches_of_all setting [] before known.have;
  both = both_of_all setting before known.have;
  links = links_there setting before (both_of_all setting before known.have);
  kept = known.kept.packets i;
}

-- ---- packets

-- the packet that an item names
named_as : (setting : Setting) (before : List Item) (packet i : ℕ) (next : Item) (stage : PacketStage)
    → (packet == i) ≡ true → gives_packet_stage i next ≡ Some stage → HasKeptPacketFacts setting before
    (packet_facts_after (journal_retired_mark before) next (packet_facts_of before packet)) (Some stage)
    → HasKeptPacketFacts setting before (packet_facts_after (journal_retired_mark before) next (packet_facts_of before i))
    (packet_stage_of (before ++ next ∷ []) i)
named_as setting before packet i next stage named tells kept =
    rw (stage_more before next i stage tells) (rw (eqb-true packet i named) at kept)

named_after : (setting : Setting) (before : List Item) (next : Item) (i : ℕ)
    → Before setting before → HasPacketItemCause setting before next → is_item_of_entered_packet i next ≡ true
    → HasKeptPacketFacts setting before (packet_facts_after (journal_retired_mark before) next (packet_facts_of before i))
    (packet_stage_of (before ++ next ∷ []) i)
named_after setting before (Item.Entered packet s header) i known way named =
    let own = present_asked setting before known.have (Packet s header) way.0.row in
    let none = known.kept.unknown packet (omega (arith, way.0.number)) in
    named_as setting before packet i (Item.Entered packet s header) CameIn named
    (rw named refl)
    (entered_after setting before packet s header (packet_facts_of before packet) own.0 own.1
    none.decision none.leg)
named_after setting before (Item.Seeking packet version partition route) i known way named =
    named_as setting before packet i _ OnWay named (rw named refl) (seeking_after setting before
    packet (journal_retired_mark before) version partition route (knows setting before packet known) way)
named_after setting before (Item.Exiting packet route) i known way named = named_as setting before
    packet i (Item.Exiting packet route) OnWay named (rw named refl) (exiting_after setting before
    packet (journal_retired_mark before) route (knows setting before packet known) way)
named_after setting before (Item.Rerouted packet route) i known way named = named_as setting before
    packet i (Item.Rerouted packet route) OnWay named (rw named refl) (rerouted_after setting before
    packet (journal_retired_mark before) route (knows setting before packet known) way)
named_after setting before (Item.Hopped packet next) i known way named = named_as setting before
    packet i (Item.Hopped packet next) OnWay named (rw named refl) (hopped_after setting before
    packet (journal_retired_mark before) next (knows setting before packet known) way)
named_after setting before (Item.FoundDown packet one two) i known way named = named_as setting
    before packet i _ Blocked named (rw named refl) (found_after setting before packet
    (journal_retired_mark before) one two (knows setting before packet known) way)
named_after setting before (Item.Decided packet version rule act by) i known way named =
    named_as setting before packet i (Item.Decided packet version rule act by) Judged named
    (rw named refl) (decided_after setting before packet (journal_retired_mark before) version rule act by
    (knows setting before packet known) known.kept.cached way)
named_after setting before (Item.Left packet port leaving) i known way named = search rules
named_after setting before (Item.Dropped packet) i known way named = gone setting before _ _ refl
named_after setting before (Item.Lost packet) i known way named = gone setting before _ _ refl
named_after setting before (Item.Stuck packet switch cause leg down) i known way named =
    gone setting before _ _ refl
named_after setting before next i known way named = absurd cc

unnamed_stage : (i : ℕ) (next : Item) → is_item_of_entered_packet i next ≡ false → gives_packet_stage i next ≡ None
unnamed_stage i next e = search rules

packets_on : (setting : Setting) (before : List Item) (next : Item) → Before setting before
    → IsWayItem setting before next → Grows setting before (before ++ next ∷ []) → (i : ℕ)
    → HasKeptPacketFacts setting (before ++ next ∷ []) (packet_facts_of (before ++ next ∷ []) i)
    (packet_stage_of (before ++ next ∷ []) i)
packets_on setting before next known cause grow i = by_name (is_item_of_entered_packet i next) refl where
  by_name : (b : Bool) → is_item_of_entered_packet i next ≡ b → HasKeptPacketFacts setting (before ++ next ∷ [])
      (packet_facts_of (before ++ next ∷ []) i) (packet_stage_of (before ++ next ∷ []) i)
  by_name true e = rw (facts_named i before next e) (kept_on setting before
      (before ++ next ∷ []) _ _ grow (named_after setting before next i known cause.way e))
  by_name false e = rw (facts_other i _ next e) (rw (stage_stays _ next i (unnamed_stage i next e))
      (kept_on setting before (before ++ next ∷ []) _ _ grow (known.kept.packets i)))

-- ---- packets that didn't enter

-- an item names a packet that travels, or the next one, which enters
named_travels : (setting : Setting) (before : List Item) (next : Item) (i : ℕ)
    → HasPacketItemCause setting before next → is_item_of_entered_packet i next ≡ true → IsTrue (travels_in_journal before i)
    ⊎ ((i ≡ journal_next_packet before) × (journal_next_packet (before ++ next ∷ []) ≡ journal_next_packet before + 1))
named_travels setting before (Item.Entered packet s header) i way named = inr (
  sym (eqb-true packet i named) ∙ way.0.number,
  packet_more before (Item.Entered packet s header),
)
named_travels setting before (Item.Seeking packet version partition route) i way named =
    inl (subst (λ k. IsTrue (travels_in_journal before k)) (eqb-true packet i named) way.at.travelling)
named_travels setting before (Item.Exiting packet route) i way named = search (rules, eqb-true)
named_travels setting before (Item.Rerouted packet route) i way named = search (rules, eqb-true)
named_travels setting before (Item.Hopped packet next) i way named = search (rules, eqb-true)
named_travels setting before (Item.FoundDown packet one two) i way named = search (rules, eqb-true)
named_travels setting before (Item.Decided packet version rule act by) i way named =
    inl (subst (λ k. IsTrue (travels_in_journal before k)) (eqb-true packet i named) way.at.travelling)
named_travels setting before (Item.Left packet port leaving) i way named = search (rules, eqb-true)
named_travels setting before (Item.Dropped packet) i way named = search (rules, eqb-true)
named_travels setting before (Item.Lost packet) i way named = search (rules, eqb-true)
named_travels setting before (Item.Stuck packet switch cause leg down) i way named =
    inl (subst (λ k. IsTrue (travels_in_journal before k)) (eqb-true packet i named) way.at.travelling)
named_travels setting before next i way named = absurd cc

unknown_on : (setting : Setting) (before : List Item) (next : Item) → Before setting before
    → HasPacketItemCause setting before next → (i : ℕ) → journal_next_packet (before ++ next ∷ []) ≤ i
    → IsUnknownPacket (packet_facts_of (before ++ next ∷ []) i)
unknown_on setting before next known way i past = by_name (is_item_of_entered_packet i next) refl where
  not_named : IsTrue (travels_in_journal before i)
      ⊎ ((i ≡ journal_next_packet before) × (journal_next_packet (before ++ next ∷ []) ≡ journal_next_packet before + 1))
      → IsUnknownPacket (packet_facts_of (before ++ next ∷ []) i)
  not_named (inl travelling) =
      let number = numbered _ before (ways_of_all setting [] before known.have) i travelling in
      absurd (omega (arith, number.1, past, packet_more before next))
  not_named (inr own) = absurd (omega (arith, own.0, own.1, past))

  by_name : (b : Bool) → is_item_of_entered_packet i next ≡ b → IsUnknownPacket (packet_facts_of (before ++ next ∷ []) i)
  by_name true e = not_named (named_travels setting before next i way e)
  by_name false e = subst IsUnknownPacket (sym (facts_other i before next e))
      (known.kept.unknown i (omega (arith, past, packet_more before next)))

-- ---- messages

brings_on : (setting : Setting) (before after : List Item) (body : Body) → Grows setting before
    after → BringsRightPacketRule setting before body → BringsRightPacketRule setting after body
brings_on setting before after (CacheRule version word rule act) grow right =
    right_on setting before after version word rule act grow right
brings_on setting before after _ grow right = tt

-- the rule that a switch tells is right
told_right : (setting : Setting) (before : List Item) (message : Message) → Before setting before
    → PacketSendsRule setting before message → BringsRightPacketRule setting before message.body
told_right setting before message known tells =
    let i : ℕ = tells.packet in
    let s : ℕ = tells.switch in
    let knows_it : Knows setting before i (packet_stage_of before i) = knows setting before i known in
    let here : IsHere setting before i s =
    here_of setting before i s (packet_stage_of before i) known.is knows_it.have knows_it.kept tells.at in
    let header : Header = here.under.header in
    let rules = rules_of setting before i s tells.found.version tells.found known.is knows_it.have
    here (knows_it.kept.judged here.travelling tells.judged header here.under.entered).sought
    tells.finds in
    let version : ℕ = tells.found.version in
    let own : MachineAuthorityRule = deciding version rules.finds in
    let right : IsRightPacketRule setting before version
    (widen (header_number_of header) own.part.region own.part.rules own.place) own.rule.rule
    own.rule.action = record {
      known = omega (arith, rules.not_retired);
      current = rules.current;
      decides = λ other sound held. first_match_by_scan (machine_policy_at setting before version) other _
          (cache_rule_right setting (machine_policy_at setting before version) (journal_plan_at setting before
          version) header rules.hosted rules.finds rules.planned here.under.sound other sound held);
    } in
    subst (λ (m : Message). BringsRightPacketRule setting before m.body) (sym tells.says)
    (rw here.header (rw rules.same right))

sent_right : (setting : Setting) (before : List Item) (number : ℕ) (message : Message)
    → Before setting before → HasPacketItemCause setting before (Item.Sent number message)
    → BringsRightPacketRule setting before message.body
sent_right setting before number message known way = by_body message.body refl way where
  by_body : (body : Body) → message.body ≡ body
      → HasPacketItemCause setting before (Item.Sent number message)
      → BringsRightPacketRule setting before message.body
  by_body (CacheRule version word rule act) e way = told_right setting before message known
      (subst (λ b. SendsRightPacketRule setting before message b) e way)
  by_body _ e way = subst (BringsRightPacketRule setting before) (sym e) tt

sent_on : (setting : Setting) (before : List Item) (next : Item) → Before setting before
    → IsWayItem setting before next → Grows setting before (before ++ next ∷ [])
    → (n : ℕ) (message : Message) → journal_message_of (before ++ next ∷ []) n ≡ Some message
    → BringsRightPacketRule setting (before ++ next ∷ []) message.body
sent_on setting before (Item.Sent number sent) known cause grow n message is = by_number _ refl
  where
    by_number : (b : Bool) → (number == n) ≡ b
        → BringsRightPacketRule setting (before ++ Item.Sent number sent ∷ []) message.body
    by_number true e =
        let same = rw (message_more before (Item.Sent number sent) n, e) at is in
        let own : sent ≡ message = cc in
        brings_on setting before _ message.body grow
        (rw own at (sent_right setting before number sent known cause.way))
    by_number false e = brings_on setting before _ message.body grow
        (known.kept.sent n message (rw (message_more before (Item.Sent number sent) n, e) at is))
sent_on setting before next known cause grow n message is = brings_on setting before _ message.body
    grow (known.kept.sent n message (rw (message_more before next n) at is))

-- ---- caches

pub cached_on : (setting : Setting) (before : List Item) (next : Item) → Before setting before
    → Grows setting before (before ++ next ∷ []) → (s : ℕ) → All (IsRightPacketCacheEntry setting
    (before ++ next ∷ [])) (journal_cache_of setting (before ++ next ∷ []) s).entries
cached_on setting before next known grow s =
    let are : StampsAreCurrent before = fact_on (HasControlItemCause setting) StampsAreCurrent
    (current_kept setting) [] before have current_at_first in
    -- a stamp that was sent is of a version that is there, and current or was
    let current : (number boot version : ℕ) (touched : List WordValue)
    → journal_message_of before number ≡ Some (control_stamp_message_to s boot version touched)
    → version ≤ journal_current_mark before = λ number boot version touched sent. are.sent number _ sent in
    All-weaker (IsRightPacketCacheEntry setting before)
    (IsRightPacketCacheEntry setting (before ++ next ∷ [])) (λ entry right. right_on setting before
    (before ++ next ∷ []) entry.version entry.word entry.rule entry.action grow right) _
    (cache_holds (IsRightPacketCacheEntry setting before) setting s before next
    (λ number boot version touched said cache all. carried_right setting before version cache
    known.is (planned number boot version touched (said_parts before s number _ said).sent)
    (current number boot version touched (said_parts before s number _ said).sent) all)
    (λ number version word rule act said. known.kept.sent number _
    (said_parts before s number (CacheRule version word rule act) said).sent) (known.kept.cached s))
  where
    have : JournalItemsHaveCauses (HasControlItemCause setting) [] before
    have = switches_of_all setting [] before known.have

    planned : (number boot version : ℕ) (touched : List WordValue)
        → journal_message_of before number ≡ Some (control_stamp_message_to s boot version touched)
        → MachineVersionHasPlan setting before version
    planned number boot version touched sent =
        let there = (stamps_touched setting before have).sent number s boot version touched sent in
        (versions_planned setting before have).planned (begins_planned setting known.is) version
        there.first there.last

-- ---- all of it

pub kept_more : (setting : Setting) → IsMachineSetting setting
    → AreKept (Past (IsWayItem setting)) (AllPacketFactsKept setting)
kept_more setting is before next cause kept =
    let known : Before setting before = record { is = is; have = cause.past; kept = kept } in
    let grow = grows _ _ next (switches_of_all _ [] _ cause.past) cause.caused.switches in record {
      packets = packets_on setting before next known cause.caused grow;
      unknown = unknown_on setting before next known cause.caused.way;
      sent = sent_on setting before next known cause.caused grow;
      cached = cached_on setting before next known grow;
    }

pub kept_at_first : (setting : Setting) → AllPacketFactsKept setting []
unfolding packet_facts_of travels_in_journal journal_packet_header journal_decision_of journal_leg_of journal_found_down journal_message_of journal_cache_of
kept_at_first setting = search rules

pub all_kept : (setting : Setting) (journal : List Item) → IsMachineSetting setting
    → JournalItemsHaveCauses (IsWayItem setting) [] journal → AllPacketFactsKept setting journal
all_kept setting journal is have = fact_on _ (AllPacketFactsKept setting) (kept_more setting is) [] journal
    (with_past (IsWayItem setting) [] journal tt have) (kept_at_first setting)

-- each item, where all is kept before it
pub kept_before : (setting : Setting) (journal : List Item) → IsMachineSetting setting
    → JournalItemsHaveCauses (IsWayItem setting) [] journal
    → JournalItemsHaveCauses (Behind (Past (IsWayItem setting)) (AllPacketFactsKept setting)) [] journal
kept_before setting journal is have = with_fact _ (AllPacketFactsKept setting) (kept_more setting is) []
    journal (with_past (IsWayItem setting) [] journal tt have) (kept_at_first setting)

pub known_before : (setting : Setting) → IsMachineSetting setting → (before : List Item) (next : Item)
    → Behind (Past (IsWayItem setting)) (AllPacketFactsKept setting) before next → Before setting before
known_before setting is before next behind =
    record { is = is; have = behind.caused.past; kept = behind.known }
