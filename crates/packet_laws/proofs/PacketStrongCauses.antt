-- The strong causes follow from those that are read off the items, and from what is kept.
use Rattle.std.proofs.Common.{[], ◌++◌, ◌+◌, ◌<◌, ◌==◌, ◌∙◌, ◌∷◌, ◌≡◌, ◌≤◌, ◌⊎◌, Bool, IsFalse, IsTrue, List, None, Option, Some, ap, arith, eqb-true, false, if◌then◌else◌, inl, inr, length, nat_eq, refl, subst, sym, true, unwrap_or, ℕ, rules}
use Rattle.base.proofs.Exports.{list_any, option_or, some_same}
use Rattle.update_machine.specs.Exports.{Action, Cause, Decision, Exit, HasMachineCause, JournalItemsHaveCauses, Header, How, IsMachineSetting, Item, Leg, Row, Seek, Setting, journal_current_mark, journal_decision_of, journal_found_down, machine_item_gives_decision, machine_item_gives_header, journal_packet_header, holds_version, journal_leg_of, journal_next_packet, machine_policy_at, machine_policy_in, journal_packet_route, journal_stamp_of, journal_leg_targets}
use Rattle.control_laws.specs.Exports.{ControlLegEndsAt, HasControlItemCause}
use Rattle.packet_laws.specs.Exports.{AllPacketFactsKept, ChangesLeaveOtherPackets, PacketRouteEndsAtTarget, PacketFindsLinkDown, PacketFindsNoRoute, PacketFurtherCause, IsPacketAt, IsPacketAtRouteEnd, IsPacketBlockedOn, IsPacketDecided, IsLeastPacketRoute, IsPacketLookedUp, IsPacketOnLeg, IsPacketOnRightLeg, IsPacketOnWay, IsPacketRedirectedHere, IsPacketStuckOnLeg, PacketMeetsDown, HasPacketItemCause, PacketFacts, PacketsArrive, PacketRaisesOnLeg, PacketRaisesUnheld, PacketRaisesVersion, PacketSeeksRightly, PacketStrongCause, PacketTakesLeg, packet_decision_hit, packet_stage_of, packet_facts_of}
use Rattle.packet_laws.proofs.PacketEnds.{decision_out, end_caused, last_here, leaves_rightly, mark_in, meets_link, one_target, seeks_rightly, stands_known, stuck_rightly}
use Rattle.packet_laws.proofs.PacketHeaderLookups.{IsHere, header_in_facts, here_of, leg_in, next_in, seeking_of, stands_in, travels_in}
use Rattle.control_laws.proofs.Exports.{AreKept, Behind, caused_known, fact_on, have_weaker, serving_hold}
use Rattle.packet_laws.proofs.PacketsAllKept.{Before, kept_before, known_before, knows}
use Rattle.packet_laws.proofs.PacketsAtRest.{IsWayItem, Past, switches_of_all}
use Rattle.policy_rules.specs.Exports.{PolicyAmendmentLaws, IsPolicy, scan}
use Rattle.policy_rules.proofs.PolicyRulesCallerLemmas.{first_match-scan}
use Rattle.update_machine.proofs.Exports.{known_link_laws, last_given_append, versions_own}
use Rattle.packet_laws.proofs.PacketCacheRules.{Grows, first_match_by_scan, grows}
use Rattle.packet_laws.proofs.KeptPacketFacts.{IsDecidedNow, Knows, decided_now, stage_when, undecided_of}
use Rattle.packet_laws.proofs.PacketBlocks.{WhenDecided}
use Rattle.packet_laws.proofs.PacketKnownRoutes.{route_way}

-- ---- a packet at the end of its route is where its leg leads

-- it is at a target of its leg
at_target : (setting : Setting) (journal : List Item) (i s : ℕ) (header : Header) (leg : Leg)
    (targets : List ℕ) (way : IsPacketOnWay setting journal (packet_facts_of journal i))
    → IsPacketAtRouteEnd journal i s header leg → PacketRouteEndsAtTarget (packet_facts_of journal i).route targets
    → IsTrue (list_any (nat_eq s) targets)
at_target setting journal i s header leg targets way at ends =
    search (rules, last_here, next_in, some_same, stands_in)

by_leg : (setting : Setting) (journal : List Item) (i s : ℕ) (header : Header) (leg : Leg)
    (way : IsPacketOnWay setting journal (packet_facts_of journal i)) → IsPacketAtRouteEnd journal i s header leg
    → IsPacketOnLeg setting journal (packet_facts_of journal i) header leg
    → ControlLegEndsAt setting journal s header leg
by_leg setting journal i s header (Seek version partition) way at on = record {
  hosted = on.hosted;
  found = on.own.found;
  number = on.own.number;
  holds = on.own.holds;
  target = at_target setting journal i s header _ on.hosted.1 way at on.leads.ends;
}
by_leg setting journal i s header (Exit port) way at on = on.has_port ∙ ap Some (sym (one_target s
    on.owner (at_target setting journal i s header (Exit port) _ way at on.leads.ends)))

pub packets_arrive : (setting : Setting) (journal : List Item) → AllPacketFactsKept setting journal
    → PacketsArrive setting journal
packets_arrive setting journal kept i s header leg at =
    let facts : PacketFacts = packet_facts_of journal i in
    let way : IsPacketOnWay setting journal facts =
    (kept.packets i).on_way (travels_in journal i at.travelling) (inl at.arrives.moving) in
    let own : way.under_way.header ≡ header = some_same (journal_packet_header journal i) way.under_way.header
    header (header_in_facts journal i way.under_way.header way.under_way.entered) at.with_header in
    by_leg setting journal i s header leg way at
    (rw own at (rw (some_same _ way.leg leg way.takes (leg_in journal i _ at.takes)) at way.on_leg))

-- ---- in a journal whose items have their causes the ends of packets do, and what fails

pub ends_caused : (setting : Setting) (journal : List Item) → IsMachineSetting setting
    → JournalItemsHaveCauses (IsWayItem setting) [] journal → JournalItemsHaveCauses (HasMachineCause setting) [] journal
ends_caused setting journal is have = have_weaker _ (HasMachineCause setting)
    (λ before next behind. end_caused setting before next
    (λ i. knows setting before i (known_before setting is before next behind))
    (caused_known setting before (switches_of_all setting [] before behind.caused.past))
    behind.caused.caused.switches behind.caused.caused.way) [] journal
    (kept_before setting journal is have)

-- ---- each packet got the first match of its header under the version that decided it, and a
-- change leaves the first match of each header that it doesn't touch.

-- ---- decisions are first matches

-- the version of the decision is at most the current one, and its policy decides the header so
pub record IsRightly (setting : Setting) (journal : List Item) (header : Header) (decision : Decision)
    : Type 0 where
  pub known : 1 ≤ decision.version
  pub current : decision.version ≤ journal_current_mark journal
  pub first_match : scan (machine_policy_at setting journal decision.version) header ≡ packet_decision_hit decision

-- of each packet, as long as it has a header and a decision
abbrev pub AreRight : Setting → List Item → Type 0
AreRight setting journal = (i : ℕ) (header : Header) (decision : Decision)
    → journal_packet_header journal i ≡ Some header → journal_decision_of journal i ≡ Some decision
    → IsRightly setting journal header decision

rightly_on : (setting : Setting) (before after : List Item) (header : Header)
    (decision : Decision) → Grows setting before after → IsRightly setting before header decision
    → IsRightly setting after header decision
rightly_on setting before after header decision grow right = search rules

header_more : (before : List Item) (next : Item) (i : ℕ)
    → journal_packet_header (before ++ next ∷ []) i ≡ option_or (machine_item_gives_header i next) (journal_packet_header before i)
unfolding journal_packet_header
header_more before next i = last_given_append (machine_item_gives_header i) before (next ∷ [])

decision_more : (before : List Item) (next : Item) (i : ℕ) → journal_decision_of (before ++ next ∷ []) i
    ≡ option_or (machine_item_gives_decision i next) (journal_decision_of before i)
unfolding journal_decision_of
decision_more before next i = last_given_append (machine_item_gives_decision i) before (next ∷ [])

-- what didn't enter is undecided
new_undecided : (setting : Setting) (before : List Item) (packet : ℕ) (decision : Decision)
    → Before setting before → journal_decision_of before packet ≡ Some decision
    → journal_next_packet before ≤ packet → ⊥
unfolding packet_facts_of
new_undecided setting before packet decision known decided past = search rules

decides_rightly : (setting : Setting) (before : List Item) (i version : ℕ) (rule : Option ℕ)
    (act : Action) (by : How) (header : Header) → Before setting before
    → IsPacketDecided setting before i version rule act by → journal_packet_header before i ≡ Some header
    → IsRightly setting before header (record { version = version; rule = rule; action = act })
unfolding packet_facts_of
decides_rightly setting before i version rule act by header known way entered =
    let knows_it : Knows setting before i (packet_stage_of before i) = knows setting before i known in
    let s : ℕ = way.switch in
    let here : IsHere setting before i s =
    here_of setting before i s (packet_stage_of before i) known.is knows_it.have knows_it.kept way.at in
    let now = decided_now _ _ i s _ _ act by knows_it here (known.kept.cached s) way.by in record {
      known = omega (arith, now.rightly.not_retired);
      current = now.rightly.current;
      first_match = ap (scan (machine_policy_at setting before version))
          (sym (some_same _ _ header here.under.entered entered)) ∙ now.rightly.first_match;
    }

right_next : (setting : Setting) (before : List Item) (next : Item) → Before setting before
    → HasPacketItemCause setting before next → AreRight setting before
    → (i : ℕ) (header : Header) (decision : Decision)
    → option_or (machine_item_gives_header i next) (journal_packet_header before i) ≡ Some header
    → option_or (machine_item_gives_decision i next) (journal_decision_of before i) ≡ Some decision
    → IsRightly setting before header decision
right_next setting before (Item.Entered packet s entering) known way are i header decision =
    by (packet == i) refl
  where
    by : (b : Bool) → (packet == i) ≡ b
        → option_or (if b then Some entering else None) (journal_packet_header before i) ≡ Some header
        → journal_decision_of before i ≡ Some decision → IsRightly setting before header decision
    by true same entered decided = absurd (new_undecided setting before i decision known decided
        (omega (arith, eqb-true packet i same, way.0.number)))
    by false other entered decided = are i header decision entered decided
right_next setting before (Item.Decided packet version rule act how) known way are i header decision =
    by (packet == i) refl
  where
    new : Decision
    new = record { version = version; rule = rule; action = act }

    by : (b : Bool) → (packet == i) ≡ b → journal_packet_header before i ≡ Some header
        → option_or (if b then Some new else None) (journal_decision_of before i) ≡ Some decision
        → IsRightly setting before header decision
    by true same entered decided = subst (IsRightly setting before header) (cc decided)
        (decides_rightly _ _ _ _ rule act how _ known way (rw (eqb-true packet i same) entered))
    by false other entered decided = are i header decision entered decided
right_next setting before next known way are i header decision = are i header decision

right_kept : (setting : Setting) → IsMachineSetting setting
    → AreKept (Behind (Past (IsWayItem setting)) (AllPacketFactsKept setting)) (AreRight setting)
right_kept setting is before next behind are i header decision entered decided =
    let known : Before setting before = known_before setting is before next behind in
    let past : Past (IsWayItem setting) before next = behind.caused in
    rightly_on setting before (before ++ next ∷ []) header decision
    (grows setting before next (switches_of_all setting [] before known.have) past.caused.switches)
    (right_next setting before next known past.caused.way are i header decision
    (sym (header_more before next i) ∙ entered) (sym (decision_more before next i) ∙ decided))

right_at_first : (setting : Setting) → AreRight setting []
unfolding journal_decision_of
right_at_first setting i header decision entered decided = absurd cc

pub all_right : (setting : Setting) (journal : List Item) → IsMachineSetting setting
    → JournalItemsHaveCauses (IsWayItem setting) [] journal → AreRight setting journal
all_right setting journal is have = fact_on _ (AreRight setting) (right_kept setting is) [] journal
    (kept_before setting journal is have) (right_at_first setting)

-- ---- the policies of two versions

own_policy : (setting : Setting) (journal : List Item) (version : ℕ) (rows : List Row)
    → machine_policy_in setting journal version ≡ Some rows → machine_policy_at setting journal version ≡ rows
unfolding machine_policy_at
own_policy setting journal version rows is = ap (λ o. unwrap_or o []) is

-- ---- changes

module _ (laws : PolicyAmendmentLaws) (setting : Setting) (journal : List Item) (is : IsMachineSetting setting)
    (have : JournalItemsHaveCauses (IsWayItem setting) [] journal) where
  pub changes_leave : ChangesLeaveOtherPackets setting journal
  changes_leave version header leaves =
      let old : List Row = leaves.rows in
      let new : List Row = leaves.changed in
      let own = own_policy setting journal version old leaves.policy in
      let same : scan new header ≡ scan old header = laws.same old new leaves.change header
      (subst IsPolicy own (versions_own setting journal version is).0) leaves.makes leaves.apart in
      let either : (v : ℕ) → (v ≡ version) ⊎ (v ≡ version + 1)
      → scan (machine_policy_at setting journal v) header ≡ scan old header = λ v under. elim under [
        | inl this ↦ ap (λ n. scan (machine_policy_at setting journal n) header) this
            ∙ ap (λ rows. scan rows header) own
        | inr later ↦ ap (λ n. scan (machine_policy_at setting journal n) header) later
            ∙ ap (λ rows. scan rows header) (own_policy setting journal _ new leaves.next) ∙ same
      ] in record {
        hit = scan old header;
        before = record {
          rows = old;
          policy = leaves.policy;
          first_match = first_match-scan old header;
        };
        after = record {
          rows = new;
          policy = leaves.next;
          first_match = first_match_by_scan new header (scan old header) same;
        };
        decided = λ packet decision entered decided under.
            sym (all_right setting journal is have packet header decision entered decided).first_match
            ∙ either decision.version under;
      }

-- ---- strongly caused

finds_link : (setting : Setting) (before : List Item) (i one two : ℕ)
    → Knows setting before i (packet_stage_of before i) → PacketMeetsDown setting before i one two
    → PacketFindsLinkDown setting before i one two
finds_link setting before i one two knows_it meets = record {
  finds = record {
    stands = stands_known setting before i one knows_it meets.at;
    next = meets.goes_on;
    unusable = meets.unusable;
  };
  linked = meets_link setting before i one two knows_it meets;
}

-- a version that isn't held is below the stamp
below_stamp : (setting : Setting) (before : List Item) (i s earlier part : ℕ)
    → Knows setting before i (packet_stage_of before i) → IsPacketAt before i s → IsPacketLookedUp before i s
    → journal_leg_of before i ≡ Some (Seek earlier part) → earlier < journal_stamp_of before s
below_stamp setting before i s earlier part knows_it at looked seeks = by_lookup looked where
  facts : PacketFacts
  facts = packet_facts_of before i

  here : IsHere setting before i s
  here = here_of setting before i s (packet_stage_of before i) knows_it.is knows_it.have knows_it.kept at

  there : s < length setting.net.switches
  there = subst (λ x. x < length setting.net.switches) (sym here.at) here.under.now

  sought : facts.leg ≡ Some (Seek earlier part)
  sought = leg_in before i (Some (Seek earlier part)) seeks

  by_held : IsTrue (holds_version before s earlier) ⊎ (earlier < journal_stamp_of before s)
      → IsFalse (holds_version before s earlier) → earlier < journal_stamp_of before s
  by_held (inl held) missing = absurd cc
  by_held (inr below) missing = below

  by_lookup : IsPacketLookedUp before i s → earlier < journal_stamp_of before s
  by_lookup (inl came) =
      let none : facts.leg ≡ None = (knows_it.kept.came_in here.travelling came).1 in
      let clash : None ≡ Some (Seek earlier part) = sym none ∙ sought in absurd cc
  by_lookup (inr misses) =
      let on : IsPacketOnLeg setting before facts here.under.header (Seek earlier part) = seeking_of _
      before facts _ earlier part (knows_it.kept.on_way here.travelling (inl misses.arrives.moving))
      here.under.entered sought in
      let same = some_same (journal_leg_of before i) _ (Seek earlier part) misses.seeks seeks in
      let version_same : misses.version ≡ earlier = cc in
      by_held
      ((serving_hold setting before knows_it.have s there at.serving).held earlier on.current)
      (subst (λ v. IsFalse (holds_version before s v)) version_same misses.missing)

raises_version : (setting : Setting) (before : List Item) (i s version partition : ℕ)
    → Knows setting before i (packet_stage_of before i) → IsPacketAt before i s
    → IsPacketRedirectedHere setting before i s version partition → PacketRaisesVersion before i version
raises_version setting before i s version partition knows_it at takes earlier part seeks = omega (
  arith,
  below_stamp setting before i s earlier part knows_it at takes.looked_up seeks,
  takes.stamp,
)

-- a version that is decided by, and isn't the one that is sought, is the stamp
raises_unheld : (setting : Setting) (before : List Item) (i s version : ℕ)
    → Knows setting before i (packet_stage_of before i) → IsPacketAt before i s
    → WhenDecided before i s version → PacketRaisesUnheld before i version
raises_unheld setting before i s version knows_it at when earlier part switch seeks stands missing =
    by_when when
  where
    by_when : WhenDecided before i s version → earlier < version
    by_when (inl looked) = omega (
      arith,
      below_stamp setting before i s earlier part knows_it at looked.0 seeks,
      looked.1,
    )
    by_when (inr reaches) =
        let same : Seek version reaches.partition ≡ Seek earlier part = some_same (journal_leg_of before i)
        (Seek version reaches.partition) (Seek earlier part) reaches.seeks seeks in
        let version_same : version ≡ earlier = cc in
        let switch_same : s ≡ switch = some_same _ s _ (stands_known _ _ i s knows_it at) stands in
        let held : IsTrue (holds_version before switch earlier) =
        subst (λ v. IsTrue (holds_version before switch v)) version_same
        (subst (λ x. IsTrue (holds_version before x version)) switch_same reaches.held) in
        absurd cc

raises_on_leg : (setting : Setting) (before : List Item) (i s : ℕ) (leg : Leg)
    → Knows setting before i (packet_stage_of before i) → IsPacketAt before i s
    → PacketTakesLeg setting before i s leg ⊎ IsPacketBlockedOn before i leg → PacketRaisesOnLeg before i leg
raises_on_leg setting before i s (Exit port) knows_it at on = tt
raises_on_leg setting before i s (Seek version partition) knows_it at (inl takes) =
    λ apart. raises_version setting before i s version partition knows_it at takes
raises_on_leg setting before i s (Seek version partition) knows_it at (inr blocked) =
    λ apart. absurd (apart blocked.blocked)

stuck_on_leg : (setting : Setting) (before : List Item) (i s : ℕ) (cause : Cause) (leg : Leg)
    (down : List ℕ) → Knows setting before i (packet_stage_of before i)
    → PacketFindsNoRoute setting before i s cause leg down
    → IsPacketStuckOnLeg setting before i s cause leg down
stuck_on_leg setting before i s cause leg down knows_it finds = record {
  stuck = stuck_rightly setting before i s cause leg down knows_it finds;
  found = finds.found;
  no_route = rw finds.found finds.none;
  why = rw finds.found finds.why;
  rightly = by_leg leg finds.on;
  raises = raises_on_leg setting before i s leg knows_it finds.at finds.on;
} where
  here : IsHere setting before i s
  here = here_of setting before i s _ knows_it.is knows_it.have knows_it.kept finds.at

  by_leg : (leg : Leg) → PacketTakesLeg setting before i s leg ⊎ IsPacketBlockedOn before i leg
      → IsPacketOnRightLeg before i leg
  by_leg (Seek version partition) on = seeks_rightly setting before i s version _ knows_it here on
  by_leg (Exit port) on = tt

decided_rightly : (setting : Setting) (before : List Item) (i version : ℕ) (rule : Option ℕ)
    (act : Action) (by : How) → Before setting before → IsPacketDecided setting before i version rule act by
    → PacketSeeksRightly before i version × PacketRaisesUnheld before i version
decided_rightly setting before i version rule act by known way =
    let knows_it : Knows setting before i (packet_stage_of before i) = knows setting before i known in
    let s : ℕ = way.switch in
    let here : IsHere setting before i s =
    here_of setting before i s (packet_stage_of before i) known.is knows_it.have knows_it.kept way.at in
    let now : IsDecidedNow setting before i s version rule act here.under.header =
    decided_now setting before i s version rule act by knows_it here (known.kept.cached s) way.by in (
      record {
        undecided = decision_out before i None (undecided_of setting before i s (packet_stage_of before i)
            knows_it.kept here (stage_when before i s version now.when));
        not_retired = subst (λ m. m < version) (mark_in before i) now.rightly.not_retired;
        current = now.rightly.current;
      },
      raises_unheld setting before i s version knows_it way.at now.when,
    )

least_route : (setting : Setting) (before : List Item) (i s : ℕ) (leg : Leg) (route : List ℕ)
    → Knows setting before i (packet_stage_of before i) → IsPacketAt before i s
    → journal_packet_route setting before i s leg ≡ Some route → IsLeastPacketRoute setting before i leg route
least_route setting before i s leg route knows_it at leads =
    let targets = journal_leg_targets setting before leg in
    let down = journal_found_down before i in record {
      switch = s;
      stands = stands_known setting before i s knows_it at;
      least = rw leads at (known_link_laws.route setting before s targets down);
      avoids = (route_way setting before s targets down route knows_it.links leads).avoids;
    }

further : (setting : Setting) (before : List Item) (next : Item) → Before setting before
    → HasControlItemCause setting before next → HasPacketItemCause setting before next
    → PacketFurtherCause setting before next
further setting before (Item.Submitted file version) known cause way = cause
further setting before (Item.Retired version) known cause way = cause
further setting before (Item.Seeking packet version partition route) known cause way = (
  raises_version _ before packet _ version _ (knows setting before packet known) way.at way.takes,
  least_route setting before packet _ _ route (knows setting before packet known) way.at way.leads,
)
further setting before (Item.Exiting packet route) known cause way = record {
  port = way.port;
  own_leg = (way.by.takes.decision, way.by.takes.decided, way.by.takes.action);
  by = least_route _ before packet _ _ route (knows _ before packet known) way.by.at way.by.leads;
}
further setting before (Item.Rerouted packet route) known cause way = record {
  leg = way.leg;
  own_leg = way.blocked.takes;
  by = least_route _ before packet _ _ route (knows setting before packet known) way.at way.leads;
}
further setting before (Item.FoundDown packet one two) known cause way =
    finds_link setting before packet one two (knows setting before packet known) way
further setting before (Item.Decided packet version rule act by) known cause way =
    decided_rightly setting before packet version rule act by known way
further setting before (Item.Left packet port leaving) known cause way =
    leaves_rightly setting before packet port leaving (knows setting before packet known) way
further setting before (Item.Stuck packet switch why leg down) known cause way =
    stuck_on_leg setting before packet switch why leg down (knows setting before packet known) way
further setting before next known cause way = tt

pub strongly_caused : (setting : Setting) (journal : List Item) → IsMachineSetting setting
    → JournalItemsHaveCauses (IsWayItem setting) [] journal → JournalItemsHaveCauses (PacketStrongCause setting) [] journal
strongly_caused setting journal is have = have_weaker _ (PacketStrongCause setting)
    (λ before next behind. (
      behind.caused.caused.way,
      further setting before next (known_before setting is before next behind)
          behind.caused.caused.switches behind.caused.caused.way,
    )) [] journal
    (kept_before setting journal is have)
