-- Items that have their causes keep each packet on its way.
use Rattle.std.proofs.Common.{[], ◌<◌, ◌∙◌, ◌∷◌, ◌≡◌, ◌≤◌, ◌⊎◌, All, Contains, IsTrue, List, None, Option, Some, ap, arith, eqb-true, false, inl, inr, is_some, length, refl, rules, subst, sym, unwrap_or, ℕ}
use Rattle.base.proofs.Exports.{All-contains, Any-from_list_any, find-there, some_same}
use Rattle.five_tuple.specs.Exports.{IsHeader, header_number_of}
use Rattle.update_machine.specs.Exports.{Action, MachineAuthorityRule, CacheEntry, Decision, Exit, Found, JournalItemsHaveCauses, Header, How, IsMachineSetting, Item, Leg, NamesMachineSettingPort, Seek, Setting, Tables, journal_cache_of, journal_current_mark, journal_found_down, machine_lookup_at, machine_no_switch, owner, machine_policy_at, journal_retired_mark, journal_route_from, journal_stamp_of, journal_leg_targets}
use Rattle.net_file.specs.Exports.{IsNet, are_linked_in_net, net_port_owner}
use Rattle.net_file.proofs.NetFileRowPlaces.{joined_below}
use Rattle.policy_rules.specs.Exports.{scan}
use Rattle.switch_table.specs.Exports.{HostedPolicyPartition, first_cache_entry, switch_table_lookup}
use Rattle.ternary.specs.Exports.{holds}
use Rattle.control_laws.specs.Exports.{HasControlItemCause, ControlAdvertisedLinksAreThere}
use Rattle.control_laws.proofs.Exports.{HasBothCauses}
use Rattle.packet_laws.specs.Exports.{AuthorityDecidesPacket, PacketRouteAvoidsFound, Blocked, CacheDecidesPacket, CameIn, PacketDecidesBy, HasKeptPacketFacts, IsPacketAt, IsPacketDecided, IsPacketLookedUp, IsPacketOnLeg, IsPacketOnWay, IsPacketPartitionOf, IsPacketRedirectedHere, IsRightPacketCacheEntry, IsPacketRightlyDecided, IsSoughtByPacket, IsPacketUnderWay, Judged, PacketRouteLeadsToTarget, PacketMeetsDown, PacketMovesOver, OnWay, PacketFacts, PacketStage, PacketTakesDetour, PacketTakesExit, PacketTakesRoute, packet_facts_after, packet_stage_of, packet_facts_of}
use Rattle.packet_laws.proofs.PacketHeaderLookups.{FindsTargets, IsHere, decision_in, found_in, here_of, leg_in, next_in, redirect_found, rules_of, scan_named, seeking_of}
use Rattle.packet_laws.proofs.PacketBlocks.{WhenDecided}
use Rattle.packet_laws.proofs.PacketKnownRoutes.{IsWay, route_way}
use Rattle.packet_laws.proofs.PacketCacheRules.{scan_of_version}

-- what is known of the journal before an item, and kept of its packet
pub record Knows (setting : Setting) (before : List Item) (i : ℕ) (stage : Option PacketStage) : Type 0
  where
    pub is : IsMachineSetting setting
    pub have : JournalItemsHaveCauses (HasControlItemCause setting) [] before
    pub both : JournalItemsHaveCauses (HasBothCauses setting) [] before
    pub links : ControlAdvertisedLinksAreThere setting before
    pub kept : HasKeptPacketFacts setting before (packet_facts_of before i) stage

-- where it is
pub here_known : (setting : Setting) (before : List Item) (i s : ℕ)
    → Knows setting before i (packet_stage_of before i) → IsPacketAt before i s → IsHere setting before i s
here_known setting before i s knows at = search (rules, here_of)

-- a packet that moves on
moving_on : (setting : Setting) (before : List Item) (facts : PacketFacts) → IsPacketOnWay setting before
    facts → PacketRouteAvoidsFound facts.found facts.route → HasKeptPacketFacts setting before facts (Some OnWay)
moving_on setting before facts on avoids = search rules

-- a packet that doesn't travel
pub gone : (setting : Setting) (before : List Item) (facts : PacketFacts) (stage : Option PacketStage)
    → facts.travels ≡ false → HasKeptPacketFacts setting before facts stage
gone setting before facts stage ended = search rules

linked_there : (setting : Setting) (one two : ℕ) → IsNet setting.net
    → IsTrue (are_linked_in_net setting.net.links one two) → two < length setting.net.switches
linked_there setting one two net linked = search (rules, Any-from_list_any, joined_below)

-- ---- undecided packets

pub undecided_of : (setting : Setting) (before : List Item) (i s : ℕ) (stage : Option PacketStage)
    → HasKeptPacketFacts setting before (packet_facts_of before i) stage
    → (here : IsHere setting before i s) → (stage ≡ Some CameIn) ⊎ ((stage ≡ Some OnWay)
    × ((v : ℕ) × (p : ℕ) × ((packet_facts_of before i).leg ≡ Some (Seek v p))))
    → (packet_facts_of before i).decision ≡ None
undecided_of setting before i s stage kept here h7 = search (rules, seeking_of)

sought_of : (setting : Setting) (before : List Item) (i s : ℕ) (stage : Option PacketStage)
    → HasKeptPacketFacts setting before (packet_facts_of before i) stage
    → (here : IsHere setting before i s) → (stage ≡ Some CameIn) ⊎ (stage ≡ Some OnWay)
    → (v p : ℕ) → (packet_facts_of before i).leg ≡ Some (Seek v p)
    → IsSoughtByPacket setting before (packet_facts_of before i).mark here.under.header v p
sought_of setting before i s stage kept here h7 v p seeks = search (rules, seeking_of)

-- where a packet is looked up or arrives
pub stage_looked : (before : List Item) (i s : ℕ) → IsPacketLookedUp before i s
    → (packet_stage_of before i ≡ Some CameIn) ⊎ ((packet_stage_of before i ≡ Some OnWay)
    × ((v : ℕ) × (p : ℕ) × ((packet_facts_of before i).leg ≡ Some (Seek v p))))
stage_looked before i s h3 = search (rules, leg_in)

pub stage_when : (before : List Item) (i s version : ℕ) → WhenDecided before i s version
    → (packet_stage_of before i ≡ Some CameIn) ⊎ ((packet_stage_of before i ≡ Some OnWay)
    × ((v : ℕ) × (p : ℕ) × ((packet_facts_of before i).leg ≡ Some (Seek v p))))
unfolding packet_stage_of packet_facts_of
stage_when before i s version h4 = search (rules, stage_looked, leg_in)

stage_alone : {one two three : Type 0} → one ⊎ (two × three) → one ⊎ two
stage_alone h0 = search rules

-- ---- what each item makes of its packet

-- the partition to which a lookup sends it
pub redirected_to : (setting : Setting) (before : List Item) (i s version partition : ℕ)
    → (here : IsHere setting before i s) → IsPacketRedirectedHere setting before i s version partition
    → (hosted : HostedPolicyPartition) × IsPacketPartitionOf setting before here.under.header version partition hosted
redirected_to setting before i s version partition here takes =
    let leads : FindsTargets setting before s here.under.header partition takes.targets =
    redirect_found setting before s here.under.header partition takes.targets here.stamped
    here.under.sound (ap (machine_lookup_at setting before s) (sym here.header) ∙ takes.answer) in
    let hosted : HostedPolicyPartition = leads.part.hosted in (
      hosted,
      subst (λ v. IsPacketPartitionOf setting before here.under.header v partition hosted)
          (sym takes.stamp) (record {
            found = cc (leads.part.number, leads.part.finds.at);
            number = leads.part.number;
            first = leads.part.finds.first;
            holds = leads.part.finds.holds;
          }),
    )

-- whose targets the leg to it has
seek_targets : (setting : Setting) (before : List Item) (header : Header) (version partition : ℕ)
    (hosted : HostedPolicyPartition) → IsPacketPartitionOf setting before header version partition hosted
    → journal_leg_targets setting before (Seek version partition) ≡ hosted.1
seek_targets setting before header version partition hosted own = cc own.found

-- a packet that takes a route where it is
sets_out : (setting : Setting) (before : List Item) (i s : ℕ) (taken : Option Leg) (leg : Leg)
    (targets route : List ℕ) (here : IsHere setting before i s) → taken ≡ Some leg
    → IsWay setting s targets (packet_facts_of before i).found route
    → let after = record (packet_facts_of before i) { leg = taken; route = route; hops = 0 } in
    IsPacketOnLeg setting before after here.under.header leg → HasKeptPacketFacts setting before after (Some OnWay)
sets_out setting before i s taken leg targets route here takes way on = moving_on _ _ _ (record {
  under_way = record { entry = here.under.entry; place = here.under.place; mark = here.under.mark };
  leg = leg;
  takes = takes;
  on_leg = on;
  stands = way.begins ∙ ap Some here.at;
}) way.avoids

pub seeking_after : (setting : Setting) (before : List Item) (i mark version partition : ℕ)
    (route : List ℕ) → Knows setting before i (packet_stage_of before i)
    → PacketTakesRoute setting before i (Seek version partition) route
    → HasKeptPacketFacts setting before
    (packet_facts_after mark (Item.Seeking i version partition route) (packet_facts_of before i)) (Some OnWay)
seeking_after setting before i mark version partition route knows takes =
    let facts : PacketFacts = packet_facts_of before i in
    let s : ℕ = takes.switch in
    let here : IsHere setting before i s = here_known setting before i s knows takes.at in
    let part = redirected_to setting before i s version partition here takes.takes in
    let hosted : HostedPolicyPartition = part.0 in
    let way = route_way setting before s hosted.1 facts.found route knows.links
    (subst (λ down. journal_route_from setting before s hosted.1 down ≡ Some route) (found_in before i)
    (ap (λ all. journal_route_from setting before s all (journal_found_down before i)) (sym (seek_targets setting
    before here.under.header version partition hosted part.1)) ∙ takes.leads)) in
    sets_out setting before i s _ (Seek version partition) hosted.1 route here refl way (record {
      undecided = undecided_of _ _ i s _ knows.kept here (stage_looked _ i s takes.takes.looked_up);
      sought = record {
        not_retired = omega (arith, here.under.mark, here.stamped.retired, takes.takes.stamp);
        current = omega (arith, here.stamped.current, takes.takes.stamp);
        hosted = hosted;
        own = part.1;
      };
      leads = way.leads;
    })

is_home : (o : Option ℕ) → IsTrue (is_some o) → o ≡ Some (unwrap_or o machine_no_switch)
is_home o e = search rules

pub port_named : (setting : Setting) (port : ℕ) (act : Action) → act ≡ Action.Out port
    → NamesMachineSettingPort setting act → net_port_owner setting.net.switches port ≡ Some (owner setting port)
port_named setting port act is named = is_home (net_port_owner setting.net.switches port) (rw is at named)

pub exiting_after : (setting : Setting) (before : List Item) (i mark : ℕ) (route : List ℕ)
    → Knows setting before i (packet_stage_of before i) → PacketTakesExit setting before i route
    → HasKeptPacketFacts setting before (packet_facts_after mark (Item.Exiting i route) (packet_facts_of before i)) (Some OnWay)
exiting_after setting before i mark route knows exits =
    let facts : PacketFacts = packet_facts_of before i in
    let s : ℕ = exits.by.switch in
    let out = exits.by.takes in
    let here : IsHere setting before i s = here_known setting before i s knows exits.by.at in
    let judged : IsPacketRightlyDecided setting before facts here.under.header =
    knows.kept.judged here.travelling out.judged here.under.header here.under.entered in
    let decided = decision_in before i (Some out.decision) out.decided in
    let home : List ℕ = owner setting exits.port ∷ [] in
    let way : IsWay setting s home facts.found route = route_way setting before s home facts.found
    route knows.links (subst (λ down. journal_route_from setting before s home down ≡ Some route)
    (found_in before i) exits.by.leads) in
    sets_out setting before i s _ (Exit exits.port) home route here (rw (decided, out.action) refl)
    way (record {
      decision = out.decision;
      decided = decided;
      action = out.action;
      owner = owner setting exits.port;
      has_port = port_named setting exits.port judged.decision.action
          (ap (λ (d : Decision). d.action) (some_same facts.decision judged.decision out.decision
          judged.decided decided) ∙ out.action) judged.named;
      leads = way.leads;
    })

-- on its leg with another route
leg_by : (setting : Setting) (before : List Item) (facts : PacketFacts) (route : List ℕ)
    (header : Header) (leg : Leg) → IsPacketOnLeg setting before facts header leg
    → PacketRouteLeadsToTarget setting (journal_leg_targets setting before leg) route
    → IsPacketOnLeg setting before (record facts { route = route }) header leg
leg_by setting before facts route header (Seek version partition) on leads = record {
  undecided = on.undecided;
  sought = on.sought;
  leads = rw (seek_targets setting before header version partition on.hosted on.own) at leads;
}
leg_by setting before facts route header (Exit port) on leads = search rules

pub rerouted_after : (setting : Setting) (before : List Item) (i mark : ℕ) (route : List ℕ)
    → Knows setting before i (packet_stage_of before i) → PacketTakesDetour setting before i route
    → HasKeptPacketFacts setting before (packet_facts_after mark (Item.Rerouted i route) (packet_facts_of before i)) (Some OnWay)
rerouted_after setting before i mark route knows turns =
    let facts : PacketFacts = packet_facts_of before i in
    let s : ℕ = turns.switch in
    let here : IsHere setting before i s = here_known setting before i s knows turns.at in
    let was = knows.kept.on_way here.travelling (inr turns.blocked.blocked) in
    let leg = some_same _ was.leg turns.leg was.takes (leg_in before i _ turns.blocked.takes) in
    let targets : List ℕ = journal_leg_targets setting before turns.leg in
    let way = route_way setting before s targets facts.found route knows.links
    (subst (λ down. journal_route_from setting before s targets down ≡ Some route) (found_in before i)
    turns.leads) in
    sets_out setting before i s facts.leg turns.leg targets route here (was.takes ∙ ap Some leg)
    way (leg_by setting before facts route _ turns.leg (rw leg at (rw (some_same facts.header _
    here.under.header was.under_way.entered here.under.entered) at was.on_leg)) way.leads)

pub hopped_after : (setting : Setting) (before : List Item) (i mark next : ℕ)
    → Knows setting before i (packet_stage_of before i) → PacketMovesOver setting before i next
    → HasKeptPacketFacts setting before (packet_facts_after mark (Item.Hopped i next) (packet_facts_of before i)) (Some OnWay)
hopped_after setting before i mark next knows moves =
    let here = here_known setting before i moves.switch knows moves.at in
    let was = knows.kept.on_way here.travelling (inl moves.moving) in
    moving_on setting before _ (record {
      under_way = record {
        entry = was.under_way.entry;
        place = record {
          switch = next;
          stands = refl;
          now = linked_there setting moves.switch next knows.is.net
              (knows.links.usable moves.switch next moves.usable);
        };
        mark = was.under_way.mark;
      };
      leg = was.leg;
      takes = was.takes;
      on_leg = was.on_leg;
      stands = sym (next_in before i) ∙ moves.goes_on;
    }) (knows.kept.avoids here.travelling moves.moving)

pub found_after : (setting : Setting) (before : List Item) (i mark one two : ℕ) → Knows setting
    before i (packet_stage_of before i) → PacketMeetsDown setting before i one two → HasKeptPacketFacts setting before
    (packet_facts_after mark (Item.FoundDown i one two) (packet_facts_of before i)) (Some Blocked)
found_after setting before i mark one two knows meets = record {
  under_way = λ travels. under;
  came_in = λ travels is. absurd cc;
  judged = λ travels is header entered. absurd cc;
  on_way = λ travels is. record {
    under_way = under;
    leg = was.leg;
    takes = was.takes;
    on_leg = was.on_leg;
    stands = was.stands;
  };
  avoids = λ travels is. absurd cc;
} where
  here : IsHere setting before i one
  here = here_known setting before i one knows meets.at

  was : IsPacketOnWay setting before (packet_facts_of before i)
  was = knows.kept.on_way here.travelling (inl meets.moving)

  under : IsPacketUnderWay setting before
      (packet_facts_after mark (Item.FoundDown i one two) (packet_facts_of before i))
  under = record {
    entry = was.under_way.entry;
    place = was.under_way.place;
    mark = was.under_way.mark;
  }

pub entered_after : (setting : Setting) (before : List Item)
    (i s : ℕ) (header : Header) (facts : PacketFacts) → s < length setting.net.switches
    → IsHeader header → facts.decision ≡ None → facts.leg ≡ None → HasKeptPacketFacts setting before
    (packet_facts_after (journal_retired_mark before) (Item.Entered i s header) facts) (Some CameIn)
entered_after setting before i s header facts there sound undecided no_leg = search rules

-- ---- decisions

table_not_cached : (tables : Tables) (header : Header) (entry : CacheEntry)
    → switch_table_lookup tables header ≡ Found.Cached entry → ⊥
table_not_cached tables header entry = search rules

cached_found : (setting : Setting) (journal : List Item) (s : ℕ) (header : Header)
    (entry : CacheEntry) → machine_lookup_at setting journal s header ≡ Found.Cached entry
    → first_cache_entry (journal_stamp_of journal s) (header_number_of header) (journal_cache_of setting journal s).entries
    ≡ Some entry
unfolding machine_lookup_at
cached_found setting journal s header entry answer = search (rules, table_not_cached)

-- what decides the packet
pub record DecidesRightly (setting : Setting) (before : List Item) (facts : PacketFacts)
    (header : Header) (version : ℕ) (rule : Option ℕ) (act : Action) : Type 0 where
  pub not_retired : facts.mark < version
  pub current : version ≤ journal_current_mark before
  pub first_match : scan (machine_policy_at setting before version) header
      ≡ record { rule = rule; action = act }
  pub named : NamesMachineSettingPort setting act

-- a cache answers by an entry that it has, of the version with which its switch stamps
record HasCached (setting : Setting) (before : List Item) (s : ℕ) (header : Header)
    (entry : CacheEntry) : Type 0 where
  there : Contains (journal_cache_of setting before s).entries entry
  stamp : entry.version ≡ journal_stamp_of before s
  held : IsTrue (holds entry.word (header_number_of header))

has_cached : (setting : Setting) (before : List Item) (s : ℕ) (header : Header)
    (entry : CacheEntry) → machine_lookup_at setting before s header ≡ Found.Cached entry
    → HasCached setting before s header entry
has_cached setting before s header entry answer = search (rules, find-there, cached_found, eqb-true)

cache_decides : (setting : Setting) (before : List Item) (i s version : ℕ) (rule : Option ℕ)
    (act : Action) (message : ℕ) → IsMachineSetting setting → (here : IsHere setting before i s)
    → All (IsRightPacketCacheEntry setting before) (journal_cache_of setting before s).entries
    → CacheDecidesPacket setting before i s version rule act message
    → DecidesRightly setting before (packet_facts_of before i) here.under.header version rule act
cache_decides setting before i s version rule act message is here right by =
    let entry : CacheEntry = by.entry in
    let header : Header = here.under.header in
    let cached = has_cached setting before s header entry
    (ap (machine_lookup_at setting before s) (sym here.header) ∙ by.answer) in
    let own = All-contains (IsRightPacketCacheEntry setting before) (journal_cache_of setting before s).entries entry
    right cached.there in
    let stamp : entry.version ≡ journal_stamp_of before s = cached.stamp in
    let match = ap (λ v. scan (machine_policy_at setting before v) header) by.of_version
    ∙ scan_of_version setting before entry.version header _ is
    (own.decides header here.under.sound cached.held)
    ∙ ap (λ r. record { rule = r; action = entry.action }) (sym by.by_rule)
    ∙ ap (λ a. record { rule = rule; action = a }) (sym by.says) in record {
      not_retired = omega (
        arith,
        by.of_version,
        stamp,
        here.under.mark,
        here.stamped.retired,
      );
      current = omega (arith, by.of_version, own.current);
      first_match = match;
      named = rw (ap (λ v. scan (machine_policy_at setting before v) header) (sym (by.of_version ∙ stamp))
          ∙ match) at (scan_named setting _ _ header here.stamped.planned);
    }

authority_decides : (setting : Setting) (before : List Item) (i s version : ℕ) (rule : Option ℕ)
    (act : Action) (partition : ℕ) → Knows setting before i (packet_stage_of before i)
    → (here : IsHere setting before i s)
    → AuthorityDecidesPacket setting before i s version rule act partition
    → DecidesRightly setting before (packet_facts_of before i) here.under.header version rule act
authority_decides setting before i s version rule act partition knows here by =
    let rules = rules_of setting before i s version _ knows.is knows.have here (sought_of setting
    before i s _ knows.kept here (stage_alone (stage_when before i s version by.when))) by.finds in
    let match = sym rules.finds.decides
    ∙ ap (λ (f : MachineAuthorityRule). record { rule = f.rule.rule; action = f.rule.action })
    (sym rules.same) ∙ ap (λ r. record { rule = r; action = by.found.rule.action }) (sym by.by_rule)
    ∙ ap (λ a. record { rule = rule; action = a }) (sym by.says) in record {
      not_retired = rules.not_retired;
      current = rules.current;
      first_match = match;
      named = rw match at (scan_named setting _ _ here.under.header rules.planned);
    }

-- when the packet was decided, and by what
pub record IsDecidedNow (setting : Setting) (before : List Item) (i s version : ℕ) (rule : Option ℕ)
    (act : Action) (header : Header) : Type 0 where
  pub when : WhenDecided before i s version
  pub rightly : DecidesRightly setting before (packet_facts_of before i) header version rule act

pub decided_now : (setting : Setting) (before : List Item) (i s version : ℕ) (rule : Option ℕ)
    (act : Action) (by : How) → Knows setting before i (packet_stage_of before i)
    → (here : IsHere setting before i s)
    → All (IsRightPacketCacheEntry setting before) (journal_cache_of setting before s).entries
    → PacketDecidesBy setting before i s version rule act by
    → IsDecidedNow setting before i s version rule act here.under.header
decided_now setting before i s version rule act (How.Cached message) knows here right decides =
    record {
      when = inl (
        decides.looked_up,
        decides.of_version ∙ (has_cached setting before s _ decides.entry decides.answer).stamp,
      );
      rightly = cache_decides _ before i s version rule act message knows.is here right decides;
    }
decided_now setting before i s version rule act (How.Authority home partition) knows here right
    decides = search (rules, authority_decides)

pub decided_after : (setting : Setting) (before : List Item) (i mark version : ℕ) (rule : Option ℕ)
    (act : Action) (by : How) → Knows setting before i (packet_stage_of before i)
    → ((s : ℕ) → All (IsRightPacketCacheEntry setting before) (journal_cache_of setting before s).entries)
    → IsPacketDecided setting before i version rule act by → HasKeptPacketFacts setting before
    (packet_facts_after mark (Item.Decided i version rule act by) (packet_facts_of before i)) (Some Judged)
decided_after setting before i mark version rule act by knows right decided =
    let facts : PacketFacts = packet_facts_of before i in
    let after : PacketFacts = packet_facts_after mark (Item.Decided i version rule act by) facts in
    let s : ℕ = decided.switch in
    let here : IsHere setting before i s = here_known setting before i s knows decided.at in
    let now = decided_now setting before i s version rule act by knows here (right s) decided.by in
    let judged : IsPacketRightlyDecided setting before after here.under.header = record {
      decision = record { version = version; rule = rule; action = act };
      decided = refl;
      not_retired = now.rightly.not_retired;
      current = now.rightly.current;
      first_match = now.rightly.first_match;
      named = now.rightly.named;
      sought = sought_of _ _ i s _ knows.kept here (stage_alone (stage_when before i s _ now.when));
    } in record {
      under_way = λ travels. record {
        entry = here.under.entry;
        place = here.under.place;
        mark = here.under.mark;
      };
      came_in = λ travels is. absurd cc;
      judged = λ travels is header entered. subst (IsPacketRightlyDecided setting before after)
          (some_same facts.header here.under.header header here.under.entered entered) judged;
      on_way = λ travels is. grind arith;
      avoids = λ travels is. absurd cc;
    }
