-- What a serving switch says of a header, by the plan of the version of its stamp.
use Rattle.std.proofs.Common.{[], ◌+◌, ◌<◌, ◌∙◌, ◌≡◌, ◌≤◌, All, Bool, Contains, IsTrue, List, None, Option, Some, ap, arith, false, filter, find, if◌then◌else◌, inl, inr, length, map, option_and_then, option_map, position, refl, slice_get, subst, sym, true, unwrap_or, ℕ, rules}
use Rattle.base.proofs.Exports.{All-filter, find-position, find-there, get_or-map, length-map, option_map_or, slice_get-get_or, some_of_map, some_of_then, some_same}
use Rattle.five_tuple.specs.Exports.{IsHeader, header_fields_of, header_number_of}
use Rattle.update_machine.specs.Exports.{MachineAuthorityRule, CacheEntry, Decision, Exit, Found, MachineVersionHasPlan, JournalItemsHaveCauses, Header, IsMachineSetting, Item, Leg, NamesMachineSettingPort, Partition, Row, Rule, Seek, Setting, journal_authority_rule, journal_current_mark, journal_decision_of, machine_first_rule_place, journal_found_down, journal_packet_header_at, journal_packet_header, journal_leg_of, machine_lookup_at, journal_next_switch, journal_plan_at, machine_policy_at, journal_retired_mark, serves, journal_stamp_of, journal_standing_of, journal_tables_at, travels_in_journal}
use Rattle.partition.specs.Plan.{IsPartitionPlan}
use Rattle.policy_rules.specs.Exports.{first_policy_rule, policy_hit_of, policy_hit_of_rule, is_held_by_policy_rule, is_highest_policy_row, is_in_policy_partition, policy_row_matches, scan}
use Rattle.switch_table.specs.Exports.{HostedPolicyPartition, switch_table_authority_of, switch_table_part_has_target, switch_table_lookup_in, switch_table_part_of, switch_table_lookup, tables_of}
use Rattle.switch_table.proofs.SwitchTableLemmas.{tables_planned}
use Rattle.update_machine.proofs.Exports.{begins_planned, version_is_planned, versions_own}
use Rattle.control_laws.specs.Exports.{HasControlItemCause, ControlHoldsStampedVersions}
use Rattle.control_laws.proofs.Exports.{bounded, serving_hold, versions_planned}
use Rattle.packet_laws.specs.Exports.{PacketAuthorityFinds, HasKeptPacketFacts, IsPacketAt, IsPacketOnLeg, IsPacketOnWay, IsSoughtByPacket, IsPacketUnderWay, PacketFacts, PacketStage, packet_facts_of}

-- ---- what the plan of a version says of a header: the partition whose region holds it, and the
-- rule there that decides it as the version's policy does.

-- ---- policies and their plans

-- rows that name ports of the network alone, and their plan on it
pub record IsPlanned (setting : Setting) (rows : List Row) (plan : List HostedPolicyPartition) : Type 0 where
  pub parts : IsPartitionPlan rows setting.net plan
  pub ports : All (λ row. NamesMachineSettingPort setting row.action) rows

-- a version with a plan is planned
pub version_planned : (setting : Setting) (journal : List Item) (version : ℕ) → IsMachineSetting setting
    → MachineVersionHasPlan setting journal version
    → IsPlanned setting (machine_policy_at setting journal version) (journal_plan_at setting journal version)
version_planned setting journal version is has = record {
  parts = version_is_planned setting journal version is has;
  ports = (versions_own setting journal version is).1;
}

-- ---- ports of actions

abbrev rows_that_match : List Row → Header → List Row
rows_that_match rows header = filter (λ row. policy_row_matches row (header_fields_of header)) rows

hit_named : (setting : Setting) (rows : List Row) (best : Option Row)
    → All (λ row. NamesMachineSettingPort setting row.action) rows → find (is_highest_policy_row rows) rows ≡ best →
    NamesMachineSettingPort setting (policy_hit_of best).action
hit_named setting rows None all e = tt
hit_named setting rows (Some row) all e =
    let there : Contains rows row = (find-there (is_highest_policy_row rows) rows row e).0 in
    subst (λ (r : Row). NamesMachineSettingPort setting r.action) there.2 (all there.0 row there.1)

-- the action of a first match names a port of the network, if it names one
pub scan_named : (setting : Setting) (rows : List Row) (plan : List HostedPolicyPartition) (header : Header)
    → IsPlanned setting rows plan → NamesMachineSettingPort setting (scan rows header).action
scan_named setting rows plan header is = hit_named setting (rows_that_match rows header) _
    (All-filter (λ row. policy_row_matches row (header_fields_of header)) (λ row. NamesMachineSettingPort setting row.action)
    rows is.ports) refl

-- ---- the partition of a header

-- the partition of a plan that holds the header, and its rule that decides it
pub record Finds (rows : List Row) (plan : List HostedPolicyPartition) (header : Header) (hosted : HostedPolicyPartition) : Type 0 where
  pub place : ℕ
  pub rule : Rule
  pub first : find (λ other. is_in_policy_partition header (switch_table_part_of other)) plan ≡ Some hosted
  pub holds : IsTrue (is_in_policy_partition header (switch_table_part_of hosted))
  pub at : slice_get plan hosted.0.number ≡ Some hosted
  pub position : unwrap_or (position (is_held_by_policy_rule (header_number_of header)) hosted.0.rules) 0 ≡ place
  pub ruled : slice_get hosted.0.rules place ≡ Some rule
  pub decides : policy_hit_of_rule rule ≡ scan rows header

pub in_plan : (setting : Setting) (rows : List Row) (plan : List HostedPolicyPartition)
    (header : Header) (hosted : HostedPolicyPartition) → IsPlanned setting rows plan → IsHeader header
    → find (λ other. is_in_policy_partition header (switch_table_part_of other)) plan ≡ Some hosted
    → Finds rows plan header hosted
in_plan setting rows plan header hosted is sound found =
    let there = find-there (λ other. is_in_policy_partition header (switch_table_part_of other)) plan hosted found in
    let k : ℕ = there.0.0 in
    let within : k < length (map switch_table_part_of plan) =
    omega (arith, length-map plan switch_table_part_of, there.0.1) in
    let mapped = get_or-map switch_table_part_of plan k hosted (switch_table_part_of hosted) there.0.1
    ∙ ap switch_table_part_of there.0.2 in
    let got : slice_get plan k ≡ Some hosted = slice_get-get_or plan
    k hosted there.0.1 ∙ ap Some there.0.2 in
    let decided : option_map policy_hit_of_rule (first_policy_rule hosted.0.rules header)
    ≡ Some (scan rows header) = subst (λ (p : Partition). IsTrue (is_in_policy_partition header p)
    → option_map policy_hit_of_rule (first_policy_rule p.rules header) ≡ Some (scan rows header)) mapped
    (is.parts.sound.decides header sound k (switch_table_part_of hosted) within) there.1 in
    let rule : (rule : Rule) × (first_policy_rule hosted.0.rules header ≡ Some rule)
    × (policy_hit_of_rule rule ≡ scan rows header) = some_of_map policy_hit_of_rule _ _ decided in
    let position_of : (place : ℕ)
    × (position (is_held_by_policy_rule (header_number_of header)) hosted.0.rules ≡ Some place)
    × (slice_get hosted.0.rules place ≡ Some rule.0) = some_of_then (slice_get hosted.0.rules) _
    rule.0 (find-position (is_held_by_policy_rule (header_number_of header)) hosted.0.rules ∙ rule.1) in record {
      place = position_of.0;
      rule = rule.0;
      first = found;
      holds = there.1;
      at = ap (slice_get plan) (sym (ap (λ (p : Partition). p.number) mapped)
          ∙ is.parts.sound.numbers k (switch_table_part_of hosted) within) ∙ got;
      position = ap (λ o. unwrap_or o 0) position_of.1;
      ruled = position_of.2;
      decides = rule.2;
    }

-- what the tables of a switch say of a header, by the partition that holds it
pub record LooksUp (rows : List Row) (plan : List HostedPolicyPartition) (version switch : ℕ) (header : Header) : Type 0 where
  pub hosted : HostedPolicyPartition
  pub finds : Finds rows plan header hosted
  pub says : switch_table_lookup (tables_of plan version switch) header ≡ switch_table_lookup_in switch header hosted

pub looks_up : (setting : Setting) (rows : List Row) (plan : List HostedPolicyPartition) (version switch : ℕ)
    (header : Header) → IsPlanned setting rows plan → IsHeader header
    → LooksUp rows plan version switch header
looks_up setting rows plan version switch header is sound =
    let own = some_of_map (switch_table_lookup_in switch header)
    (find (λ other. is_in_policy_partition header (switch_table_part_of other)) plan) _
    (tables_planned rows plan version switch header is.parts.sound sound) in
    record { hosted = own.0; finds = in_plan setting rows plan header own.0 is sound own.1; says = sym own.2 }

-- ---- packet header lookups

-- ---- versions

-- each version up to the current one has a policy and its plan
pub current_planned : (setting : Setting) (journal : List Item) (version : ℕ) → IsMachineSetting setting
    → JournalItemsHaveCauses (HasControlItemCause setting) [] journal → 1 ≤ version → version ≤ journal_current_mark journal
    → IsPlanned setting (machine_policy_at setting journal version) (journal_plan_at setting journal version)
current_planned setting journal version is have above below = version_planned setting journal
    version is ((versions_planned setting journal have).planned (begins_planned setting is) version
    above (omega (arith, below, (bounded setting journal have).there)))

-- the stamp of a serving switch is such a version, and isn't retired
pub record IsStamped (setting : Setting) (journal : List Item) (s : ℕ) : Type 0 where
  pub retired : journal_retired_mark journal < journal_stamp_of journal s
  pub current : journal_stamp_of journal s ≤ journal_current_mark journal
  pub planned : IsPlanned setting (machine_policy_at setting journal (journal_stamp_of journal s))
      (journal_plan_at setting journal (journal_stamp_of journal s))

pub stamped : (setting : Setting) (journal : List Item) (s : ℕ) → IsMachineSetting setting
    → JournalItemsHaveCauses (HasControlItemCause setting) [] journal → s < length setting.net.switches
    → IsTrue (serves journal s) → IsStamped setting journal s
stamped setting journal s is have there serving =
    let holds : ControlHoldsStampedVersions journal s = serving_hold setting journal have s there serving in record {
      retired = holds.retired;
      current = holds.current;
      planned = current_planned _ journal _ is have (omega (arith, holds.retired)) holds.current;
    }

-- ---- what a lookup says

-- a partition of the plan of the stamp holds the header
pub record FindsPart (setting : Setting) (journal : List Item) (s : ℕ) (header : Header)
    (partition : ℕ) : Type 0 where
  pub hosted : HostedPolicyPartition
  pub finds : Finds (machine_policy_at setting journal (journal_stamp_of journal s))
      (journal_plan_at setting journal (journal_stamp_of journal s)) header hosted
  pub number : hosted.0.number ≡ partition

by_tables : (entries : Option CacheEntry) (said other : Found) → option_map_or Found.Cached entries
    said ≡ other → ((entry : CacheEntry) → Found.Cached entry ≡ other → ⊥) → said ≡ other
by_tables entries said other e none = search rules

table_says : (setting : Setting) (journal : List Item) (s : ℕ) (header : Header) (other : Found)
    → machine_lookup_at setting journal s header ≡ other
    → ((entry : CacheEntry) → Found.Cached entry ≡ other → ⊥)
    → switch_table_lookup (journal_tables_at setting journal (journal_stamp_of journal s) s) header ≡ other
unfolding machine_lookup_at
table_says setting journal s header other answer none = search (rules, by_tables)

-- what a lookup says that no cached rule answers, by a partition of the plan of the stamp
abbrev LooksUpAt : Setting → List Item → ℕ → Header → Type 0
LooksUpAt setting journal s header = LooksUp (machine_policy_at setting journal (journal_stamp_of journal s))
    (journal_plan_at setting journal (journal_stamp_of journal s)) (journal_stamp_of journal s) s header

record SaysOf (setting : Setting) (journal : List Item) (s : ℕ) (header : Header) (what : Found)
    : Type 0 where
  looks : LooksUpAt setting journal s header
  is : switch_table_lookup_in s header looks.hosted ≡ what

says_of : (setting : Setting) (journal : List Item) (s : ℕ) (header : Header) (what : Found)
    → IsStamped setting journal s → IsHeader header → machine_lookup_at setting journal s header ≡ what
    → ((entry : CacheEntry) → Found.Cached entry ≡ what → ⊥) → SaysOf setting journal s header what
says_of setting journal s header what stamped sound answer none =
    let looks = looks_up setting _ (journal_plan_at setting journal (journal_stamp_of journal s))
    (journal_stamp_of journal s) s header stamped.planned sound in record {
      looks = looks;
      is = sym looks.says ∙ table_says setting journal s header what answer none;
    }

pub record FindsRule (setting : Setting) (journal : List Item) (s : ℕ) (header : Header)
    (partition place : ℕ) : Type 0 where
  pub part : FindsPart setting journal s header partition
  pub found_at : part.finds.place ≡ place
  pub target : IsTrue (switch_table_part_has_target s part.hosted)

pub authority_found : (setting : Setting) (journal : List Item) (s : ℕ) (header : Header)
    (partition place : ℕ) → IsStamped setting journal s → IsHeader header
    → machine_lookup_at setting journal s header ≡ Found.Authority partition place
    → FindsRule setting journal s header partition place
authority_found setting journal s header partition at stamped sound answer =
    let says = says_of setting journal s header _ stamped sound answer (λ entry e. absurd cc) in
    by_target says.looks (switch_table_part_has_target s says.looks.hosted) refl says.is
  where
    by_target : (looks : LooksUpAt setting journal s header) (b : Bool)
        → switch_table_part_has_target s looks.hosted ≡ b → (if b then switch_table_authority_of header (switch_table_part_of looks.hosted)
        else Found.Redirect looks.hosted.0.number looks.hosted.1) ≡ Found.Authority partition at
        → FindsRule setting journal s header partition at
    by_target looks true is e = record {
      part = record { hosted = looks.hosted; finds = looks.finds; number = cc };
      found_at = sym looks.finds.position ∙ cc;
      target = is;
    }
    by_target looks false is e = absurd cc

pub record FindsTargets (setting : Setting) (journal : List Item) (s : ℕ) (header : Header)
    (partition : ℕ) (targets : List ℕ) : Type 0 where
  pub part : FindsPart setting journal s header partition
  pub own : part.hosted.1 ≡ targets

pub redirect_found : (setting : Setting) (journal : List Item) (s : ℕ) (header : Header)
    (partition : ℕ) (targets : List ℕ) → IsStamped setting journal s → IsHeader header
    → machine_lookup_at setting journal s header ≡ Found.Redirect partition targets
    → FindsTargets setting journal s header partition targets
redirect_found setting journal s header partition targets stamped sound answer =
    let says = says_of setting journal s header _ stamped sound answer (λ entry e. absurd cc) in
    by_target says.looks (switch_table_part_has_target s says.looks.hosted) says.is
  where
    by_target : (looks : LooksUpAt setting journal s header) (b : Bool)
        → (if b then switch_table_authority_of header (switch_table_part_of looks.hosted)
        else Found.Redirect looks.hosted.0.number looks.hosted.1) ≡ Found.Redirect partition targets
        → FindsTargets setting journal s header partition targets
    by_target looks true e = absurd cc
    by_target looks false e = record {
      part = record { hosted = looks.hosted; finds = looks.finds; number = cc };
      own = cc;
    }

-- ---- the rule of a partition

abbrev pub deciding : {rows : List Row} {plan : List HostedPolicyPartition} {header : Header} {hosted : HostedPolicyPartition} → ℕ
    → Finds rows plan header hosted → MachineAuthorityRule
deciding {hosted = hosted} version finds = record {
  version = version;
  part = switch_table_part_of hosted;
  place = finds.place;
  rule = finds.rule;
}

pub rule_there : (setting : Setting) (journal : List Item) (header : Header) (hosted : HostedPolicyPartition)
    (version partition : ℕ) (finds : Finds (machine_policy_at setting journal version)
    (journal_plan_at setting journal version) header hosted) → hosted.0.number ≡ partition
    → journal_authority_rule setting journal version partition finds.place ≡ Some (deciding version finds)
rule_there setting journal header hosted version partition finds number = search rules

-- ---- what is known of a packet at its switch, where something is kept of each packet

-- ---- facts

pub travels_in : (journal : List Item) (i : ℕ) → IsTrue (travels_in_journal journal i)
    → IsTrue (packet_facts_of journal i).travels
unfolding packet_facts_of
travels_in journal i is = is

pub leg_in : (journal : List Item) (i : ℕ) (leg : Option Leg) → journal_leg_of journal i ≡ leg
    → (packet_facts_of journal i).leg ≡ leg
unfolding packet_facts_of
leg_in journal i leg is = is

pub decision_in : (journal : List Item) (i : ℕ) (decision : Option Decision)
    → journal_decision_of journal i ≡ decision → (packet_facts_of journal i).decision ≡ decision
unfolding packet_facts_of
decision_in journal i decision is = is

pub found_in : (journal : List Item) (i : ℕ) → journal_found_down journal i ≡ (packet_facts_of journal i).found
unfolding packet_facts_of
found_in journal i = refl

pub next_in : (journal : List Item) (i : ℕ) → journal_next_switch journal i
    ≡ slice_get (packet_facts_of journal i).route ((packet_facts_of journal i).hops + 1)
unfolding packet_facts_of journal_next_switch
next_in journal i = refl

pub stands_in : (journal : List Item) (i : ℕ) (s : ℕ) → (packet_facts_of journal i).stands ≡ Some s
    → journal_standing_of journal i ≡ Some s
unfolding packet_facts_of
stands_in journal i s is = is

pub header_in_facts : (journal : List Item) (i : ℕ) (header : Header)
    → (packet_facts_of journal i).header ≡ Some header → journal_packet_header journal i ≡ Some header
unfolding packet_facts_of
header_in_facts journal i header is = is

-- ---- at a switch

-- the packet is under way at the serving switch, whose stamp is of a planned version
pub record IsHere (setting : Setting) (before : List Item) (i s : ℕ) : Type 0 where
  pub travelling : IsTrue (packet_facts_of before i).travels
  pub under : IsPacketUnderWay setting before (packet_facts_of before i)
  pub at : s ≡ under.switch
  pub header : journal_packet_header_at before i ≡ under.header
  pub stamped : IsStamped setting before s

pub here_of : (setting : Setting) (before : List Item) (i s : ℕ) (stage : Option PacketStage)
    → IsMachineSetting setting → JournalItemsHaveCauses (HasControlItemCause setting) [] before
    → HasKeptPacketFacts setting before (packet_facts_of before i) stage → IsPacketAt before i s
    → IsHere setting before i s
here_of setting before i s stage is have kept at =
    let travelling : IsTrue (packet_facts_of before i).travels = travels_in before i at.travelling in
    let under : IsPacketUnderWay setting before (packet_facts_of before i) = kept.under_way travelling in
    let same : s ≡ under.switch =
    sym at.stands ∙ ap (λ o. unwrap_or o 0) (stands_in before i under.switch under.stands) in
    record {
      travelling = travelling;
      under = under;
      at = same;
      header = rw (header_in_facts before i under.header under.entered) refl;
      stamped = stamped setting before s is have (rw same under.now) at.serving;
    }

-- ---- legs

leg_is : (one other : Leg) (facts : PacketFacts) → facts.leg ≡ Some one
    → facts.leg ≡ Some other → one ≡ other
leg_is one other facts p q = some_same facts.leg one other p q

pub seeking_of : (setting : Setting) (journal : List Item) (facts : PacketFacts) (header : Header)
    (version partition : ℕ) → IsPacketOnWay setting journal facts → facts.header ≡ Some header
    → facts.leg ≡ Some (Seek version partition)
    → IsPacketOnLeg setting journal facts header (Seek version partition)
seeking_of setting journal facts header version partition way entered seeks =
    search (rules, some_same, leg_is)

pub exiting_of : (setting : Setting) (journal : List Item) (facts : PacketFacts) (port : ℕ)
    (way : IsPacketOnWay setting journal facts) → facts.leg ≡ Some (Exit port)
    → IsPacketOnLeg setting journal facts way.under_way.header (Exit port)
exiting_of setting journal facts port way exits = search (rules, leg_is)

-- ---- authority rules

-- the rule is the one by which the plan of the version decides the header
pub record Rules (setting : Setting) (before : List Item) (facts : PacketFacts) (header : Header)
    (version : ℕ) (found : MachineAuthorityRule) : Type 0 where
  pub not_retired : facts.mark < version
  pub current : version ≤ journal_current_mark before
  pub planned : IsPlanned setting (machine_policy_at setting before version)
      (journal_plan_at setting before version)
  pub hosted : HostedPolicyPartition
  pub finds : Finds (machine_policy_at setting before version) (journal_plan_at setting before version) header
      hosted
  pub same : found ≡ deciding version finds

rule_is : (o : Option MachineAuthorityRule) (one other : MachineAuthorityRule) → o ≡ Some one → o ≡ Some other
    → one ≡ other
rule_is o one other p q = cc

pub rules_of : (setting : Setting) (before : List Item) (i s version : ℕ) (found : MachineAuthorityRule)
    → IsMachineSetting setting → JournalItemsHaveCauses (HasControlItemCause setting) [] before
    → (here : IsHere setting before i s)
    → ((v p : ℕ) → (packet_facts_of before i).leg ≡ Some (Seek v p)
    → IsSoughtByPacket setting before (packet_facts_of before i).mark here.under.header v p)
    → PacketAuthorityFinds setting before i s version found
    → Rules setting before (packet_facts_of before i) here.under.header version found
rules_of setting before i s version found is have here sought finds = elim finds.says [
  | inl says ↦ let stamp : ℕ = journal_stamp_of before s in
      let own : FindsRule setting before s here.under.header finds.partition finds.place =
      authority_found setting before s here.under.header finds.partition finds.place here.stamped
      here.under.sound (ap (machine_lookup_at setting before s) (sym here.header) ∙ says.answer) in
      let rule = ap (journal_authority_rule setting before stamp finds.partition) own.found_at
      ∙ subst (λ v. journal_authority_rule setting before v finds.partition finds.place ≡ Some found)
      says.stamp finds.rule in
      subst (λ v. Rules setting before (packet_facts_of before i) here.under.header v found)
      (sym says.stamp) (record {
        not_retired = omega (arith, here.under.mark, here.stamped.retired);
        current = here.stamped.current;
        planned = here.stamped.planned;
        hosted = own.part.hosted;
        finds = own.part.finds;
        same = rule_is _ found (deciding stamp own.part.finds) rule (rule_there setting before
            here.under.header own.part.hosted stamp finds.partition own.part.finds own.part.number);
      })
  | inr by ↦ let leg = sought version finds.partition (leg_in before i _ by.seeks) in
      let planned = current_planned _ _ _ is have (omega (arith, leg.not_retired)) leg.current in
      let own = in_plan setting _ _ _ leg.hosted planned here.under.sound leg.own.first in
      let place = by.first ∙ ap (machine_first_rule_place setting before version finds.partition) here.header
      ∙ ap (λ (o : Option HostedPolicyPartition). unwrap_or (option_and_then (λ (p : HostedPolicyPartition). position
      (is_held_by_policy_rule (header_number_of here.under.header)) p.0.rules) o) 0) leg.own.found ∙ own.position in
      record {
        not_retired = leg.not_retired;
        current = leg.current;
        planned = planned;
        hosted = leg.hosted;
        finds = own;
        same = rule_is _ found (deciding version own)
            (ap (journal_authority_rule setting before version finds.partition) (sym place) ∙ finds.rule)
            (rule_there setting before here.under.header leg.hosted version finds.partition own
            leg.own.number);
      }
]
