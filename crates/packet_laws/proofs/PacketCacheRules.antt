-- The cache rule of the rule by which a partition of a plan decides a header is right: the policy
-- decides each header of its word so.
use Rattle.std.proofs.Common.{[], ◌&&◌, ◌++◌, ◌<◌, ◌==◌, ◌^◌, ◌||◌, ◌∙◌, ◌∷◌, ◌≡◌, ◌≤◌, ◌⊎◌, All, Bool, Contains, IsNone, IsSomeAnd, IsTrue, List, None, Option, Some, ap, arith, cond, drop, eqb-true, false, find, if◌then◌else◌, inl, inr, length, map, mod-eq_of_lt, nat_le, nat_lt, option_map, refl, slice_get, subst, suc, sym, take, true, zero, ℕ, rules}
use Rattle.update_machine.specs.Exports.{Action, Body, CacheEntry, CacheRule, Exit, MachineVersionHasPlan, JournalItemsHaveCauses, Header, Hit, IsMachineSetting, Item, Leg, OpenAt, Partition, Row, Rule, Seek, Setting, Stamp, JournalVersionsAreNumbered, journal_body_to_switch, machine_cache_after, journal_cache_of, machine_cache_carried_from, changes_journal_cache, journal_current_mark, journal_plan_at, machine_policy_at, machine_policy_in, machine_cache_raised_from, journal_retired_mark, journal_stamp_of, machine_touched_by, journal_version_count}
use Rattle.policy_rules.specs.Exports.{IsFirstPolicyMatch, first_policy_rule, policy_hit_of_rule, is_held_by_policy_rule, is_in_policy_partition, scan}
use Rattle.policy_rules.proofs.PolicyRulesCallerLemmas.{first_match-only, first_match-scan, none_from_not_some}
use Rattle.update_machine.proofs.Exports.{folded_append, plan_stays, policy_stays, touched_apart, versions_own}
use Rattle.base.proofs.Exports.{All-append, All-contains, All-drop, All-filter, All-push, All-tail, All-take, All-weaker, and_mask, get_or_from_slice_get, list_any, option_map_or, same_Some, slice_get-map, slice_get_within}
use Rattle.cache_maker.specs.Independent.{IsIndependentCacheWord, is_cache_word_independent, widen, widening_of}
use Rattle.cache_maker.proofs.IndependentCacheWords.{test_true}
use Rattle.five_tuple.specs.Exports.{IsHeader, header_number_of}
use Rattle.switch_table.specs.Exports.{CacheValue, HostedPolicyPartition, WasCacheEntryCarried, cache_after_carry, cache_after_raise, cache_word_meets_touched, newest_cache_entries, switch_table_part_of, same_cache_key}
use Rattle.ternary.specs.Exports.{WordValue, word_covers_of, exact_word, ternary_with_bit_freed, holds, word_meet_of}
use Rattle.ternary.proofs.TernaryCallerLemmas.{covers_held, meet_disjoint}
use Rattle.packet_laws.proofs.PacketHeaderLookups.{Finds, IsPlanned}
use Rattle.switch_table.proofs.CacheCarryLemmas.{only_carried}
use Rattle.packet_laws.specs.Exports.{HasKeptPacketFacts, IsPacketOnLeg, IsPacketOnWay, IsPacketPartitionOf, IsRightPacketCacheEntry, IsRightPacketRule, IsPacketRightlyDecided, IsSoughtByPacket, IsToldToStampPackets, IsPacketUnderWay, PacketFacts, PacketStage}
use Rattle.control_laws.specs.Exports.{HasControlItemCause}
use Rattle.control_laws.proofs.Exports.{bounded, caused_numbered, current_rises, retired_rises}

-- ---- first matches, and what scans of policies find

-- what a scan finds is the first match
pub first_match_by_scan : (rows : List Row) (header : Header) (hit : Hit) → scan rows header ≡ hit
    → IsFirstPolicyMatch rows header hit
first_match_by_scan rows header hit is = rw is at (first_match-scan rows header)

-- and the first match under a version is what a scan of its policy finds
pub scan_of_version : (setting : Setting) (journal : List Item) (version : ℕ) (header : Header)
    (hit : Hit) → IsMachineSetting setting → IsFirstPolicyMatch (machine_policy_at setting journal version) header hit
    → scan (machine_policy_at setting journal version) header ≡ hit
scan_of_version setting journal version header hit is first =
    search (rules, first_match-only, versions_own)

-- ---- cache rules

-- ---- headers of a word

-- the rule that covers a word, which no earlier rule meets, is the first to hold what it holds
first_found : (rules : List Rule) (index : ℕ) (rule : Rule) (word : WordValue) (number : ℕ)
    → slice_get rules index ≡ Some rule → IsTrue (word_covers_of rule.word word)
    → All (λ earlier. IsNone (word_meet_of word earlier.word)) (take index rules) →
    IsTrue (holds word number) → find (is_held_by_policy_rule number) rules ≡ Some rule
first_found [] index rule word number at covered earlier held = absurd cc
first_found (first ∷ rules) zero rule word number at covered earlier held =
    let here : holds rule.word number ≡ true = covers_held rule.word word number covered held in
    let same : rule ≡ first = cc in
    ap (λ b. cond b (Some first) (find (is_held_by_policy_rule number) rules))
    (ap (is_held_by_policy_rule number) (sym same) ∙ here) ∙ ap Some (sym same)
first_found (first ∷ rules) (suc index) rule word number at covered earlier held =
    let apart = sym (ap (λ b. b && holds first.word number) held) ∙ meet_disjoint word first.word
    number (none_from_not_some (word_meet_of word first.word) (earlier 0 first (omega arith))) in
    ap (λ b. cond b (Some first) (find (is_held_by_policy_rule number) rules)) apart
    ∙ first_found rules index rule word number at covered
    (All-tail (λ later. IsNone (word_meet_of word later.word)) first (take index rules) earlier) held

exact_number : (number other : ℕ) → number < 2 ^ 104 → other < 2 ^ 104
    → IsTrue (holds (exact_word number) other) → other ≡ number
unfolding holds
exact_number number other bound fits held = search (rules, and_mask, mod-eq_of_lt, eqb-true)

number_bound : (header : Header) → IsHeader header → header_number_of header < 2 ^ 104
number_bound header sound = search rules

-- ---- headers of a partition

-- the first rule of a partition of a plan decides each header of its region
region_decides : (setting : Setting) (rows : List Row) (plan : List HostedPolicyPartition)
    (number : ℕ) (hosted : HostedPolicyPartition) (header : Header) → IsPlanned setting rows plan → IsHeader header
    → slice_get plan number ≡ Some hosted → IsTrue (is_in_policy_partition header (switch_table_part_of hosted))
    → option_map policy_hit_of_rule (first_policy_rule hosted.0.rules header) ≡ Some (scan rows header)
region_decides setting rows plan number hosted header is sound at =
    let parts : List Partition = map switch_table_part_of plan in
    let there = slice_get-map switch_table_part_of plan number ∙ ap (option_map switch_table_part_of) at in
    subst (λ (p : Partition). IsTrue (is_in_policy_partition header p)
    → option_map policy_hit_of_rule (first_policy_rule p.rules header) ≡ Some (scan rows header))
    (get_or_from_slice_get parts number (switch_table_part_of hosted) (switch_table_part_of hosted) there)
    (is.parts.sound.decides header sound number (switch_table_part_of hosted)
    (slice_get_within parts number (switch_table_part_of hosted) there))

-- the policy decides each header of the word by this rule
abbrev Settles : List Row → Rule → WordValue → Type 0
Settles rows rule word = (header : Header) → IsHeader header
    → IsTrue (holds word (header_number_of header)) → scan rows header ≡ policy_hit_of_rule rule

exact_settles : (setting : Setting) (rows : List Row) (plan : List HostedPolicyPartition) (header : Header)
    (hosted : HostedPolicyPartition) (finds : Finds rows plan header hosted) → IsPlanned setting rows plan → IsHeader header
    → Settles rows finds.rule (exact_word (header_number_of header))
exact_settles setting rows plan header hosted finds is sound other fits held =
    let same = exact_number _ _ (number_bound header sound) (number_bound other fits) held in
    same_Some _ _ (sym (region_decides setting rows plan hosted.0.number hosted other is fits finds.at
    (subst (λ n. IsTrue (holds hosted.0.region n)) (sym same) finds.holds))
    ∙ ap (λ n. option_map policy_hit_of_rule (find (is_held_by_policy_rule n) hosted.0.rules)) same
    ∙ region_decides setting rows plan hosted.0.number hosted header is sound finds.at finds.holds)
    ∙ sym finds.decides

independent_settles : (setting : Setting) (rows : List Row) (plan : List HostedPolicyPartition) (header : Header)
    (hosted : HostedPolicyPartition) (finds : Finds rows plan header hosted) (word : WordValue) → IsPlanned setting rows plan
    → IsIndependentCacheWord hosted.0.region hosted.0.rules finds.place word →
    Settles rows finds.rule word
independent_settles setting rows plan header hosted finds word is apart other fits held =
    let first = first_found hosted.0.rules finds.place finds.rule word (header_number_of other) finds.ruled
    (subst (λ o. IsSomeAnd o (λ (rule : Rule). IsTrue (word_covers_of rule.word word))) finds.ruled
    apart.in_rule) apart.earlier held in
    same_Some _ _ (sym (region_decides setting rows plan _ hosted other is fits finds.at
    (covers_held hosted.0.region word _ apart.in_region held)) ∙ ap (option_map policy_hit_of_rule) first)

-- each bit is freed where that keeps the word independent
widened_settles : (setting : Setting) (rows : List Row) (plan : List HostedPolicyPartition) (header : Header)
    (hosted : HostedPolicyPartition) (finds : Finds rows plan header hosted) (n : ℕ) → IsPlanned setting rows plan → IsHeader header
    → Settles rows finds.rule
    (widening_of (header_number_of header) hosted.0.region hosted.0.rules finds.place n)
unfolding widening_of
widened_settles setting rows plan header hosted finds zero is sound = search (rules, exact_settles)
widened_settles setting rows plan header hosted finds (suc n) is sound =
    by_test (is_cache_word_independent hosted.0.region hosted.0.rules finds.place (ternary_with_bit_freed before n)) refl
    (widened_settles setting rows plan header hosted finds n is sound)
  where
    before : WordValue
    before = widening_of (header_number_of header) hosted.0.region hosted.0.rules finds.place n

    by_test : (b : Bool) → is_cache_word_independent hosted.0.region hosted.0.rules finds.place
        (ternary_with_bit_freed before n) ≡ b → Settles rows finds.rule before
        → Settles rows finds.rule (if b then ternary_with_bit_freed before n else before)
    by_test true independent settled = independent_settles setting rows plan header hosted finds _
        is (test_true hosted.0.region hosted.0.rules finds.place (ternary_with_bit_freed before n) independent)
    by_test false other settled = settled

-- ---- the cache rule

pub cache_rule_right : (setting : Setting) (rows : List Row) (plan : List HostedPolicyPartition)
    (header : Header) (hosted : HostedPolicyPartition) (finds : Finds rows plan header hosted)
    → IsPlanned setting rows plan → IsHeader header
    → Settles rows finds.rule (widen (header_number_of header) hosted.0.region hosted.0.rules finds.place)
unfolding widen
cache_rule_right setting rows plan header hosted finds is sound = search (rules, widened_settles)

-- ---- cache rules that are carried to a version decide as its policy does

module _ (setting : Setting) (before : List Item) (version : ℕ) (cache : CacheValue)
    (is : IsMachineSetting setting) (has : MachineVersionHasPlan setting before version)
    (current : version ≤ journal_current_mark before)
    (all : All (IsRightPacketCacheEntry setting before) cache.entries) where
  abbrev touched : List WordValue
  touched = machine_touched_by setting before version

  there : (old : CacheEntry) → Contains cache.entries old → IsRightPacketCacheEntry setting before old
  there old inside = All-contains (IsRightPacketCacheEntry setting before) cache.entries old all inside

  -- an entry of the version before whose word meets no touched word
  over : (entry : CacheEntry) → WasCacheEntryCarried version touched cache entry
      → IsRightPacketCacheEntry setting before entry
  over entry went =
      let old = went.old in
      let next : suc old.version ≡ version = omega (arith, went.before) in
      let apart = subst (λ v. cache_word_meets_touched (machine_touched_by setting before v) old.word ≡ false) (sym next)
      went.apart in
      subst (IsRightPacketCacheEntry setting before) (sym went.is) (record {
        known = omega (arith, went.before);
        current = current;
        decides = λ header sound held. first_match_by_scan (machine_policy_at setting before version) header
            _ (subst (λ v. scan (machine_policy_at setting before v) header ≡ scan (machine_policy_at setting before
            old.version) header) next (touched_apart setting before old.version old.word header is
            (subst (λ v. machine_policy_in setting before v ≡ Some (machine_policy_at setting before v)) (sym next)
            has.policy) apart sound held) ∙ scan_of_version setting before old.version header
            (record { rule = old.rule; action = old.action }) is
            ((there old went.there).decides header sound held));
      })

  each : (entry : CacheEntry) → ((version ≤ entry.version) × Contains cache.entries entry)
      ⊎ WasCacheEntryCarried version touched cache entry → IsRightPacketCacheEntry setting before entry
  each entry (inl stays) = there entry stays.1
  each entry (inr went) = over entry went

  pub carried_right : All (IsRightPacketCacheEntry setting before) (cache_after_carry version touched cache).entries
  carried_right = All-weaker (λ entry. ((version ≤ entry.version) × Contains cache.entries entry)
      ⊎ WasCacheEntryCarried version touched cache entry) (IsRightPacketCacheEntry setting before) each _
      (only_carried version touched cache)

-- ---- what is known of packets and of cache rules is known behind one more item, too

-- marks rise, and the versions that are current or were keep their policies and plans
pub record Grows (setting : Setting) (before after : List Item) : Type 0 where
  pub retired : journal_retired_mark before ≤ journal_retired_mark after
  pub current : journal_current_mark before ≤ journal_current_mark after
  pub policy : (v : ℕ) → 1 ≤ v → v ≤ journal_current_mark before
      → machine_policy_at setting after v ≡ machine_policy_at setting before v
  pub plan : (v : ℕ) → 1 ≤ v → v ≤ journal_current_mark before
      → journal_plan_at setting after v ≡ journal_plan_at setting before v

pub grows : (setting : Setting) (before : List Item) (next : Item)
    → JournalItemsHaveCauses (HasControlItemCause setting) [] before → HasControlItemCause setting before next
    → Grows setting before (before ++ next ∷ [])
grows setting before next have cause = record {
  retired = retired_rises setting before next cause;
  current = current_rises setting before next cause;
  policy = λ v above below. policy_stays setting before (next ∷ []) v numbers (there v below);
  plan = λ v above below. plan_stays setting before (next ∷ []) v numbers (there v below);
} where
  numbers : JournalVersionsAreNumbered before
  numbers = caused_numbered setting before have

  there : (v : ℕ) → v ≤ journal_current_mark before → v ≤ journal_version_count before
  there v below = omega (arith, below, (bounded setting before have).there)

pub right_on : (setting : Setting) (before after : List Item) (version : ℕ) (word : WordValue)
    (rule : Option ℕ) (action : Action) → Grows setting before after
    → IsRightPacketRule setting before version word rule action
    → IsRightPacketRule setting after version word rule action
right_on setting before after version word rule action grow right = search rules

part_on : (setting : Setting) (before after : List Item) (header : Header)
    (version partition : ℕ) (hosted : HostedPolicyPartition) → Grows setting before after → 1 ≤ version
    → version ≤ journal_current_mark before
    → IsPacketPartitionOf setting before header version partition hosted
    → IsPacketPartitionOf setting after header version partition hosted
part_on setting before after header version partition hosted grow above below own = search rules

sought_on : (setting : Setting) (before after : List Item) (mark : ℕ) (header : Header)
    (version partition : ℕ) → Grows setting before after
    → IsSoughtByPacket setting before mark header version partition
    → IsSoughtByPacket setting after mark header version partition
sought_on setting before after mark header version partition grow sought = record {
  not_retired = sought.not_retired;
  current = omega (arith, sought.current, grow.current);
  hosted = sought.hosted;
  own = part_on _ _ _ _ _ _ _ grow (omega (arith, sought.not_retired)) sought.current sought.own;
}

leg_on : (setting : Setting) (before after : List Item) (facts : PacketFacts) (header : Header)
    (leg : Leg) → Grows setting before after → IsPacketOnLeg setting before facts header leg
    → IsPacketOnLeg setting after facts header leg
unfolding sought_on
leg_on setting before after facts header (Seek version partition) grow on = record {
  undecided = on.undecided;
  sought = sought_on setting before after facts.mark header version partition grow on.sought;
  leads = on.leads;
}
leg_on setting before after facts header (Exit port) grow on = on

under_on : (setting : Setting) (before after : List Item) (facts : PacketFacts) → Grows setting
    before after → IsPacketUnderWay setting before facts → IsPacketUnderWay setting after facts
under_on setting before after facts grow under = record {
  entry = under.entry;
  place = under.place;
  mark = omega (arith, under.mark, grow.retired);
}

way_on : (setting : Setting) (before after : List Item) (facts : PacketFacts)
    → Grows setting before after → IsPacketOnWay setting before facts → IsPacketOnWay setting after facts
unfolding under_on
way_on setting before after facts grow way = record {
  under_way = under_on setting before after facts grow way.under_way;
  leg = way.leg;
  takes = way.takes;
  on_leg = leg_on setting before after facts way.under_way.header way.leg grow way.on_leg;
  stands = way.stands;
}

judged_on : (setting : Setting) (before after : List Item) (facts : PacketFacts)
    (header : Header) → Grows setting before after → IsPacketRightlyDecided setting before facts header
    → IsPacketRightlyDecided setting after facts header
judged_on setting before after facts header grow judged = record {
  decision = judged.decision;
  decided = judged.decided;
  not_retired = judged.not_retired;
  current = omega (arith, judged.current, grow.current);
  first_match = ap (λ rows. scan rows header)
      (grow.policy judged.decision.version (omega (arith, judged.not_retired)) judged.current)
      ∙ judged.first_match;
  named = judged.named;
  sought = λ version partition takes. sought_on setting before after facts.mark header version
      partition grow (judged.sought version partition takes);
}

pub kept_on : (setting : Setting) (before after : List Item) (facts : PacketFacts)
    (stage : Option PacketStage) → Grows setting before after → HasKeptPacketFacts setting before facts stage
    → HasKeptPacketFacts setting after facts stage
kept_on setting before after facts stage grow kept = record {
  under_way = λ travels. under_on setting before after facts grow (kept.under_way travels);
  came_in = kept.came_in;
  judged = λ travels is header entered.
      judged_on setting before after facts header grow (kept.judged travels is header entered);
  on_way = λ travels is. way_on setting before after facts grow (kept.on_way travels is);
  avoids = kept.avoids;
}

-- ---- what is true of each cache rule that was said to a switch is true of each entry of its cache

-- the entry of a cache rule
abbrev pub entry_of : ℕ → ℕ → WordValue → Option ℕ → Action → CacheEntry
entry_of number version word rule action = record {
  version = version;
  word = word;
  rule = rule;
  action = action;
  message = number;
}

abbrev Holds : (CacheEntry → Type 0) → CacheValue → Type 0
Holds P cache = All P cache.entries

newest_holds : (P : CacheEntry → Type 0) (capacity : ℕ) (entries : List CacheEntry)
    → All P entries → All P (newest_cache_entries capacity entries)
newest_holds P capacity entries all = by_room (nat_lt capacity (length entries)) where
  by_room : (b : Bool) → All P (if b then drop 1 entries else entries)
  by_room true = All-drop P 1 entries all
  by_room false = all

raised_holds : (P : CacheEntry → Type 0) (earlier stamp : ℕ) (cache : CacheValue)
    → Holds P cache → Holds P (machine_cache_raised_from earlier stamp cache)
raised_holds P earlier stamp cache all = by_test (nat_lt earlier stamp) where
  by_test : (b : Bool) → Holds P (if b then cache_after_raise stamp cache else cache)
  by_test true = All-filter (λ entry. nat_le stamp entry.version) P cache.entries all
  by_test false = all

-- what is true of a cache's entries is true of what is left of them when it is carried
abbrev pub IsCarried : (CacheEntry → Type 0) → ℕ → List WordValue → Type 0
IsCarried P version touched = (cache : CacheValue) → All P cache.entries
    → All P (cache_after_carry version touched cache).entries

carried_holds : (P : CacheEntry → Type 0) (touched : List WordValue) (earlier version : ℕ)
    (cache : CacheValue) → IsCarried P version touched → Holds P cache
    → Holds P (machine_cache_carried_from touched earlier version cache)
carried_holds P touched earlier version cache carries all = search rules

-- the stamps that the switch is told of carry it
abbrev pub StampsCarry : (CacheEntry → Type 0) → Setting → List Item → ℕ → Type 0
StampsCarry P setting before s = (number boot version : ℕ) (touched : List WordValue)
    → IsToldToStampPackets before s number boot version touched
    → IsCarried P version (machine_touched_by setting before version)

-- and the cache rules that are said to it bring it
abbrev pub RulesBring : (CacheEntry → Type 0) → List Item → ℕ → Type 0
RulesBring P before s = (number version : ℕ) (word : WordValue) (rule : Option ℕ) (action : Action)
    → journal_body_to_switch before s number ≡ Some (CacheRule version word rule action)
    → P (entry_of number version word rule action)

told_holds : (P : CacheEntry → Type 0) (setting : Setting) (s : ℕ) (before : List Item)
    (stamp number : ℕ) (cache : CacheValue) (body : Body) → journal_body_to_switch before s number
    ≡ Some body → StampsCarry P setting before s → RulesBring P before s → Holds P cache
    → Holds P (machine_cache_after (machine_touched_by setting before) (journal_stamp_of before s) stamp number cache body)
told_holds P setting s before stamp number cache (CacheRule version word rule action) said carries
    brings all = by_test (nat_lt version stamp
    || list_any (same_cache_key (entry_of number version word rule action)) cache.entries)
  where
    by_test : (b : Bool) → Holds P (if b then cache else record cache {
      entries = newest_cache_entries cache.capacity (cache.entries
          ++ entry_of number version word rule action ∷ []);
    })
    by_test true = all
    by_test false = newest_holds P cache.capacity _
        (All-push P cache.entries (entry_of number version word rule action) all
        (brings number version word rule action said))
told_holds P setting s before stamp number cache (OpenAt boot version) said carries brings all =
    raised_holds P (journal_stamp_of before s) stamp cache all
told_holds P setting s before stamp number cache (Stamp boot version touched) said carries brings
    all = search (rules, carried_holds)
told_holds P setting s before stamp number cache _ said carries brings all = all

changed_holds : (P : CacheEntry → Type 0) (setting : Setting) (s : ℕ) (before : List Item)
    (cache : CacheValue) (next : Item) → StampsCarry P setting before s → RulesBring P before s
    → Holds P cache → Holds P (changes_journal_cache setting s before cache next)
changed_holds P setting s before cache (Item.Down switch) carries brings all = search rules
changed_holds P setting s before cache (Item.Booted switch boot) carries brings all = search rules
changed_holds P setting s before cache (Item.Expired switch place message) carries brings all =
    by_switch (switch == s)
  where
    by_switch : (b : Bool) → Holds P (if b then record cache {
      entries = take place cache.entries ++ drop (suc place) cache.entries;
    } else cache)
    by_switch true = All-append P (take place cache.entries) (drop (suc place) cache.entries)
        (All-take P place cache.entries all) (All-drop P (suc place) cache.entries all)
    by_switch false = all
changed_holds P setting s before cache (Item.Delivered number) carries brings all = by_said _ refl
  where
    by_said : (o : Option Body) → journal_body_to_switch before s number ≡ o → Holds P (option_map_or
        (machine_cache_after (machine_touched_by setting before) (journal_stamp_of before s)
        (journal_stamp_of (before ++ Item.Delivered number ∷ []) s) number cache) o cache)
    by_said None e = all
    by_said (Some body) e = told_holds P setting s before _ number cache body e carries brings all
changed_holds P setting s before cache _ carries brings all = all

pub cache_holds : (P : CacheEntry → Type 0) (setting : Setting) (s : ℕ) (before : List Item)
    (next : Item) → StampsCarry P setting before s → RulesBring P before s
    → All P (journal_cache_of setting before s).entries
    → All P (journal_cache_of setting (before ++ next ∷ []) s).entries
unfolding journal_cache_of
cache_holds P setting s before next carries brings all = rw (folded_append (changes_journal_cache setting s)
    _ before (next ∷ [])) (changed_holds P setting s before _ next carries brings all)
