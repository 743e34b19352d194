-- What a switch has and knows is what the journal says.
use Rattle.std.proofs.Common.{[], ◌&&◌, ◌++◌, ◌-◌, ◌<◌, ◌==◌, ◌^◌, ◌||◌, ◌∙◌, ◌∷◌, ◌≡◌, ◌≤◌, All, Bool, IfSome, IsSomeAnd, IsTrue, List, None, Option, Some, ap, arith, eq-eqb, eqb-true, false, filter, filter_map, find, fold, get_or, if◌then◌else◌, is_some, length, map, not, refl, slice_get, subst, sym, true, unwrap_or, ℕ}
use Rattle.base.proofs.Exports.{All-contains, All-from_recursion, AllByRecursion, and_parts, any_passes_from_place, each_kept, find-there, get_or-map, length-map, list_any, list_any-append, nat_tests, or-false, or_assoc, or_comm, recursion_from_All, slice_get-get_or}
use Rattle.update_machine.specs.Exports.{Body, Exit, Header, Install, Item, Leg, Partition, Row, Seek, Setting, Tables, journal_boot_of, message_collects_version, heard, holds_version as holds_in, machine_body_installs_version, is_cut_off_in_journal, is_up, machine_lookup_at, journal_message_of, journal_plan_at, machine_policy_at, journal_route_from, serves as serves_in, journal_stamp_of, journal_tables_at, machine_message_to_switch, journal_version_count}
use Rattle.partition.specs.Plan.{IsPartitionPlan}
use Rattle.switch_core.specs.Exports.{CanSwitchLookUp, MaySwitchEndLeg, IsSoundSwitchBody, SwitchValue, switch_held_tables, holds_version, no_switch_tables, switch_own_partition, serves}
use Rattle.switch_table.specs.Exports.{AreSoundSwitchTables, HostedPolicyPartition, switch_table_part_has_target, switch_table_lookup_of, switch_table_part_of, tables_of}
use Rattle.switch_table.proofs.SwitchTableLemmas.{tables_are_sound}
use Rattle.update_machine.proofs.Exports.{begins_planned, first_plan_stays, version_is_planned}
use Rattle.control_laws.specs.Exports.{ControlMessageBringsPlannedTables, ControlLegEndsAt, ControlServingHoldVersions}
use Rattle.refinement.specs.Exports.{KnowledgeRefines, RefinementRequirementsHold, RefinementTablesAreKnown, refined_switch_of, refined_tables_in, refined_with_tables}
use Rattle.refinement.proofs.RefinedSwitchFacts.{all_by, came_by, first_tables, stamp_shown, switch_is, with_each}
use Rattle.policy_rules.specs.Exports.{ArePolicyPartitionsNumbered, is_in_policy_partition}
use Rattle.switch_core.proofs.SwitchLaws.{heard_keeps}

-- ---- which versions it has

abbrev of_version : ℕ → Tables → Bool
of_version v tables = tables.version == v

-- one more, where there is none of its version
with_one : (v : ℕ) (all : List Tables) (tables : Tables) → list_any (of_version v)
    (refined_with_tables all tables) ≡ (list_any (of_version v) all || (tables.version == v))
with_one v all tables =
    by_there (list_any (of_version tables.version) all) refl (tables.version == v) refl
  where
    by_there : (there : Bool) → list_any (of_version tables.version) all ≡ there → (same : Bool)
        → (tables.version == v) ≡ same → list_any (of_version v)
        (if there then all else all ++ tables ∷ []) ≡ (list_any (of_version v) all || same)
    by_there true is true e =
        rw (subst (λ w. list_any (of_version w) all ≡ true) (eqb-true tables.version v e) is) refl
    by_there true is false e = sym (or-false (list_any (of_version v) all))
    by_there false is same e =
        cc (list_any-append (of_version v) all (tables ∷ []), or-false (tables.version == v), e)

came_as : (v : ℕ) (all : List Tables) (bodies : List Body)
    → list_any (of_version v) (fold refined_with_tables all (filter_map refined_tables_in bodies))
    ≡ (list_any (of_version v) all || list_any (machine_body_installs_version v) bodies)
came_as v all [] = sym (or-false (list_any (of_version v) all))
came_as v all (Install boot tables ∷ bodies) = came_as v (refined_with_tables all tables) bodies
    ∙ ap (λ b. b || list_any (machine_body_installs_version v) bodies) (with_one v all tables)
    ∙ or_assoc (list_any (of_version v) all) (tables.version == v)
    (list_any (machine_body_installs_version v) bodies)
came_as v all (_ ∷ bodies) = came_as v all bodies

all_came : (tables : Tables) (first : Bool) (bodies : List Body) (v : ℕ) → tables.version ≡ 1
    → list_any (of_version v) (all_by tables first bodies) ≡ came_by first bodies v
all_came tables first bodies v one = came_as v (if first then tables ∷ [] else []) bodies
    ∙ or_comm (list_any (of_version v) (if first then tables ∷ [] else []))
    (list_any (machine_body_installs_version v) bodies)
    ∙ ap (λ b. list_any (machine_body_installs_version v) bodies || b) (begun first)
  where
    begun : (b : Bool) → list_any (of_version v) (if b then tables ∷ [] else []) ≡ (v == 1 && b)
    begun true = or-false (tables.version == v) ∙ turned where
      turned : (tables.version == v) ≡ (v == 1 && true)
      turned = rw one (grind (arith, nat_tests))
    begun false = none (v == 1) where
      none : (b : Bool) → false ≡ (b && false)
      none true = refl
      none false = refl

-- of tables whose versions pass a test
found_in : (p : ℕ → Bool) (v : ℕ) (all : List Tables)
    → is_some (find (of_version v) (filter (λ tables. p tables.version) all))
    ≡ (list_any (of_version v) all && p v)
found_in p v [] = refl
found_in p v (tables ∷ all) =
    by_test (found_in p v all) (tables.version == v) refl (p tables.version) refl
  where
    kept : List Tables
    kept = filter (λ tables. p tables.version) all

    rest : Bool
    rest = list_any (of_version v) all

    none : (b : Bool) → (b && false) ≡ false
    none true = refl
    none false = refl

    by_test : is_some (find (of_version v) kept) ≡ (rest && p v)
        → (same : Bool) → (tables.version == v) ≡ same → (b : Bool) → p tables.version ≡ b → is_some
        (find (of_version v) (if b then tables ∷ kept else kept)) ≡ ((same || rest) && p v)
    by_test found true is true e = rw (is, rw (eqb-true tables.version v is) at e) refl
    by_test found true is false e = found ∙ rw (rw (eqb-true tables.version v is) at e) (none rest)
    by_test found false is true e = rw is found
    by_test found false is false e = found

twice : (a b : Bool) → (a && (a && b)) ≡ (a && b)
twice true b = refl
twice false b = refl

holds_facts : (journal : List Item) (s v : ℕ) → holds_in journal s v
    ≡ (came_by (is_up journal s && journal_boot_of journal s == 1) (heard journal s) v
    && not (list_any (message_collects_version v) (heard journal s)))
unfolding holds_in
holds_facts journal s v = refl

pub held_shown : (setting : Setting) (journal : List Item) (s v : ℕ)
    → holds_version (refined_switch_of setting journal s) v ≡ holds_in journal s v
held_shown setting journal s v =
    let first : Bool = is_up journal s && journal_boot_of journal s == 1 in
    let bodies : List Body = heard journal s in
    let kept : ℕ → Bool = λ u. came_by first bodies u
    && not (list_any (message_collects_version u) bodies) in
    ap (λ (switch : SwitchValue). holds_version switch v) (switch_is setting journal s)
    ∙ found_in kept v (all_by (first_tables setting s) first bodies)
    ∙ ap (λ b. b && kept v) (all_came (first_tables setting s) first bodies v refl)
    ∙ twice (came_by first bodies v) (not (list_any (message_collects_version v) bodies))
    ∙ sym (holds_facts journal s v)

-- ---- plans

pub record IsOfPlan (setting : Setting) (journal : List Item) (version : ℕ) : Type 0 where
  pub rows : List Row
  pub plan : IsPartitionPlan rows setting.net (journal_plan_at setting journal version)

pub planned : (setting : Setting) (journal : List Item) (version : ℕ)
    → RefinementTablesAreKnown setting journal → 1 ≤ version → version ≤ journal_version_count journal
    → IsOfPlan setting journal version
planned setting journal version known first last = record {
  rows = machine_policy_at setting journal version;
  plan = version_is_planned setting journal version known.sound
      (known.versions.planned (begins_planned setting known.sound) version first last);
}

pub tables_sound : (setting : Setting) (journal : List Item) (version s : ℕ)
    → RefinementTablesAreKnown setting journal → 1 ≤ version → version ≤ journal_version_count journal
    → AreSoundSwitchTables (journal_tables_at setting journal version s)
tables_sound setting journal version s known first last =
    let of = planned setting journal version known first last in
    let plan : List HostedPolicyPartition = journal_plan_at setting journal version in
    let few : length plan < 2 ^ 32 = omega (arith, of.plan.few) in
    let few_rules : All (λ hosted. length hosted.0.rules < 2 ^ 32) plan =
    λ k d within. omega (arith, of.plan.leaves k d within, known.sound.net.leaf_rules) in
    tables_are_sound of.rows plan version s of.plan.sound of.plan.ended few few_rules

-- ---- the tables of a version

-- tables as they are planned for the switch
record IsPlanned (setting : Setting) (journal : List Item) (s : ℕ) (tables : Tables) : Type 0 where
  first : 1 ≤ tables.version
  last : tables.version ≤ journal_version_count journal
  planned : tables ≡ journal_tables_at setting journal tables.version s

brought : (setting : Setting) (journal : List Item) (s : ℕ) (bodies : List Body)
    → AllByRecursion (ControlMessageBringsPlannedTables setting journal s) bodies
    → AllByRecursion (IsPlanned setting journal s) (filter_map refined_tables_in bodies)
brought setting journal s [] all = tt
brought setting journal s (Install boot tables ∷ bodies) all = (
  record { first = all.0.first; last = all.0.last; planned = all.0.planned },
  brought setting journal s bodies all.1,
)
brought setting journal s (_ ∷ bodies) all = brought setting journal s bodies all.1

first_planned : (setting : Setting) (journal : List Item) (s : ℕ)
    → IsPlanned setting journal s (first_tables setting s)
unfolding journal_version_count
first_planned setting journal s = record {
  first = omega arith;
  last = omega arith;
  planned = sym (ap (λ plan. tables_of plan 1 s) (first_plan_stays setting journal));
}

all_planned : (setting : Setting) (journal : List Item) (s : ℕ) → RefinementTablesAreKnown setting journal
    → All (IsPlanned setting journal s) (refined_switch_of setting journal s).tables
all_planned setting journal s known =
    let bodies : List Body = heard journal s in
    let first : Bool = is_up journal s && journal_boot_of journal s == 1 in
    let P : Tables → Type 0 = IsPlanned setting journal s in
    subst (All P) (sym (ap (λ (switch : SwitchValue). switch.tables) (switch_is setting journal s)))
    (All-from_recursion P _ (each_kept P (λ tables. came_by first bodies tables.version
    && not (list_any (message_collects_version tables.version) bodies)) (all_by (first_tables setting s)
    first bodies) (with_each P (if first then first_tables setting s ∷ [] else [])
    (filter_map refined_tables_in bodies) (begun first) (brought setting journal s bodies
    (recursion_from_All (ControlMessageBringsPlannedTables setting journal s) bodies (known.tables.heard s))))))
  where
    begun : (b : Bool) → AllByRecursion (IsPlanned setting journal s)
        (if b then first_tables setting s ∷ [] else [])
    begun true = (first_planned setting journal s, tt)
    begun false = tt

-- of a version that it has they are those of the plan
pub planned_tables : (setting : Setting) (journal : List Item) (s version : ℕ) (tables : Tables)
    → RefinementTablesAreKnown setting journal
    → switch_held_tables (refined_switch_of setting journal s) version ≡ Some tables
    → (tables ≡ journal_tables_at setting journal version s) × (1 ≤ version)
    × (version ≤ journal_version_count journal)
planned_tables setting journal s version tables known is =
    let there = find-there (λ (tables : Tables). tables.version == version)
    (refined_switch_of setting journal s).tables tables is in
    let are = All-contains (IsPlanned setting journal s) (refined_switch_of setting journal s).tables tables
    (all_planned setting journal s known) there.0 in
    let v_is : tables.version ≡ version = eqb-true tables.version version there.1 in (
      are.planned ∙ ap (λ v. journal_tables_at setting journal v s) v_is,
      subst (λ v. 1 ≤ v) v_is are.first,
      subst (λ v. v ≤ journal_version_count journal) v_is are.last,
    )

held_are : (setting : Setting) (journal : List Item) (s v : ℕ) → RefinementTablesAreKnown setting journal
    → switch_held_tables (refined_switch_of setting journal s) v
    ≡ (if holds_in journal s v then Some (journal_tables_at setting journal v s) else None)
held_are setting journal s v known =
    by_held (switch_held_tables (refined_switch_of setting journal s) v) refl (held_shown setting journal s v)
  where
    by_held : (o : Option Tables) → switch_held_tables (refined_switch_of setting journal s) v ≡ o
        → is_some (switch_held_tables (refined_switch_of setting journal s) v) ≡ holds_in journal s v
        → o ≡ (if holds_in journal s v then Some (journal_tables_at setting journal v s) else None)
    by_held None is holds = rw (sym holds ∙ ap (λ o. is_some o) is) refl
    by_held (Some tables) is holds =
        let some : holds_in journal s v ≡ true = sym holds ∙ ap (λ o. is_some o) is in
        rw some (ap Some (planned_tables setting journal s v tables known is).0)

-- ---- what it knows

pub knowledge_refines : KnowledgeRefines
unfolding refined_switch_of machine_lookup_at journal_route_from is_cut_off_in_journal
knowledge_refines = record {
  held = held_shown;
  tables = held_are;
  lookup = λ setting journal s header known holds.
      let switch : SwitchValue = refined_switch_of setting journal s in
      ap (λ tables. switch_table_lookup_of switch.cache.entries tables header)
      (ap (λ v. unwrap_or (switch_held_tables switch v) no_switch_tables) (stamp_shown setting journal s)
      ∙ ap (λ o. unwrap_or o no_switch_tables) (held_are setting journal s (journal_stamp_of journal s) known)
      ∙ ap (λ b. unwrap_or (if b then Some (journal_tables_at setting journal (journal_stamp_of journal s) s)
      else None) no_switch_tables) holds);
  route = λ setting journal s targets down. refl;
  cut_off = λ setting journal s target down. refl;
}

-- ---- what the calls of a switch ask of it holds, by the laws of versions, tables, boots and
-- adverts

-- ---- tables

sound_body : (setting : Setting) (journal : List Item) (n s : ℕ) (body : Body)
    → RefinementTablesAreKnown setting journal → journal_message_of journal n ≡ Some (machine_message_to_switch s body)
    → IsSoundSwitchBody body
sound_body setting journal n s (Install boot tables) known sent =
    let are = known.tables.sent s boot n tables sent in
    subst AreSoundSwitchTables (sym are.planned)
    (tables_sound setting journal tables.version s known are.first are.last)
sound_body setting journal n s _ known sent = tt

-- ---- lookups

pub open_shown : (setting : Setting) (journal : List Item) (s : ℕ)
    → serves (refined_switch_of setting journal s) ≡ (is_up journal s && serves_in journal s)
unfolding refined_switch_of
open_shown setting journal s = refl

pub looks_up : (setting : Setting) (journal : List Item) (s : ℕ) → ControlServingHoldVersions setting journal
    → s < length setting.net.switches → CanSwitchLookUp (refined_switch_of setting journal s)
looks_up setting journal s hold there serving =
    let opened : IsTrue (serves_in journal s) =
    (and_parts _ _ (sym (open_shown setting journal s) ∙ serving)).1 in
    subst (λ stamp. IsTrue (holds_version (refined_switch_of setting journal s) stamp))
    (sym (stamp_shown setting journal s))
    (held_shown setting journal s (journal_stamp_of journal s) ∙ (hold s there opened).stamp)

-- ---- at an authority

-- what is true of each partition of the number is true of the switch's own one
own_found : (P : Partition → Type 0) (s partition : ℕ) (plan : List HostedPolicyPartition)
    → AllByRecursion (λ hosted. hosted.0.number ≡ partition → P (switch_table_part_of hosted)) plan
    → list_any (λ hosted. (hosted.0.number == partition) && switch_table_part_has_target s hosted) plan ≡ true
    → IsSomeAnd (find (λ (part : Partition). part.number == partition)
    (map switch_table_part_of (filter (switch_table_part_has_target s) plan))) P
own_found P s partition [] all there = absurd cc
own_found P s partition (hosted ∷ plan) all there = by_test (own_found P s partition plan all.1)
    (hosted.0.number == partition) refl (switch_table_part_has_target s hosted) refl there
  where
    Found : List Partition → Type 0
    Found parts = IsSomeAnd (find (λ (part : Partition). part.number == partition) parts) P

    rest : List Partition
    rest = map switch_table_part_of (filter (switch_table_part_has_target s) plan)

    any : Bool
    any = list_any (λ hosted. (hosted.0.number == partition) && switch_table_part_has_target s hosted) plan

    by_test : (any ≡ true → Found rest) → (own : Bool) → (hosted.0.number == partition) ≡ own
        → (b : Bool) → switch_table_part_has_target s hosted ≡ b → ((own && b) || any) ≡ true → Found (map switch_table_part_of
        (if b then hosted ∷ filter (switch_table_part_has_target s) plan else filter (switch_table_part_has_target s) plan))
    by_test found true is true e there = rw is (all.0 (eqb-true hosted.0.number partition is))
    by_test found true is false e there = found there
    by_test found false is true e there = rw is (found there)
    by_test found false is false e there = found there

-- a partition of this number is the one at its place
one_of_number : (P : Partition → Type 0) (plan : List HostedPolicyPartition) (partition : ℕ) (hosted : HostedPolicyPartition)
    → ArePolicyPartitionsNumbered (map switch_table_part_of plan) → slice_get plan partition ≡ Some hosted
    → P (switch_table_part_of hosted) → All (λ each. each.0.number ≡ partition → P (switch_table_part_of each)) plan
one_of_number P plan partition hosted numbers there holds k d within is =
    let each : HostedPolicyPartition = get_or plan k d in
    let fits : k < length (map switch_table_part_of plan) = omega (arith, within, length-map plan switch_table_part_of) in
    let number : each.0.number ≡ k =
    ap (λ (p : Partition). p.number) (sym (get_or-map switch_table_part_of plan k d (switch_table_part_of d) within))
    ∙ numbers k (switch_table_part_of d) fits in
    let at = ap (slice_get plan) (sym is ∙ number) ∙ slice_get-get_or plan k d within in
    let both : Some hosted ≡ Some each = sym there ∙ at in
    let same : hosted ≡ each = cc in subst (λ one. P (switch_table_part_of one)) same holds

-- so what is true of a partition of a plan is true of the one that a target has by its number
pub own_has : (P : Partition → Type 0) (plan : List HostedPolicyPartition) (s version partition : ℕ)
    (hosted : HostedPolicyPartition) → ArePolicyPartitionsNumbered (map switch_table_part_of plan)
    → slice_get plan partition ≡ Some hosted → hosted.0.number ≡ partition
    → IsTrue (switch_table_part_has_target s hosted) → P (switch_table_part_of hosted)
    → IsSomeAnd (switch_own_partition (tables_of plan version s) partition) P
own_has P plan s version partition hosted numbers there number target holds = own_found P s
    partition plan (recursion_from_All (λ each. each.0.number ≡ partition → P (switch_table_part_of each)) plan
    (one_of_number P plan partition hosted numbers there holds))
    (any_passes_from_place (λ each. (each.0.number == partition) && switch_table_part_has_target s each) plan
    partition hosted there (rw (eq-eqb hosted.0.number partition number) target))

at_leg : (setting : Setting) (journal : List Item) (s : ℕ) (header : Header) (leg : Leg)
    → RefinementTablesAreKnown setting journal → ControlLegEndsAt setting journal s header leg
    → MaySwitchEndLeg (refined_switch_of setting journal s) header leg
at_leg setting journal s header (Exit port) known ends = tt
at_leg setting journal s header (Seek version partition) known sought =
    by_held (switch_held_tables (refined_switch_of setting journal s) version) refl
  where
    plan : List HostedPolicyPartition
    plan = journal_plan_at setting journal version

    own : (rows : List Row) → IsPartitionPlan rows setting.net plan
        → IsSomeAnd (switch_own_partition (tables_of plan version s) partition)
        (λ part. IsTrue (is_in_policy_partition header part))
    own rows holds = own_has (λ part. IsTrue (is_in_policy_partition header part)) plan s version partition
        sought.hosted holds.sound.numbers sought.found sought.number sought.target sought.holds

    by_held : (o : Option Tables) → switch_held_tables (refined_switch_of setting journal s) version ≡ o → IfSome o
        (λ tables. IsSomeAnd (switch_own_partition tables partition) (λ part. IsTrue (is_in_policy_partition header part)))
    by_held None none = tt
    by_held (Some tables) is =
        let are = planned_tables setting journal s version tables known is in
        let of = planned setting journal version known are.1 are.2 in
        subst (λ (t : Tables). IsSomeAnd (switch_own_partition t partition)
        (λ part. IsTrue (is_in_policy_partition header part)))
        (sym are.0) (own of.rows of.plan)

pub requirements_hold : RefinementRequirementsHold
unfolding refined_switch_of
requirements_hold = record {
  hear = sound_body;
  near_changed = λ setting journal s fit there. record {
    now = fit.seqs s there;
    then = λ n body. subst (λ k. k < 2 ^ 32 - 1)
        (sym (ap (λ (s : SwitchValue). s.seq) (heard_keeps (refined_switch_of setting journal s) n body).rest))
        (fit.seqs s there);
  };
  restart = λ setting journal s fit down. record { down = down; boot = fit.boots s };
  enter = looks_up;
  arrive = λ setting journal s header leg known serving hold there opened ends. record {
    serving = open_shown setting journal s ∙ rw (serving.up s opened, opened) refl;
    stamped = looks_up setting journal s hold there;
    authority = at_leg setting journal s header leg known ends;
  };
}
