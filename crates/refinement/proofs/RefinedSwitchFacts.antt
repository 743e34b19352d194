-- What a journal says of a switch, by eight facts of it.
use Rattle.std.proofs.Common.{[], ◌&&◌, ◌++◌, ◌==◌, ◌||◌, ◌∙◌, ◌∷◌, ◌≡◌, ◌≤◌, Bool, List, Option, ap, arith, eq-eqb, eqb-true, false, filter, filter_map, find, fold, if◌then◌else◌, is_some, length, map, max, nat_le, nat_lt, not, refl, slice_set, subst, sym, true, ℕ}
use Rattle.base.proofs.Exports.{⊤, AllByRecursion, each_append, filter_same_on, list_any, nat_tests, or-false, or_assoc, or_left, or_right}
use Rattle.update_machine.specs.Exports.{Advert, Body, Collect, Install, Item, Setting, Tables, journal_adverts_known, journal_boot_of, journal_cache_of, message_collects_version, machine_greatest_stamp_number, journal_handled_count, heard, holds_version, machine_body_installs_version, is_up, near, machine_advert_of_other, own_advert, journal_own_advert_sent, journal_own_seq, serves, machine_version_to_stamp_with, journal_stamp_of, machine_switches_of, journal_tables_at}
use Rattle.failover.specs.Exports.{adverts_after_hearing_all, first_adverts, no_adverts}
use Rattle.net_file.specs.Exports.{links_of}
use Rattle.switch_core.specs.Exports.{SwitchValue}
use Rattle.switch_table.specs.Exports.{CacheValue}
use Rattle.update_machine.proofs.Exports.{first_plan_stays}
use Rattle.refinement.specs.Exports.{refined_collect_in, refined_switch_of, refined_tables_in, refined_with_tables}

pub record SwitchFacts : Type 0 where
  pub boot : ℕ
  pub up : Bool
  pub serving : Bool
  -- what it heard in its boot
  pub bodies : List Body
  pub cache : CacheValue
  pub seq : ℕ
  -- its usable links, as a mask
  pub links : ℕ
  pub handled : ℕ

abbrev pub facts_of : Setting → List Item → ℕ → SwitchFacts
facts_of setting journal s = record {
  boot = journal_boot_of journal s;
  up = is_up journal s;
  serving = serves journal s;
  bodies = heard journal s;
  cache = journal_cache_of setting journal s;
  seq = journal_own_seq setting journal s;
  links = near setting journal s;
  handled = journal_handled_count journal s;
}

-- ---- what follows from what was heard, in the first boot or in a later one

abbrev pub stamp_by : Bool → List Body → ℕ
stamp_by first bodies = machine_greatest_stamp_number ((if first then 1 ∷ [] else [])
    ++ filter_map machine_version_to_stamp_with bodies)

abbrev pub collected_by : List Body → ℕ
collected_by bodies = machine_greatest_stamp_number (filter_map refined_collect_in bodies)

-- all tables that came, the first ones among them
abbrev pub all_by : Tables → Bool → List Body → List Tables
all_by tables first bodies =
    fold refined_with_tables (if first then tables ∷ [] else []) (filter_map refined_tables_in bodies)

abbrev pub came_by : Bool → List Body → ℕ → Bool
came_by first bodies v = list_any (machine_body_installs_version v) bodies || (v == 1 && first)

abbrev pub tables_by : Tables → Bool → List Body → List Tables
tables_by tables first bodies = filter (λ tables. came_by first bodies tables.version
    && not (list_any (message_collects_version tables.version) bodies)) (all_by tables first bodies)

-- the adverts of others
abbrev pub others_by : Setting → ℕ → Bool → List Body → List (Option Advert)
others_by setting s first bodies = adverts_after_hearing_all (if first
    then first_adverts (map (links_of setting.net.links) (machine_switches_of setting))
    (length setting.net.switches) else no_adverts) (filter_map (machine_advert_of_other s) bodies)

-- ---- the record

abbrev pub told_by_facts : ℕ → SwitchFacts → Advert
told_by_facts s w = record { origin = s; boot = w.boot; seq = w.seq; up = w.links }

-- the switch that has these facts, stamp, collect mark, tables and adverts of others
abbrev pub filled : ℕ → SwitchFacts → ℕ → ℕ → List Tables → List (Option Advert) → SwitchValue
filled s w stamp collected tables others = record {
  number = s;
  boot = w.boot;
  is_up = w.up;
  is_open = w.serving;
  stamp = stamp;
  collected = collected;
  tables = tables;
  cache = w.cache;
  database = slice_set others s (journal_own_advert_sent (told_by_facts s w));
  seq = w.seq;
  handled = w.handled;
}

abbrev pub first_tables : Setting → ℕ → Tables
first_tables setting s = journal_tables_at setting [] 1 s

-- in the first boot or in a later one
abbrev pub switch_in : Setting → ℕ → SwitchFacts → Bool → SwitchValue
switch_in setting s w first = filled s w (stamp_by first w.bodies) (collected_by w.bodies)
    (tables_by (first_tables setting s) first w.bodies) (others_by setting s first w.bodies)

abbrev pub switch_by : Setting → ℕ → SwitchFacts → SwitchValue
switch_by setting s w = switch_in setting s w (w.up && w.boot == 1)

-- the switch is what its facts say
pub switch_is : (setting : Setting) (journal : List Item) (s : ℕ)
    → refined_switch_of setting journal s ≡ switch_by setting s (facts_of setting journal s)
unfolding refined_switch_of journal_stamp_of holds_version journal_adverts_known own_advert
switch_is setting journal s = rw (first_plan_stays setting journal) refl

pub by_facts : (setting : Setting) (after : List Item) (s : ℕ) (w : SwitchFacts)
    → facts_of setting after s ≡ w → refined_switch_of setting after s ≡ switch_by setting s w
by_facts setting after s w is = cc (switch_is setting after s, is)

-- ---- single parts

pub boot_shown : (setting : Setting) (journal : List Item) (s : ℕ)
    → journal_boot_of journal s ≡ (refined_switch_of setting journal s).boot
unfolding refined_switch_of
boot_shown setting journal s = refl

pub number_shown : (setting : Setting) (journal : List Item) (s : ℕ)
    → (refined_switch_of setting journal s).number ≡ s
unfolding refined_switch_of
number_shown setting journal s = refl

pub seq_shown : (setting : Setting) (journal : List Item) (s : ℕ)
    → journal_own_seq setting journal s ≡ (refined_switch_of setting journal s).seq
unfolding refined_switch_of
seq_shown setting journal s = refl

pub advert_of : (setting : Setting) (journal : List Item) (s : ℕ) → own_advert setting journal s
    ≡ record {
      origin = s;
      boot = journal_boot_of journal s;
      seq = journal_own_seq setting journal s;
      up = near setting journal s;
    }
unfolding own_advert
advert_of setting journal s = refl

pub stamp_shown : (setting : Setting) (journal : List Item) (s : ℕ)
    → (refined_switch_of setting journal s).stamp ≡ journal_stamp_of journal s
unfolding refined_switch_of
stamp_shown setting journal s = refl

-- ---- the tables that a switch holds are those that came and are above its collect mark

-- tables that a body brings have a version from 1 on
abbrev pub IsVersioned : Body → Type 0
IsVersioned (Install boot tables) = 1 ≤ tables.version
IsVersioned _ = ⊤

abbrev pub AreVersioned : List Body → Type 0
AreVersioned bodies = AllByRecursion IsVersioned bodies

-- of these tables those of a version above the mark
abbrev pub above : ℕ → List Tables → List Tables
above mark all = filter (λ tables. nat_lt mark tables.version) all

-- ---- the collect mark

le_max : (v k c : ℕ) → nat_le v (max k c) ≡ (nat_le v k || nat_le v c)
le_max v k c = grind (arith, nat_tests)

collected_from : (v k : ℕ) (bodies : List Body)
    → (nat_le v k || list_any (message_collects_version v) bodies)
    ≡ nat_le v (fold max k (filter_map refined_collect_in bodies))
collected_from v k [] = or-false (nat_le v k)
collected_from v k (Collect boot c ∷ bodies) =
    sym (or_assoc (nat_le v k) (nat_le v c) (list_any (message_collects_version v) bodies))
    ∙ ap (λ b. b || list_any (message_collects_version v) bodies) (sym (le_max v k c))
    ∙ collected_from v (max k c) bodies
collected_from v k (_ ∷ bodies) = collected_from v k bodies

none_le : (v : ℕ) → 1 ≤ v → nat_le v 0 ≡ false
none_le v one = grind (arith, nat_tests)

-- a version is collected exactly if it isn't above the mark
collected_is : (v : ℕ) (bodies : List Body) → 1 ≤ v
    → list_any (message_collects_version v) bodies ≡ nat_le v (collected_by bodies)
collected_is v bodies one = cc (none_le v one, collected_from v 0 bodies)

not_le : (v mark : ℕ) → not (nat_le v mark) ≡ nat_lt mark v
not_le v mark = grind (arith, nat_tests)

-- ---- the versions that came

abbrev HasCome : Bool → List Body → Tables → Type 0
HasCome first bodies tables = (came_by first bodies tables.version ≡ true) × (1 ≤ tables.version)

pub with_each : (P : Tables → Type 0) (all more : List Tables) → AllByRecursion P all
    → AllByRecursion P more → AllByRecursion P (fold refined_with_tables all more)
with_each P all [] have brought = have
with_each P all (tables ∷ more) have brought = with_each P (refined_with_tables all tables) more
    (by_test (list_any (λ other. other.version == tables.version) all)) brought.1
  where
    by_test : (b : Bool) → AllByRecursion P (if b then all else all ++ tables ∷ [])
    by_test true = have
    by_test false = each_append P all (tables ∷ []) have (brought.0, tt)

-- of these bodies, all of which came
brought_each : (first : Bool) (all bodies : List Body)
    → ((v : ℕ) → list_any (machine_body_installs_version v) bodies ≡ true → list_any (machine_body_installs_version v) all
    ≡ true) → AreVersioned bodies → AllByRecursion (HasCome first all) (filter_map refined_tables_in bodies)
brought_each first all [] among versioned = tt
brought_each first all (Install boot tables ∷ bodies) among versioned =
    let v : ℕ = tables.version in (
      (
        or_left (list_any (machine_body_installs_version v) all) (v == 1 && first)
            (among v (or_left (v == v) (list_any (machine_body_installs_version v) bodies) (eq-eqb v v refl))),
        versioned.0,
      ),
      brought_each first all bodies
          (λ w there. among w (or_right (v == w) (list_any (machine_body_installs_version w) bodies) there))
          versioned.1,
    )
brought_each first all (_ ∷ bodies) among versioned =
    brought_each first all bodies among versioned.1

all_came : (tables : Tables) (first : Bool) (bodies : List Body) → tables.version ≡ 1
    → AreVersioned bodies → AllByRecursion (HasCome first bodies) (all_by tables first bodies)
all_came tables first bodies one versioned = with_each (HasCome first bodies)
    (if first then tables ∷ [] else []) (filter_map refined_tables_in bodies) (begun first refl)
    (brought_each first bodies bodies (λ v there. there) versioned)
  where
    begun : (b : Bool) → first ≡ b
        → AllByRecursion (HasCome first bodies) (if b then tables ∷ [] else [])
    begun true is = (
      (
        or_right (list_any (machine_body_installs_version tables.version) bodies) (tables.version == 1 && first)
            (rw (one, is) refl),
        omega (arith, one),
      ),
      tt,
    )
    begun false is = tt

-- ---- together

pub tables_are : (tables : Tables) (first : Bool) (bodies : List Body) → tables.version ≡ 1
    → AreVersioned bodies
    → tables_by tables first bodies ≡ above (collected_by bodies) (all_by tables first bodies)
tables_are tables first bodies one versioned = filter_same_on (HasCome first bodies)
    (λ tables. came_by first bodies tables.version
    && not (list_any (message_collects_version tables.version) bodies))
    (λ tables. nat_lt (collected_by bodies) tables.version)
    (λ each come. ap (λ b. b && not (list_any (message_collects_version each.version) bodies)) come.0
    ∙ ap not (collected_is each.version bodies come.1) ∙ not_le each.version (collected_by bodies))
    (all_by tables first bodies) (all_came tables first bodies one versioned)

-- ---- tables above a mark

-- a version above it is among them exactly if it came
pub found_above : (mark v : ℕ) → nat_lt mark v ≡ true → (all : List Tables)
    → is_some (find (λ tables. tables.version == v) (above mark all))
    ≡ list_any (λ other. other.version == v) all
found_above mark v over [] = refl
found_above mark v over (tables ∷ all) = by_test (found_above mark v over all) (tables.version == v)
    refl (nat_lt mark tables.version) refl
  where
    by_test : is_some (find (λ tables. tables.version == v) (above mark all))
        ≡ list_any (λ other. other.version == v) all
        → (same : Bool) → (tables.version == v) ≡ same → (b : Bool) → nat_lt mark tables.version ≡ b
        → is_some (find (λ tables. tables.version == v) (if b then tables ∷ above mark all
        else above mark all)) ≡ (same || list_any (λ other. other.version == v) all)
    by_test rest true is true e = rw is refl
    by_test rest true is false e = let v_is : tables.version ≡ v = eqb-true tables.version v is in
        absurd (cc (subst (λ w. nat_lt mark w ≡ false) v_is e))
    by_test rest false is true e = rw is rest
    by_test rest false is false e = rest

pub above_more : (mark : ℕ) (all : List Tables) (tables : Tables) → above mark (all ++ tables ∷ [])
    ≡ above mark all ++ (if nat_lt mark tables.version then tables ∷ [] else [])
above_more mark [] tables = refl
above_more mark (first ∷ all) tables =
    by_test (above_more mark all tables) (nat_lt mark first.version)
  where
    by_test : above mark (all ++ tables ∷ []) ≡ above mark all
        ++ (if nat_lt mark tables.version then tables ∷ [] else []) → (b : Bool)
        → (if b then first ∷ above mark (all ++ tables ∷ []) else above mark (all ++ tables ∷ []))
        ≡ (if b then first ∷ above mark all else above mark all)
        ++ (if nat_lt mark tables.version then tables ∷ [] else [])
    by_test same true = ap (λ rest. first ∷ rest) same
    by_test same false = same

-- those above a greater mark, of those above a mark
pub above_twice : (mark other : ℕ) (all : List Tables)
    → above (max mark other) (above mark all) ≡ above (max mark other) all
above_twice mark other [] = refl
above_twice mark other (tables ∷ all) = by_test (above_twice mark other all)
    (nat_lt mark tables.version) refl (nat_lt (max mark other) tables.version) refl
  where
    more : ℕ
    more = max mark other

    by_test : above more (above mark all) ≡ above more all
        → (b : Bool) → nat_lt mark tables.version ≡ b → (c : Bool) → nat_lt more tables.version ≡ c
        → above more (if b then tables ∷ above mark all else above mark all)
        ≡ (if c then tables ∷ above more all else above more all)
    by_test rest true is true e = rw e (ap (λ all. tables ∷ all) rest)
    by_test rest true is false e = rw e rest
    by_test rest false is true e = absurd (grind (arith, nat_tests))
    by_test rest false is false e = rest
