-- The files, policies and plans of versions: what more items make of them, and their numbers.
use Rattle.std.proofs.Common.{[], ◌++◌, ◌+◌, ◌-◌, ◌<◌, ◌==◌, ◌↔◌, ◌∙◌, ◌∷◌, ◌≡◌, ◌≢◌, ◌≤◌, ◌⊎◌, Bool, Err, IsFalse, IsOk, IsTrue, List, None, Ok, Option, Result, Some, ap, arith, eq-eqb, false, if◌then◌else◌, inl, inr, is_some, length, length-append, option_and_then, option_to_list, refl, slice_get, subst, suc, sym, true, unwrap_or, zero, ℕ}
use Rattle.base.proofs.Exports.{cases_eq, nat_tests, option_map_or, option_or, result_ok}
use Rattle.partition.specs.Plan.{HostedPolicyPartition}
use Rattle.policy_rules.specs.Exports.{NoPolicyPlan}
use Rattle.update_machine.specs.Exports.{MachineVersionHasPlan, IsMachineSetting, Item, Machine, JournalPoliciesKeep, Row, Setting, MachineTakes, JournalVersionsAreNumbered, Whole, machine_file_at, journal_version_file, journal_first_given, first_machine, machine_item_gives_file, machine_hosted_or_none, is_journal_submission, is_journal_version, machine_policy_made_by, journal_next_policy, journal_plan_at, machine_policy_at, machine_policy_by, machine_policy_in, machine_submitted_policy, journal_version_count}
use Rattle.update_machine.proofs.JournalBlockNumbers.{count_of_append, first_given_append}
use Rattle.update_machine.proofs.JournalSilentLinks.{policies_keep, policy_by_files}

-- ---- files

-- the file of a version is the one that the first items give it, or else later ones
pub file_append : (before items : List Item) (v : ℕ)
    → journal_version_file (before ++ items) v ≡ option_or (journal_version_file before v) (journal_version_file items v)
unfolding journal_version_file
file_append before items v = by_test (v == 1) where
  by_test : (b : Bool) → (if b then Some 1 else journal_first_given (machine_item_gives_file v) (before ++ items))
      ≡ option_or (if b then Some 1 else journal_first_given (machine_item_gives_file v) before)
      (if b then Some 1 else journal_first_given (machine_item_gives_file v) items)
  by_test true = refl
  by_test false = first_given_append (machine_item_gives_file v) before items

pub file_kept : (before items : List Item) (v : ℕ) → IsTrue (is_journal_version before v)
    → journal_version_file (before ++ items) v ≡ journal_version_file before v
file_kept before items v there = file_append before items v
    ∙ first_stays (journal_version_file before v) (journal_version_file items v) there
  where
    first_stays : (o p : Option ℕ) → IsTrue (is_some o) → option_or o p ≡ o
    first_stays (Some file) p there = refl
    first_stays None p there = absurd cc

pub version_kept : (before items : List Item) (v : ℕ) → IsTrue (is_journal_version before v)
    → IsTrue (is_journal_version (before ++ items) v)
version_kept before items v there = ap is_some (file_kept before items v there) ∙ there

-- ---- policies and plans

-- the versions up to the count keep their policies, where all of them are there
pub policy_in_stays : (setting : Setting) (before items : List Item) (v : ℕ)
    → JournalVersionsAreNumbered before → v ≤ journal_version_count before
    → machine_policy_in setting (before ++ items) v ≡ machine_policy_in setting before v
policy_in_stays setting before items v are below = policy_by_files setting (before ++ items) before
    v (λ k first last. file_kept before items k ((are k).1 (first, omega (arith, last, below))))

pub policy_stays : (setting : Setting) (before items : List Item) (v : ℕ)
    → JournalVersionsAreNumbered before → v ≤ journal_version_count before
    → machine_policy_at setting (before ++ items) v ≡ machine_policy_at setting before v
unfolding machine_policy_at
policy_stays setting before items v are below =
    ap (λ o. unwrap_or o []) (policy_in_stays setting before items v are below)

pub plan_stays : (setting : Setting) (before items : List Item) (v : ℕ) → JournalVersionsAreNumbered before
    → v ≤ journal_version_count before → journal_plan_at setting (before ++ items) v ≡ journal_plan_at setting before v
unfolding journal_plan_at
plan_stays setting before items v are below = cc (policy_in_stays setting before items v are below)

pub of_its_policy : (setting : Setting) (journal : List Item) (v : ℕ) (rows : List Row)
    → machine_policy_in setting journal v ≡ Some rows → (machine_policy_at setting journal v ≡ rows)
    × (journal_plan_at setting journal v ≡ machine_hosted_or_none (setting.plan rows))
unfolding machine_policy_at journal_plan_at
of_its_policy setting journal v rows is = (
  ap (λ o. unwrap_or o []) is,
  ap (λ o. option_map_or (λ these. machine_hosted_or_none (setting.plan these)) o []) is,
)

-- ---- numbers

pub count_submitted : (journal : List Item) (file version : ℕ)
    → journal_version_count (journal ++ Item.Submitted file version ∷ []) ≡ journal_version_count journal + 1
unfolding journal_version_count
count_submitted journal file version =
    rw (count_of_append is_journal_submission journal (Item.Submitted file version ∷ [])) (omega arith)

-- the next version is there, and no other is new
pub submitted_more : (journal : List Item) (file version : ℕ)
    → version ≡ journal_version_count journal + 1 → JournalVersionsAreNumbered journal
    → JournalVersionsAreNumbered (journal ++ Item.Submitted file version ∷ [])
unfolding journal_version_file
submitted_more journal file version next are v = rw (file_append, count_submitted)
    (by (journal_version_file journal v) (are v))
  where
    by : (o : Option ℕ) → (IsTrue (is_some o) ↔ ((1 ≤ v) × (v ≤ journal_version_count journal)))
        → IsTrue (is_some (option_or o (journal_version_file (Item.Submitted file version ∷ []) v))) ↔
        ((1 ≤ v) × (v ≤ journal_version_count journal + 1))
    by (Some earlier) known = let low = known.0 refl in
        (λ there. (omega (arith, low), omega (arith, low)), λ within. refl)
    by None known = (λ there. grind (arith, nat_tests), λ within. grind (arith, nat_tests))

pub other_more : (journal : List Item) (item : Item) → IsFalse (is_journal_submission item)
    → JournalVersionsAreNumbered journal → JournalVersionsAreNumbered (journal ++ item ∷ [])
other_more journal item apart are v =
    let keep = policies_keep journal (item ∷ []) (apart, tt) in rw (keep.file v, keep.count) (are v)

pub numbered_at_first : JournalVersionsAreNumbered []
unfolding journal_version_file journal_version_count
numbered_at_first v = grind (arith, nat_tests)

-- ---- what has a plan

has_plan : (setting : Setting) (journal : List Item) (v : ℕ) (rows : List Row)
    (plan : List HostedPolicyPartition) → machine_policy_in setting journal v ≡ Some rows → setting.plan rows ≡ Ok plan
    → MachineVersionHasPlan setting journal v
has_plan setting journal v rows plan policy planned =
    let own = of_its_policy setting journal v rows policy in record {
      policy = policy ∙ ap Some (sym own.0);
      plan = ap setting.plan own.0 ∙ planned ∙ ap Ok (sym (own.1 ∙ ap machine_hosted_or_none planned));
    }

-- a policy that has some plan
planned_of : (setting : Setting) (journal : List Item) (v : ℕ) (rows : List Row)
    → machine_policy_in setting journal v ≡ Some rows → IsOk (setting.plan rows) → MachineVersionHasPlan setting journal v
planned_of setting journal v rows policy = by_plan (setting.plan rows) refl where
  by_plan : (plan : Result (List HostedPolicyPartition) NoPolicyPlan) → setting.plan rows ≡ plan → IsOk plan
      → MachineVersionHasPlan setting journal v
  by_plan (Err why) is ok = absurd cc
  by_plan (Ok plan) is ok = has_plan setting journal v rows plan policy is

pub has_plan_stays : (setting : Setting) (before items : List Item) (v : ℕ)
    → JournalVersionsAreNumbered before → v ≤ journal_version_count before
    → MachineVersionHasPlan setting before v → MachineVersionHasPlan setting (before ++ items) v
has_plan_stays setting before items v are below has =
    has_plan setting (before ++ items) v (machine_policy_at setting before v) (journal_plan_at setting before v)
    (policy_in_stays setting before items v are below ∙ has.policy) has.plan

-- ---- the first version

first_counted : 1 ≤ journal_version_count []
unfolding journal_version_count
first_counted = omega arith

-- the first version has one policy and one plan in all journals
pub first_policy_stays : (setting : Setting) (journal : List Item)
    → machine_policy_at setting journal 1 ≡ machine_policy_at setting [] 1
first_policy_stays setting journal =
    policy_stays setting [] journal 1 numbered_at_first first_counted

pub first_plan_stays : (setting : Setting) (journal : List Item)
    → journal_plan_at setting journal 1 ≡ journal_plan_at setting [] 1
first_plan_stays setting journal = plan_stays setting [] journal 1 numbered_at_first first_counted

pub first_has_plan : (setting : Setting) (journal : List Item) → MachineVersionHasPlan setting [] 1
    → MachineVersionHasPlan setting journal 1
first_has_plan setting journal has =
    has_plan_stays setting [] journal 1 numbered_at_first first_counted has

-- its policy is that of the first file
pub first_in : (setting : Setting) (journal : List Item) (rows : List Row)
    → machine_file_at setting 1 ≡ Some (Whole rows) → machine_policy_in setting journal 1 ≡ Some rows
unfolding machine_policy_in journal_version_file
first_in setting journal rows whole = ap (λ file. result_ok (machine_policy_made_by file None)) whole

pub first_is : (setting : Setting) (journal : List Item) (rows : List Row)
    → machine_file_at setting 1 ≡ Some (Whole rows) → (machine_policy_at setting journal 1 ≡ rows)
    × (journal_plan_at setting journal 1 ≡ machine_hosted_or_none (setting.plan rows))
first_is setting journal rows whole =
    of_its_policy setting journal 1 rows (first_in setting journal rows whole)

pub begins_planned : (setting : Setting) → IsMachineSetting setting → MachineVersionHasPlan setting [] 1
begins_planned setting is =
    planned_of setting [] 1 is.first (first_in setting [] is.first is.whole) is.planned

-- ---- the version that is submitted

alone : (file version : ℕ) → 2 ≤ version
    → journal_version_file (Item.Submitted file version ∷ []) version ≡ Some file
unfolding journal_version_file
alone file version many = let other : (version == 1) ≡ false = grind (arith, nat_tests) in
    rw (other, eq-eqb version version refl) refl

first_there : (journal : List Item) → IsTrue (is_journal_version journal 1)
unfolding journal_version_file
first_there journal = refl

pub count_above : (journal : List Item) → JournalVersionsAreNumbered journal → 1 ≤ journal_version_count journal
count_above journal are = ((are 1).0 (first_there journal)).1

pub next_file : (journal : List Item) (file version : ℕ) → JournalVersionsAreNumbered journal
    → version ≡ journal_version_count journal + 1
    → journal_version_file (journal ++ Item.Submitted file version ∷ []) version ≡ Some file
next_file journal file version are next =
    file_append journal (Item.Submitted file version ∷ []) version
    ∙ by_old (journal_version_file journal version) refl
  where
    own : journal_version_file (Item.Submitted file version ∷ []) version ≡ Some file
    own = alone file version (omega (arith, next, count_above journal are))

    by_old : (o : Option ℕ) → journal_version_file journal version ≡ o
        → option_or o (journal_version_file (Item.Submitted file version ∷ []) version) ≡ Some file
    by_old None e = own
    by_old (Some old) e = absurd (omega (arith, ((are version).0 (rw e refl)).1, next))

-- what its file makes of the policy of the newest version
pub next_made : (setting : Setting) (journal : List Item) (file version : ℕ)
    → JournalVersionsAreNumbered journal → version ≡ journal_version_count journal + 1
    → machine_policy_in setting (journal ++ Item.Submitted file version ∷ []) version
    ≡ result_ok (journal_next_policy setting journal file)
unfolding machine_policy_in journal_next_policy
next_made setting journal file zero are next = absurd (omega (arith, next))
next_made setting journal file (suc newest) are next =
    let after : List Item = journal ++ Item.Submitted file (suc newest) ∷ [] in
    let same : newest ≡ journal_version_count journal = omega (arith, next) in
    ap (option_and_then (λ f. result_ok (machine_policy_by setting (machine_policy_in setting after newest) f)))
    (next_file journal file (suc newest) are next)
    ∙ ap (λ o. result_ok (machine_policy_by setting o file))
    (policy_in_stays setting journal (Item.Submitted file (suc newest) ∷ []) newest are
    (omega (arith, same)) ∙ ap (machine_policy_in setting journal) same)

pub next_policy_in : (setting : Setting) (journal : List Item) (file version : ℕ)
    (rows : List Row) → JournalVersionsAreNumbered journal → version ≡ journal_version_count journal + 1
    → journal_next_policy setting journal file ≡ Ok rows
    → machine_policy_in setting (journal ++ Item.Submitted file version ∷ []) version ≡ Some rows
next_policy_in setting journal file version rows are next policy =
    next_made setting journal file version are next ∙ ap result_ok policy

-- it has the next policy, and its plan
pub next_is : (setting : Setting) (journal : List Item) (file version : ℕ) (rows : List Row)
    → JournalVersionsAreNumbered journal
    → version ≡ journal_version_count journal + 1 → journal_next_policy setting journal file ≡ Ok rows
    → (machine_policy_at setting (journal ++ Item.Submitted file version ∷ []) version ≡ rows) × (journal_plan_at
    setting (journal ++ Item.Submitted file version ∷ []) version ≡ machine_hosted_or_none (setting.plan rows))
next_is setting journal file version rows are next policy =
    of_its_policy setting (journal ++ Item.Submitted file version ∷ []) version rows
    (next_policy_in setting journal file version rows are next policy)

pub next_has_plan : (setting : Setting) (journal : List Item) (file version : ℕ) (rows : List Row)
    → JournalVersionsAreNumbered journal → version ≡ journal_version_count journal + 1
    → journal_next_policy setting journal file ≡ Ok rows → IsOk (setting.plan rows)
    → MachineVersionHasPlan setting (journal ++ Item.Submitted file version ∷ []) version
next_has_plan setting journal file version rows are next policy planned =
    planned_of setting (journal ++ Item.Submitted file version ∷ []) version rows
    (next_policy_in setting journal file version rows are next policy) planned

-- ---- partitions

-- a version with a partition is there
pub part_there : (setting : Setting) (journal : List Item) (version partition : ℕ)
    (hosted : HostedPolicyPartition) → slice_get (journal_plan_at setting journal version) partition ≡ Some hosted
    → IsTrue (is_journal_version journal version)
unfolding journal_plan_at machine_policy_in
part_there setting journal zero partition hosted is = absurd cc
part_there setting journal (suc version) partition hosted is =
    by_file (journal_version_file journal (suc version)) is
  where
    by_file : (o : Option ℕ)
        → slice_get (option_map_or (λ rows. machine_hosted_or_none (setting.plan rows)) (option_and_then (λ file.
        result_ok (machine_policy_by setting (machine_policy_in setting journal version) file)) o) []) partition
        ≡ Some hosted → IsTrue (is_some o)
    by_file None is = absurd cc
    by_file (Some file) is = refl

-- ---- the policies of the machine are those of the versions

-- as many as there are versions, and of each its own
pub record ArePolicies (setting : Setting) (policies : List (List Row)) (journal : List Item)
    : Type 0 where
  pub count : length policies ≡ journal_version_count journal
  pub each : (v : ℕ) → 1 ≤ v → v ≤ journal_version_count journal
      → slice_get policies (v - 1) ≡ machine_policy_in setting journal v

-- the machine begins with the first one
pub policies_begin : (setting : Setting) → IsMachineSetting setting
    → ArePolicies setting (first_machine setting).policies []
unfolding journal_version_count
policies_begin setting is = subst (λ policies. ArePolicies setting policies []) (sym begun) (record {
  count = refl;
  each = λ v above below. let first : v ≡ 1 = omega (arith, above, below) in
      ap (λ k. slice_get (is.first ∷ []) (k - 1)) first
      ∙ sym (first_in setting [] is.first is.whole) ∙ ap (machine_policy_in setting []) (sym first);
})
  where
    begun : (first_machine setting).policies ≡ is.first ∷ []
    begun = ap (λ file. option_to_list (result_ok (machine_policy_made_by file None))) is.whole

pub policies_stay : (setting : Setting) (policies : List (List Row)) (before after : List Item)
    → JournalPoliciesKeep before after → ArePolicies setting policies before
    → ArePolicies setting policies after
policies_stay setting policies before after keep are = record {
  count = are.count ∙ sym keep.count;
  each = λ v above below. are.each v above (rw keep.count at below) ∙ sym (keep.rows setting v);
}

-- each version has its policy there
pub policy_there : (setting : Setting) (policies : List (List Row)) (journal : List Item)
    (v : ℕ) → ArePolicies setting policies journal → 1 ≤ v → v ≤ journal_version_count journal
    → slice_get policies (v - 1) ≡ Some (machine_policy_at setting journal v)
unfolding machine_policy_at
policy_there setting policies journal v are above below = some_there policies (v - 1)
    (omega (arith, above, below, are.count)) (machine_policy_in setting journal v) (are.each v above below)
  where
    some_there : (policies : List (List Row)) (k : ℕ) → k < length policies
        → (o : Option (List Row)) → slice_get policies k ≡ o
        → slice_get policies k ≡ Some (unwrap_or o [])
    some_there policies k within (Some rows) is = is
    some_there [] k within None is = absurd (omega (arith, within))
    some_there (rows ∷ policies) zero within None is = absurd cc
    some_there (rows ∷ policies) (suc k) within None is =
        some_there policies k (omega (arith, within)) None is

snoc_old : (xs : List (List Row)) (x : List Row) (k : ℕ) → k < length xs
    → slice_get (xs ++ x ∷ []) k ≡ slice_get xs k
snoc_old [] x k within = absurd (omega (arith, within))
snoc_old (y ∷ xs) x zero within = refl
snoc_old (y ∷ xs) x (suc k) within = snoc_old xs x k (omega (arith, within))

snoc_new : (xs : List (List Row)) (x : List Row) → slice_get (xs ++ x ∷ []) (length xs) ≡ Some x
snoc_new [] x = refl
snoc_new (y ∷ xs) x = snoc_new xs x

-- the newest one is that of the newest version
newest_is : (setting : Setting) (machine : Machine) (journal : List Item)
    → ArePolicies setting machine.policies journal → 1 ≤ journal_version_count journal
    → machine_submitted_policy machine (length machine.policies)
    ≡ machine_policy_in setting journal (journal_version_count journal)
newest_is setting machine journal are some =
    cc (are.count, are.each (journal_version_count journal) some (omega arith))

-- the machine takes a submission, and gains the policy of the next version
pub record TakesVersion (setting : Setting) (machine : Machine) (journal : List Item)
    (file version : ℕ) (rows : List Row) : Type 0 where
  pub takes : MachineTakes setting machine (Item.Submitted file version)
      (record machine { policies = machine.policies ++ rows ∷ [] })
  pub own : ArePolicies setting (machine.policies ++ rows ∷ [])
      (journal ++ Item.Submitted file version ∷ [])

pub takes_version : (setting : Setting) (machine : Machine) (journal : List Item)
    (file version : ℕ) (rows : List Row) → JournalVersionsAreNumbered journal
    → ArePolicies setting machine.policies journal → version ≡ journal_version_count journal + 1
    → journal_next_policy setting journal file ≡ Ok rows
    → TakesVersion setting machine journal file version rows
unfolding journal_next_policy
takes_version setting machine journal file version rows numbers are next made = record {
  takes = record {
    policy = rows;
    there = cc (newest_is setting machine journal are (count_above journal numbers), made);
    newest = next ∙ omega (arith, are.count);
    after = refl;
  };
  own = record {
    count = length-append machine.policies (rows ∷ []) ∙ omega (arith, are.count, count_submitted);
    each = λ v above below. by_version v above below (cases_eq v version);
  };
} where
  after : List Item
  after = journal ++ Item.Submitted file version ∷ []

  by_version : (v : ℕ) → 1 ≤ v → v ≤ journal_version_count after → (v ≡ version) ⊎ (v ≢ version)
      → slice_get (machine.policies ++ rows ∷ []) (v - 1) ≡ machine_policy_in setting after v
  by_version v above below (inl same) =
      let place : v - 1 ≡ length machine.policies = omega (arith, same, next, are.count) in
      ap (slice_get (machine.policies ++ rows ∷ [])) place ∙ snoc_new machine.policies rows
      ∙ sym (next_policy_in setting journal file version rows numbers next made)
      ∙ ap (λ n. machine_policy_in setting after n) (sym same)
  by_version v above below (inr apart) =
      let old : v ≤ journal_version_count journal = omega (arith, count_submitted) in
      snoc_old machine.policies rows (v - 1) (omega (arith, above, old, are.count))
      ∙ are.each v above old
      ∙ sym (policy_in_stays setting journal (Item.Submitted file version ∷ []) v numbers old)
