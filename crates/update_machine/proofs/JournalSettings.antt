-- Settings of policies on a network: when they are sound, what their first version and the next one
-- have, and which code an update has.
use Rattle.std.proofs.Common.{[], ◌++◌, ◌+◌, ◌-◌, ◌==◌, ◌||◌, ◌∙◌, ◌∷◌, ◌≡◌, ◌≤◌, All, Bool, Err, IfSome, IsFalse, IsOk, IsTrue, List, None, Ok, Option, Result, Some, ap, arith, false, if◌then◌else◌, length, nat_lt, ne_eqb, option_and_then, refl, slice_get, subst, suc, sym, true, unwrap_or, zero, ℕ}
use Rattle.base.proofs.Exports.{All-cons, All-nil, get_or_from_slice_get, list_any, nat_tests, result_ok, slice_get_within}
use Rattle.net_file.specs.Exports.{IsNet}
use Rattle.update_machine.specs.Exports.{Change, MachineVersionHasPlan, Header, Inapplicable, IsMachineSetting, Item, NamesMachineSettingPort, Net, PolicyFile, Row, Setting, JournalVersionsAreNumbered, Whole, machine_apply_code, machine_file_at, journal_version_file, machine_hosted_or_none, machine_policy_made_by, machine_marks_code, journal_next_policy, journal_next_touched, journal_plan_at, machine_plan_code, machine_policy_at, machine_policy_by, machine_policy_in, machine_rows_code, machine_setting_of, machine_touched_by, machine_touched_of, machine_update_code, journal_version_count}
use Rattle.partition.specs.Plan.{HostedPolicyPartition, IsPartitionPlan, partition_plan_of}
use Rattle.partition.proofs.PartitionCallerLemmas.{plan_holds}
use Rattle.policy_rules.specs.Exports.{PolicyFileRowsAre, IsPolicy, IsSoundPolicyFile, NoPolicyPlan, policy_change_applied, scan, touched_policy_words}
use Rattle.policy_rules.proofs.PolicyRulesCallerLemmas.{All-additions, All-applied, IsPolicy-applied, scan-apart}
use Rattle.update_machine.proofs.JournalVersionPolicies.{file_kept, first_is, next_file, of_its_policy, policy_in_stays}
use Rattle.five_tuple.specs.Exports.{IsHeader, header_number_of}
use Rattle.switch_table.specs.Exports.{cache_all_touched, cache_few_touched, cache_word_meets_touched}
use Rattle.switch_table.proofs.CacheCarryLemmas.{meets_all}
use Rattle.ternary.specs.Exports.{WordValue, holds, word_meets}

-- ---- the first policy

pub setting_begun : (net : Net) (files : List PolicyFile) (first : List Row) (plan : List HostedPolicyPartition)
    → IsNet net → slice_get files 0 ≡ Some (Whole first) → All IsSoundPolicyFile files
    → All (PolicyFileRowsAre (λ row. NamesMachineSettingPort (machine_setting_of net files) row.action)) files
    → partition_plan_of first net ≡ Ok plan → IsMachineSetting (machine_setting_of net files)
setting_begun net files first plan sound whole given ports is = record {
  net = sound;
  made = refl;
  sound = given;
  ports = ports;
  first = first;
  whole = whole;
  planned = subst IsOk (sym is) refl;
}

-- the first version has the first policy and its plan
pub first_version_is : (net : Net) (files : List PolicyFile) (first : List Row) (plan : List HostedPolicyPartition)
    → slice_get files 0 ≡ Some (Whole first) → partition_plan_of first net ≡ Ok plan
    → (machine_policy_at (machine_setting_of net files) [] 1 ≡ first) × (journal_plan_at (machine_setting_of net files) [] 1 ≡ plan)
first_version_is net files first plan whole is =
    let own = first_is (machine_setting_of net files) [] first whole in (own.0, own.1 ∙ ap machine_hosted_or_none is)

-- in a sound setting it has a plan
pub first_planned : (net : Net) (files : List PolicyFile) (first : List Row)
    → IsMachineSetting (machine_setting_of net files) → slice_get files 0 ≡ Some (Whole first)
    → IsOk (partition_plan_of first net)
first_planned net files first is whole = subst (λ rows. IsOk (partition_plan_of rows net)) same is.planned
  where
    rows_of : Option PolicyFile → List Row
    rows_of (Some (Whole rows)) = rows
    rows_of _ = []

    same : is.first ≡ first
    same = ap rows_of (sym is.whole ∙ whole)

-- ---- policies

abbrev IsOwn : Setting → List Row → Type 0
IsOwn setting rows = IsPolicy rows × All (λ row. NamesMachineSettingPort setting row.action) rows

no_rows_own : (setting : Setting) → IsOwn setting []
no_rows_own setting = (
  record { sound = All-nil _; distinct = λ i j d before within. absurd (omega (arith, within)); few = omega arith },
  All-nil _,
)

-- what a file makes of such a policy, or of none, is one too
own_by : (setting : Setting) (file : Option PolicyFile) (earlier : Option (List Row))
    (rows : List Row) → IfSome file IsSoundPolicyFile
    → IfSome file (PolicyFileRowsAre (λ row. NamesMachineSettingPort setting row.action))
    → IfSome earlier (IsOwn setting) → machine_policy_made_by file earlier ≡ Ok rows → IsOwn setting rows
own_by setting None earlier rows sound ports own made = absurd cc
own_by setting (Some (Whole given)) earlier rows sound ports own made =
    subst (IsOwn setting) (cc made) (sound, ports)
own_by setting (Some (Change edits)) None rows sound ports own made = absurd cc
own_by setting (Some (Change edits)) (Some old) rows sound ports own made = (
  IsPolicy-applied old rows edits own.0 sound made,
  All-applied (λ row. NamesMachineSettingPort setting row.action) old rows edits own.1
      (All-additions (λ row. NamesMachineSettingPort setting row.action) edits ports) made,
)

-- a file of a sound setting
pub file_is_sound : (setting : Setting) → IsMachineSetting setting → (file : ℕ)
    → IfSome (machine_file_at setting file) IsSoundPolicyFile
    × IfSome (machine_file_at setting file) (PolicyFileRowsAre (λ row. NamesMachineSettingPort setting row.action))
file_is_sound setting is file = by_number (file == 0) where
  at_place : (k : ℕ) (o : Option PolicyFile) → slice_get setting.files k ≡ o
      → IfSome o IsSoundPolicyFile × IfSome o (PolicyFileRowsAre (λ row. NamesMachineSettingPort setting row.action))
  at_place k None there = (tt, tt)
  at_place k (Some given) there =
      let within = slice_get_within setting.files k given there in
      let at = get_or_from_slice_get setting.files k given given there in (
        subst IsSoundPolicyFile at (is.sound k given within),
        subst (PolicyFileRowsAre (λ row. NamesMachineSettingPort setting row.action)) at (is.ports k given within),
      )

  by_number : (zero : Bool) → IfSome (if zero then None else slice_get setting.files (file - 1))
      IsSoundPolicyFile × IfSome (if zero then None else slice_get setting.files (file - 1))
      (PolicyFileRowsAre (λ row. NamesMachineSettingPort setting row.action))
  by_number true = (tt, tt)
  by_number false = at_place (file - 1) (slice_get setting.files (file - 1)) refl

-- each version's policy is one, and names ports of the network alone
own_in : (setting : Setting) (journal : List Item) → IsMachineSetting setting → (version : ℕ)
    → IfSome (machine_policy_in setting journal version) (IsOwn setting)
unfolding machine_policy_in
own_in setting journal is zero = tt
own_in setting journal is (suc version) =
    by_file (own_in setting journal is version) (journal_version_file journal (suc version))
  where
    by_rows : IfSome (machine_policy_in setting journal version) (IsOwn setting) → (file : ℕ)
        (made : Result (List Row) Inapplicable)
        → machine_policy_by setting (machine_policy_in setting journal version) file ≡ made
        → IfSome (result_ok made) (IsOwn setting)
    by_rows earlier file (Err why) e = tt
    by_rows earlier file (Ok rows) e = let given = file_is_sound setting is file in
        own_by setting (machine_file_at setting file) (machine_policy_in setting journal version) rows given.0
        given.1 earlier e

    by_file : IfSome (machine_policy_in setting journal version) (IsOwn setting) → (o : Option ℕ)
        → IfSome (option_and_then (λ file. result_ok
        (machine_policy_by setting (machine_policy_in setting journal version) file)) o) (IsOwn setting)
    by_file earlier None = tt
    by_file earlier (Some file) =
        by_rows earlier file (machine_policy_by setting (machine_policy_in setting journal version) file) refl

pub versions_own : (setting : Setting) (journal : List Item) (version : ℕ) → IsMachineSetting setting
    → IsPolicy (machine_policy_at setting journal version)
    × All (λ row. NamesMachineSettingPort setting row.action) (machine_policy_at setting journal version)
unfolding machine_policy_at
versions_own setting journal version is =
    by_rows (machine_policy_in setting journal version) (own_in setting journal is version)
  where
    by_rows : (o : Option (List Row)) → IfSome o (IsOwn setting) → IsOwn setting (unwrap_or o [])
    by_rows None own = no_rows_own setting
    by_rows (Some rows) own = own

-- and its plan is one
pub version_is_planned : (setting : Setting) (journal : List Item) (version : ℕ)
    → IsMachineSetting setting → MachineVersionHasPlan setting journal version
    → IsPartitionPlan (machine_policy_at setting journal version) setting.net (journal_plan_at setting journal version)
version_is_planned setting journal version is has = plan_holds (machine_policy_at setting journal version)
    setting.net (journal_plan_at setting journal version) (versions_own setting journal version is).0 is.net
    (sym (ap (λ (s : Setting). s.plan (machine_policy_at setting journal version)) is.made) ∙ has.plan)

-- ---- updates

-- the next policy is what the file makes of that of the newest version
pub next_by : (setting : Setting) (journal : List Item) (file : ℕ) (newest : List Row)
    → 1 ≤ file → machine_policy_in setting journal (journal_version_count journal) ≡ Some newest
    → journal_next_policy setting journal file ≡ machine_policy_made_by (slice_get setting.files (file - 1)) (Some newest)
unfolding journal_next_policy
next_by setting journal file newest first is = cc (is, ne_eqb file 0 (λ none. omega arith))

-- the code of an update whose next policy, or whose plan, this is
abbrev made_code : Setting → List Item → Result (List Row) Inapplicable → Option ℕ
made_code setting journal made = elim made [
  | Err why ↦ Some (machine_apply_code why)
  | Ok rows ↦ machine_rows_code setting journal rows
]

abbrev plan_coded : List Item → Result (List HostedPolicyPartition) NoPolicyPlan → Option ℕ
plan_coded journal plan = elim plan [
  | Err why ↦ Some (machine_plan_code why)
  | Ok plan ↦ machine_marks_code journal
]

-- an update whose file makes no policy of the newest one has the code of the cause
pub unapplied_code : (setting : Setting) (journal : List Item) (file : ℕ) (why : Inapplicable)
    → journal_next_policy setting journal file ≡ Err why
    → machine_update_code setting journal file ≡ Some (machine_apply_code why)
unapplied_code setting journal file why made = ap (made_code setting journal) made

-- and one without a plan that of the cause
pub unplanned_code : (setting : Setting) (journal : List Item) (file : ℕ) (rows : List Row)
    (why : NoPolicyPlan) → journal_next_policy setting journal file ≡ Ok rows → setting.plan rows ≡ Err why
    → machine_update_code setting journal file ≡ Some (machine_plan_code why)
unplanned_code setting journal file rows why made is = cc (made, is)

-- an update whose policy has a plan has the code of the marks, if they refuse it
pub planned_code : (setting : Setting) (journal : List Item) (file : ℕ) (rows : List Row)
    (plan : List HostedPolicyPartition) → journal_next_policy setting journal file ≡ Ok rows
    → setting.plan rows ≡ Ok plan → machine_update_code setting journal file ≡ machine_marks_code journal
planned_code setting journal file rows plan made is = cc (made, is)

-- an update that isn't refused has a policy and a plan, and the marks allow it
pub record IsAllowed (setting : Setting) (journal : List Item) (file : ℕ) : Type 0 where
  pub rows : List Row
  pub policy : journal_next_policy setting journal file ≡ Ok rows
  pub planned : IsOk (setting.plan rows)
  pub marks : machine_marks_code journal ≡ None

pub allowed_next : (setting : Setting) (journal : List Item) (file : ℕ)
    → machine_update_code setting journal file ≡ None → IsAllowed setting journal file
allowed_next setting journal file allowed = by_rows (journal_next_policy setting journal file) refl allowed
  where
    by_plan : (plan : Result (List HostedPolicyPartition) NoPolicyPlan) → plan_coded journal plan ≡ None
        → IsOk plan × (machine_marks_code journal ≡ None)
    by_plan (Err why) none = absurd cc
    by_plan (Ok plan) none = (refl, none)

    by_rows : (made : Result (List Row) Inapplicable) → journal_next_policy setting journal file ≡ made
        → made_code setting journal made ≡ None → IsAllowed setting journal file
    by_rows (Err why) made none = absurd cc
    by_rows (Ok rows) made none = let of_plan = by_plan (setting.plan rows) none in
        record { rows = rows; policy = made; planned = of_plan.0; marks = of_plan.1 }

-- ---- what the change of a version touches: it stays so, and what it doesn't touch is decided as
-- before.

-- where all versions before it are there
pub touched_stays : (setting : Setting) (before items : List Item) (v : ℕ)
    → JournalVersionsAreNumbered before → v ≤ journal_version_count before
    → machine_touched_by setting (before ++ items) v ≡ machine_touched_by setting before v
unfolding machine_touched_by
touched_stays setting before items zero are below = refl
touched_stays setting before items (suc v) are below = ap (λ file. machine_touched_of
    (option_and_then (machine_file_at setting) file) (machine_policy_in setting (before ++ items) v))
    (file_kept before items (suc v) ((are (suc v)).1 (omega arith, below)))
    ∙ ap (machine_touched_of (option_and_then (machine_file_at setting) (journal_version_file before (suc v))))
    (policy_in_stays setting before items v are (omega (arith, below)))

-- the first version has no policy before it
none_before : (file : Option PolicyFile) → machine_touched_of file None ≡ cache_all_touched
none_before (Some (Change edits)) = refl
none_before (Some (Whole rows)) = refl
none_before None = refl

pub first_touched : (setting : Setting) (journal : List Item)
    → machine_touched_by setting journal 1 ≡ cache_all_touched
unfolding machine_touched_by machine_policy_in
first_touched setting journal = none_before (option_and_then (machine_file_at setting) (journal_version_file journal 1))

-- the version that is submitted next touches what its file does
pub next_touched_is : (setting : Setting) (journal : List Item) (file version : ℕ)
    → JournalVersionsAreNumbered journal → version ≡ journal_version_count journal + 1
    → machine_touched_by setting (journal ++ Item.Submitted file version ∷ []) version
    ≡ journal_next_touched setting journal file
unfolding machine_touched_by
next_touched_is setting journal file zero are next = absurd (omega (arith, next))
next_touched_is setting journal file (suc newest) are next =
    let after : List Item = journal ++ Item.Submitted file (suc newest) ∷ [] in
    let same : newest ≡ journal_version_count journal = omega (arith, next) in
    ap (λ o. machine_touched_of (option_and_then (machine_file_at setting) o) (machine_policy_in setting after newest))
    (next_file journal file (suc newest) are next)
    ∙ ap (machine_touched_of (machine_file_at setting file))
    (policy_in_stays setting journal (Item.Submitted file (suc newest) ∷ []) newest are
    (omega (arith, same)) ∙ ap (machine_policy_in setting journal) same)

-- ---- at most sixteen words

few_len : (words : List WordValue) → length (cache_few_touched words) ≤ 16
few_len words = by_test (nat_lt 16 (length words)) refl where
  by_test : (b : Bool) → nat_lt 16 (length words) ≡ b
      → length (if b then cache_all_touched else words) ≤ 16
  by_test true is = omega arith
  by_test false is = grind (arith, nat_tests)

of_few : (file : Option PolicyFile) (earlier : Option (List Row))
    → length (machine_touched_of file earlier) ≤ 16
of_few (Some (Change edits)) (Some rows) = few_len (touched_policy_words rows edits)
of_few (Some (Change edits)) None = omega arith
of_few (Some (Whole rows)) earlier = omega arith
of_few None earlier = omega arith

pub touched_few : (setting : Setting) (journal : List Item) (v : ℕ)
    → length (machine_touched_by setting journal v) ≤ 16
unfolding machine_touched_by
touched_few setting journal zero = omega arith
touched_few setting journal (suc v) =
    of_few (option_and_then (machine_file_at setting) (journal_version_file journal (suc v)))
    (machine_policy_in setting journal v)

-- ---- what isn't touched

none_met : (words : List WordValue) (word : WordValue) → list_any (word_meets word) words ≡ false
    → All (λ touched. IsFalse (word_meets word touched)) words
none_met [] word none = All-nil (λ touched. IsFalse (word_meets word touched))
none_met (first ∷ words) word none = by_first (word_meets word first) refl none (none_met words word)
  where
    by_first : (b : Bool) → word_meets word first ≡ b → (b || list_any (word_meets word) words) ≡ false
        → (list_any (word_meets word) words ≡ false
        → All (λ touched. IsFalse (word_meets word touched)) words)
        → All (λ touched. IsFalse (word_meets word touched)) (first ∷ words)
    by_first true is none rest = absurd cc
    by_first false is none rest =
        All-cons (λ touched. IsFalse (word_meets word touched)) first words is (rest none)

few_unmet : (words : List WordValue) (word : WordValue) → cache_word_meets_touched (cache_few_touched words) word ≡ false
    → All (λ touched. IsFalse (word_meets word touched)) words
few_unmet words word apart = by_test (nat_lt 16 (length words)) apart where
  by_test : (b : Bool) → cache_word_meets_touched (if b then cache_all_touched else words) word ≡ false
      → All (λ touched. IsFalse (word_meets word touched)) words
  by_test true apart = let met = meets_all word in absurd cc
  by_test false apart = none_met words word apart

made_ok : (made : Result (List Row) Inapplicable) (rows : List Row) → result_ok made ≡ Some rows
    → made ≡ Ok rows
made_ok (Ok these) rows is = ap Ok (cc is)
made_ok (Err why) rows is = absurd (cc is)

-- a header of a word that meets nothing of it has the first match that it had
module _ (setting : Setting) (journal : List Item) (v : ℕ) (word : WordValue) (header : Header)
    (is : IsMachineSetting setting) (sound : IsHeader header)
    (held : IsTrue (holds word (header_number_of header))) where
  -- the new policy decides it as that of the version before
  abbrev Same : List Row → Type 0
  Same new = scan new header ≡ scan (machine_policy_at setting journal v) header

  by_change : (file : Option PolicyFile) (earlier : Option (List Row)) (new : List Row)
      → IfSome file IsSoundPolicyFile → machine_policy_in setting journal v ≡ earlier
      → result_ok (machine_policy_made_by file earlier) ≡ Some new
      → cache_word_meets_touched (machine_touched_of file earlier) word ≡ false → Same new
  by_change (Some (Change edits)) (Some rows) new of before made apart =
      let own : machine_policy_at setting journal v ≡ rows =
      (of_its_policy setting journal v rows before).0 in
      let policy = subst IsPolicy own (versions_own setting journal v is).0 in
      scan-apart rows new edits word header policy of sound
      (made_ok (policy_change_applied rows edits) new made) (few_unmet (touched_policy_words rows edits) word apart) held
      ∙ ap (λ these. scan these header) (sym own)
  by_change (Some (Change edits)) None new of before made apart =
      let met = meets_all word in absurd cc
  by_change (Some (Whole rows)) earlier new of before made apart =
      let met = meets_all word in absurd cc
  by_change None earlier new of before made apart = let met = meets_all word in absurd cc

  by_file : (file : Option ℕ) (new : List Row)
      → option_and_then (λ f. result_ok (machine_policy_by setting (machine_policy_in setting journal v) f)) file
      ≡ Some new → cache_word_meets_touched (machine_touched_of (option_and_then (machine_file_at setting) file)
      (machine_policy_in setting journal v)) word ≡ false → Same new
  by_file None new made apart = absurd (cc made)
  by_file (Some file) new made apart = by_change (machine_file_at setting file)
      (machine_policy_in setting journal v) new (file_is_sound setting is file).0 refl made apart

pub touched_apart : (setting : Setting) (journal : List Item) (v : ℕ) (word : WordValue)
    (header : Header) → IsMachineSetting setting
    → machine_policy_in setting journal (suc v) ≡ Some (machine_policy_at setting journal (suc v))
    → cache_word_meets_touched (machine_touched_by setting journal (suc v)) word ≡ false → IsHeader header
    → IsTrue (holds word (header_number_of header))
    → scan (machine_policy_at setting journal (suc v)) header ≡ scan (machine_policy_at setting journal v) header
unfolding machine_touched_by machine_policy_in
touched_apart setting journal v word header is there apart sound held =
    by_file setting journal v word header is sound held (journal_version_file journal (suc v))
    (machine_policy_at setting journal (suc v)) there apart
