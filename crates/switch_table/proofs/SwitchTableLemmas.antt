-- Plans and their tables: where a header lies, and where its rules stand.
use Rattle.std.proofs.Common.{[], ◌<◌, ◌^◌, ◌∙◌, ◌≡◌, ◌≢◌, All, AllPairs, Bool, Contains, IfSome, IsSome, List, None, Option, Some, ap, arith, cond, count_by, eq-eqb, eqb, false, filter, find, get_or, length, map, option_and_then, option_map, position, refl, slice_get, subst, sym, true, unwrap_or, ℕ, rules}
use Rattle.base.proofs.Exports.{All-contains, All-contains_itself, All-filter, All-map, All-weaker, AllPairs-filter, AllPairs-map, Contains-map, count_by-map, find-filter, find-map, find-position, find-there, find_ends, get_or-map, get_or_default, length-map, list_any, list_any-from_Any, option_map_or, position-Some, position-map, slice_get-get_or, slice_get-map, some_from_count}
use Rattle.five_tuple.specs.Exports.{IsHeader, header_number_of}
use Rattle.five_tuple.specs.declared.header.Header.{Header}
use Rattle.ternary.proofs.TernaryCallerLemmas.{covers_held}
use Rattle.policy_rules.specs.Exports.{ArePolicyPartitionsNumbered, AreSoundPolicyPartitions, LastPolicyRuleCovers, first_policy_rule, policy_hit_of_rule, is_held_by_policy_rule, is_in_policy_partition, scan}
use Rattle.policy_rules.specs.declared.policy.Row.{Row}
use Rattle.policy_rules.specs.declared.rules.Partition.{Partition}
use Rattle.switch_table.specs.Exports.{AllSwitchTableLookupsDecide, AreSoundSwitchTables, SwitchTablePartitionDecidesAll, SwitchTableFindsFirstMatch, HostedPolicyPartition, SwitchTablesReachFirstMatch, switch_table_authority_of, switch_table_part_has_target, switch_table_lookup_in, switch_table_part_of, switch_table_lookup_in_plan, switch_table_redirect_of, switch_table_part_row_has, switch_table_row_of_hosted, switch_table_lookup, tables_of}
use Rattle.switch_table.specs.declared.tables.PartRow.{PartRow}
use Rattle.switch_table.specs.declared.tables.Tables.{Tables}
use Rattle.switch_table.specs.declared.search.Found.{Found}
use Rattle.switch_table.specs.declared.search.Found.TheVariants.{Redirect}

-- ---- a plan's tables

-- the partition of the plan that holds a header
record IsAt (rows : List Row) (plan : List HostedPolicyPartition) (header : Header) (hosted : HostedPolicyPartition) : Type 0
  where
    found : find (λ p. is_in_policy_partition header (switch_table_part_of p)) plan ≡ Some hosted
    there : Contains plan hosted
    decides : option_map policy_hit_of_rule (first_policy_rule hosted.0.rules header) ≡ Some (scan rows header)

at_header : (rows : List Row) (plan : List HostedPolicyPartition) (header : Header)
    → AreSoundPolicyPartitions rows (map switch_table_part_of plan) → IsHeader header → (hosted : HostedPolicyPartition)
    × IsAt rows plan header hosted
at_header rows plan header sound is =
    let some = some_from_count (λ p. is_in_policy_partition header (switch_table_part_of p)) plan
    (sym (count_by-map (is_in_policy_partition header) switch_table_part_of plan) ∙ sound.one header is) in
    let there = find-there (λ p. is_in_policy_partition header (switch_table_part_of p)) plan some.0 some.1 in (
      some.0,
      record {
        found = some.1;
        there = there.0;
        decides = All-contains (λ part. is_in_policy_partition header part ≡ true
            → option_map policy_hit_of_rule (first_policy_rule part.rules header) ≡ Some (scan rows header))
            (map switch_table_part_of plan) (switch_table_part_of some.0) (sound.decides header is)
            (Contains-map switch_table_part_of plan some.0 there.0) there.1;
      },
    )

-- a partition of a plan is at the place of its number
numbered_at : (plan : List HostedPolicyPartition) (hosted : HostedPolicyPartition) → ArePolicyPartitionsNumbered (map switch_table_part_of plan)
    → Contains plan hosted → slice_get plan hosted.0.number ≡ Some hosted
numbered_at plan hosted numbers (k, within, is) =
    let len : length (map switch_table_part_of plan) ≡ length plan = length-map _ _ in
    let number : hosted.0.number ≡ k = ap (λ (p : Partition). p.number)
    (sym (get_or-map switch_table_part_of plan k hosted (switch_table_part_of hosted) within ∙ ap switch_table_part_of is))
    ∙ numbers k (switch_table_part_of hosted) (omega arith) in
    ap (slice_get plan) number ∙ slice_get-get_or plan k hosted within ∙ ap Some is

-- the place of the first rule leads to that rule
place_leads : (rows : List Row) (plan : List HostedPolicyPartition) (header : Header) (hosted : HostedPolicyPartition)
    → ArePolicyPartitionsNumbered (map switch_table_part_of plan) → IsAt rows plan header hosted
    → SwitchTableFindsFirstMatch rows (map switch_table_part_of plan) header (switch_table_authority_of header (switch_table_part_of hosted))
place_leads rows plan header hosted numbers at =
    let leads = find-position (is_held_by_policy_rule (header_number_of header)) hosted.0.rules in
    ap (option_map policy_hit_of_rule)
    (ap (option_and_then (λ part. slice_get part.rules
    (unwrap_or (position (is_held_by_policy_rule (header_number_of header)) hosted.0.rules) 0))) (slice_get-map switch_table_part_of
    plan hosted.0.number ∙ ap (option_map switch_table_part_of) (numbered_at plan hosted numbers at.there))
    ∙ by_case (position (is_held_by_policy_rule (header_number_of header)) hosted.0.rules) leads) ∙ at.decides
  where
    by_case : (place : Option ℕ) → option_and_then (slice_get hosted.0.rules) place ≡ first_policy_rule
        hosted.0.rules header → slice_get hosted.0.rules (unwrap_or place 0) ≡ first_policy_rule
        hosted.0.rules header
    by_case (Some place) leads = leads
    by_case None leads = let none = ap (option_map policy_hit_of_rule) leads ∙ at.decides in absurd (cc)

-- what the tables of a switch say of the header
lookup_at : (rows : List Row) (plan : List HostedPolicyPartition) (version switch : ℕ) (header : Header)
    (hosted : HostedPolicyPartition) → AreSoundPolicyPartitions rows (map switch_table_part_of plan) → IsHeader header
    → IsAt rows plan header hosted → switch_table_lookup (tables_of plan version switch) header ≡ cond
    (switch_table_part_has_target switch hosted) (switch_table_authority_of header (switch_table_part_of hosted))
    (switch_table_redirect_of header (map switch_table_row_of_hosted plan))
lookup_at rows plan version switch header hosted sound is at =
    let own : find (is_in_policy_partition header) (map switch_table_part_of (filter (switch_table_part_has_target switch) plan))
    ≡ option_map switch_table_part_of (cond (switch_table_part_has_target switch hosted) (Some hosted) None) =
    find-map (is_in_policy_partition header) switch_table_part_of (filter (switch_table_part_has_target switch) plan)
    ∙ ap (option_map switch_table_part_of) (find-filter (λ p. is_in_policy_partition header (switch_table_part_of p)) (switch_table_part_has_target switch) plan
    hosted (sym (count_by-map (is_in_policy_partition header) switch_table_part_of plan) ∙ sound.one header is) at.found) in
    ap (λ part. option_map_or (switch_table_authority_of header) part (switch_table_redirect_of header (map switch_table_row_of_hosted plan))) own
    ∙ by_case (switch_table_part_has_target switch hosted)
  where
    by_case : (b : Bool) → option_map_or (switch_table_authority_of header)
        (option_map switch_table_part_of (cond b (Some hosted) None)) (switch_table_redirect_of header (map switch_table_row_of_hosted plan))
        ≡ cond b (switch_table_authority_of header (switch_table_part_of hosted)) (switch_table_redirect_of header (map switch_table_row_of_hosted plan))
    by_case true = refl
    by_case false = refl

row_targets : (rows : List Row) (plan : List HostedPolicyPartition) (header : Header) (hosted : HostedPolicyPartition)
    → IsAt rows plan header hosted → option_map_or (λ (row : PartRow). row.targets)
    (find (switch_table_part_row_has header) (map switch_table_row_of_hosted plan)) [] ≡ hosted.1
row_targets rows plan header hosted at = search (rules, find-map)

pub tables_lead : (rows : List Row) (plan : List HostedPolicyPartition) (version switch : ℕ) (header : Header)
    → AreSoundPolicyPartitions rows (map switch_table_part_of plan) → All (λ hosted. 0 < length hosted.1) plan
    → IsHeader header
    → SwitchTablesReachFirstMatch rows plan version header (switch_table_lookup (tables_of plan version switch) header)
tables_lead rows plan version switch header sound some is =
    let here = at_header rows plan header sound is in
    let hosted = here.0 in
    let at = here.1 in
    let decides = place_leads rows plan header hosted sound.numbers at in
    let there : (s : ℕ) → list_any (eqb s) hosted.1 ≡ true → SwitchTableFindsFirstMatch rows (map switch_table_part_of plan)
    header (switch_table_lookup (tables_of plan version s) header) =
    λ s target. subst (SwitchTableFindsFirstMatch rows (map switch_table_part_of plan) header)
    (sym (lookup_at rows plan version s header hosted sound is at ∙ ap (λ b. cond b (switch_table_authority_of
    header (switch_table_part_of hosted)) (switch_table_redirect_of header (map switch_table_row_of_hosted plan))) target)) decides in
    subst (SwitchTablesReachFirstMatch rows plan version header)
    (sym (lookup_at rows plan version switch header hosted sound is at))
    (by_case hosted (switch_table_part_has_target switch hosted) decides (subst (AllSwitchTableLookupsDecide rows plan version header)
    (sym (row_targets rows plan header hosted at)) (record {
      some = has_some at.there;
      each = λ k d within. there (get_or hosted.1 k d) (among hosted.1 k d within);
    })))
  where
    has_some : {hosted : HostedPolicyPartition} → Contains plan hosted → 0 < length hosted.1
    has_some (k, within, is) = subst (λ (p : HostedPolicyPartition). 0 < length p.1) is (some k _ within)

    among : (targets : List ℕ) (k d : ℕ) → k < length targets → list_any (eqb (get_or targets k d))
        targets ≡ true
    among targets k d within = list_any-from_Any (eqb (get_or targets k d)) targets (
      k,
      get_or targets k d,
      within,
      get_or_default targets k (get_or targets k d) d within,
      eq-eqb (get_or targets k d) (get_or targets k d) refl,
    )

    by_case : (hosted : HostedPolicyPartition) (b : Bool) → SwitchTableFindsFirstMatch rows (map switch_table_part_of plan) header
        (switch_table_authority_of header (switch_table_part_of hosted))
        → SwitchTablesReachFirstMatch rows plan version header (switch_table_redirect_of header (map switch_table_row_of_hosted plan))
        → SwitchTablesReachFirstMatch rows plan version header
        (cond b (switch_table_authority_of header (switch_table_part_of hosted)) (switch_table_redirect_of header (map switch_table_row_of_hosted plan)))
    by_case hosted true own others = own
    by_case hosted false own others = others

-- the row that holds a header is at the number of the partition that does, and has its targets
redirect_there : (rows : List Row) (plan : List HostedPolicyPartition) (header : Header) (hosted : HostedPolicyPartition) →
    ArePolicyPartitionsNumbered (map switch_table_part_of plan) → IsAt rows plan header hosted →
    switch_table_redirect_of header (map switch_table_row_of_hosted plan) ≡ Redirect hosted.0.number hosted.1
redirect_there rows plan header hosted numbers at =
    let place = ap (λ k. unwrap_or k 0) (position-map (switch_table_part_row_has header) switch_table_row_of_hosted plan)
    ∙ by_case (position (λ p. is_in_policy_partition header (switch_table_part_of p)) plan) refl
    (find-position (λ p. is_in_policy_partition header (switch_table_part_of p)) plan ∙ at.found) in
    ap (λ (number : ℕ). Redirect number (option_map_or (λ (row : PartRow). row.targets)
    (find (switch_table_part_row_has header) (map switch_table_row_of_hosted plan)) [])) place
    ∙ ap (Redirect hosted.0.number) (row_targets rows plan header hosted at)
  where
    by_case : (place : Option ℕ) → position (λ p. is_in_policy_partition header (switch_table_part_of p)) plan ≡ place →
        option_and_then (slice_get plan) place ≡ Some hosted → unwrap_or place 0 ≡ hosted.0.number
    by_case None is leads = let clash : None ≡ Some hosted = leads in absurd (cc)
    by_case (Some k) is leads =
        let within : k < length plan =
        (position-Some (λ p. is_in_policy_partition header (switch_table_part_of p)) plan k hosted is).0 in
        let there : Some (get_or plan k hosted) ≡ Some hosted =
        sym (slice_get-get_or plan k hosted within) ∙ leads in
        let it : get_or plan k hosted ≡ hosted = cc in
        let len : length (map switch_table_part_of plan) ≡ length plan = length-map _ _ in
        sym (numbers k (switch_table_part_of hosted) (omega arith))
        ∙ ap (λ (p : Partition). p.number)
        (get_or-map switch_table_part_of plan k hosted (switch_table_part_of hosted) within ∙ ap switch_table_part_of it)

pub tables_planned : (rows : List Row) (plan : List HostedPolicyPartition) (version switch : ℕ) (header : Header) →
    AreSoundPolicyPartitions rows (map switch_table_part_of plan) → IsHeader header →
    switch_table_lookup_in_plan plan switch header ≡ Some (switch_table_lookup (tables_of plan version switch) header)
tables_planned rows plan version switch header sound is =
    let here = at_header rows plan header sound is in
    let hosted = here.0 in
    let at = here.1 in
    let says = ap (λ (other : Found). cond (switch_table_part_has_target switch hosted)
    (switch_table_authority_of header (switch_table_part_of hosted)) other)
    (redirect_there rows plan header hosted sound.numbers at) in
    ap (option_map (switch_table_lookup_in switch header)) at.found
    ∙ ap Some (sym (lookup_at rows plan version switch header hosted sound is at ∙ says))

-- a fact of each partition of a plan is true of those in a switch's tables
own_all : (P : Partition → Type 0) (plan : List HostedPolicyPartition) (kept : HostedPolicyPartition → Bool)
    → ((hosted : HostedPolicyPartition) → Contains plan hosted → P (switch_table_part_of hosted))
    → All P (map switch_table_part_of (filter kept plan))
own_all P plan kept each = All-map P switch_table_part_of (filter kept plan)
    (All-filter kept (λ hosted. P (switch_table_part_of hosted)) plan (All-weaker (Contains plan)
    (λ hosted. P (switch_table_part_of hosted)) each plan (All-contains_itself plan)))

numbers_differ : (plan : List HostedPolicyPartition) → ArePolicyPartitionsNumbered (map switch_table_part_of plan)
    → AllPairs (λ a b. a.0.number ≢ b.0.number) plan
numbers_differ plan numbers = λ i j d less within same.
    let len : length (map switch_table_part_of plan) ≡ length plan = length-map _ _ in
    let number = λ (k : ℕ) (there : k < length plan). ap (λ (p : Partition). p.number)
    (sym (get_or-map switch_table_part_of plan k d (switch_table_part_of d) there)) ∙ numbers k (switch_table_part_of d) (omega arith) in
    omega (arith, number i (omega arith), number j within, same)

-- where the last rule covers the region, some rule decides each header of it
pub decides_all : (part : Partition) → LastPolicyRuleCovers part → SwitchTablePartitionDecidesAll part
decides_all part ends header is inside = search (rules, find_ends, covers_held)

pub auth_decides : (tables : Tables) → AreSoundSwitchTables tables → All SwitchTablePartitionDecidesAll tables.auth
auth_decides tables sound = All-weaker LastPolicyRuleCovers SwitchTablePartitionDecidesAll decides_all tables.auth sound.covers

pub tables_are_sound : (rows : List Row) (plan : List HostedPolicyPartition) (version switch : ℕ)
    → AreSoundPolicyPartitions rows (map switch_table_part_of plan) → All LastPolicyRuleCovers (map switch_table_part_of plan)
    → length plan < 2 ^ 32 → All (λ hosted. length hosted.0.rules < 2 ^ 32) plan
    → AreSoundSwitchTables (tables_of plan version switch)
tables_are_sound rows plan version switch sound covers few small = record {
  one = λ header is. count_by-map (switch_table_part_row_has header) switch_table_row_of_hosted plan
      ∙ sym (count_by-map (is_in_policy_partition header) switch_table_part_of plan) ∙ sound.one header is;
  numbers = own_all (λ part. slice_get (map (λ (row : PartRow). row.region) (map switch_table_row_of_hosted plan))
      part.number ≡ Some part.region) plan (switch_table_part_has_target switch) (λ hosted there.
      slice_get-map (λ (row : PartRow). row.region) (map switch_table_row_of_hosted plan) hosted.0.number
      ∙ ap (option_map (λ (row : PartRow). row.region))
      (slice_get-map switch_table_row_of_hosted plan hosted.0.number
      ∙ ap (option_map switch_table_row_of_hosted) (numbered_at plan hosted sound.numbers there)));
  distinct = AllPairs-map (λ a b. a.number ≢ b.number) switch_table_part_of (filter (switch_table_part_has_target switch) plan)
      (AllPairs-filter (λ a b. a.0.number ≢ b.0.number) (switch_table_part_has_target switch) plan
      (numbers_differ plan sound.numbers));
  covers = own_all LastPolicyRuleCovers plan (switch_table_part_has_target switch) (λ hosted there. All-contains LastPolicyRuleCovers
      (map switch_table_part_of plan) (switch_table_part_of hosted) covers (Contains-map switch_table_part_of plan hosted there));
  few_rows = (let len : length (map switch_table_row_of_hosted plan) ≡ length plan = length-map _ _ in omega arith);
  few_rules = own_all (λ part. length part.rules < 2 ^ 32) plan (switch_table_part_has_target switch)
      (λ hosted there. All-contains (λ p. length p.0.rules < 2 ^ 32) plan hosted small there);
}

-- ---- what a lookup finds

-- the row that holds a header, and its place
pub record IsRow (header : Header) (rows : List PartRow) (place : ℕ) : Type 0 where
  pub within : place < length rows
  pub targets : (d : PartRow) → option_map_or (λ (row : PartRow). row.targets)
      (find (switch_table_part_row_has header) rows) [] ≡ (get_or rows place d).targets

pub row_there : (header : Header) (rows : List PartRow) → count_by (switch_table_part_row_has header) rows ≡ 1
    → IsSome (position (switch_table_part_row_has header) rows)
row_there header rows one = search (rules, find-position, some_from_count)

pub row_at : (header : Header) (rows : List PartRow) (place : ℕ) (d : PartRow)
    → position (switch_table_part_row_has header) rows ≡ Some place → IsRow header rows place
row_at header rows place d is = search (rules, position-Some, find-position, slice_get-get_or)

pub place_fits : (place : Option ℕ) (n : ℕ) → IfSome place (λ p. p < n) → n < 2 ^ 32
    → unwrap_or place 0 < 2 ^ 32
place_fits place n within few = search rules

pub own_found : (header : Header) (parts : List Partition) (part : Partition)
    → Some part ≡ find (is_in_policy_partition header) parts → All (λ part. length part.rules < 2 ^ 32) parts
    → length part.rules < 2 ^ 32
own_found header parts part is few = search (rules, find-there)
