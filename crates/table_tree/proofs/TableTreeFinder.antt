-- Where a finder's tree leads.
use Rattle.std.proofs.Common.{[], ◌+◌, ◌<◌, ◌==◌, ◌∙◌, ◌∷◌, ◌≡◌, Bool, IsSome, IsSomeAnd, IsTrue, List, None, Option, Some, ap, arith, count_by, eq-eqb, eqb-true, false, find, get_or, inl, inr, length, map, option_and_then, option_map, position, refl, slice_get, subst, sym, true, unwrap_or, ℕ, rules}
use Rattle.std.specs.List.{position_from}
use Rattle.std.proofs.lemmas.Iterator.Adapters.{position_from-zero}
use Rattle.std.specs.Option.{option_map_or}
use Rattle.std.proofs.lemmas.Bool.{cases_Bool, both_ways}
use Rattle.std.proofs.lemmas.List.{length-map}
use Rattle.std.proofs.lemmas.List.Elements.{All-weaker}
use Rattle.std.proofs.lemmas.List.Quantifiers.{position-Some}
use Rattle.std.proofs.lemmas.Option.{same_Some, slice_get-get_or, slice_get-map}
use Rattle.std.proofs.lemmas.Bool.Decides.{same_from_decides}
use Rattle.policy_rules.proofs.PolicyRulesCallerLemmas.{count_by-map, find-position, find-there, find_agree, found_from_count, one_place, there_at}
use Rattle.five_tuple.specs.Exports.{HeaderLaws, IsHeader, header_number_of}
use Rattle.five_tuple.specs.declared.header.Header.{Header}
use Rattle.ternary.specs.Exports.{WordHoldsLaws, TernaryMeetLaws, WordValue, any_word, word_fix_of, holds}
use Rattle.ternary.proofs.TernaryCallerLemmas.{any_holds}
use Rattle.policy_rules.specs.Exports.{is_held_by_policy_rule, is_in_policy_partition}
use Rattle.policy_rules.specs.declared.rules.Partition.{Partition}
use Rattle.switch_table.specs.Exports.{AreSoundSwitchTables, switch_table_authority_of, switch_table_redirect_of, switch_table_part_row_has, switch_table_lookup}
use Rattle.switch_table.specs.declared.search.Found.TheVariants.{Authority, Redirect}
use Rattle.switch_table.specs.declared.tables.PartRow.{PartRow}
use Rattle.switch_table.specs.declared.tables.Tables.{Tables}
use Rattle.switch_table.proofs.SwitchTableLemmas.{row_at}
use Rattle.table_tree.specs.Regions.{AreTableTreeCandidates, table_tree_candidate_holds, table_tree_side_candidates, table_tree_candidates_from, table_tree_candidates_of}
use Rattle.table_tree.specs.Ruling.{TableRegionTree, part_lookup_tree, table_tree_rule_shape, table_rule_tree, table_tree_seen}
use Rattle.table_tree.specs.declared.rule_tree.RuleTree.{RuleTree}
use Rattle.table_tree.specs.Finding.{AreTableTreesOf, IsTableTreeEnd, IsTableFinderTree, IsGrownTableTree, IsLookupTreeOfCandidates, table_tree_candidate_shape}
use Rattle.table_tree.specs.LookupTrees.{LookupTree, Leaf, Sides, table_tree_leaf_at}
use Rattle.table_tree.specs.declared.node.Candidate.{Candidate}
use Rattle.table_tree.specs.declared.trees.TableTrees.{TableTrees}
use Rattle.table_tree.proofs.TableTreeLookup.{down}
use Rattle.table_tree.proofs.TableTreeNodes.{cut_is_free, half_node, never_stuck, root_node, several_candidates, side_finds, candidates_count}

-- ---- how it is grown

pub end_is : (candidates : List Candidate) (candidate : Candidate) (place : ℕ) → length candidates
    ≡ 1
    → candidate ≡ get_or candidates 0 candidate → place ≡ candidate.place → IsTableTreeEnd candidates place
end_is [] candidate place one is same = absurd (omega (arith, one))
end_is (first ∷ []) candidate place one is same = search rules
end_is (first ∷ second ∷ rest) candidate place one is same = absurd (omega (arith, one))

-- a tree that is grown of regions that meet a region of the header space is theirs
pub grown_tree : WordHoldsLaws → TernaryMeetLaws → (tree : LookupTree ℕ) (candidates : List Candidate)
    (region : WordValue) → AreTableTreeCandidates candidates region → IsGrownTableTree candidates region tree
    → IsLookupTreeOfCandidates candidates region tree
grown_tree holds_laws meet_laws (Leaf place) candidates region node (inl end) = end
grown_tree holds_laws meet_laws (Leaf place) candidates region node (inr stuck) =
    absurd (stuck.not_one (never_stuck holds_laws meet_laws candidates region node stuck.none))
grown_tree holds_laws meet_laws (Sides bit low high) candidates region node is =
    let free = cut_is_free candidates region bit is.1 in (
      several_candidates holds_laws candidates region node is.0,
      is.1,
      grown_tree holds_laws meet_laws low _ _ (half_node candidates region bit false node free)
          is.2,
      grown_tree holds_laws meet_laws high _ _ (half_node candidates region bit true node free)
          is.3,
    )

-- that of the rows of sound tables is a finder's
pub finder_tree : HeaderLaws → WordHoldsLaws → TernaryMeetLaws → (tables : Tables) (trees : TableTrees)
    → AreSoundSwitchTables tables → AreTableTreesOf tables.parts tables.auth trees
    → IsTableFinderTree tables.parts (table_tree_candidate_shape trees.tree)
finder_tree header_laws holds_laws meet_laws tables trees sound are =
    search (rules, grown_tree, root_node)

-- ---- down the tree

-- the bits of a header lead to the place of the region that has it
pub leads : (tree : LookupTree ℕ) (candidates : List Candidate) (region : WordValue) (number : ℕ)
    (candidate : Candidate)
    → IsLookupTreeOfCandidates candidates region tree → IsTrue (holds region number)
    → find (table_tree_candidate_holds number) candidates ≡ Some candidate → table_tree_leaf_at number tree ≡ candidate.place
leads (Leaf place) candidates region number candidate is held found = search (rules, find-there)
leads (Sides bit low high) candidates region number candidate is held found =
    down (λ place. place ≡ candidate.place) region bit number low high
    (cut_is_free candidates region bit is.1).free held
    (λ inside. leads low (table_tree_side_candidates candidates region bit false) (word_fix_of region bit false)
    number candidate is.2 inside (side_finds candidates region bit number false inside ∙ found))
    (λ inside. leads high (table_tree_side_candidates candidates region bit true) (word_fix_of region bit true)
    number candidate is.3 inside (side_finds candidates region bit number true inside ∙ found))

-- ---- the place in the rows

-- the candidate that is found has the place of the row
found_place : (number place : ℕ) (rows : List PartRow) → option_map (λ (s : Candidate). s.place)
    (find (table_tree_candidate_holds number) (table_tree_candidates_from place rows))
    ≡ position_from (λ (row : PartRow). holds row.region number) place rows
found_place number place [] = refl
found_place number place (row ∷ rows) =
    search (rules, cases_Bool, found_place number (place + 1) rows)

-- the tree of the rows leads each header to the first row that holds it
pub leads_to_row : (rows : List PartRow) (tree : LookupTree ℕ) (header : Header)
    → IsLookupTreeOfCandidates (table_tree_candidates_of rows) any_word tree → count_by (switch_table_part_row_has header) rows ≡ 1
    → position (switch_table_part_row_has header) rows ≡ Some (table_tree_leaf_at (header_number_of header) tree)
leads_to_row rows tree header is one =
    by_case (find (table_tree_candidate_holds (header_number_of header)) (table_tree_candidates_of rows)) refl
    (found_from_count (table_tree_candidate_holds (header_number_of header)) (table_tree_candidates_of rows)
    (omega (arith, candidates_count 0 (header_number_of header) rows, one)))
  where
    by_case : (found : Option Candidate)
        → find (table_tree_candidate_holds (header_number_of header)) (table_tree_candidates_of rows) ≡ found → IsSome found
        → position (switch_table_part_row_has header) rows ≡ Some (table_tree_leaf_at (header_number_of header) tree)
    by_case None none some = absurd (both_ways false refl some)
    by_case (Some candidate) found some = position_from-zero (switch_table_part_row_has header) rows
        ∙ sym (found_place (header_number_of header) 0 rows)
        ∙ ap (option_map (λ (s : Candidate). s.place)) found
        ∙ ap Some (sym (leads tree (table_tree_candidates_of rows) any_word (header_number_of header) candidate is
        (any_holds (header_number_of header)) found))

-- ---- the partition of a place

-- the row that holds a header
row_found : (header : Header) (rows : List PartRow) → count_by (switch_table_part_row_has header) rows ≡ 1
    → (row : PartRow) × (find (switch_table_part_row_has header) rows ≡ Some row)
row_found header rows one = by_case (find (switch_table_part_row_has header) rows) refl
    (found_from_count (switch_table_part_row_has header) rows (omega (arith, one)))
  where
    by_case : (found : Option PartRow) → find (switch_table_part_row_has header) rows ≡ found → IsSome found
        → (row : PartRow) × (find (switch_table_part_row_has header) rows ≡ Some row)
    by_case None none some = absurd (both_ways false refl some)
    by_case (Some row) is some = (row, is)

-- the region of the partition of this number holds the header where the number is the row's place
in_numbered : (rows : List PartRow) (header : Header) (place : ℕ) (part : Partition)
    → count_by (switch_table_part_row_has header) rows ≡ 1 → position (switch_table_part_row_has header) rows ≡ Some place
    → slice_get (map (λ (row : PartRow). row.region) rows) part.number ≡ Some part.region
    → is_in_policy_partition header part ≡ (part.number == place)
in_numbered rows header place part one is numbered =
    let holding : WordValue → Bool = λ region. holds region (header_number_of header) in
    let regions : List WordValue = map (λ (row : PartRow). row.region) rows in
    let found = row_found header rows one in
    let row : PartRow = found.0 in
    let at_row : slice_get rows place ≡ Some row = sym (ap (option_and_then (slice_get rows)) is)
    ∙ find-position (switch_table_part_row_has header) rows ∙ found.1 in
    let at_place : slice_get regions place ≡ Some row.region =
    slice_get-map (λ (r : PartRow). r.region) rows place
    ∙ ap (option_map (λ (r : PartRow). r.region)) at_row in
    let has_it : holding row.region ≡ true = (find-there (switch_table_part_row_has header) rows row found.1).1 in
    same_from_decides {P = (part.number == place) ≡ true} _ _ (
      λ inside. eq-eqb _ _ (one_place holding regions part.number place part.region row.region
          (count_by-map holding (λ (r : PartRow). r.region) rows ∙ one) numbered inside at_place
          has_it),
      λ same. let there : Some part.region ≡ Some row.region =
          sym numbered ∙ ap (slice_get regions) (eqb-true _ _ same) ∙ at_place in
          ap holding (same_Some part.region row.region there) ∙ has_it,
    )
    (λ t. t, λ t. t)

-- the partition that holds a header is the one of the place to which the tree leads
pub own_numbered : (tables : Tables) (header : Header) (place : ℕ) → AreSoundSwitchTables tables
    → IsHeader header → position (switch_table_part_row_has header) tables.parts ≡ Some place
    → find (is_in_policy_partition header) tables.auth ≡ find (λ part. part.number == place) tables.auth
own_numbered tables header place sound is at = find_agree (is_in_policy_partition header)
    (λ part. part.number == place) tables.auth (All-weaker (λ (part : Partition). slice_get
    (map (λ (row : PartRow). row.region) tables.parts) part.number ≡ Some part.region)
    (λ (part : Partition). is_in_policy_partition header part ≡ (part.number == place)) (λ part numbered. in_numbered
    tables.parts header place part (sound.one header is) at numbered) tables.auth sound.numbers)

-- ---- what the tables say

-- the place of a header's first rule in a partition
abbrev pub first_in : Header → Partition → Option ℕ
first_in header part = position (is_held_by_policy_rule (header_number_of header)) part.rules

-- the tree at a partition's place is the partition's
pub tree_there : (auth : List Partition) (trees : List RuleTree) (own : ℕ) (tree : RuleTree)
    (part : Partition) → map table_tree_seen trees ≡ map part_lookup_tree auth → own < length auth
    → own < length trees → tree ≡ get_or trees own tree → part ≡ get_or auth own part
    → table_tree_seen tree ≡ part_lookup_tree part
tree_there auth trees own tree part all within inside tree_is part_is =
    let at_part : slice_get auth own ≡ Some part =
    slice_get-get_or auth own part within ∙ ap Some (sym part_is) in
    same_Some (table_tree_seen tree) (part_lookup_tree part)
    (sym (slice_get-map table_tree_seen trees own
    ∙ ap (option_map table_tree_seen) (slice_get-get_or trees own tree inside ∙ ap Some (sym tree_is)))
    ∙ ap (λ (ts : List TableRegionTree). slice_get ts own) all ∙ slice_get-map part_lookup_tree auth own
    ∙ ap (option_map part_lookup_tree) at_part)

pub trees_reach : (auth : List Partition) (trees : List RuleTree) (own : ℕ)
    → map table_tree_seen trees ≡ map part_lookup_tree auth → own < length auth → own < length trees
trees_reach auth trees own all within =
    omega (arith, sym (length-map trees table_tree_seen) ∙ ap length all ∙ length-map auth part_lookup_tree)

-- the partition at a place of the list, and its tree, as they are read
pub record IsThere (tables : Tables) (header : Header) (own : ℕ) (part : Partition)
    (tree : RuleTree) : Type 0 where
  pub at : slice_get tables.auth own ≡ Some part
  pub shape : table_tree_rule_shape tree.root ≡ table_rule_tree part.rules tree.region
  pub region : IsTrue (holds tree.region (header_number_of header))

pub is_there : (tables : Tables) (value : Tables) (header : Header) (own : ℕ) (part : Partition)
    (tree : RuleTree) (auth : List Partition) (trees : List RuleTree) → tables ≡ value
    → IsSomeAnd (slice_get value.auth own) (λ p. IsTrue (is_in_policy_partition header p))
    → auth ≡ tables.auth → map table_tree_seen trees ≡ map part_lookup_tree tables.auth
    → part ≡ get_or auth own part → tree ≡ get_or trees own tree
    → IsThere tables header own part tree
is_there tables value header own part tree auth trees same has read all part_is tree_is =
    let there = there_at (λ p. IsTrue (is_in_policy_partition header p)) tables.auth own part
    (subst (λ (t : Tables). IsSomeAnd (slice_get t.auth own) (λ p. IsTrue (is_in_policy_partition header p)))
    (sym same) has) in
    let here = part_is ∙ ap (λ (ps : List Partition). get_or ps own part) read in
    let is = tree_there tables.auth trees own tree part all there.0
    (trees_reach tables.auth trees own all there.0) tree_is here in
    let region : tree.region ≡ part.region = ap (λ (t : TableRegionTree). t.region) is in record {
      at = there.1 ∙ ap Some (sym here);
      shape = ap (λ (t : TableRegionTree). t.shape) is ∙ ap (table_rule_tree part.rules) (sym region);
      region = rw region (rw here there.2);
    }

-- the partition of the place has the header
own_found : (tables : Tables) (header : Header) (place own : ℕ) → AreSoundSwitchTables tables
    → IsHeader header → position (switch_table_part_row_has header) tables.parts ≡ Some place
    → position (λ part. part.number == place) tables.auth ≡ Some own
    → (part : Partition) × (slice_get tables.auth own ≡ Some part)
    × (find (λ p. p.number == place) tables.auth ≡ Some part)
own_found tables header place own sound is at there =
    let d : Partition = record { number = 0; region = any_word; rules = [] } in
    let within = (position-Some (λ (p : Partition). p.number == place) tables.auth own d there).0 in
    let here = slice_get-get_or tables.auth own d within in
    let found = sym (find-position (λ (p : Partition). p.number == place) tables.auth)
    ∙ ap (option_and_then (slice_get tables.auth)) there in
    (get_or tables.auth own d, here, found ∙ here)

pub own_has : (tables : Tables) (header : Header) (place own : ℕ) → AreSoundSwitchTables tables
    → IsHeader header → position (switch_table_part_row_has header) tables.parts ≡ Some place
    → position (λ part. part.number == place) tables.auth ≡ Some own
    → IsSomeAnd (slice_get tables.auth own) (λ part. IsTrue (is_in_policy_partition header part))
own_has tables header place own sound is at there =
    let own_part = own_found tables header place own sound is at there in
    let found = own_numbered tables header place sound is at ∙ own_part.2 in
    subst (λ o. IsSomeAnd o (λ (part : Partition). IsTrue (is_in_policy_partition header part))) (sym own_part.1)
    (find-there (is_in_policy_partition header) tables.auth own_part.0 found).1

-- the authority partition of the place decides
pub own_decides : (tables : Tables) (header : Header) (place own : ℕ) (first : Option ℕ)
    → AreSoundSwitchTables tables → IsHeader header → position (switch_table_part_row_has header) tables.parts ≡ Some place
    → position (λ part. part.number == place) tables.auth ≡ Some own
    → first ≡ option_and_then (first_in header) (slice_get tables.auth own)
    → Authority place (unwrap_or first 0) ≡ switch_table_lookup tables header
own_decides tables header place own first sound is at there first_is =
    let own_part = own_found tables header place own sound is at there in
    let part : Partition = own_part.0 in
    ap (λ o. Authority place (unwrap_or o 0))
    (first_is ∙ ap (option_and_then (first_in header)) own_part.1)
    ∙ ap (λ n. Authority n (unwrap_or (first_in header part) 0)) (sym (eqb-true _ _
    (find-there (λ (p : Partition). p.number == place) tables.auth part own_part.2).1))
    ∙ sym (ap (λ own. option_map_or (switch_table_authority_of header) own (switch_table_redirect_of header tables.parts))
    (own_numbered tables header place sound is at ∙ own_part.2))

-- no partition has the number
pub none_there : (parts : List Partition) (number : ℕ)
    → None ≡ position (λ part. part.number == number) parts
    → None ≡ find (λ part. part.number == number) parts
none_there parts number none = search (rules, find-position)

pub one_read : (parts auth : List Partition) (number own : ℕ) → parts ≡ auth
    → Some own ≡ position (λ part. part.number == number) parts
    → slice_get auth own ≡ find (λ part. part.number == number) auth
one_read parts auth number own same there = search (rules, find-position)

-- where there is none, its targets do
pub row_decides : (tables : Tables) (header : Header) (place : ℕ) (d : PartRow)
    → AreSoundSwitchTables tables → IsHeader header → position (switch_table_part_row_has header) tables.parts ≡ Some place
    → None ≡ find (λ p. p.number == place) tables.auth
    → Redirect place (get_or tables.parts place d).targets ≡ switch_table_lookup tables header
row_decides tables header place d sound is at none = let rows = tables.parts in
    sym (ap (λ own. option_map_or (switch_table_authority_of header) own (switch_table_redirect_of header rows))
    (own_numbered tables header place sound is at ∙ sym none) ∙ ap (λ p. Redirect (unwrap_or p 0)
    (option_map_or (λ (r : PartRow). r.targets) (find (switch_table_part_row_has header) rows) [])) at
    ∙ ap (Redirect place) ((row_at header rows place d at).targets d))

-- ---- as the lookup reads them

pub place_is : (tables : Tables) (trees read : TableTrees) (header : Header) (number place : ℕ)
    → AreSoundSwitchTables tables → IsTableFinderTree tables.parts (table_tree_candidate_shape trees.tree)
    → read ≡ trees → IsHeader header → number ≡ header_number_of header
    → place ≡ table_tree_leaf_at number (table_tree_candidate_shape read.tree)
    → position (switch_table_part_row_has header) tables.parts ≡ Some place
place_is tables trees read header number place sound is there header_is same at =
    search (rules, leads_to_row)

pub place_within : (header : Header) (rows : List PartRow) (place : ℕ)
    → position (switch_table_part_row_has header) rows ≡ Some place → place < length rows
place_within header rows place at = search rules
