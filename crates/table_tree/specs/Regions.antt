-- The regions of partition rules, each with its place in the list.
use Rattle.std.specs.Prelude.{[], ◌+◌, ◌<◌, ◌^◌, ◌∷◌, ◌≤◌, ◌⊎◌, All, Bool, IsSome, IsTrue, List, count_by, filter, find, ℕ}
use Rattle.std.specs.List.{list_all, list_any}
use Rattle.ternary.specs.Exports.{IsWord, WordValue, word_fix_of, holds, is_word_bit_fixed, word_meets}
use Rattle.switch_table.specs.declared.tables.PartRow.{PartRow}
use Rattle.table_tree.specs.Cutting.{IsLeastFreeLookupBit, LookupPassesNoFreeBit}
use Rattle.table_tree.specs.declared.node.Candidate.{Candidate}

-- the regions of the rows, with places from this one on
abbrev pub table_tree_candidates_from : ℕ → List PartRow → List Candidate
table_tree_candidates_from place [] = []
table_tree_candidates_from place (row ∷ rows) =
    record { place = place; region = row.region } ∷ table_tree_candidates_from (place + 1) rows

abbrev pub table_tree_candidates_of : List PartRow → List Candidate
table_tree_candidates_of rows = table_tree_candidates_from 0 rows

-- the candidate's region holds this header number
abbrev pub table_tree_candidate_holds : ℕ → Candidate → Bool
table_tree_candidate_holds number candidate = holds candidate.region number

abbrev pub table_tree_candidate_meets : WordValue → Candidate → Bool
table_tree_candidate_meets region candidate = word_meets candidate.region region

-- those that meet the half of the region in which the bit is 1, or 0: a region that doesn't fix the
-- bit is on both sides
abbrev pub table_tree_side_candidates : List Candidate → WordValue → ℕ → Bool → List Candidate
table_tree_side_candidates candidates region bit one = filter (table_tree_candidate_meets (word_fix_of region bit one))
    candidates

-- every one of the regions fixes the bit
abbrev pub table_tree_all_fix : List Candidate → ℕ → Bool
table_tree_all_fix candidates bit = list_all (λ candidate. is_word_bit_fixed candidate.region bit) candidates

-- some region fixes the bit
abbrev pub table_tree_some_fixes : List Candidate → ℕ → Bool
table_tree_some_fixes candidates bit = list_any (λ candidate. is_word_bit_fixed candidate.region bit) candidates

-- of the bits that are free in the region, the least one that every one of the candidates fixes,
-- or, if there is none, the least one that some candidate fixes
abbrev pub IsTableTreeCutBit : List Candidate → WordValue → ℕ → Type 0
IsTableTreeCutBit candidates region bit =
    IsLeastFreeLookupBit region (table_tree_all_fix candidates) bit
    ⊎ (LookupPassesNoFreeBit region (table_tree_all_fix candidates) × IsLeastFreeLookupBit region (table_tree_some_fixes candidates) bit)

-- the regions of the candidates are words
abbrev pub AreTableTreeRegions : List Candidate → Type 0
AreTableTreeRegions candidates = All (λ candidate. IsWord candidate.region) candidates

-- what is true of the regions that meet a region of the header space: no header is in two of them,
-- and each header of that region is in one
pub record AreTableTreeCandidates (candidates : List Candidate) (region : WordValue) : Type 0 where
  pub whole : IsWord region
  pub words : AreTableTreeRegions candidates
  pub meet : All (λ candidate. IsTrue (table_tree_candidate_meets region candidate)) candidates
  pub one : (number : ℕ) → number < 2 ^ 104 → count_by (table_tree_candidate_holds number) candidates ≤ 1
  pub held : (number : ℕ) → number < 2 ^ 104 → IsTrue (holds region number)
      → IsSome (find (table_tree_candidate_holds number) candidates)
