-- A decision tree that finds the partition rule of a header: the tree is that of Yu, Rexford,
-- Freedman and Wang, "Scalable Flow-Based Networking with DIFANE", SIGCOMM 2010; the order of the
-- bits is this project's own.
use Rattle.std.specs.Prelude.{◌<◌, ◌≡◌, ◌≢◌, ◌⊎◌, All, List, false, length, map, true, ℕ}
use Rattle.ternary.specs.Exports.{WordValue, any_word, word_fix_of}
use Rattle.switch_table.specs.Exports.{AreSoundSwitchTables}
use Rattle.switch_table.specs.declared.tables.PartRow.{PartRow}
use Rattle.switch_table.specs.declared.tables.Tables.{Tables}
use Rattle.policy_rules.specs.declared.rules.Partition.{Partition}
use Rattle.table_tree.specs.Cutting.{LookupPassesNoFreeBit}
use Rattle.table_tree.specs.Regions.{AreTableTreeRegions, IsTableTreeCutBit, table_tree_side_candidates, table_tree_some_fixes, table_tree_candidates_of}
use Rattle.table_tree.specs.Ruling.{part_lookup_tree, table_tree_seen}
use Rattle.table_tree.specs.LookupTrees.{LookupTree, Leaf, Sides, lookup_tree_of}
use Rattle.table_tree.specs.declared.rule_tree.RuleTree.{RuleTree}
use Rattle.table_tree.specs.declared.node.Candidate.{Candidate}
use Rattle.table_tree.specs.declared.bit_tree.BitTree.{BitTree}
use Rattle.table_tree.specs.declared.trees.TableTrees.{TableTrees}

-- the shape of a tree, which leads to places of the partition rules
abbrev pub table_tree_candidate_shape : BitTree ℕ → LookupTree ℕ
table_tree_candidate_shape tree = lookup_tree_of (λ place. place) tree

-- one region is left, and this is its place
pub record IsTableTreeEnd (candidates : List Candidate) (place : ℕ) : Type 0 where
  pub one : length candidates ≡ 1
  pub there : All (λ candidate. candidate.place ≡ place) candidates

-- the tree of these regions within a region: more than one are separated at their cut bit
abbrev pub IsLookupTreeOfCandidates : List Candidate → WordValue → LookupTree ℕ → Type 0
IsLookupTreeOfCandidates candidates region (Leaf place) = IsTableTreeEnd candidates place
IsLookupTreeOfCandidates candidates region (Sides bit low high) =
    (1 < length candidates) × IsTableTreeCutBit candidates region bit
    × IsLookupTreeOfCandidates (table_tree_side_candidates candidates region bit false) (word_fix_of region bit false)
    low
    × IsLookupTreeOfCandidates (table_tree_side_candidates candidates region bit true) (word_fix_of region bit true)
    high

-- none or several regions are left, and none of them fixes a free bit
pub record IsTableTreeStuck (candidates : List Candidate) (region : WordValue) : Type 0 where
  pub not_one : length candidates ≢ 1
  pub none : LookupPassesNoFreeBit region (table_tree_some_fixes candidates)

-- a tree that is built in the same way from regions of any kind, some of which can't be separated
abbrev pub IsGrownTableTree : List Candidate → WordValue → LookupTree ℕ → Type 0
IsGrownTableTree candidates region (Leaf place) = IsTableTreeEnd candidates place ⊎ IsTableTreeStuck candidates region
IsGrownTableTree candidates region (Sides bit low high) =
    (length candidates ≢ 1) × IsTableTreeCutBit candidates region bit
    × IsGrownTableTree (table_tree_side_candidates candidates region bit false) (word_fix_of region bit false) low
    × IsGrownTableTree (table_tree_side_candidates candidates region bit true) (word_fix_of region bit true) high

-- the tree of the partition rules
abbrev pub IsTableFinderTree : List PartRow → LookupTree ℕ → Type 0
IsTableFinderTree rows tree = IsLookupTreeOfCandidates (table_tree_candidates_of rows) any_word tree

-- the trees that are built from these partition rules and authority partitions
pub record AreTableTreesOf (rows : List PartRow) (parts : List Partition) (trees : TableTrees) : Type 0 where
  pub words : AreTableTreeRegions (table_tree_candidates_of rows)
  pub tree : IsGrownTableTree (table_tree_candidates_of rows) any_word (table_tree_candidate_shape trees.tree)
  pub rules : map table_tree_seen trees.rule_trees.items ≡ map part_lookup_tree parts

-- the tables of a finder, and its tree
pub record TableTreeFinderValue : Type 0 where
  pub tables : Tables
  pub tree : BitTree ℕ

-- the tables are sound, the tree is theirs, and these are the trees of the authority partitions
pub record IsTableTreeFinder (finder : TableTreeFinderValue) (rule_trees : List RuleTree) : Type 0 where
  pub sound : AreSoundSwitchTables finder.tables
  pub tree : IsTableFinderTree finder.tables.parts (table_tree_candidate_shape finder.tree)
  pub rules : map table_tree_seen rule_trees ≡ map part_lookup_tree finder.tables.auth
