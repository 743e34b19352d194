-- The laws of narrowing and of trees: a function of `src` ensures each record.
use Rattle.std.specs.Prelude.{◌<◌, ◌≡◌, IsTrue, List, find, option_map, ℕ}
use Rattle.ternary.specs.Exports.{WordValue, word_covers_of, holds}
use Rattle.policy_rules.specs.Exports.{is_held_by_policy_rule}
use Rattle.policy_rules.specs.declared.rules.Rule.{Rule}
use Rattle.cut_tree.specs.DefinedTree.{IsDefinedCutTree, cut_tree_of}
use Rattle.cut_tree.specs.Narrow.{narrow, cut_narrowed_rule}
use Rattle.cut_tree.specs.Nodes.{AreCutRuleWords}
use Rattle.cut_tree.specs.Shape.{CutTreeShape}

pub record CutNarrowingLaws : Type 0 where
  -- narrowing to a region, and then to one within it, is narrowing to the latter
  pub twice : (rules : List Rule) (outer inner : WordValue) → IsTrue (word_covers_of outer inner) →
      narrow (narrow rules outer) inner ≡ narrow rules inner
  -- the first rule that holds a header of the region is that of the whole list, narrowed
  pub first : (rules : List Rule) (region : WordValue) (header : ℕ) → IsTrue (holds region header) →
      find (is_held_by_policy_rule header) (narrow rules region)
      ≡ option_map (cut_narrowed_rule region) (find (is_held_by_policy_rule header) rules)

pub record CutTreeLaws : Type 0 where
  -- a list of rules has a tree for each cap of one or more
  pub exists : (rules : List Rule) (cap : ℕ) → 0 < cap → AreCutRuleWords rules →
      IsDefinedCutTree rules cap (cut_tree_of rules cap)
  -- and only one
  pub only : (rules : List Rule) (cap : ℕ) (a b : CutTreeShape) →
      IsDefinedCutTree rules cap a → IsDefinedCutTree rules cap b → a ≡ b
