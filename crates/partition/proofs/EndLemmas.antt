-- The last rule of each partition of a policy covers its region: narrowing keeps the default last,
-- or ends with an earlier rule that covers the region.
use Rattle.std.proofs.Common.{[], ◌++◌, ◌<◌, ◌∙◌, ◌∷◌, All, IsTrue, List, ap, false, inl, inr, true, ℕ}
use Rattle.std.proofs.lemmas.Bool.{cases_Bool, and_from}
use Rattle.std.proofs.lemmas.List.Elements.{All-nil, All-cons, All-append}
use Rattle.ternary.specs.Exports.{WordValue, any_word, word_covers_of, word_fix_of, word_meets}
use Rattle.ternary.proofs.TernaryCallerLemmas.{covers_reflexive, covers_transitive, fix_within, meet_greatest, meets_comm, meets_cover, met_joined}
use Rattle.policy_rules.specs.Exports.{PolicyRulesEndInCover, IsPolicy, LastPolicyRuleCovers, policy_default_rule, policy_rules_of}
use Rattle.policy_rules.specs.declared.policy.Row.{Row}
use Rattle.policy_rules.specs.declared.rules.Rule.{Rule}
use Rattle.policy_rules.proofs.PolicyRulesCallerLemmas.{IsRuleList-rules_of}
use Rattle.cut_tree.specs.Exports.{End, IsDefinedCutTree, IsCutTreeOf, Node, CutTreeShape, cut_leaves_of, narrow, cut_narrowed_rule, side_of_cut, cut_tree_of}
use Rattle.cut_tree.proofs.CutTreeCallerLemmas.{tree_defined}
use Rattle.cut_tree.proofs.CutNarrowing.{narrow_apart, narrow_covered, narrow_more}
use Rattle.partition.specs.Parts.{partitions_of_cut_tree, partitions_of}
use Rattle.partition.proofs.PartLemmas.{numbered_all}

-- ---- a list that is narrowed

-- a rule that covers the region still does when it is narrowed to it
narrowed_covers : (region : WordValue) (rule : Rule) → IsTrue (word_meets rule.word region)
    → IsTrue (word_covers_of rule.word region) → IsTrue
    (word_covers_of (cut_narrowed_rule region rule).word region)
unfolding cut_narrowed_rule
narrowed_covers region rule meet covers =
    meet_greatest rule.word region _ region (met_joined rule.word region meet)
    ∙ and_from _ _ covers (covers_reflexive region)

-- a list whose first rule covers the region ends with it
ends_at_once : (region : WordValue) (rule : Rule) (rules : List Rule)
    → IsTrue (word_meets rule.word region) → IsTrue (word_covers_of rule.word region)
    → PolicyRulesEndInCover region (narrow (rule ∷ rules) region)
ends_at_once region rule rules meet covers = (
  [],
  cut_narrowed_rule region rule,
  narrow_covered region rule rules meet covers,
  narrowed_covers region rule meet covers,
)

narrow_ends : (earlier : List Rule) (last : Rule) (region : WordValue)
    → IsTrue (word_covers_of last.word region) → PolicyRulesEndInCover region (narrow (earlier ++ last ∷ []) region)
narrow_ends [] last region covers = ends_at_once region last []
    (meets_comm last.word region ∙ meets_cover last.word region covers) covers
narrow_ends (rule ∷ earlier) last region covers =
    let rules : List Rule = earlier ++ last ∷ [] in
    let rest = narrow_ends earlier last region covers in
    elim (cases_Bool (word_meets rule.word region)) [
      | inl meet ↦ elim (cases_Bool (word_covers_of rule.word region)) [
        | inl whole ↦ ends_at_once region rule rules meet whole
        | inr past ↦ (
          cut_narrowed_rule region rule ∷ rest.0,
          rest.1,
          cc (narrow_more region rule rules meet past, rest.2),
          rest.3,
        )
      ]
      | inr apart ↦ (rest.0, rest.1, narrow_apart region rule rules apart ∙ rest.2, rest.3)
    ]

-- so do the rules of a half
half_ends : (rules : List Rule) (region half : WordValue) → IsTrue (word_covers_of region half)
    → PolicyRulesEndInCover region rules → PolicyRulesEndInCover half (narrow rules half)
half_ends rules region half within ends =
    let narrowed_rules = narrow_ends ends.0 ends.1 half
    (covers_transitive ends.1.word region half ends.3 within) in (
      narrowed_rules.0,
      narrowed_rules.1,
      ap (λ rs. narrow rs half) ends.2 ∙ narrowed_rules.2,
      narrowed_rules.3,
    )

-- ---- the leaves of a tree

abbrev IsEndedLeaf : WordValue × List Rule → Type 0
IsEndedLeaf leaf = PolicyRulesEndInCover leaf.0 leaf.1

ended_leaves : (tree : CutTreeShape) (rules : List Rule) (region : WordValue) (most : ℕ)
    → IsCutTreeOf rules region most tree → PolicyRulesEndInCover region rules → All IsEndedLeaf (cut_leaves_of tree)
ended_leaves (End r rs) rules region most is ends = All-cons IsEndedLeaf (r, rs) []
    (ends.0, ends.1, is.same_rules ∙ ends.2, rw is.same_region ends.3) (All-nil IsEndedLeaf)
ended_leaves (Node bit low high) rules region most is ends = let free = is.0.least.cuts.free in
    All-append IsEndedLeaf (cut_leaves_of low) (cut_leaves_of high)
    (ended_leaves low (side_of_cut rules region bit false) (word_fix_of region bit false) most is.1
    (half_ends rules region (word_fix_of region bit false) (fix_within region bit false free) ends))
    (ended_leaves high (side_of_cut rules region bit true) (word_fix_of region bit true) most is.2
    (half_ends rules region (word_fix_of region bit true) (fix_within region bit true free) ends))

-- ---- the partitions of a policy

rules_end : (rows : List Row) → IsPolicy rows → PolicyRulesEndInCover any_word (policy_rules_of rows)
rules_end rows policy = let ends = (IsRuleList-rules_of rows policy).ends in
    (ends.0, policy_default_rule _, ends.1, covers_reflexive any_word)

pub parts_ended : (rows : List Row) (most : ℕ) (tree : CutTreeShape) → IsPolicy rows
    → IsDefinedCutTree (policy_rules_of rows) most tree → All LastPolicyRuleCovers (partitions_of_cut_tree tree)
parts_ended rows most tree policy is =
    numbered_all LastPolicyRuleCovers IsEndedLeaf (λ number leaf ended. ended) 0 (cut_leaves_of tree)
    (ended_leaves tree (policy_rules_of rows) any_word most is (rules_end rows policy))

pub partitions_ended : (rows : List Row) (most : ℕ) → 0 < most → IsPolicy rows
    → All LastPolicyRuleCovers (partitions_of (policy_rules_of rows) most)
partitions_ended rows most some policy = parts_ended rows most (cut_tree_of (policy_rules_of rows) most) policy
    (tree_defined (policy_rules_of rows) most some (IsRuleList-rules_of rows policy).words)
