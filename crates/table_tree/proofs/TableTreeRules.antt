-- Where a rule tree leads.
use Rattle.std.proofs.Common.{[], ◌&&◌, ◌*◌, ◌+◌, ◌-◌, ◌<◌, ◌∙◌, ◌∷◌, ◌≡◌, ◌≤◌, All, Bool, Global, IsTrue, List, None, Option, Some, Vec, ap, arith, cond, false, find, inl, inr, le-ltb, length, map, option_map, position, refl, slice_get, subst, suc, sym, true, zero, ℕ, rules}
use Rattle.std.specs.List.{position_from}
use Rattle.std.proofs.lemmas.Iterator.Adapters.{position_from-zero}
use Rattle.std.specs.Option.{option_map_or}
use Rattle.std.proofs.lemmas.Bool.{cases_Bool}
use Rattle.std.proofs.lemmas.Bool.Decides.{nat_tests}
use Rattle.std.proofs.lemmas.List.Elements.{All-nil, All-cons, All-head, All-tail, All-same}
use Rattle.std.proofs.Math.Bool.{and-true}
use Rattle.policy_rules.proofs.PolicyRulesCallerLemmas.{find-map, find_agree}
use Rattle.ternary.specs.Exports.{WordValue, word_covers_of, word_fix_of, holds, meeting_word, word_meets}
use Rattle.ternary.proofs.TernaryCallerLemmas.{meet_both, met_joined}
use Rattle.policy_rules.specs.Exports.{is_held_by_policy_rule}
use Rattle.policy_rules.specs.declared.rules.Rule.{Rule}
use Rattle.cut_tree.specs.Exports.{IsCuttableBit, least_cut_cost_below, narrow, cut_narrowed_rule, side_of_cut}
use Rattle.cut_tree.specs.declared.choice.Cost.{Cost}
use Rattle.cut_tree.proofs.CutTreeCallerLemmas.{narrow_first}
use Rattle.cut_tree.proofs.CutLemmas.{least_cuts}
use Rattle.cut_tree.proofs.CutNarrowing.{narrow_apart, narrow_covered, narrow_more, narrow_none}
use Rattle.table_tree.specs.Ruling.{is_held_by_lookup_rule, table_tree_if_pays, table_tree_by_cut, table_tree_paying_cut, table_tree_worth_cutting, table_tree_ranked_rules, table_tree_rule_shape, table_rule_tree, table_rule_tree_within}
use Rattle.table_tree.specs.LookupTrees.{LookupTree, Leaf, Sides, table_tree_leaf_at, lookup_tree_of}
use Rattle.table_tree.specs.declared.bit_tree.BitTree.{BitTree}
use Rattle.table_tree.proofs.TableTreeLookup.{down, seen_at}

abbrev pub rank_of : Rule → ℕ
rank_of rule = rule.rank

-- ---- the tree, node by node

pub within_end : (cuts : ℕ) (rules : List Rule) (region : WordValue)
    → None ≡ table_tree_paying_cut cuts rules region
    → Leaf (map rank_of rules) ≡ table_rule_tree_within cuts rules region
unfolding table_rule_tree_within
within_end zero rules region none = refl
within_end (suc cuts) rules region none = ap (table_tree_by_cut (table_rule_tree_within cuts) rules region) none

pub within_cut : (cuts : ℕ) (rules : List Rule) (region : WordValue) (cost : Cost)
    (low high : List Rule) (lower higher : WordValue) (a b : LookupTree (List ℕ)) → 0 < cuts
    → Some cost ≡ table_tree_paying_cut cuts rules region → low ≡ side_of_cut rules region cost.bit false
    → lower ≡ word_fix_of region cost.bit false → high ≡ side_of_cut rules region cost.bit true
    → higher ≡ word_fix_of region cost.bit true → a ≡ table_rule_tree_within (cuts - 1) low lower
    → b ≡ table_rule_tree_within (cuts - 1) high higher
    → Sides cost.bit a b ≡ table_rule_tree_within cuts rules region
unfolding table_rule_tree_within
within_cut zero rules region cost low high lower higher a b some is l lr h hr p q = search rules
within_cut (suc cuts) rules region cost low high lower higher a b some is l lr h hr p q =
    let less : suc cuts - 1 ≡ cuts = omega arith in
    rw (p, q, less, l, lr, h, hr) (ap (table_tree_by_cut (table_rule_tree_within cuts) rules region) is)

-- ---- the cut of a node

pub none_left : (cuts : ℕ) (rules : List Rule) (region : WordValue) → cuts ≡ 0
    → None ≡ table_tree_paying_cut cuts rules region
none_left cuts rules region none = search rules

pub few_stay : (cuts : ℕ) (rules : List Rule) (region : WordValue) → length rules ≤ 16
    → None ≡ table_tree_paying_cut cuts rules region
few_stay zero rules region few = refl
few_stay (suc cuts) rules region few = by_cost (least_cut_cost_below 104 rules region) where
  by_cost : (least : Option Cost) → None ≡ table_tree_if_pays (length rules) least
  by_cost None = refl
  by_cost (Some cost) = rw (le-ltb 16 (length rules) few) refl

-- the cut that costs least is made where it pays
weighed : (cuts : ℕ) (rules : List Rule) (region : WordValue) (cost : Cost) (pay : Bool) → 0 < cuts
    → least_cut_cost_below 104 rules region ≡ Some cost → table_tree_worth_cutting (length rules) cost ≡ pay
    → cond pay (Some cost) None ≡ table_tree_paying_cut cuts rules region
weighed zero rules region cost pay some is paid = absurd (omega arith)
weighed (suc cuts) rules region cost pay some is paid = rw (is, paid) refl

pub cut_pays : (cuts : ℕ) (rules : List Rule) (region : WordValue) (cost : Cost) → 0 < cuts
    → 16 < length rules → cost.larger < length rules → 4 * cost.sum ≤ 5 * length rules
    → least_cut_cost_below 104 rules region ≡ Some cost → Some cost ≡ table_tree_paying_cut cuts rules region
cut_pays cuts rules region cost some many fewer both is =
    weighed cuts rules region cost true some is (grind (arith, nat_tests))

pub large_stays : (cuts : ℕ) (rules : List Rule) (region : WordValue) (cost : Cost) → 0 < cuts
    → 16 < length rules → length rules ≤ cost.larger
    → least_cut_cost_below 104 rules region ≡ Some cost → None ≡ table_tree_paying_cut cuts rules region
large_stays cuts rules region cost some many large is =
    weighed cuts rules region cost false some is (grind (arith, nat_tests))

pub spread_stays : (cuts : ℕ) (rules : List Rule) (region : WordValue) (cost : Cost) → 0 < cuts
    → 16 < length rules → cost.larger < length rules → 5 * length rules < 4 * cost.sum
    → least_cut_cost_below 104 rules region ≡ Some cost → None ≡ table_tree_paying_cut cuts rules region
spread_stays cuts rules region cost some many fewer both is =
    weighed cuts rules region cost false some is (grind (arith, nat_tests))

paying_free : (rules : List Rule) (region : WordValue) (count : ℕ) (cost : Cost)
    → table_tree_if_pays count (least_cut_cost_below 104 rules region) ≡ Some cost → IsCuttableBit region cost.bit
paying_free rules region count cost is = by_least (least_cut_cost_below 104 rules region) refl is where
  by_least : (least : Option Cost) → least_cut_cost_below 104 rules region ≡ least
      → table_tree_if_pays count least ≡ Some cost → IsCuttableBit region cost.bit
  by_least None none pay = absurd (cc)
  by_least (Some best) found pay = by_test (table_tree_worth_cutting count best) pay where
    by_test : (b : Bool) → cond b (Some best) None ≡ Some cost → IsCuttableBit region cost.bit
    by_test true same = let equal : best ≡ cost = cc in
        subst (λ (c : Cost). IsCuttableBit region c.bit) equal
        (least_cuts rules region best found).cuts
    by_test false none = absurd (cc)

-- ---- narrowed rules, by their places

-- the rule at the rank holds the header where the rule does
abbrev pub Agrees : List Rule → ℕ → Rule → Type 0
Agrees rules number rule = is_held_by_lookup_rule rules number rule.rank ≡ holds rule.word number

narrow_keeps : (P : Rule → Type 0) (rules : List Rule) (region : WordValue)
    → ((rule : Rule) → word_meets rule.word region ≡ true → P rule → P (cut_narrowed_rule region rule))
    → All P rules → All P (narrow rules region)
narrow_keeps P [] region each all = All-same P _ _ (narrow_none region) (All-nil P)
narrow_keeps P (rule ∷ rules) region each all =
    let rest = narrow_keeps P rules region each (All-tail P rule rules all) in
    let here = All-head P rule rules all in
    elim (cases_Bool (word_meets rule.word region)) [
      | inl meet ↦ elim (cases_Bool (word_covers_of rule.word region)) [
        | inl covers ↦ All-same P _ _ (narrow_covered region rule rules meet covers)
            (All-cons P (cut_narrowed_rule region rule) [] (each rule meet here) (All-nil P))
        | inr past ↦ All-same P _ _ (narrow_more region rule rules meet past) (All-cons P
            (cut_narrowed_rule region rule) (narrow rules region) (each rule meet here) rest)
      ]
      | inr apart ↦ All-same P _ _ (narrow_apart region rule rules apart) rest
    ]

narrowed_agrees : (list : List Rule) (region : WordValue) (number : ℕ) (rule : Rule)
    → IsTrue (holds region number) → word_meets rule.word region ≡ true → Agrees list number rule
    → Agrees list number (cut_narrowed_rule region rule)
unfolding cut_narrowed_rule
narrowed_agrees list region number rule inside meet agrees = agrees ∙ sym (meet_both rule.word
    region (meeting_word rule.word region) (met_joined rule.word region meet) number
    ∙ ap (λ t. holds rule.word number && t) inside ∙ and-true (holds rule.word number))

side_agrees : (list rules : List Rule) (region : WordValue) (number : ℕ)
    → IsTrue (holds region number) → All (Agrees list number) rules
    → All (Agrees list number) (narrow rules region)
side_agrees list rules region number inside all = search (rules, narrow_keeps, narrowed_agrees)

rank_kept : (region : WordValue) (found : Option Rule)
    → option_map rank_of (option_map (cut_narrowed_rule region) found) ≡ option_map rank_of found
unfolding cut_narrowed_rule
rank_kept region found = search rules

-- narrowing keeps the place of the first rule that holds a header of the region
first_kept : (rules : List Rule) (region : WordValue) (number : ℕ) → IsTrue (holds region number)
    → option_map rank_of (find (is_held_by_policy_rule number) (narrow rules region))
    ≡ option_map rank_of (find (is_held_by_policy_rule number) rules)
first_kept rules region number inside = search (rules, narrow_first, rank_kept)

-- ---- down the tree

-- the first of the places whose rule holds the header is that of the first of the rules that does
abbrev Finds : List Rule → List Rule → ℕ → List ℕ → Type 0
Finds list rules number places =
    find (is_held_by_lookup_rule list number) places ≡ option_map rank_of (find (is_held_by_policy_rule number) rules)

end_finds : (list rules : List Rule) (number : ℕ) → All (Agrees list number) rules
    → Finds list rules number (map rank_of rules)
end_finds list rules number all = find-map (is_held_by_lookup_rule list number) rank_of rules
    ∙ ap (option_map rank_of)
    (find_agree (λ (rule : Rule). is_held_by_lookup_rule list number rule.rank) (is_held_by_policy_rule number) rules all)

-- the bits of a header lead to the place of the first rule that holds it
leads : (cuts : ℕ) (list rules : List Rule) (region : WordValue) (number : ℕ)
    → IsTrue (holds region number) → All (Agrees list number) rules
    → Finds list rules number (table_tree_leaf_at number (table_rule_tree_within cuts rules region))
unfolding table_rule_tree_within
leads zero list rules region number inside all = end_finds list rules number all
leads (suc cuts) list rules region number inside all = by_cut (table_tree_paying_cut (suc cuts) rules region)
    refl (λ bit one within. leads cuts list (side_of_cut rules region bit one) (word_fix_of region bit one)
    number within (side_agrees list rules (word_fix_of region bit one) number within all)
    ∙ first_kept rules (word_fix_of region bit one) number within)
  where
    by_cut : (cut : Option Cost) → table_tree_paying_cut (suc cuts) rules region ≡ cut
        → ((bit : ℕ) (one : Bool) → IsTrue (holds (word_fix_of region bit one) number)
        → Finds list rules number (table_tree_leaf_at number
        (table_rule_tree_within cuts (side_of_cut rules region bit one) (word_fix_of region bit one))))
        → Finds list rules number (table_tree_leaf_at number
        (table_tree_by_cut (table_rule_tree_within cuts) rules region cut))
    by_cut None none sides = end_finds list rules number all
    by_cut (Some cost) is sides = down (Finds list rules number) region cost.bit number
        (table_rule_tree_within cuts (side_of_cut rules region cost.bit false) (word_fix_of region cost.bit false))
        (table_rule_tree_within cuts (side_of_cut rules region cost.bit true) (word_fix_of region cost.bit true))
        (paying_free rules region (length rules) cost is).free inside (sides cost.bit false)
        (sides cost.bit true)

-- ---- the root

pub length_ranked : (place : ℕ) (rules : List Rule)
    → length (table_tree_ranked_rules place rules) ≡ length rules
length_ranked place [] = refl
length_ranked place (rule ∷ rules) = ap suc (length_ranked (place + 1) rules)

ranked_agrees : (list : List Rule) (number place : ℕ) (rules : List Rule)
    → ((i : ℕ) → slice_get list (place + i) ≡ slice_get rules i)
    → All (Agrees list number) (table_tree_ranked_rules place rules)
ranked_agrees list number place [] same = All-nil (Agrees list number)
ranked_agrees list number place (rule ∷ rules) same =
    let at : slice_get list place ≡ Some rule = sym (ap (slice_get list) (omega arith)) ∙ same 0 in
    All-cons (Agrees list number) (record rule { rank = place }) (table_tree_ranked_rules (place + 1) rules)
    (ap (λ found. option_map_or (λ (r : Rule). holds r.word number) found false) at)
    (ranked_agrees list number (place + 1) rules
    (λ i. let next : place + 1 + i ≡ place + suc i = omega arith in
    ap (slice_get list) next ∙ same (suc i)))

ranked_position : (number place : ℕ) (rules : List Rule)
    → option_map rank_of (find (is_held_by_policy_rule number) (table_tree_ranked_rules place rules))
    ≡ position_from (is_held_by_policy_rule number) place rules
ranked_position number place [] = refl
ranked_position number place (rule ∷ rules) = elim (cases_Bool (holds rule.word number)) [
  | inl held ↦ rw held refl
  | inr past ↦ rw past (ranked_position number (place + 1) rules)
]

-- the tree of a list leads each header of the region to the first of its rules that holds it
pub tree_first : (list : List Rule) (region : WordValue) (number : ℕ) → IsTrue (holds region number)
    → find (is_held_by_lookup_rule list number) (table_tree_leaf_at number (table_rule_tree list region))
    ≡ position (is_held_by_policy_rule number) list
unfolding table_rule_tree
tree_first list region number inside =
    let ranked = table_tree_ranked_rules 0 list in
    let agree = ranked_agrees list number 0 list (λ i. ap (slice_get list) (none_more i)) in
    leads 12 list (narrow ranked region) region number inside
    (side_agrees list ranked region number inside agree)
    ∙ first_kept ranked region number inside
    ∙ ranked_position number 0 list
    ∙ sym (position_from-zero (is_held_by_policy_rule number) list)
  where
    none_more : (n : ℕ) → 0 + n ≡ n
    none_more n = omega arith

-- as `first` reads it
pub first_is : (list : List Rule) (region : WordValue) (tree : BitTree (Vec ℕ Global)) (number h : ℕ)
    (end : Vec ℕ Global) (places : List ℕ) (found : Option ℕ) → table_tree_rule_shape tree ≡ table_rule_tree list region
    → IsTrue (holds region h) → number ≡ h → end ≡ table_tree_leaf_at number (lookup_tree_of (λ x. x) tree)
    → places ≡ end.items
    → found ≡ find (is_held_by_lookup_rule list number) places → found ≡ position (is_held_by_policy_rule h) list
first_is list region tree number h end places found built inside same at read is =
    is ∙ ap (find (is_held_by_lookup_rule list number)) (read ∙ ap (λ (v : Vec ℕ Global). v.items) at
    ∙ seen_at (λ (v : Vec ℕ Global). v.items) number tree ∙ ap (table_tree_leaf_at number) built)
    ∙ tree_first list region number (rw same inside) ∙ ap (λ n. position (is_held_by_policy_rule n) list) same
