-- The leaves of a tree, as partitions.
use Rattle.std.proofs.Common.{[], ◌&&◌, ◌++◌, ◌+◌, ◌<◌, ◌==◌, ◌∙◌, ◌∷◌, ◌≡◌, ◌≤◌, All, Bool, IsFalse, IsTrue, List, None, Option, Some, add-zero, ap, append_assoc, arith, cond, count_by, drop, false, find, get_or, inl, inr, length, length-append, option_map, refl, suc, sym, true, zero, ℕ, rules}
use Rattle.std.specs.Int.{from_bool}
use Rattle.std.specs.List.{enumerate_from}
use Rattle.std.proofs.lemmas.Bool.{cases_Bool, both_ways, cond-true, cond-false}
use Rattle.std.proofs.lemmas.List.Elements.{All-nil, All-cons, All-head, All-tail, All-append, All-weaker, All-same}
use Rattle.std.proofs.lemmas.List.{length-map}
use Rattle.std.proofs.lemmas.List.FromFn.{length-enumerate_from}
use Rattle.std.proofs.lemmas.List.Sums.{sum_by-append, sum_by-cons}
use Rattle.std.proofs.lemmas.Nat.Bits.{bit_at-lt}
use Rattle.std.proofs.lemmas.Option.{same_Some}
use Rattle.five_tuple.specs.Exports.{header_number_of}
use Rattle.five_tuple.specs.declared.header.Header.{Header}
use Rattle.ternary.specs.Exports.{WordValue, any_word, word_covers_of, word_fix_of, holds, is_word_bit_fixed}
use Rattle.ternary.proofs.TernaryCallerLemmas.{any_holds, covers_held, covers_reflexive, covers_transitive, fix_holds, fix_within}
use Rattle.policy_rules.specs.Exports.{ArePolicyPartitionsNumbered, AreSoundPolicyPartitions, IsPolicy, first_policy_rule, policy_hit_of_rule, is_held_by_policy_rule, is_in_policy_partition, policy_rules_of, scan}
use Rattle.policy_rules.specs.declared.policy.Row.{Row}
use Rattle.policy_rules.specs.declared.policy.Hit.{Hit}
use Rattle.policy_rules.specs.declared.rules.Partition.{Partition}
use Rattle.policy_rules.specs.declared.rules.Rule.{Rule}
use Rattle.policy_rules.proofs.PolicyRulesCallerLemmas.{IsRuleList-rules_of, first_rule-rules_of, at_item}
use Rattle.cut_tree.specs.Exports.{AreCutRuleWords, End, IsDefinedCutTree, IsCutTreeOf, Node, CutTreeShape, cut_leaf_count, cut_leaves_of, narrow, cut_narrowed_rule, side_of_cut, cut_tree_of}
use Rattle.cut_tree.proofs.CutTreeCallerLemmas.{narrow_few, narrow_first, tree_defined}
use Rattle.partition.specs.Parts.{PartitionsDecideAs, PartitionDecidesAs, partition_numbered, partitions_from, partitions_of_cut_tree, partitions_of}

-- what becomes of a header by the first rule that holds it
abbrev hit_at : ℕ → List Rule → Option Hit
hit_at header rules = option_map policy_hit_of_rule (find (is_held_by_policy_rule header) rules)

-- ---- a leaf for each header

one_digit : (t : Bool) (digit : ℕ) → digit < 2 → from_bool (t && (digit == from_bool false))
    + from_bool (t && (digit == from_bool true)) ≡ from_bool t
one_digit t digit small = search rules

counted : (t : Bool) → cond t 1 0 ≡ from_bool t
counted t = search rules

-- a header of the region is in exactly one half
one_half : (region : WordValue) (bit header : ℕ) → IsFalse (is_word_bit_fixed region bit)
    → from_bool (holds (word_fix_of region bit false) header) + from_bool
    (holds (word_fix_of region bit true) header) ≡ from_bool (holds region header)
one_half region bit header free = search (rules, fix_holds, one_digit, bit_at-lt)

-- the leaves of a tree whose region holds the header
abbrev leaves_at : ℕ → List (WordValue × List Rule) → ℕ
leaves_at header leaves = count_by (λ (leaf : WordValue × List Rule). holds leaf.0 header) leaves

leaf_count_at : (tree : CutTreeShape) (rules : List Rule) (region : WordValue) (most header : ℕ)
    → IsCutTreeOf rules region most tree → leaves_at header (cut_leaves_of tree) ≡ from_bool
    (holds region header)
leaf_count_at (End r rs) rules region most header is = rw is.same_region (omega (arith, counted))
leaf_count_at (Node bit low high) rules region most header is =
    let below = leaf_count_at low (side_of_cut rules region bit false) (word_fix_of region bit false) most
    header is.1 in
    let above = leaf_count_at high (side_of_cut rules region bit true) (word_fix_of region bit true) most
    header is.2 in
    let both = sum_by-append (λ (leaf : WordValue × List Rule). cond (holds leaf.0 header) 1 0)
    (cut_leaves_of low) (cut_leaves_of high) in
    omega (arith, both, below, above, one_half region bit header is.0.least.cuts.free)

-- ---- a leaf decides as the whole list

-- a leaf lies within the region, and decides its headers as these rules do
record IsLeafThatDecides (rules : List Rule) (region : WordValue) (header : ℕ)
    (leaf : WordValue × List Rule) : Type 0 where
  pub within : IsTrue (word_covers_of region leaf.0)
  pub few : length leaf.1 ≤ length rules
  pub same : IsTrue (holds leaf.0 header) → hit_at header leaf.1 ≡ hit_at header rules

hit_narrowed : (region : WordValue) (rule : Rule) → policy_hit_of_rule (cut_narrowed_rule region rule)
    ≡ policy_hit_of_rule rule
unfolding cut_narrowed_rule
hit_narrowed region rule = refl

hits_narrowed : (region : WordValue) (rule : Option Rule)
    → option_map policy_hit_of_rule (option_map (cut_narrowed_rule region) rule) ≡ option_map policy_hit_of_rule rule
hits_narrowed region rule = search (rules, hit_narrowed)

-- a leaf of a half is one of the whole
widened : (rules : List Rule) (region half : WordValue) (header : ℕ)
    → IsTrue (word_covers_of region half) → (leaf : WordValue × List Rule)
    → IsLeafThatDecides (narrow rules half) half header leaf → IsLeafThatDecides rules region header
    leaf
widened rules region half header within leaf decides = record {
  within = covers_transitive region half leaf.0 within decides.within;
  few = omega (arith, decides.few, narrow_few rules half);
  same = λ held. let here = covers_held half leaf.0 header decides.within held in
      decides.same held ∙ ap (option_map policy_hit_of_rule) (narrow_first rules half header here)
      ∙ hits_narrowed half (find (is_held_by_policy_rule header) rules);
}

leaves_decide : (tree : CutTreeShape) (rules : List Rule) (region : WordValue) (most header : ℕ)
    → IsCutTreeOf rules region most tree → All (IsLeafThatDecides rules region header) (cut_leaves_of tree)
leaves_decide (End r rs) rules region most header is =
    All-cons (IsLeafThatDecides rules region header) (r, rs) [] (record {
      within = rw is.same_region (covers_reflexive region);
      few = omega (arith, ap length is.same_rules);
      same = λ _. ap (hit_at header) is.same_rules;
    }) (All-nil (IsLeafThatDecides rules region header))
leaves_decide (Node bit low high) rules region most header is =
    let free = is.0.least.cuts.free in
    let half = word_fix_of region bit in
    let above = leaves_decide high (side_of_cut rules region bit true) (half true) most header is.2 in
    All-append (IsLeafThatDecides rules region header) (cut_leaves_of low) (cut_leaves_of high)
    (All-weaker (IsLeafThatDecides (narrow rules (half false)) (half false) header)
    (IsLeafThatDecides rules region header)
    (widened rules region (half false) header (fix_within region bit false free)) (cut_leaves_of low)
    (leaves_decide low (side_of_cut rules region bit false) (half false) most header is.1))
    (All-weaker (IsLeafThatDecides (narrow rules (half true)) (half true) header)
    (IsLeafThatDecides rules region header) (widened rules region (half true) header
    (fix_within region bit true free)) (cut_leaves_of high) above)

-- ---- leaves with numbers

pub numbered_none : (number : ℕ) → partitions_from number [] ≡ []
unfolding partitions_from
numbered_none number = refl

pub numbered_more : (number : ℕ) (leaf : WordValue × List Rule)
    (leaves : List (WordValue × List Rule)) → partitions_from number (leaf ∷ leaves) ≡ partition_numbered
    (number, leaf) ∷ partitions_from (number + 1) leaves
unfolding partitions_from
numbered_more number leaf leaves = refl

numbered_count : (number : ℕ) (leaves : List (WordValue × List Rule)) (header : Header)
    → count_by (is_in_policy_partition header) (partitions_from number leaves) ≡ leaves_at (header_number_of header) leaves
numbered_count number [] header = ap (count_by (is_in_policy_partition header)) (numbered_none number)
numbered_count number (leaf ∷ leaves) header =
    let parts = partitions_from (number + 1) leaves in
    let more = ap (count_by (is_in_policy_partition header)) (numbered_more number leaf leaves) in
    let part = sum_by-cons (λ part. cond (is_in_policy_partition header part) 1 0)
    (partition_numbered (number, leaf)) parts in
    let front =
    sum_by-cons (λ (leaf : WordValue × List Rule). cond (holds leaf.0 (header_number_of header)) 1 0) leaf
    leaves in
    omega (arith, more, part, front, numbered_count (number + 1) leaves header)

pub numbered_all : (P : Partition → Type 0) (Q : WordValue × List Rule → Type 0)
    → ((number : ℕ) (leaf : WordValue × List Rule) → Q leaf → P (partition_numbered (number, leaf)))
    → (number : ℕ) (leaves : List (WordValue × List Rule)) → All Q leaves
    → All P (partitions_from number leaves)
numbered_all P Q each number [] all = All-same P _ _ (numbered_none number) (All-nil P)
numbered_all P Q each number (leaf ∷ leaves) all = All-same P _ _ (numbered_more number leaf leaves)
    (All-cons P (partition_numbered (number, leaf)) (partitions_from (number + 1) leaves)
    (each number leaf (All-head Q leaf leaves all))
    (numbered_all P Q each (number + 1) leaves (All-tail Q leaf leaves all)))

pub numbered_length : (number : ℕ) (leaves : List (WordValue × List Rule))
    → length (partitions_from number leaves) ≡ length leaves
unfolding partitions_from
numbered_length number leaves = length-map (enumerate_from number leaves) partition_numbered
    ∙ length-enumerate_from number leaves

pub numbered_append : (number : ℕ) (a b : List (WordValue × List Rule))
    → partitions_from number (a ++ b) ≡ partitions_from number a ++ partitions_from (number + length a) b
numbered_append number [] b = rw numbered_none (ap (λ n. partitions_from n b) (sym (add-zero number)))
numbered_append number (leaf ∷ a) b = numbered_more number leaf (a ++ b)
    ∙ ap (λ ps. partition_numbered (number, leaf) ∷ ps) (numbered_append (number + 1) a b
    ∙ ap (λ n. partitions_from (number + 1) a ++ partitions_from n b) (omega arith))
    ∙ ap (λ ps. ps ++ partitions_from (number + length (leaf ∷ a)) b)
    (sym (numbered_more number leaf a))

numbers_at : (number : ℕ) (leaves : List (WordValue × List Rule)) (place : ℕ) (d : Partition)
    → place < length leaves → (get_or (partitions_from number leaves) place d).number ≡ number + place
numbers_at number [] place d within = absurd (omega arith)
numbers_at number (leaf ∷ leaves) zero d within = search (rules, numbered_more, add-zero)
numbers_at number (leaf ∷ leaves) (suc place) d within =
    ap (λ ps. (get_or ps (suc place) d).number) (numbered_more number leaf leaves)
    ∙ numbers_at (number + 1) leaves place d (omega arith) ∙ omega arith

-- ---- the partitions of a tree

pub parts_decide : (rules : List Rule) (most : ℕ) (tree : CutTreeShape) → IsDefinedCutTree rules most tree
    → PartitionsDecideAs rules (partitions_of_cut_tree tree)
parts_decide rules most tree is = record {
  one = λ header. numbered_count 0 (cut_leaves_of tree) header ∙ leaf_count_at tree rules any_word most
      (header_number_of header) is ∙ ap from_bool (any_holds (header_number_of header));
  decides = λ header. numbered_all
      (λ part. IsTrue (is_in_policy_partition header part) → PartitionDecidesAs rules header part)
      (IsLeafThatDecides rules any_word (header_number_of header)) (λ number leaf decides. decides.same) 0
      (cut_leaves_of tree) (leaves_decide tree rules any_word most (header_number_of header) is);
  few = numbered_all (λ part. length part.rules ≤ length rules) (IsLeafThatDecides rules any_word 0)
      (λ number leaf decides. decides.few) 0 (cut_leaves_of tree)
      (leaves_decide tree rules any_word most 0 is);
}

pub parts_numbered : (tree : CutTreeShape) → ArePolicyPartitionsNumbered (partitions_of_cut_tree tree)
parts_numbered tree = λ place d within. numbers_at 0 (cut_leaves_of tree) place d
    (omega (arith, within, numbered_length 0 (cut_leaves_of tree))) ∙ omega arith

pub parts_sound : (rows : List Row) (most : ℕ) (tree : CutTreeShape) → IsPolicy rows
    → IsDefinedCutTree (policy_rules_of rows) most tree → AreSoundPolicyPartitions rows (partitions_of_cut_tree tree)
parts_sound rows most tree policy is =
    let decide = parts_decide (policy_rules_of rows) most tree is in record {
      one = λ header good. decide.one header;
      decides = λ header good.
          All-weaker (λ part. IsTrue (is_in_policy_partition header part) → PartitionDecidesAs (policy_rules_of rows) header part)
          (λ part. IsTrue (is_in_policy_partition header part)
          → option_map policy_hit_of_rule (first_policy_rule part.rules header) ≡ Some (scan rows header))
          (λ part decided here. decided here ∙ first_rule-rules_of rows header policy good)
          (partitions_of_cut_tree tree) (decide.decides header);
      numbers = parts_numbered tree;
    }

-- ---- without a tree

pub partitions_decide : (rules : List Rule) (most : ℕ) → 0 < most → AreCutRuleWords rules
    → PartitionsDecideAs rules (partitions_of rules most)
partitions_decide rules most some words = parts_decide rules most (cut_tree_of rules most)
    (tree_defined rules most some words)

pub partitions_sound : (rows : List Row) (most : ℕ) → 0 < most → IsPolicy rows
    → AreSoundPolicyPartitions rows (partitions_of (policy_rules_of rows) most)
partitions_sound rows most some policy = parts_sound rows most (cut_tree_of (policy_rules_of rows) most) policy
    (tree_defined (policy_rules_of rows) most some (IsRuleList-rules_of rows policy).words)

-- ---- the one partition of a header

some_same : (a b : Partition) → Some a ≡ Some b → a ≡ b
some_same a b e = cc

-- none of these partitions has the header
none_in : (header : Header) (parts : List Partition) → count_by (is_in_policy_partition header) parts ≡ 0
    → All (λ part. is_in_policy_partition header part ≡ false) parts
none_in header [] none = All-nil (λ part. is_in_policy_partition header part ≡ false)
none_in header (part ∷ parts) none =
    let front : count_by (is_in_policy_partition header) (part ∷ parts) ≡ cond (is_in_policy_partition header part) 1 0 + count_by
    (is_in_policy_partition header) parts = sum_by-cons (λ part. cond (is_in_policy_partition header part) 1 0) part parts in
    elim (cases_Bool (is_in_policy_partition header part)) [
      | inl here ↦ let one : ◌≡◌ {A = ℕ} (cond (is_in_policy_partition header part) 1 0) 1 =
          cond-true (is_in_policy_partition header part) 1 0 here in absurd (omega (arith, front, none, one))
      | inr away ↦ All-cons (λ part. is_in_policy_partition header part ≡ false) part parts away
          (none_in header parts (omega (arith, front, none)))
    ]

-- the first partition of the header is the only one
found_alone : (header : Header) (parts : List Partition) (found : Partition)
    → count_by (is_in_policy_partition header) parts ≡ 1 → find (is_in_policy_partition header) parts ≡ Some found
    → All (λ part. IsTrue (is_in_policy_partition header part) → part.number ≡ found.number) parts
found_alone header [] found one is = absurd (omega (arith, one))
found_alone header (part ∷ parts) found one is =
    let P : Partition → Type 0 = λ part. IsTrue (is_in_policy_partition header part) → part.number ≡ found.number in
    let front : count_by (is_in_policy_partition header) (part ∷ parts) ≡ cond (is_in_policy_partition header part) 1 0 + count_by
    (is_in_policy_partition header) parts = sum_by-cons (λ part. cond (is_in_policy_partition header part) 1 0) part parts in
    elim (cases_Bool (is_in_policy_partition header part)) [
      | inl here ↦ let once : ◌≡◌ {A = ℕ} (cond (is_in_policy_partition header part) 1 0) 1 =
          cond-true (is_in_policy_partition header part) 1 0 here in
          let rest : count_by (is_in_policy_partition header) parts ≡ 0 = omega (arith, front, one, once) in
          let same : part ≡ found = some_same part found
          (sym (cond-true _ (Some part) (find (is_in_policy_partition header) parts) here) ∙ is) in
          All-cons P part parts (λ _. ap (λ (p : Partition). p.number) same)
          (All-weaker (λ part. is_in_policy_partition header part ≡ false) P
          (λ other away hit. absurd (both_ways _ away hit)) parts (none_in header parts rest))
      | inr away ↦ let never : ◌≡◌ {A = ℕ} (cond (is_in_policy_partition header part) 1 0) 0 =
          cond-false (is_in_policy_partition header part) 1 0 away in
          let rest : count_by (is_in_policy_partition header) parts ≡ 1 = omega (arith, front, one, never) in
          All-cons P part parts (λ hit. absurd (both_ways _ away hit))
          (found_alone header parts found rest
          (sym (cond-false _ (Some part) (find (is_in_policy_partition header) parts) away) ∙ is))
    ]

alone_by : (header : Header) (parts : List Partition) (number : ℕ) → count_by (is_in_policy_partition header) parts
    ≡ 1 → (found : Option Partition) → find (is_in_policy_partition header) parts ≡ found
    → option_map (λ (part : Partition). part.number) found ≡ Some number
    → All (λ part. IsTrue (is_in_policy_partition header part) → part.number ≡ number) parts
alone_by header parts number one None is miss = cc
alone_by header parts number one (Some found) is same =
    All-weaker (λ part. IsTrue (is_in_policy_partition header part) → part.number ≡ found.number)
    (λ part. IsTrue (is_in_policy_partition header part) → part.number ≡ number) (λ part equal hit. equal hit
    ∙ same_Some found.number number same) parts (found_alone header parts found one is)

pub alone : (header : Header) (parts : List Partition) (number : ℕ) → count_by (is_in_policy_partition header) parts
    ≡ 1 → option_map (λ (part : Partition). part.number) (find (is_in_policy_partition header) parts) ≡ Some number
    → All (λ part. IsTrue (is_in_policy_partition header part) → part.number ≡ number) parts
alone header parts number one is = alone_by header parts number one (find (is_in_policy_partition header) parts) refl
    is

-- ---- partitions from one on, as a loop reads them

pub part_here : (header : Header) (parts : List Partition) (index : ℕ) (part : Partition)
    → index < length parts → part ≡ get_or parts index part → is_in_policy_partition header part ≡ true
    → find (is_in_policy_partition header) (drop index parts) ≡ Some part
part_here header parts index part within is here =
    at_item (find (is_in_policy_partition header)) parts index part within is
    ∙ cond-true _ (Some part) (find (is_in_policy_partition header) (drop (index + 1) parts)) here

-- ---- partitions pushed leaf by leaf

pub pushed_leaf : (old : List Partition) (tree : CutTreeShape) (number : ℕ) (region : WordValue)
    (rules copy : List Rule) → tree ≡ End region rules → copy ≡ rules → number ≡ length old
    → old ++ record { number = number; region = region; rules = copy } ∷ [] ≡ old ++ partitions_from
    (length old) (cut_leaves_of tree)
unfolding partitions_from
pushed_leaf old tree number region rules copy is same last = rw (is, same, last) refl

pub pushed_room : (old new : List Partition) (tree low high : CutTreeShape) (bit most : ℕ)
    → tree ≡ Node bit low high → new ≡ old ++ partitions_from (length old) (cut_leaves_of low)
    → length old + cut_leaf_count tree < most → length new + cut_leaf_count high < most
pushed_room old new tree low high bit most is pushed room =
    search (rules, length-append, numbered_length)

pub pushed_both : (old middle new : List Partition) (tree low high : CutTreeShape) (bit : ℕ)
    → tree ≡ Node bit low high → middle ≡ old ++ partitions_from (length old) (cut_leaves_of low)
    → new ≡ middle ++ partitions_from (length middle) (cut_leaves_of high)
    → new ≡ old ++ partitions_from (length old) (cut_leaves_of tree)
pushed_both old middle new tree low high bit is first second =
    search (rules, length-append, numbered_length, numbered_append, append_assoc)

some_leaf : (tree : CutTreeShape) → 0 < cut_leaf_count tree
some_leaf (End region rules) = omega arith
some_leaf (Node bit low high) =
    omega (arith, some_leaf low, length-append (cut_leaves_of low) (cut_leaves_of high))

-- how many leaves a cut has
pub both_sides : (tree low high : CutTreeShape) (bit : ℕ) → tree ≡ Node bit low high
    → (cut_leaf_count tree ≡ cut_leaf_count low + cut_leaf_count high) × (0 < cut_leaf_count low)
    × (0 < cut_leaf_count high)
both_sides tree low high bit is = search (rules, length-append, some_leaf)
