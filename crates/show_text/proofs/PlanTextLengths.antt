-- Each line of a plan or of tables is short.
use Rattle.std.proofs.Common.{[], ◌++◌, ◌<◌, ◌^◌, ◌∷◌, ◌≤◌, List, arith, codes, decimal, length, ℕ}
use Rattle.base.proofs.Exports.{length-decimal-le}
use Rattle.lines.proofs.LinePrintedLengths.{IsWithin, action_within, all_of, name_within, names_within, number, joined_within, rule_within, widened, with_text, word_within}
use Rattle.lines.specs.Sizes.{IsPrintedLineAction, IsNumberInPrintedLine, IsPrintedLineRule}
use Rattle.net_file.specs.Exports.{IsNet, NetNameLaws, net_switch_name_of}
use Rattle.net_file.specs.declared.net.Net.{Net}
use Rattle.policy_rules.specs.declared.rules.Partition.{Partition}
use Rattle.policy_rules.specs.declared.rules.Rule.{Rule}
use Rattle.show_text.specs.Text.{shown_with_line_feed, shown_plan_part_text, shown_plan_region_text, shown_table_row_line, shown_rule_text, shown_plan_targets_text}
use Rattle.switch_table.specs.declared.tables.PartRow.{PartRow}
use Rattle.ternary.specs.Exports.{WordValue}

fits : {m : ℕ} {text : List ℕ} → IsWithin m text → m < 2048 → length (shown_with_line_feed text) ≤ 2048
fits is small =
    let ended = widened (with_text is (10 ∷ [])) 2048 (omega (arith, small)) in ended.size

count : (n : ℕ) → n < 2 ^ 64 → IsWithin 20 (decimal n)
count n small = record {
  size = length-decimal-le 20 n (omega arith) (omega (arith, small)) (omega (arith, small));
}

pub rule_fits : (rule : Rule) → IsNumberInPrintedLine rule.rank → IsPrintedLineRule rule.rule → IsPrintedLineAction rule.action
    → length (shown_with_line_feed (shown_rule_text rule)) ≤ 2048
rule_fits rule rank name action = fits
    (joined_within (with_text (joined_within (with_text (joined_within (with_text (joined_within (all_of (codes "  rank "))
    (number rule.rank rank)) (codes " rule ")) (rule_within rule.rule name)) (codes " word "))
    (word_within rule.word)) (codes " ")) (action_within rule.action action)) (omega arith)

pub count_fits : (title : List ℕ) (n : ℕ) → length title ≤ 100 → n < 2 ^ 64
    → length (shown_with_line_feed (title ++ decimal n)) ≤ 2048
count_fits title n short small = let before : IsWithin 100 title = record { size = short } in
    fits (joined_within before (count n small)) (omega arith)

region_within : (n : ℕ) (region : WordValue) → n < 2 ^ 64 → IsWithin 86 (shown_plan_region_text n region)
region_within n region small =
    joined_within (with_text (joined_within (all_of (codes "part ")) (count n small)) (codes " region "))
    (word_within region)

part_within : (part : Partition) → part.number < 2 ^ 64 → length part.rules < 2 ^ 64
    → IsWithin 113 (shown_plan_part_text part)
part_within part n rules =
    joined_within (with_text (region_within part.number part.region n) (codes " rules "))
    (count (length part.rules) rules)

pub part_fits : (part : Partition) → part.number < 2 ^ 64 → length part.rules < 2 ^ 64
    → length (shown_with_line_feed (shown_plan_part_text part)) ≤ 2048
part_fits part n rules = fits (part_within part n rules) (omega arith)

module _ (laws : NetNameLaws) (net : Net) (sound : IsNet net) where
  targets_within : (targets : List ℕ) → length targets ≤ 4 → IsWithin 76 (shown_plan_targets_text net targets)
  targets_within targets few =
      widened (joined_within (all_of (codes " targets")) (names_within laws net sound targets)) 76
      (omega (arith, few))

  pub switch_fits : (s version : ℕ) → version < 2 ^ 32
      → length (shown_with_line_feed (codes "switch " ++ net_switch_name_of net s ++ codes " version " ++ decimal version))
      ≤ 2048
  switch_fits s version small = fits
      (joined_within (with_text (joined_within (all_of (codes "switch ")) (name_within laws net sound s))
      (codes " version ")) (number version small)) (omega arith)

  pub hosted_fits : (part : Partition) (targets : List ℕ) → part.number < 2 ^ 64
      → length part.rules < 2 ^ 64 → length targets ≤ 4
      → length (shown_with_line_feed (shown_plan_part_text part ++ shown_plan_targets_text net targets)) ≤ 2048
  hosted_fits part targets n rules few = fits
      (joined_within (part_within part n rules) (targets_within targets few)) (omega arith)

  pub row_fits : (n : ℕ) (row : PartRow) → n < 2 ^ 64 → length row.targets ≤ 4
      → length (shown_table_row_line net (n, row)) ≤ 2048
  row_fits n row small few = fits
      (joined_within (region_within n row.region small) (targets_within row.targets few)) (omega arith)
