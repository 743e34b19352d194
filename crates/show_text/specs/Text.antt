-- The texts of plans and of tables, one fact a line.
use Rattle.std.specs.Prelude.{[], ◌++◌, ◌∷◌, List, codes, decimal, flat_map, length, ℕ}
use Rattle.base.specs.Exports.{enumerate_from}
use Rattle.net_file.specs.Exports.{net_switch_name_of, net_switch_names_text}
use Rattle.net_file.specs.declared.net.Net.{Net}
use Rattle.partition.specs.Plan.{HostedPolicyPartition}
use Rattle.policy_rules.specs.Exports.{policy_action_text, policy_rule_text, policy_row_word_total}
use Rattle.policy_rules.specs.declared.policy.Row.{Row}
use Rattle.policy_rules.specs.declared.rules.Partition.{Partition}
use Rattle.policy_rules.specs.declared.rules.Rule.{Rule}
use Rattle.switch_table.specs.declared.tables.PartRow.{PartRow}
use Rattle.switch_table.specs.declared.tables.Tables.{Tables}
use Rattle.ternary.specs.Exports.{WordValue, ternary_word_text}

-- a line with its line feed
abbrev pub shown_with_line_feed : List ℕ → List ℕ
shown_with_line_feed text = text ++ 10 ∷ []

-- the names of the targets, each after a blank
abbrev pub shown_plan_targets_text : Net → List ℕ → List ℕ
shown_plan_targets_text net targets = codes " targets" ++ net_switch_names_text net targets

abbrev pub shown_plan_region_text : ℕ → WordValue → List ℕ
shown_plan_region_text number region =
    codes "part " ++ decimal number ++ codes " region " ++ ternary_word_text region

-- a partition with the number of its rules
abbrev pub shown_plan_part_text : Partition → List ℕ
shown_plan_part_text part =
    shown_plan_region_text part.number part.region ++ codes " rules " ++ decimal (length part.rules)

abbrev pub shown_rule_text : Rule → List ℕ
shown_rule_text rule =
    codes "  rank " ++ decimal rule.rank ++ codes " rule " ++ policy_rule_text rule.rule
    ++ codes " word " ++ ternary_word_text rule.word ++ codes " " ++ policy_action_text rule.action

abbrev pub shown_rule_lines : List Rule → List ℕ
shown_rule_lines rules = flat_map (λ rule. shown_with_line_feed (shown_rule_text rule)) rules

-- ---- a plan

-- a partition with its targets, and its rules
abbrev pub shown_hosted_lines : Net → HostedPolicyPartition → List ℕ
shown_hosted_lines net hosted =
    shown_with_line_feed (shown_plan_part_text hosted.0 ++ shown_plan_targets_text net hosted.1) ++ shown_rule_lines hosted.0.rules

-- a plan of a policy: how many words its rows have, how many partitions there are, and each of them
abbrev pub compile_text : List Row → List HostedPolicyPartition → Net → List ℕ
compile_text rows plan net =
    shown_with_line_feed (codes "words " ++ decimal (policy_row_word_total rows))
    ++ shown_with_line_feed (codes "partitions " ++ decimal (length plan))
    ++ flat_map (shown_hosted_lines net) plan

-- ---- the tables of a switch

-- one of its own partitions, and its rules
abbrev pub shown_own_part_lines : Partition → List ℕ
shown_own_part_lines part = shown_with_line_feed (shown_plan_part_text part) ++ shown_rule_lines part.rules

-- the partition rule of a region
abbrev pub shown_table_row_line : Net → ℕ × PartRow → List ℕ
shown_table_row_line net (number, row) =
    shown_with_line_feed (shown_plan_region_text number row.region ++ shown_plan_targets_text net row.targets)

-- the switch's own partitions
unfoldable pub shown_own_parts_text : List Partition → List ℕ
shown_own_parts_text parts = shown_with_line_feed (codes "authority " ++ decimal (length parts)) ++ flat_map shown_own_part_lines
    parts

-- the partition rules of all regions
unfoldable pub shown_regions_text : Net → List PartRow → List ℕ
shown_regions_text net rows =
    shown_with_line_feed (codes "partitions " ++ decimal (length rows))
    ++ flat_map (shown_table_row_line net) (enumerate_from 0 rows)

-- the switch and the version, its own partitions, and the partition rules of all regions
abbrev pub table_text : ℕ → Tables → Net → List ℕ
table_text s tables net =
    shown_with_line_feed (codes "switch " ++ net_switch_name_of net s ++ codes " version " ++ decimal tables.version)
    ++ shown_own_parts_text tables.auth
    ++ shown_regions_text net tables.parts
