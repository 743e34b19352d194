-- The definitions that clauses of this crate and of those above use for policies and their rules,
-- passed on from the files that define them.
pub use Rattle.policy_rules.specs.Applied.{ArePolicyEditsDistinct, IsPolicyAmendment, IsSoundPolicyEdit, policy_addition, policy_additions, policy_change_adds_taken, amended_policy_rows, policy_has_priority, policy_edit_removes, policy_removals, policy_edits_remove, policy_change_removes_absent, policy_rows_after_removal}
unfoldable pub use Rattle.policy_rules.specs.Applied.{policy_change_applied}
pub use Rattle.policy_rules.specs.Edits.{ArePolicyEditsSeen, RefusesPolicyEdits, policy_edits_of, policy_edit_repeats}
pub use Rattle.policy_rules.specs.Hosted.{HostedPolicyPartition, NoPolicyPlan, NoRoom, TooManyLeaves, TooManyWords, is_in_policy_partition}
pub use Rattle.policy_rules.specs.Laws.{PolicyAmendmentLaws, PolicyRuleListLaws}
pub use Rattle.policy_rules.specs.Partitions.{ArePolicyPartitionsNumbered, AreSoundPolicyPartitions, PolicyRulesEndInCover, LastPolicyRuleCovers}
pub use Rattle.policy_rules.specs.Policy.{PolicyHasDistinctPriorities, IsFirstPolicyMatch, IsHighestPolicyRowIn, policy_action_text, policy_row_matches, policy_rule_text}
pub use Rattle.policy_rules.specs.PolicyFiles.{PolicyEditAddsOnly, PolicyFileRowsAre, IsSoundPolicyFile}
pub use Rattle.policy_rules.specs.Read.{HasSmallPolicyActionPort}
unfoldable pub use Rattle.policy_rules.specs.Read.{policy_action_of}
pub use Rattle.policy_rules.specs.Repeats.{IsPolicyPriorityFalling, IsFirstPolicyPriorityRepeat, RefusesSamePriorityPolicyRows}
pub use Rattle.policy_rules.specs.RuleList.{AppendsRankedPolicyRules, IsPolicyRuleList, RefusesPolicyRuleList, policy_default_rule, policy_row_word_hits, policy_hit_of_rule, ranked_policy_rule, policy_hits_with_default, policy_words_with_hit, policy_row_word_count, policy_row_word_total}
unfoldable pub use Rattle.policy_rules.specs.RuleList.{policy_rows_by_falling_priority, policy_rows_falling_below, policy_rules_ranked_from, policy_rules_of}
pub use Rattle.policy_rules.specs.Rules.{first_policy_rule, is_held_by_policy_rule}
pub use Rattle.policy_rules.specs.Scan.{IsHighestPolicyMatch, highest_policy_row, policy_hit_of, is_highest_policy_row, scan, policy_scan_by}
pub use Rattle.policy_rules.specs.SoundPolicies.{IsPolicy, IsSoundPolicyRow}
pub use Rattle.policy_rules.specs.Touched.{removed_policy_rows, touched_policy_rows, touched_policy_words}
pub use Rattle.policy_rules.specs.Words.{policy_rule_prefix_mask, policy_rule_proto_mask, policy_rule_proto_value, words_of_policy_row}
unfoldable pub use Rattle.policy_rules.specs.Words.{word_of_policy_row}
