-- What proofs above cite.
pub use Rattle.base.proofs.ListLemmas.{append_not_nil, count-filter-le, count_by-cons, each_weaker, find_same, none_from_not_some}
pub use Rattle.base.proofs.OptionsMade.{IfNone-weaker}
pub use Rattle.base.proofs.OptionsByTest.{cond_if_above, cond_if_below}
pub use Rattle.base.proofs.ListsOfAll.{there_at}
pub use Rattle.base.proofs.ListsFound.{find-map, find-position, find-there, find_agree, find_kept, found_from_count, one_place}
pub use Rattle.base.proofs.ListsFiltered.{count_by-map}
pub use Rattle.base.proofs.ListsByPlace.{at_item}
pub use Rattle.policy_rules.proofs.PolicyFirstMatch.{first_match-only, first_match-scan, highest_is, one_of_priority}
pub use Rattle.policy_rules.proofs.AmendmentCases.{All-additions, All-applied, IsPolicy-applied, additions_sound}
pub use Rattle.policy_rules.proofs.PolicyDistinctRows.{distinct_push}
pub use Rattle.policy_rules.proofs.AmendmentEdits.{fresh_edits}
pub use Rattle.policy_rules.proofs.PolicyPrioritySets.{is_eq-nat_cmp}
pub use Rattle.policy_rules.proofs.PolicyRowWords.{IsWord-word_of_row, holds-word_of_row}
pub use Rattle.policy_rules.proofs.PolicyRuleRanks.{length-words_of_row}
pub use Rattle.policy_rules.proofs.PolicyRuleLaw.{first_rule-rules_of, holds-words_of_row}
pub use Rattle.policy_rules.proofs.PolicyRuleShape.{IsRuleList-rules_of, IsWord-words_of_row, length-rules_of}
pub use Rattle.policy_rules.proofs.AmendmentTouchedHeaders.{scan-apart}
pub use Rattle.policy_rules.proofs.PolicyFallingRows.{IsPriorityFalling-by_falling_priority, IsPermutation-by_falling_priority, find-by_falling_priority, same_sorted}
