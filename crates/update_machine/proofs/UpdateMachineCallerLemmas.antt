-- What proofs above cite.
pub use Rattle.update_machine.proofs.JournalBlockNumbers.{PiecesHave, all_given_append, begun_has, count_of_append, folded_append, have_append, have_first, have_in_turn, have_put, have_take, last_given_append, next_rises, next_sent, piece_next, steps_have}
pub use Rattle.update_machine.proofs.JournalSilentSteps.{calls_stay, fewer, near_same, near_stays, packet_keeps, stays, switch_keeps}
pub use Rattle.update_machine.proofs.JournalSilentLinks.{each_silent, ends_within, known_keeps, links_keep, lookup_stays, message_keeps, messages_keep, packets_keep, policies_keep, step_stays}
pub use Rattle.update_machine.proofs.JournalSilentController.{controller_keeps}
pub use Rattle.update_machine.proofs.JournalVersionPolicies.{ArePolicies, TakesVersion, begins_planned, first_has_plan, first_plan_stays, first_policy_stays, has_plan_stays, next_has_plan, next_is, numbered_at_first, other_more, part_there, plan_stays, policies_begin, policies_stay, policy_stays, policy_there, submitted_more, takes_version, version_kept}
pub use Rattle.update_machine.proofs.JournalSettings.{IsAllowed, allowed_next, first_planned, first_touched, first_version_is, next_by, next_touched_is, planned_code, setting_begun, touched_apart, touched_few, touched_stays, unapplied_code, unplanned_code, version_is_planned, versions_own}
pub use Rattle.update_machine.proofs.JournalKnownLinks.{has_known_link, heard_by_origin, known_link_laws, known_places, link_not_found, near_usable, plan_is, start_laws, unreached, usable_linked}
pub use Rattle.update_machine.proofs.JournalAnswerExistence.{Nears, after_append, loop_ends}
pub use Rattle.update_machine.proofs.JournalSomePlay.{AreOf, HasNexts, IsEventOf, all_first, answers_so_far, begins_itself, event_steps_are, first_steps_are, firsts_are, rooms_append, stop_begins}
