-- The lemmas of this crate that others use, passed on from the files that prove them.
pub use Rattle.update_machine.proofs.UpdateMachineCallerLemmas.{AreOf, ArePolicies, HasNexts, IsEventOf, Nears, PiecesHave, after_append, all_first, all_given_append, allowed_next, answers_so_far, begins_itself, begins_planned, calls_stay, controller_keeps, count_of_append, each_silent, ends_within, event_steps_are, fewer, first_has_plan, first_plan_stays, first_steps_are, first_touched, first_version_is, firsts_are, folded_append, has_known_link, has_plan_stays, have_append, have_first, have_in_turn, have_put, have_take, heard_by_origin, known_keeps, known_link_laws, known_places, last_given_append, link_not_found, links_keep, lookup_stays, loop_ends, message_keeps, messages_keep, near_same, near_stays, near_usable, next_by, next_has_plan, next_is, next_rises, next_sent, next_touched_is, numbered_at_first, other_more, packet_keeps, packets_keep, part_there, piece_next, plan_is, plan_stays, planned_code, policies_begin, policies_keep, policies_stay, policy_stays, policy_there, rooms_append, setting_begun, start_laws, stays, step_stays, stop_begins, submitted_more, switch_keeps, takes_version, touched_apart, touched_few, touched_stays, unapplied_code, unplanned_code, unreached, usable_linked, version_is_planned, version_kept, versions_own}
unfoldable pub use Rattle.update_machine.proofs.JournalExampleNetworks.{left_by}
pub use Rattle.update_machine.proofs.JournalExampleNetworks.{advert, all_dropped, all_to, any_word, at, by_action, first_alone, first_plan, first_planned, first_policy, line_of_three, network, none_of_7, of_first, of_second, on, one, open_net, other, out_or_drop, plan_p, plan_q, ring, rule, second_plan, second_planned, second_policy, switch, tables_of, to, to_controller, two_switches, versions}
