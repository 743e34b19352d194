-- The definitions that clauses of this crate and of those above use for switches, passed on from
-- the files that define them.
pub use Rattle.switch_core.specs.AnswerLaws.{SwitchArriveLaws, SwitchDecisionLaws, SwitchEnterLaws, SwitchExitLaws, SwitchHopLaws, IsSwitchArrival, IsSwitchReadyAsAuthority, IsSwitchOwnRuleDecision, IsSwitchAnswerByPartition, IsSwitchDecision, IsSwitchEntry, IsSwitchHop, IsSwitchNextStep, IsSwitchReady, IsRightSwitchAnswer, IsSwitchPacketSame, SwitchLookupLaws, SwitchFindsOwnRule, switch_found_down_with, switch_lookup_by_stamp, switch_route_around, switch_route_known, switch_rule_to_cache, switch_setting_out}
pub use Rattle.switch_core.specs.Answering.{CanSwitchLookUp, MaySwitchEndLeg, IsSwitchAnswerUncached, arrive_answer, switch_arrival_on_leg, enter_answer, switch_incoming_packet, switch_packet_of, switch_seek_by}
unfoldable pub use Rattle.switch_core.specs.Answering.{switch_admitted, switch_answer_by_found, switch_answer_by_rule, switch_answer_in_partition, switch_looked_up, switch_received}
pub use Rattle.switch_core.specs.Answers.{SwitchAnswer, Answered, SwitchArrival, Decided, Seek, Stuck, switch_arrival_of, switch_arrived_with, switch_entered_with, switch_entered_by_answer}
pub use Rattle.switch_core.specs.Deciding.{IsSwitchFirstHit, IsSwitchFindingFirstHit, switch_decision_by_entry, switch_decision_by_rule, no_switch_core_partition, no_switch_rule, switch_own_partition, switch_packet_to_look_up, switch_core_partition_numbered, switch_own_rule_place, switch_core_rule_in}
unfoldable pub use Rattle.switch_core.specs.Deciding.{switch_cache_rule_sent}
pub use Rattle.switch_core.specs.Ends.{SwitchSite, switch_site_around, switch_exit_by_tunnel, is_switch_seek_leg, switch_site_of}
unfoldable pub use Rattle.switch_core.specs.Ends.{are_switch_targets_isolated, switch_stuck_cause, switch_leave_by_port, switch_next_of, switch_set_out}
pub use Rattle.switch_core.specs.Forwarding.{IsSwitchLookupForwarding, switch_admitted_as, switch_arrival_by_forwarding, switch_core_cache_rule}
pub use Rattle.switch_core.specs.Hearing.{IsSoundSwitchBody, switch_after_body, switch_opened_by, switch_replies_to}
unfoldable pub use Rattle.switch_core.specs.Hearing.{switch_collected_to, switch_flood, is_news_to_switch, switch_obeys, switch_opening_stamp, switch_stamp_raised_to, replies, switch_stamped_with, switch_after_advert, switch_with_installed, switch_with_message}
pub use Rattle.switch_core.specs.Laws.{IsSwitchAfterHearing, SwitchLaws}
pub use Rattle.switch_core.specs.Life.{crashed_switch, switch_entry_expired, near_changed, switch_next_advert, restarted_switch}
pub use Rattle.switch_core.specs.Moving.{SwitchPacketMoved, SwitchStandsAtRoutePlace, switch_hopped_to, switch_found_link_down, switch_move_answer, switch_moved_along_route, switch_hop_onward}
unfoldable pub use Rattle.switch_core.specs.Moving.{switch_hop_answer, switch_rerouted_here}
pub use Rattle.switch_core.specs.State.{HasSwitchAdvertUpTo, IsSoundSwitch, SwitchValue, switch_call_counted, switch_held_tables, holds_version, new_switch, no_switch_tables, own_advert, serves, switch_stamp_tables}
