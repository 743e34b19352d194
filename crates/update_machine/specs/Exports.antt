-- The definitions that clauses of this crate and of those above use for journals, passed on from
-- the files that define them.
pub use Rattle.update_machine.specs.Adverts.{journal_advert_known, journal_step_changes_links, journal_own_advert_sent}
unfoldable pub use Rattle.update_machine.specs.Adverts.{journal_adverts_known, journal_held_adverts, is_cut_off_in_journal, own_advert, journal_own_seq, journal_route_from}
pub use Rattle.update_machine.specs.Answers.{Answers, JournalAnswersSoFar, AreAllMachineEventSteps, AreAnsweredByJournal, AreJournalFirstSteps, AreFirstMachineStepsOf, AreFirstMachineEventSteps, AreMachineSteps, AreMachineStepsOf, JournalBeginsAnswer, HaveMachineSteps, IsJournalReached, MachineStepOfRow, journal_after_steps, journal_next_delivery, journal_next_hop}
pub use Rattle.update_machine.specs.Boots.{journal_body_to_switch, changes_journal_heard, machine_item_gives_boot, machine_item_gives_switch_up, is_journal_body_for_boot, is_first_boot_in_journal, is_journal_receiver_switch}
unfoldable pub use Rattle.update_machine.specs.Boots.{journal_boot_of, heard, is_up}
pub use Rattle.update_machine.specs.Caches.{machine_cache_after, machine_cache_carried_from, changes_journal_cache, machine_cache_raised_from}
unfoldable pub use Rattle.update_machine.specs.Caches.{journal_cache_of, machine_lookup_at}
pub use Rattle.update_machine.specs.Causes.{AreMachineLegTargets, MachineFindsDown, HasMachineCause, JournalItemsHaveCauses, IsMachineLinkStep, MachineLosesRightly, IsMachinePacketStuckRightly, MachineWalkLeads, MachineLeavesRightly, machine_item_finds_down, machine_item_gives_step, is_journal_link_open}
unfoldable pub use Rattle.update_machine.specs.Causes.{journal_present_step}
pub use Rattle.update_machine.specs.Concerns.{NoMachineItemConcerns, machine_item_concerns_calls, machine_item_concerns_controller, machine_item_concerns_known, machine_item_concerns_links, item_concerns_journal_lookups, machine_item_concerns_message, machine_item_concerns_messages, machine_item_concerns_packet, machine_item_concerns_packets, machine_item_concerns_policies, machine_item_concerns_steps, machine_item_concerns_switch, machine_item_concerns_waiting, is_journal_message_to, is_journal_controller_message, is_machine_opening_body}
pub use Rattle.update_machine.specs.Deliveries.{machine_advert_to, machine_after_hello, journal_usable_links_changed, is_new_boot_in_journal, is_journal_news_to, machine_messages_of, machine_messages_over_link, machine_advert_passed_on, machine_received_items, machine_switches_in}
unfoldable pub use Rattle.update_machine.specs.Deliveries.{machine_controller_items, machine_delivery_items, journal_link_changes, journal_switch_items}
pub use Rattle.update_machine.specs.ExactCauses.{MachineFindsNextDown, MachineFindsNoPath, MachineLegSeeksOwn}
pub use Rattle.update_machine.specs.Folds.{journal_all_given, machine_count_of, folded_journal_from, journal_folded_value, journal_last_given}
pub use Rattle.update_machine.specs.Full.{JournalAnswersWithRoom, HasMachinePlay, MachineJournalHasRoom, MachineJournalsHaveRoom, IsMachineJournalFull, IsMachinePlay, JournalStopsFull, machine_journal_full_at}
pub use Rattle.update_machine.specs.Handled.{journal_hop_calls, is_machine_entry_at, is_machine_packet_move, most_journal_handled, journal_hop_stays_on_way, machine_stuck_at_link}
unfoldable pub use Rattle.update_machine.specs.Handled.{journal_handled_count}
pub use Rattle.update_machine.specs.Laws.{JournalConcernLaws, JournalControllerKeeps, JournalKnownKeeps, JournalKnownLinkLaws, MachineLinksKeep, MachineMessageKeeps, JournalMessageStarts, JournalMessagesKeep, MachinePacketKeeps, JournalPacketStarts, MachineKeepsJournalPackets, JournalPoliciesKeep, MachineStartLaws, JournalSwitchKeeps}
pub use Rattle.update_machine.specs.LinkMasks.{journal_adverts_begun, journal_adverts_heard, journal_adverts_of_others, journal_links_known, machine_advert_of_other, machine_usable_links}
unfoldable pub use Rattle.update_machine.specs.LinkMasks.{near}
pub use Rattle.update_machine.specs.Links.{JournalClaim, journal_can_use, changes_journal_claim, journal_claim_by, journal_claim_in_message, machine_first_claim, gives_journal_link, machine_item_gives_message, machine_item_gives_serving, is_journal_link_end, is_usable_in_journal, journal_knows_link, newer_journal_claim_of}
unfoldable pub use Rattle.update_machine.specs.Links.{journal_claim_of, is_link_up_in_journal, journal_message_of, serves}
pub use Rattle.update_machine.specs.Machine.{MachineDecides, Dropped, MachinePacketEnd, MachineEndsPacket, MachineEnters, IsMachineRun, LeftBy, Lost, Machine, MachinePacketMayEnd, MachineRetires, MachineRuns, Stuck, MachineSubmits, MachineTakes, first_machine, machine_submitted_policy, machine_with_packet}
pub use Rattle.update_machine.specs.Marks.{AreMachineMarksSettled, MachineCurrentMayRise, machine_all_acked, journal_body_to_controller, machine_changes_controller_heard, machine_item_changes_over, machine_first_open, machine_item_gives_current, machine_item_gives_retired, machine_hello_boot, machine_installed_version, is_joining, machine_least_number, members, most_live_journal_versions, most_journal_versions, machine_open_version_in, machine_open_sent, open_version, journal_raises_known_boot, machine_stamped_version_in}
unfoldable pub use Rattle.update_machine.specs.Marks.{acked_stamp, journal_controller_heard, journal_current_mark, has_acked, is_member, is_over, journal_known_boot, journal_next_current, journal_next_retired, journal_opened_at, journal_retired_mark}
pub use Rattle.update_machine.specs.Messages.{is_machine_delivery_item, is_journal_forgetting, is_machine_sending_item, is_machine_receiver_controller, is_waiting, machine_send_items}
unfoldable pub use Rattle.update_machine.specs.Messages.{is_deliverable, is_forgotten_in_journal, journal_next_message, next_waiting, machine_sent_items_from, was_delivered_in_journal}
pub use Rattle.update_machine.specs.Moves.{MachineAuthorityRule, journal_leg_arrival_items, journal_authority_rule, machine_cache_rule, journal_stuck_cause_at, machine_first_rule_place, machine_found_items, machine_onward_items, journal_packet_header_at, machine_blocks_in_turn, journal_items_then, journal_leaving_item, journal_reroute_by, journal_packet_route, machine_stuck_on_leg_item, machine_takes_route}
unfoldable pub use Rattle.update_machine.specs.Moves.{machine_arrive_items, machine_authority_items, journal_cache_items, machine_end_items, machine_leg_items, machine_lookup_items, machine_move_items, machine_reroute_items}
pub use Rattle.update_machine.specs.Numbers.{AreJournalNumbersWithoutGap, MachineTakesNextNumber, JournalVersionsAreNumbered, machine_item_message_number, machine_packet_number}
pub use Rattle.update_machine.specs.PacketRoutes.{machine_item_changes_found, machine_item_changes_hops, machine_item_gives_route, machine_no_switch, owner, machine_targets_in, journal_leg_targets}
unfoldable pub use Rattle.update_machine.specs.PacketRoutes.{journal_found_down, journal_next_switch, journal_route_in, journal_route_place}
pub use Rattle.update_machine.specs.Packets.{Decision, machine_item_gives_decision, machine_item_gives_header, machine_item_gives_standing, is_machine_packet_entry}
unfoldable pub use Rattle.update_machine.specs.Packets.{journal_decision_of, journal_packet_header, journal_next_packet, journal_standing_of}
pub use Rattle.update_machine.specs.Pieces.{machine_apply_code, machine_hello_of, machine_marks_code, nothing, machine_plan_code, journal_resent_by_switch, machine_rows_code, machine_sends_or_nothing, machine_step_items, machine_update_code}
unfoldable pub use Rattle.update_machine.specs.Pieces.{machine_confirm_items, journal_crash_items, machine_deliver_items, machine_expire_items, machine_forget_items, machine_hop_items, machine_link_items, machine_lose_items, machine_packet_items, piece, machine_resend_items, machine_restart_items, machine_update_items}
pub use Rattle.update_machine.specs.Quiet.{AreMachineMessagesReceived, IsQuietMachineJournal, IsJournalMessageReceived, IsJournalMessageReplaced, MachineMessageReplaces, are_machine_tables_old, machine_item_begins_boot, machine_body_carries_boot, gives_journal_waited_for, is_machine_advert_body, is_machine_later_body, is_of_switch_boot, is_machine_ack_below_version, is_waited_for_in_journal, machine_message_matters, machine_speaking_in_body}
pub use Rattle.update_machine.specs.Sendings.{MachineSending, journal_receiver_boot_at, changes_journal_sendings}
unfoldable pub use Rattle.update_machine.specs.Sendings.{machine_sendings}
pub use Rattle.update_machine.specs.Setting.{IsMachineSettingPlanOf, IsMachineSetting, NamesMachineSettingPort, Setting, machine_file_at, journal_first_given, machine_item_gives_file, machine_policy_made_by, machine_policy_by, machine_setting_of}
unfoldable pub use Rattle.update_machine.specs.Setting.{journal_version_file, machine_policy_in}
pub use Rattle.update_machine.specs.Settling.{machine_collect_for, journal_install_for, journal_open_for, machine_opening_switches, journal_resent_to_member, journal_stamp_for, machine_submitted_items, machine_message_to_switch, journal_unacked_installs, journal_versions_from_current}
unfoldable pub use Rattle.update_machine.specs.Settling.{machine_current_items, machine_installs_to, machine_installs_to_all, machine_open_items, journal_resent_by_controller, machine_retired_items, machine_settling}
pub use Rattle.update_machine.specs.Steps.{MachineStepItems, machine_item_changes_steps, machine_steps_with_item}
unfoldable pub use Rattle.update_machine.specs.Steps.{journal_steps_in}
pub use Rattle.update_machine.specs.SwitchNumbers.{machine_switches_of}
pub use Rattle.update_machine.specs.Touched.{journal_next_touched, machine_touched_of}
unfoldable pub use Rattle.update_machine.specs.Touched.{machine_touched_by}
pub use Rattle.update_machine.specs.Travels.{changes_journal_leg, journal_exit_port, machine_item_gives_ingress, machine_item_gives_travelling, is_at_machine_switch, journal_packets_at, journal_packets, machine_port_of_action, journal_travels_at}
unfoldable pub use Rattle.update_machine.specs.Travels.{journal_ingress_of, journal_leg_of, next_travelling, travels_in_journal}
pub use Rattle.update_machine.specs.Versions.{MachineVersionHasPlan, message_collects_version, journal_first_stamp, machine_greatest_stamp_number, machine_hosted_or_none, machine_body_installs_version, is_journal_submission, is_journal_version, machine_version_to_stamp_with, journal_tables_at}
unfoldable pub use Rattle.update_machine.specs.Versions.{holds_version, journal_next_policy, journal_plan_at, machine_policy_at, journal_stamp_of, journal_version_count}
pub use Rattle.base.specs.declared.error.Failure.{Failure}
pub use Rattle.base.specs.declared.error.Failure.TheVariants.{NoMemory, Refused}
pub use Rattle.base.specs.declared.row.InRow.{InRow}
pub use Rattle.ctrl_msg.specs.declared.message.Body.{Body}
pub use Rattle.ctrl_msg.specs.declared.message.Body.TheVariants.{Advertise, CacheRule, Collect, Hello, Install, Installed, OpenAt, Stamp, Stamped}
pub use Rattle.ctrl_msg.specs.declared.message.Message.{Message}
pub use Rattle.ctrl_msg.specs.declared.message.Place.{Place}
pub use Rattle.failover.specs.declared.advert.Advert.{Advert}
pub use Rattle.five_tuple.specs.declared.header.Fields.{Fields}
pub use Rattle.five_tuple.specs.declared.header.Header.{Header}
pub use Rattle.five_tuple.specs.declared.matching.Proto.TheVariants.{Any, Is}
pub use Rattle.journal.specs.declared.item.Item.{Item}
pub use Rattle.net_file.specs.declared.net.LinkRow.{LinkRow}
pub use Rattle.net_file.specs.declared.net.Net.{Net}
pub use Rattle.net_file.specs.declared.net.SwitchRow.{SwitchRow}
pub use Rattle.net_file.specs.declared.ports.Ports.{Ports}
pub use Rattle.policy_rules.specs.declared.amendment.Edit.{Edit}
pub use Rattle.policy_rules.specs.declared.amendment.Edit.TheVariants.{Add, Remove}
pub use Rattle.policy_rules.specs.declared.applying.Inapplicable.{Inapplicable}
pub use Rattle.policy_rules.specs.declared.applying.Inapplicable.TheVariants.{Absent, Taken}
pub use Rattle.policy_rules.specs.declared.file.PolicyFile.{PolicyFile}
pub use Rattle.policy_rules.specs.declared.file.PolicyFile.TheVariants.{Change, Whole}
pub use Rattle.policy_rules.specs.declared.packet.Cause.{Cause}
pub use Rattle.policy_rules.specs.declared.packet.Cause.TheVariants.{NoAuthority, NoRoute}
pub use Rattle.policy_rules.specs.declared.packet.How.{How}
pub use Rattle.policy_rules.specs.declared.packet.How.TheVariants.{Authority, Cached}
pub use Rattle.policy_rules.specs.declared.packet.Leaving.{Leaving}
pub use Rattle.policy_rules.specs.declared.packet.Leg.{Leg}
pub use Rattle.policy_rules.specs.declared.packet.Leg.TheVariants.{Exit, Seek}
pub use Rattle.policy_rules.specs.declared.policy.Action.{Action}
pub use Rattle.policy_rules.specs.declared.policy.Action.TheVariants.{Drop, Out}
pub use Rattle.policy_rules.specs.declared.policy.Hit.{Hit}
pub use Rattle.policy_rules.specs.declared.policy.Row.{Row}
pub use Rattle.policy_rules.specs.declared.rules.Partition.{Partition}
pub use Rattle.policy_rules.specs.declared.rules.Rule.{Rule}
pub use Rattle.steps.specs.declared.step.Event.{Event}
pub use Rattle.steps.specs.declared.step.Event.TheVariants.{Drain, Flush, One}
pub use Rattle.steps.specs.declared.step.Step.{Step}
pub use Rattle.steps.specs.declared.step.Step.TheVariants.{Confirm, Crash, Deliver, Expire, Forget, Hop, LinkDown, LinkUp, Lose, Packet, Resend, Restart, Update}
pub use Rattle.switch_table.specs.declared.cache.CacheEntry.{CacheEntry}
pub use Rattle.switch_table.specs.declared.search.Found.{Found}
pub use Rattle.switch_table.specs.declared.search.Found.TheVariants.{Redirect}
pub use Rattle.switch_table.specs.declared.tables.PartRow.{PartRow}
pub use Rattle.switch_table.specs.declared.tables.Tables.{Tables}
