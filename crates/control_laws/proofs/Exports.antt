-- The lemmas of this crate that others use, passed on from the files that prove them.
pub use Rattle.control_laws.proofs.ControlMemberFacts.{LeavesMember, acked_more, delivered_cases, member_was, opened_same, over_cases, quiet_leaves, raised_above, raised_none, sent_cases, unraised_same}
pub use Rattle.control_laws.proofs.ControlAckKinds.{GoesOn, goes_on, installed_is, is_delivered, turns}
pub use Rattle.control_laws.proofs.ControlAdvertNumbers.{began_on, down_none, none_counted, one_if, steps_past}
pub use Rattle.control_laws.proofs.ControlNetLinks.{claimed_mask, ends_serve, linked_by_mask, links_there, near_linked, of_switches, own_origin, second}
pub use Rattle.control_laws.proofs.ControlAllAdverts.{AreSuch, HasBothCauses, IfAdvert, IsAdvertFact, behind_both, delivered_first, is_newest, own_told, pieces_caused, row_first, such_at_first, such_kept}
pub use Rattle.control_laws.proofs.ControlStampingSwitches.{at_ends, behind_items, crash_changes, losts_have, losts_keep}
pub use Rattle.control_laws.proofs.ControlFactsGrown.{AreKept, Behind, Both, FromCauses, Has, boot_more, boot_rises, by_number, count_more, counted_more, current_more, fact_on, from_causes, have_both, have_front, have_rest, have_weaker, heard_more, hello_sent, known_more, known_rises, last_more, message_more, opened_at_more, opened_is, opened_more, opens_by, over_more, own, piece_has, raised, retired_more, said_sent, serving_more, some_more, stamp_told, steps_have, told_more, up_more, with_fact}
pub use Rattle.control_laws.proofs.ControlCurrentVersions.{StampsAreCurrent, caused_numbered, current_at_first, current_kept, current_rises, stamps_touched}
pub use Rattle.control_laws.proofs.ControlPieceCauses.{always, deliver_has, delivery_has, pieces_have, said_have, said_parts, said_row, settling_have, submitted_have}
pub use Rattle.control_laws.proofs.ControlCommands.{Control, IsCommand, IsControl, confirm_control, controller_control, each_by_switch, grows, resends_any, sends_any, sends_each, settling_control, settling_settles, update_has}
pub use Rattle.control_laws.proofs.ControlIdleSteps.{ReopensAlone, installs_reopen, leaves_keep, member_same, others_keep, sends_leave, stamp_same}
unfoldable pub use Rattle.control_laws.proofs.ControlFactsGrown.{opened_in}
pub use Rattle.control_laws.proofs.ControlSaidToController.{HasLinkCause, acked_stamp_opened, acked_stamp_rises, confirm_cases, deliver_cases, each_weaker, fold_up, known_first, restart_cases, switch_cases, tells, told_by, told_by_more, told_sent, update_cases}
pub use Rattle.control_laws.proofs.ControlPlannedTables.{HeardAreKnown, fit_in_room, heard_known, tables_planned, versions_few, versions_planned}
pub use Rattle.control_laws.proofs.ControlLinkClaims.{IsNamed, claim_more, names_end, own_end}
pub use Rattle.control_laws.proofs.ControlMarkLaws.{acknowledged, bounded, retired_rises, serving_hold}
pub use Rattle.control_laws.proofs.ControlMarksAtEnds.{IsCarried, NamesOwn, OfSettings, behind, behind_piece, carried_on, has_nexts, own_event, reached_by, reached_carries, setting_carries, settled_at_ends, so_far_carries, told_is}
pub use Rattle.control_laws.proofs.ControlMarksSettle.{in_three, in_two}
pub use Rattle.control_laws.proofs.ControlMessageSends.{acked_same, each_range}
pub use Rattle.control_laws.proofs.ControlNamesInMessages.{bodies_named}
pub use Rattle.control_laws.proofs.ControlOwnAdverts.{AdvertGoesOn, own_newest, own_on, same_near, same_seq, seq_is}
pub use Rattle.control_laws.proofs.ControlPickedNumbers.{any_picked}
pub use Rattle.control_laws.proofs.ControlPieceKinds.{piece_few}
pub use Rattle.control_laws.proofs.ControlSwitchOpenings.{IsKnown, IsServing, OpeningsStand, caused_known, each_by_controller, each_to_member, known_at_first, known_kept, later_versions, member_of, member_parts, opened_on, openings_at_first, openings_on, resent_has, serving_known}
pub use Rattle.control_laws.proofs.ControlTrafficItems.{Change, IsChange, IsTraffic, IsWork, KnowsNoRoute, Traffic, Work, hop_work, link_change, links_change, links_traffic, packet_has, packet_works, step_traffic, step_work, work_cases}
