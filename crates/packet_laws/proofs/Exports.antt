-- The lemmas of this crate that others use, passed on from the files that prove them.
pub use Rattle.packet_laws.proofs.PacketsAllKept.{Before, all_kept, facts_grow, kept_before, known_before, knows, other_number}
pub use Rattle.packet_laws.proofs.PacketStrongCauses.{all_right, strongly_caused}
pub use Rattle.packet_laws.proofs.KeptPacketFacts.{Knows, here_known, port_named}
pub use Rattle.packet_laws.proofs.PacketBlocks.{standing_more, travels_more}
pub use Rattle.packet_laws.proofs.PacketEnds.{decision_out, last_here, one_target, stands_known}
pub use Rattle.packet_laws.proofs.PacketHeaderLookups.{Finds, FindsRule, FindsTargets, IsHere, IsPlanned, IsStamped, authority_found, current_planned, deciding, exiting_of, found_in, in_plan, leg_in, next_in, redirect_found, rule_there, stamped, travels_in, version_planned}
pub use Rattle.packet_laws.proofs.PacketKnownRoutes.{IsWay, route_way}
pub use Rattle.packet_laws.proofs.PacketsAtRest.{IsSettled, IsWayItem, Past, between, no_rows, numbered, piece_settled, play_begins, reached, reached_settled, switches_of_all, ways_of_all}
pub use Rattle.packet_laws.proofs.PacketsServed.{packet_more}
pub use Rattle.packet_laws.proofs.PacketsSpared.{IsNoRow}
