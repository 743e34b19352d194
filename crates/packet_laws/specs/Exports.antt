-- The definitions that the laws of this crate use, passed on from the files that define them.
pub use Rattle.packet_laws.specs.Amended.{ChangesLeaveOtherPackets, CacheHasPacketEntryUnder, IsToldToStampPackets, UntouchedPacketCacheRulesStay, packet_cache_rule_at_least, packet_decision_hit, packet_cache_rule_outlives}
pub use Rattle.packet_laws.specs.Arriving.{IsPacketAtRouteEnd, PacketsArrive}
pub use Rattle.packet_laws.specs.Between.{PacketLawHoldsBetween, packet_steps_played}
pub use Rattle.packet_laws.specs.Drains.{packet_hops_left}
unfoldable pub use Rattle.packet_laws.specs.Drains.{packet_drain_left}
pub use Rattle.packet_laws.specs.Entries.{ArePacketRowsEntered, EachPacketRowEnters, IsPacketEntryOf, PacketLawStepRow, packet_law_event_row, gives_packet_law_step_row, packet_law_rows_played, packet_law_step_row, packet_law_step_rows, packet_law_step_rows_in}
pub use Rattle.packet_laws.specs.Facts.{PacketFacts, changes_packet_entry_mark, packet_facts_after, is_item_of_entered_packet}
unfoldable pub use Rattle.packet_laws.specs.Facts.{packet_entry_mark, packet_facts_of}
pub use Rattle.packet_laws.specs.Hops.{changes_packet_hops_taken, is_packet_detour, is_packet_exit, is_packet_search, most_packet_hops, most_packet_route_switches, packet_routes_taken}
unfoldable pub use Rattle.packet_laws.specs.Hops.{packet_detour_count, packet_exit_count, packet_hops_taken, packet_search_count}
pub use Rattle.packet_laws.specs.KeptFacts.{AllPacketFactsKept, PacketRouteAvoidsFound, BringsRightPacketRule, HasKeptPacketFacts, IsPacketRightlyDecided}
pub use Rattle.packet_laws.specs.OnTheWay.{BeginPacketLawStep, EndsPacketLawStep, PacketLawsHeldThroughout, PacketLawsHoldSoFar, ArePacketsKeptBehind}
pub use Rattle.packet_laws.specs.OnWay.{PacketRouteEndsAtTarget, PacketRouteFollowsLinks, IsPacketOnLeg, IsPacketOnWay, IsPacketPartitionOf, IsSoughtByPacket, IsPacketUnderWay, IsUnknownPacket, PacketRouteLeadsToTarget, PacketRouteStartsAt}
pub use Rattle.packet_laws.specs.PacketCauses.{PacketArrivesHere, AuthorityDecidesPacket, PacketAuthorityFinds, CacheDecidesPacket, PacketDecidesBy, PacketFindsNoRoute, IsPacketAt, IsPacketAtPort, IsPacketBlockedOn, IsPacketDecided, IsPacketDroppedHere, IsPacketLookedUp, IsPacketLookedUpBy, IsPacketLostHere, IsPacketLostInCrash, PacketIsOfRow, IsPacketRedirectedHere, PacketLeavesHere, PacketMeetsDown, PacketMovesOver, HasPacketItemCause, PacketReachesAuthority, SendsRightPacketRule, PacketSendsRule, PacketTakesDetour, PacketTakesExit, PacketTakesLeg, PacketTakesRoute, gives_fallen_packet_switch, gives_whether_packet_row}
unfoldable pub use Rattle.packet_laws.specs.PacketCauses.{packet_law_ends_with_row, packet_fallen_switch}
pub use Rattle.packet_laws.specs.Rest.{ArePacketsResting, ArePacketsServed, IsPacketMoving, IsPacketServed}
pub use Rattle.packet_laws.specs.Routes.{changes_packet_route_hops, is_packet_finding_down, most_packet_routes}
unfoldable pub use Rattle.packet_laws.specs.Routes.{packet_finding_count, packet_route_hops}
pub use Rattle.packet_laws.specs.Rules.{IsRightPacketCacheEntry, IsRightPacketRule}
pub use Rattle.packet_laws.specs.Stages.{Blocked, CameIn, Judged, OnWay, PacketStage, gives_packet_stage}
unfoldable pub use Rattle.packet_laws.specs.Stages.{packet_stage_of}
pub use Rattle.packet_laws.specs.Stops.{PacketLawGoesOrStops}
pub use Rattle.packet_laws.specs.StrongCauses.{PacketFindsLinkDown, PacketFurtherCause, IsLeastPacketRoute, IsPacketOnRightLeg, IsPacketStuckOnLeg, PacketRaisesOnLeg, PacketRaisesUnheld, PacketRaisesVersion, PacketSeeksRightly, PacketStrongCause}
pub use Rattle.packet_laws.specs.Travelling.{PacketsTravel, PacketRulesAreRight}
pub use Rattle.packet_laws.specs.Whole.{PacketLawsKeepVersionsWhole}
