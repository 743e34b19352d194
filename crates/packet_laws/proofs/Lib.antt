pub mod PacketsAllKept
pub mod PacketKnownRoutes
pub mod PacketBlocks
pub mod PacketOtherBlocks
pub mod PacketsSpared
pub mod PacketHeaderLookups
pub mod PacketCacheRules
pub mod PacketsServed
pub mod PacketsAtRest
pub mod KeptPacketFacts
pub mod PacketHopAnswers
pub mod PacketRouteHops
pub mod PacketEnds
pub mod PacketStrongCauses
pub mod PacketMachineRuns
mod PacketCauseTrials
mod PacketBrokenJournals
mod PacketRunRows
mod PacketFlushMessages
mod PacketFewRoutes
mod PacketPlayExistence
mod PacketDrainHops
mod PacketRows
mod PacketEntryTrials
mod PacketHistories
pub mod Exports
