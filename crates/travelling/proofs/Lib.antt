pub mod TravellingTable
pub mod TravellingMasks
pub mod TravellingMarkBlocks
pub mod TravellingSlots
