pub mod Loads
pub mod Spread
pub mod Proposals
