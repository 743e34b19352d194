pub mod Counted
pub mod Counts
pub mod Flows
pub mod Lines
