pub mod Gone
pub mod Meters
pub mod Seen
pub mod Exports
