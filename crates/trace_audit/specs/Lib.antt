pub mod Told
pub mod Reading
pub mod Verdicts
pub mod Run
pub mod Decided
pub mod Index
pub mod Seen
pub mod Exports
