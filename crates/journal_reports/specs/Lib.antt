pub mod Summary
pub mod Judging
pub mod Buckets
pub mod Traffic
pub mod Exports
