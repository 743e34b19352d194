pub mod Refusals
pub mod Kinds
pub mod Rows
pub mod Reading
pub mod Case
