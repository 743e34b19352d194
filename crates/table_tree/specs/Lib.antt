pub mod Cutting
pub mod Regions
pub mod LookupTrees
pub mod Finding
pub mod Ruling
