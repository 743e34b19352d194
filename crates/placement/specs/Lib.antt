pub mod Order
pub mod Placement
