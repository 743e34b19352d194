pub mod Playing
pub mod Leavings
pub mod InForce
