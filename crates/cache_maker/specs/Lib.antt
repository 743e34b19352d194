pub mod Differing
pub mod Independent
pub mod Laws
