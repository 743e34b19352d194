pub mod Pushes
pub mod Sizes
