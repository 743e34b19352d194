pub mod Files
pub mod Least
pub mod NoStep
pub mod State
pub mod Parts
pub mod Exports
