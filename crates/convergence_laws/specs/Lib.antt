pub mod Updated
pub mod Finished
pub mod News
pub mod Converged
pub mod Stuck
pub mod Exports
