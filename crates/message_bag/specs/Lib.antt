pub mod Feeding
pub mod Installing
pub mod KeptFrames
pub mod Numbered
pub mod Deliveries
pub mod Posts
pub mod Sharing
pub mod Exports
