pub mod Format
pub mod Fields
pub mod Reading
pub mod Messages
pub mod Frames
pub mod Assembly
pub mod Exports
