pub mod Reading
pub mod Changes
pub mod Ports
pub mod Printing
pub mod Exports
