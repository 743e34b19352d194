pub mod Writing
pub mod Packets
pub mod Sending
pub mod Losing
pub mod Linking
pub mod Exports
