pub mod Tunnel
pub mod Moves
pub mod Exports
