pub mod Bodies
pub mod Kinds
pub mod Exports
