pub mod Grammar
pub mod Commands
pub mod Others
pub mod Named
pub mod Line
pub mod Exports
