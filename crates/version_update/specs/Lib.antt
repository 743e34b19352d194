pub mod Record
pub mod Marks
pub mod Settling
pub mod Laws
pub mod Exports
