pub mod Laws
pub mod Word
pub mod WordBits
pub mod Meets
pub mod Exports
