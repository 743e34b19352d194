pub mod Office
pub mod Wrong
pub mod Right
pub mod Judged
pub mod Exports
