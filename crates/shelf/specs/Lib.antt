pub mod Scripts
pub mod Shelf
pub mod Sink
pub mod SinkWrites
pub mod Streams
pub mod Exports
