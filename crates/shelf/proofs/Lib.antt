mod SinkBlockWrites
mod ShelfFileLookups
mod SinkPieceWrites
pub mod SinkGains
