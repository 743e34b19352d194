-- The definitions of this crate that others use, passed on from the files that define them.
pub use Rattle.shelf.specs.Scripts.{shelf_faults_counted_up}
pub use Rattle.shelf.specs.Shelf.{ShelfFiles, IsShelfAfterReads, ShelfState, shelf_file_named, shelf_files_of}
pub use Rattle.shelf.specs.Sink.{SinkGainedPart, SinkFaultsRose, SinkState, next_sink_fault_count, sink_with_gained}
pub use Rattle.shelf.specs.SinkWrites.{IsSinkAfterWrite, IsSinkBlockGathered, gained-gained}
