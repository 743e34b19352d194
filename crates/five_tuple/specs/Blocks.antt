-- What an iterator over the blocks of a range has left.
use Rattle.std.specs.Prelude.{List}
use Rattle.five_tuple.specs.declared.port_blocks.Blocks.{Blocks}
use Rattle.five_tuple.specs.Cover.{TuplePortBlock, port_range_cover_of}

abbrev pub tuple_port_blocks_left : Blocks → List TuplePortBlock
tuple_port_blocks_left blocks = port_range_cover_of (record { low = blocks.next; high = blocks.high })
