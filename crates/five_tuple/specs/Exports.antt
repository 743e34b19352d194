-- The definitions that clauses of this crate and of those above use for headers, the fields that
-- match them and their texts, passed on from the files that define them.
pub use Rattle.five_tuple.specs.Cover.{AreTuplePortBlocksApart, TuplePortBlock, IsAlignedTuplePortBlock, IsTuplePortCover, IsLargestTuplePortBlock, IsTuplePortBlock, tuple_port_block_holds, tuple_port_blocks_from, tuple_port_block_fits_at, largest_tuple_port_block_exponent}
unfoldable pub use Rattle.five_tuple.specs.Cover.{port_range_cover_of}
pub use Rattle.five_tuple.specs.Header.{AddressBlock, IsHeader, PortRangeValue, header_fields_of, header_number_of, address_prefix_matches, proto_matches, port_range_matches}
pub use Rattle.five_tuple.specs.HeaderNumbers.{header_eq, header_numbered, header_of, packed_header_number}
pub use Rattle.five_tuple.specs.Laws.{TuplePortCoverLaws, HeaderLaws, IsPortRangeCover, PlainTupleTextLaws}
unfoldable pub use Rattle.five_tuple.specs.Printing.{address_text, header_fields_text, proto_number_text}
pub use Rattle.five_tuple.specs.RowPrinting.{is_plain_tuple_char}
unfoldable pub use Rattle.five_tuple.specs.RowPrinting.{address_prefix_text, proto_text, port_range_text}
pub use Rattle.five_tuple.specs.SoundFields.{IsAddressBlock, IsPortRange, IsProtocol}
pub use Rattle.five_tuple.specs.Texts.{IsAddressByteBefore, LacksAddressByte, address_from_bytes, address_of_parts, address_block_from, address_block_of_parts, address_block_round, tuple_fields_from, tuple_text_has_leading_zero, is_tuple_number_text, tuple_fields_of, tuple_text_parts_round_byte, port_range_from, port_range_of_parts}
unfoldable pub use Rattle.five_tuple.specs.Texts.{address_of, tuple_number_up_to, address_prefix_of, proto_number_of, proto_of, port_range_of}
