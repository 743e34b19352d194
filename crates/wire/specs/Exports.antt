-- The definitions of this crate that others use, passed on from the files that define them.
pub use Rattle.wire.specs.Assembly.{WireFramesAgree, AreWireFramesHeld, AreNoWireMessageFrames, AreWireFramesRising, AreWireFramesTogether, IsWireMessageAssembled, IsWireAssemblerFed, IsWireFrameCheck, IsWireFrameOfCount, IsRefusedWireFrame, WireFrameJoins, another_count, another_frame, wire_frame_held_at, no_message, past_the_count, too_long, too_short, wire_frames_with_frame}
pub use Rattle.wire.specs.Fields.{wire_action_by_port, is_wire_word_pair, wire_port_in_action}
unfoldable pub use Rattle.wire.specs.Fields.{action, n1, n16, n4, n8, partition, region, rule, wire_rule_name, switch, tables, wire_target_count, targets, touched, wire_touched_count, word}
pub use Rattle.wire.specs.Format.{◌⊗◌, WireFormat, wire_format_as_type, wire_list_of, number, wire_optional, read_wire_flagged, wire_format_such_that, wire_format_then_read}
unfoldable pub use Rattle.wire.specs.Format.{wire_read_items, read_number, wire_spelled_number}
pub use Rattle.wire.specs.Frames.{AreWireFrames, wire_begun_for, chunk_in_wire_frame, wire_chunks, wire_chunks_behind_head, wire_equal_chunks, frames, wire_frames_from, wire_frames_of, wire_frames_of_receiver, wire_frames_of_version, wire_first_chunk_len, most_of_wire_chunk}
unfoldable pub use Rattle.wire.specs.Frames.{count_in_wire_frame, frame, place_in_wire_frame}
pub use Rattle.wire.specs.Messages.{AreWireShort, AreWireSwitchNumbers, HasWireSpelling, IsWireFront, IsWireSpelling, wire_cache_rule_of, wire_fields_fit, wire_kind_number, wire_made_body, read_wire_fields, wire_read_front, wire_receiver_of, wire_spelled_fields, wire_spelled_front, wire_body_suits_receiver, whole_wire_message}
unfoldable pub use Rattle.wire.specs.Messages.{wire_acknowledgement, advert, body, wire_boot_and_version, wire_cache_rule_form, hello, wire_install_form, message, wire_message_front, wire_receiver, wire_stamp_form}
pub use Rattle.wire.specs.Reading.{AppendsEncodedItems, GivesWireReading}
