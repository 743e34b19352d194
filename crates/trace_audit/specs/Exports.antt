-- The definitions of this crate that others use, passed on from the files that define them.
pub use Rattle.trace_audit.specs.Decided.{AreTraceEndsJustified, IsNoAuditDecisionOf, IsNoAuditEntryOf, TraceHasDecision, TraceHasEntered, IsAuditToldBetween, IsTraceDecidedOnce, IsTraceJustified, IsTraceMark, IsTraceWaiting, AuditLineRetiresUpTo, all_trace_told, audit_policies_from, audit_policies_told, audit_policies_with}
pub use Rattle.trace_audit.specs.Index.{AreAuditShapesOf, HasAuditShape, IsBestAuditHit, IsBetterAuditHit, IsAuditIndexOf, IsAuditIndexUpTo, IsAuditRowLastBefore, IsAuditMatchIn, IsNoHigherAuditRow, IsSoundAuditShape, AuditRowsLackSlot, AuditIndexNotes, audit_better_index_hit, is_audit_index_shape, audit_shape_of_row, audit_shape_place, audit_index_slot_of, audit_slot_of_row}
pub use Rattle.trace_audit.specs.Reading.{AreGoodAuditLines, AuditStateFollows, IsAuditDecisionPrinted, Open, ReadsAllAuditLines, ReadsAuditLine, TraceLine, TraceState, Whole, first_trace_state, audit_latest_policy, trace_lines_of_parts, audit_made_policy, trace_numbered_file, open_trace_line}
unfoldable pub use Rattle.trace_audit.specs.Reading.{audit_lines_of}
pub use Rattle.trace_audit.specs.Run.{AreTraceItems, AreTraceLineItems, AreAuditedTraceRun}
pub use Rattle.trace_audit.specs.Seen.{IsTraceLineRead, IsTraceLineTaken, audit_packet_seen, trace_packets_seen, trace_run_get, trace_state_seen, trace_packets_with_one}
pub use Rattle.trace_audit.specs.Told.{IsTraceWordTaken, AuditTold, audit_any_told, audit_line_begins_with, audit_decided_told, trace_word_lacks_blank, audit_indented_told, is_trace_row_number, trace_number_of_word, audit_packet_row_told, audit_pair_told, audit_row_told, audit_silent_told, audit_told_by_words, trace_words_left, audit_words_of}
unfoldable pub use Rattle.trace_audit.specs.Told.{audit_item_told, audit_told_of}
pub use Rattle.trace_audit.specs.Verdicts.{IsTraceAuditVerdict, IsFirstBadAuditLine}
