-- The definitions of this crate that others use, passed on from the files that define them.
pub use Rattle.version_update.specs.Laws.{IsLeastOfMarks, update_no_mark_rose}
pub use Rattle.version_update.specs.Marks.{AreVersionMarksBounded, AreVersionMarksSettled, MarksValue, VersionMarksStaySettled, update_acked_stamps, update_all_have_acked, version_marks_with_switch_changed, first_marks, least_of_marks, update_member_records, update_record_of, update_retired_of, version_marks_with_version}
pub use Rattle.version_update.specs.Record.{IsSoundUpdateRecord, mark_record_after_installed, mark_record_after_over, update_after_stamped, first_update_record, has_acked, update_hello_recorded, is_joining, is_member, is_over, opened_update_record, update_joining_opens_at, update_takes_hello, mark_takes_installed, update_takes_stamped, unknown_update_record}
pub use Rattle.version_update.specs.Settling.{MaskNamesUpdateSwitches, VersionMarksSettlingReports, CurrentMarkRisesTo, SettlesVersionMarks, mark_rises_to}
