-- The definitions of this crate that others use, passed on from the files that define them.
pub use Rattle.journal_reports.specs.Buckets.{AreEmptyReportBuckets, ReportBucketHasSaying, IsKeptInReportBucket, report_bucket_messages, report_bucket_of, report_bucket_messages_at, report_subject_of_body}
pub use Rattle.journal_reports.specs.Judging.{HaveSameListsInReport, ReportedMessageSaysAsMuch, report_concerned_switch, report_has_mark, is_missed_in_report, is_named_in_report, report_is_same_advert, is_same_report_receiver, matters_in_report_status, journal_report_replaces_body, report_switch_status_in, report_status_item, report_switch_status_with, report_switch_of_message}
pub use Rattle.journal_reports.specs.Summary.{SummaryCountsHaveRoom, summary_counts_after_item, summary_counts_text, summary_counts_cached, summary_counts_closed, summary_counts_dropped, summary_counts_entered, summary_counts_left, summary_counts_lost, summary_counts_sent, summary_counts_stuck, summary_item_counts, summary_one_more, summary_text}
pub use Rattle.journal_reports.specs.Traffic.{AreReportTrafficRows, ReportTrafficConcernsOne, IsReportTrafficAdded, IsReportTrafficAfter, IsReportTrafficMet, IsReportTraffic}
