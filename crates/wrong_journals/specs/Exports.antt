-- The definitions of this crate that others use, passed on from the files that define them.
pub use Rattle.wrong_journals.specs.Office.{wrong_journal_allowed, wrong_journal_denied, wrong_journal_everywhere, wrong_journal_gets, wrong_journals_in_at_a, wrong_journals_behind_update, wrong_journal_office, wrong_journals_policy, wrong_journal_row, wrong_journals_second_policy, wrong_journal_server_room}
pub use Rattle.wrong_journals.specs.Right.{right_journal_decided, right_journal_dropped, right_journal_left, right_journal_lost, right_journal_stuck, right_journal_updated}
pub use Rattle.wrong_journals.specs.Wrong.{wrong_journal_another_row, wrong_journal_decided_twice, wrong_journal_dropped_undecided, wrong_journal_entered_unasked, wrong_journal_half_and_half, wrong_journal_lost_by_nothing, wrong_journal_other_port, wrong_journal_retired_version, wrong_journal_stuck_beside_route, wrong_journal_unknown_version}
