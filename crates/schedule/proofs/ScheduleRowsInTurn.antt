-- Rows that are read one after another.
use Rattle.std.proofs.Common.{◌++◌, ◌+◌, Err, List, Ok, Result, length, slice_get, ℕ}
use Rattle.base.proofs.Exports.{option_map_or}
use Rattle.net_file.specs.declared.net.Net.{Net}
use Rattle.steps.specs.declared.step.Event.{Event}
use Rattle.base.specs.declared.row.InRow.{InRow}
use Rattle.schedule.specs.Reading.{schedule_events_in, schedule_refusals_from}
use Rattle.schedule.specs.declared.error.ScheduleRefusal.{ScheduleRefusal}

abbrev pub Records : Type 0
Records = List (List (List ℕ))

-- what is read in the end, once these events were read and these records are left
abbrev pub goes_on : Net → ℕ → List Event → Records → Result (List Event) (InRow ScheduleRefusal)
goes_on net files events left =
    option_map_or Err (slice_get (schedule_refusals_from net files (length events + 1) left) 0)
    (Ok (events ++ schedule_events_in net files left))
