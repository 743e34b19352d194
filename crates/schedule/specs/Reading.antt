-- The events that a text states, as CSV records: a heading, and a record for each event.
use Rattle.std.specs.Prelude.{[], if◌then◌else◌, ◌∷◌, ◌≡◌, ◌≤◌, All, Err, List, Ok, Option, Result, Some, filter_map, length, nat_lt, option_map, slice_get, ℕ}
use Rattle.base.specs.Exports.{enumerate_from, option_map_or, result_err, result_ok}
use Rattle.csv_records.specs.Texts.{is_csv_heading, csv_records_of}
use Rattle.net_file.specs.declared.net.Net.{Net}
use Rattle.steps.specs.Exports.{IsEventOfSteps, max_events}
use Rattle.steps.specs.declared.step.Event.{Event}
use Rattle.base.specs.declared.row.InRow.{InRow}
use Rattle.schedule.specs.Rows.{schedule_event_of, schedule_heading}
use Rattle.schedule.specs.declared.error.ScheduleRefusal.{ScheduleRefusal}
use Rattle.schedule.specs.declared.error.ScheduleRefusal.TheVariants as why

-- why the row of this number is refused, if it is: it states no event, or is past row 100,000
abbrev pub schedule_refusal_in : Net → ℕ → ℕ → List (List ℕ) → Option ScheduleRefusal
schedule_refusal_in net files row fields =
    if nat_lt max_events row then Some why.TooManyRows else result_err (schedule_event_of net files fields)

-- the same with the row's number
abbrev pub refused_schedule_row : Net → ℕ → ℕ × List (List ℕ) → Option (InRow ScheduleRefusal)
refused_schedule_row net files row =
    option_map (λ refusal. record { refusal = refusal; row = row.0 })
    (schedule_refusal_in net files row.0 row.1)

-- the refusals of all these rows, the first of which has this number
abbrev pub schedule_refusals_from : Net → ℕ → ℕ → List (List (List ℕ)) → List (InRow ScheduleRefusal)
schedule_refusals_from net files first records =
    filter_map (refused_schedule_row net files) (enumerate_from first records)

-- the events of the records that state one
abbrev pub schedule_events_in : Net → ℕ → List (List (List ℕ)) → List Event
schedule_events_in net files records = filter_map (λ fields. result_ok (schedule_event_of net files fields)) records

-- the events that the records state, one each; or the first refusal
abbrev pub schedule_events_of : Net → ℕ → List (List (List ℕ)) → Result (List Event) (InRow ScheduleRefusal)
schedule_events_of net files records =
    option_map_or Err (slice_get (schedule_refusals_from net files 1 records) 0)
    (Ok (schedule_events_in net files records))

abbrev pub no_schedule_heading : Result (List Event) (InRow ScheduleRefusal)
no_schedule_heading = Err (record { refusal = why.Header; row = 0 })

-- the events under the heading
abbrev pub schedule_events_under_heading : Net → ℕ → List (List (List ℕ))
    → Result (List Event) (InRow ScheduleRefusal)
schedule_events_under_heading net files [] = no_schedule_heading
schedule_events_under_heading net files (first ∷ records) =
    if is_csv_heading schedule_heading first then schedule_events_of net files records else no_schedule_heading

-- the events that a text states
unfoldable pub schedule_of : Net → ℕ → List ℕ → Result (List Event) (InRow ScheduleRefusal)
schedule_of net files bytes = schedule_events_under_heading net files (csv_records_of bytes)

-- ---- laws

-- what is true of the events of any text
pub record AreSoundScheduleEvents (net : Net) (files : ℕ) (events : List Event) : Type 0 where
  pub steps : All (IsEventOfSteps net files) events
  pub few : length events ≤ max_events

pub record ScheduleLaws : Type 0 where
  pub sound : (net : Net) (files : ℕ) (bytes : List ℕ) (events : List Event)
      → schedule_of net files bytes ≡ Ok events → AreSoundScheduleEvents net files events
