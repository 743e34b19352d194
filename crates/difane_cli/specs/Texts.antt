-- First tier. What a play writes: its lines with those of its meters and its verdict, or flow
-- records, or counts.
use Rattle.std.specs.Prelude.{[], ◌++◌, ◌∷◌, Bool, List, None, Option, Some, codes, decimal, false, flat_map, length, true, ℕ}
use Rattle.base.specs.Exports.{concat}
use Rattle.update_machine.specs.Exports.{Item, Leaving, Net}
use Rattle.journal_text.specs.Lines.{journal_text}
use Rattle.journal_reports.specs.Exports.{summary_counts_text}
use Rattle.meters.specs.Exports.{SeenMeter}
use Rattle.meters.specs.declared.flows.FlowRecord.{FlowRecord}
use Rattle.command_line.specs.declared.report.Report.{Report}
use Rattle.difane_cli.specs.FlowLines.{program_flow_text_unless_full}
use Rattle.command_line.specs.declared.report.Report.TheVariants as report

-- the line of a meter of this port that has this many notes, with its line feed
abbrev pub program_notes_line : ℕ → ℕ → List ℕ
program_notes_line port notes = concat (codes "meter port " ∷ decimal port
    ∷ codes " notes " ∷ decimal notes ∷ codes "\n" ∷ [])

-- the line of a meter; an empty meter has none
abbrev pub program_meter_line_by : ℕ → List Leaving → List ℕ
program_meter_line_by port [] = []
program_meter_line_by port held = program_notes_line port (length held)

abbrev pub program_meter_line : SeenMeter → List ℕ
program_meter_line meter = program_meter_line_by meter.port meter.held

abbrev pub program_meter_lines : List SeenMeter → List ℕ
program_meter_lines meters = flat_map program_meter_line meters

-- whether the network is quiet, with the line feed; nothing if there is no verdict
abbrev pub program_quiet_line : Option Bool → List ℕ
program_quiet_line None = []
program_quiet_line (Some true) = codes "quiet yes\n"
program_quiet_line (Some false) = codes "quiet no\n"

abbrev pub program_last_lines : List SeenMeter → Option Bool → List ℕ
program_last_lines meters answer = program_meter_lines meters ++ program_quiet_line answer

-- the text of the journal, and after its last line those of the meters and the one of the verdict;
-- a play that stopped full has only the journal's
abbrev pub program_replay_text : Net → List Item → Option ℕ → List SeenMeter → Option Bool → List ℕ
program_replay_text net journal None meters answer = journal_text net journal ++ program_last_lines meters answer
program_replay_text net journal (Some row) meters answer = journal_text net journal

-- what a play prints
abbrev pub program_play_text : Report → Net → List Item → Option ℕ → List FlowRecord → List SeenMeter
    → Option Bool → List ℕ
program_play_text (report.Lines quiet) net journal full gone meters answer =
    program_replay_text net journal full meters answer
program_play_text report.Flows net journal full gone meters answer = program_flow_text_unless_full full gone meters
program_play_text report.Placement net journal full gone meters answer = []
program_play_text report.Summary net journal full gone meters answer = summary_counts_text journal full
