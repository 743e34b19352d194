-- The text of a play whose lines are told is a trace each line of which is good.
use Rattle.std.proofs.Common.{[], ◌++◌, ◌∙◌, ◌∷◌, ◌≡◌, ◌≤◌, All, Bool, List, None, Option, Some, ap, append-nil, append_assoc, arith, codes, decimal, false, inl, inr, length, refl, subst, true, ℕ}
use Rattle.base.proofs.Exports.{All-append, All-cons, All-nil, flat_map-append}
use Rattle.control_laws.specs.Exports.{AreControlNetworkEvents}
use Rattle.update_machine.specs.Exports.{Event, IsMachinePlay, IsMachineSetting, Item, Leaving, Setting}
use Rattle.journal_text.specs.Lines.{journal_text}
use Rattle.meters.specs.Exports.{SeenMeter}
use Rattle.meters.specs.declared.flows.FlowRecord.{FlowRecord}
use Rattle.steps.specs.Exports.{max_events, max_step_number}
use Rattle.trace_audit.specs.Exports.{AreGoodAuditLines, audit_lines_of}
use Rattle.trace_texts.specs.Texts.{IsTraceTextAnswerTo, IsLastTraceTextLine, TraceTextsAreGood, trace_text_with_feeds}
use Rattle.trace_texts.proofs.TraceTextPieces.{IsOneLine, joined, number_line, tested}
use Rattle.command_line.specs.Exports.{Command}
use Rattle.command_line.specs.Commands as asked
use Rattle.command_line.specs.declared.report.Report.{Report}
use Rattle.command_line.specs.declared.report.Report.TheVariants as report
use Rattle.command_inputs.specs.Exports.{Inputs, AreCommandPlayInputs, MayPlayCommandInputs}
use Rattle.difane_cli.specs.Exports.{IsProgramTraceGood, ProgramReportTellsLines, program_last_lines, program_meter_line_by, program_meter_line, program_meter_lines, program_notes_line, program_play_text, program_quiet_line, program_replay_text}

-- ---- the last lines, without their line feeds

abbrev notes_text : ℕ → ℕ → List ℕ
notes_text port notes = codes "meter port " ++ (decimal port ++ (codes " notes " ++ decimal notes))

abbrev meter_texts : ℕ → List Leaving → List (List ℕ)
meter_texts port [] = []
meter_texts port (one ∷ held) = notes_text port (length (one ∷ held)) ∷ []

abbrev all_texts : List SeenMeter → List (List ℕ)
all_texts [] = []
all_texts (meter ∷ meters) = meter_texts meter.port meter.held ++ all_texts meters

abbrev quiet_texts : Option Bool → List (List ℕ)
quiet_texts None = []
quiet_texts (Some true) = codes "quiet yes" ∷ []
quiet_texts (Some false) = codes "quiet no" ∷ []

-- with them they are what is written

notes_whole : (port notes : ℕ) → notes_text port notes ++ 10 ∷ [] ≡ program_notes_line port notes
notes_whole port notes =
    ap (λ text. codes "meter port " ++ text)
    (append_assoc (decimal port) (codes " notes " ++ decimal notes) (10 ∷ []))

meter_whole : (port : ℕ) (held : List Leaving)
    → trace_text_with_feeds (meter_texts port held) ≡ program_meter_line_by port held
meter_whole port [] = refl
meter_whole port (one ∷ held) = append-nil (notes_text port (length (one ∷ held)) ++ 10 ∷ [])
    ∙ notes_whole port (length (one ∷ held))

meters_whole : (meters : List SeenMeter) → trace_text_with_feeds (all_texts meters) ≡ program_meter_lines meters
meters_whole [] = refl
meters_whole (meter ∷ meters) =
    flat_map-append (λ line. line ++ 10 ∷ []) (meter_texts meter.port meter.held) (all_texts meters)
    ∙ ap (λ text. text ++ trace_text_with_feeds (all_texts meters)) (meter_whole meter.port meter.held)
    ∙ ap (λ text. program_meter_line meter ++ text) (meters_whole meters)

quiet_whole : (answer : Option Bool) → trace_text_with_feeds (quiet_texts answer) ≡ program_quiet_line answer
quiet_whole None = refl
quiet_whole (Some true) = refl
quiet_whole (Some false) = refl

last_whole : (meters : List SeenMeter) (answer : Option Bool)
    → trace_text_with_feeds (all_texts meters ++ quiet_texts answer) ≡ program_last_lines meters answer
last_whole meters answer =
    flat_map-append (λ line. line ++ 10 ∷ []) (all_texts meters) (quiet_texts answer)
    ∙ ap (λ text. text ++ trace_text_with_feeds (quiet_texts answer)) (meters_whole meters)
    ∙ ap (λ text. program_meter_lines meters ++ text) (quiet_whole answer)

-- each is the line of a meter or of an answer

notes_one_line : (port notes : ℕ) → IsOneLine (notes_text port notes)
notes_one_line port notes =
    joined (tested (codes "meter port ") refl)
    (joined (number_line port) (joined (tested (codes " notes ") refl) (number_line notes)))

meter_is_last : (port : ℕ) (held : List Leaving) → All IsLastTraceTextLine (meter_texts port held)
meter_is_last port [] = All-nil IsLastTraceTextLine
meter_is_last port (one ∷ held) =
    All-cons IsLastTraceTextLine (notes_text port (length (one ∷ held))) [] (record {
      rest = codes "port "
          ++ (decimal port ++ (codes " notes " ++ decimal (length (one ∷ held))));
      begins = inl refl;
      one_line = (notes_one_line port (length (one ∷ held))).bytes;
    }) (All-nil IsLastTraceTextLine)

meters_are_last : (meters : List SeenMeter) → All IsLastTraceTextLine (all_texts meters)
meters_are_last [] = All-nil IsLastTraceTextLine
meters_are_last (meter ∷ meters) = All-append IsLastTraceTextLine (meter_texts meter.port meter.held)
    (all_texts meters) (meter_is_last meter.port meter.held) (meters_are_last meters)

answer_is_last : (word : List ℕ) → IsOneLine (codes "quiet " ++ word)
    → All IsLastTraceTextLine ((codes "quiet " ++ word) ∷ [])
answer_is_last word one_line =
    All-cons IsLastTraceTextLine (codes "quiet " ++ word) []
    (record { rest = word; begins = inr refl; one_line = one_line.bytes }) (All-nil IsLastTraceTextLine)

quiet_is_last : (answer : Option Bool) → All IsLastTraceTextLine (quiet_texts answer)
quiet_is_last None = All-nil IsLastTraceTextLine
quiet_is_last (Some true) = answer_is_last (codes "yes") (tested (codes "quiet yes") refl)
quiet_is_last (Some false) = answer_is_last (codes "no") (tested (codes "quiet no") refl)

-- ---- the text of a play

answered : (setting : Setting) (events : List Event) (journal : List Item) (full : Option ℕ)
    → IsMachinePlay setting events journal full → IsTraceTextAnswerTo setting events journal full
answered setting events journal None play = play.answers
answered setting events journal (Some row) play = play

good_text : TraceTextsAreGood → (setting : Setting) (events : List Event) (journal : List Item)
    (full : Option ℕ) (meters : List SeenMeter) (answer : Option Bool) → IsMachineSetting setting
    → AreControlNetworkEvents setting events → IsMachinePlay setting events journal full → length events ≤ max_events
    → length setting.files ≤ max_step_number
    → AreGoodAuditLines setting.files (audit_lines_of (program_replay_text setting.net journal full meters answer))
good_text laws setting events journal None meters answer is own play few numbered =
    subst (λ (text : List ℕ). AreGoodAuditLines setting.files
    (audit_lines_of (journal_text setting.net journal ++ text))) (last_whole meters answer)
    (laws setting events journal None (all_texts meters ++ quiet_texts answer) is own
    (answered setting events journal None play) few numbered (All-append IsLastTraceTextLine
    (all_texts meters) (quiet_texts answer) (meters_are_last meters) (quiet_is_last answer)))
good_text laws setting events journal (Some row) meters answer is own play few numbered =
    subst (λ (text : List ℕ). AreGoodAuditLines setting.files (audit_lines_of text))
    (append-nil (journal_text setting.net journal)) (laws setting events journal (Some row) [] is
    own (answered setting events journal (Some row) play) few numbered (All-nil IsLastTraceTextLine))

-- ---- what a play tells

module _ (laws : TraceTextsAreGood) (inputs : Inputs) (journal : List Item) (full : Option ℕ)
    (gone : List FlowRecord) (meters : List SeenMeter) (answer : Option Bool) (sound : MayPlayCommandInputs inputs)
    (play : IsMachinePlay inputs.setting inputs.events journal full) where
  good_lines : length inputs.events ≤ max_events → length inputs.setting.files ≤ 64
      → (told : Report) → ProgramReportTellsLines told → AreGoodAuditLines inputs.setting.files
      (audit_lines_of (program_play_text told inputs.setting.net journal full gone meters answer))
  good_lines few some (report.Lines quiet) tells =
      let numbered : length inputs.setting.files ≤ 999_999_999 = omega (arith, some) in
      good_text laws inputs.setting inputs.events journal full meters answer sound.setting
      sound.events play few numbered
  good_lines few some report.Flows tells = absurd tells
  good_lines few some report.Placement tells = absurd tells
  good_lines few some report.Summary tells = absurd tells

  pub good_trace : (command : Command) → AreCommandPlayInputs command inputs → IsProgramTraceGood inputs
      (program_play_text inputs.report inputs.setting.net journal full gone meters answer)
  good_trace (asked.Replay args) own = good_lines own.limits.events own.limits.files inputs.report
  good_trace (asked.Load n) own = λ tells.
      absurd (subst (λ (drawn : Inputs). ProgramReportTellsLines drawn.report) own tells)
  good_trace (asked.Print args) own = absurd own
  good_trace (asked.Audit args) own = absurd own
