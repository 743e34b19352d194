-- The text of a journal that answers a schedule: what is known at its beginning.
use Rattle.std.proofs.Common.{[], ◌++◌, ◌+◌, ◌-◌, ◌∙◌, ◌∷◌, ◌≡◌, ◌≤◌, All, List, None, Option, Some, ap, append-nil, arith, get_or, length, length-append, length-take, map, subst, sym, take, ℕ}
use Rattle.base.proofs.Exports.{All-append, All-cons, All-head, All-nil, All-tail, All-take, length-option_to_list, result_ok}
use Rattle.control_laws.specs.Exports.{AreControlNetworkEvents, ControlLawHoldsAlways, ControlLawHoldsReached, ControlVersionsArePlanned}
use Rattle.update_machine.specs.Exports.{Answers, JournalBeginsAnswer, Deliver, Drain, Event, Flush, HasMachineCause, JournalItemsHaveCauses, Hop, IsMachinePlay, IsMachineRun, IsMachineSetting, Item, Net, One, Packet, Setting, Step, machine_count_of, first_machine, is_journal_submission, machine_policy_by, journal_version_count}
use Rattle.journal_text.specs.Lines.{journal_item_line, journal_text}
use Rattle.net_file.specs.Exports.{NetPortLaws}
use Rattle.packet_laws.proofs.Exports.{play_begins}
use Rattle.packet_laws.specs.Exports.{ArePacketRowsEntered, PacketLawStepRow, packet_law_event_row, packet_law_rows_played, packet_law_step_row, packet_law_step_rows, packet_law_step_rows_in}
use Rattle.steps.specs.Exports.{IsEventOfSteps, IsStep, max_events}
use Rattle.trace_audit.specs.Exports.{ReadsAllAuditLines, Whole, first_trace_state, audit_lines_of}
use Rattle.update_machine.proofs.Exports.{answers_so_far, begins_itself}
use Rattle.trace_texts.specs.Texts.{IsTraceTextAnswerTo, TraceTextsAreGood, trace_text_with_feeds}
use Rattle.trace_texts.proofs.TraceTextWholeLines.{last_read, lines_each, none_behind}
use Rattle.trace_texts.proofs.TraceTextOneLine.{item_one_line}
use Rattle.trace_texts.proofs.TraceTextGoodLines.{IsOwnRow, Known, reads_from}
use Rattle.trace_texts.proofs.TraceTextItems.{TextLaws}

pub record PlayLaws : Type 0 where
  pub texts : TextLaws
  pub ports : NetPortLaws
  pub planned : ControlLawHoldsAlways (λ setting journal. ControlVersionsArePlanned setting journal)
  pub entered : (setting : Setting) (events : List Event) (journal : List Item) (full : Option ℕ)
      → IsTraceTextAnswerTo setting events journal full → ArePacketRowsEntered (packet_law_rows_played full events) journal
  pub runs : ControlLawHoldsReached (λ setting journal. IsMachineSetting setting → IsMachineRun setting journal)
  pub causes : ControlLawHoldsReached (λ setting journal.
      IsMachineSetting setting → JournalItemsHaveCauses (HasMachineCause setting) [] journal)

-- ---- whole answers, and those that stop full

pub answered_entered : ((setting : Setting) (events : List Event) (journal : List Item)
    → Answers setting events journal → ArePacketRowsEntered (packet_law_step_rows 1 events) journal)
    → ((setting : Setting) (events : List Event) (journal : List Item) (full : Option ℕ)
    → IsMachinePlay setting events journal full → ArePacketRowsEntered (packet_law_rows_played full events) journal)
    → (setting : Setting) (events : List Event) (journal : List Item) (full : Option ℕ)
    → IsTraceTextAnswerTo setting events journal full → ArePacketRowsEntered (packet_law_rows_played full events) journal
answered_entered answered played setting events journal None is = answered setting events journal is
answered_entered answered played setting events journal (Some row) is =
    played setting events journal (Some row) is

answered_begins : (setting : Setting) (events : List Event) (journal : List Item) (full : Option ℕ)
    → IsTraceTextAnswerTo setting events journal full → JournalBeginsAnswer setting events journal
answered_begins setting events journal None answers =
    begins_itself setting events journal (answers_so_far setting events journal answers)
answered_begins setting events journal (Some row) stop =
    play_begins setting events journal (Some row) stop

-- ---- the rows of a schedule

step_own : (net : Net) (files row : ℕ) (step : Step) → 1 ≤ row → row ≤ max_events
    → IsStep net files step → All (IsOwnRow net) (packet_law_step_row row step)
step_own net files row (Packet switch header) above most is =
    All-cons (IsOwnRow net) (record { row = row; step = Packet switch header }) []
    (above, most, is.0, is.1) (All-nil (IsOwnRow net))
step_own net files row (Hop packet) above most is = All-nil (IsOwnRow net)
step_own net files row (Deliver message) above most is = All-nil (IsOwnRow net)
step_own net files row step above most is =
    All-cons (IsOwnRow net) (record { row = row; step = step }) [] tt (All-nil (IsOwnRow net))

event_own : (net : Net) (files row : ℕ) (event : Event) → 1 ≤ row → row ≤ max_events
    → IsEventOfSteps net files event → All (IsOwnRow net) (packet_law_event_row row event)
event_own net files row (One step) above most is = step_own net files row step above most is
event_own net files row Flush above most is = All-nil (IsOwnRow net)
event_own net files row Drain above most is = All-nil (IsOwnRow net)

rows_own : (net : Net) (files row : ℕ) (events : List Event) → 1 ≤ row
    → row + length events ≤ max_events + 1 → All (IsEventOfSteps net files) events
    → All (IsOwnRow net) (packet_law_step_rows row events)
rows_own net files row [] above most are = All-nil (IsOwnRow net)
rows_own net files row (event ∷ events) above most are = All-append (IsOwnRow net)
    (packet_law_event_row row event) (packet_law_step_rows (row + 1) events) (event_own net files row event above
    (omega arith) (All-head (IsEventOfSteps net files) event events are)) (rows_own net files
    (row + 1) events (omega arith) (omega arith) (All-tail (IsEventOfSteps net files) event events are))

step_few : (row : ℕ) (step : Step) → length (packet_law_step_row row step) ≤ 1
step_few row (Hop packet) = omega arith
step_few row (Deliver message) = omega arith
step_few row step = omega arith

event_few : (row : ℕ) (event : Event) → length (packet_law_event_row row event) ≤ 1
event_few row (One step) = step_few row step
event_few row Flush = omega arith
event_few row Drain = omega arith

rows_few : (row : ℕ) (events : List Event) → length (packet_law_step_rows row events) ≤ length events
rows_few row [] = omega arith
rows_few row (event ∷ events) = omega (
  arith,
  event_few row event,
  rows_few (row + 1) events,
  length-append (packet_law_event_row row event) (packet_law_step_rows (row + 1) events),
)

-- those that were played are few, and of the network
record AreFewOwn (net : Net) (rows : List PacketLawStepRow) : Type 0 where
  few : length rows ≤ max_events
  own : All (IsOwnRow net) rows

some_played : (net : Net) (files : ℕ) (events : List Event) → All (IsEventOfSteps net files) events
    → length events ≤ max_events → AreFewOwn net (packet_law_step_rows 1 events)
some_played net files events are most = record {
  few = omega (arith, rows_few 1 events, most);
  own = rows_own net files 1 events (omega arith) (omega (arith, most)) are;
}

played_rows : (net : Net) (files : ℕ) (full : Option ℕ) (events : List Event)
    → All (IsEventOfSteps net files) events → length events ≤ max_events
    → AreFewOwn net (packet_law_rows_played full events)
played_rows net files None events are most = some_played net files events are most
played_rows net files (Some row) events are most =
    some_played net files (take (row - 1) events) (All-take (IsEventOfSteps net files) (row - 1) events are)
    (omega (arith, most, length-take (row - 1) events))

-- ---- the beginning

known_first : (laws : PlayLaws) (setting : Setting) (events : List Event) (journal : List Item)
    (full : Option ℕ) → IsMachineSetting setting → AreControlNetworkEvents setting events
    → IsTraceTextAnswerTo setting events journal full → length events ≤ max_events
    → Known setting [] (first_machine setting) journal
unfolding journal_version_count
known_first laws setting events journal full is own play most =
    let begins = answered_begins setting events journal full play in
    let rows : AreFewOwn setting.net (packet_law_step_rows_in journal) = subst (AreFewOwn setting.net)
    (sym (laws.entered setting events journal full play).in_order)
    (played_rows setting.net (length setting.files) full events own most) in
    let planned = laws.planned.behind.begun setting events journal begins in
    let versions : machine_count_of is_journal_submission journal + 1 ≤ 64 = planned.few in record {
      versions = omega (arith, versions, length-option_to_list (result_ok (machine_policy_by setting None 1)));
      small = λ i packet known. absurd cc;
      few = omega (arith, rows.few);
      rows = rows.own;
      causes = laws.causes.begun setting events journal own begins is;
    }

pub texts_good : PlayLaws → TraceTextsAreGood
texts_good laws setting events journal full last is own play most numbered are =
    let net = setting.net in
    let ends = map (λ (text : List ℕ). Whole text) last in
    let run = laws.runs.begun setting events journal own
    (answered_begins setting events journal full play) is in
    let read = reads_from laws.texts laws.ports setting is.net numbered ends
    (λ state. last_read setting.files state last are) [] (first_machine setting) None journal run.0
    (known_first laws setting events journal full is own play most)
    (laws.entered setting events journal full play).each run.1 in
    let behind : audit_lines_of (trace_text_with_feeds last) ≡ ends =
    ap audit_lines_of (sym (append-nil (trace_text_with_feeds last))) ∙ lines_each (λ (text : List ℕ). text)
    last [] (λ k d within. record { bytes = (are k d within).one_line }) ∙ none_behind ends in
    let lines : audit_lines_of (journal_text net journal ++ trace_text_with_feeds last)
    ≡ map (λ first. Whole (journal_item_line net first)) journal ++ ends =
    lines_each (journal_item_line net) journal (trace_text_with_feeds last)
    (λ k d within. item_one_line laws.texts.names net is.net (get_or journal k d))
    ∙ ap (λ more. map (λ first. Whole (journal_item_line net first)) journal ++ more) behind in
    (read.0, subst (λ ls. ReadsAllAuditLines setting.files (first_trace_state setting.files) ls read.0) (sym lines) read.1)
