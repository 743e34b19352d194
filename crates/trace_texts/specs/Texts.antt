-- The text of a journal that answers a schedule, and the lines that may follow it.
use Rattle.std.specs.Prelude.{[], ◌++◌, ◌∷◌, ◌≡◌, ◌≢◌, ◌≤◌, ◌⊎◌, All, List, None, Option, Some, codes, flat_map, length, ℕ}
use Rattle.control_laws.specs.Exports.{AreControlNetworkEvents}
use Rattle.update_machine.specs.Exports.{Answers, Event, IsMachineSetting, Item, Setting, JournalStopsFull}
use Rattle.journal_text.specs.Lines.{journal_text}
use Rattle.steps.specs.Exports.{max_events, max_step_number}
use Rattle.trace_audit.specs.Exports.{AreGoodAuditLines, audit_lines_of}

-- the line is a meter's, or the one that says whether the network is quiet
pub record IsLastTraceTextLine (line : List ℕ) : Type 0 where
  pub rest : List ℕ
  pub begins : (line ≡ codes "meter " ++ rest) ⊎ (line ≡ codes "quiet " ++ rest)
  pub one_line : All (λ byte. byte ≢ 10) line

abbrev pub trace_text_with_feeds : List (List ℕ) → List ℕ
trace_text_with_feeds lines = flat_map (λ line. line ++ 10 ∷ []) lines

-- the journal answers the events; or, if the play stopped full, has the steps before that
abbrev pub IsTraceTextAnswerTo : Setting → List Event → List Item → Option ℕ → Type 0
IsTraceTextAnswerTo setting events journal None = Answers setting events journal
IsTraceTextAnswerTo setting events journal (Some row) = JournalStopsFull setting events journal row

-- the text of each journal that answers at most 100,000 events, of at most 999,999,999 files, is
-- made of good lines, and so are the last lines after it
abbrev pub TraceTextsAreGood : Type 0
TraceTextsAreGood = (setting : Setting) (events : List Event) (journal : List Item) (full : Option ℕ)
    (last : List (List ℕ)) → IsMachineSetting setting → AreControlNetworkEvents setting events
    → IsTraceTextAnswerTo setting events journal full
    → length events ≤ max_events → length setting.files ≤ max_step_number → All IsLastTraceTextLine last
    → AreGoodAuditLines setting.files (audit_lines_of (journal_text setting.net journal ++ trace_text_with_feeds last))
