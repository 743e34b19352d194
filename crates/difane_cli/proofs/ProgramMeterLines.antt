-- The lines of meters, and the text of a replay, which has the last lines after the journal's.
use Rattle.std.proofs.Common.{[], ◌++◌, ◌∷◌, ◌≡◌, ◌≢◌, Bool, Err, List, None, Option, Some, ap, flat_map, length, map, refl, ℕ}
use Rattle.update_machine.specs.Exports.{Item, Leaving, Net}
use Rattle.journal_text.specs.Lines.{journal_text}
use Rattle.meters.specs.Exports.{SeenMeter}
use Rattle.shelf.specs.Exports.{IsSinkAfterWrite, SinkState}
use Rattle.shelf.specs.declared.output.SinkError.{SinkError}
use Rattle.difane_cli.specs.Exports.{program_last_lines, program_meter_line_by, program_meter_line, program_meter_lines, program_notes_line, program_replay_text}
use Rattle.shelf.proofs.SinkGains.{first_part}

-- ---- one line

pub line_none : (port : ℕ) (held : List Leaving) → length held ≡ 0 → program_meter_line_by port held ≡ []
line_none port [] none = refl
line_none port (one ∷ held) none = absurd (cc none)

pub line_some : (port : ℕ) (held : List Leaving) → length held ≢ 0
    → program_meter_line_by port held ≡ program_notes_line port (length held)
line_some port [] some = absurd (some refl)
line_some port (one ∷ held) some = refl

-- ---- the lines of all meters

pub lines_of : {X : Type 0} (seen : X → SeenMeter) (xs : List X)
    → flat_map (λ meter. program_meter_line (seen meter)) xs ≡ program_meter_lines (map seen xs)
lines_of seen [] = refl
lines_of seen (x ∷ xs) = ap (λ lines. program_meter_line (seen x) ++ lines) (lines_of seen xs)

-- ---- some bytes

pub none_left : (xs ys : List ℕ) → xs ++ ys ≡ [] → xs ≡ []
none_left [] ys is = refl
none_left (x ∷ xs) ys is = absurd (cc is)

pub none_right : (xs ys : List ℕ) → xs ++ ys ≡ [] → ys ≡ []
none_right [] ys is = is
none_right (x ∷ xs) ys is = absurd (cc is)

-- a play that didn't stop full has both
pub text_whole : (net : Net) (journal : List Item) (full : Option ℕ) (meters : List SeenMeter)
    (answer : Option Bool) → full ≡ None → journal_text net journal ++ program_last_lines meters answer
    ≡ program_replay_text net journal full meters answer
text_whole net journal None meters answer is = refl
text_whole net journal (Some row) meters answer is = absurd (cc is)

-- where it is empty, the journal's is
pub none_of_text : (net : Net) (journal : List Item) (full : Option ℕ) (meters : List SeenMeter)
    (answer : Option Bool) → program_replay_text net journal full meters answer ≡ []
    → journal_text net journal ≡ []
none_of_text net journal None meters answer none =
    none_left (journal_text net journal) (program_last_lines meters answer) none
none_of_text net journal (Some row) meters answer none = none

-- the journal's text was cut short
pub cut_short : (net : Net) (journal : List Item) (full : Option ℕ) (meters : List SeenMeter)
    (answer : Option Bool) (before now : SinkState) (takes_memory : Bool) (why : SinkError)
    → IsSinkAfterWrite (journal_text net journal) takes_memory before now (Err why)
    → IsSinkAfterWrite (program_replay_text net journal full meters answer) takes_memory before now (Err why)
cut_short net journal None meters answer before now takes_memory why after = first_part before now
    (journal_text net journal) (program_last_lines meters answer) takes_memory why after
cut_short net journal (Some row) meters answer before now takes_memory why after = after
