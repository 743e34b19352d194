-- Lines of a trace: taken one at a time, and what they say.
use Rattle.std.proofs.Common.{[], ◌<◌, ◌==◌, ◌∙◌, ◌∷◌, ◌≡◌, Bool, Err, IfOk, List, None, Ok, Option, Result, Some, ap, arith, codes, cond, false, length, refl, subst, true, ℕ}
use Rattle.base.proofs.Exports.{length-slice_split, onto_first}
use Rattle.five_tuple.specs.Exports.{tuple_text_parts_round_byte}
use Rattle.update_machine.specs.Exports.{PolicyFile}
use Rattle.trace_audit.specs.Exports.{AuditStateFollows, IsTraceLineRead, IsTraceLineTaken, Open, AuditTold, TraceState, Whole, audit_line_begins_with, audit_decided_told, audit_indented_told, is_trace_row_number, audit_item_told, audit_lines_of, trace_lines_of_parts, open_trace_line, audit_silent_told, audit_told_by_words, audit_told_of}

-- ---- parts

some_parts : (parts : List (List ℕ)) → 0 < length parts
    → (part : List ℕ) × (more : List (List ℕ)) × (parts ≡ part ∷ more)
some_parts [] h = absurd (omega arith)
some_parts (part ∷ more) h = (part, more, refl)

-- a text has a first part
pub first_part : (byte : ℕ) (text : List ℕ)
    → (part : List ℕ) × (more : List (List ℕ)) × (tuple_text_parts_round_byte byte text ≡ part ∷ more)
first_part byte text = some_parts (tuple_text_parts_round_byte byte text) (omega (arith, length-slice_split))

-- a word in which something follows the colon is no row's number
row_number_by : (digits : List ℕ) (b : ℕ) (is_end : Bool) (parts : List (List ℕ)) (part : List ℕ)
    (more : List (List ℕ)) → parts ≡ part ∷ more
    → is_trace_row_number (digits ∷ cond is_end ([] ∷ parts) (onto_first b parts)) ≡ false
row_number_by digits b true parts part more e = rw e refl
row_number_by digits b false parts part [] e = rw e refl
row_number_by digits b false parts part (next ∷ more) e = rw e refl

pub row_number_rest : (byte : ℕ) (digits rest : List ℕ) → (rest ≡ [] → ⊥)
    → is_trace_row_number (digits ∷ tuple_text_parts_round_byte byte rest) ≡ false
row_number_rest byte digits [] some = absurd (some refl)
row_number_rest byte digits (b ∷ rest) some = let w = first_part byte rest in
    row_number_by digits b (b == byte) (tuple_text_parts_round_byte byte rest) w.0 w.1 w.2

-- ---- lines

pub lines_nil : audit_lines_of [] ≡ []
unfolding audit_lines_of
lines_nil = refl

line_next : (text : List ℕ) (parts rest : List (List ℕ)) (part : List ℕ) (more : List (List ℕ))
    → parts ≡ text ∷ rest → rest ≡ part ∷ more
    → trace_lines_of_parts parts ≡ Whole text ∷ trace_lines_of_parts rest
line_next text parts rest part more e f = rw (e, f) refl

pub lines_next : (rest text next : List ℕ) → tuple_text_parts_round_byte 10 rest ≡ text ∷ tuple_text_parts_round_byte 10 next
    → audit_lines_of rest ≡ Whole text ∷ audit_lines_of next
unfolding audit_lines_of
lines_next rest text next e = let w = first_part 10 next in
    line_next text (tuple_text_parts_round_byte 10 rest) (tuple_text_parts_round_byte 10 next) w.0 w.1 e w.2

open_some : (rest : List ℕ) → (rest ≡ [] → ⊥) → open_trace_line rest ≡ Open rest ∷ []
open_some [] some = absurd (some refl)
open_some (byte ∷ bytes) some = refl

pub lines_open : (rest : List ℕ) → (rest ≡ [] → ⊥) → tuple_text_parts_round_byte 10 rest ≡ rest ∷ []
    → audit_lines_of rest ≡ Open rest ∷ []
unfolding audit_lines_of
lines_open rest some e = ap trace_lines_of_parts e ∙ open_some rest some

-- ---- what a line says

read_by : (files : List PolicyFile) (old new : TraceState) (text : List ℕ) (t : AuditTold) (good : Bool)
    → audit_told_of text ≡ Some t → IsTraceLineTaken files old t new good → IsTraceLineRead files old (Whole text) new good
read_by files old new text t true e h = (t, e, h)
read_by files old new text t false e h = λ other r.
    let same : r.0 ≡ t = cc in h other (subst (λ x. AuditStateFollows files old x other) same r.2)

pub line_read : {E : Type 0} (files : List PolicyFile) (old new : TraceState) (text : List ℕ) (t : AuditTold)
    (good : Result Bool E) → audit_told_of text ≡ Some t → IfOk good (IsTraceLineTaken files old t new)
    → IfOk good (IsTraceLineRead files old (Whole text) new)
line_read files old new text t (Ok good) e h = read_by files old new text t good e h
line_read files old new text t (Err error) e h = tt

pub line_unread : (files : List PolicyFile) (old new : TraceState) (text : List ℕ)
    → audit_told_of text ≡ None → IsTraceLineRead files old (Whole text) new false
line_unread files old new text e = λ other r. absurd cc

-- ---- by its first words

either_way : (b : Bool) (t : Option AuditTold) → cond b t t ≡ t
either_way true t = refl
either_way false t = refl

-- a line that begins with no word of these is bad
pub other_line : (words : List (List ℕ)) → audit_line_begins_with [] words ≡ false
    → audit_line_begins_with (codes "row") words ≡ false → audit_line_begins_with (codes "meter") words ≡ false
    → audit_line_begins_with (codes "quiet") words ≡ false → audit_told_by_words words ≡ None
other_line [] blank row meter quiet = refl
other_line (word ∷ []) blank row meter quiet = simp either_way
other_line (word ∷ next ∷ more) blank row meter quiet = rw (blank, row, meter, quiet) refl

-- a decision that names no rule, or not what decided, is bad
pub no_rule : (packet version : List ℕ) (words : List (List ℕ))
    → audit_line_begins_with (codes "rule") words ≡ false → audit_decided_told (packet ∷ version ∷ words) ≡ None
no_rule packet version (word ∷ rule ∷ action ∷ how ∷ more ∷ others) e = rw e refl
no_rule packet version (word ∷ rule ∷ action ∷ how ∷ []) e = refl
no_rule packet version (word ∷ rule ∷ action ∷ []) e = refl
no_rule packet version (word ∷ rule ∷ []) e = refl
no_rule packet version (word ∷ []) e = refl
no_rule packet version [] e = refl

pub no_how : (packet version rule action : List ℕ) (words : List (List ℕ))
    → audit_line_begins_with (codes "authority") words ≡ false → audit_line_begins_with (codes "cache") words ≡ false
    → audit_decided_told (packet ∷ version ∷ codes "rule" ∷ rule ∷ action ∷ words) ≡ None
no_how packet version rule action (how ∷ more ∷ others) authority cache = rw (authority, cache) refl
no_how packet version rule action (how ∷ []) authority cache = refl
no_how packet version rule action [] authority cache = refl

-- an item that begins with no word of a move is none
pub other_item : (words : List (List ℕ)) → audit_line_begins_with (codes "decided") words ≡ false
    → audit_line_begins_with (codes "entered") words ≡ false → audit_line_begins_with (codes "dropped") words ≡ false
    → audit_line_begins_with (codes "out") words ≡ false → audit_line_begins_with (codes "submitted") words ≡ false
    → audit_line_begins_with (codes "retired") words ≡ false → audit_line_begins_with (codes "lost") words ≡ false
    → audit_line_begins_with (codes "stuck") words ≡ false → audit_indented_told ([] ∷ words) ≡ audit_silent_told words
unfolding audit_item_told
other_item [] decided entered dropped out submitted retired lost stuck = refl
other_item (word ∷ []) decided entered dropped out submitted retired lost stuck = simp either_way
other_item (word ∷ next ∷ more) decided entered dropped out submitted retired lost stuck =
    rw (decided, entered, dropped, out, submitted, retired, lost, stuck) refl
