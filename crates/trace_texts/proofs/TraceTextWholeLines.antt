-- The lines of a text that is put together of whole lines.
use Rattle.std.proofs.Common.{[], ◌++◌, ◌<◌, ◌∙◌, ◌∷◌, ◌≡◌, All, List, Some, ap, append-nil, append_assoc, arith, flat_map, inl, inr, length, map, refl, ℕ}
use Rattle.base.proofs.Exports.{All-head, All-tail, length-slice_split}
use Rattle.five_tuple.specs.Exports.{tuple_text_parts_round_byte}
use Rattle.update_machine.specs.Exports.{PolicyFile}
use Rattle.trace_audit.specs.Exports.{ReadsAllAuditLines, TraceLine, TraceState, Whole, audit_lines_of, trace_lines_of_parts, audit_told_of}
use Rattle.trace_audit.specs.Told as told
use Rattle.trace_texts.specs.Texts.{IsLastTraceTextLine}
use Rattle.trace_texts.proofs.TraceTextPieces.{IsOneLine, first_line}
use Rattle.trace_texts.proofs.TraceTextItems.{silent}

some_left : (text : List ℕ) (parts : List (List ℕ)) → 0 < length parts
    → trace_lines_of_parts (text ∷ parts) ≡ Whole text ∷ trace_lines_of_parts parts
some_left text [] some = absurd (omega (arith, some))
some_left text (part ∷ parts) some = refl

line_off : (text rest : List ℕ) → IsOneLine text
    → audit_lines_of (text ++ 10 ∷ rest) ≡ Whole text ∷ audit_lines_of rest
unfolding audit_lines_of
line_off text rest one = ap trace_lines_of_parts (first_line text rest one)
    ∙ some_left text (tuple_text_parts_round_byte 10 rest) (omega (arith, length-slice_split))

-- a line for each item, and what follows them
pub lines_each : {A : Type 0} (line : A → List ℕ) (items : List A) (rest : List ℕ)
    → All (λ item. IsOneLine (line item)) items
    → audit_lines_of (flat_map (λ item. line item ++ 10 ∷ []) items ++ rest)
    ≡ map (λ item. Whole (line item)) items ++ audit_lines_of rest
lines_each line [] rest own = refl
lines_each line (item ∷ items) rest own = let others = flat_map (λ i. line i ++ 10 ∷ []) items in
    ap audit_lines_of
    (append_assoc (line item ++ 10 ∷ []) others rest
    ∙ append_assoc (line item) (10 ∷ []) (others ++ rest))
    ∙ line_off (line item) (others ++ rest)
    (All-head (λ i. IsOneLine (line i)) item items own)
    ∙ ap (λ lines. Whole (line item) ∷ lines)
    (lines_each line items rest (All-tail (λ i. IsOneLine (line i)) item items own))

pub none_behind : (lines : List TraceLine) → lines ++ audit_lines_of [] ≡ lines
unfolding audit_lines_of
none_behind lines = append-nil lines

last_told : (text : List ℕ) → IsLastTraceTextLine text → audit_told_of text ≡ Some told.Nothing
unfolding audit_told_of
last_told text is = elim is.begins [
  | inl meter ↦ ap audit_told_of meter ∙ silent is.rest
  | inr quiet ↦ ap audit_told_of quiet ∙ silent is.rest
]

pub last_read : (files : List PolicyFile) (state : TraceState) (last : List (List ℕ))
    → All IsLastTraceTextLine last → ReadsAllAuditLines files state (map (λ text. Whole text) last) state
last_read files state [] are = refl
last_read files state (text ∷ last) are = (
  state,
  (told.Nothing, last_told text (All-head IsLastTraceTextLine text last are), refl),
  last_read files state last (All-tail IsLastTraceTextLine text last are),
)
