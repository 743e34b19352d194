-- A word at the beginning of a text, with a blank after it.
use Rattle.std.proofs.Common.{[], ◌++◌, ◌+◌, ◌<◌, ◌==◌, ◌∙◌, ◌∷◌, ◌≡◌, ◌≢◌, All, Bor, List, MatchBool, None, Option, Some, ap, arith, drop, drop-cons, false, get_or, is_some, length, not, refl, suc, sym, take, take-append-drop, true, ℕ}
use Rattle.base.proofs.Exports.{All-weaker, AllPass-from_list_all, bytes_eq-Decides, false_from_ne_true, join_with_byte, join_with_byte-slice_split, not-true, slice_split_at}
use Rattle.trace_audit.specs.Exports.{IsTraceWordTaken, audit_line_begins_with, trace_word_lacks_blank, trace_words_left, audit_words_of}
use Rattle.trace_audit.proofs.AuditTraceLines.{first_part}

pub word_before : (word text : List ℕ) → trace_word_lacks_blank word ≡ true → length word < length text
    → take (length word) text ≡ word → get_or text (length word) 0 ≡ 32
    → audit_words_of text ≡ word ∷ audit_words_of (drop (length word + 1) text)
word_before word text plain room front blank =
    let n = length word in
    let rest = drop (n + 1) text in
    let lacks : All (λ b. (b == 32) ≡ false) word =
    All-weaker (λ b. not (b == 32) ≡ true) (λ b. (b == 32) ≡ false) (λ b e. not-true (b == 32) e) word
    (AllPass-from_list_all (λ b. not (b == 32)) word plain) in
    let next : suc n ≡ n + 1 = omega arith in
    let whole : text ≡ word ++ 32 ∷ rest = sym (take-append-drop n text)
    ∙ ap (λ x. x ++ drop n text) front ∙ ap (λ x. word ++ x) (drop-cons text n 0 room
    ∙ ap (λ b. b ∷ drop (suc n) text) blank ∙ ap (λ k. 32 ∷ drop k text) next) in
    ap audit_words_of whole ∙ slice_split_at (λ b. b == 32) word 32 rest lacks refl

-- a text that doesn't begin with the word and a blank
pub not_begun : (word text : List ℕ) → ((rest : List ℕ) → text ≢ word ++ 32 ∷ rest)
    → audit_line_begins_with word (audit_words_of text) ≡ false
not_begun word text lacks = by (audit_words_of text) (join_with_byte-slice_split 32 text) where
  by : (words : List (List ℕ)) → join_with_byte 32 words ≡ text → audit_line_begins_with word words ≡ false
  by [] e = refl
  by (first ∷ []) e = refl
  by (first ∷ next ∷ more) e = false_from_ne_true _ (λ same.
      let rest = join_with_byte 32 (next ∷ more) in
      lacks rest (sym e ∙ ap (λ w. w ++ 32 ∷ rest) ((bytes_eq-Decides first word).0 same)))

pub words_taken : (word rest : List ℕ) (old : List (List ℕ)) → old ≡ word ∷ audit_words_of rest
    → IsTraceWordTaken word old (audit_words_of rest)
words_taken word rest old e =
    let w = first_part 32 rest in (w.0, w.1, e ∙ ap (λ ws. word ∷ ws) w.2, w.2)

-- of a text that is left there are words
pub more_left : (rest : Option (Bor (List ℕ))) → MatchBool (is_some rest) ((word : List ℕ)
    × (others : List (List ℕ)) × (trace_words_left rest ≡ word ∷ others)) (trace_words_left rest ≡ [])
more_left None = refl
more_left (Some text) = first_part 32 text.now
