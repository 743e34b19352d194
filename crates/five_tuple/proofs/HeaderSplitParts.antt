-- The parts of a text round a byte, taken off one at a time.
use Rattle.std.proofs.Common.{[], ◌+◌, ◌<◌, ◌==◌, ◌∙◌, ◌∷◌, ◌≡◌, ◌⊎◌, All, List, None, Option, Some, ap, arith, drop, eqb-true, false, inl, inr, length, ltb, ltb-false, ltb-true, position, refl, sym, take, true, ℕ, rules}
use Rattle.std.specs.List.{position_or_len, list_all}
use Rattle.std.proofs.lemmas.Bool.{false_from_ne_true, both_ways, cond-true}
use Rattle.std.proofs.lemmas.List.Folds.{list_all_at}
use Rattle.std.proofs.lemmas.Option.{cond_some, none-some}
use Rattle.std.proofs.lemmas.List.Splits.{slice_split_first, slice_split_none, length-slice_split}
use Rattle.std.proofs.lemmas.List.Sums.{fails_before_first}
use Rattle.std.specs.Char.{is_ascii_digit}
use Rattle.five_tuple.specs.Exports.{tuple_number_up_to, tuple_text_parts_round_byte}

-- the first such byte is at this place
pub parts_at : (byte : ℕ) (text : List ℕ) (at : ℕ) → position (λ b. b == byte) text ≡ Some at
    → tuple_text_parts_round_byte byte text ≡ take at text ∷ tuple_text_parts_round_byte byte (drop (at + 1) text)
parts_at byte text at e = search (rules, cond_some, slice_split_first, ltb-true)

-- there is no such byte
pub parts_none : (byte : ℕ) (text : List ℕ) → position (λ b. b == byte) text ≡ None
    → tuple_text_parts_round_byte byte text ≡ text ∷ []
parts_none byte text e =
    let l = false_from_ne_true (ltb (position_or_len (λ b. b == byte) text) (length text))
    (λ t. none-some (position_or_len (λ b. b == byte) text) (sym e
    ∙ cond-true (ltb (position_or_len (λ b. b == byte) text) (length text))
    (Some (position_or_len (λ b. b == byte) text)) None t)) in
    slice_split_none (λ b. b == byte) text
    (λ k d h. fails_before_first (λ b. b == byte) text k d (omega (arith, ltb-false _ _ l)))

parts_nonempty : (xs : List (List ℕ)) → 0 < length xs → (q : List ℕ) × (more : List (List ℕ))
    × (xs ≡ q ∷ more)
parts_nonempty [] h = absurd (omega arith)
parts_nonempty (q ∷ more) h = (q, more, refl)

cut_cases_at : (byte : ℕ) (text : List ℕ) (o : Option ℕ) → position (λ b. b == byte) text ≡ o
    → (tuple_text_parts_round_byte byte text ≡ text ∷ [])
    ⊎ ((p q : List ℕ) × (more : List (List ℕ)) × (tuple_text_parts_round_byte byte text ≡ p ∷ q ∷ more))
cut_cases_at byte text None e = inl (parts_none byte text e)
cut_cases_at byte text (Some at) e =
    let rest = drop (at + 1) text in
    let w = parts_nonempty (tuple_text_parts_round_byte byte rest) (omega (arith, length-slice_split)) in
    inr (take at text, w.0, w.1, parts_at byte text at e ∙ ap (λ xs. take at text ∷ xs) w.2)

-- digits have no other byte among them
pub digits_lack : (byte : ℕ) (text : List ℕ) → is_ascii_digit byte ≡ false
    → list_all is_ascii_digit text ≡ true → All (λ b. (b == byte) ≡ false) text
digits_lack byte text other digits k d h = false_from_ne_true _ (λ same. both_ways _
    (list_all_at is_ascii_digit text k d h (ap is_ascii_digit (eqb-true _ _ same) ∙ other)) digits)

pub digits_are_one_part : (byte : ℕ) (text : List ℕ) → is_ascii_digit byte ≡ false
    → list_all is_ascii_digit text ≡ true → tuple_text_parts_round_byte byte text ≡ text ∷ []
digits_are_one_part byte text other digits = search (rules, slice_split_none, digits_lack)

-- a number has no other byte in it, so it is one part
number_is_one_part : (byte most : ℕ) (text : List ℕ) (n : ℕ) → is_ascii_digit byte ≡ false
    → tuple_number_up_to most text ≡ Some n → tuple_text_parts_round_byte byte text ≡ text ∷ []
unfolding tuple_number_up_to
number_is_one_part byte most text n other e = search (rules, cond_some, digits_are_one_part)

last_part_at : (byte most : ℕ) (text : List ℕ) → is_ascii_digit byte ≡ false → (o : Option ℕ)
    → tuple_number_up_to most text ≡ o → (tuple_text_parts_round_byte byte text ≡ text ∷ [])
    ⊎ ((p q : List ℕ) × (more : List (List ℕ)) × (tuple_text_parts_round_byte byte text ≡ p ∷ q ∷ more)
    × (tuple_number_up_to most text ≡ None))
last_part_at byte most text other o e = search (rules, number_is_one_part, cut_cases_at)

-- the last part: one where it is a number, whatever bytes stand in it else
pub last_part : (byte most : ℕ) (text : List ℕ) → is_ascii_digit byte ≡ false
    → (tuple_text_parts_round_byte byte text ≡ text ∷ []) ⊎ ((p q : List ℕ) × (more : List (List ℕ))
    × (tuple_text_parts_round_byte byte text ≡ p ∷ q ∷ more) × (tuple_number_up_to most text ≡ None))
last_part byte most text other = last_part_at byte most text other (tuple_number_up_to most text) refl
