-- A text's first part before a dot, read byte by byte.
use Rattle.std.proofs.Common.{[], ◌&&◌, ◌++◌, ◌+◌, ◌<◌, ◌==◌, ◌∙◌, ◌∷◌, ◌≡◌, ◌≢◌, ◌≤◌, ◌⊎◌, List, None, Option, Some, add-one, ap, arith, drop, drop-cons, eq-eqb, eqb-true, false, get_or, get_or-take, inl, inr, length, length-take, ltb-false, ltb-true, nat_lt, not, position, refl, subst, sym, take, take-append-drop, take-take, true, ℕ, rules}
use Rattle.std.specs.Char.{is_ascii_digit}
use Rattle.std.specs.List.{list_all}
use Rattle.std.specs.Str.Parse.{digits_value}
use Rattle.std.proofs.lemmas.Bool.{and_cases, and_parts, cases_lt, both_ways, not-false, not-true}
use Rattle.std.proofs.lemmas.List.Quantifiers.{position-Some}
use Rattle.std.proofs.lemmas.List.Splits.{slice_split_at}
use Rattle.five_tuple.specs.Exports.{IsAddressByteBefore, LacksAddressByte, address_from_bytes, address_of, tuple_text_has_leading_zero, tuple_number_up_to, tuple_text_parts_round_byte}
use Rattle.five_tuple.proofs.HeaderWrittenNumbers.{accepted, leading_zero, no_digit, other_byte, too_large}
use Rattle.five_tuple.proofs.HeaderPartReadings.{address_reads}
use Rattle.five_tuple.proofs.HeaderSplitParts.{digits_are_one_part, digits_lack, parts_at, parts_none}

-- ---- the first part

-- a part that is not the last ends at the first dot
record IsUpToDot (text part : List ℕ) : Type 0 where
  at : ℕ
  within : at < length text
  dot : get_or text at 0 ≡ 46
  is : part ≡ take at text

head : List (List ℕ) → List ℕ
head [] = []
head (first ∷ others) = first

first_part : (text part next : List ℕ) (others : List (List ℕ))
    → tuple_text_parts_round_byte 46 text ≡ part ∷ next ∷ others → IsUpToDot text part
unfolding head
first_part text part next others parts = by_place (position (λ b. b == 46) text) refl where
  by_place : (o : Option ℕ) → position (λ b. b == 46) text ≡ o → IsUpToDot text part
  by_place None none = absurd (no_next (sym (parts_none 46 text none) ∙ parts)) where
    no_next : text ∷ [] ≡ part ∷ next ∷ others → ⊥
    no_next e = let sizes : 1 ≡ length (part ∷ next ∷ others) = ap length e in
        absurd (omega (arith, sizes))
  by_place (Some at) found = let there = position-Some (λ b. b == 46) text at 0 found in record {
    at = at;
    within = there.0;
    dot = eqb-true _ _ there.1;
    is = ap head (sym parts ∙ parts_at 46 text at found);
  }

-- the dot comes after the digits, and not before the first byte that is none
past_digits : (text : List ℕ) (place at : ℕ) → list_all is_ascii_digit (take place text) ≡ true
    → at < length text → get_or text at 0 ≡ 46 → place ≤ at
past_digits text place at digits within dot = elim (cases_lt at place) [
  | inr upto ↦ upto
  | inl before ↦
      let there : at < length (take place text) = omega (arith, length-take place text) in
      let is = eq-eqb _ _ (get_or-take place text at 0 before ∙ dot) in
      absurd (both_ways _ (digits_lack 46 (take place text) refl digits at 0 there) is)
]

-- ---- if there is no number before the dot

-- a byte that is neither a digit nor the dot is in the part
pub lacks_other : (text : List ℕ) (place : ℕ) → place < length text
    → list_all is_ascii_digit (take place text) ≡ true → get_or text place 0 ≢ 46
    → is_ascii_digit (get_or text place 0) ≡ false → LacksAddressByte text
lacks_other text place within digits no_dot other part next others parts =
    let dot = first_part text part next others parts in
    let upto = past_digits text place dot.at digits dot.within dot.dot in
    let before : place < dot.at = elim (cases_lt place dot.at) [
      | inl before ↦ before
      | inr past ↦ absurd (no_dot (sym (ap (λ k. get_or text k 0) (omega arith)) ∙ dot.dot))
    ] in
    sym (other_byte 255 part place (subst (λ p. place < length p) (sym dot.is)
    (omega (arith, length-take dot.at text))) (ap (λ p. is_ascii_digit (get_or p place 0)) dot.is
    ∙ ap is_ascii_digit (get_or-take dot.at text place 0 before) ∙ other))

-- the digits so far write too large a number
pub lacks_large : (text : List ℕ) (place : ℕ) → list_all is_ascii_digit (take place text) ≡ true
    → 255 < digits_value 10 (take place text) → LacksAddressByte text
lacks_large text place digits large part next others parts =
    let dot = first_part text part next others parts in
    let upto = past_digits text place dot.at digits dot.within dot.dot in
    sym (too_large 255 part place (subst (λ p. 255 < digits_value 10 p)
    (sym (ap (take place) dot.is ∙ take-take place dot.at text upto)) large))

-- the whole text is digits
pub lacks_dot : (text : List ℕ) → list_all is_ascii_digit text ≡ true → LacksAddressByte text
lacks_dot text digits part next others parts =
    absurd (no_next (sym (digits_are_one_part 46 text refl digits) ∙ parts))
  where
    no_next : text ∷ [] ≡ part ∷ next ∷ others → ⊥
    no_next e = let sizes : 1 ≡ length (part ∷ next ∷ others) = ap length e in
        absurd (omega (arith, sizes))

-- ---- at a dot

dotted : (text : List ℕ) (place : ℕ) → place < length text
    → list_all is_ascii_digit (take place text) ≡ true → get_or text place 0 ≡ 46
    → tuple_text_parts_round_byte 46 text ≡ take place text ∷ tuple_text_parts_round_byte 46 (drop (place + 1) text)
dotted text place within digits dot = ap (tuple_text_parts_round_byte 46) whole
    ∙ slice_split_at (λ b. b == 46) (take place text) (get_or text place 0) (drop (place + 1) text)
    (digits_lack 46 (take place text) refl digits) (eq-eqb _ _ dot)
  where
    whole : text ≡ take place text ++ get_or text place 0 ∷ drop (place + 1) text
    whole = cc (take-append-drop place text, drop-cons text place 0 within, add-one place)

pub lacks_plain : (text : List ℕ) (place : ℕ) → place < length text
    → list_all is_ascii_digit (take place text) ≡ true → get_or text place 0 ≡ 46
    → (nat_lt 0 (length (take place text)) && not (tuple_text_has_leading_zero (take place text))) ≡ false
    → LacksAddressByte text
unfolding head
lacks_plain text place within digits dot other part next others parts =
    ap (tuple_number_up_to 255) (ap head (sym parts ∙ dotted text place within digits dot))
    ∙ sym (by_cause (and_cases _ _ other))
  where
    by_cause : (nat_lt 0 (length (take place text)) ≡ false)
        ⊎ (not (tuple_text_has_leading_zero (take place text)) ≡ false)
        → None ≡ tuple_number_up_to 255 (take place text)
    by_cause (inl empty) = no_digit 255 (take place text) (none_of (ltb-false _ _ empty)) where
      none_of : length (take place text) ≤ 0 → length (take place text) ≡ 0
      none_of few = omega arith
    by_cause (inr zero) = leading_zero 255 (take place text) (not-false _ zero)

pub byte_before : (text : List ℕ) (place number : ℕ) → place < length text
    → list_all is_ascii_digit (take place text) ≡ true → get_or text place 0 ≡ 46
    → (nat_lt 0 (length (take place text)) && not (tuple_text_has_leading_zero (take place text))) ≡ true
    → number ≡ digits_value 10 (take place text) → number ≤ 255
    → IsAddressByteBefore text number (drop (place + 1) text)
byte_before text place number within digits dot plain value small = record {
  part = take place text;
  parts = dotted text place within digits dot;
  number = sym (accepted 255 (take place text) (ltb-true _ _ both.0) (not-true _ both.1) digits
      (subst (λ n. n ≤ 255) value small)) ∙ ap Some (sym value);
} where
  both : (nat_lt 0 (length (take place text)) ≡ true)
      × (not (tuple_text_has_leading_zero (take place text)) ≡ true)
  both = and_parts _ _ plain

-- ---- four parts

no_second : (x z w : Option ℕ) → address_from_bytes x None z w ≡ None
no_second x z w = search rules

no_third : (x y w : Option ℕ) → address_from_bytes x y None w ≡ None
no_third x y w = search rules

-- four parts are no address where one of the first three is no number
pub lacks_first : (text : List ℕ) → LacksAddressByte text → None ≡ address_of text
unfolding address_of
lacks_first text lacks = search rules

pub lacks_second : (text rest : List ℕ) (first : ℕ) → IsAddressByteBefore text first rest
    → LacksAddressByte rest → None ≡ address_of text
unfolding address_of
lacks_second text rest first before lacks = search (rules, no_second)

pub lacks_third : (text rest left : List ℕ) (first second : ℕ) → IsAddressByteBefore text first rest
    → IsAddressByteBefore rest second left → LacksAddressByte left → None ≡ address_of text
unfolding address_of
lacks_third text rest left first second before then lacks = search (rules, no_third)

-- the last part is read as a number
pub four_parts : (text rest left end : List ℕ) (first second third : ℕ)
    → IsAddressByteBefore text first rest → IsAddressByteBefore rest second left → IsAddressByteBefore left third end
    → address_of text ≡ address_from_bytes (Some first) (Some second) (Some third) (tuple_number_up_to 255 end)
four_parts text rest left end first second third a b c =
    address_reads text a.part b.part c.part end rest left a.parts b.parts c.parts
    ∙ ap (λ n. address_from_bytes n (tuple_number_up_to 255 b.part) (tuple_number_up_to 255 c.part)
    (tuple_number_up_to 255 end)) a.number
    ∙ ap (λ n. address_from_bytes (Some first) n (tuple_number_up_to 255 c.part) (tuple_number_up_to 255 end))
    b.number ∙ ap (λ n. address_from_bytes (Some first) (Some second) n (tuple_number_up_to 255 end)) c.number
