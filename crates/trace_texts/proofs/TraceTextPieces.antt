-- Texts of one line and of one word: what lines are made of has no line feed in it, and what words
-- are made of has no blank either.
use Rattle.std.proofs.Common.{[], if◌then◌else◌, ◌%◌, ◌&&◌, ◌++◌, ◌+◌, ◌/◌, ◌<◌, ◌==◌, ◌^◌, ◌∷◌, ◌≡◌, ◌≢◌, ◌≤◌, ◌⊎◌, All, Bool, List, None, Option, Some, arith, codes, decimal, false, get_or, inl, inr, length, ltb-true, nat_lt, ne_eqb, not, refl, slice_get, subst, suc, true, zero, ℕ}
use Rattle.base.proofs.Exports.{All-append, All-cons, All-get_or, All-nil, All-weaker, AllPass-from_list_all, and_parts, cond_both, digit_glyph, digits, digits_onto, eqb-false, list_all, not-true, slice_get_cases, slice_split_at, slice_split_none}
use Rattle.update_machine.specs.Exports.{Action, Drop, Fields, Net, Out, SwitchRow}
use Rattle.five_tuple.specs.Exports.{address_text, header_fields_text, tuple_text_parts_round_byte, proto_number_text}
use Rattle.net_file.specs.Exports.{IsNet, IsPlainNetByte, IsNetSwitchRow, NetNameLaws, is_net_name, net_switch_name_of, net_switch_names_text}
use Rattle.policy_rules.specs.Exports.{policy_action_text, policy_rule_text}
use Rattle.ternary.specs.Exports.{WordValue, word_hex_digits, ternary_word_text}

abbrev IsLineByte : ℕ → Type 0
IsLineByte byte = byte ≢ 10

abbrev IsWordByte : ℕ → Type 0
IsWordByte byte = (byte ≢ 32) × (byte ≢ 10)

-- a digit or a letter
abbrev IsGlyph : ℕ → Type 0
IsGlyph byte = (48 ≤ byte) × (byte ≢ 58)

pub record IsOneLine (text : List ℕ) : Type 0 where
  pub bytes : All IsLineByte text

pub record IsOneWord (text : List ℕ) : Type 0 where
  pub bytes : All IsWordByte text

pub word_line : {text : List ℕ} → IsOneWord text → IsOneLine text
word_line {text = text} w =
    record { bytes = All-weaker IsWordByte IsLineByte (λ byte is. is.1) text w.bytes }

pub joined : {xs ys : List ℕ} → IsOneLine xs → IsOneLine ys → IsOneLine (xs ++ ys)
joined {xs = xs} {ys = ys} a b = record { bytes = All-append IsLineByte xs ys a.bytes b.bytes }

pub joined_words : {xs ys : List ℕ} → IsOneWord xs → IsOneWord ys → IsOneWord (xs ++ ys)
joined_words {xs = xs} {ys = ys} a b =
    record { bytes = All-append IsWordByte xs ys a.bytes b.bytes }

-- texts whose bytes are tested one by one
pub tested : (text : List ℕ) → list_all (λ b. not (b == 10)) text ≡ true → IsOneLine text
tested text all = record {
  bytes = All-weaker (λ b. not (b == 10) ≡ true) IsLineByte
      (λ b is. eqb-false b 10 (not-true (b == 10) is)) text
      (AllPass-from_list_all (λ b. not (b == 10)) text all);
}

-- ---- numbers, rules, actions

glyph_is : (d : ℕ) → IsGlyph (digit_glyph false d)
glyph_is d = by (nat_lt d 10) refl where
  by : (small : Bool) → nat_lt d 10 ≡ small → IsGlyph (if small then 48 + d else 87 + d)
  by true e = let less = ltb-true d 10 e in (omega arith, λ same. omega (arith, less))
  by false e = (omega arith, λ same. omega arith)

onto_is : (k base n : ℕ) (acc : List ℕ) → All IsGlyph acc → All IsGlyph (digits_onto k base false n acc)
onto_is zero base n acc is = is
onto_is (suc k) base n acc is =
    let glyph = digit_glyph false (n % base) in
    let more = All-cons IsGlyph glyph acc (glyph_is (n % base)) is in
    either (n / base == 0) (glyph ∷ acc) (digits_onto k base false (n / base) (glyph ∷ acc)) more
    (onto_is k base (n / base) (glyph ∷ acc) more)
  where
    either : (b : Bool) (xs ys : List ℕ) → All IsGlyph xs → All IsGlyph ys
        → All IsGlyph (if b then xs else ys)
    either true xs ys p q = p
    either false xs ys p q = q

decimal_glyphs : (n : ℕ) → All IsGlyph (decimal n)
unfolding digits
decimal_glyphs n = onto_is 64 10 n [] (All-nil IsGlyph)

glyph_in_word : (byte : ℕ) → IsGlyph byte → IsWordByte byte
glyph_in_word byte is = let low = is.0 in (λ same. omega (arith, low), λ same. omega (arith, low))

pub number_word : (n : ℕ) → IsOneWord (decimal n)
number_word n = record {
  bytes = All-weaker IsGlyph IsWordByte glyph_in_word (decimal n) (decimal_glyphs n);
}

pub number_line : (n : ℕ) → IsOneLine (decimal n)
number_line n = word_line (number_word n)

tested_word : (text : List ℕ) → list_all (λ b. not (b == 32) && not (b == 10)) text ≡ true
    → IsOneWord text
tested_word text all = record {
  bytes = All-weaker (λ b. (not (b == 32) && not (b == 10)) ≡ true) IsWordByte apart text
      (AllPass-from_list_all (λ b. not (b == 32) && not (b == 10)) text all);
} where
  apart : (b : ℕ) → (not (b == 32) && not (b == 10)) ≡ true → IsWordByte b
  apart b is = let both = and_parts (not (b == 32)) (not (b == 10)) is in
      (eqb-false b 32 (not-true (b == 32) both.0), eqb-false b 10 (not-true (b == 10) both.1))

pub rule_word : (rule : Option ℕ) → IsOneWord (policy_rule_text rule)
rule_word (Some priority) = number_word priority
rule_word None = tested_word (codes "default") refl

pub action_word : (action : Action) → IsOneWord (policy_action_text action)
action_word (Out port) = joined_words (tested_word (codes "out:") refl) (number_word port)
action_word Drop = tested_word (codes "drop") refl

-- ---- headers and words

pub address_word : (a : ℕ) → IsOneWord (address_text a)
unfolding address_text
address_word a = joined_words (number_word (a / 2 ^ 24))
    (joined_words dot (joined_words (number_word (a / 2 ^ 16 % 2 ^ 8)) (joined_words dot
    (joined_words (number_word (a / 2 ^ 8 % 2 ^ 8)) (joined_words dot (number_word (a % 2 ^ 8)))))))
  where
    dot : IsOneWord (46 ∷ [])
    dot = tested_word (46 ∷ []) refl

pub proto_word : (n : ℕ) → IsOneWord (proto_number_text n)
unfolding proto_number_text
proto_word n =
    cond_both (n == 1) _ _ IsOneWord (λ _. tested_word (codes "icmp") refl)
    (λ _. cond_both (n == 6) _ _ IsOneWord (λ _. tested_word (codes "tcp") refl)
    (λ _. cond_both (n == 17) _ _ IsOneWord (λ _. tested_word (codes "udp") refl)
    (λ _. number_word n)))

pub fields_line : (fields : Fields) → IsOneLine (header_fields_text fields)
unfolding header_fields_text
fields_line fields = joined (word_line (address_word fields.src))
    (joined blank (joined (word_line (address_word fields.dst))
    (joined blank (joined (number_line fields.sport) (joined blank
    (joined (number_line fields.dport) (joined blank (word_line (proto_word fields.proto)))))))))
  where
    blank : IsOneLine (32 ∷ [])
    blank = tested (32 ∷ []) refl

hex_line : (count n : ℕ) → IsOneLine (word_hex_digits count n)
unfolding word_hex_digits
hex_line zero n = tested [] refl
hex_line (suc count) n = joined (hex_line count (n / 16)) (word_line (record {
  bytes = All-cons IsWordByte (digit_glyph false (n % 16)) []
      (glyph_in_word (digit_glyph false (n % 16)) (glyph_is (n % 16))) (All-nil IsWordByte);
}))

pub bits_line : (w : WordValue) → IsOneLine (ternary_word_text w)
unfolding ternary_word_text
bits_line w = joined (hex_line 26 w.value) (joined (tested (47 ∷ []) refl) (hex_line 26 w.mask))

-- ---- names

plain_in_word : (byte : ℕ) → IsPlainNetByte byte → IsWordByte byte
plain_in_word byte is = (is.no_blank, is.no_line_feed)

module _ (laws : NetNameLaws) (net : Net) (sound : IsNet net) where
  row_name : (s : ℕ) (row : SwitchRow) → s < length net.switches → get_or net.switches s row ≡ row
      → is_net_name row.name ≡ true
  row_name s row within is =
      (subst IsNetSwitchRow is (All-get_or IsNetSwitchRow net.switches s row within sound.switches)).name

  pub name_word : (s : ℕ) → IsOneWord (net_switch_name_of net s)
  name_word s = by (slice_get_cases net.switches s).1 where
    by : ((row : SwitchRow) × (s < length net.switches) × (slice_get net.switches s ≡ Some row)
        × (get_or net.switches s row ≡ row))
        ⊎ ((length net.switches ≤ s) × (slice_get net.switches s ≡ None))
        → IsOneWord (net_switch_name_of net s)
    by (inl w) = rw w.2 (record {
      bytes = All-weaker IsPlainNetByte IsWordByte plain_in_word w.0.name
          (laws.plain w.0.name (row_name s w.0 w.1 w.3));
    })
    by (inr w) = rw w.1 (tested_word [] refl)

  -- a switch of the network has a name
  pub name_is : (s : ℕ) → s < length net.switches → is_net_name (net_switch_name_of net s) ≡ true
  name_is s within = by (slice_get_cases net.switches s).1 where
    by : ((row : SwitchRow) × (s < length net.switches) × (slice_get net.switches s ≡ Some row)
        × (get_or net.switches s row ≡ row))
        ⊎ ((length net.switches ≤ s) × (slice_get net.switches s ≡ None))
        → is_net_name (net_switch_name_of net s) ≡ true
    by (inl w) = rw w.2 (row_name s w.0 w.1 w.3)
    by (inr w) = absurd (omega (arith, within, w.0))

  pub name_line : (s : ℕ) → IsOneLine (net_switch_name_of net s)
  name_line s = word_line (name_word s)

  pub names_line : (list : List ℕ) → IsOneLine (net_switch_names_text net list)
  names_line [] = tested [] refl
  names_line (s ∷ list) =
      joined (joined (tested (codes " ") refl) (name_line s)) (names_line list)

-- ---- parts of texts

pub one_word : (text : List ℕ) → IsOneWord text → tuple_text_parts_round_byte 32 text ≡ text ∷ []
one_word text w = slice_split_none (λ b. b == 32) text
    (All-weaker IsWordByte (λ b. (b == 32) ≡ false) (λ b is. ne_eqb b 32 is.0) text w.bytes)

pub first_word : (text rest : List ℕ) → IsOneWord text
    → tuple_text_parts_round_byte 32 (text ++ 32 ∷ rest) ≡ text ∷ tuple_text_parts_round_byte 32 rest
first_word text rest w = slice_split_at (λ b. b == 32) text 32 rest
    (All-weaker IsWordByte (λ b. (b == 32) ≡ false) (λ b is. ne_eqb b 32 is.0) text w.bytes) refl

pub first_line : (text rest : List ℕ) → IsOneLine text
    → tuple_text_parts_round_byte 10 (text ++ 10 ∷ rest) ≡ text ∷ tuple_text_parts_round_byte 10 rest
first_line text rest w = slice_split_at (λ b. b == 10) text 10 rest
    (All-weaker IsLineByte (λ b. (b == 10) ≡ false) (λ b is. ne_eqb b 10 is) text w.bytes) refl

-- the number of a row, with its colon
pub row_word : (row : ℕ) → IsOneWord (decimal row ++ 58 ∷ [])
row_word row = joined_words (number_word row) (tested_word (58 ∷ []) refl)

pub row_parts : (row : ℕ) → tuple_text_parts_round_byte 58 (decimal row ++ 58 ∷ []) ≡ decimal row ∷ [] ∷ []
row_parts row = slice_split_at (λ b. b == 58) (decimal row) 58 [] (All-weaker IsGlyph
    (λ b. (b == 58) ≡ false) (λ b is. ne_eqb b 58 is.1) (decimal row) (decimal_glyphs row)) refl
