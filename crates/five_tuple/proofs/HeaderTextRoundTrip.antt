-- Each printed form is read back to what it prints.
use Rattle.std.proofs.Common.{[], ◌%◌, ◌*◌, ◌++◌, ◌+◌, ◌/◌, ◌<◌, ◌==◌, ◌^◌, ◌∙◌, ◌∷◌, ◌≡◌, ◌≤◌, All, List, Some, ap, arith, bytes_eq, codes, decimal, eq-eqb, eqb-true, false, get_or, inl, inr, le-leb, length, ne_eqb, refl, rules, sym, true, ℕ}
use Rattle.std.specs.Char.{is_ascii_digit}
use Rattle.std.specs.List.{list_all, join_with_byte}
use Rattle.std.specs.Str.Parse.{digits_value}
use Rattle.std.proofs.lemmas.Bool.{false≢true, cases_Bool, both_ways, false_from_ne_true, true_from_ne_false}
use Rattle.std.proofs.lemmas.Fmt.{decimal_digit, decimal_nonempty, first_decimal, digits_decimal, digits_value-decimal}
use Rattle.std.proofs.lemmas.List.{get_or_append_left}
use Rattle.std.proofs.lemmas.List.Elements.{All-append, All-cons}
use Rattle.std.proofs.lemmas.List.Folds.{list_all_at}
use Rattle.std.proofs.lemmas.List.Splits.{slice_split_at}
use Rattle.std.proofs.lemmas.Option.{none-some}
use Rattle.std.proofs.lemmas.Slice.Eq.{bytes_eq-Decides}
use Rattle.std.proofs.lemmas.Str.Parse.{IsNumeralModel, numerals_by_value}
use Rattle.five_tuple.specs.declared.matching.Proto.{Proto}
use Rattle.five_tuple.specs.Exports.{AddressBlock, IsAddressBlock, IsPortRange, IsProtocol, PortRangeValue, address_of, address_text, address_block_round, tuple_text_has_leading_zero, tuple_number_up_to, tuple_text_parts_round_byte, address_prefix_of, address_prefix_text, proto_number_of, proto_number_text, proto_of, proto_text, port_range_of, port_range_text}
use Rattle.five_tuple.proofs.HeaderWrittenNumbers.{accepted}
use Rattle.five_tuple.proofs.HeaderSplitParts.{digits_lack, digits_are_one_part}
use Rattle.five_tuple.proofs.HeaderPartReadings.{address_reads, block_reads, range_reads}

own : IsNumeralModel (λ ds. list_all is_ascii_digit ds ≡ true) (digits_value 10)
own = numerals_by_value _ (search rules)

pub decimal_is_digits : (n : ℕ) → n < 2 ^ 64 → list_all is_ascii_digit (decimal n) ≡ true
decimal_is_digits n h = digits_decimal own n h

no_leading_zero : (n : ℕ) → n < 2 ^ 64 → tuple_text_has_leading_zero (decimal n) ≡ false
no_leading_zero n h = search (rules, ne_eqb, first_decimal, decimal_digit)

-- a printed number is read back
pub number_back : (most n : ℕ) → n ≤ most → n < 2 ^ 64 → tuple_number_up_to most (decimal n) ≡ Some n
number_back most n l h = let value = digits_value-decimal own n h in
    sym (accepted most (decimal n) (decimal_nonempty n h) (no_leading_zero n h)
    (decimal_is_digits n h) (omega arith)) ∙ ap Some value

-- a text that begins with a digit is no keyword
no_keyword : (text keyword : List ℕ) (c : ℕ) → is_ascii_digit (get_or text 0 0) ≡ true
    → is_ascii_digit c ≡ false → bytes_eq text (c ∷ keyword) ≡ false
no_keyword text keyword c digit other = search (rules, false_from_ne_true, both_ways, eqb-true)

digit_first : (text : List ℕ) → 0 < length text → list_all is_ascii_digit text ≡ true
    → is_ascii_digit (get_or text 0 0) ≡ true
digit_first text h digits = search (rules, true_from_ne_false, both_ways, list_all_at)

first_digit : (n : ℕ) (rest : List ℕ) → n < 2 ^ 64 → is_ascii_digit (get_or (decimal n ++ rest) 0 0)
    ≡ true
first_digit n rest h = let some = decimal_nonempty n h in
    ap is_ascii_digit (get_or_append_left (decimal n) rest 0 0 some)
    ∙ digit_first (decimal n) some (decimal_is_digits n h)

-- a part of digits is taken off at the byte after it
part_off : (byte n : ℕ) (rest : List ℕ) → n < 2 ^ 64 → is_ascii_digit byte ≡ false
    → tuple_text_parts_round_byte byte (decimal n ++ byte ∷ rest) ≡ decimal n ∷ tuple_text_parts_round_byte byte rest
part_off byte n rest h other = slice_split_at (λ b. b == byte) (decimal n) byte rest
    (digits_lack byte (decimal n) other (decimal_is_digits n h)) (eq-eqb byte byte refl)

whole : (byte n : ℕ) → n < 2 ^ 64 → is_ascii_digit byte ≡ false → tuple_text_parts_round_byte byte (decimal n)
    ≡ decimal n ∷ []
whole byte n h other = digits_are_one_part byte (decimal n) other (decimal_is_digits n h)

four_back : (a b c d : ℕ) → a < 2 ^ 8 → b < 2 ^ 8 → c < 2 ^ 8 → d < 2 ^ 8
    → address_of (join_with_byte 46 (decimal a ∷ decimal b ∷ decimal c ∷ decimal d ∷ [])) ≡ Some
    (a * 2 ^ 24 + b * 2 ^ 16 + c * 2 ^ 8 + d)
four_back a b c d ha hb hc hd =
    let s = decimal c ++ 46 ∷ decimal d in
    let r = decimal b ++ 46 ∷ s in
    let e = address_reads (decimal a ++ 46 ∷ r) (decimal a) (decimal b) (decimal c) (decimal d) r s
    (part_off 46 a r (omega arith) refl) (part_off 46 b s (omega arith) refl)
    (part_off 46 c (decimal d) (omega arith) refl) in
    rw (
      e,
      number_back 255 a (omega arith) (omega arith),
      number_back 255 b (omega arith) (omega arith),
      number_back 255 c (omega arith) (omega arith),
      number_back 255 d (omega arith) (omega arith),
    )

pub address_back : (a : ℕ) → a < 2 ^ 32 → address_of (address_text a) ≡ Some a
unfolding address_text
address_back a h = search (rules, four_back)

keeps_first : (xs ys : List ℕ) → is_ascii_digit (get_or xs 0 0) ≡ true
    → is_ascii_digit (get_or (xs ++ ys) 0 0) ≡ true
keeps_first [] ys e = absurd (false≢true e)
keeps_first (x ∷ xs) ys e = e

address_first : (a : ℕ) → a < 2 ^ 32 → is_ascii_digit (get_or (address_text a) 0 0) ≡ true
unfolding address_text
address_first a h = first_digit (a / 2 ^ 24) _ (omega arith)

-- a byte that is neither a digit nor the dot
joined_lack : (byte a : ℕ) (rest : List ℕ) → is_ascii_digit byte ≡ false → 46 == byte ≡ false
    → a < 2 ^ 64 → All (λ b. (b == byte) ≡ false) rest
    → All (λ b. (b == byte) ≡ false) (decimal a ++ 46 ∷ rest)
joined_lack byte a rest other dot h lack = All-append (λ b. (b == byte) ≡ false) (decimal a)
    (46 ∷ rest) (digits_lack byte (decimal a) other (decimal_is_digits a h))
    (All-cons (λ b. (b == byte) ≡ false) 46 rest dot lack)

address_lacks : (byte a : ℕ) → is_ascii_digit byte ≡ false → 46 == byte ≡ false → a < 2 ^ 32
    → All (λ b. (b == byte) ≡ false) (address_text a)
unfolding address_text
address_lacks byte a other dot h = joined_lack byte _ _ other dot (omega arith)
    (joined_lack byte _ _ other dot (omega arith) (joined_lack byte _ _ other dot (omega arith)
    (digits_lack byte (decimal (a % 2 ^ 8)) other (decimal_is_digits (a % 2 ^ 8) (omega arith)))))

made_block : (address len : ℕ) (p : AddressBlock) → address ≡ p.address → len ≡ p.len
    → ◌≡◌ {A = AddressBlock} (record { address = address; len = len }) p
made_block address len p e f = rw (e, f)

block_same : (p : AddressBlock) → IsAddressBlock p → address_block_round p.address p.len ≡ p
block_same p v = search rules

block_at_zero : (p : AddressBlock) → IsAddressBlock p → p.len ≡ 0 → address_block_round 0 0 ≡ p
block_at_zero p v e = search rules

pub prefix_back : (p : AddressBlock) → IsAddressBlock p → address_prefix_of (address_prefix_text p) ≡ Some p
unfolding address_prefix_text address_prefix_of
prefix_back p v = elim (cases_Bool (p.len == 0)) [
  | inl e ↦ rw e (ap Some (block_at_zero p v (eqb-true p.len 0 e)))
  | inr e ↦ let text = address_text p.address ++ 47 ∷ decimal p.len in
      let parts = slice_split_at (λ b. b == 47) (address_text p.address) 47 (decimal p.len)
      (address_lacks 47 p.address refl refl v.address) refl in
      let read = block_reads text (address_text p.address) (decimal p.len) parts in
      rw (
        e,
        (no_keyword text (110 ∷ 121 ∷ []) 97 (keeps_first (address_text p.address)
            (47 ∷ decimal p.len) (address_first p.address v.address)) refl),
        read,
        address_back p.address v.address,
        number_back 32 p.len v.len (omega arith),
      ) (ap Some (block_same p v))
]

-- a number is no keyword, whatever the keyword
number_no_keyword : (n c : ℕ) (keyword : List ℕ) → n < 2 ^ 64 → is_ascii_digit c ≡ false
    → bytes_eq (decimal n) (c ∷ keyword) ≡ false
number_no_keyword n c keyword h other = no_keyword (decimal n) keyword c
    (digit_first (decimal n) (decimal_nonempty n h) (decimal_is_digits n h)) other

one_port_back : (n : ℕ) → n < 2 ^ 16 → port_range_of (decimal n) ≡ Some (record { low = n; high = n })
unfolding port_range_of
one_port_back n h = rw (
  number_no_keyword n 97 (110 ∷ 121 ∷ []) (omega arith) refl,
  whole 45 n (omega arith) refl,
  number_back 65535 n (omega arith) (omega arith),
  le-leb n n (omega arith),
)

two_ports_back : (m n : ℕ) → m ≤ n → n < 2 ^ 16 → port_range_of (decimal m ++ 45 ∷ decimal n) ≡ Some
    (record { low = m; high = n })
unfolding port_range_of
two_ports_back m n l h =
    let read = range_reads (decimal m ++ 45 ∷ decimal n) (decimal m) (decimal n)
    (part_off 45 m (decimal n) (omega arith) refl) in
    rw (
      (no_keyword (decimal m ++ 45 ∷ decimal n) (110 ∷ 121 ∷ []) 97
          (first_digit m (45 ∷ decimal n) (omega arith)) refl),
      read,
      number_back 65535 m (omega arith) (omega arith),
      number_back 65535 n (omega arith) (omega arith),
      le-leb m n l,
    )

made_ports : (low high : ℕ) (r : PortRangeValue) → low ≡ r.low → high ≡ r.high
    → ◌≡◌ {A = PortRangeValue} (record { low = low; high = high }) r
made_ports low high r e f = rw (e, f)

every_port_back : (r : PortRangeValue) → r.low ≡ 0 → r.high ≡ 65535
    → port_range_of (codes "any") ≡ Some r
unfolding port_range_of
every_port_back r e f = ap Some (made_ports 0 65535 r (sym e) (sym f))

pub range_back : (r : PortRangeValue) → IsPortRange r → port_range_of (port_range_text r) ≡ Some r
unfolding port_range_text port_range_of
range_back r v =
    search (rules, cases_Bool, every_port_back, eqb-true, one_port_back, two_ports_back)

pub proto_number_back : (n : ℕ) → n < 2 ^ 8 → proto_number_of (proto_number_text n) ≡ Some n
unfolding proto_number_text proto_number_of
proto_number_back n h = search (rules, cases_Bool, eqb-true, number_no_keyword, number_back)

-- `any` is no protocol's name
not_any : (text : List ℕ) (n : ℕ) → proto_number_of text ≡ Some n → bytes_eq text (codes "any")
    ≡ false
unfolding proto_number_of tuple_number_up_to
not_any text n h = search (rules, false_from_ne_true, bytes_eq-Decides, none-some)

pub proto_back : (p : Proto) → IsProtocol p → proto_of (proto_text p) ≡ Some p
unfolding proto_text proto_of
proto_back p v = search (rules, proto_number_back, not_any)
