-- Bit fields that lie apart, and two numbers that agree in their high bits.
use Rattle.std.proofs.Common.{◌%◌, ◌*◌, ◌+◌, ◌/◌, ◌<◌, ◌^◌, ◌∙◌, ◌≡◌, ap, arith, bit_or, bit_xor, eq-eqb, eqb-true, mod-eq_of_lt, nat_eq, refl, sym, ℕ, rules}
use Rattle.std.proofs.lemmas.Nat.{or_shifted, xor_shr, and_le_l, and_le_r}
use Rattle.std.proofs.lemmas.Bool.Decides.{same_from_decides, Decides-eqb}
use Rattle.five_tuple.specs.declared.header.Header.{Header}
use Rattle.five_tuple.specs.Exports.{header_numbered, header_number_of}
use Rattle.std.specs.Int.Bits.{xor_self, xor_add_and}

-- a field is joined below a number that has only zeros there
or_below : (n a k b : ℕ) → n ≡ a * 2 ^ k → b < 2 ^ k → bit_or n b ≡ n + b
or_below n a k b e h = ap (λ m. bit_or m b) e ∙ or_shifted a k b h ∙ ap (λ m. m + b) (sym e)

-- the five fields of a header, each shifted to its place and joined by `or`
pub or_of_fields : (s d p q r : ℕ) → s < 2 ^ 32 → d < 2 ^ 32 → p < 2 ^ 16 → q < 2 ^ 16 → r < 2 ^ 8
    → bit_or (bit_or (bit_or (bit_or (s * 2 ^ 72 % 2 ^ 128) (d * 2 ^ 40 % 2 ^ 128)) (p * 2 ^ 24 % 2
    ^ 128)) (q * 2 ^ 8 % 2 ^ 128)) r ≡ s * 2 ^ 72 + d * 2 ^ 40 + p * 2 ^ 24 + q * 2 ^ 8 + r
or_of_fields s d p q r hs hd hp hq hr =
    let es : s * 2 ^ 72 % 2 ^ 128 ≡ s * 2 ^ 72 = mod-eq_of_lt (omega arith) in
    let ed : d * 2 ^ 40 % 2 ^ 128 ≡ d * 2 ^ 40 = mod-eq_of_lt (omega arith) in
    let ep : p * 2 ^ 24 % 2 ^ 128 ≡ p * 2 ^ 24 = mod-eq_of_lt (omega arith) in
    let eq : q * 2 ^ 8 % 2 ^ 128 ≡ q * 2 ^ 8 = mod-eq_of_lt (omega arith) in
    let j1 = or_below (s * 2 ^ 72) s 72 (d * 2 ^ 40) refl (omega arith) in
    let j2 = or_below (s * 2 ^ 72 + d * 2 ^ 40) (s * 2 ^ 32 + d) 40 (p * 2 ^ 24) (omega arith)
    (omega arith) in
    let j3 = or_below (s * 2 ^ 72 + d * 2 ^ 40 + p * 2 ^ 24) (s * 2 ^ 48 + d * 2 ^ 16 + p) 24
    (q * 2 ^ 8) (omega arith) (omega arith) in
    let j4 = or_below (s * 2 ^ 72 + d * 2 ^ 40 + p * 2 ^ 24 + q * 2 ^ 8)
    (s * 2 ^ 64 + d * 2 ^ 32 + p * 2 ^ 16 + q) 8 r (omega arith) (omega arith) in
    cc

xor_zero : (a b : ℕ) → bit_xor a b ≡ 0 → a ≡ b
xor_zero a b e = omega (arith, xor_add_and a b, and_le_l a b, and_le_r a b)

-- the high bits of an exclusive or are all 0 just where the two numbers agree in them
pub same_high_bits : (a b k : ℕ) → nat_eq (bit_xor a b / 2 ^ k) 0 ≡ nat_eq (a / 2 ^ k) (b / 2 ^ k)
same_high_bits a b k =
    let x = a / 2 ^ k in
    let y = b / 2 ^ k in
    ap (λ n. nat_eq n 0) (xor_shr a b k)
    ∙ same_from_decides _ _ (
      λ e. xor_zero x y (eqb-true (bit_xor x y) 0 e),
      λ e. eq-eqb (bit_xor x y) 0 (rw e (xor_self y)),
    ) (Decides-eqb x y)

-- to unpack what packs fields gives the header back
pub header_numbered-number_of : (h : Header) (n : ℕ) → h.fields.src < 2 ^ 32 → h.fields.dst < 2 ^ 32
    → h.fields.sport < 2 ^ 16 → h.fields.dport < 2 ^ 16 → h.fields.proto < 2 ^ 8 → n ≡ header_number_of h
    → header_numbered n ≡ h
header_numbered-number_of h n hs hd hp hq hr e = search rules

-- the number of the header that a number packs
pub number_back : (n : ℕ) → n < 2 ^ 104 → header_number_of (header_numbered n) ≡ n
number_back n h = omega arith
