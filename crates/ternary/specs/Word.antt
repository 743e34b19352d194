-- First tier. Words with free bits over header numbers of 104 bits: the wildcard expressions of
-- Kazemian, Varghese and McKeown, "Header Space Analysis: Static Checking for Networks", each kept
-- as a value and a mask.
use Rattle.std.specs.Prelude.{[], ◌%◌, ◌++◌, ◌/◌, ◌<◌, ◌==◌, ◌^◌, ◌∷◌, ◌≡◌, Bool, List, bit_and, false, suc, zero, ℕ}
use Rattle.std.specs.Fmt.{digit_glyph}

-- a word as a pair: the bits of the mask are fixed, the others are free
pub record WordValue : Type 0 where
  pub value : ℕ
  pub mask : ℕ

-- the value, read only on the bits of the mask
abbrev pub word_fixed_value : WordValue → ℕ
word_fixed_value w = bit_and w.value w.mask

-- ---- headers of a word

-- the word holds h: h agrees with the value on each bit of the mask
unfoldable pub holds : WordValue → ℕ → Bool
holds w h = bit_and h w.mask == word_fixed_value w

-- ---- the printed form

-- this many hexadecimal digits in lower case, the highest first
unfoldable pub word_hex_digits : ℕ → ℕ → List ℕ
word_hex_digits zero n = []
word_hex_digits (suc count) n = word_hex_digits count (n / 16) ++ digit_glyph false (n % 16) ∷ []

-- value and mask with a slash between them, each in 26 hexadecimal digits
unfoldable pub ternary_word_text : WordValue → List ℕ
ternary_word_text w = word_hex_digits 26 w.value ++ 47 ∷ word_hex_digits 26 w.mask
