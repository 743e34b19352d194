-- How words meet, include each other and are cut at a bit.
use Rattle.std.specs.Prelude.{if◌then◌else◌, ◌&&◌, ◌*◌, ◌-◌, ◌<◌, ◌==◌, ◌^◌, ◌||◌, ◌≡◌, Bool, IsTrue, List, None, Option, Some, bit_and, bit_or, filter, not, ℕ}
use Rattle.std.specs.Int.{bit_at, from_bool}
use Rattle.std.specs.List.{range_with_len}
use Rattle.ternary.specs.Word.{WordValue, word_fixed_value, holds}

-- h and the value agree on each bit of the mask
abbrev pub AgreesOnWordMask : WordValue → ℕ → Type 0
AgreesOnWordMask w h = (k : ℕ) → bit_at w.mask k ≡ 1 → bit_at h k ≡ bit_at w.value k

-- a holds each header that b holds
abbrev pub WordIncludes : WordValue → WordValue → Type 0
WordIncludes a b = (h : ℕ) → h < 2 ^ 104 → IsTrue (holds b h) → IsTrue (holds a h)

-- no header is in both
abbrev pub AreDisjointWords : WordValue → WordValue → Type 0
AreDisjointWords a b = (h : ℕ) → h < 2 ^ 104 → IsTrue (holds a h) → IsTrue (holds b h) → ⊥

-- m holds exactly what both hold
abbrev pub IsTernaryMeet : WordValue → WordValue → WordValue → Type 0
IsTernaryMeet a b m = (h : ℕ) → holds m h ≡ (holds a h && holds b h)

-- every bit is free
abbrev pub any_word : WordValue
any_word = record { value = 0; mask = 0 }

-- all 104 bits are fixed to those of h
abbrev pub exact_word : ℕ → WordValue
exact_word h = record { value = h; mask = 2 ^ 104 - 1 }

-- the same value and mask: what `==` and the keys of maps compare
abbrev pub word_eq : WordValue → WordValue → Bool
word_eq a b = (a.value == b.value) && (a.mask == b.mask)

-- the values agree on each bit that both fix
abbrev pub WordsAgreeOnFixedBits : WordValue → WordValue → Type 0
WordsAgreeOnFixedBits a b = (k : ℕ) → bit_at a.mask k ≡ 1 → bit_at b.mask k ≡ 1
    → bit_at a.value k ≡ bit_at b.value k

-- each bit that a fixes, b fixes to the same
abbrev pub IsWordFixedIn : WordValue → WordValue → Type 0
IsWordFixedIn a b = (k : ℕ) → bit_at a.mask k ≡ 1
    → (bit_at b.mask k ≡ 1) × (bit_at b.value k ≡ bit_at a.value k)

-- the values agree on the bits that both fix
unfoldable pub word_meets : WordValue → WordValue → Bool
word_meets a b = let common = bit_and a.mask b.mask in bit_and a.value common == bit_and b.value common

-- the fixed bits of both
abbrev pub meeting_word : WordValue → WordValue → WordValue
meeting_word a b = record {
  value = bit_or (word_fixed_value a) (word_fixed_value b);
  mask = bit_or a.mask b.mask;
}

-- the word of the headers that both hold; `None` if there are none
unfoldable pub word_meet_of : WordValue → WordValue → Option WordValue
word_meet_of a b = if word_meets a b then Some (meeting_word a b) else None

-- each fixed bit of a is fixed in b, and to the same
unfoldable pub word_covers_of : WordValue → WordValue → Bool
word_covers_of a b = (bit_and a.mask b.mask == a.mask) && (bit_and b.value a.mask == word_fixed_value a)

-- n with its bit k set to 0
abbrev pub ternary_without_bit : ℕ → ℕ → ℕ
ternary_without_bit n k = n - bit_at n k * 2 ^ k

-- n with its bit k set to 1 or 0
abbrev pub ternary_with_bit : ℕ → ℕ → Bool → ℕ
ternary_with_bit n k one = bit_or (ternary_without_bit n k) (from_bool one * 2 ^ k)

-- bit k is fixed
unfoldable pub is_word_bit_fixed : WordValue → ℕ → Bool
is_word_bit_fixed w k = bit_at w.mask k == 1

-- bit k is free, or fixed to this
unfoldable pub word_admits : WordValue → ℕ → Bool → Bool
word_admits w k one = not (is_word_bit_fixed w k) || (bit_at w.value k == from_bool one)

-- bit k fixed to 1 or 0: a half of w, if the bit was free
unfoldable pub word_fix_of : WordValue → ℕ → Bool → WordValue
word_fix_of w k one = record { value = ternary_with_bit w.value k one; mask = bit_or w.mask (2 ^ k) }

-- bit k freed
unfoldable pub ternary_with_bit_freed : WordValue → ℕ → WordValue
ternary_with_bit_freed w k = record { value = ternary_without_bit w.value k; mask = ternary_without_bit w.mask k }

-- bit k is not fixed in both to different values
unfoldable pub words_agree_at : WordValue → WordValue → ℕ → Bool
words_agree_at a b k = not (is_word_bit_fixed a k && is_word_bit_fixed b k) || (bit_at a.value k == bit_at b.value k)

-- if a fixes bit k, b fixes it to the same
unfoldable pub word_includes_at : WordValue → WordValue → ℕ → Bool
word_includes_at a b k =
    not (is_word_bit_fixed a k) || (is_word_bit_fixed b k && (bit_at b.value k == bit_at a.value k))

-- of the 104 bits, those that are free, ascending
unfoldable pub free_word_bits : WordValue → List ℕ
free_word_bits w = filter (λ k. not (is_word_bit_fixed w k)) (range_with_len 0 104)
