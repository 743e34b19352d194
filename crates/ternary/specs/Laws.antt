-- The laws of words: a function of `src` ensures each record.
use Rattle.std.specs.Prelude.{[], ◌&&◌, ◌+◌, ◌<◌, ◌==◌, ◌^◌, ◌||◌, ◌↔◌, ◌≡◌, ◌≢◌, Bool, Contains, IsFalse, IsTrue, None, Some, false, filter, is_some, length, not, option_and_then, true, ℕ}
use Rattle.std.specs.Int.{bit_at, from_bool}
use Rattle.std.specs.List.Sorted.{IsStrictlyIncreasing}
use Rattle.ternary.specs.Word.{WordValue, holds}
use Rattle.ternary.specs.WordBits.{IsWord}
use Rattle.ternary.specs.Meets.{AgreesOnWordMask, WordsAgreeOnFixedBits, IsWordFixedIn, IsTernaryMeet, any_word, exact_word, word_meets, word_meet_of, word_covers_of, ternary_with_bit, is_word_bit_fixed, word_admits, words_agree_at, word_includes_at, word_fix_of, ternary_with_bit_freed, free_word_bits, word_eq}

pub record WordHoldsLaws : Type 0 where
  -- the test is agreement, bit by bit
  pub bitwise : (w : WordValue) (h : ℕ) → IsTrue (holds w h) ↔ AgreesOnWordMask w h
  -- every word holds a header, its value
  pub value : (w : WordValue) → IsTrue (holds w w.value)
  pub bound : (w : WordValue) → IsWord w → w.value < 2 ^ 104
  pub equal : (a b : WordValue) → IsTrue (word_eq a b) ↔ (a ≡ b)
  -- words of the same headers are equal
  pub same : (a b : WordValue) → IsWord a → IsWord b
      → ((h : ℕ) → h < 2 ^ 104 → holds a h ≡ holds b h) → a ≡ b

pub record AnyWordLaws : Type 0 where
  pub word : IsWord any_word
  pub holds : (h : ℕ) → IsTrue (holds any_word h)
  pub no_fixed_bit : (k : ℕ) → IsFalse (is_word_bit_fixed any_word k)

pub record TernaryExactLaws : Type 0 where
  pub word : (h : ℕ) → h < 2 ^ 104 → IsWord (exact_word h)
  -- the word of one header holds only this header
  pub holds : (h x : ℕ) → h < 2 ^ 104 → x < 2 ^ 104 → IsTrue (holds (exact_word h) x) ↔ (x ≡ h)
  pub no_free_bit : (h k : ℕ) → k < 104 → IsTrue (is_word_bit_fixed (exact_word h) k)

pub record WordCoversLaws : Type 0 where
  -- a word covers another if each bit that it fixes is fixed to the same in the other
  pub bitwise : (a b : WordValue) → IsTrue (word_covers_of a b) ↔ IsWordFixedIn a b
  -- a word holds each header of a word that it covers
  pub held : (a b : WordValue) (h : ℕ) → IsTrue (word_covers_of a b) → IsTrue (holds b h)
      → IsTrue (holds a h)
  pub reflexive : (a : WordValue) → IsTrue (word_covers_of a a)
  pub transitive : (a b c : WordValue) → IsTrue (word_covers_of a b) → IsTrue (word_covers_of b c)
      → IsTrue (word_covers_of a c)
  pub antisymmetric : (a b : WordValue) → IsWord a → IsWord b → IsTrue (word_covers_of a b)
      → IsTrue (word_covers_of b a) → a ≡ b
  pub any : (w : WordValue) → IsTrue (word_covers_of any_word w)
  -- a word covers the word of one header exactly if it holds the header
  pub exact : (w : WordValue) (h : ℕ) → IsWord w → h < 2 ^ 104
      → word_covers_of w (exact_word h) ≡ holds w h
  -- a word covers each word without a free bit that it meets
  pub no_free_bit : (a b : WordValue) → IsWord a → ((k : ℕ) → k < 104 → IsTrue (is_word_bit_fixed b k))
      → IsTrue (word_meets a b) → IsTrue (word_covers_of a b)

pub record TernaryMeetLaws : Type 0 where
  -- words meet if no bit is fixed in both to different values
  pub bitwise : (a b : WordValue) → IsTrue (word_meets a b) ↔ WordsAgreeOnFixedBits a b
  -- the meet holds what both hold, and there is none if both hold no header
  pub both : (a b m : WordValue) → word_meet_of a b ≡ Some m → IsTernaryMeet a b m
  pub none : (a b : WordValue) (h : ℕ) → word_meet_of a b ≡ None → (holds a h && holds b h) ≡ false
  pub some : (a b : WordValue) → is_some (word_meet_of a b) ≡ word_meets a b
  pub word : (a b m : WordValue) → IsWord a → IsWord b → word_meet_of a b ≡ Some m → IsWord m
  pub idempotent : (a : WordValue) → IsWord a → word_meet_of a a ≡ Some a
  pub symmetric : (a b : WordValue) → word_meets a b ≡ word_meets b a
  pub commutative : (a b : WordValue) → word_meet_of a b ≡ word_meet_of b a
  pub associative : (a b c : WordValue)
      → option_and_then (λ m. word_meet_of m c) (word_meet_of a b) ≡ option_and_then (word_meet_of a) (word_meet_of b c)
  pub any : (a : WordValue) → IsWord a → word_meet_of a any_word ≡ Some a
  pub exact : (w : WordValue) (h : ℕ) → IsWord w → h < 2 ^ 104 → word_meets w (exact_word h) ≡ holds w h
  -- the meet is the greatest word that both cover
  pub within : (a b m : WordValue) → word_meet_of a b ≡ Some m
      → IsTrue (word_covers_of a m) × IsTrue (word_covers_of b m)
  pub greatest : (a b m c : WordValue) → word_meet_of a b ≡ Some m
      → word_covers_of m c ≡ (word_covers_of a c && word_covers_of b c)
  pub covered : (a b : WordValue) → IsWord b → IsTrue (word_covers_of a b) ↔ (word_meet_of a b ≡ Some b)
  pub meets_cover : (a b : WordValue) → IsTrue (word_covers_of a b) → IsTrue (word_meets b a)
  -- if a word doesn't meet c, no word that it covers does
  pub monotone : (a b c : WordValue) → IsTrue (word_covers_of a b) → word_meet_of a c ≡ None
      → word_meet_of b c ≡ None
  -- narrowing to a, and then to a word that a covers, is narrowing to the latter
  pub narrowed : (w a b : WordValue) → IsTrue (word_covers_of a b)
      → option_and_then (λ m. word_meet_of m b) (word_meet_of w a) ≡ word_meet_of w b

pub record WordFixLaws : Type 0 where
  -- a half holds the headers of the word that have its bit, so each is in exactly one half
  pub half : (w : WordValue) (k : ℕ) (one : Bool) (h : ℕ) → IsFalse (is_word_bit_fixed w k)
      → holds (word_fix_of w k one) h ≡ (holds w h && (bit_at h k == from_bool one))
  pub split : (w : WordValue) (k h : ℕ) → IsFalse (is_word_bit_fixed w k)
      → holds w h ≡ (holds (word_fix_of w k false) h || holds (word_fix_of w k true) h)
  pub apart : (w : WordValue) (k : ℕ) → word_meet_of (word_fix_of w k false) (word_fix_of w k true) ≡ None
  pub within : (w : WordValue) (k : ℕ) (one : Bool) → IsFalse (is_word_bit_fixed w k)
      → IsTrue (word_covers_of w (word_fix_of w k one))
  pub word : (w : WordValue) (k : ℕ) (one : Bool) → IsWord w → k < 104 → IsWord (word_fix_of w k one)
  pub same_bit : (w : WordValue) (k : ℕ) (one : Bool) → IsTrue (is_word_bit_fixed (word_fix_of w k one) k)
  pub other_bit : (w : WordValue) (k j : ℕ) (one : Bool) → j ≢ k
      → is_word_bit_fixed (word_fix_of w k one) j ≡ is_word_bit_fixed w j
  -- the bit of a header that w holds; whether w meets or covers a half of r
  pub admits_bit : (w : WordValue) (k : ℕ) (one : Bool) (h : ℕ) → IsTrue (holds w h)
      → bit_at h k ≡ from_bool one → IsTrue (word_admits w k one)
  pub meets_half : (w r : WordValue) (k : ℕ) (one : Bool) → IsFalse (is_word_bit_fixed r k)
      → word_meets w (word_fix_of r k one) ≡ (word_meets w r && word_admits w k one)
  pub covers_half : (w r : WordValue) (k : ℕ) (one : Bool)
      → word_covers_of w (word_fix_of r k one) ≡ (word_covers_of (ternary_with_bit_freed w k) r && word_admits w k one)

pub record TernaryFreeLaws : Type 0 where
  -- the freed word holds what the word holds with the bit set to 0 or to 1
  pub either : (w : WordValue) (k h : ℕ)
      → holds (ternary_with_bit_freed w k) h ≡ (holds w (ternary_with_bit h k false) || holds w (ternary_with_bit h k true))
  pub wider : (w : WordValue) (k : ℕ) → IsTrue (word_covers_of (ternary_with_bit_freed w k) w)
  pub monotone : (a b : WordValue) (k : ℕ) → IsTrue (word_covers_of a b)
      → IsTrue (word_covers_of (ternary_with_bit_freed a k) (ternary_with_bit_freed b k))
  pub word : (w : WordValue) (k : ℕ) → IsWord w → IsWord (ternary_with_bit_freed w k)
  pub same_bit : (w : WordValue) (k : ℕ) → IsFalse (is_word_bit_fixed (ternary_with_bit_freed w k) k)
  pub other_bit : (w : WordValue) (k j : ℕ) → j ≢ k → is_word_bit_fixed (ternary_with_bit_freed w k) j ≡ is_word_bit_fixed w j
  -- freeing a free bit changes nothing; freeing and fixing a bit undo each other
  pub unfixed : (w : WordValue) (k : ℕ) → IsWord w → IsFalse (is_word_bit_fixed w k) → ternary_with_bit_freed w k ≡ w
  pub undone : (w : WordValue) (k : ℕ) (one : Bool) → IsWord w → IsFalse (is_word_bit_fixed w k)
      → ternary_with_bit_freed (word_fix_of w k one) k ≡ w
  pub restored : (w : WordValue) (k : ℕ) (one : Bool) → IsWord w → IsTrue (is_word_bit_fixed w k)
      → bit_at w.value k ≡ from_bool one → word_fix_of (ternary_with_bit_freed w k) k one ≡ w
  -- one bit is tested apart from the others
  pub meets_bit : (a b : WordValue) (k : ℕ) → word_meets a b ≡ (word_meets (ternary_with_bit_freed a k) b && words_agree_at a b k)
  pub covers_bit : (a b : WordValue) (k : ℕ)
      → word_covers_of a b ≡ (word_covers_of (ternary_with_bit_freed a k) b && word_includes_at a b k)
  -- a freed bit no longer matters
  pub meets_others : (a b : WordValue) (k : ℕ)
      → IsTrue (word_meets (ternary_with_bit_freed a k) b) ↔ ((j : ℕ) → j ≢ k → IsTrue (words_agree_at a b j))
  pub covers_others : (a b : WordValue) (k : ℕ)
      → IsTrue (word_covers_of (ternary_with_bit_freed a k) b) ↔ ((j : ℕ) → j ≢ k → IsTrue (word_includes_at a b j))
  pub meets_freed : (a b : WordValue) (k : ℕ)
      → word_meets (ternary_with_bit_freed a k) b ≡ word_meets (ternary_with_bit_freed a k) (ternary_with_bit_freed b k)
  pub covers_freed : (a b : WordValue) (k : ℕ)
      → word_covers_of (ternary_with_bit_freed a k) b ≡ word_covers_of (ternary_with_bit_freed a k) (ternary_with_bit_freed b k)
  -- a word that covers a freed word leaves the bit free
  pub freed_covered : (a b : WordValue) (k : ℕ)
      → word_covers_of a (ternary_with_bit_freed b k) ≡ (not (is_word_bit_fixed a k) && word_covers_of a b)

pub record TernaryFreeBitsLaws : Type 0 where
  pub member : (w : WordValue) (k : ℕ)
      → Contains (free_word_bits w) k ↔ ((k < 104) × IsFalse (is_word_bit_fixed w k))
  pub ascending : (w : WordValue) → IsStrictlyIncreasing (free_word_bits w)
  pub any : length (free_word_bits any_word) ≡ 104
  pub exact : (h : ℕ) → free_word_bits (exact_word h) ≡ []
  -- fixing a bit removes only it
  pub fixed : (w : WordValue) (k : ℕ) (one : Bool)
      → free_word_bits (word_fix_of w k one) ≡ filter (λ j. not (j == k)) (free_word_bits w)
  pub shorter : (w : WordValue) (k : ℕ) (one : Bool) → k < 104 → IsFalse (is_word_bit_fixed w k)
      → length (free_word_bits (word_fix_of w k one)) + 1 ≡ length (free_word_bits w)
