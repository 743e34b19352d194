-- A freed bit against another word.
use Rattle.std.proofs.Common.{◌&&◌, ◌^◌, ◌↔◌, ◌∙◌, ◌≡◌, ◌≢◌, Bool, Decides, IsFalse, IsTrue, inl, inr, not, sym, ℕ, rules}
use Rattle.std.specs.Int.{bit_at, from_bool}
use Rattle.std.specs.Int.Bits.{bit_or}
use Rattle.std.proofs.lemmas.Bool.Decides.{same_from_decides, Decides-like, Decides-and, Decides-not}
use Rattle.std.proofs.lemmas.Nat.Bits.{same_from_bits}
use Rattle.ternary.specs.Exports.{IsWord, WordValue, words_agree_at, word_covers_of, word_fix_of, ternary_with_bit_freed, word_includes_at, is_word_bit_fixed, word_meets, ternary_with_bit, ternary_without_bit}
use Rattle.ternary.proofs.TernaryBits.{of_part, not_set, by_place, digit_cases, with_bit-same, with_bit-other, ternary_without_bit-same, ternary_without_bit-other, ternary_without_bit-unset, or_pow-same, or_pow-other}
use Rattle.ternary.proofs.TernaryWords.{same_word, meets_decides, covers_decides, is_fixed_decides, free_bit, implies_decides}

-- ---- one bit of two words

abbrev AgreesAt : WordValue → WordValue → ℕ → Type 0
AgreesAt a b k = (bit_at a.mask k ≡ 1) × (bit_at b.mask k ≡ 1) → bit_at a.value k ≡ bit_at b.value k

agrees_decides : (a b : WordValue) (k : ℕ) → Decides (words_agree_at a b k) (AgreesAt a b k)
unfolding words_agree_at
agrees_decides a b k = search (rules, implies_decides, Decides-and, is_fixed_decides)

abbrev IncludesAt : WordValue → WordValue → ℕ → Type 0
IncludesAt a b k = bit_at a.mask k ≡ 1 → (bit_at b.mask k ≡ 1)
    × (bit_at b.value k ≡ bit_at a.value k)

includes_decides : (a b : WordValue) (k : ℕ) → Decides (word_includes_at a b k) (IncludesAt a b k)
unfolding word_includes_at
includes_decides a b k = search (rules, implies_decides, is_fixed_decides, Decides-and)

-- ---- the other bits of two words

abbrev AgreesOff : ℕ → WordValue → WordValue → Type 0
AgreesOff k a b = (j : ℕ) → j ≢ k → bit_at a.mask j ≡ 1 → bit_at b.mask j ≡ 1
    → bit_at a.value j ≡ bit_at b.value j

abbrev IncludesOff : ℕ → WordValue → WordValue → Type 0
IncludesOff k a b = (j : ℕ) → j ≢ k → bit_at a.mask j ≡ 1 → (bit_at b.mask j ≡ 1)
    × (bit_at b.value j ≡ bit_at a.value j)

module _ (a b : WordValue) (k : ℕ) where
  freed_meets_decides : Decides (word_meets (ternary_with_bit_freed a k) b) (AgreesOff k a b)
  unfolding ternary_with_bit_freed
  freed_meets_decides = Decides-like _ (λ bits j away p q. sym (ternary_without_bit-other a.value k j away)
      ∙ bits j (ternary_without_bit-other a.mask k j away ∙ p) q)
      (λ bits. by_place k (λ j. bit_at (ternary_without_bit a.mask k) j ≡ 1 → bit_at b.mask j ≡ 1
      → bit_at (ternary_without_bit a.value k) j ≡ bit_at b.value j) (λ s _. absurd
      (not_set _ k (ternary_without_bit-same a.mask k) s)) (λ j away s q. ternary_without_bit-other a.value k j away
      ∙ bits j away (sym (ternary_without_bit-other a.mask k j away) ∙ s) q))
      (meets_decides (ternary_with_bit_freed a k) b)

  freed_covers_decides : Decides (word_covers_of (ternary_with_bit_freed a k) b) (IncludesOff k a b)
  unfolding ternary_with_bit_freed
  freed_covers_decides = Decides-like _
      (λ bits j away p. let f = bits j (ternary_without_bit-other a.mask k j away ∙ p) in
      (f.0, f.1 ∙ ternary_without_bit-other a.value k j away))
      (λ bits. by_place k (λ j. bit_at (ternary_without_bit a.mask k) j ≡ 1 → (bit_at b.mask j ≡ 1)
      × (bit_at b.value j ≡ bit_at (ternary_without_bit a.value k) j))
      (λ s. absurd (not_set _ k (ternary_without_bit-same a.mask k) s))
      (λ j away s. let f = bits j away (sym (ternary_without_bit-other a.mask k j away) ∙ s) in
      (f.0, f.1 ∙ sym (ternary_without_bit-other a.value k j away))))
      (covers_decides (ternary_with_bit_freed a k) b)

  pub meets_others : IsTrue (word_meets (ternary_with_bit_freed a k) b) ↔ ((j : ℕ) → j ≢ k → IsTrue (words_agree_at a b j))
  unfolding word_meets words_agree_at
  meets_others = search (rules, agrees_decides, freed_meets_decides)

  pub covers_others : IsTrue (word_covers_of (ternary_with_bit_freed a k) b)
      ↔ ((j : ℕ) → j ≢ k → IsTrue (word_includes_at a b j))
  unfolding word_covers_of word_includes_at
  covers_others = search (rules, includes_decides, freed_covers_decides)

  pub meets_bit : word_meets a b ≡ (word_meets (ternary_with_bit_freed a k) b && words_agree_at a b k)
  meets_bit = same_from_decides _ _ (Decides-like _
      (λ bits. (λ j _ p q. bits j p q, λ both. bits k both.0 both.1)) (λ all. by_place k
      (λ j. bit_at a.mask j ≡ 1 → bit_at b.mask j ≡ 1 → bit_at a.value j ≡ bit_at b.value j)
      (λ p q. all.1 (p, q)) all.0) (meets_decides a b))
      (Decides-and _ _ freed_meets_decides (agrees_decides a b k))

  pub covers_bit : word_covers_of a b ≡ (word_covers_of (ternary_with_bit_freed a k) b && word_includes_at a b k)
  covers_bit = same_from_decides _ _
      (Decides-like _ (λ bits. (λ j _ p. bits j p, bits k)) (λ all. by_place k
      (λ j. bit_at a.mask j ≡ 1 → (bit_at b.mask j ≡ 1) × (bit_at b.value j ≡ bit_at a.value j))
      all.1 all.0) (covers_decides a b))
      (Decides-and _ _ freed_covers_decides (includes_decides a b k))

module _ (a b : WordValue) (k : ℕ) where
  pub meets_freed : word_meets (ternary_with_bit_freed a k) b ≡ word_meets (ternary_with_bit_freed a k) (ternary_with_bit_freed b k)
  unfolding ternary_with_bit_freed
  meets_freed = same_from_decides _ _ (freed_meets_decides a b k) (Decides-like _ (λ bits j away p
      q. bits j away p (ternary_without_bit-other b.mask k j away ∙ q) ∙ ternary_without_bit-other b.value k j away)
      (λ bits j away p s. bits j away p (sym (ternary_without_bit-other b.mask k j away) ∙ s)
      ∙ sym (ternary_without_bit-other b.value k j away)) (freed_meets_decides a (ternary_with_bit_freed b k) k))

  pub covers_freed : word_covers_of (ternary_with_bit_freed a k) b ≡ word_covers_of (ternary_with_bit_freed a k) (ternary_with_bit_freed b k)
  unfolding ternary_with_bit_freed
  covers_freed = same_from_decides _ _ (freed_covers_decides a b k)
      (Decides-like _ (λ bits j away p. let f = bits j away p in (
        cc (ternary_without_bit-other b.mask k j away, f.0),
        sym (ternary_without_bit-other b.value k j away) ∙ f.1,
      ))
      (λ bits j away p. let f = bits j away p in (
        ternary_without_bit-other b.mask k j away ∙ f.0,
        ternary_without_bit-other b.value k j away ∙ f.1,
      ))
      (freed_covers_decides a (ternary_with_bit_freed b k) k))

  pub freed_covered : word_covers_of a (ternary_with_bit_freed b k) ≡ (not (is_word_bit_fixed a k) && word_covers_of a b)
  unfolding ternary_with_bit_freed
  freed_covered = same_from_decides _ _ (Decides-like _ (λ bits. (
    λ p. not_set _ k (ternary_without_bit-same b.mask k) (bits k p).0,
    by_place k (λ j. bit_at a.mask j ≡ 1 → (bit_at b.mask j ≡ 1)
        × (bit_at b.value j ≡ bit_at a.value j))
        (λ p. absurd (not_set _ k (ternary_without_bit-same b.mask k) (bits k p).0))
        (λ j away p. let f = bits j p in (
          cc (ternary_without_bit-other b.mask k j away, f.0),
          sym (ternary_without_bit-other b.value k j away) ∙ f.1,
        )),
  ))
      (λ both. by_place k (λ j. bit_at a.mask j ≡ 1 → (bit_at (ternary_without_bit b.mask k) j ≡ 1)
      × (bit_at (ternary_without_bit b.value k) j ≡ bit_at a.value j)) (λ p. absurd (both.0 p))
      (λ j away p. let f = both.1 j p in
      (ternary_without_bit-other b.mask k j away ∙ f.0, ternary_without_bit-other b.value k j away ∙ f.1)))
      (covers_decides a (ternary_with_bit_freed b k)))
      (Decides-and _ _ (Decides-not _ (is_fixed_decides a k)) (covers_decides a b))

-- ---- a bit freed, then fixed, and the other way round

module _ (w : WordValue) (w_word : IsWord w) (k : ℕ) where
  unset_value : IsFalse (is_word_bit_fixed w k) → bit_at w.value k ≡ 1 → ⊥
  unset_value free set = free_bit w k free (of_part w.value w.mask w_word.within k set)

  pub free_unfixed : IsFalse (is_word_bit_fixed w k) → ternary_with_bit_freed w k ≡ w
  unfolding ternary_with_bit_freed
  free_unfixed free = search (rules, same_word, ternary_without_bit-unset, unset_value, free_bit)

  pub free_fix : (one : Bool) → IsFalse (is_word_bit_fixed w k) → ternary_with_bit_freed (word_fix_of w k one) k ≡ w
  unfolding ternary_with_bit_freed word_fix_of
  free_fix one free = same_word _ _ (same_from_bits _ _
      (by_place k (λ j. bit_at (ternary_without_bit (ternary_with_bit w.value k one) k) j ≡ bit_at w.value j)
      (ternary_without_bit-same _ k ∙ sym (unset_digit w.value (unset_value free)))
      (λ j away. ternary_without_bit-other _ k j away ∙ with_bit-other w.value k one j away)))
      (same_from_bits _ _ (by_place k (λ j. bit_at (ternary_without_bit (bit_or w.mask (2 ^ k)) k) j
      ≡ bit_at w.mask j) (ternary_without_bit-same _ k ∙ sym (unset_digit w.mask (free_bit w k free)))
      (λ j away. ternary_without_bit-other _ k j away ∙ or_pow-other w.mask k j away)))
    where
      unset_digit : (n : ℕ) → (bit_at n k ≡ 1 → ⊥) → bit_at n k ≡ 0
      unset_digit n unset = elim (digit_cases n k)
          [ inl zero_bit ↦ zero_bit | inr one_bit ↦ absurd (unset one_bit) ]

  pub fix_free : (one : Bool) → IsTrue (is_word_bit_fixed w k) → bit_at w.value k ≡ from_bool one
      → word_fix_of (ternary_with_bit_freed w k) k one ≡ w
  unfolding ternary_with_bit_freed word_fix_of
  fix_free one fixed same = same_word _ _ (same_from_bits _ _
      (by_place k (λ j. bit_at (ternary_with_bit (ternary_without_bit w.value k) k one) j ≡ bit_at w.value j)
      (with_bit-same _ k one ∙ sym same)
      (λ j away. with_bit-other _ k one j away ∙ ternary_without_bit-other w.value k j away)))
      (same_from_bits _ _ (by_place k (λ j. bit_at (bit_or (ternary_without_bit w.mask k) (2 ^ k)) j
      ≡ bit_at w.mask j) (or_pow-same _ k ∙ sym ((is_fixed_decides w k).0 fixed))
      (λ j away. or_pow-other _ k j away ∙ ternary_without_bit-other w.mask k j away)))
