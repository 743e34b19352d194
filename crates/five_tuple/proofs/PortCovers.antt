-- What is true of a cover of ports, by induction over its blocks.
use Rattle.std.proofs.Common.{[], ◌%◌, ◌&&◌, ◌*◌, ◌++◌, ◌+◌, ◌-◌, ◌/◌, ◌<◌, ◌==◌, ◌^◌, ◌||◌, ◌∙◌, ◌∷◌, ◌≡◌, ◌≤◌, All, AllPairs, List, ap, append_assoc, arith, bit_and, eqb, eqb-true, false, inl, inr, le-leb, leb, leb-true, length, ltb, ltb-true, mod-eq_of_lt, mod-lt, nat_le, pow-suc, pow_pos, refl, subst, suc, sym, zero, ℕ, rules}
use Rattle.std.specs.List.{list_any}
use Rattle.std.proofs.Math.Nat.{div-eq_of_lt-le, mod-one, pow-le-pow_right}
use Rattle.std.proofs.lemmas.Bool.{cases_eq, cases_lt, and_parts}
use Rattle.std.proofs.lemmas.Bool.Decides.{nat_tests, Decides-eqb, Decides-ltb, Decides-like, Decides-and, same_from_decides}
use Rattle.std.proofs.lemmas.List.Elements.{All-cons}
use Rattle.std.proofs.lemmas.List.Kept.{AllPairs-cons}
use Rattle.std.proofs.lemmas.Nat.{and_le_l, mod-mul-add, mod-pow-add, pow_below, shr_split}
use Rattle.std.proofs.lemmas.Nat.Bits.{and_high_mask}
use Rattle.five_tuple.specs.Exports.{AreTuplePortBlocksApart, IsAlignedTuplePortBlock, IsTuplePortCover, IsLargestTuplePortBlock, IsTuplePortBlock, tuple_port_block_holds}

pub exponent_small : (first high e : ℕ) → IsAlignedTuplePortBlock first high e → high < 2 ^ 16 → e ≤ 16
exponent_small first high e b h = elim (cases_lt 16 e) [
  | inl more ↦ absurd (omega (arith, pow_below 16 e more, b.fits))
  | inr most ↦ most
]

-- the ports that the mask keeps at an aligned value are the block's
in_block : (port first e : ℕ) → first % 2 ^ e ≡ 0
    → (port / 2 ^ e * 2 ^ e ≡ first → (first ≤ port) × (port < first + 2 ^ e))
    × (first ≤ port → port < first + 2 ^ e → port / 2 ^ e * 2 ^ e ≡ first)
in_block port first e aligned =
    let pos = pow_pos e in
    let whole : first / 2 ^ e * 2 ^ e ≡ first = omega (arith, shr_split first e) in
    let rest = mod-lt port {m = 2 ^ e} pos in (
      λ same. (omega (arith, shr_split port e), omega (arith, shr_split port e)),
      λ low high. ap (λ q. q * 2 ^ e) (div-eq_of_lt-le (2 ^ e) (omega arith) (omega arith)) ∙ whole,
    )

holds_is : (port first e : ℕ) → first % 2 ^ e ≡ 0 → e ≤ 16 → port < 2 ^ 16
    → tuple_port_block_holds port (first, 2 ^ 16 - 2 ^ e) ≡ (leb first port && ltb port (first + 2 ^ e))
holds_is port first e aligned small bound = let inside = in_block port first e aligned in
    ap (λ n. n == first) (and_high_mask 16 e small port bound)
    ∙ same_from_decides (eqb (port / 2 ^ e * 2 ^ e) first)
    (leb first port && ltb port (first + 2 ^ e))
    (Decides-like _ inside.0 (λ w. inside.1 w.0 w.1) (Decides-eqb (port / 2 ^ e * 2 ^ e) first))
    (Decides-and _ _ (leb-true first port, le-leb first port) (Decides-ltb port (first + 2 ^ e)))

join_ranges : (low mid high port : ℕ) → low ≤ mid → mid ≤ high + 1
    → ((leb low port && ltb port mid) || (leb mid port && leb port high))
    ≡ (leb low port && leb port high)
join_ranges low mid high port h k = grind (arith, nat_tests)

none_left : (low high port : ℕ) → high < low → false ≡ (leb low port && leb port high)
none_left low high port h = grind (arith, nat_tests)

-- some block holds the port just where the range does
pub exact : (low high : ℕ) (xs : List (ℕ × ℕ)) → IsTuplePortCover low high xs → high < 2 ^ 16 → (port : ℕ)
    → port < 2 ^ 16 → list_any (tuple_port_block_holds port) xs ≡ (nat_le low port && nat_le port high)
exact low high [] c h port p = none_left low high port c
exact low high (b ∷ bs) (e, l, same, rest) h port p =
    let head = ap (tuple_port_block_holds port) same ∙ holds_is port low e l.block.aligned
    (exponent_small low high e l.block h) p in
    rw (head, exact (low + 2 ^ e) high bs rest h port p)
    (join_ranges low (low + 2 ^ e) high port (omega arith) l.block.fits)

-- each block begins at the low end or above
from_low : (low high : ℕ) (xs : List (ℕ × ℕ)) → IsTuplePortCover low high xs → All (λ b. low ≤ b.0) xs
from_low low high [] c = λ k d h. absurd (omega arith)
from_low low high (b ∷ bs) (e, l, same, rest) = All-cons (λ b. low ≤ b.0) b bs
    (rw same (omega arith)) (λ k d h. omega (arith, from_low (low + 2 ^ e) high bs rest k d h))

pub ascending : (low high : ℕ) (xs : List (ℕ × ℕ)) → IsTuplePortCover low high xs
    → AllPairs (λ a b. a.0 < b.0) xs
ascending low high [] c = λ i j d h k. absurd (omega arith)
ascending low high (b ∷ bs) (e, l, same, rest) =
    search (rules, AllPairs-cons, from_low, ascending (low + 2 ^ e) high bs rest)

apart : (first high e : ℕ) → IsAlignedTuplePortBlock first high e → high < 2 ^ 16 → (b : ℕ × ℕ)
    → first + 2 ^ e ≤ b.0 → AreTuplePortBlocksApart (first, 2 ^ 16 - 2 ^ e) b
apart first high e block h b above port p held other =
    let below = and_parts (leb first port) (ltb port (first + 2 ^ e))
    (sym (holds_is port first e block.aligned (exponent_small first high e block h) p) ∙ held) in
    omega (arith, ltb-true, eqb-true (bit_and port b.1) b.0 other, and_le_l port b.1)

pub disjoint : (low high : ℕ) (xs : List (ℕ × ℕ)) → IsTuplePortCover low high xs → high < 2 ^ 16
    → AllPairs AreTuplePortBlocksApart xs
disjoint low high [] c h = λ i j d u k. absurd (omega arith)
disjoint low high (b ∷ bs) (e, l, same, rest) h = AllPairs-cons AreTuplePortBlocksApart b bs
    (λ k d u. rw same (apart low high e l.block h _ (from_low (low + 2 ^ e) high bs rest k d u)))
    (disjoint (low + 2 ^ e) high bs rest h)

pub masked : (low high : ℕ) (xs : List (ℕ × ℕ)) → IsTuplePortCover low high xs → high < 2 ^ 16
    → All IsTuplePortBlock xs
masked low high [] c h = λ k d u. absurd (omega arith)
masked low high (b ∷ bs) (e, l, same, rest) h =
    let pos = pow_pos e in
    let first : low < 2 ^ 16 = omega (arith, l.block.fits) in
    All-cons IsTuplePortBlock b bs
    (rw same (record {
      value = first;
      mask = omega arith;
      inside = and_high_mask 16 e (exponent_small low high e l.block h) low first
          ∙ omega (arith, shr_split low e, l.block.aligned);
    }))
    (masked (low + 2 ^ e) high bs rest h)

-- what is aligned to a power of two is aligned to each smaller one
pub aligned_down : (n m k : ℕ) → m ≤ k → n % 2 ^ k ≡ 0 → n % 2 ^ m ≡ 0
aligned_down n m k small h = let e : k ≡ k - m + m = omega arith in
    omega (arith, mod-pow-add n (k - m) m, subst (λ i. n % 2 ^ i ≡ 0) e h)

-- the next multiple is aligned as well
aligned_next : (n m : ℕ) → n % 2 ^ m ≡ 0 → (n + 2 ^ m) % 2 ^ m ≡ 0
aligned_next n m h =
    let q = n / 2 ^ m in
    let e : n + 2 ^ m ≡ (q + 1) * 2 ^ m + 0 = omega (arith, shr_split n m, h) in
    ap (λ k. k % 2 ^ m) e ∙ mod-mul-add (q + 1) (2 ^ m) 0 (pow_pos m)

-- an odd multiple and one more block of its size reach the next alignment
aligned_rise : (n m : ℕ) → n % 2 ^ m ≡ 0 → (n % 2 ^ suc m ≡ 0 → ⊥) → (n + 2 ^ m) % 2 ^ suc m ≡ 0
aligned_rise n m h odd =
    let q = n / 2 ^ m in
    let k = q / 2 in
    let double = ap (λ x. k * x) (pow-suc 2 m) in
    elim (cases_eq (q % 2) 0) [
      | inl even ↦ let whole = ap (λ x. x * 2 ^ m) {x = q} {y = k * 2} (omega arith) in
          let e : n ≡ k * 2 ^ suc m + 0 = omega (arith, shr_split n m, h, double, whole) in
          absurd (odd (ap (λ x. x % 2 ^ suc m) e ∙ mod-mul-add k (2 ^ suc m) 0 (pow_pos (suc m))))
      | inr half ↦ let whole = ap (λ x. x * 2 ^ m) {x = q} {y = k * 2 + 1} (omega arith) in
          let e : n + 2 ^ m ≡ (k + 1) * 2 ^ suc m + 0 = omega (arith, shr_split, pow-suc) in
          ap (λ x. x % 2 ^ suc m) e ∙ mod-mul-add (k + 1) (2 ^ suc m) 0 (pow_pos (suc m))
    ]

-- where a block of 2 ^ m fits and none of twice that size
same_size : (m low high e : ℕ) → IsLargestTuplePortBlock low high e → low % 2 ^ m ≡ 0
    → low + 2 ^ m ≤ high + 1 → high + 1 < low + 2 ^ suc m → e ≡ m
same_size m low high e l aligned fits ends =
    let least : m ≤ e = l.largest m (record { aligned = aligned; fits = fits }) in
    elim (cases_lt m e) [
      | inl more ↦ let p : 2 ^ suc m ≤ 2 ^ e = pow-le-pow_right (omega arith) (omega arith) in
          absurd (omega (arith, l.block.fits))
      | inr most ↦ omega arith
    ]

-- where twice the block would be aligned, it does not fit
ends_before : (low high e : ℕ) → IsLargestTuplePortBlock low high e → low % 2 ^ suc e ≡ 0
    → high + 1 < low + 2 ^ suc e
ends_before low high e l aligned = search rules

-- a multiple that is not 0 is at least as large
multiple_large : (n m : ℕ) → 0 < n → n % 2 ^ m ≡ 0 → 2 ^ m ≤ n
multiple_large n m pos aligned = search (rules, mod-eq_of_lt)

exponent_at_even : (low high e : ℕ) → IsAlignedTuplePortBlock low high e → 0 < low → high < 2 ^ 16
    → low % 2 ^ suc e ≡ 0 → e ≤ 14
exponent_at_even low high e block pos h even = elim (cases_lt 14 e) [
  | inl more ↦ let p : 2 ^ 16 ≤ 2 ^ suc e = pow-le-pow_right (omega arith) {i = 16} {j = suc e}
      (omega arith) in absurd (omega
      (arith, multiple_large low (suc e) pos even, block.fits, pow_pos e))
  | inr most ↦ most
]

-- a place that is aligned to t and not to twice the block has a block of 2 ^ t or more
exponent_past : (low e t : ℕ) → low % 2 ^ t ≡ 0 → (low % 2 ^ suc e ≡ 0 → ⊥) → t ≤ e
exponent_past low e t aligned odd = search (rules, aligned_down)

-- what is left is shorter than the alignment: each further block is smaller than the one before it
falling : (m low high : ℕ) (xs : List (ℕ × ℕ)) → IsTuplePortCover low high xs → low % 2 ^ m ≡ 0
    → high + 1 < low + 2 ^ m → length xs ≤ m
falling m low high [] c aligned h = omega arith
falling zero low high (b ∷ bs) (e, l, same, rest) aligned h = search rules
falling (suc m) low high (b ∷ bs) (e, l, same, rest) aligned h =
    let here = aligned_down low m (suc m) (omega arith) aligned in
    elim (cases_lt (high + 1) (low + 2 ^ m)) [
      | inl shorter ↦ omega (arith, falling m low high (b ∷ bs) (e, l, same, rest) here shorter)
      | inr longer ↦ let size : e ≡ m = same_size m low high e l here longer h in
          omega (
            arith,
            falling m (low + 2 ^ m) high bs (subst (λ k. IsTuplePortCover (low + 2 ^ k) high bs) size rest)
                (aligned_next low m here) (omega (arith, pow-suc 2 m)),
          )
    ]

none_past : (low high : ℕ) (xs : List (ℕ × ℕ)) → IsTuplePortCover low high xs → high < low → length xs ≡ 0
none_past low high [] c h = refl
none_past low high (b ∷ bs) (e, l, same, rest) h = absurd (omega (arith, l.block.fits, pow_pos e))

-- the blocks grow with the alignment of the place where they begin, until one does not fit, and
-- then they fall
rising : (xs : List (ℕ × ℕ)) (t low high : ℕ) → IsTuplePortCover low high xs → 0 < low → high < 2 ^ 16
    → t ≤ 15 → low % 2 ^ t ≡ 0 → length xs + t ≤ 30
rising [] t low high c pos h small aligned = omega arith
rising (b ∷ bs) t low high (e, l, same, rest) pos h small aligned =
    elim (cases_eq (low % 2 ^ suc e) 0) [
      | inl even ↦ let ends : high + 1 < low + 2 ^ suc e = ends_before low high e l even in
          omega (
            arith,
            falling (suc e) low high (b ∷ bs) (e, l, same, rest) even ends,
            exponent_at_even low high e l.block pos h even,
          )
      | inr odd ↦ let past = exponent_past low e t aligned odd in
          elim (cases_lt e 15) [
            | inl less ↦ omega (
              arith,
              rising bs (suc e) (low + 2 ^ e) high rest (omega arith) h
                  (omega arith) (aligned_rise low e l.block.aligned odd),
            )
            | inr most ↦
                let p : 2 ^ 15 ≤ 2 ^ e = pow-le-pow_right (omega arith) {i = 15} {j = e} most in
                omega (
                  arith,
                  none_past (low + 2 ^ e) high bs rest
                      (omega (arith, multiple_large low e pos l.block.aligned)),
                )
          ]
    ]

-- a range that begins at port 0
few_from_zero : (xs : List (ℕ × ℕ)) (low high : ℕ) → IsTuplePortCover low high xs → low ≡ 0 → high < 2 ^ 16
    → length xs ≤ 30
few_from_zero [] low high c zero_low h = omega arith
few_from_zero (b ∷ bs) low high (e, l, same, rest) zero_low h =
    let aligned : low % 2 ^ 16 ≡ 0 = mod-eq_of_lt {m = 2 ^ 16} (omega arith) ∙ zero_low in
    elim (cases_lt (high + 1) (2 ^ 16)) [
      | inl less ↦ omega (
        arith,
        falling 16 low high (b ∷ bs) (e, l, same, rest) aligned (omega arith),
      )
      | inr all ↦ let p : 2 ^ 16 ≤ 2 ^ e = pow-le-pow_right (omega arith)
          {i = 16} {j = e} (l.largest 16 (record { aligned = aligned; fits = omega arith })) in
          omega (arith, none_past (low + 2 ^ e) high bs rest (omega arith))
    ]

pub few : (low high : ℕ) (xs : List (ℕ × ℕ)) → IsTuplePortCover low high xs → high < 2 ^ 16 → length xs ≤ 30
few low high xs c h = elim (cases_lt 0 low) [
  | inl pos ↦ omega (arith, rising xs 0 low high c pos h (omega arith) (mod-one low))
  | inr none ↦ few_from_zero xs low high c (omega arith) h
]

-- no two lists cover one range
pub same_cover : (low high : ℕ) (xs ys : List (ℕ × ℕ)) → IsTuplePortCover low high xs → IsTuplePortCover low high ys
    → xs ≡ ys
same_cover low high [] [] c d = refl
same_cover low high [] (y ∷ ys) c (e, l, same, rest) = absurd (omega (arith, l.block.fits, pow_pos))
same_cover low high (x ∷ xs) [] (e, l, same, rest) d = absurd (omega (arith, l.block.fits, pow_pos))
same_cover low high (x ∷ xs) (y ∷ ys) (e, l, same, rest) (f, m, also, tail) =
    let size : f ≡ e = omega (arith, l.largest f m.block, m.largest e l.block) in
    let other = subst (λ k. IsTuplePortCover (low + 2 ^ k) high ys) size tail in
    let heads = ap {B = ℕ × ℕ} (λ k. (low, 2 ^ 16 - 2 ^ k)) size in
    cc (same_cover (low + 2 ^ e) high xs ys rest other)

-- one more block, where a cover of what is left completes the blocks before it
pub one_more : (low high next e size : ℕ) (blocks pushed more : List (ℕ × ℕ))
    → IsLargestTuplePortBlock next high e → size ≡ 2 ^ e
    → ((rest : List (ℕ × ℕ)) → IsTuplePortCover next high rest → IsTuplePortCover low high (blocks ++ rest))
    → pushed ≡ blocks ++ (next, 2 ^ 16 - size) ∷ [] → IsTuplePortCover (next + size) high more
    → IsTuplePortCover low high (pushed ++ more)
one_more low high next e size blocks pushed more l is completes push tail =
    search (rules, append_assoc)
