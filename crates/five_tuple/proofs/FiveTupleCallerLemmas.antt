-- What proofs above cite: of covers, of the parts of a line, and of numbers that pack five fields,
-- under masks that pack five masks.
pub use Rattle.five_tuple.proofs.PortCoverBlocks.{is_cover_of}
pub use Rattle.five_tuple.proofs.HeaderSplitParts.{parts_at, parts_none}
use Rattle.std.proofs.Common.{◌&&◌, ◌*◌, ◌+◌, ◌<◌, ◌^◌, ◌≡◌, arith, bit_and, eqb, ℕ, rules}
use Rattle.std.proofs.lemmas.Bool.Decides.{Decides-eqb, Decides-like, Decides-and, same_from_decides}
use Rattle.std.proofs.lemmas.Nat.{and_le_l, and_block}
use Rattle.five_tuple.specs.Exports.{packed_header_number}

-- the fields below the first have their bits
pub record HasBits (d p q r : ℕ) : Type 0 where
  pub dst : d < 2 ^ 32
  pub sport : p < 2 ^ 16
  pub dport : q < 2 ^ 16
  pub proto : r < 2 ^ 8

-- one field after another
steps : ℕ → ℕ → ℕ → ℕ → ℕ → ℕ
steps s d p q r = (((s * 2 ^ 32 + d) * 2 ^ 16 + p) * 2 ^ 16 + q) * 2 ^ 8 + r

packed_steps : (s d p q r : ℕ) → packed_header_number s d p q r ≡ steps s d p q r
unfolding steps
packed_steps s d p q r = omega arith

module _ (s d p q r s' d' p' q' r' : ℕ) (h : HasBits d p q r) (h' : HasBits d' p' q' r') where
  and_steps : bit_and (steps s d p q r) (steps s' d' p' q' r') ≡ steps (bit_and s s') (bit_and d d')
      (bit_and p p') (bit_and q q') (bit_and r r')
  unfolding steps
  and_steps = search (rules, and_block)

  -- `and` of two packed numbers is that of each field
  pub and_packed : bit_and (packed_header_number s d p q r) (packed_header_number s' d' p' q' r')
      ≡ packed_header_number (bit_and s s') (bit_and d d') (bit_and p p') (bit_and q q') (bit_and r r')
  and_packed = search (rules, packed_steps, and_steps)

  -- packed numbers are equal where each field is
  pub same_packed : eqb (packed_header_number s d p q r) (packed_header_number s' d' p' q' r')
      ≡ (eqb s s' && eqb d d' && eqb p p' && eqb q q' && eqb r r')
  same_packed = same_from_decides _ _
      (Decides-like _ (λ e. ((((omega arith, omega arith), omega arith), omega arith), omega arith))
      (λ w. omega (arith, w.0.0.0.0, w.0.0.0.1, w.0.0.1, w.0.1, w.1))
      (Decides-eqb (packed_header_number s d p q r) (packed_header_number s' d' p' q' r'))) (Decides-and _ _
      (Decides-and _ _ (Decides-and _ _ (Decides-and _ _ (Decides-eqb s s') (Decides-eqb d d'))
      (Decides-eqb p p')) (Decides-eqb q q')) (Decides-eqb r r'))

-- less bits than these
fewer_bits : (d p q r d' p' q' r' : ℕ) → HasBits d p q r → HasBits (bit_and d d') (bit_and p p')
    (bit_and q q') (bit_and r r')
fewer_bits d p q r d' p' q' r' h = search (rules, and_le_l)

-- packed fields agree with packed values under packed masks where each field does
pub masked_packed : (s d p q r s' d' p' q' r' vs vd vp vq vr : ℕ) → HasBits d p q r
    → HasBits d' p' q' r' → HasBits vd vp vq vr
    → eqb (bit_and (packed_header_number s d p q r) (packed_header_number s' d' p' q' r'))
    (packed_header_number vs vd vp vq vr) ≡ (eqb (bit_and s s') vs && eqb (bit_and d d') vd
    && eqb (bit_and p p') vp && eqb (bit_and q q') vq && eqb (bit_and r r') vr)
masked_packed s d p q r s' d' p' q' r' vs vd vp vq vr fields masks values =
    search (rules, and_packed, same_packed, fewer_bits)
