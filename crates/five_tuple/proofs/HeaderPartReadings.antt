-- What a reader of parts finds that takes them off one at a time and reads the last as a number.
use Rattle.std.proofs.Common.{◌∷◌, ◌≡◌, List, None, Option, inl, inr, refl, sym, ℕ, rules}
use Rattle.five_tuple.specs.Exports.{address_from_bytes, address_of, address_block_from, address_block_of_parts, tuple_number_up_to, tuple_text_parts_round_byte, port_range_from, port_range_of_parts}
use Rattle.five_tuple.proofs.HeaderSplitParts.{last_part}

no_last : (x y z : Option ℕ) → address_from_bytes x y z None ≡ None
no_last x y z = search rules

pub address_reads : (text a b c d r s : List ℕ) → tuple_text_parts_round_byte 46 text ≡ a ∷ tuple_text_parts_round_byte 46 r
    → tuple_text_parts_round_byte 46 r ≡ b ∷ tuple_text_parts_round_byte 46 s → tuple_text_parts_round_byte 46 s ≡ c ∷ tuple_text_parts_round_byte 46 d
    → address_of text ≡ address_from_bytes (tuple_number_up_to 255 a) (tuple_number_up_to 255 b) (tuple_number_up_to 255 c)
    (tuple_number_up_to 255 d)
unfolding address_of
address_reads text a b c d r s e f g = rw (e, f, g) (elim (last_part 46 255 d refl) [
  | inl one ↦ rw one
  | inr w ↦ rw (w.3, w.4) (sym
      (no_last (tuple_number_up_to 255 a) (tuple_number_up_to 255 b) (tuple_number_up_to 255 c)))
])

no_len : (x : Option ℕ) → address_block_from x None ≡ None
no_len x = search rules

pub block_reads : (text a len : List ℕ) → tuple_text_parts_round_byte 47 text ≡ a ∷ tuple_text_parts_round_byte 47 len
    → address_block_of_parts (tuple_text_parts_round_byte 47 text) ≡ address_block_from (address_of a) (tuple_number_up_to 32 len)
block_reads text a len e = rw e (elim (last_part 47 32 len refl)
    [ inl one ↦ rw one | inr w ↦ rw (w.3, w.4) (sym (no_len (address_of a))) ])

no_high : (x : Option ℕ) → port_range_from x None ≡ None
no_high x = search rules

pub range_reads : (text low high : List ℕ) → tuple_text_parts_round_byte 45 text ≡ low ∷ tuple_text_parts_round_byte 45 high
    → port_range_of_parts (tuple_text_parts_round_byte 45 text) ≡ port_range_from (tuple_number_up_to 65535 low)
    (tuple_number_up_to 65535 high)
range_reads text low high e = rw e (elim (last_part 45 65535 high refl)
    [ inl one ↦ rw one | inr w ↦ rw (w.3, w.4) (sym (no_high (tuple_number_up_to 65535 low))) ])
