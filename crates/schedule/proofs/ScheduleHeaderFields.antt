-- Each field of a header that is read has the bits that it has in a packet.
use Rattle.std.proofs.Common.{[], ◌&&◌, ◌*◌, ◌+◌, ◌^◌, ◌∷◌, ◌≡◌, ◌≤◌, Bool, List, None, Option, Some, arith, bytes_eq, codes, cond, false, nat_le, refl, true, ℕ}
use Rattle.base.proofs.Exports.{digits_value, nat_tests}
use Rattle.five_tuple.specs.Exports.{IsHeader, address_from_bytes, address_of, address_of_parts, tuple_fields_from, header_of, is_tuple_number_text, tuple_number_up_to, tuple_fields_of, tuple_text_parts_round_byte, proto_number_of}
use Rattle.five_tuple.specs.declared.header.Fields.{Fields}

checked : (number : Bool) (most value n : ℕ) → cond (number && nat_le value most) (Some value) None
    ≡ Some n → n ≤ most
checked true most value n is = tested (nat_le value most) refl is where
  tested : (b : Bool) → nat_le value most ≡ b → cond b (Some value) None ≡ Some n → n ≤ most
  tested true small is =
      let same : value ≡ n = cc is in
      let bound : value ≤ most = grind (arith, nat_tests) in omega (arith, same, bound)
  tested false small is = cc is
checked false most value n is = cc is

pub number_bound : (most : ℕ) (text : List ℕ) (n : ℕ) → tuple_number_up_to most text ≡ Some n → n ≤ most
unfolding tuple_number_up_to
number_bound most text n is = checked (is_tuple_number_text text) most (digits_value 10 text) n is

-- what reads at most this much
abbrev IsBelow : ℕ → Option ℕ → Type 0
IsBelow most read = (n : ℕ) → read ≡ Some n → n ≤ most

address_bound-from : (a b c d : Option ℕ) → IsBelow 255 a → IsBelow 255 b → IsBelow 255 c
    → IsBelow 255 d → IsBelow 4294967295 (address_from_bytes a b c d)
address_bound-from (Some a) (Some b) (Some c) (Some d) ha hb hc hd n is =
    let same : a * 2 ^ 24 + b * 2 ^ 16 + c * 2 ^ 8 + d ≡ n = cc is in
    omega (arith, ha a refl, hb b refl, hc c refl, hd d refl, same)
address_bound-from _ _ _ _ ha hb hc hd n is = cc is

parts_bound : (parts : List (List ℕ)) → IsBelow 4294967295 (address_of_parts parts)
parts_bound (a ∷ b ∷ c ∷ d ∷ []) = address_bound-from (tuple_number_up_to 255 a) (tuple_number_up_to 255 b)
    (tuple_number_up_to 255 c) (tuple_number_up_to 255 d) (number_bound 255 a) (number_bound 255 b)
    (number_bound 255 c) (number_bound 255 d)
parts_bound _ = λ n is. cc is

pub address_bound : (text : List ℕ) → IsBelow 4294967295 (address_of text)
unfolding address_of
address_bound text = parts_bound (tuple_text_parts_round_byte 46 text)

named : (is_name : Bool) (number : ℕ) (otherwise : Option ℕ) → number ≤ 255 → IsBelow 255 otherwise
    → IsBelow 255 (cond is_name (Some number) otherwise)
named true number otherwise small below n is =
    let same : number ≡ n = cc is in omega (arith, same, small)
named false number otherwise small below n is = below n is

pub proto_bound : (text : List ℕ) → IsBelow 255 (proto_number_of text)
unfolding proto_number_of
proto_bound text =
    named (bytes_eq text (codes "icmp")) 1 _ (omega arith)
    (named (bytes_eq text (codes "tcp")) 6 _ (omega arith)
    (named (bytes_eq text (codes "udp")) 17 (tuple_number_up_to 255 text) (omega arith)
    (number_bound 255 text)))

fields_bound : (src dst sport dport proto : Option ℕ) → IsBelow 4294967295 src
    → IsBelow 4294967295 dst → IsBelow 65535 sport → IsBelow 65535 dport → IsBelow 255 proto
    → (fields : Fields) → tuple_fields_from src dst sport dport proto ≡ Some fields
    → IsHeader (header_of fields)
fields_bound (Some s) (Some d) (Some p) (Some q) (Some r) hs hd hp hq hr fields is =
    let same : tuple_fields_from (Some s) (Some d) (Some p) (Some q) (Some r) ≡ Some fields = is in
    let src : s ≡ fields.src = cc is in
    let dst : d ≡ fields.dst = cc is in
    let sport : p ≡ fields.sport = cc is in
    let dport : q ≡ fields.dport = cc is in
    let proto : r ≡ fields.proto = cc is in record {
      src = omega (arith, hs s refl, src);
      dst = omega (arith, hd d refl, dst);
      sport = omega (arith, hp p refl, sport);
      dport = omega (arith, hq q refl, dport);
      proto = omega (arith, hr r refl, proto);
    }
fields_bound _ _ _ _ _ hs hd hp hq hr fields is = cc is

pub header_bound : (src dst sport dport proto : List ℕ) (fields : Fields)
    → tuple_fields_of src dst sport dport proto ≡ Some fields → IsHeader (header_of fields)
header_bound src dst sport dport proto = fields_bound (address_of src) (address_of dst)
    (tuple_number_up_to 65535 sport) (tuple_number_up_to 65535 dport) (proto_number_of proto)
    (address_bound src) (address_bound dst) (number_bound 65535 sport) (number_bound 65535 dport)
    (proto_bound proto)
