-- The printed forms of the fields of a policy's row; each is read back.
use Rattle.std.specs.Prelude.{[], if◌then◌else◌, ◌&&◌, ◌==◌, ◌||◌, ◌∷◌, Bool, List, codes, decimal, ℕ}
use Rattle.std.specs.Char.{is_ascii_digit, is_ascii_lowercase}
use Rattle.std.specs.List.{join_with_byte}
use Rattle.five_tuple.specs.declared.matching.Proto.{Proto}
use Rattle.five_tuple.specs.declared.matching.Proto.TheVariants.{Any, Is}
use Rattle.five_tuple.specs.Header.{AddressBlock, PortRangeValue}
use Rattle.five_tuple.specs.Printing.{address_text, proto_number_text}

-- a digit, a lower-case letter, a dash, a dot or a slash: none of which ends or quotes a CSV field
abbrev pub is_plain_tuple_char : ℕ → Bool
is_plain_tuple_char c = is_ascii_digit c || is_ascii_lowercase c || c == 45 || c == 46 || c == 47

-- every address, or the block's address, a slash and its length (RFC 4632, section 3.1)
unfoldable pub address_prefix_text : AddressBlock → List ℕ
address_prefix_text p =
    if p.len == 0 then codes "any" else
    join_with_byte 47 (address_text p.address ∷ decimal p.len ∷ [])

-- every port, one port, or both ends
unfoldable pub port_range_text : PortRangeValue → List ℕ
port_range_text r =
    if r.low == 0 && r.high == 65535 then codes "any" else
    (if r.low == r.high then decimal r.low else
    join_with_byte 45 (decimal r.low ∷ decimal r.high ∷ []))

-- any protocol, or one
unfoldable pub proto_text : Proto → List ℕ
proto_text Any = codes "any"
proto_text (Is n) = proto_number_text n
