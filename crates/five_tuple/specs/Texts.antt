-- The texts of a policy's and a packet's fields, as they are read. An address is in dotted decimal
-- (RFC 1123, section 2.1), and a block has a slash and its length after it (RFC 4632, section 3.1).
-- The keywords, the dash, and that numbers have no sign and no leading zero are this project's own.
use Rattle.std.specs.Prelude.{[], if◌then◌else◌, ◌&&◌, ◌*◌, ◌+◌, ◌-◌, ◌/◌, ◌==◌, ◌^◌, ◌∷◌, ◌≡◌, Bool, List, None, Option, Some, bytes_eq, codes, length, nat_le, nat_lt, not, option_map, slice_index, ℕ}
use Rattle.std.specs.List.{list_all, slice_split}
use Rattle.std.specs.Char.{is_ascii_digit}
use Rattle.std.specs.Str.Parse.{digits_value}
use Rattle.five_tuple.specs.declared.header.Fields.{Fields}
use Rattle.five_tuple.specs.declared.matching.Proto.{Proto}
use Rattle.five_tuple.specs.declared.matching.Proto.TheVariants.{Any, Is}
use Rattle.five_tuple.specs.Header.{AddressBlock, PortRangeValue}

-- the first digit is 0 and isn't the only one
abbrev pub tuple_text_has_leading_zero : List ℕ → Bool
tuple_text_has_leading_zero text = nat_lt 1 (length text) && slice_index text 0 == 48

-- one digit or more, with no leading zero
abbrev pub is_tuple_number_text : List ℕ → Bool
is_tuple_number_text text =
    nat_lt 0 (length text) && not (tuple_text_has_leading_zero text) && list_all is_ascii_digit text

-- the number that the text writes, if it is at most this much
unfoldable pub tuple_number_up_to : ℕ → List ℕ → Option ℕ
tuple_number_up_to most text =
    if is_tuple_number_text text && nat_le (digits_value 10 text) most then Some (digits_value 10 text)
    else None

-- the parts of a text between occurrences of a byte
abbrev pub tuple_text_parts_round_byte : ℕ → List ℕ → List (List ℕ)
tuple_text_parts_round_byte byte text = slice_split (λ b. b == byte) text

-- the address of four bytes, the highest first
abbrev pub address_from_bytes : Option ℕ → Option ℕ → Option ℕ → Option ℕ → Option ℕ
address_from_bytes (Some a) (Some b) (Some c) (Some d) = Some (a * 2 ^ 24 + b * 2 ^ 16 + c * 2 ^ 8 + d)
address_from_bytes _ _ _ _ = None

-- the text begins with this number from 0 to 255 and a dot, and `rest` follows the dot
pub record IsAddressByteBefore (text : List ℕ) (byte : ℕ) (rest : List ℕ) : Type 0 where
  pub part : List ℕ
  pub parts : tuple_text_parts_round_byte 46 text ≡ part ∷ tuple_text_parts_round_byte 46 rest
  pub number : tuple_number_up_to 255 part ≡ Some byte

-- the text has no dot, or no number from 0 to 255 before the first one
abbrev pub LacksAddressByte : List ℕ → Type 0
LacksAddressByte text = (part next : List ℕ) (others : List (List ℕ))
    → tuple_text_parts_round_byte 46 text ≡ part ∷ next ∷ others → tuple_number_up_to 255 part ≡ None

-- four parts, each a byte
abbrev pub address_of_parts : List (List ℕ) → Option ℕ
address_of_parts (a ∷ b ∷ c ∷ d ∷ []) =
    address_from_bytes (tuple_number_up_to 255 a) (tuple_number_up_to 255 b) (tuple_number_up_to 255 c) (tuple_number_up_to 255 d)
address_of_parts _ = None

-- four numbers from 0 to 255 joined by dots, the highest byte first
unfoldable pub address_of : List ℕ → Option ℕ
address_of text = address_of_parts (tuple_text_parts_round_byte 46 text)

-- the block of this length that the address lies in: the bits beyond the length are cleared
abbrev pub address_block_round : ℕ → ℕ → AddressBlock
address_block_round address len = record { address = address / 2 ^ (32 - len) * 2 ^ (32 - len); len = len }

-- a block, if both its address and its length can be read
abbrev pub address_block_from : Option ℕ → Option ℕ → Option AddressBlock
address_block_from (Some address) (Some len) = Some (address_block_round address len)
address_block_from _ _ = None

-- an address without a length has length 32
abbrev pub address_block_of_parts : List (List ℕ) → Option AddressBlock
address_block_of_parts (address ∷ []) = address_block_from (address_of address) (Some 32)
address_block_of_parts (address ∷ len ∷ []) = address_block_from (address_of address) (tuple_number_up_to 32 len)
address_block_of_parts _ = None

-- reads `any`; an address, which is a block by itself; or an address, a slash and the block's
-- length
unfoldable pub address_prefix_of : List ℕ → Option AddressBlock
address_prefix_of text =
    if bytes_eq text (codes "any") then Some (address_block_round 0 0) else
    address_block_of_parts (tuple_text_parts_round_byte 47 text)

-- a range, if both ends can be read and are in order
abbrev pub port_range_from : Option ℕ → Option ℕ → Option PortRangeValue
port_range_from (Some low) (Some high) =
    if nat_le low high then Some (record { low = low; high = high }) else None
port_range_from _ _ = None

-- one port is both ends
abbrev pub port_range_of_parts : List (List ℕ) → Option PortRangeValue
port_range_of_parts (port ∷ []) = port_range_from (tuple_number_up_to 65535 port) (tuple_number_up_to 65535 port)
port_range_of_parts (low ∷ high ∷ []) = port_range_from (tuple_number_up_to 65535 low) (tuple_number_up_to 65535 high)
port_range_of_parts _ = None

-- reads `any`; a port; or two ports joined by a dash, the first at most the second
unfoldable pub port_range_of : List ℕ → Option PortRangeValue
port_range_of text =
    if bytes_eq text (codes "any") then Some (record { low = 0; high = 65535 }) else
    port_range_of_parts (tuple_text_parts_round_byte 45 text)

-- a protocol by its name or its assigned number (RFC 791, section 3.1): ICMP is 1, TCP 6 and UDP 17
unfoldable pub proto_number_of : List ℕ → Option ℕ
proto_number_of text =
    if bytes_eq text (codes "icmp") then Some 1 else
    (if bytes_eq text (codes "tcp") then Some 6 else
    (if bytes_eq text (codes "udp") then Some 17 else tuple_number_up_to 255 text))

-- the fields of a packet, if each can be read
abbrev pub tuple_fields_from : Option ℕ → Option ℕ → Option ℕ → Option ℕ → Option ℕ → Option Fields
tuple_fields_from (Some src) (Some dst) (Some sport) (Some dport) (Some proto) =
    Some (record { src = src; dst = dst; sport = sport; dport = dport; proto = proto })
tuple_fields_from _ _ _ _ _ = None

-- two addresses, two ports and a protocol's number
abbrev pub tuple_fields_of : List ℕ → List ℕ → List ℕ → List ℕ → List ℕ → Option Fields
tuple_fields_of src dst sport dport proto =
    tuple_fields_from (address_of src) (address_of dst)
    (tuple_number_up_to 65535 sport) (tuple_number_up_to 65535 dport) (proto_number_of proto)

-- `any`, or a protocol
unfoldable pub proto_of : List ℕ → Option Proto
proto_of text =
    if bytes_eq text (codes "any") then Some Any else option_map Is (proto_number_of text)
