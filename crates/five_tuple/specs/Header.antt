-- First tier. A header, its number, and when the fields of a policy's row match it: addresses and
-- protocol of RFC 791, ports of RFC 768 and RFC 793, blocks of RFC 4632; the packing is our own.
use Rattle.std.specs.Prelude.{◌&&◌, ◌*◌, ◌+◌, ◌-◌, ◌/◌, ◌<◌, ◌==◌, ◌^◌, Bool, nat_le, true, ℕ}
use Rattle.five_tuple.specs.declared.header.Fields.{Fields}
use Rattle.five_tuple.specs.declared.header.Header.{Header}
use Rattle.five_tuple.specs.declared.matching.Proto.{Proto}
use Rattle.five_tuple.specs.declared.matching.Proto.TheVariants.{Any, Is}

abbrev pub header_fields_of : Header → Fields
header_fields_of header = header.fields

-- each field has the bits that it has in a packet
pub record IsHeader (header : Header) : Type 0 where
  pub src : (header_fields_of header).src < 2 ^ 32
  pub dst : (header_fields_of header).dst < 2 ^ 32
  pub sport : (header_fields_of header).sport < 2 ^ 16
  pub dport : (header_fields_of header).dport < 2 ^ 16
  pub proto : (header_fields_of header).proto < 2 ^ 8

-- the number that packs a header's fields, the protocol in the lowest bits
abbrev pub header_number_of : Header → ℕ
header_number_of header =
    let f = header_fields_of header in
    f.src * 2 ^ 72 + f.dst * 2 ^ 40 + f.sport * 2 ^ 24 + f.dport * 2 ^ 8 + f.proto

-- a block of addresses (RFC 4632, section 3.1): an address, and how many of its first bits matter
pub record AddressBlock : Type 0 where
  pub address : ℕ
  pub len : ℕ

-- the address agrees with the block's in the first len of 32 bits
abbrev pub address_prefix_matches : AddressBlock → ℕ → Bool
address_prefix_matches p address = address / 2 ^ (32 - p.len) == p.address / 2 ^ (32 - p.len)

-- a range of ports, both ends included
pub record PortRangeValue : Type 0 where
  pub low : ℕ
  pub high : ℕ

-- the port is from the low to the high end
abbrev pub port_range_matches : PortRangeValue → ℕ → Bool
port_range_matches r port = nat_le r.low port && nat_le port r.high

-- any protocol, or exactly this number
abbrev pub proto_matches : Proto → ℕ → Bool
proto_matches Any number = true
proto_matches (Is this) number = this == number
