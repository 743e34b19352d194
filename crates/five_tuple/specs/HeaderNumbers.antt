-- The header that has five fields or a number, and when two headers are the same.
use Rattle.std.specs.Prelude.{◌%◌, ◌&&◌, ◌/◌, ◌==◌, ◌^◌, Bool, ℕ}
use Rattle.five_tuple.specs.declared.header.Fields.{Fields}
use Rattle.five_tuple.specs.declared.header.Header.{Header}
use Rattle.five_tuple.specs.Header.{header_fields_of, header_number_of}

abbrev pub header_of : Fields → Header
header_of fields = record { fields = fields }

-- the header that this number packs
abbrev pub header_numbered : ℕ → Header
header_numbered n = header_of (record {
  src = n / 2 ^ 72;
  dst = n / 2 ^ 40 % 2 ^ 32;
  sport = n / 2 ^ 24 % 2 ^ 16;
  dport = n / 2 ^ 8 % 2 ^ 16;
  proto = n % 2 ^ 8;
})

-- five numbers at the places that the fields have in a header's number
abbrev pub packed_header_number : ℕ → ℕ → ℕ → ℕ → ℕ → ℕ
packed_header_number src dst sport dport proto = header_number_of (header_of (record {
  src = src;
  dst = dst;
  sport = sport;
  dport = dport;
  proto = proto;
}))

-- the same fields: what `==` and the keys of maps compare
abbrev pub header_fields_eq : Fields → Fields → Bool
header_fields_eq a b =
    (a.src == b.src) && (a.dst == b.dst) && (a.sport == b.sport) && (a.dport == b.dport)
    && (a.proto == b.proto)

abbrev pub header_eq : Header → Header → Bool
header_eq a b = header_fields_eq (header_fields_of a) (header_fields_of b)
