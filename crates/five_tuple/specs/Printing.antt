-- First tier. The printed forms of the fields of policies and packets; each is read back.
use Rattle.std.specs.Prelude.{[], if◌then◌else◌, ◌%◌, ◌/◌, ◌==◌, ◌^◌, ◌∷◌, List, codes, decimal, ℕ}
use Rattle.std.specs.List.{join_with_byte}
use Rattle.five_tuple.specs.declared.header.Fields.{Fields}

-- the four bytes in decimal, the highest first, joined by dots
unfoldable pub address_text : ℕ → List ℕ
address_text a =
    join_with_byte 46 (decimal (a / 2 ^ 24) ∷ decimal (a / 2 ^ 16 % 2 ^ 8)
    ∷ decimal (a / 2 ^ 8 % 2 ^ 8) ∷ decimal (a % 2 ^ 8) ∷ [])

-- the names of ICMP, TCP and UDP, and any other protocol's number
unfoldable pub proto_number_text : ℕ → List ℕ
proto_number_text n =
    if n == 1 then codes "icmp" else (if n == 6 then codes "tcp" else
    (if n == 17 then codes "udp" else decimal n))

-- both addresses, both ports and the protocol, separated by blanks
unfoldable pub header_fields_text : Fields → List ℕ
header_fields_text x =
    join_with_byte 32 (address_text x.src ∷ address_text x.dst ∷ decimal x.sport ∷ decimal x.dport
    ∷ proto_number_text x.proto ∷ [])
