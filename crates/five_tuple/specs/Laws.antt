-- The laws of header numbers, of covers and of printed forms: a function of the crate ensures the
-- record of each.
use Rattle.std.specs.Prelude.{◌<◌, ◌^◌, ◌↔◌, ◌≡◌, ◌≤◌, All, AllPairs, IsTrue, List, decimal, length, ℕ}
use Rattle.std.specs.List.{AllPass, list_any}
use Rattle.five_tuple.specs.declared.header.Header.{Header}
use Rattle.five_tuple.specs.declared.matching.Proto.{Proto}
use Rattle.five_tuple.specs.Cover.{TuplePortBlock, IsTuplePortBlock, tuple_port_block_holds, AreTuplePortBlocksApart, port_range_cover_of, IsTuplePortCover}
use Rattle.five_tuple.specs.Header.{IsHeader, header_number_of, AddressBlock, PortRangeValue, port_range_matches}
use Rattle.five_tuple.specs.SoundFields.{IsAddressBlock, IsPortRange, IsProtocol}
use Rattle.five_tuple.specs.Printing.{address_text, proto_number_text}
use Rattle.five_tuple.specs.HeaderNumbers.{header_numbered, header_eq}
use Rattle.five_tuple.specs.RowPrinting.{is_plain_tuple_char, address_prefix_text, port_range_text, proto_text}

-- each number below 2 ^ 104 belongs to exactly one header
pub record HeaderLaws : Type 0 where
  pub header : (n : ℕ) → n < 2 ^ 104 → IsHeader (header_numbered n)
  pub bound : (h : Header) → IsHeader h → header_number_of h < 2 ^ 104
  pub numbered : (n : ℕ) → n < 2 ^ 104 → header_number_of (header_numbered n) ≡ n
  pub back : (h : Header) → IsHeader h → header_numbered (header_number_of h) ≡ h
  pub equal : (a b : Header) → IsTrue (header_eq a b) ↔ (a ≡ b)
  pub same : (a b : Header) → IsHeader a → IsHeader b → header_number_of a ≡ header_number_of b → a ≡ b

-- what is true of the blocks of a range
pub record IsPortRangeCover (range : PortRangeValue) (blocks : List TuplePortBlock) : Type 0 where
  -- they have exactly its ports, each in one block
  pub exact : (port : ℕ) → port < 2 ^ 16
      → list_any (tuple_port_block_holds port) blocks ≡ port_range_matches range port
  pub disjoint : AllPairs AreTuplePortBlocksApart blocks
  pub ascending : AllPairs (λ a b. a.0 < b.0) blocks
  pub masked : All IsTuplePortBlock blocks
  pub some : 0 < length blocks
  pub few : length blocks ≤ 30

pub record TuplePortCoverLaws : Type 0 where
  pub cover : (range : PortRangeValue) → IsPortRange range → IsPortRangeCover range (port_range_cover_of range)
  -- each is the largest block that begins at the first port not yet covered, and no other list has
  -- this property
  pub greedy : (range : PortRangeValue) → IsPortRange range
      → IsTuplePortCover range.low range.high (port_range_cover_of range)
  pub only : (range : PortRangeValue) (blocks : List TuplePortBlock) → IsPortRange range
      → IsTuplePortCover range.low range.high blocks → blocks ≡ port_range_cover_of range

-- each printed form has only plain characters
pub record PlainTupleTextLaws : Type 0 where
  pub number : (n : ℕ) → n < 2 ^ 64 → AllPass is_plain_tuple_char (decimal n)
  pub address : (a : ℕ) → a < 2 ^ 32 → AllPass is_plain_tuple_char (address_text a)
  pub prefix : (p : AddressBlock) → IsAddressBlock p → AllPass is_plain_tuple_char (address_prefix_text p)
  pub range : (r : PortRangeValue) → IsPortRange r → AllPass is_plain_tuple_char (port_range_text r)
  pub proto_number : (n : ℕ) → n < 2 ^ 8 → AllPass is_plain_tuple_char (proto_number_text n)
  pub proto : (p : Proto) → IsProtocol p → AllPass is_plain_tuple_char (proto_text p)
