-- What is true of the fields of a policy's row: blocks of addresses, ranges of ports, protocols.
use Rattle.std.specs.Prelude.{◌%◌, ◌-◌, ◌<◌, ◌^◌, ◌≡◌, ◌≤◌, ⊤}
use Rattle.five_tuple.specs.Header.{AddressBlock, PortRangeValue}
use Rattle.five_tuple.specs.declared.matching.Proto.{Proto}
use Rattle.five_tuple.specs.declared.matching.Proto.TheVariants.{Any, Is}

-- the bits beyond the first len are 0
pub record IsAddressBlock (p : AddressBlock) : Type 0 where
  pub address : p.address < 2 ^ 32
  pub len : p.len ≤ 32
  pub cleared : p.address % 2 ^ (32 - p.len) ≡ 0

-- the low end is at most the high end, and both are ports
pub record IsPortRange (r : PortRangeValue) : Type 0 where
  pub ordered : r.low ≤ r.high
  pub bound : r.high < 2 ^ 16

-- a number of a protocol has eight bits (RFC 791, section 3.1)
abbrev pub IsProtocol : Proto → Type 0
IsProtocol Any = ⊤
IsProtocol (Is number) = number < 2 ^ 8
