-- What is true of the rows of each policy.
use Rattle.std.specs.Prelude.{◌<◌, ◌^◌, ◌≢◌, All, AllPairs, List, length}
use Rattle.five_tuple.specs.Exports.{IsAddressBlock, IsPortRange, IsProtocol}
use Rattle.policy_rules.specs.declared.policy.Row.{Row}

-- no two rows have the same priority
abbrev pub PolicyHasDistinctPriorities : List Row → Type 0
PolicyHasDistinctPriorities rows = AllPairs (λ row later. row.priority ≢ later.priority) rows

-- each field of the row satisfies the invariant of its type
pub record IsSoundPolicyRow (row : Row) : Type 0 where
  pub priority : row.priority < 2 ^ 32
  pub src : IsAddressBlock row.src
  pub dst : IsAddressBlock row.dst
  pub sport : IsPortRange row.sport
  pub dport : IsPortRange row.dport
  pub proto : IsProtocol row.proto

-- what is true of the rows of each policy
pub record IsPolicy (rows : List Row) : Type 0 where
  pub sound : All IsSoundPolicyRow rows
  pub distinct : PolicyHasDistinctPriorities rows
  pub few : length rows < 2 ^ 32
