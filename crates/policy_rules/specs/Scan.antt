-- The first match of a header as a function.
use Rattle.std.specs.Prelude.{[], ◌≡◌, Bool, List, MatchOption, None, Option, Some, filter, find, nat_le}
use Rattle.base.specs.Exports.{Bor, list_all}
use Rattle.five_tuple.specs.Exports.{header_fields_of}
use Rattle.five_tuple.specs.declared.header.Fields.{Fields}
use Rattle.five_tuple.specs.declared.header.Header.{Header}
use Rattle.policy_rules.specs.declared.policy.Row.{Row}
use Rattle.policy_rules.specs.declared.policy.Hit.{Hit}
use Rattle.policy_rules.specs.declared.policy.Action.TheVariants.{Drop}
use Rattle.policy_rules.specs.Policy.{policy_row_matches, IsHighestPolicyRowIn}

-- a reference to the matching row of the greatest priority, or `None` if no row matches
abbrev pub IsHighestPolicyMatch : List Row → Fields → Option (Bor Row) → Type 0
IsHighestPolicyMatch rows f best =
    let matching = filter (λ row. policy_row_matches row f) rows in
    MatchOption best (matching ≡ []) (λ row. IsHighestPolicyRowIn matching row.now)

-- none of the rows exceeds this one in priority
abbrev pub is_highest_policy_row : List Row → Row → Bool
is_highest_policy_row rows row = list_all (λ other. nat_le other.priority row.priority) rows

-- the row of the greatest priority
abbrev pub highest_policy_row : List Row → Option Row
highest_policy_row rows = find (is_highest_policy_row rows) rows

abbrev pub policy_hit_of : Option Row → Hit
policy_hit_of None = record { rule = None; action = Drop }
policy_hit_of (Some row) = record { rule = Some row.priority; action = row.action }

-- the first match of a header with these fields, as a function
abbrev pub policy_scan_by : List Row → Fields → Hit
policy_scan_by rows f = policy_hit_of (highest_policy_row (filter (λ row. policy_row_matches row f) rows))

-- the first match of a header, as a function
abbrev pub scan : List Row → Header → Hit
scan rows header = policy_scan_by rows (header_fields_of header)
