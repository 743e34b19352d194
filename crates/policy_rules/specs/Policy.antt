-- First tier. Policies: when a row matches, the first match of a header, and how rules are printed.
use Rattle.std.specs.Prelude.{[], ◌&&◌, ◌++◌, ◌≡◌, ◌≤◌, All, Bool, Contains, List, MatchOption, None, Option, Some, codes, decimal, filter, ℕ}
use Rattle.five_tuple.specs.Exports.{header_fields_of, address_prefix_matches, proto_matches, port_range_matches}
use Rattle.five_tuple.specs.declared.header.Fields.{Fields}
use Rattle.five_tuple.specs.declared.header.Header.{Header}
use Rattle.policy_rules.specs.declared.policy.Row.{Row}
use Rattle.policy_rules.specs.declared.policy.Hit.{Hit}
use Rattle.policy_rules.specs.declared.policy.Action.TheVariants.{Drop, Out}
use Rattle.policy_rules.specs.declared.policy.Action.{Action}
pub use Rattle.policy_rules.specs.SoundPolicies.{PolicyHasDistinctPriorities, IsPolicy, IsSoundPolicyRow}

-- a row matches if each of its five fields does
abbrev pub policy_row_matches : Row → Fields → Bool
policy_row_matches row f =
    address_prefix_matches row.src f.src && address_prefix_matches row.dst f.dst
    && port_range_matches row.sport f.sport && port_range_matches row.dport f.dport
    && proto_matches row.proto f.proto

-- the row is one of the rows, none of which exceeds it in priority
pub record IsHighestPolicyRowIn (rows : List Row) (row : Row) : Type 0 where
  pub member : Contains rows row
  pub highest : All (λ other. other.priority ≤ row.priority) rows

-- the first match: of all matching rows the one that no matching row exceeds in priority; a drop
-- if none matches
abbrev pub IsFirstPolicyMatch : List Row → Header → Hit → Type 0
IsFirstPolicyMatch rows header hit =
    let matching = filter (λ row. policy_row_matches row (header_fields_of header)) rows in
    MatchOption hit.rule
    ((matching ≡ []) × (hit.action ≡ Drop))
    (λ priority. (row : Row) × IsHighestPolicyRowIn matching row × (row.priority ≡ priority)
    × (row.action ≡ hit.action))

abbrev pub policy_action_text : Action → List ℕ
policy_action_text Drop = codes "drop"
policy_action_text (Out port) = codes "out:" ++ decimal port

-- the priority of the rule's row, or `default`
abbrev pub policy_rule_text : Option ℕ → List ℕ
policy_rule_text (Some priority) = decimal priority
policy_rule_text None = codes "default"
