-- Where the tables of a plan lead.
use Rattle.std.specs.Prelude.{List, ℕ}
use Rattle.five_tuple.specs.Exports.{IsHeader}
use Rattle.five_tuple.specs.declared.header.Header.{Header}
use Rattle.partition.specs.Plan.{HostedPolicyPartition}
use Rattle.policy_rules.specs.declared.policy.Row.{Row}
use Rattle.switch_table.specs.Exports.{SwitchTablesReachFirstMatch, switch_table_lookup, tables_of}

-- for any version the tables of each switch decide each header as the first match among the rows
-- does, or send it to targets whose tables all decide it like that
unfoldable pub ControllerPlanLeadsEveryHeader : List Row → List HostedPolicyPartition → Type 0
ControllerPlanLeadsEveryHeader rows plan = (version switch : ℕ) (header : Header) → IsHeader header
    → SwitchTablesReachFirstMatch rows plan version header (switch_table_lookup (tables_of plan version switch) header)
