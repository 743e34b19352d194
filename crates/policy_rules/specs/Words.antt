-- The words of a row.
use Rattle.std.specs.Prelude.{◌-◌, ◌^◌, List, flat_map, map, ℕ}
use Rattle.five_tuple.specs.Exports.{AddressBlock, TuplePortBlock, port_range_cover_of, packed_header_number}
use Rattle.five_tuple.specs.declared.matching.Proto.{Proto}
use Rattle.five_tuple.specs.declared.matching.Proto.TheVariants.{Any, Is}
use Rattle.ternary.specs.Exports.{WordValue}
use Rattle.policy_rules.specs.declared.policy.Row.{Row}

-- the first len of 32 bits
abbrev pub policy_rule_prefix_mask : AddressBlock → ℕ
policy_rule_prefix_mask p = 2 ^ 32 - 2 ^ (32 - p.len)

-- all eight bits of one protocol's number, or none
abbrev pub policy_rule_proto_mask : Proto → ℕ
policy_rule_proto_mask Any = 0
policy_rule_proto_mask (Is number) = 255

abbrev pub policy_rule_proto_value : Proto → ℕ
policy_rule_proto_value Any = 0
policy_rule_proto_value (Is number) = number

-- the word that fixes what the row says about addresses and protocol, and a block of each port
unfoldable pub word_of_policy_row : Row → TuplePortBlock → TuplePortBlock → WordValue
word_of_policy_row row source destination = record {
  value = packed_header_number row.src.address row.dst.address source.0 destination.0
      (policy_rule_proto_value row.proto);
  mask =
      packed_header_number (policy_rule_prefix_mask row.src) (policy_rule_prefix_mask row.dst) source.1 destination.1
      (policy_rule_proto_mask row.proto);
}

-- the words of a row: one for each pair of a block of its source ports and one of its destination
-- ports, the source block outermost
abbrev pub words_of_policy_row : Row → List WordValue
words_of_policy_row row =
    flat_map (λ source. map (word_of_policy_row row source) (port_range_cover_of row.dport)) (port_range_cover_of row.sport)
