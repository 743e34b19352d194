-- The formats of the fields of messages.
use Rattle.std.specs.Prelude.{◌%◌, ◌&&◌, ◌*◌, ◌+◌, ◌/◌, ◌==◌, ◌^◌, Bool, List, None, Option, Some, bit_and, nat_le, nat_lt, ℕ}
use Rattle.base.specs.Exports.{w32, w64, w8}
use Rattle.policy_rules.specs.declared.policy.Action.{Action}
use Rattle.policy_rules.specs.declared.policy.Action.TheVariants.{Drop, Out}
use Rattle.policy_rules.specs.declared.rules.Rule.{Rule}
use Rattle.policy_rules.specs.declared.rules.Partition.{Partition}
use Rattle.switch_table.specs.declared.tables.PartRow.{PartRow}
use Rattle.switch_table.specs.declared.tables.Tables.{Tables}
use Rattle.ternary.specs.Exports.{WordValue}
use Rattle.wire.specs.Format.{WireFormat, number, ◌⊗◌, wire_format_as_type, wire_format_such_that, wire_optional, wire_list_of}

-- ---- numbers of 1, 4, 8 and 16 bytes

unfoldable pub n1 : WireFormat ℕ
n1 = number w8 (2 ^ 8)

unfoldable pub n4 : WireFormat ℕ
n4 = number w32 (2 ^ 32)

unfoldable pub n8 : WireFormat ℕ
n8 = number w64 (2 ^ 64)

-- the greater half first
unfoldable pub n16 : WireFormat ℕ
n16 =
    wire_format_as_type (λ (halves : ℕ × ℕ). halves.0 * 2 ^ 64 + halves.1) (λ n. (n / 2 ^ 64, n % 2 ^ 64))
    (n8 ⊗ n8)

-- how many values follow: a byte within bounds
abbrev pub wire_count_within : ℕ → ℕ → WireFormat ℕ
wire_count_within least most = wire_format_such_that (λ n. nat_le least n && nat_le n most) n1

-- ---- switches, words, rules

-- the number of a switch is below 64
unfoldable pub switch : WireFormat ℕ
switch = wire_format_such_that (λ n. nat_lt n 64) n1

-- no bit of the value is outside the mask, and no bit of the mask is above bit 103
abbrev pub is_wire_word_pair : ℕ × ℕ → Bool
is_wire_word_pair pair = (bit_and pair.0 pair.1 == pair.0) && nat_lt pair.1 (2 ^ 104)

-- the value and the mask
unfoldable pub word : WireFormat WordValue
word =
    wire_format_as_type (λ pair. record { value = pair.0; mask = pair.1 }) (λ w. (w.value, w.mask))
    (wire_format_such_that is_wire_word_pair (n16 ⊗ n16))

-- a row's priority, or nothing for the default
unfoldable pub wire_rule_name : WireFormat (Option ℕ)
wire_rule_name = wire_optional n1 n4

-- the port, or nothing for a drop
abbrev pub wire_action_by_port : Option ℕ → Action
wire_action_by_port None = Drop
wire_action_by_port (Some port) = Out port

abbrev pub wire_port_in_action : Action → Option ℕ
wire_port_in_action Drop = None
wire_port_in_action (Out port) = Some port

unfoldable pub action : WireFormat Action
action = wire_format_as_type wire_action_by_port wire_port_in_action (wire_optional n1 n4)

unfoldable pub rule : WireFormat Rule
rule =
    wire_format_as_type (λ p. record { word = p.0; rank = p.1.0; rule = p.1.1.0; action = p.1.1.1 })
    (λ r. (r.word, (r.rank, (r.rule, r.action))))
    (word ⊗ n4 ⊗ wire_rule_name ⊗ action)

-- ---- what a change touches

unfoldable pub wire_touched_count : WireFormat ℕ
wire_touched_count = wire_format_such_that (λ n. nat_le n 16) n1

-- at most 16 words
unfoldable pub touched : WireFormat (List WordValue)
touched = wire_list_of wire_touched_count word

-- ---- tables

-- one to four switches
unfoldable pub wire_target_count : WireFormat ℕ
wire_target_count = wire_count_within 1 4

unfoldable pub targets : WireFormat (List ℕ)
targets = wire_list_of wire_target_count switch

unfoldable pub region : WireFormat PartRow
region =
    wire_format_as_type (λ p. record { region = p.0; targets = p.1 }) (λ row. (row.region, row.targets))
    (word ⊗ targets)

unfoldable pub partition : WireFormat Partition
partition =
    wire_format_as_type (λ p. record { number = p.0; region = p.1.0; rules = p.1.1 })
    (λ part. (part.number, (part.region, part.rules)))
    (n4 ⊗ word ⊗ wire_list_of n4 rule)

unfoldable pub tables : WireFormat Tables
tables =
    wire_format_as_type (λ p. record { version = p.0; parts = p.1.0; auth = p.1.1 })
    (λ t. (t.version, (t.parts, t.auth)))
    (n4 ⊗ wire_list_of n4 region ⊗ wire_list_of n4 partition)
