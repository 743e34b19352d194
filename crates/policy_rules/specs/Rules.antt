-- The rules of a policy: its rows as words of a ternary memory, in the order of trial.
use Rattle.std.specs.Prelude.{Bool, List, Option, find, ℕ}
use Rattle.five_tuple.specs.Exports.{header_number_of}
use Rattle.five_tuple.specs.declared.header.Header.{Header}
use Rattle.ternary.specs.Exports.{holds}
use Rattle.policy_rules.specs.declared.rules.Rule.{Rule}

-- the rule's word holds this header number
abbrev pub is_held_by_policy_rule : ℕ → Rule → Bool
is_held_by_policy_rule number rule = holds rule.word number

-- the first rule whose word holds the header
abbrev pub first_policy_rule : List Rule → Header → Option Rule
first_policy_rule rules header = find (is_held_by_policy_rule (header_number_of header)) rules
