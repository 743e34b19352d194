-- Which rows of a policy name a port outside a mask, in which bit p is for port p.
use Rattle.std.specs.Prelude.{◌+◌, ◌==◌, Bool, List, Option, not, option_map, position, true, ℕ}
use Rattle.base.specs.Exports.{bit_at}
use Rattle.policy_rules.specs.declared.policy.Action.{Action}
use Rattle.policy_rules.specs.declared.policy.Action.TheVariants.{Drop, Out}
use Rattle.policy_rules.specs.declared.amendment.Edit.{Edit}
use Rattle.policy_rules.specs.declared.amendment.Edit.TheVariants.{Remove, Add}
use Rattle.policy_rules.specs.declared.file.PolicyFile.{PolicyFile}
use Rattle.policy_rules.specs.declared.file.PolicyFile.TheVariants.{Whole, Change}
use Rattle.policy_rules.specs.declared.policy.Row.{Row}
use Rattle.policy_file.specs.declared.ports.NoPort.{NoPort}

-- the action names no port, or one of the mask
abbrev pub action_names_only_ports : ℕ → Action → Bool
action_names_only_ports ports Drop = true
action_names_only_ports ports (Out port) = bit_at ports port == 1

-- the first row, counted from 1, whose action names a port outside the mask
abbrev pub policy_file_first_row_without_port : ℕ → List Row → Option NoPort
policy_file_first_row_without_port ports rows =
    option_map (λ place. record { row = place + 1 })
    (position (λ row. not (action_names_only_ports ports row.action)) rows)

-- the edit adds no row, or one whose action names no port or one of the mask
abbrev pub policy_edit_fits_ports : ℕ → Edit → Bool
policy_edit_fits_ports ports (Remove priority) = true
policy_edit_fits_ports ports (Add row) = action_names_only_ports ports row.action

-- the first edit, counted from 1, that adds a row whose action names a port outside the mask
abbrev pub first_in_policy_change_file : ℕ → List Edit → Option NoPort
first_in_policy_change_file ports edits =
    option_map (λ place. record { row = place + 1 })
    (position (λ edit. not (policy_edit_fits_ports ports edit)) edits)

-- the first row of the file that names, or adds a row that names, a port outside the mask
abbrev pub first_in_policy_file : ℕ → PolicyFile → Option NoPort
first_in_policy_file ports (Whole rows) = policy_file_first_row_without_port ports rows
first_in_policy_file ports (Change edits) = first_in_policy_change_file ports edits
