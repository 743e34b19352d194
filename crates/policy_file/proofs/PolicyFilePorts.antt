-- What a change adds, by a test of its edits.
use Rattle.std.proofs.Common.{All, IsTrue, List, ℕ}
use Rattle.base.proofs.Exports.{All-weaker}
use Rattle.policy_rules.specs.Exports.{PolicyEditAddsOnly}
use Rattle.policy_rules.specs.declared.amendment.Edit.{Edit}
use Rattle.policy_rules.specs.declared.amendment.Edit.TheVariants.{Remove, Add}
use Rattle.policy_rules.specs.declared.policy.Row.{Row}
use Rattle.policy_file.specs.Exports.{policy_edit_fits_ports, action_names_only_ports}

pub only_ports : (ports : ℕ) (edits : List Edit)
    → All (λ edit. IsTrue (policy_edit_fits_ports ports edit)) edits
    → All (PolicyEditAddsOnly (λ row. IsTrue (action_names_only_ports ports row.action))) edits
only_ports ports edits = All-weaker (λ edit. IsTrue (policy_edit_fits_ports ports edit))
    (PolicyEditAddsOnly (λ (row : Row). IsTrue (action_names_only_ports ports row.action))) by_edit edits
  where
    by_edit : (edit : Edit) → IsTrue (policy_edit_fits_ports ports edit)
        → PolicyEditAddsOnly (λ (row : Row). IsTrue (action_names_only_ports ports row.action)) edit
    by_edit (Remove priority) is = tt
    by_edit (Add row) is = is
