-- What files make of policies, by how it was made.
use Rattle.std.proofs.Common.{◌≡◌, Err, IfOk, List, None, Ok, Option, Result, Some, ap, sym, ℕ}
use Rattle.base.proofs.Exports.{result_ok}
use Rattle.update_machine.specs.Exports.{PolicyFile, Row, machine_policy_made_by}
use Rattle.trace_audit.specs.Exports.{audit_made_policy, trace_numbered_file}

-- of the file of a number
pub policy_of : {E : Type 0} (files : List PolicyFile) (file : ℕ) (given : Option PolicyFile)
    (newest : Option (List Row)) (made : Result (Option (List Row)) E)
    → given ≡ trace_numbered_file files file
    → IfOk made (λ policy. policy ≡ result_ok (machine_policy_made_by given newest))
    → IfOk made (λ policy. policy ≡ audit_made_policy files file newest)
policy_of files file given newest made e is = rw e at is

-- a file that isn't there makes none
pub no_policy : (files : List PolicyFile) (file : ℕ) (newest : Option (List Row))
    → None ≡ trace_numbered_file files file → None ≡ audit_made_policy files file newest
no_policy files file newest e = ap (λ (this : Option PolicyFile). result_ok (machine_policy_made_by this newest)) e

-- a change that was applied, and one that was refused
pub some_made : {E : Type 0} (made : Result (List Row) E) (rows : List Row) → made ≡ Ok rows
    → Some rows ≡ result_ok made
some_made made rows e = sym (ap result_ok e)

pub none_made : {E : Type 0} (made : Result (List Row) E) (why : E) → made ≡ Err why
    → None ≡ result_ok made
none_made made why e = sym (ap result_ok e)
