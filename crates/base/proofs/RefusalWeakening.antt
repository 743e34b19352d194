-- What proofs above cite.
use Rattle.std.proofs.Common.{rules}
use Rattle.base.specs.Exports.{IfRefused}
use Rattle.base.specs.declared.error.Failure.{Failure}

-- what is refused for one reason is refused for a weaker one
pub IfRefused-weaker : {R : Type 0} (P Q : R → Type 0) → ((refusal : R) → P refusal → Q refusal)
    → (e : Failure R) → IfRefused P e → IfRefused Q e
IfRefused-weaker P Q weaker e is = search rules
