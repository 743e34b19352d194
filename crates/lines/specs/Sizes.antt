-- What the types of fields ensure: their numbers have at most 32 bits.
use Rattle.std.specs.Prelude.{◌<◌, ◌^◌, None, Option, Some, ℕ, ⊤}
use Rattle.policy_rules.specs.declared.policy.Action.{Action}
use Rattle.policy_rules.specs.declared.policy.Action.TheVariants.{Drop, Out}

abbrev pub IsNumberInPrintedLine : ℕ → Type 0
IsNumberInPrintedLine n = n < 2 ^ 32

abbrev pub IsPrintedLineRule : Option ℕ → Type 0
IsPrintedLineRule (Some priority) = IsNumberInPrintedLine priority
IsPrintedLineRule None = ⊤

abbrev pub IsPrintedLineAction : Action → Type 0
IsPrintedLineAction (Out port) = IsNumberInPrintedLine port
IsPrintedLineAction Drop = ⊤
