-- The arguments of commands that play nothing.
use Rattle.std.specs.Prelude.{List, Option, ℕ}

-- `compile POLICY`, or `show POLICY SWITCH`, and perhaps with a network's file
pub record PrintArguments : Type 0 where
  pub policy : List ℕ
  pub switch : Option (List ℕ)
  pub net : Option (List ℕ)

-- `audit TRACE POLICY ..`
pub record AuditArguments : Type 0 where
  pub trace : List ℕ
  pub policies : List (List ℕ)
