-- Facts about the error of a call, and the row in which a text is refused.
use Rattle.std.specs.Prelude.{◌≡◌, Err, Ok, Result, ℕ, ⊤}
use Rattle.base.specs.declared.error.Failure.{Failure}
use Rattle.base.specs.declared.error.Failure.TheVariants.{Refused, NoMemory}
use Rattle.base.specs.declared.row.InRow.{InRow}

-- this is true of the refusal, or memory ran out
abbrev pub IfRefused : {R : Type 0} → (R → Type 0) → Failure R → Type 0
IfRefused is (Refused refusal) = is refusal
IfRefused is NoMemory = ⊤

-- the error is the refusal, or out of memory
abbrev pub IsCallRefusal : {X R : Type 0} → Result X R → Failure R → Type 0
IsCallRefusal read (Refused refusal) = read ≡ Err refusal
IsCallRefusal read NoMemory = ⊤

-- a value, or its refusal in this row
abbrev pub refusal_in_row : {X R : Type 0} → ℕ → Result X R → Result X (InRow R)
refusal_in_row row (Ok value) = Ok value
refusal_in_row row (Err refusal) = Err (record { refusal = refusal; row = row })
