-- What reading from bytes returns, and the bytes after writing.
use Rattle.std.specs.Prelude.{◌++◌, ◌≡◌, Err, List, None, Ok, Option, Result, Some, flat_map, true, ℕ}
use Rattle.base.specs.Exports.{IfRefused, list_all}
use Rattle.base.specs.declared.error.Failure.{Failure}
use Rattle.wire.specs.declared.error.Malformed.{Malformed}
use Rattle.ctrl_msg.specs.declared.message.Body.{Body}
use Rattle.wire.specs.Format.{WireFormat}
use Rattle.wire.specs.Messages.{wire_fields_fit, wire_spelled_fields}

-- the result, seen by view, and the bytes that are left are what was read, unless memory ran out
abbrev pub GivesWireReading : {X A : Type 0} → (X → A) → Option (A × List ℕ)
    → Result X (Failure Malformed) → List ℕ → Type 0
GivesWireReading view read (Ok x) rest = read ≡ Some (view x, rest)
GivesWireReading view read (Err error) rest = IfRefused (λ _. read ≡ None) error

-- the result and the bytes that are left are what the format reads
abbrev pub WireFormatReads : {A : Type 0} → WireFormat A → List ℕ → Result A (Failure Malformed) → List ℕ → Type 0
WireFormatReads f bytes result rest = GivesWireReading (λ x. x) (f.read bytes) result rest

-- the value has an encoding, which is at the end of the new bytes
pub record AppendsWireForm {A : Type 0} (f : WireFormat A) (x : A) (before after : List ℕ) : Type 0 where
  pub fits : f.fits x ≡ true
  pub bytes : after ≡ before ++ f.spell x

-- each of the values has an encoding, and these are at the end of the new bytes
pub record AppendsEncodedItems {A : Type 0} (f : WireFormat A) (xs : List A) (before after : List ℕ)
    : Type 0 where
  pub fits : list_all f.fits xs ≡ true
  pub bytes : after ≡ before ++ flat_map f.spell xs

-- the fields of the body have an encoding, which is at the end of the new bytes
pub record AppendsWireFields (b : Body) (before after : List ℕ) : Type 0 where
  pub fits : wire_fields_fit b ≡ true
  pub bytes : after ≡ before ++ wire_spelled_fields b
