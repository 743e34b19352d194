-- What a read from a reader of std returns, and what a write to a writer of std changes.
use Rattle.std.specs.Prelude.{◌++◌, ◌<◌, ◌≡◌, ◌≤◌, Err, IfSome, List, Ok, Option, Result, Vec, length, take, ℕ, ⊤}
use Rattle.std.specs.Global.{Global}
use Rattle.std.specs.Io.KnownBytes.{Appends}
use Rattle.std.specs.declared.io.ErrorKind.{ErrorKind}
use Rattle.std.specs.declared.io.ErrorKind.TheVariants.{OutOfMemory}
use Rattle.std.specs.IoError.{error_kind}
use Rattle.std.specs.declared.io.Error.{Error}
use Rattle.shelf.specs.Sink.{next_sink_fault_count}
use Rattle.shelf.specs.declared.source.ShelfError.{ShelfError}
use Rattle.shelf.specs.declared.source.ShelfError.TheVariants.{Missing, NoMemory, TooLong}

-- why a call of the system failed, by the kind of its error: out of memory, otherwise this cause
abbrev pub shelf_cause_by_kind : ErrorKind → ShelfError → ShelfError
shelf_cause_by_kind OutOfMemory other = NoMemory
shelf_cause_by_kind kind other = other

-- what contracts see of each reader: the bytes that it has left, if known, and how often it failed
pub record ShelfReaderState : Type 0 where
  pub left : Option (List ℕ)
  pub faults : ℕ

-- the content grew by all that a reader had left, if that is known, or by this many first bytes of
-- it; a read that failed or ran out of memory says nothing about it
abbrev pub ShelfReaderHasFront : {E : Type 0} → Option (List ℕ) → ℕ → (before now : List ℕ) → Result (⊤) E → Type 0
ShelfReaderHasFront known most before now (Ok done) = IfSome known (λ left. now ≡ before ++ take most left)
ShelfReaderHasFront known most before now (Err error) = ⊤

-- the count of faults after an error: each is one, unless its kind is out of memory
abbrev pub shelf_faults_by_kind : ErrorKind → ℕ → ℕ
shelf_faults_by_kind OutOfMemory faults = faults
shelf_faults_by_kind kind faults = next_sink_fault_count faults

-- the count of faults after one more call
abbrev pub shelf_counted_fault : {T : Type 0} → ℕ → Result T Error → ℕ
shelf_counted_fault faults (Ok done) = faults
shelf_counted_fault faults (Err error) = shelf_faults_by_kind (error_kind error) faults

-- what a reader had left, if that is known, is what was read; or it is longer than this, if that
-- is the result. A read that failed or ran out of memory says nothing about it
abbrev pub IsShelfReadOf : Option (List ℕ) → ℕ → Result (Vec ℕ Global) ShelfError → Type 0
IsShelfReadOf known limit (Ok content) = IfSome known (λ left. content.items ≡ left)
IsShelfReadOf known limit (Err TooLong) = IfSome known (λ left. limit < length left)
IsShelfReadOf known limit (Err Missing) = ⊥
IsShelfReadOf known limit (Err cause) = ⊤

-- the bytes that a writer has, if they are known, grew by the first of a piece: by as many as an
-- Ok says, and on an error by some or by none
abbrev pub SinkWriterGainsFront : {E : Type 0} → List ℕ → Result ℕ E → (before now : Option (List ℕ)) → Type 0
SinkWriterGainsFront piece (Ok taken) before now = Appends before now (take taken piece)
SinkWriterGainsFront piece (Err error) before now =
    (n : ℕ) × (n ≤ length piece) × Appends before now (take n piece)
