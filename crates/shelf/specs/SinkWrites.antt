-- What a write to a sink of bytes may return, and sinks whose faults are planned beforehand.
use Rattle.std.specs.Prelude.{◌&&◌, ◌++◌, ◌==◌, ◌≡◌, ◌≢◌, ◌≤◌, Bool, Err, IsErrOf, IsTrue, List, None, Ok, OnErr, OnOk, Option, Result, Some, drop, false, length, not, refl, take, true, ℕ, ⊤}
use Rattle.std.proofs.Common.{ap, append_assoc}
use Rattle.shelf.specs.declared.output.SinkError.{SinkError}
use Rattle.shelf.specs.declared.output.SinkError.TheVariants.{Failed, NoMemory}
use Rattle.shelf.specs.Scripts.{ShelfCallScript}
use Rattle.shelf.specs.Sink.{SinkState, sink_with_gained, SinkGainedPart, SinkFaultsRose}

-- gaining two pieces is gaining both as one
pub gained-gained : (before : Option (List ℕ)) (first next : List ℕ)
    → sink_with_gained (sink_with_gained before first) next ≡ sink_with_gained before (first ++ next)
gained-gained None first next = refl
gained-gained (Some bytes) first next = ap Some (append_assoc bytes first next)

-- the first bytes of a text are written, and the others wait in a block
pub record IsSinkBlockGathered (text : List ℕ) (before now : Option (List ℕ)) (waiting : List ℕ)
    : Type 0 where
  pub written : ℕ
  pub within : written ≤ length text
  pub gained : now ≡ sink_with_gained before (take written text)
  pub waits : waiting ≡ drop written text

-- a sink after a write of these bytes: it gained all of them if the write succeeded, otherwise a
-- part; and each error has its cause. Only a failed write counts a fault, so a write is not tried
-- again after a fault
pub record IsSinkAfterWrite (bytes : List ℕ) (takes_memory : Bool) (old new : SinkState)
    (result : Result (⊤) SinkError) : Type 0 where
  pub whole : OnOk result (new.bytes ≡ sink_with_gained old.bytes bytes)
  pub part : OnErr result (SinkGainedPart old.bytes bytes new.bytes)
  pub faults : old.faults ≤ new.faults
  pub calm : result ≢ Err Failed → new.faults ≡ old.faults
  pub failed : IsErrOf result Failed → SinkFaultsRose old.faults new.faults
  pub no_memory : IsErrOf result NoMemory → IsTrue takes_memory

-- the result is a fault, or an Ok of nothing for a piece that has bytes
abbrev pub is_sink_write_fault : List ℕ → Result ℕ SinkError → Bool
is_sink_write_fault piece (Ok taken) = (taken == 0) && not (length piece == 0)
is_sink_write_fault piece (Err Failed) = true
is_sink_write_fault piece (Err NoMemory) = false

-- bytes, the most that one call accepts, and the calls that are to fail
pub record ScriptedSinkBytes : Type 0 where
  pub bytes : List ℕ
  pub most : ℕ
  pub script : ShelfCallScript
