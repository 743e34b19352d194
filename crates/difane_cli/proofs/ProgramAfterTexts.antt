-- What the output is after a text was written that allocates.
use Rattle.base.proofs.Exports.{⊤}
use Rattle.std.proofs.Common.{[], ◌≡◌, Bool, Err, IsErrOf, List, Ok, OnErr, Result, inl, inr, ℕ}
use Rattle.shelf.specs.Exports.{SinkGainedPart, IsSinkAfterWrite, SinkState}
use Rattle.shelf.specs.declared.output.SinkError.{SinkError}
use Rattle.shelf.specs.declared.output.SinkError.TheVariants as sink
use Rattle.difane_cli.specs.Exports.{IsAfterProgramText, ProgramOutputWrotePart}

some_on_err : {T E : Type 0} (r : Result T E) (before now : SinkState) (bytes : List ℕ)
    → OnErr r (SinkGainedPart before.bytes bytes now.bytes) → OnErr r (ProgramOutputWrotePart bytes before now)
some_on_err (Ok x) before now bytes part = tt
some_on_err (Err e) before now bytes part = inr part

-- a text that was made was written, or not
pub text_written : (text : List ℕ) (in_memory takes_memory : Bool) (before now : SinkState)
    (result : Result (⊤) SinkError) → IsSinkAfterWrite text takes_memory before now result
    → (text ≡ [] → now ≡ before) → IsAfterProgramText text in_memory takes_memory before now result
text_written text in_memory takes_memory before now result after untouched = record {
  whole = after.whole;
  part = failed result after.part;
  some = some_on_err result before now text after.part;
  untouched = untouched;
  calm = after.calm;
  failed = after.failed;
  no_memory = λ is. inl (after.no_memory is);
  faults = after.faults;
} where
  failed : (r : Result (⊤) SinkError) → OnErr r (SinkGainedPart before.bytes text now.bytes)
      → IsErrOf r sink.Failed → SinkGainedPart before.bytes text now.bytes
  failed (Ok done) part is = absurd (cc is)
  failed (Err why) part is = part
