-- What a sink gained by several writes.
use Rattle.std.proofs.Common.{[], ◌++◌, ◌+◌, ◌∙◌, ◌≡◌, Bool, Err, List, None, Ok, Option, Result, Some, ap, append-nil, arith, length, length-append, refl, subst, sym, take, ℕ}
use Rattle.base.proofs.Exports.{take-append-add, take-append-le, ⊤}
use Rattle.shelf.specs.Exports.{SinkGainedPart, IsSinkAfterWrite, SinkState, gained-gained, sink_with_gained}
use Rattle.shelf.specs.declared.output.SinkError.{SinkError}

pub nothing_gained : (before : Option (List ℕ)) → before ≡ sink_with_gained before []
nothing_gained None = refl
nothing_gained (Some bytes) = ap Some (sym (append-nil bytes))

-- a part of the next bytes, behind what was written, is a part of the whole
pub SinkGainedPart-behind : (before middle now : Option (List ℕ)) (front piece rest : List ℕ)
    → middle ≡ sink_with_gained before front → SinkGainedPart middle piece now
    → SinkGainedPart before (front ++ (piece ++ rest)) now
SinkGainedPart-behind before middle now front piece rest written part =
    let n = part.0 in
    let shorter = part.1 in (
      length front + n,
      rw (length-append, length-append) (omega (arith, shorter)),
      part.2 ∙ ap (λ b. sink_with_gained b (take n piece)) written
          ∙ gained-gained before front (take n piece) ∙ ap (sink_with_gained before)
          (ap (λ ys. front ++ ys) (sym (take-append-le n piece rest (omega (arith, shorter))))
          ∙ sym (take-append-add front (piece ++ rest) n)),
    )

pub part_last : (before middle now : Option (List ℕ)) (front piece : List ℕ)
    → middle ≡ sink_with_gained before front → SinkGainedPart middle piece now
    → SinkGainedPart before (front ++ piece) now
part_last before middle now front piece written part =
    subst (λ (bytes : List ℕ). SinkGainedPart before (front ++ bytes) now) (append-nil piece)
    (SinkGainedPart-behind before middle now front piece [] written part)

-- two texts, one after the other
pub both_written : (before middle now : SinkState) (text lines : List ℕ) (takes_memory : Bool)
    (result : Result (⊤) SinkError) → middle.bytes ≡ sink_with_gained before.bytes text
    → middle.faults ≡ before.faults → IsSinkAfterWrite lines takes_memory middle now result
    → IsSinkAfterWrite (text ++ lines) takes_memory before now result
both_written before middle now text lines takes_memory (Ok done) written same after = record {
  whole = after.whole ∙ ap (λ bytes. sink_with_gained bytes lines) written
      ∙ gained-gained before.bytes text lines;
  part = tt;
  faults = omega (arith, same, after.faults);
  calm = λ not. after.calm not ∙ same;
  failed = λ is. absurd (cc is);
  no_memory = λ is. absurd (cc is);
}
both_written before middle now text lines takes_memory (Err why) written same after = record {
  whole = tt;
  part = part_last before.bytes middle.bytes now.bytes text lines written after.part;
  faults = omega (arith, same, after.faults);
  calm = λ not. after.calm not ∙ same;
  failed = λ is. omega (arith, same, after.failed is);
  no_memory = after.no_memory;
}

-- the first of them was cut short
pub first_part : (before now : SinkState) (text lines : List ℕ) (takes_memory : Bool)
    (why : SinkError) → IsSinkAfterWrite text takes_memory before now (Err why)
    → IsSinkAfterWrite (text ++ lines) takes_memory before now (Err why)
first_part before now text lines takes_memory why after = record {
  whole = tt;
  part = SinkGainedPart-behind before.bytes before.bytes now.bytes [] text lines
      (nothing_gained before.bytes) after.part;
  faults = after.faults;
  calm = after.calm;
  failed = after.failed;
  no_memory = after.no_memory;
}

-- a piece that was cut short, behind what was written and before the rest
pub piece_cut : (before middle now : SinkState) (front piece rest whole : List ℕ)
    (takes_memory : Bool) (why : SinkError) → middle.bytes ≡ sink_with_gained before.bytes front
    → middle.faults ≡ before.faults → IsSinkAfterWrite piece takes_memory middle now (Err why)
    → front ++ (piece ++ rest) ≡ whole → IsSinkAfterWrite whole takes_memory before now (Err why)
piece_cut before middle now front piece rest whole takes_memory why written same after is =
    subst (λ (bytes : List ℕ). IsSinkAfterWrite bytes takes_memory before now (Err why)) is
    (both_written before middle now front (piece ++ rest) takes_memory (Err why) written same
    (first_part middle now piece rest takes_memory why after))
