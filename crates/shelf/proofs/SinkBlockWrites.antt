-- Of a text that is written in blocks.
use Rattle.std.proofs.Common.{◌++◌, ◌+◌, ◌∙◌, ◌≡◌, Err, List, Ok, OnErr, Option, Result, ap, arith, drop, length, length-append, length-drop, sym, take, take-add, take-append-drop, ℕ}
use Rattle.std.proofs.Math.Seq.{drop-append_seam, take-append_seam}
use Rattle.std.proofs.lemmas.List.{take-append-le}
use Rattle.shelf.specs.Exports.{SinkGainedPart, IsSinkBlockGathered, gained-gained, sink_with_gained}

-- what waited was written, so that all is
pub all_written : (text : List ℕ) (before now later : Option (List ℕ)) (waiting : List ℕ)
    → IsSinkBlockGathered text before now waiting → later ≡ sink_with_gained now waiting → later
    ≡ sink_with_gained before text
all_written text before now later waiting is more =
    more ∙ ap (sink_with_gained now) is.waits ∙ ap (λ b. sink_with_gained b (drop is.written text)) is.gained
    ∙ gained-gained before (take is.written text) (drop is.written text)
    ∙ ap (sink_with_gained before) (take-append-drop is.written text)

-- a piece waits alone
pub waits_alone : (text piece : List ℕ) (before now : Option (List ℕ))
    → now ≡ sink_with_gained before text → IsSinkBlockGathered (text ++ piece) before now piece
waits_alone text piece before now written = record {
  written = length text;
  within = omega (arith, length-append text piece);
  gained = written ∙ ap (sink_with_gained before) (sym (take-append_seam text piece));
  waits = sym (drop-append_seam text piece);
}

-- a part of what waited was written, which is a part of the text
pub part_written : (text : List ℕ) (before now later : Option (List ℕ)) (waiting : List ℕ)
    → IsSinkBlockGathered text before now waiting → SinkGainedPart now waiting later
    → SinkGainedPart before text later
part_written text before now later waiting is part =
    let n = is.written in
    let k = part.0 in
    let fewer = part.1 in (
      n + k,
      omega (arith, fewer, ap length is.waits, length-drop n text, is.within),
      part.2 ∙ ap (λ bytes. sink_with_gained now (take k bytes)) is.waits
          ∙ ap (λ b. sink_with_gained b (take k (drop n text))) is.gained
          ∙ gained-gained before (take n text) (take k (drop n text))
          ∙ ap (sink_with_gained before) (sym (take-add n k text)),
    )

pub part_if_failed : {T E : Type 0} (r : Result T E) (text : List ℕ)
    (before now later : Option (List ℕ)) (waiting : List ℕ) → IsSinkBlockGathered text before now waiting
    → OnErr r (SinkGainedPart now waiting later) → OnErr r (SinkGainedPart before text later)
part_if_failed (Ok x) text before now later waiting is part = tt
part_if_failed (Err e) text before now later waiting is part =
    part_written text before now later waiting is part

-- a part of a text, of which not all was written, is one of a longer text
pub part_longer : {T E : Type 0} (r : Result T E) (text piece : List ℕ)
    (before now : Option (List ℕ)) → SinkGainedPart before text now
    → OnErr r (SinkGainedPart before (text ++ piece) now)
part_longer (Ok x) text piece before now part = tt
part_longer (Err e) text piece before now part =
    let n = part.0 in
    let fewer = part.1 in (
      n,
      omega (arith, fewer, length-append text piece),
      part.2 ∙ ap (sink_with_gained before) (sym (take-append-le n text piece (omega (arith, fewer)))),
    )
