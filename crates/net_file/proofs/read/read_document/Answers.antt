use Rattle.std.proofs.Common.{inl, inr, refl}
use Rattle.base.proofs.Exports.{IsUtf8-from_is_utf8, both_ways, cases_Bool, is_utf8, is_utf8-from_IsUtf8}
use Rattle.toml.specs.Errors.{IsMemory}
use Rattle.net_file.proofs.read.read_document.Goals as goal

pub returns-in-Ok-clause-document : goal.returns-in-Ok-clause-document
returns-in-Ok-clause-document c = rw (is_utf8-from_IsUtf8 _ c.in-Ok.ensures.ok.0)
    c.in-Ok.ensures.ok.1

pub returns-in-Err-2-clause-refused : goal.returns-in-Err-2-clause-refused
returns-in-Err-2-clause-refused c =
    let other : ¬ IsMemory c.in-Err.error = λ memory.
    absurd (both_ways _ c.if-is_memory.false (c.is_memory.ensures.1 memory)) in
    elim (cases_Bool (is_utf8 c.args.bytes.now)) [
      | inl text ↦ rw (
        text,
        c.in-Err.ensures.refused other (IsUtf8-from_is_utf8 _ text),
        c.into.ensures,
      ) refl
      | inr bytes ↦ rw (bytes, c.into.ensures) refl
    ]
