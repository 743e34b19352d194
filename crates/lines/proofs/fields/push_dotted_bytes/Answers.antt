use Rattle.std.proofs.Common.{append_assoc, refl}
use Rattle.lines.proofs.LinesCallerLemmas.{pushed_append}
use Rattle.lines.proofs.fields.push_dotted_bytes.Goals as goal

pub returns : goal.returns
returns c = simp (
  c.push_number-4.ensures,
  c.push-3.ensures,
  c.push_number-3.ensures,
  c.push-2.ensures,
  c.push_number-2.ensures,
  c.push.ensures,
  c.push_number.ensures,
  c.from.ensures,
  c.from-2.ensures,
  c.from-3.ensures,
  c.from-4.ensures,
  pushed_append,
  append_assoc,
) refl
