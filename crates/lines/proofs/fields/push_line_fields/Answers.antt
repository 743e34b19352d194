use Rattle.std.proofs.Common.{append_assoc, refl}
use Rattle.five_tuple.specs.Exports.{header_fields_text}
use Rattle.lines.proofs.LinesCallerLemmas.{pushed_append}
use Rattle.lines.proofs.fields.push_line_fields.Goals as goal

pub returns : goal.returns
unfolding header_fields_text
returns c = simp (
  c.push_line_protocol.ensures,
  c.push-4.ensures,
  c.push_number-2.ensures,
  c.push-3.ensures,
  c.push_number.ensures,
  c.push-2.ensures,
  c.push_line_address-2.ensures,
  c.push.ensures,
  c.push_line_address.ensures,
  c.from.ensures,
  c.from-2.ensures,
  pushed_append,
  append_assoc,
) refl
