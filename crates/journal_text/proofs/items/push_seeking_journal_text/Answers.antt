use Rattle.std.proofs.Common.{append_assoc, refl}
use Rattle.lines.proofs.LinesCallerLemmas.{pushed_append}
use Rattle.journal_text.proofs.items.push_seeking_journal_text.Goals as goal

pub returns-clause-text : goal.returns-clause-text
returns-clause-text c = simp (
  c.push_journal_via_route.ensures.text,
  c.push_journal_numbered_text.ensures,
  c.push_journal_two_numbers.ensures,
  pushed_append,
  append_assoc,
) refl
