use Rattle.std.proofs.Common.{append_assoc, refl}
use Rattle.lines.proofs.LinesCallerLemmas.{pushed_append}
use Rattle.journal_text.proofs.messages.push_journal_cache_rule.Goals as goal

pub returns-clause-text : goal.returns-clause-text
returns-clause-text c = simp (
  c.push_journal_cached_rule.ensures.text,
  c.push_line_word.ensures,
  c.push.ensures,
  c.push_journal_numbered_text.ensures,
  pushed_append,
  append_assoc,
) refl
