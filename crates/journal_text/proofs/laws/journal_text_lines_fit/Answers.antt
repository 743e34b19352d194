use Rattle.journal_text.proofs.JournalLineLengths.{lines_within}
use Rattle.journal_text.proofs.laws.journal_text_lines_fit.Goals as goal

pub returns : goal.returns
returns c = lines_within c.switch_name_laws.ensures
