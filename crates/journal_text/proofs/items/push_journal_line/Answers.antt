use Rattle.std.proofs.Common.{[], ◌++◌, ◌∙◌, ◌∷◌, List, ap, arith, ℕ}
use Rattle.lines.proofs.LinesCallerLemmas.{pushed_append}
use Rattle.lines.specs.Pushes.{line_with}
use Rattle.journal_text.specs.Lines.{journal_item_line}
use Rattle.journal_text.proofs.JournalLineGains.{held_whole}
use Rattle.journal_text.proofs.JournalLineLengths.{line_within}
use Rattle.journal_text.proofs.items.push_journal_line.Goals as goal

pub returns-clause-text : goal.returns-clause-text
returns-clause-text c =
    let net = c.args.net.now in
    let line = c.args.line.now in
    let own : List ℕ = journal_item_line net c.args.item.now in
    let within = line_within c.switch_name_laws.ensures net c.requires.net c.args.item.now
    c.push_journal_item_text.ensures.of_type in
    c.push.ensures ∙ ap (λ l. line_with l (10 ∷ [])) c.push_journal_item_text.ensures.text
    ∙ pushed_append line own (10 ∷ [])
    ∙ held_whole line (own ++ 10 ∷ []) (omega (arith, c.requires.room, within.size))
