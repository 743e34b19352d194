use Rattle.std.proofs.Common.{◌++◌, ◌∙◌, List, ap, map, subst, ℕ}
use Rattle.base.proofs.Exports.{err_from_is_err_and}
use Rattle.journal_text.specs.Lines.{journal_text}
use Rattle.shelf.specs.Exports.{IsSinkAfterWrite}
use Rattle.difane_cli.specs.Exports.{program_last_lines}
use Rattle.difane_cli.proofs.ProgramMeterLines.{cut_short, none_left, none_right, none_of_text, text_whole}
use Rattle.shelf.proofs.SinkGains.{both_written}
use Rattle.difane_cli.proofs.playing.write_played.Goals as goal

pub returns-in-None-clause-after : goal.returns-in-None-clause-after
returns-in-None-clause-after g c =
    let net = c.args.net.now in
    let journal = c.args.played.now.journal in
    let lines = program_last_lines (map g.M.Meter.seen c.deref.result.now) c.args.answer in
    let before = g.K.Sink.state c.args.out.now in
    let middle = g.K.Sink.state c.write_text.new.sink in
    let now = g.K.Sink.state c.write_program_last_lines.new.out in
    subst (λ (bytes : List ℕ).
    IsSinkAfterWrite bytes g.K.Sink.takes_memory before now c.write_program_last_lines.result)
    (ap (λ (meters : List g.row.M.Denot). journal_text net journal
    ++ program_last_lines (map g.M.Meter.seen meters) c.args.answer) c.deref.ensures.value
    ∙ text_whole net journal c.args.played.now.full _ c.args.answer c.in-None.is)
    (both_written before middle now (journal_text net journal) lines g.K.Sink.takes_memory
    c.write_program_last_lines.result c.in_ok-write_text.ensures.after.whole
    (c.in_ok-write_text.ensures.after.calm (λ is. absurd (cc is))) c.write_program_last_lines.ensures.after)

pub returns-in-None-clause-no_lines : goal.returns-in-None-clause-no_lines
returns-in-None-clause-no_lines g c = λ none. let net = c.args.net.now in
    let journal = c.args.played.now.journal in
    let lines = program_last_lines (map g.M.Meter.seen c.deref.result.now) c.args.answer in
    let both = ap (λ (meters : List g.row.M.Denot). journal_text net journal
    ++ program_last_lines (map g.M.Meter.seen meters) c.args.answer) c.deref.ensures.value
    ∙ text_whole net journal c.args.played.now.full _ c.args.answer c.in-None.is ∙ none in
    c.write_program_last_lines.ensures.no_lines (none_right (journal_text net journal) lines both)
    ∙ c.in_ok-write_text.ensures.no_text (none_left (journal_text net journal) lines both)

pub returns-in_err-write_text-clause-after : goal.returns-in_err-write_text-clause-after
returns-in_err-write_text-clause-after g c =
    let given = err_from_is_err_and c.from_residual.result c.from_residual.ensures.1 in
    rw (given.1, given.2) (
    cut_short c.args.net.now c.args.played.now.journal c.args.played.now.full
    (map g.M.Meter.seen c.args.played.now.meters.items) c.args.answer
    (g.K.Sink.state c.args.out.now) (g.K.Sink.state c.write_text.new.sink) g.K.Sink.takes_memory
    _ c.in_err-write_text.ensures.after)

pub returns-in_err-write_text-clause-no_lines : goal.returns-in_err-write_text-clause-no_lines
returns-in_err-write_text-clause-no_lines g c = λ none. c.in_err-write_text.ensures.no_text
    (none_of_text c.args.net.now c.args.played.now.journal c.args.played.now.full _ c.args.answer
    none)
