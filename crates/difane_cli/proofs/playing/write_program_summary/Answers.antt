use Rattle.std.proofs.Common.{◌∙◌, List, ap, subst, true, ℕ}
use Rattle.journal_reports.specs.Exports.{summary_text}
use Rattle.difane_cli.specs.Exports.{IsAfterProgramText}
use Rattle.difane_cli.proofs.ProgramAfterTexts.{text_written}
use Rattle.difane_cli.proofs.playing.write_program_summary.Goals as goal

pub returns-in-Ok : goal.returns-in-Ok
returns-in-Ok g c =
    let before = g.K.Sink.state c.args.out.now in
    let now = g.K.Sink.state c.write_whole.new.sink in
    let is = c.deref.ensures.value ∙ c.in-Ok.ensures
    ∙ ap (λ s. summary_text s) c.summarize.ensures in
    rw c.in-None.is
    (subst (λ (text : List ℕ). IsAfterProgramText text true g.K.Sink.takes_memory before now
    c.write_whole.result) is (text_written c.deref.result.now true g.K.Sink.takes_memory before now
    c.write_whole.result c.write_whole.ensures.after
    (λ none. ap (λ k. g.K.Sink.state k) (c.write_whole.ensures.no_bytes none).1)))
