use Rattle.std.proofs.Common.{◌∙◌, List, ap, map, subst, true, ℕ}
use Rattle.difane_cli.specs.Exports.{IsAfterProgramText, program_flow_text}
use Rattle.difane_cli.proofs.ProgramAfterTexts.{text_written}
use Rattle.difane_cli.proofs.playing.write_program_flows.Goals as goal

pub returns-in-Ok : goal.returns-in-Ok
returns-in-Ok g c =
    let before = g.K.Sink.state c.args.out.now in
    let now = g.K.Sink.state c.write_whole.new.sink in
    let is = c.deref-in-Ok.ensures.value ∙ c.in-Ok.ensures ∙ ap (λ (meters : List g.row.M.Denot).
    program_flow_text c.args.played.now.gone (map g.M.Meter.seen meters)) c.deref.ensures.value in
    rw c.in-None.is
    (subst (λ (text : List ℕ). IsAfterProgramText text true g.K.Sink.takes_memory before now
    c.write_whole.result) is (text_written c.deref-in-Ok.result.now true g.K.Sink.takes_memory
    before now c.write_whole.result c.write_whole.ensures.after
    (λ none. ap (λ k. g.K.Sink.state k) (c.write_whole.ensures.no_bytes none).1)))
