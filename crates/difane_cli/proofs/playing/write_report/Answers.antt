use Rattle.std.proofs.Common.{ap, false, map}
use Rattle.difane_cli.specs.Exports.{program_replay_text}
use Rattle.difane_cli.proofs.ProgramAfterTexts.{text_written}
use Rattle.difane_cli.proofs.playing.write_report.Goals as goal

pub returns-in-Lines : goal.returns-in-Lines
returns-in-Lines g c =
    let played = c.args.played.now in
    let before = g.K.Sink.state c.args.out.now in
    let now = g.K.Sink.state c.write_played.new.out in
    rw c.in-Lines.is (text_written (program_replay_text c.args.net.now played.journal played.full
    (map g.M.Meter.seen played.meters.items) c.args.answer) false g.K.Sink.takes_memory before now
    c.write_played.result c.write_played.ensures.after
    (λ none. ap (λ k. g.K.Sink.state k) (c.write_played.ensures.no_lines none)))

pub returns-in-Flows : goal.returns-in-Flows
returns-in-Flows g c = rw c.in-Flows.is c.write_program_flows.ensures

pub returns-in-Summary : goal.returns-in-Summary
returns-in-Summary g c = rw c.in-Summary.is c.write_program_summary.ensures
