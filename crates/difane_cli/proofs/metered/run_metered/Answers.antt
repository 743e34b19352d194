use Rattle.std.proofs.Common.{◌∙◌, ap}
use Rattle.base.proofs.Exports.{range_with_len, seen_are}
use Rattle.command_line.specs.Exports.{argument_texts}
use Rattle.difane_cli.proofs.ProgramMeteredFlows.{come_to, flows_told}
use Rattle.difane_cli.specs.Exports.{new_program_meter, new_program_meters}
use Rattle.difane_cli.proofs.metered.run_metered.Goals as goal

pub returns-clause-outcome : goal.returns-clause-outcome
returns-clause-outcome g c = let ended = c.run-finished.result in
    come_to (argument_texts c.args.words.now) (g.F.Shelf.state c.args.shelf.now).files
    g.K.Sink.takes_memory ended.status ended.journal _ _ (g.K.Sink.state c.args.out.now)
    (g.K.Sink.state c.run-finished.new.out)
    (seen_are _ (new_program_meter c.program_call_asks_flows-counts_flows.result) (range_with_len 0 64)
    c.in_ok-meters.meters.items c.in_ok-meters.ensures
    ∙ ap new_program_meters c.program_call_asks_flows-counts_flows.ensures)
    c.run-finished.ensures.outcome

pub returns-clause-flows : goal.returns-clause-flows
returns-clause-flows g c = λ asks done. let ended = c.run-finished.result in
    flows_told (argument_texts c.args.words.now) (g.F.Shelf.state c.args.shelf.now).files
    g.K.Sink.takes_memory ended.status ended.journal (g.K.Sink.state c.args.out.now)
    (g.K.Sink.state c.run-finished.new.out) (returns-clause-outcome g c)
    c.run-finished.ensures.words asks done
