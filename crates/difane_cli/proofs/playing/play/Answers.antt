use Rattle.std.proofs.Common.{◌∙◌, ◌≡◌, Bool, IsTrue, List, Ok, Option, Some, ap, inr, map, subst, sym, ℕ}
use Rattle.base.proofs.Exports.{ForSome}
use Rattle.shelf.specs.Exports.{ShelfFiles}
use Rattle.command_line.specs.Exports.{Command}
use Rattle.meters.specs.Exports.{gone_meter_records, kept_meters}
use Rattle.meters.specs.declared.flows.FlowRecord.{FlowRecord}
use Rattle.update_machine.specs.Exports.{Event, IsMachinePlay, Net}
use Rattle.replay.specs.Leavings.{replay_left_in, replay_kept_meters}
use Rattle.difane_cli.specs.Exports.{ProgramPlayOutcome, ProgramStatusEndsWork, IsAfterProgramText, ProgramMemoryRanOut, program_gone_records_by, is_program_verdict_asked, is_program_output_made, program_play_text}
use Rattle.command_inputs.specs.Exports.{AreCommandPlayInputs, Play, command_status_after, known_command_input_task, task_inputs_stated}
use Rattle.command_inputs.specs.declared.status.Status.TheVariants.{NoMemory}
use Rattle.difane_cli.proofs.ProgramPlayOutcomes.{judged, played, told, unjudged}
use Rattle.difane_cli.proofs.ProgramStatus.{after_work, by_failed, by_memory, of_failed, on_err, out_of_judging, out_of_writing}
use Rattle.difane_cli.proofs.playing.play.Goals as goal
use Rattle.difane_cli.proofs.playing.play.Goals.{After-drop-events-2, After-write_report, in-Err, in-Ok-write_report}
use Rattle.difane_cli.proofs.playing.play.Given.{Over}

-- what the play comes to, by what became of its text
outcome_of : (g : Over) (c : After-write_report g) (command : Command) (files : Option ShelfFiles)
    → AreCommandPlayInputs command (task_inputs_stated c.args.inputs)
    → ForSome (known_command_input_task files (Some command))
    (λ read. read ≡ Ok (Play (task_inputs_stated c.args.inputs)))
    → ProgramPlayOutcome command files g.K.Sink.takes_memory
    (command_status_after c.write_report.result c.in-Ok.played.full) c.in-Ok.played.journal
    (map g.M.Meter.seen c.args.meters.items) (map g.M.Meter.seen c.in-Ok.played.meters.items)
    (g.K.Sink.state c.args.out.now) (g.K.Sink.state c.write_report.new.out)
outcome_of g c command files asked read = let inputs = task_inputs_stated c.args.inputs in
    let full = c.in-Ok.played.full in
    let journal = c.in-Ok.played.journal in
    let said = c.in-Ok-judge_quiet_network.answer in
    let laws = c.program_answer_laws.ensures in
    let play = subst (λ (events : List Event). IsMachinePlay inputs.setting events journal full)
    c.deref.ensures.value c.in-Ok.ensures.play in
    let answer = played laws command files inputs journal full asked read c.requires.ready.sound play
    c.in-Ok.ensures.held in
    let verdict = judged laws command files inputs journal full c.args.inputs.net said answer
    c.requires.ready.net
    (c.in-Ok-judge_quiet_network.ensures.asked ∙ ap (λ q. is_program_verdict_asked q full) c.program_asks_quiet.ensures)
    c.in-Ok-judge_quiet_network.ensures.decides in
    let taken = map g.M.Meter.seen c.args.meters.items in
    let given = map g.M.Meter.seen c.in-Ok.played.meters.items in
    let before = g.K.Sink.state c.args.out.now in
    let now = g.K.Sink.state c.write_report.new.out in
    let written = c.write_report.result in
    let in_memory = is_program_output_made inputs.report full in
    let takes_memory = g.K.Sink.takes_memory in
    let kept = c.in-Ok.ensures.kept
    ∙ ap (λ (ports : ℕ). kept_meters ports (replay_left_in journal) taken) c.port_mask.ensures
    ∙ ap (λ (net : Net). replay_kept_meters net journal taken) (sym c.requires.ready.net) in
    let gone = c.in-Ok.ensures.gone
    ∙ ap (λ (ports : ℕ). gone_meter_records ports (replay_left_in journal) taken) c.port_mask.ensures in
    let after = subst (λ (net : Net). IsAfterProgramText (program_play_text inputs.report net journal full
    (program_gone_records_by net journal taken) given said) in_memory takes_memory before now written)
    (sym c.requires.ready.net) (subst (λ (records : List FlowRecord). IsAfterProgramText
    (program_play_text inputs.report c.args.inputs.net journal full records given said) in_memory
    takes_memory before now written) gone c.write_report.ensures) in
    told laws command files inputs journal full taken given said before now takes_memory written answer
    kept verdict after

ends_of : (g : Over) (c : After-write_report g)
    → ProgramStatusEndsWork (command_status_after c.write_report.result c.in-Ok.played.full)
    (g.K.Sink.state c.args.out.now) (g.K.Sink.state c.write_report.new.out)
ends_of g c = let written = c.write_report.result in
    let full = c.in-Ok.played.full in
    let after = c.write_report.ensures in record {
      worked = after_work written full;
      failed = λ is. after.failed (by_failed written full is);
      calm = λ not. after.calm (λ is. not (of_failed written full is));
      faults = after.faults;
    }

memory_of : (g : Over) (c : After-write_report g) (command : Command)
    → AreCommandPlayInputs command (task_inputs_stated c.args.inputs)
    → command_status_after c.write_report.result c.in-Ok.played.full ≡ NoMemory
    → ProgramMemoryRanOut (Some command) g.K.Sink.takes_memory c.in-Ok.played.journal
    (g.K.Sink.state c.args.out.now) (g.K.Sink.state c.write_report.new.out)
memory_of g c command own is = out_of_writing command (task_inputs_stated c.args.inputs)
    c.in-Ok.played.full g.K.Sink.takes_memory _ _ _ own
    (c.write_report.ensures.no_memory (by_memory c.write_report.result c.in-Ok.played.full is))

-- its status is by what became of its text
status_of : (g : Over) (c : After-drop-events-2 g) → c.match-write_report.status
    ≡ command_status_after c.write_report.result c.in-Ok.played.full
status_of g c = let full = c.in-Ok.played.full in
    elim c.match-write_report.branch [
      | in-Ok-write_report w ↦ w.status-is ∙ w.written-status.ensures
          ∙ ap (λ result. command_status_after result full) (sym w.in-Ok-write_report.is)
      | in-Err w ↦ w.status-is ∙ w.from-status.ensures
          ∙ ap (λ result. command_status_after result full) (sym w.in-Err.is)
    ]

pub returns-clause-outcome : goal.returns-clause-outcome
returns-clause-outcome g c = λ command files asked read. rw (status_of g c) (outcome_of g
    (goal.at.returns-clause-outcome g c).After-write_report command files asked read)

pub returns-clause-ended : goal.returns-clause-ended
returns-clause-ended g c = rw (status_of g c) (ends_of g (goal.at.returns-clause-ended g c).After-write_report)

pub returns-clause-no_memory : goal.returns-clause-no_memory
returns-clause-no_memory g c = λ command own is. memory_of g
    (goal.at.returns-clause-no_memory g c).After-write_report command own (rw (status_of g c) at is)

pub returns-in_default-judge_quiet_network-clause-outcome : goal.returns-in_default-judge_quiet_network-clause-outcome
returns-in_default-judge_quiet_network-clause-outcome g c = λ command files asked read.
    let inputs = task_inputs_stated c.args.inputs in
    let full = c.in-Ok.played.full in
    let journal = c.in-Ok.played.journal in
    let laws = c.program_answer_laws.ensures in
    let play = subst (λ (events : List Event). IsMachinePlay inputs.setting events journal full)
    c.deref.ensures.value c.in-Ok.ensures.play in
    let answer = played laws command files inputs journal full asked read c.requires.ready.sound play
    c.in-Ok.ensures.held in
    let kept = c.in-Ok.ensures.kept ∙ ap (λ (ports : ℕ). kept_meters ports (replay_left_in journal)
    (map g.M.Meter.seen c.args.meters.items)) c.port_mask.ensures in
    let wants = on_err c.judge_quiet_network.result _ c.judge_quiet_network.ensures.wants c.in_default-judge_quiet_network.not-Ok in
    inr (unjudged command files g.K.Sink.takes_memory inputs journal full
    (map g.M.Meter.seen c.args.meters.items) (map g.M.Meter.seen c.in-Ok.played.meters.items)
    (g.K.Sink.state c.args.out.now) answer (rw c.requires.ready.net kept)
    (subst (λ (asked : Bool). IsTrue (is_program_verdict_asked asked full)) c.program_asks_quiet.ensures wants))

pub returns-in_default-judge_quiet_network-clause-no_memory : goal.returns-in_default-judge_quiet_network-clause-no_memory
returns-in_default-judge_quiet_network-clause-no_memory g c = λ command own is. let full = c.in-Ok.played.full in
    let wants = on_err c.judge_quiet_network.result _ c.judge_quiet_network.ensures.wants c.in_default-judge_quiet_network.not-Ok in
    out_of_judging command (task_inputs_stated c.args.inputs) full g.K.Sink.takes_memory _ _ own
    (subst (λ (asked : Bool). IsTrue (is_program_verdict_asked asked full)) c.program_asks_quiet.ensures wants)
