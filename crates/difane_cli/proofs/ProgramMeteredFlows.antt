-- What flows tell: the counts of new flow meters are right.
use Rattle.std.proofs.Common.{[], ◌↔◌, ◌∙◌, ◌∷◌, ◌≡◌, All, Bool, List, None, Option, Some, map, refl, subst, sym, true, ℕ}
use Rattle.base.proofs.Exports.{All-cons, All-nil, range_with_len}
use Rattle.command_line.specs.Exports.{Command, Replay, ReplayArguments, command_of_arguments}
use Rattle.command_line.specs.declared.report.Report.{Report}
use Rattle.command_line.specs.declared.report.Report.TheVariants as report
use Rattle.difane_cli.specs.Exports.{AreProgramFlowsCounted, ProgramPlayedByReport, MeteredProgramOutcome, ProgramOutcome, Played, ProgramTellsFlows, WritesProgramFlowCounts, ProgramOutputWrote, program_call_asks_flows, program_gone_records_by, program_most_headers, new_program_meter, new_program_meters, program_play_text}
use Rattle.command_inputs.specs.declared.status.Status.{Status}
use Rattle.command_inputs.specs.declared.status.Status.TheVariants as status
use Rattle.flow_export.specs.Counted.{IsNewFlowMeter}
use Rattle.update_machine.specs.Exports.{Item}
use Rattle.meters.specs.Exports.{SeenMeter}
use Rattle.difane_cli.proofs.ProgramAsksFlows.{TellsIfAny, flows_tell}
use Rattle.shelf.specs.Exports.{ShelfFiles, SinkState}

is_new : (port : ℕ) → IsNewFlowMeter program_most_headers (new_program_meter true port)
is_new port = record {
  kind = record { at_port = refl; recorded = λ held. refl; is_ended = λ held. refl };
  empty = refl;
}

are_new : (ports : List ℕ) → All (IsNewFlowMeter program_most_headers) (map (new_program_meter true) ports)
are_new [] = All-nil (IsNewFlowMeter program_most_headers)
are_new (port ∷ ports) = All-cons (IsNewFlowMeter program_most_headers) _ _ (is_new port) (are_new ports)

plays : (told : Report) (proposes others : Type 0) → told ≡ report.Flows
    → ProgramPlayedByReport told proposes others → others
plays told proposes others is by = subst (λ r. ProgramPlayedByReport r proposes others) is by

told_by : (args : ReplayArguments) (files : Option ShelfFiles) (journal : List Item) (given : List SeenMeter)
    (before now : SinkState) → args.report ≡ report.Flows
    → (played : Played (Replay args) files None journal (new_program_meters true) given before now)
    → WritesProgramFlowCounts played.inputs.setting.net journal before now
told_by args files journal given before now is played =
    let net = played.inputs.setting.net in
    let meters = new_program_meters true in
    let told = played.played.asked.report ∙ is in record {
      written = subst (λ (all : List SeenMeter). ProgramOutputWrote (program_play_text report.Flows net journal None
          (program_gone_records_by net journal meters) all played.answer) before now) played.kept
          (subst (λ (r : Report). ProgramOutputWrote (program_play_text r net journal None (program_gone_records_by net journal meters)
          given played.answer) before now) told played.written);
      counted = subst (AreProgramFlowsCounted journal) played.kept
          (played.counted program_most_headers (are_new (range_with_len 0 64)));
    }

told_of : (texts : List (List ℕ)) (command : Option Command) → command_of_arguments texts ≡ command
    → (files : Option ShelfFiles) (takes_memory : Bool) (journal : List Item) (given : List SeenMeter)
    (before now : SinkState) → TellsIfAny command → ¬ (command ≡ None)
    → ProgramOutcome command files takes_memory status.Ok journal (new_program_meters true) given before now
    → ProgramTellsFlows texts files journal before now
told_of texts None is files takes_memory journal given before now tells known outcome =
    absurd (known refl)
told_of texts (Some (Replay args)) is files takes_memory journal given before now tells known outcome =
    let played = plays args.report _ _ tells outcome in record {
      command = Replay args;
      asked = is;
      inputs = played.inputs;
      played = played.played;
      flows = told_by args files journal given before now tells played;
    }
told_of texts (Some _) is files takes_memory journal given before now tells known outcome =
    absurd tells

-- what `run` comes to with meters that are seen as the new ones
pub come_to : (texts : List (List ℕ)) (files : Option ShelfFiles) (takes_memory : Bool) (status : Status)
    (journal : List Item) (taken given : List SeenMeter) (before now : SinkState)
    → taken ≡ new_program_meters (program_call_asks_flows texts)
    → ProgramOutcome (command_of_arguments texts) files takes_memory status journal taken given before now
    → MeteredProgramOutcome texts files takes_memory status journal before now
come_to texts files takes_memory status journal taken given before now are outcome = (
  given,
  subst (λ (all : List SeenMeter).
      ProgramOutcome (command_of_arguments texts) files takes_memory status journal all given before now) are outcome,
)

-- and what the records count, if `flows` is asked for and done
pub flows_told : (texts : List (List ℕ)) (files : Option ShelfFiles) (takes_memory : Bool)
    (ended : Status) (journal : List Item) (before now : SinkState)
    → MeteredProgramOutcome texts files takes_memory ended journal before now
    → (ended ≡ status.Words) ↔ (command_of_arguments texts ≡ None)
    → program_call_asks_flows texts ≡ true → ended ≡ status.Ok → ProgramTellsFlows texts files journal before now
flows_told texts files takes_memory ended journal before now outcome words asks done = told_of texts
    (command_of_arguments texts) refl files takes_memory journal outcome.0 before now (flows_tell texts asks)
    (λ none. absurd (cc (sym done ∙ words.1 none))) (subst (λ (b : Bool). ProgramOutcome (command_of_arguments texts)
    files takes_memory status.Ok journal (new_program_meters b) outcome.0 before now) asks
    (subst (λ (s : Status). ProgramOutcome (command_of_arguments texts) files takes_memory s journal
    (new_program_meters (program_call_asks_flows texts)) outcome.0 before now) done outcome.1))
