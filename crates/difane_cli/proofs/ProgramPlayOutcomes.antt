-- What comes of a play, by what became of its text.
use Rattle.base.proofs.Exports.{ForSome, ⊤}
use Rattle.std.proofs.Common.{◌≡◌, ◌⊎◌, Bool, Err, IsTrue, List, None, Ok, Option, Result, Some, arith, inl, inr, is_some, length, refl, subst, sym, take_all, ℕ}
use Rattle.update_machine.specs.Exports.{IsMachinePlay, Item, Net, Setting}
use Rattle.flow_export.specs.Counted.{FlowMeterLaws}
use Rattle.meters.specs.Exports.{SeenMeter}
use Rattle.net_file.specs.Exports.{port_mask}
use Rattle.packet_laws.specs.Exports.{PacketLawsHeldThroughout, PacketLawsHoldSoFar}
use Rattle.difane_cli.specs.Exports.{ProgramAnswerLaws, AreProgramFlowsCounted, ProgramCountsFlows, IsAfterProgramText, IsProgramAnswer, IsProgramQuietVerdict, IsProgramVerdictOnQuiet, ProgramPlayOutcome, Played, ProgramPlayedUnfinished, ProgramPlayWantsMemory, program_asks_quiet, program_gone_records_by, is_program_verdict_asked, is_program_output_made, program_play_text}
use Rattle.command_inputs.specs.Exports.{Inputs, AreCommandPlayInputs, MayPlayCommandInputs, Play, known_command_input_task, command_status_after}
use Rattle.shelf.specs.Exports.{ShelfFiles, SinkState}
use Rattle.shelf.specs.declared.output.SinkError.{SinkError}
use Rattle.shelf.specs.declared.output.SinkError.TheVariants as sink
use Rattle.difane_cli.proofs.ProgramGoodTraces.{good_trace}
use Rattle.difane_cli.proofs.ProgramStatedInputs.{stated_by}
use Rattle.difane_cli.proofs.ProgramQuietVerdicts.{verdict}
use Rattle.command_line.specs.Exports.{Command}
use Rattle.replay.specs.Leavings.{replay_kept_meters, replay_left_in}

-- what the journal of a play is, and what follows
pub played : ProgramAnswerLaws → (command : Command) (files : Option ShelfFiles)
    (inputs : Inputs) (journal : List Item) (full : Option ℕ) → AreCommandPlayInputs command inputs
    → ForSome (known_command_input_task files (Some command)) (λ read. read ≡ Ok (Play inputs))
    → MayPlayCommandInputs inputs → IsMachinePlay inputs.setting inputs.events journal full
    → PacketLawsHeldThroughout inputs.setting journal → IsProgramAnswer command files inputs journal full
played laws command files inputs journal full asked accepted sound play held =
    let whole : PacketLawsHoldSoFar inputs.setting journal = subst (PacketLawsHoldSoFar inputs.setting)
    (take_all (length journal) journal (omega arith)) (held.so_far (length journal)) in record {
      asked = asked;
      stated = stated_by files command inputs accepted;
      accepted = accepted;
      sound = sound;
      play = play;
      run = whole.run;
      causes = whole.causes;
      strong = whole.strong;
      entered = laws.entered inputs.setting inputs.events journal full play;
      held = held;
      works = laws.works inputs.setting inputs.events journal full sound.setting sound.events play;
    }

-- the verdict that was given is the one that is asked for
pub judged : ProgramAnswerLaws → (command : Command) (files : Option ShelfFiles) (inputs : Inputs)
    (journal : List Item) (full : Option ℕ) (net : Net) (given : Option Bool)
    → IsProgramAnswer command files inputs journal full → inputs.setting.net ≡ net
    → is_some given ≡ is_program_verdict_asked (program_asks_quiet inputs.report) full
    → ((setting : Setting) → setting.net ≡ net → IsProgramVerdictOnQuiet setting journal given)
    → IsProgramQuietVerdict (program_asks_quiet inputs.report) inputs.setting journal full given
judged laws command files inputs journal full net given answer own asked decides =
    verdict laws.quiet (program_asks_quiet inputs.report) inputs.setting inputs.events journal full given
    answer.sound.setting answer.sound.events answer.play asked (decides inputs.setting own)

-- memory ran out before an answer was given, and nothing was written
pub unjudged : (command : Command) (files : Option ShelfFiles) (takes_memory : Bool) (inputs : Inputs)
    (journal : List Item) (full : Option ℕ) (taken given : List SeenMeter) (now : SinkState)
    → IsProgramAnswer command files inputs journal full → given ≡ replay_kept_meters inputs.setting.net journal taken
    → IsTrue (is_program_verdict_asked (program_asks_quiet inputs.report) full)
    → ProgramPlayedUnfinished command files takes_memory journal taken given now now
unjudged command files takes_memory inputs journal full taken given now answer kept asked = record {
  inputs = inputs;
  full = full;
  wanted = inr (inl asked);
  played = answer;
  kept = kept;
  answer = None;
  verdict = inl refl;
  written = inl refl;
}

-- flow meters that held nothing count so
counted_so : FlowMeterLaws → (net : Net) (journal : List Item) (taken given : List SeenMeter)
    → given ≡ replay_kept_meters net journal taken → ProgramCountsFlows journal taken given
counted_so laws net journal taken given kept = λ most new. subst (AreProgramFlowsCounted journal) (sym kept)
    (laws.stayed most (port_mask net.switches) (replay_left_in journal) taken new)

-- a journal that was played, and what is to be printed about it, which was written or not
pub told : ProgramAnswerLaws → (command : Command) (files : Option ShelfFiles) (inputs : Inputs)
    (journal : List Item) (full : Option ℕ) (taken given : List SeenMeter) (said : Option Bool) (before now : SinkState)
    (takes_memory : Bool) (written : Result (⊤) SinkError)
    → IsProgramAnswer command files inputs journal full
    → given ≡ replay_kept_meters inputs.setting.net journal taken
    → IsProgramQuietVerdict (program_asks_quiet inputs.report) inputs.setting journal full said
    → IsAfterProgramText (program_play_text inputs.report inputs.setting.net journal full
    (program_gone_records_by inputs.setting.net journal taken) given said)
    (is_program_output_made inputs.report full) takes_memory before now written
    → ProgramPlayOutcome command files takes_memory (command_status_after written full) journal taken given before now
told laws command files inputs journal full taken given said before now takes_memory (Ok done)
    answer kept judged after = ended full (record {
      inputs = inputs;
      played = answer;
      kept = kept;
      counted = counted_so laws.flows inputs.setting.net journal taken given kept;
      answer = said;
      verdict = judged;
      written = record { whole = after.whole; untouched = after.untouched };
      good = good_trace laws.texts inputs journal full (program_gone_records_by inputs.setting.net journal taken)
          given said answer.sound answer.play command answer.asked;
    })
  where
    ended : (full : Option ℕ) → Played command files full journal taken given before now
        → ProgramPlayOutcome command files takes_memory (command_status_after (Ok done) full) journal taken given
        before now
    ended None played = played
    ended (Some row) played = played
told laws command files inputs journal full taken given said before now takes_memory
    (Err sink.Failed) answer kept judged after = record {
      inputs = inputs;
      full = full;
      played = answer;
      kept = kept;
      answer = said;
      verdict = judged;
      written = after.part refl;
    }
told laws command files inputs journal full taken given said before now takes_memory
    (Err sink.NoMemory) answer kept judged after = inr (record {
      inputs = inputs;
      full = full;
      wanted = wanted (after.no_memory refl);
      played = answer;
      kept = kept;
      answer = said;
      verdict = inr judged;
      written = after.some;
    })
  where
    wanted : IsTrue takes_memory ⊎ (IsTrue (is_program_output_made inputs.report full) × (now ≡ before))
        → IsTrue takes_memory ⊎ ProgramPlayWantsMemory inputs.report full
    wanted (inl takes) = inl takes
    wanted (inr (made, same)) = inr (inr made)
