-- What an answer to the question whether the network is quiet says.
use Rattle.std.proofs.Common.{◌≡◌, Bool, List, None, Option, Some, false, is_some, refl, sym, true, true≢false, ℕ}
use Rattle.update_machine.specs.Exports.{Event, IsMachinePlay, IsQuietMachineJournal, IsMachineSetting, Item, Setting}
use Rattle.control_laws.specs.Exports.{AreControlNetworkEvents}
use Rattle.packet_laws.specs.Exports.{PacketLawHoldsBetween}
use Rattle.forwarding_laws.specs.Exports.{HasNetworkComeToRest}
use Rattle.difane_cli.specs.Exports.{IsProgramQuietVerdict, IsProgramVerdictOnQuiet, ProgramQuietVerdictSays, is_program_verdict_asked}

-- what holds between steps, where the network is quiet
abbrev pub QuietLaws : Type 0
QuietLaws = PacketLawHoldsBetween (λ setting journal.
    IsMachineSetting setting → IsQuietMachineJournal setting journal → HasNetworkComeToRest setting journal)

says : QuietLaws → (quiet : Bool) (setting : Setting) (events : List Event) (journal : List Item)
    (full : Option ℕ) (answer : Option Bool) → IsMachineSetting setting → AreControlNetworkEvents setting events
    → IsMachinePlay setting events journal full → is_some answer ≡ is_program_verdict_asked quiet full
    → IsProgramVerdictOnQuiet setting journal answer → ProgramQuietVerdictSays setting journal answer
says laws quiet setting events journal full None is own play asked decides = tt
says laws quiet setting events journal (Some row) (Some answer) is own play asked decides =
    absurd (true≢false asked)
says laws quiet setting events journal None (Some true) is own play asked decides =
    laws.answered setting events journal own play.answers is (decides.0 refl)
says laws quiet setting events journal None (Some false) is own play asked decides =
    λ quiet. true≢false (sym (decides.1 quiet))

-- the answer that decides it
pub verdict : QuietLaws → (quiet : Bool) (setting : Setting) (events : List Event)
    (journal : List Item) (full : Option ℕ) (answer : Option Bool) → IsMachineSetting setting
    → AreControlNetworkEvents setting events → IsMachinePlay setting events journal full → is_some answer ≡ is_program_verdict_asked quiet full
    → IsProgramVerdictOnQuiet setting journal answer → IsProgramQuietVerdict quiet setting journal full answer
verdict laws quiet setting events journal full answer is own play given decides = record {
  asked = given;
  holds = says laws quiet setting events journal full answer is own play given decides;
}
