-- What a world wrote so far.
use Rattle.std.proofs.Common.{◌++◌, ◌≡◌, List, append_assoc, length, ℕ}
use Rattle.update_machine.specs.Exports.{IsMachineSetting, Item, Setting, Step, piece}
use Rattle.packet_laws.specs.Exports.{PacketLawHoldsBetween, PacketLawsHoldSoFar, ArePacketsKeptBehind}
use Rattle.control_laws.specs.Exports.{ControlLawHoldsReached}
use Rattle.refinement.proofs.RefinedSteps.{reached_more}
use Rattle.steps.specs.Exports.{IsStep}
use Rattle.world.specs.Exports.{WorldRefinesJournal, WorldValue, world_setting_at}
use Rattle.world_log.specs.Exports.{IsLogPart}

-- the law of what is written so far, and that of what is kept after steps
abbrev pub SoFarLaw : Type 0
SoFarLaw = ControlLawHoldsReached (λ setting journal. IsMachineSetting setting → PacketLawsHoldSoFar setting journal)

abbrev pub BehindLaw : Type 0
BehindLaw = PacketLawHoldsBetween (λ setting journal. IsMachineSetting setting → ArePacketsKeptBehind setting journal)

pub so_far_in : SoFarLaw → (world : WorldValue) → WorldRefinesJournal world
    → PacketLawsHoldSoFar (world_setting_at world) world.journal
so_far_in law world refines =
    law.reached (world_setting_at world) world.journal refines.reached refines.sound

pub kept_in : BehindLaw → (world : WorldValue) → WorldRefinesJournal world
    → ArePacketsKeptBehind (world_setting_at world) world.journal
kept_in law world refines =
    law.reached (world_setting_at world) world.journal refines.reached refines.sound

-- a part of a step's piece is written
pub part_so_far : SoFarLaw → (world : WorldValue) (row : ℕ) (step : Step) (after : List Item)
    → WorldRefinesJournal world → IsStep world.net (length world.files) step
    → IsLogPart world.journal (piece (world_setting_at world) world.journal row step) after
    → PacketLawsHoldSoFar (world_setting_at world) after
part_so_far law world row step after refines own part =
    let setting : Setting = world_setting_at world in
    let journal = world.journal in
    law.within setting after part.rest
    (rw (part.grown, append_assoc journal part.written part.rest, ← part.split)
    (reached_more setting journal row step refines.reached own))
    refines.sound

-- all of it is
pub step_so_far : SoFarLaw → (world : WorldValue) (row : ℕ) (step : Step) (after : List Item)
    → WorldRefinesJournal world → IsStep world.net (length world.files) step
    → after ≡ world.journal ++ piece (world_setting_at world) world.journal row step
    → PacketLawsHoldSoFar (world_setting_at world) after
step_so_far law world row step after refines own written =
    let setting : Setting = world_setting_at world in
    law.reached setting after
    (rw written (reached_more setting world.journal row step refines.reached own)) refines.sound
