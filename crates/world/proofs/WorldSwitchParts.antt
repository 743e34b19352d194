-- The switches over the parts of a world, on which a step was begun.
use Rattle.std.proofs.Common.{◌<◌, ◌≤◌, arith, length, vec_len, ℕ}
use Rattle.steps.specs.Exports.{StepSwitchExists}
use Rattle.update_machine.specs.Exports.{Step}
use Rattle.world.specs.Exports.{WorldStepHasBegun}
use Rattle.world.specs.declared.parts.WorldParts.{WorldParts}
use Rattle.refinement.proofs.RefinedNetworkSwitches.{few_switches, switch_known, switch_there}

-- a switch that the step names is there
pub switch_in : {step : Step} {self : WorldParts} (s : ℕ) → WorldStepHasBegun step self
    → StepSwitchExists self.files.net s → s < length self.switches.items
switch_in {self} s begun own = switch_there begun.begins.ready.refines s own

pub place_in : {step : Step} {self : WorldParts} (s : ℕ) → WorldStepHasBegun step self
    → StepSwitchExists self.files.net s → s < vec_len self.switches
place_in {self} s begun own =
    let there = switch_in s begun own in omega (arith, there, self.switches.ok.0)

-- and the controller knows it
pub known_in : {step : Step} {self : WorldParts} (s : ℕ) → WorldStepHasBegun step self
    → StepSwitchExists self.files.net s → s < length self.controller.marks.switches
known_in {self} s begun own = switch_known begun.begins.ready.refines s own

-- each has a place in a mask
pub few_in : {step : Step} {self : WorldParts} → WorldStepHasBegun step self → length self.switches.items ≤ 64
few_in {self} begun = few_switches begun.begins.ready.refines
