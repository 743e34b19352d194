-- The switches of a world are those of its network.
use Rattle.std.proofs.Common.{◌<◌, ◌∙◌, ◌≡◌, ◌≤◌, List, arith, get_or, length, ℕ}
use Rattle.update_machine.specs.Exports.{Item, Setting}
use Rattle.steps.specs.Exports.{StepSwitchExists}
use Rattle.switch_core.specs.Exports.{SwitchValue}
use Rattle.refinement.specs.Exports.{RefinedNetworkState, RefineJournal, refined_switch_of}

module _ {setting : Setting} {journal : List Item} {state : RefinedNetworkState}
    (refines : RefineJournal setting journal state) where
  -- a switch of the network is there
  pub switch_there : (s : ℕ) → StepSwitchExists setting.net s → s < length state.switches
  switch_there s own = omega (arith, own, refines.many)

  -- the controller knows it
  pub switch_known : (s : ℕ) → StepSwitchExists setting.net s → s < length state.controller.marks.switches
  switch_known s own = omega (arith, own, refines.controller.marks.many)

  -- it is as the journal says
  pub switch_is : (s : ℕ) (w : SwitchValue) → StepSwitchExists setting.net s
      → w ≡ get_or state.switches s w → w ≡ refined_switch_of setting journal s
  switch_is s w own its = its ∙ refines.each s w (omega (arith, own, refines.many))

  pub few_switches : length state.switches ≤ 64
  few_switches = omega (arith, refines.many, refines.sound.net.few_switches)
