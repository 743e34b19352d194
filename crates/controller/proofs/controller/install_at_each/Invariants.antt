use Rattle.std.proofs.Common.{◌≡◌, map, not}
use Rattle.version_update.specs.Exports.{is_over}
use Rattle.controller.specs.Exports.{controller_recorded_boot, controller_install_act}
use Rattle.controller.proofs.ControllerPickedSwitches.{those_below}
use Rattle.controller.proofs.controller.install_at_each.Given as goal

-- the version for those of the switches so far that aren't over
abbrev pub invariant-loop-s : goal.invariant-loop-s
invariant-loop-s l = l.acts.items ≡ map (λ s. controller_install_act s (controller_recorded_boot l.marks s) l.version)
    (those_below (λ known. not (is_over known.phase)) l.marks.switches l.s)
