use Rattle.std.proofs.Common.{◌++◌, ◌≡◌, take}
use Rattle.controller.specs.Exports.{controller_missing_installs}
use Rattle.controller.proofs.resending.add_missing_controller_installs.Given as goal

-- those of the versions so far that are missing
abbrev pub invariant-loop-kept : goal.invariant-loop-kept
invariant-loop-kept l = l.acts.items ≡ l.initial.acts.items ++ controller_missing_installs
    (record { marks = l.marks; plans = take l.kept-index l.versions }) l.s l.first
