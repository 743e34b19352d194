use Rattle.std.proofs.Common.{◌++◌, ◌≡◌, map, take}
use Rattle.controller.specs.Exports.{controller_install_act}
use Rattle.controller.proofs.controller.add_controller_installs.Given as goal

-- the versions so far
abbrev pub invariant-loop-kept : goal.invariant-loop-kept
invariant-loop-kept l = l.acts.items ≡ l.initial.acts.items ++ map (controller_install_act l.s l.boot)
    (take l.kept-index l.versions)
