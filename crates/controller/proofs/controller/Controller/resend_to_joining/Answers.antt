use Rattle.controller.proofs.ControllerKeptVersions.{versions_within}
use Rattle.controller.proofs.controller.Controller.resend_to_joining.Goals as goal

pub add_missing_controller_installs-requires-clause-versions : goal.add_missing_controller_installs-requires-clause-versions
add_missing_controller_installs-requires-clause-versions c = versions_within c.self.inside.marks
    c.self.inside.versions.items _ c.deref.ensures.value c.self.invariant
