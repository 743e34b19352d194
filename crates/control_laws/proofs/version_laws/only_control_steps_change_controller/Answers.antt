use Rattle.control_laws.proofs.ControlIdleSteps.{others_keep}
use Rattle.control_laws.proofs.version_laws.only_control_steps_change_controller.Goals as goal

pub returns : goal.returns
returns c = others_keep
