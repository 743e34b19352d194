use Rattle.control_laws.proofs.ControlNamesInMessages.{bodies_named}
use Rattle.control_laws.proofs.version_laws.control_bodies_name_what_exists.Goals as goal

pub returns : goal.returns
returns c = bodies_named
