use Rattle.control_laws.proofs.ControlPieceCauses.{always}
use Rattle.control_laws.proofs.ControlCurrentVersions.{stamps_touched}
use Rattle.control_laws.proofs.version_laws.control_stamps_say_touched.Goals as goal

pub returns : goal.returns
returns c = always _ stamps_touched
