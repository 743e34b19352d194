use Rattle.net_file.proofs.NetFileSoundness.{stated}
use Rattle.net_file.proofs.laws.net_laws.Goals as goal

pub returns-clause-stated : goal.returns-clause-stated
returns-clause-stated c = stated
