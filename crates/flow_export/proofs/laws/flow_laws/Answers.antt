use Rattle.flow_export.proofs.FlowCountLaws.{laws_hold}
use Rattle.flow_export.proofs.laws.flow_laws.Goals as goal

pub returns : goal.returns
returns c = laws_hold
