use Rattle.net_file.proofs.NetFileRowPlaces.{names}
use Rattle.net_file.proofs.laws.switch_name_laws.Goals as goal

pub returns : goal.returns
returns c = names
