use Rattle.net_file.proofs.NetFileRowPlaces.{ports}
use Rattle.net_file.proofs.laws.net_port_laws.Goals as goal

pub returns : goal.returns
returns c = ports
