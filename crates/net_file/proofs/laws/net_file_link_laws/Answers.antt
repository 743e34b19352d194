use Rattle.net_file.proofs.NetFileRowPlaces.{links}
use Rattle.net_file.proofs.laws.net_file_link_laws.Goals as goal

pub returns : goal.returns
returns c = links
