use Rattle.std.proofs.Common.{[]}
use Rattle.packet_laws.proofs.PacketsAtRest.{reached, ways_of_all}
use Rattle.packet_laws.proofs.laws.packet_items_have_causes.Goals as goal

pub returns : goal.returns
returns c = reached _ (λ setting journal is have. ways_of_all setting [] journal have)
