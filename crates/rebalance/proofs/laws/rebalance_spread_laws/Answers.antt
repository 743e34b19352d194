use Rattle.rebalance.proofs.RebalanceSpread.{spread_laws_hold}
use Rattle.rebalance.proofs.laws.rebalance_spread_laws.Goals as goal

pub returns : goal.returns
returns c = spread_laws_hold
