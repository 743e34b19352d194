use Rattle.world.specs.Exports.{WorldRefinesJournal}
use Rattle.world.proofs.WorldViewedParts.{by_view}
use Rattle.world.proofs.world.World.refines.Goals as goal

pub returns : goal.returns
returns c = by_view WorldRefinesJournal c.self.view_is c.self.invariant.refines (λ refines. refines)
