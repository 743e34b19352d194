use Rattle.std.proofs.Common.{◌≡◌}
use Rattle.update_machine.specs.Exports.{next_travelling, travels_in_journal}
use Rattle.world.specs.Exports.{IsLeastInWorldFrom, world_value}
use Rattle.world.proofs.WorldLeastPacket.{least_from_in, least_travels_in}
use Rattle.world.proofs.WorldViewedParts.{by_view}
use Rattle.world.proofs.world.World.next_travelling.Goals as goal

pub returns-clause-first : goal.returns-clause-first
returns-clause-first c = λ able is_one.
    let own = world_value c.self.inside.parts c.self.inside.is_spent in
    by_view (λ w. c.next.result ≡ next_travelling w.journal) c.self.view_is
    c.self.invariant.refines
    (λ refines. least_travels_in own _ refines (rw is_one at c.next.ensures)) able

pub returns-clause-least : goal.returns-clause-least
returns-clause-least c = let own = world_value c.self.inside.parts c.self.inside.is_spent in
    by_view (λ w. IsLeastInWorldFrom (travels_in_journal w.journal) c.args.from c.next.result) c.self.view_is
    c.self.invariant.refines (λ refines. least_from_in own _ _ refines c.next.ensures)
