use Rattle.std.proofs.Common.{◌∙◌, ◌≡◌}
use Rattle.update_machine.specs.Exports.{is_waiting, next_waiting}
use Rattle.world.specs.Exports.{IsLeastInWorldFrom, world_value}
use Rattle.world.proofs.WorldLeastMessage.{least_from_in, least_waits_in}
use Rattle.world.proofs.WorldViewedParts.{by_view}
use Rattle.world.proofs.world.World.next_waiting.Goals as goal

pub returns-clause-first : goal.returns-clause-first
returns-clause-first c = λ able is_one.
    let own = world_value c.self.inside.parts c.self.inside.is_spent in
    let is = rw is_one at c.next_waiting.ensures in
    by_view (λ w. c.next_waiting.result ≡ next_waiting w.journal) c.self.view_is
    c.self.invariant.refines (λ refines. is ∙ least_waits_in own refines) able

pub returns-clause-least : goal.returns-clause-least
returns-clause-least c = let own = world_value c.self.inside.parts c.self.inside.is_spent in
    by_view (λ w. IsLeastInWorldFrom (is_waiting w.journal) c.args.from c.next_waiting.result)
    c.self.view_is c.self.invariant.refines
    (λ refines. rw c.next_waiting.ensures (least_from_in own refines c.args.from))
