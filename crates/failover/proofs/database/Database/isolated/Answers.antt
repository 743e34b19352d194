use Rattle.failover.proofs.FailoverKnownLinks.{isolated_answer, isolated_is, named_links_held}
use Rattle.failover.proofs.database.Database.isolated.Goals as goal

pub returns-clause-value : goal.returns-clause-value
returns-clause-value c = rw (← c.self.view_is)
    (isolated_is c.self.inside.adverts c.args.at c.args.target c.args.near c.args.down.now
    c.set_own_link_state.new.neighbours _ (named_links_held c.self.inside.adverts c.self.inside.named c.args.at
    c.args.near _ c.self.invariant c.set_own_link_state.ensures) c.is_linkless.ensures c.if-target-at.false)

pub returns-clause-isolated : goal.returns-clause-isolated
returns-clause-isolated c = isolated_answer c.args.self.now c.args.at c.args.target c.args.near
    c.args.down.now _ (rw (← c.self.view_is) c.self.invariant.by_origin.places)
    (returns-clause-value c)
