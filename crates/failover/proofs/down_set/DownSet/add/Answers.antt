use Rattle.failover.proofs.FailoverLinkSets.{with_link_is_link_set, with_link-rows, link_set_has-with_link}
use Rattle.failover.proofs.down_set.DownSet.add.Goals as goal

pub invariant_of-self : goal.invariant_of-self
invariant_of-self c = rw (with_link-rows _ c.args.one c.args.two _ _ _ c.min-low.ensures
    c.max-high.ensures c.only_if.ensures) (with_link_is_link_set _ c.args.one c.args.two
    c.self.invariant c.requires.different c.requires.first c.requires.second)

pub returns-clause-value : goal.returns-clause-value
returns-clause-value c = rw (← c.self.view_is) (with_link-rows _ c.args.one c.args.two _ _ _
    c.min-low.ensures c.max-high.ensures c.only_if.ensures)

pub returns-clause-links : goal.returns-clause-links
returns-clause-links c = rw (returns-clause-value c)
    (rw (← c.self.view_is) (λ x y. link_set_has-with_link _ c.args.one c.args.two x y c.self.invariant
    c.requires.first c.requires.second))
