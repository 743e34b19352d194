use Rattle.std.proofs.Common.{◌∙◌, arith, sym}
use Rattle.failover.proofs.FailoverLinkSets.{link_set_has-first, link_set_has-second, link_set_has-above}
use Rattle.failover.proofs.down_set.DownSet.has.Goals as goal
use Rattle.failover.proofs.down_set.DownSet.has.Goals.{then-one-ge-MAX_SWITCHES-via-then-one-ge-MAX_SWITCHES, then-one-ge-MAX_SWITCHES-via-else-one-ge-MAX_SWITCHES+then-two-ge-MAX_SWITCHES}

pub returns-then-one-ge-MAX_SWITCHES-clause-link : goal.returns-then-one-ge-MAX_SWITCHES-clause-link
returns-then-one-ge-MAX_SWITCHES-clause-link c = rw (← c.self.view_is)
    (elim c.then-one-ge-MAX_SWITCHES.branch [
      | then-one-ge-MAX_SWITCHES-via-then-one-ge-MAX_SWITCHES w ↦
          link_set_has-above c.self.inside.masks c.args.one c.args.two c.self.invariant (omega arith)
      | then-one-ge-MAX_SWITCHES-via-else-one-ge-MAX_SWITCHES+then-two-ge-MAX_SWITCHES w ↦
          link_set_has-above c.self.inside.masks c.args.one c.args.two c.self.invariant (omega arith)
    ])

pub returns-then-has-clause-link : goal.returns-then-has-clause-link
returns-then-has-clause-link c = rw (← c.self.view_is) (c.if-has.true
    ∙ link_set_has-first c.self.inside.masks c.args.one c.args.two c.self.invariant
    (sym c.has.ensures.has ∙ c.if-has.true))

pub returns-else-has-clause-link : goal.returns-else-has-clause-link
returns-else-has-clause-link c = rw (← c.self.view_is) (c.has-else-has.ensures.has
    ∙ link_set_has-second c.self.inside.masks c.args.one c.args.two c.self.invariant
    (sym c.has.ensures.has ∙ c.if-has.false))
