use Rattle.version_update.proofs.VersionOpenings.{opened-bounded}
use Rattle.version_update.proofs.ledger.MarksLedger.open_joining.Goals as goal
use Rattle.base.proofs.Exports.{take_put_back}

pub invariant_of-self : goal.invariant_of-self
invariant_of-self c =
    let front = take_put_back c.self.inside.number c.self.inside.switches
    c.open_if_acked.new.switches c.open_if_acked.auto.switches in (
      c.self.invariant.0,
      rw (front, c.open_if_acked.ensures.opened) (opened-bounded _ c.self.invariant.1),
    )
