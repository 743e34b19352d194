use Rattle.std.proofs.Common.{◌∙◌, arith, refl}
use Rattle.base.proofs.Exports.{on_err}
use Rattle.world_log.proofs.LogLosses.{lost_all, lost_more, lost_part, lost_within, lost_written, none_lost}
use Rattle.world_log.proofs.log.Log.lose_at.Goals as goal

pub loop-packet-init : goal.loop-packet-init
loop-packet-init c =
    (none_lost c.args.self.now.travelling c.args.switch c.args.self.now.journal, refl)

pub loop-packet-preserved : goal.loop-packet-preserved
loop-packet-preserved c = (
  lost_more _ _ _ _ _ _ c.loop-packet.invariant.0 c.in-Some.packet c.in-Some.ensures
      c.lose.new.self.journal c.lose.new.self.travelling c.in_ok-lose.ensures.written
      c.in_ok-lose.ensures.lost,
  c.lose.ensures.unsent ∙ c.loop-packet.invariant.1,
)

pub loop-packet-smaller : goal.loop-packet-smaller
loop-packet-smaller c =
    let within = lost_within _ _ _ _ _ _ c.loop-packet.invariant.0 c.in-Some.packet
    c.in-Some.ensures in
    omega (arith, within, c.in-Some.ensures.0)

pub returns-in_err-lose-clause-part : goal.returns-in_err-lose-clause-part
returns-in_err-lose-clause-part c = on_err c.from_residual.result
    (rw c.in_err-lose.ensures.unchanged (lost_part _ _ _ _ _ _ c.loop-packet.invariant.0))

pub returns-in_err-lose-clause-left : goal.returns-in_err-lose-clause-left
returns-in_err-lose-clause-left c = on_err c.from_residual.result
    (rw c.in_err-lose.ensures.unchanged (c.loop-packet.from, c.loop-packet.invariant.0))

pub returns-in_err-lose-clause-unsent : goal.returns-in_err-lose-clause-unsent
returns-in_err-lose-clause-unsent c = c.lose.ensures.unsent ∙ c.loop-packet.invariant.1

pub returns-clause-written : goal.returns-clause-written
returns-clause-written c =
    lost_written _ _ _ _ _ _ c.loop-packet.invariant.0 (rw c.in_default.is at c.next_at.ensures)

pub returns-clause-lost : goal.returns-clause-lost
returns-clause-lost c =
    lost_all _ _ _ _ _ _ c.loop-packet.invariant.0 (rw c.in_default.is at c.next_at.ensures)
