use Rattle.std.proofs.Common.{◌+◌, arith, length, refl}
use Rattle.base.proofs.Exports.{on_err}
use Rattle.world_log.proofs.LogMessages.{done_begun, may_as_acts, noting_all, noting_few, noting_more, noting_spelled, noting_stopped, posts_as_acts, sent_as_acts}
use Rattle.world_log.proofs.log.Log.send_all.Goals as goal

pub loop-message-init : goal.loop-message-init
loop-message-init c = let came = c.into_iter-message-iterator.ensures.into_iter_gives in record {
  done = done_begun c.args.self.now.journal c.args.self.now.bag;
  come = record { parts = came.0; many = omega (arith, came.1, c.args.messages.ok.0) };
  travelling = refl;
}

pub send-requires : goal.send-requires
send-requires c =
    let may = may_as_acts c.args.self.now.bag c.args.messages.items c.requires in record {
      spelling = noting_spelled _ _ _ _ _ _ _ c.loop-message.invariant _ c.in-Some.message
          c.in-Some.ensures.steps.0 may;
      few = omega (
        arith,
        noting_few _ _ _ _ _ _ _ c.loop-message.invariant _ c.in-Some.message
            c.in-Some.ensures.steps.0 may,
      );
    }

pub loop-message-preserved : goal.loop-message-preserved
loop-message-preserved c = noting_more _ _ _ _ _ _ _ c.loop-message.invariant _ c.in-Some.message
    c.in-Some.ensures.steps.0 _ c.send.new.self c.in-Some.ensures.steps.1
    c.in_ok-send.ensures.written c.in_ok-send.ensures.posted c.in_ok-send.ensures.travelling

pub returns-in_err-send-clause-part : goal.returns-in_err-send-clause-part
returns-in_err-send-clause-part c = on_err c.from_residual.result
    (rw (sent_as_acts (length c.args.self.now.bag + 1) c.args.messages.items) at (noting_stopped _ _
    _ _ _ _ _ c.loop-message.invariant c.send.new.self.journal c.in_err-send.ensures.unwritten))

pub returns-clause-written : goal.returns-clause-written
returns-clause-written c = rw (sent_as_acts (length c.args.self.now.bag + 1) c.args.messages.items)
    at (noting_all _ _ _ _ _ _ _ c.loop-message.invariant c.in-None.ensures.steps.0).written

pub returns-clause-posted : goal.returns-clause-posted
returns-clause-posted c = rw (posts_as_acts c.args.messages.items) at
    (noting_all _ _ _ _ _ _ _ c.loop-message.invariant c.in-None.ensures.steps.0).posted
