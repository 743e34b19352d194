use Rattle.std.proofs.Common.{◌∙◌, arith, map-id, refl, subst, sym}
use Rattle.world_log.specs.Exports.{LogMayNote}
use Rattle.world_log.proofs.LogMessages.{AreDone, done_begun, noting_all, noting_failed, noting_few, noting_more, noting_spelled, noting_stopped}
use Rattle.world_log.proofs.log.Log.note_acts.Goals as goal

pub loop-act-init : goal.loop-act-init
loop-act-init c = let came = c.into_iter-act-iterator.ensures.into_iter_gives in record {
  done = done_begun c.args.self.now.journal c.args.self.now.bag;
  come = record { parts = came.0; many = omega (arith, came.1, c.args.acts.ok.0) };
  travelling = refl;
}

pub note-requires : goal.note-requires
note-requires c =
    let may = subst (LogMayNote c.args.self.now.bag) (sym (map-id c.args.acts.items)) c.requires in
    record {
      few = noting_few _ _ _ _ _ _ _ c.loop-act.invariant _ c.in-Some.act
          c.in-Some.ensures.steps.0 may;
      spelled = noting_spelled _ _ _ _ _ _ _ c.loop-act.invariant _ c.in-Some.act
          c.in-Some.ensures.steps.0 may;
    }

pub loop-act-preserved : goal.loop-act-preserved
loop-act-preserved c = noting_more _ _ _ _ _ _ _ c.loop-act.invariant _ c.in-Some.act
    c.in-Some.ensures.steps.0 _ c.note.new.self c.in-Some.ensures.steps.1
    c.in_ok-note.ensures.written c.in_ok-note.ensures.posted c.in_ok-note.ensures.travelling

pub returns-in_err-note : goal.returns-in_err-note
returns-in_err-note c = noting_failed c.from_residual.result c.args.acts.items c.args.self.now
    c.note.new.self c.from_residual.ensures.0 (rw (map-id c.args.acts.items) at (noting_stopped _ _
    _ _ _ _ _ c.loop-act.invariant c.note.new.self.journal c.in_err-note.ensures.unwritten))
    (c.in_err-note.ensures.travelling ∙ c.loop-act.invariant.travelling)

pub returns : goal.returns
returns c =
    let done = subst (λ acts. AreDone c.args.self.now.journal c.args.self.now.bag acts
    c.loop-act.self.journal c.loop-act.self.bag) (map-id c.args.acts.items)
    (noting_all _ _ _ _ _ _ _ c.loop-act.invariant c.in-None.ensures.steps.0) in record {
      written = done.written;
      posted = done.posted;
      part = tt;
      travelling = c.loop-act.invariant.travelling;
    }
