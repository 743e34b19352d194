use Rattle.std.proofs.Common.{◌∙◌, ap, eqb, sym}
use Rattle.base.proofs.Exports.{bit_at, picked_add, picked_skip}
use Rattle.controller.specs.Exports.{controller_news_body, controller_recorded_boot, controller_post_act}
use Rattle.controller.proofs.settling.send_to_switches.Goals as goal
use Rattle.controller.proofs.settling.send_to_switches.Goals.{then-has+in_ok-body+in_ok-push, else-has}

pub loop-s-preserved : goal.loop-s-preserved
loop-s-preserved c = elim c.if-has.branch [
  | then-has+in_ok-body+in_ok-push w ↦ picked_add (λ s. controller_post_act s
      (controller_news_body c.args.news.now c.args.version (controller_recorded_boot c.args.marks.now s)))
      (λ s. eqb (bit_at c.args.mask s) 1) c.loop-s.s _ c.loop-s.acts.items _ c.loop-s.invariant
      (sym c.has.ensures.bit ∙ w.if-has.true) (ap (λ v. v.items) w.acts-is
      ∙ cc (w.post.ensures, w.in_ok-body.ensures, w.boot.ensures, w.in_ok-push.ensures.items))
  | else-has w ↦ picked_skip
      (λ s. controller_post_act s (controller_news_body c.args.news.now c.args.version (controller_recorded_boot c.args.marks.now s)))
      (λ s. eqb (bit_at c.args.mask s) 1) c.loop-s.s _ c.loop-s.acts.items _ c.loop-s.invariant
      (sym c.has.ensures.bit ∙ w.if-has.false) (ap (λ v. v.items) w.acts-is)
]
