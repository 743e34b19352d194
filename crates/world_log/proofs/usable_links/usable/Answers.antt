use Rattle.std.proofs.Common.{◌∙◌, ◌≡◌, arith, length-set, ℕ}
use Rattle.base.proofs.Exports.{fill_by_all, fill_by_more}
use Rattle.world_log.specs.Exports.{logged_near_all, logged_near_mask_by}
use Rattle.world_log.proofs.LogRelinking.{same_near}
use Rattle.world_log.proofs.usable_links.usable.Goals as goal

pub loop-s-preserved : goal.loop-s-preserved
unfolding logged_near_mask_by
loop-s-preserved c =
    let near = logged_near_mask_by c.args.links.now c.args.switches.now in
    let is : c.world_log_usable_mask.result ≡ near c.loop-s.s = c.world_log_usable_mask.ensures
    ∙ same_near _ _ _ _ _ (c.serving-serving.ensures c.loop-s.s (omega (
      arith,
      c.loop-s-test.true,
    ))) c.serving-serving.ensures in
    rw is (
      length-set c.loop-s.near c.loop-s.s (near c.loop-s.s) ∙ c.loop-s.invariant.0,
      fill_by_more near c.loop-s.near c.loop-s.s 0
          (omega (arith, c.loop-s-test.true, c.loop-s.invariant.0)) c.loop-s.invariant.1,
    )

pub returns : goal.returns
unfolding logged_near_all
returns c = let all : ◌≡◌ {A = ℕ} c.loop-s.s 64 = omega arith in
    fill_by_all (logged_near_mask_by c.args.links.now c.args.switches.now) c.loop-s.near 64 0
    c.loop-s.invariant.0 (λ k below. c.loop-s.invariant.1 k (omega (arith, below, all)))
