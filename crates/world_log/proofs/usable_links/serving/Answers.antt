use Rattle.std.proofs.Common.{◌∙◌, Bool, ap, arith}
use Rattle.base.specs.Exports.{only_if}
use Rattle.world_log.proofs.LogRelinking.{serve_all, serve_none, serve_one}
use Rattle.world_log.proofs.usable_links.serving.Goals as goal

pub loop-s-init : goal.loop-s-init
loop-s-init c = serve_none c.args.switches.now

pub returns : goal.returns
returns c = λ k below. serve_all c.loop-s.mask c.args.switches.now c.loop-s.s (omega arith)
    (omega arith) c.loop-s.invariant k

pub loop-s-preserved : goal.loop-s-preserved
loop-s-preserved c =
    rw (c.only_if-mask.ensures ∙ ap (λ (b : Bool). only_if b c.loop-s.s) c.serves.ensures)
    (serve_one c.loop-s.mask c.loop-s.s c.args.switches.now c.index-switches-s.result
    c.loop-s-test.true c.index-switches-s.is c.loop-s.invariant)
