use Rattle.std.proofs.Common.{◌*◌, ◌≤◌, arith, subst, sym}
use Rattle.switch_table.proofs.CacheLiveCounts.{filled}
use Rattle.switch_table.proofs.live.fill_cache_blocks.Goals as goal

pub returns : goal.returns
returns c = filled c.args.places c.loop-count.count-items
    (subst (λ n. c.args.places ≤ 64 * n) (sym c.loop-count.auto.count-items) c.requires)
    (λ k less. c.loop-count.invariant.1 k (omega arith))
