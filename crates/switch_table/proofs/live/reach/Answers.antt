use Rattle.switch_table.proofs.CacheLiveCounts.{grown}
use Rattle.switch_table.proofs.live.reach.Goals as goal

pub loop-counts-preserved : goal.loop-counts-preserved
loop-counts-preserved c = λ flags are. rw c.in_ok-push.ensures.items
    (grown c.loop-counts.counts.items flags (c.loop-counts.invariant flags are))
