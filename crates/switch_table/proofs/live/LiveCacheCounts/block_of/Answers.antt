use Rattle.std.proofs.Common.{subst, sym}
use Rattle.switch_table.specs.Exports.{AreCacheLiveBlocks}
use Rattle.switch_table.proofs.CacheLiveCounts.{block_holds}
use Rattle.switch_table.proofs.live.LiveCacheCounts.block_of.Goals as goal

pub returns : goal.returns
returns c = λ flags are some. let block = c.switch_cache_block_at.ensures in
    block_holds c.deref.result.now flags c.args.before c.switch_cache_block_at.result.0 c.switch_cache_block_at.result.1
    (subst (λ counts. AreCacheLiveBlocks counts flags) (sym c.deref.ensures.value) are.blocks) some
    block.within block.before block.found
