use Rattle.std.proofs.Common.{arith}
use Rattle.switch_table.proofs.CacheLiveCounts.{added, all_added}
use Rattle.switch_table.proofs.live.LiveCacheCounts.add.Goals as goal

pub returns : goal.returns
returns c = λ flags are len. record {
  all = all_added flags c.args.self.now.all are.all (omega (arith, len));
  blocks = added c.args.place c.index_mut-block.result.now c.args.self.now.blocks.items flags
      c.requires.room len are.blocks c.index_mut-block.ensures.value;
}
