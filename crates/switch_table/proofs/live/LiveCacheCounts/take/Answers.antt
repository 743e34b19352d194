use Rattle.std.proofs.Common.{arith, false, true}
use Rattle.base.proofs.Exports.{get_or_from_slice_get, slice_get_within}
use Rattle.switch_table.proofs.CacheLiveCounts.{all_taken, taken}
use Rattle.switch_table.proofs.live.LiveCacheCounts.take.Goals as goal

pub returns : goal.returns
returns c = λ flags are at. let place = c.args.place in
    let there = slice_get_within flags place true at in
    let live = get_or_from_slice_get flags place true false at in record {
      all = all_taken flags c.args.self.now.all place are.all (omega arith) there live;
      blocks = taken place c.index_mut-block.result.now c.args.self.now.blocks.items flags there
          live are.blocks c.index_mut-block.ensures.value;
    }
