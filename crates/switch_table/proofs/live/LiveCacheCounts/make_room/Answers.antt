use Rattle.switch_table.proofs.live.LiveCacheCounts.make_room.Goals as goal

pub returns-clause-kept : goal.returns-clause-kept
returns-clause-kept c = λ flags are. record {
  all = are.all;
  blocks = c.reach.ensures.kept flags are.blocks;
}
