use Rattle.travelling.proofs.TravellingMarkBlocks.{no_levels}
use Rattle.travelling.proofs.switch_index.TravellerSwitchIndex.new.Goals as goal

pub invariant_of-result : goal.invariant_of-result
invariant_of-result c =
    rw (c.new.ensures.items, c.new-2.ensures.items, c.new-3.ensures.items) no_levels
