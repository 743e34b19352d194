use Rattle.travelling.proofs.TravellingMarkBlocks.{least_beyond, none_beyond}
use Rattle.travelling.proofs.switch_index.TravellerSwitchIndex.next.Goals as goal

pub returns-in-Some-next_traveller_by_blocks : goal.returns-in-Some-next_traveller_by_blocks
returns-in-Some-next_traveller_by_blocks c =
    let s = c.args.switch in
    let from = c.args.from in
    let block = c.in-Some-next_traveller_by_blocks.block in
    rw (← c.self.view_is)
    (least_beyond c.self.inside.packets.items c.self.inside.blocks.items s from c.requires
    c.self.invariant.low
    (rw c.deref.ensures.value at (rw c.in_default.is at c.next_traveller_mark_in_block.ensures)) block
    (rw c.deref-2.ensures.value at c.in-Some-next_traveller_by_blocks.ensures) c.first_traveller_of_block.result
    (rw c.deref-in-Some-next_traveller_by_blocks.ensures.value at c.first_traveller_of_block.ensures))

pub returns-in-None : goal.returns-in-None
returns-in-None c =
    let s = c.args.switch in
    let from = c.args.from in
    rw (← c.self.view_is) (none_beyond c.self.inside.packets.items c.self.inside.blocks.items s from
    c.requires c.self.invariant.low
    (rw c.deref.ensures.value at (rw c.in_default.is at c.next_traveller_mark_in_block.ensures))
    (rw c.deref-2.ensures.value at c.in-None.ensures))
