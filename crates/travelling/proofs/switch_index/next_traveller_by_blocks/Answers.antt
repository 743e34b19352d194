use Rattle.std.proofs.Common.{◌*◌, ◌+◌, ◌/◌}
use Rattle.travelling.specs.SwitchIndex.{IsNoTravellerMarked}
use Rattle.travelling.proofs.TravellingMarkBlocks.{block_has, least_beyond, none_beyond}
use Rattle.travelling.proofs.switch_index.next_traveller_by_blocks.Goals as goal
use Rattle.travelling.proofs.switch_index.next_traveller_by_blocks.Goals.{In_default}

none_here : (c : In_default) → IsNoTravellerMarked c.args.masks.now c.args.switch c.args.from
    ((c.args.from / 64 + 1) * 64)
none_here c = rw c.in_default.is at c.next_traveller_mark_in_block.ensures

pub first_traveller_of_block-requires-clause-some : goal.first_traveller_of_block-requires-clause-some
first_traveller_of_block-requires-clause-some c =
    block_has c.args.masks.now c.args.blocks.now c.args.switch c.args.from c.requires.switch
    c.requires.blocks (none_here (goal.at.first_traveller_of_block-requires-clause-some c).In_default)
    c.in-Some-next_traveller_mark.block c.in-Some-next_traveller_mark.ensures

pub returns-in-Some-next_traveller_mark : goal.returns-in-Some-next_traveller_mark
returns-in-Some-next_traveller_mark c =
    least_beyond c.args.masks.now c.args.blocks.now c.args.switch c.args.from c.requires.switch
    c.requires.blocks (none_here (goal.at.returns-in-Some-next_traveller_mark c).In_default)
    c.in-Some-next_traveller_mark.block c.in-Some-next_traveller_mark.ensures _ c.first_traveller_of_block.ensures

pub returns-in-None : goal.returns-in-None
returns-in-None c =
    none_beyond c.args.masks.now c.args.blocks.now c.args.switch c.args.from c.requires.switch
    c.requires.blocks (none_here (goal.at.returns-in-None c).In_default) c.in-None.ensures
