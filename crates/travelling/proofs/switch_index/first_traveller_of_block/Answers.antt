use Rattle.std.proofs.Common.{◌*◌, ◌+◌, ◌<◌, ◌^◌, arith}
use Rattle.base.specs.Exports.{least_in_number_set}
use Rattle.base.proofs.Exports.{least_lt, some_of}
use Rattle.travelling.specs.SwitchIndex.{traveller_mask_at}
use Rattle.travelling.proofs.TravellingMarkBlocks.{block_within, first_marked}
use Rattle.travelling.proofs.switch_index.first_traveller_of_block.Goals as goal

pub overflow_add-result-2 : goal.overflow_add-result-2
unfolding least_in_number_set
overflow_add-result-2 c =
    let masks = c.args.masks.now in
    let block = c.args.block in
    let s = c.args.switch in
    let fits : traveller_mask_at masks block s < 2 ^ 64 =
    (let fit = c.type_inv.masks (block * 64 + s) in omega (arith, fit.fits)) in
    let some = some_of (traveller_mask_at masks block s) c.requires.some in
    let few = least_lt (traveller_mask_at masks block s) some fits in
    omega (arith, block_within masks block s c.requires.some, few, c.well_formed)

pub returns : goal.returns
unfolding least_in_number_set
returns c = let fit = c.type_inv.masks (c.args.block * 64 + c.args.switch) in
    first_marked c.args.masks.now c.args.block c.args.switch c.requires.some (omega (arith, fit.fits))
