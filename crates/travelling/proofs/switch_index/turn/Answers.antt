use Rattle.std.proofs.Common.{◌*◌, ◌+◌, ◌/◌, ◌<◌, ◌∙◌, ◌≡◌, arith, get_or, length}
use Rattle.base.proofs.Exports.{get_or_default_zero}
use Rattle.travelling.proofs.TravellingMasks.{changes, turns}
use Rattle.travelling.proofs.switch_index.turn.Goals as goal
use Rattle.travelling.proofs.switch_index.turn.Goals.{After-index-old}

there : (c : After-index-old)
    → c.args.number / 64 * 64 + c.args.switch < length c.args.masks.now.items
there c = omega (arith, c.requires.room, c.requires.switch)

old_is : (c : After-index-old) → c.index-old.result.now
    ≡ get_or c.args.masks.now.items (c.args.number / 64 * 64 + c.args.switch) 0
old_is c = c.index-old.ensures ∙ get_or_default_zero c.args.masks.now.items
    (c.args.number / 64 * 64 + c.args.switch) _ (there c)

pub returns-clause-marks : goal.returns-clause-marks
returns-clause-marks c = let read = (goal.at.returns-clause-marks c).After-index-old in
    rw (old_is read, c.only_if.ensures)
    (turns c.args.masks.now.items c.args.number c.args.switch c.requires.switch (there read))

pub returns-clause-blocks : goal.returns-clause-blocks
returns-clause-blocks c = let read = (goal.at.returns-clause-blocks c).After-index-old in
    rw (old_is read, c.only_if.ensures)
    (changes c.args.masks.now.items c.args.number c.args.switch c.requires.switch (there read))
