use Rattle.std.proofs.Common.{◌∙◌, sym}
use Rattle.switch_core.proofs.SwitchNeighbourBodies.{told_all, told_none}
use Rattle.switch_core.proofs.hearing.switch_flood.Goals as goal

pub loop-other-init : goal.loop-other-init
loop-other-init c = c.in_ok-messages.ensures.items ∙ sym (told_none _ _ c.ranges.near.fits)

pub returns : goal.returns
returns c = c.from_items.ensures ∙ c.loop-other.invariant
    ∙ told_all _ _ c.loop-other.other c.ranges.near.fits c.loop-other-test.false
