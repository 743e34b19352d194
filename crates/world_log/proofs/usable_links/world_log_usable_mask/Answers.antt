use Rattle.std.proofs.Common.{◌∙◌, arith, sym}
use Rattle.world_log.proofs.LogRelinking.{usable_bits, usable_none}
use Rattle.world_log.proofs.usable_links.world_log_usable_mask.Goals as goal

pub returns-then-has : goal.returns-then-has
returns-then-has c = usable_bits c.args.links c.args.serving c.args.s
    (omega (arith, c.ranges.links.fits)) (sym c.has.ensures.has ∙ c.if-has.true)

pub returns-else-has : goal.returns-else-has
returns-else-has c = usable_none c.args.links c.args.serving c.args.s
    (sym c.has.ensures.has ∙ c.if-has.false)
