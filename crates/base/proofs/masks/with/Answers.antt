use Rattle.std.proofs.Common.{◌%◌, ◌*◌, ◌^◌, arith}
use Rattle.std.proofs.lemmas.Nat.{or_lt}
use Rattle.base.proofs.masks.with.Goals as goal

pub returns-clause-small : goal.returns-clause-small
returns-clause-small c = or_lt 64 c.args.mask (1 * 2 ^ c.args.k % 2 ^ 64) c.ranges.mask.fits
    (omega arith)
