use Rattle.std.proofs.Common.{◌&&◌, take}
use Rattle.version_update.specs.Exports.{MaskNamesUpdateSwitches, is_member}
use Rattle.version_update.proofs.switches.mask_of_members_where.Given as goal

-- the mask names those of the switches so far
abbrev pub invariant-loop-s : goal.invariant-loop-s
invariant-loop-s l = MaskNamesUpdateSwitches l.mask (λ known. l.rose && is_member known.phase) (take l.s l.switches)
