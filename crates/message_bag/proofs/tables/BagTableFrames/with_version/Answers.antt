use Rattle.std.proofs.Common.{◌<◌, ◌^◌, arith, subst, sym}
use Rattle.switch_table.specs.declared.tables.Tables.{Tables}
use Rattle.message_bag.specs.Exports.{BagFramesCarryTables}
use Rattle.message_bag.proofs.BagInstallationFrames.{says_too}
use Rattle.message_bag.proofs.tables.BagTableFrames.with_version.Goals as goal

said_too : (c : goal.In_ok-frames) (t : Tables) → BagFramesCarryTables t c.self.inside.frames
    → BagFramesCarryTables (record t { version = c.args.version }) c.in_ok-frames.frames
said_too c t carry = let few : c.args.version < 2 ^ 32 = omega (arith, c.ranges.version.fits) in
    subst (BagFramesCarryTables (record t { version = c.args.version })) (sym c.in_ok-frames.ensures)
    (says_too c.args.version t c.self.inside.frames few carry)

pub invariant_of-result : goal.invariant_of-result
invariant_of-result c = rw c.in_ok-said.ensures (said_too c c.self.inside.said c.self.invariant)

pub returns : goal.returns
returns c = λ t carry. said_too c t (subst (BagFramesCarryTables t) (sym c.self.view_is) carry)
