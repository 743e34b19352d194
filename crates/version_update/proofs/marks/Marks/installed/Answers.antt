use Rattle.std.proofs.Common.{ap, arith, subst, sym}
use Rattle.version_update.specs.declared.record.SwitchRecord.{SwitchRecord}
use Rattle.version_update.specs.Exports.{IsSoundUpdateRecord, MarksValue}
use Rattle.version_update.proofs.VersionOpenings.{installed-sound}
use Rattle.version_update.proofs.marks.Marks.installed.Goals as goal

pub set_record-requires-clause-sound : goal.set_record-requires-clause-sound
set_record-requires-clause-sound c = let count = c.self.inside.ledger.count in
    subst (λ (k : SwitchRecord). IsSoundUpdateRecord count k) (sym c.installed-taken.ensures.after)
    (installed-sound count c.args.boot c.args.version _ c.requires.first
    (omega (arith, c.requires.last, ap (λ (m : MarksValue). m.count) c.self.view_is))
    c.record-known.ensures.sound)
