use Rattle.std.proofs.Common.{subst, sym}
use Rattle.version_update.specs.Exports.{AreVersionMarksSettled}
use Rattle.version_update.proofs.VersionOpenings.{first-settled}
use Rattle.version_update.proofs.marks.Marks.begin.Goals as goal

pub invariant_of-result : goal.invariant_of-result
invariant_of-result c = subst AreVersionMarksSettled (sym c.begin.ensures)
    (first-settled c.args.switches c.requires.some c.requires.few)

pub returns-clause-rule : goal.returns-clause-rule
returns-clause-rule c = subst AreVersionMarksSettled (sym c.begin.ensures)
    (first-settled c.args.switches c.requires.some c.requires.few)
