use Rattle.std.proofs.Common.{◌∙◌, ◌≡◌, ◌≤◌, List, ap, replicate, take, ℕ}
use Rattle.version_update.specs.declared.record.SwitchRecord.{SwitchRecord}
use Rattle.base.proofs.Exports.{take-replicate}
use Rattle.version_update.specs.Exports.{first_update_record}
use Rattle.version_update.proofs.VersionOpenings.{first-bounded}
use Rattle.version_update.proofs.ledger.MarksLedger.begin.Goals as goal

firsts : (n : ℕ) (records : List SwitchRecord) → records ≡ replicate 64 first_update_record → n ≤ 64
    → take n records ≡ replicate n first_update_record
firsts n records all few = ap (take n) all ∙ take-replicate n 64 first_update_record few

pub invariant_of-result : goal.invariant_of-result
invariant_of-result c = (
  c.requires.few,
  rw (firsts c.args.number _ c.first_switch_marks.ensures c.requires.few)
      (first-bounded c.args.number c.requires.some c.requires.few),
)

pub returns : goal.returns
returns c = cc (firsts c.args.number _ c.first_switch_marks.ensures c.requires.few)
