use Rattle.std.proofs.Common.{All, arith, subst, take_all}
use Rattle.base.proofs.Exports.{All-more}
use Rattle.policy_rules.specs.Exports.{IsSoundPolicyFile}
use Rattle.trace_audit.proofs.trace.trace_audit_files_sound.Goals as goal

pub loop-file-preserved : goal.loop-file-preserved
loop-file-preserved c = All-more IsSoundPolicyFile c.args.files.now c.loop-file.file-index
    c.file-item.result c.loop-file-test.true c.loop-file.invariant
    (subst IsSoundPolicyFile c.file-item.is c.audit_file_is_sound.ensures)

pub returns : goal.returns
returns c = subst (All IsSoundPolicyFile)
    (take_all c.loop-file.file-index c.args.files.now (omega arith)) c.loop-file.invariant
