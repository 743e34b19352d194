use Rattle.std.proofs.Common.{All, take}
use Rattle.policy_rules.specs.Exports.{IsSoundPolicyFile}
use Rattle.trace_audit.proofs.trace.trace_audit_files_sound.Given as goal

abbrev pub invariant-loop-file : goal.invariant-loop-file
invariant-loop-file l = All IsSoundPolicyFile (take l.file-index l.files)
