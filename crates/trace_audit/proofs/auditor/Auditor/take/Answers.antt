use Rattle.trace_audit.proofs.auditor.Auditor.take.Goals as goal

pub returns-in-Retired : goal.returns-in-Retired
returns-in-Retired c = rw c.in-Retired.is (c.retire.ensures c.args.files.now)
