use Rattle.policy_file.proofs.PolicyFilePorts.{only_ports}
use Rattle.policy_file.proofs.ports.check_change_ports.Goals as goal

pub returns-in-None-clause-all : goal.returns-in-None-clause-all
returns-in-None-clause-all c = only_ports c.args.ports c.args.change.now
    (rw c.edits.ensures.edits at c.in-None.ensures.all)
