use Rattle.std.proofs.Common.{◌∙◌, arith, le-ltb, sym}
use Rattle.base.specs.Exports.{has}
use Rattle.base.proofs.Exports.{has_above}
use Rattle.policy_file.proofs.ports.action_names_only_ports.Goals as goal

pub returns-else-port-lt64 : goal.returns-else-port-lt64
unfolding has
returns-else-port-lt64 c = rw c.in-Out.is (le-ltb c.in-Out.port 64 c.if-port-lt64.false
    ∙ sym (has_above c.args.ports c.in-Out.port (omega arith) c.if-port-lt64.false))
