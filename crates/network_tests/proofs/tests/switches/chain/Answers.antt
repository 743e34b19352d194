use Rattle.std.proofs.Common.{arith}
use Rattle.network_tests.proofs.tests.switches.chain.Goals as goal

pub returns-clause-a : goal.returns-clause-a
returns-clause-a c = rw c.begin.ensures (c.switch_laws.ensures.first _ 3 0 (omega arith))

pub returns-clause-b : goal.returns-clause-b
returns-clause-b c = rw c.begin.ensures (c.switch_laws.ensures.first _ 3 1 (omega arith))
