use Rattle.std.proofs.Common.{arith, sym}
use Rattle.base.proofs.Exports.{set_past}
use Rattle.failover.proofs.database.set_own_link_state.Goals as goal

pub returns-else-at-lt-MAX_SWITCHES : goal.returns-else-at-lt-MAX_SWITCHES
returns-else-at-lt-MAX_SWITCHES c = sym (set_past _ _ _ (omega (arith, c.if-at-lt-MAX_SWITCHES.false)))
