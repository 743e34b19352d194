use Rattle.std.proofs.Common.{arith}
use Rattle.switch_core.proofs.SwitchOwnAdverts.{own_none}
use Rattle.switch_core.proofs.switch.Switch.forget.Goals as goal

pub invariant_of-self : goal.invariant_of-self
invariant_of-self c = record {
  number = c.self.invariant.number;
  sound = rw c.clear.ensures.items (λ k d within. absurd (omega arith));
  own = rw c.clear-3.ensures (own_none c.self.inside.number c.self.inside.boot 0);
}
