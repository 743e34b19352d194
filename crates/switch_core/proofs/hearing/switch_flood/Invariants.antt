use Rattle.std.proofs.Common.{◌≡◌}
use Rattle.ctrl_msg.specs.declared.message.Body.TheVariants.{Advertise}
use Rattle.switch_core.proofs.SwitchNeighbourBodies.{told}
use Rattle.switch_core.proofs.hearing.switch_flood.Given as goal

abbrev pub invariant-loop-other : goal.invariant-loop-other
invariant-loop-other l = l.messages.items ≡ told l.near (Advertise l.advert) l.other
