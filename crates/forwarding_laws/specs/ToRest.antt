-- What is true of a quiet network.
use Rattle.std.specs.Prelude.{List}
use Rattle.update_machine.specs.Exports.{IsQuietMachineJournal, Item, Setting}
use Rattle.convergence_laws.specs.Exports.{ConvergedGetStuckApart, HasConverged, IsNetworkUpdated}
use Rattle.forwarding_laws.specs.Forwards.{NetworkForwards}

-- the network is quiet. So the switches know the usable links, and a packet that had found no link
-- down gets stuck in the next step only if no target is reachable. The switches that are up stamp
-- with the newest version, and a packet that enters then is decided by that version. It is dropped
-- or leaves, or is stuck if usable links lead to no target of its partition or not to its port
pub record HasNetworkComeToRest (setting : Setting) (journal : List Item) : Type 0 where
  pub quiet : IsQuietMachineJournal setting journal
  pub converged : HasConverged setting journal
  pub apart : ConvergedGetStuckApart setting journal
  pub updated : IsNetworkUpdated setting journal
  pub forwards : NetworkForwards setting journal
