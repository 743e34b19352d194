-- The result of recovery.
use Rattle.std.specs.Prelude.{◌≡◌, ◌⊎◌, IsTrue, List, Some, ℕ}
use Rattle.update_machine.specs.Exports.{Item, Message, Setting, is_forgotten_in_journal, journal_message_of, was_delivered_in_journal}
use Rattle.convergence_laws.specs.Exports.{ConvergedGetStuckApart, HasConverged, IsNetworkUpdated}
use Rattle.forwarding_laws.specs.Forwards.{NetworkForwards}

-- each message that was sent was delivered, or was forgotten
abbrev pub AllForwardingMessagesDelivered : List Item → Type 0
AllForwardingMessagesDelivered journal = (n : ℕ) (message : Message) → journal_message_of journal n ≡ Some message
    → IsTrue (was_delivered_in_journal journal n) ⊎ IsTrue (is_forgotten_in_journal journal n)

-- the switches know the usable links, and a packet that had found no link down gets stuck in the
-- next step only if no target is reachable. The switches that are up stamp with the newest version,
-- and a packet that enters then is forwarded by it. The network need not be quiet: what was lost
-- before may still matter, as an advert for a switch to which no link leads any more
pub record HasRecovered (setting : Setting) (journal : List Item) : Type 0 where
  pub converged : HasConverged setting journal
  pub apart : ConvergedGetStuckApart setting journal
  pub updated : IsNetworkUpdated setting journal
  pub forwards : NetworkForwards setting journal
