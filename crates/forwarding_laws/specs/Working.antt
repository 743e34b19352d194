-- What the journal of a play says of its network's forwarding: it recovers if the schedule ends in
-- recovery, nothing old is left after a second round, and a rollout drops nothing. For a play that
-- stopped full only the last is true, because it didn't reach its end.
use Rattle.std.specs.Prelude.{[], ◌++◌, ◌∷◌, ◌≡◌, List, None, Option, ℕ}
use Rattle.update_machine.specs.Exports.{Drain, Event, JournalItemsHaveCauses, IsMachinePlay, IsMachineSetting, Item, Setting}
use Rattle.control_laws.specs.Exports.{AreControlNetworkEvents}
use Rattle.forwarding_laws.specs.NothingOld.{EndsInTwoRecoveryRounds, RecoveryLeavesNothingOld}
use Rattle.forwarding_laws.specs.Recovered.{HasRecovered}
use Rattle.forwarding_laws.specs.Recovery.{EndsInRecovery}
use Rattle.forwarding_laws.specs.Rollout.{RolloutAccountsForAll, RolloutAccountedOrCutOff, ForwardingDropsNothing, IsConnectedForwardingNetwork, NoneIsStuck, NothingFailsInRollout}

-- the last row drains the network
abbrev pub EndsInForwardingDrain : List Event → Type 0
EndsInForwardingDrain events = (front : List Event) × (events ≡ front ++ Drain ∷ [])

pub record KeepsForwarding (setting : Setting) (events : List Event) (journal : List Item)
    (full : Option ℕ) : Type 0 where
  pub recovers : full ≡ None → EndsInRecovery setting.net events → HasRecovered setting journal
  pub renews : full ≡ None → EndsInTwoRecoveryRounds setting.net events → RecoveryLeavesNothingOld setting journal
  pub drops_nothing : NothingFailsInRollout events → JournalItemsHaveCauses (ForwardingDropsNothing setting) [] journal
  pub leaves_none_stuck : NothingFailsInRollout events → IsConnectedForwardingNetwork setting.net → NoneIsStuck journal
  pub accounts_or_cut_off : full ≡ None → EndsInForwardingDrain events → NothingFailsInRollout events
      → RolloutAccountedOrCutOff setting journal
  pub accounts_for_all : full ≡ None → EndsInForwardingDrain events → NothingFailsInRollout events
      → IsConnectedForwardingNetwork setting.net → RolloutAccountsForAll setting journal

-- this is true of each play of a setting, whose events name its own switches and ports
abbrev pub PlaysKeepForwarding : Type 0
PlaysKeepForwarding = (setting : Setting) (events : List Event) (journal : List Item)
    (full : Option ℕ) → IsMachineSetting setting → AreControlNetworkEvents setting events
    → IsMachinePlay setting events journal full → KeepsForwarding setting events journal full
