-- The definitions that the laws of this crate use, passed on from the files that define them.
pub use Rattle.forwarding_laws.specs.Forwards.{ForwardedEndsBy, ForwardingFindsNoTarget, IsForwardedByNewest, IsForwardingStuckApart, NetworkForwards}
pub use Rattle.forwarding_laws.specs.NothingOld.{ForwardingCachesNewestAlone, EndsInTwoRecoveryRounds, HoldNewestAlone, RecoveryLeavesNothingOld}
pub use Rattle.forwarding_laws.specs.Recovered.{AllForwardingMessagesDelivered, HasRecovered}
pub use Rattle.forwarding_laws.specs.Recovery.{ForwardingRecoveryAsksEach, EndsInRecovery}
pub use Rattle.forwarding_laws.specs.Rollout.{RolloutAccountsForAll, RolloutAccountedOrCutOff, AreForwardingTargetsCutOff, ForwardingDropsNothing, RolloutEndsOrIsCutOff, RolloutEndsRightly, RolloutFailsNothing, RolloutHasItem, IsConnectedForwardingNetwork, ForwardedIsDroppedRightly, IsForwardingStuckCutOff, NoneIsStuck, NothingFailsInRollout, rollout_step_fails_something}
pub use Rattle.forwarding_laws.specs.ToRest.{HasNetworkComeToRest}
pub use Rattle.forwarding_laws.specs.Working.{EndsInForwardingDrain, KeepsForwarding, PlaysKeepForwarding}
