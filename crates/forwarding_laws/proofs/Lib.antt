pub mod RecoverySecondRounds
mod ForwardingFollowed
mod ForwardedPacket
pub mod RecoveryCalmItems
pub mod RecoveryDeliveries
pub mod RecoveryRows
pub mod RecoveredAdverts
pub mod RecoveredControl
pub mod RecoveredNetworks
pub mod RolloutDrains
pub mod RolloutUnfailingItems
pub mod RolloutDropsNothing
mod ForwardingPremises
