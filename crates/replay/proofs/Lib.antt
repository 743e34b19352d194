mod ReplayAskedStep
pub mod ReplayEventPlays
mod ReplayBoard
mod ReplaySmallNumbers
mod ReplayEventStepping
mod ReplayedWorld
mod ReplayPlanInForce
