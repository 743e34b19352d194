pub mod Forwards
pub mod ToRest
pub mod Exports
pub mod Recovery
pub mod Recovered
pub mod NothingOld
pub mod Rollout
pub mod Working
