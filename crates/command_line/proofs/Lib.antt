pub mod ArgumentShapes
pub mod ClapWalks
pub mod ClapParses
pub mod CommandLines
mod ArgumentTrials
