pub mod TableTreeMasks
pub mod TableTreeLookup
pub mod TableTreeNodes
pub mod TableTreeFinder
pub mod TableTreeRules
