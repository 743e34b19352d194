pub mod Counts
pub mod Cuts
pub mod DefinedTree
pub mod Laws
pub mod Narrow
pub mod Nodes
pub mod Shape
pub mod Exports
