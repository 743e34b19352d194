pub mod PartLemmas
pub mod EndLemmas
pub mod PartitionPlans
pub mod PartitionCallerLemmas
