-- What proofs above cite.
pub use Rattle.partition.proofs.PartitionPlans.{no_leaves, no_room, no_words, parts_small, plan_holds, planned}
