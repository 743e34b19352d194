-- The definitions of this crate that others use, passed on from the files that define them.
pub use Rattle.world.specs.Files.{AreWorldFilesCompiled, WorldFilesValue, IsWorldFileCompiled, WorldFilesKeepWhole, WorldFileMaking, world_file_or_none, world_first_file_policy, world_file_made_at, world_file_made_from, world_file_own_policy}
pub use Rattle.world.specs.Least.{IsLeastInWorldFrom}
pub use Rattle.world.specs.NoStep.{no_world_step}
pub use Rattle.world.specs.Parts.{WorldBeginsStep, WorldStepGoes, WorldStepHasBegun, WorldFilesHoldNewest, IsWorldReadyForStep, WorldPartsKeepNet, WorldPartsKeepRest, WorldPartsRefineJournal, WorldPlaysStep, world_setting_in, world_state_in, world_value}
pub use Rattle.world.specs.State.{IsWorldBegun, WorldRefinesJournal, WorldValue, world_packets_coming_in, world_setting_at, world_state_at}
