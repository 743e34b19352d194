pub mod VersionTestMasks
pub mod VersionLeastStamp
pub mod VersionOpenings
pub mod VersionOneSettling
pub mod VersionAcknowledgements
