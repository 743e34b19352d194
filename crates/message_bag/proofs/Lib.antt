pub mod BagSpellingLengths
pub mod BagFrameSizes
mod BagHeldFrames
pub mod BagFrameArrivals
pub mod BagFramesInOrder
pub mod BagInstallationSpelling
pub mod BagTablesRestamped
mod BagFramesOfReceivers
mod BagFirstFrameSpans
mod BagInstallationFrames
mod BagPostedMessages
mod BagRepeatedMessages
mod BagCopiedMessages
mod BagMessagesOut
pub mod BagFramedMessages
pub mod BagNumberedPosts
mod BagTakenMessages
pub mod BagWaitingStatuses
pub mod BagFramesByStatus
