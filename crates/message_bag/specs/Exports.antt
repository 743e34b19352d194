-- The definitions of this crate that others use, passed on from the files that define them.
pub use Rattle.message_bag.specs.Deliveries.{AreBagMessagesPassed, IsFirstWaitingInBag, bag_delivered_status, bag_forgotten_status, is_deliverable, is_waiting, bag_post_may_be_delivered, next_waiting, bag_waiting_status, bag_post_waits}
pub use Rattle.message_bag.specs.Feeding.{AreBagFramesAllFed, AreBagFramesOf, HasBagFrames, HasShortBagSpelling, bag_frames_held_after}
pub use Rattle.message_bag.specs.Installing.{bag_install_frame_count, bag_install_frames, bag_table_chunks, bag_table_frames}
pub use Rattle.message_bag.specs.KeptFrames.{AreBagKeptFrames, AreBagFramesOfInstall, AreBagFramesOfMessage, BagFramesCarryTables, BagFirst, IsBagGrown, IsPostedInBag, IsBagNumberThere, IsBagSpanWithin, bag_first_frame_in, bag_frames_in, bag_tables_version}
pub use Rattle.message_bag.specs.Numbered.{HasPosted, bag_item_numbered, bag_with_changed}
pub use Rattle.message_bag.specs.Posts.{IsBagPostLike, IsBagMessageOf, Post, bag_frames_posted, is_bag_post_deliverable, new_bag_post, next_waiting_bag_post, bag_frames_remembered, bag_returned_number, bag_post_statuses, bag_posts_with_delivered, bag_posts_with_forgotten, bag_post_with_status}
unfoldable pub use Rattle.message_bag.specs.Posts.{bag_posted_frames}
pub use Rattle.message_bag.specs.Sharing.{AreAdvertsPostedInBag, IsAdvertPostedInBag}
