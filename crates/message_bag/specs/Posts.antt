-- The messages that were posted, as the frames that travel, each with what became of it, numbered
-- from 1 in the order in which they were posted.
use Rattle.std.specs.Prelude.{[], if◌then◌else◌, ◌≡◌, Bool, Err, List, None, Ok, Option, Result, Some, is_some, map, option_and_then, true, ℕ}
use Rattle.ctrl_msg.specs.declared.message.Message.{Message}
use Rattle.ctrl_msg.specs.declared.message.Place.{Place}
use Rattle.wire.specs.Exports.{frames, message as form}
use Rattle.message_bag.specs.Deliveries as statuses
use Rattle.message_bag.specs.Numbered.{bag_item_numbered, bag_with_changed}
use Rattle.message_bag.specs.declared.deliveries.MessageState.{MessageState}

-- the frames of a message; one that has no encoding has none
unfoldable pub bag_posted_frames : Message → List (List ℕ)
bag_posted_frames message = if form.fits message then frames message else []

-- the frames of this number are those of the same message, perhaps to another receiver
abbrev pub IsBagPostLike : List (List (List ℕ)) → ℕ → Message → Type 0
IsBagPostLike bag number m =
    (to : Place) × (bag_item_numbered bag number ≡ Some (bag_posted_frames (record m { to = to })))

abbrev pub Post : Type 0
Post = List (List ℕ) × MessageState

-- a message that is posted now
abbrev pub new_bag_post : Message → Post
new_bag_post message = (bag_posted_frames message, statuses.bag_waiting_status)

-- the number that a call returned beside the message
abbrev pub bag_returned_number : {M E : Type 0} → Result (ℕ × M) E → Result ℕ E
bag_returned_number (Ok both) = Ok both.0
bag_returned_number (Err error) = Err error

-- the statuses of the messages
abbrev pub bag_post_statuses : List Post → List MessageState
bag_post_statuses posts = map (λ (post : Post). post.1) posts

-- the frames of a post that isn't forgotten
abbrev pub bag_frames_remembered : Post → Option (List (List ℕ))
bag_frames_remembered post = if post.1.forgotten then None else Some post.0

-- the frames of the message of a number, if it was posted and isn't forgotten
abbrev pub bag_frames_posted : List Post → ℕ → Option (List (List ℕ))
bag_frames_posted posts number = option_and_then bag_frames_remembered (bag_item_numbered posts number)

-- the message of a number was posted and isn't forgotten
abbrev pub is_bag_post_deliverable : List Post → ℕ → Bool
is_bag_post_deliverable posts number = is_some (bag_frames_posted posts number)

-- the message has an encoding, and its frames are those of this number
pub record IsBagMessageOf (posts : List Post) (number : ℕ) (message : Message) : Type 0 where
  pub fits : form.fits message ≡ true
  pub frames_are : bag_frames_posted posts number ≡ Some (bag_posted_frames message)

-- the least number at or above `from` of a message that was never delivered and isn't forgotten
abbrev pub next_waiting_bag_post : List Post → ℕ → Option ℕ
next_waiting_bag_post posts from = statuses.next_waiting (bag_post_statuses posts) from

-- the post with its status changed
abbrev pub bag_post_with_status : (MessageState → MessageState) → Post → Post
bag_post_with_status change post = (post.0, change post.1)

-- the posts after the message of the number was delivered, perhaps again
abbrev pub bag_posts_with_delivered : List Post → ℕ → List Post
bag_posts_with_delivered posts number = bag_with_changed (bag_post_with_status statuses.bag_delivered_status) posts number

-- the posts after the message of the number was forgotten: it is never delivered again
abbrev pub bag_posts_with_forgotten : List Post → ℕ → List Post
bag_posts_with_forgotten posts number = bag_with_changed (bag_post_with_status statuses.bag_forgotten_status) posts number
