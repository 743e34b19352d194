-- What a journal says of the messages that were sent.
use Rattle.std.specs.Prelude.{◌+◌, ◌<◌, ◌≡◌, List, Option, false, length, option_map, ℕ}
use Rattle.message_bag.specs.Exports.{Post, bag_item_numbered, bag_posted_frames}
use Rattle.update_machine.specs.Exports.{Item, is_forgotten_in_journal, journal_message_of, journal_next_message, was_delivered_in_journal}

-- what the journal says of the message of a number, if sent: its frames, and what became of it
unfoldable pub refined_post_at : List Item → ℕ → Option Post
refined_post_at journal n = option_map (λ message. (
  bag_posted_frames message,
  record {
    delivered = was_delivered_in_journal journal n;
    forgotten = is_forgotten_in_journal journal n;
  },
)) (journal_message_of journal n)

-- each post has the frames of the journal's message, and what became of it; the journal says of no
-- later number that it was delivered or forgotten
pub record IsRefinedBagOf (journal : List Item) (posts : List Post) : Type 0 where
  pub many : journal_next_message journal ≡ length posts + 1
  pub each : (n : ℕ) → bag_item_numbered posts n ≡ refined_post_at journal n
  pub undelivered : (n : ℕ) → length posts < n → was_delivered_in_journal journal n ≡ false
  pub remembered : (n : ℕ) → length posts < n → is_forgotten_in_journal journal n ≡ false
