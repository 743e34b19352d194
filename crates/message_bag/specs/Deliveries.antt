-- What becomes of numbered messages in a network that loses, duplicates and reorders what it
-- carries: each is delivered any number of times, in any order, until it is forgotten.
use Rattle.std.specs.Prelude.{◌&&◌, ◌+◌, ◌-◌, ◌<◌, ◌^◌, ◌≡◌, ◌≤◌, Bool, List, Option, false, find, length, not, true, ℕ}
use Rattle.base.specs.Exports.{option_map_or, range_with_len}
use Rattle.message_bag.specs.Numbered.{bag_item_numbered}
use Rattle.message_bag.specs.declared.deliveries.MessageState.{MessageState}

-- the status of a message that is posted now
abbrev pub bag_waiting_status : MessageState
bag_waiting_status = record { delivered = false; forgotten = false }

abbrev pub bag_delivered_status : MessageState → MessageState
bag_delivered_status status = record status { delivered = true }

abbrev pub bag_forgotten_status : MessageState → MessageState
bag_forgotten_status status = record status { forgotten = true }

abbrev pub bag_post_may_be_delivered : MessageState → Bool
bag_post_may_be_delivered status = not status.forgotten

abbrev pub bag_post_waits : MessageState → Bool
bag_post_waits status = not status.delivered && not status.forgotten

-- the number was posted, and isn't forgotten
abbrev pub is_deliverable : List MessageState → ℕ → Bool
is_deliverable statuses number = option_map_or bag_post_may_be_delivered (bag_item_numbered statuses number)
    false

-- the number was posted, was never delivered, and isn't forgotten
abbrev pub is_waiting : List MessageState → ℕ → Bool
is_waiting statuses number = option_map_or bag_post_waits (bag_item_numbered statuses number) false

-- the least number at or above `from` of a message that waits
abbrev pub next_waiting : List MessageState → ℕ → Option ℕ
next_waiting statuses from =
    find (is_waiting statuses) (range_with_len from (length statuses + 1 - from))

-- the numbers fit 32 bits, and those up to a number were passed: none of them waits and the next
-- one does, if there is one
pub record AreBagMessagesPassed (passed : ℕ) (statuses : List MessageState) : Type 0 where
  pub few : length statuses < 2 ^ 32
  pub within : passed ≤ length statuses
  pub here : passed < length statuses → is_waiting statuses (passed + 1) ≡ true
  pub none : (number : ℕ) → number ≤ passed → is_waiting statuses number ≡ false

-- the place is the least at or above `from` whose message waits, or the end if none waits
pub record IsFirstWaitingInBag (statuses : List MessageState) (from : ℕ) (place : ℕ) : Type 0 where
  pub above : from ≤ place
  pub within : from ≤ length statuses → place ≤ length statuses
  pub here : place < length statuses → is_waiting statuses (place + 1) ≡ true
  pub none : (number : ℕ) → from < number → number ≤ place → is_waiting statuses number ≡ false
