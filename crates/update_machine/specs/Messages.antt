-- The messages of a journal. They are numbered from 1 in the order in which they were sent, may be
-- delivered in any order and more than once, and may be forgotten: the notion is our own.
use Rattle.std.specs.Prelude.{[], ◌&&◌, ◌+◌, ◌==◌, ◌∷◌, Bool, List, Option, false, find, is_some, nat_lt, not, true, ℕ}
use Rattle.base.specs.Exports.{range_with_len}
use Rattle.ctrl_msg.specs.declared.message.Message.{Message}
use Rattle.ctrl_msg.specs.declared.message.Place.{Place}
use Rattle.ctrl_msg.specs.declared.message.Place.TheVariants as receiver
use Rattle.journal.specs.declared.item.Item.{Item}
use Rattle.journal.specs.declared.item.Item.TheVariants as item
use Rattle.update_machine.specs.Folds.{machine_count_of}
use Rattle.update_machine.specs.Links.{journal_message_of}

abbrev pub is_machine_sending_item : Item → Bool
is_machine_sending_item (item.Sent number message) = true
is_machine_sending_item _ = false

-- the number of the next message that is sent
unfoldable pub journal_next_message : List Item → ℕ
journal_next_message journal = machine_count_of is_machine_sending_item journal + 1

abbrev pub is_journal_forgetting : ℕ → Item → Bool
is_journal_forgetting n (item.Forgotten number) = number == n
is_journal_forgetting n _ = false

abbrev pub is_machine_delivery_item : ℕ → Item → Bool
is_machine_delivery_item n (item.Delivered number) = number == n
is_machine_delivery_item n _ = false

unfoldable pub is_forgotten_in_journal : List Item → ℕ → Bool
is_forgotten_in_journal journal number = nat_lt 0 (machine_count_of (is_journal_forgetting number) journal)

unfoldable pub was_delivered_in_journal : List Item → ℕ → Bool
was_delivered_in_journal journal number = nat_lt 0 (machine_count_of (is_machine_delivery_item number) journal)

-- it was sent and isn't forgotten, so it may be delivered, perhaps again
unfoldable pub is_deliverable : List Item → ℕ → Bool
is_deliverable journal number =
    is_some (journal_message_of journal number) && not (is_forgotten_in_journal journal number)

-- it was never delivered and isn't forgotten
abbrev pub is_waiting : List Item → ℕ → Bool
is_waiting journal number = is_deliverable journal number && not (was_delivered_in_journal journal number)

-- the least number of a waiting message
unfoldable pub next_waiting : List Item → Option ℕ
next_waiting journal = find (is_waiting journal) (range_with_len 1 (machine_count_of is_machine_sending_item journal))

abbrev pub is_machine_receiver_controller : Place → Bool
is_machine_receiver_controller (receiver.Switch switch) = false
is_machine_receiver_controller receiver.Controller = true

-- the items that send messages, the first one under this number
unfoldable pub machine_sent_items_from : ℕ → List Message → List Item
machine_sent_items_from number [] = []
machine_sent_items_from number (message ∷ messages) = item.Sent number message ∷ machine_sent_items_from (number + 1) messages

-- the items that send messages after a journal
abbrev pub machine_send_items : List Item → List Message → List Item
machine_send_items journal messages = machine_sent_items_from (journal_next_message journal) messages
