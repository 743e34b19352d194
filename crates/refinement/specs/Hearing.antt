-- What a delivered message does to a switch, and what the switch does in reply.
use Rattle.std.specs.Prelude.{[], ◌++◌, ◌∷◌, ◌≡◌, IsFalse, IsTrue, List, None, Some, ℕ}
use Rattle.update_machine.specs.Exports.{Body, Deliver, Item, Setting, machine_delivery_items, journal_usable_links_changed, is_journal_message_to, journal_items_then, journal_link_changes, journal_message_of, near, own_advert, machine_send_items, machine_message_to_switch}
use Rattle.net_file.specs.Exports.{IsNet}
use Rattle.journal.specs.declared.item.Item.TheVariants as item
use Rattle.switch_core.specs.Exports.{switch_next_advert, switch_opening_stamp, replies, switch_with_message}
use Rattle.control_laws.specs.Exports.{ControlBodiesNameThere, ControlStampsSayTouched}
use Rattle.refinement.specs.Links.{refined_relinked_switch}
use Rattle.refinement.specs.SwitchOf.{refined_switch_of}

-- the message of this number was sent to the switch, and has this body; it may be for any boot,
-- and the switch may be down
pub record IsRefinedSentTo (setting : Setting) (before : List Item) (n s : ℕ) (body : Body) : Type 0 where
  pub sent : journal_message_of before n ≡ Some (machine_message_to_switch s body)
  pub names : ControlBodiesNameThere setting before
  pub touched : ControlStampsSayTouched setting before

-- the journal within the step that delivers the message
abbrev pub refined_journal_within_delivery : List Item → ℕ → ℕ → List Item → List Item
refined_journal_within_delivery before row n items = before ++ item.Row row (Deliver n) ∷ item.Delivered n ∷ items

-- it hears the message and stays closed or open as it was
pub record RefinementHearsShut (setting : Setting) (before : List Item) (n s : ℕ) (body : Body) : Type 0 where
  pub record_of : (row : ℕ) → refined_switch_of setting (refined_journal_within_delivery before row n []) s
      ≡ switch_with_message (refined_switch_of setting before s) n body
  pub items : (row : ℕ) → machine_delivery_items setting before n (refined_journal_within_delivery before row n [])
      ≡ machine_send_items (refined_journal_within_delivery before row n [])
      (replies (refined_switch_of setting before s) (near setting before s) body)

-- it hears the message and opens with this stamp, so that its own links may change too
pub record RefinementHearsOpening (setting : Setting) (before : List Item) (n s : ℕ) (body : Body)
    (stamp : ℕ) : Type 0 where
  pub record_of : (row : ℕ) → let now = refined_journal_within_delivery before row n (item.Opened s stamp ∷ []) in
      refined_switch_of setting now s
      ≡ refined_relinked_switch setting before now s (switch_with_message (refined_switch_of setting before s) n body)
  pub advert : (row : ℕ) → let now = refined_journal_within_delivery before row n (item.Opened s stamp ∷ []) in
      IsTrue (journal_usable_links_changed setting before now s) →
      own_advert setting now s
      ≡ switch_next_advert (switch_with_message (refined_switch_of setting before s) n body) (near setting now s)
  pub items : (row : ℕ) → machine_delivery_items setting before n (refined_journal_within_delivery before row n [])
      ≡ journal_items_then (item.Opened s stamp ∷ []) (journal_link_changes setting before)
      (refined_journal_within_delivery before row n [])

pub record HearingRefines : Type 0 where
  -- after the delivery itself, which doesn't say yet that the switch opens
  pub heard_but_open : (setting : Setting) (before : List Item) (n s : ℕ) (body : Body) →
      IsRefinedSentTo setting before n s body →
      refined_switch_of setting (before ++ item.Delivered n ∷ []) s
      ≡ record (switch_with_message (refined_switch_of setting before s) n body) {
        is_open = (refined_switch_of setting before s).is_open;
      }
  -- the switch doesn't open, or opens with this stamp
  pub shut : (setting : Setting) (before : List Item) (n s : ℕ) (body : Body) →
      IsNet setting.net → IsRefinedSentTo setting before n s body →
      switch_opening_stamp (refined_switch_of setting before s) body ≡ None → RefinementHearsShut setting before n s body
  pub opening : (setting : Setting) (before : List Item) (n s stamp : ℕ) (body : Body) →
      IsRefinedSentTo setting before n s body →
      switch_opening_stamp (refined_switch_of setting before s) body ≡ Some stamp →
      RefinementHearsOpening setting before n s body stamp
  -- a message that isn't to the switch doesn't change it
  pub other : (setting : Setting) (before : List Item) (n s : ℕ) →
      IsFalse (is_journal_message_to before s n) →
      refined_switch_of setting (before ++ item.Delivered n ∷ []) s ≡ refined_switch_of setting before s
