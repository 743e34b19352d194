-- A message that is delivered is heard: what is written then, and what the parts are behind it.
use Rattle.std.proofs.Common.{[], ◌++◌, ◌+◌, ◌<◌, ◌==◌, ◌||◌, ◌∙◌, ◌∷◌, ◌≡◌, Bool, List, None, Some, ap, append_assoc, false, get_or, is_some, length, length-set, map, refl, rules, set, subst, sym, true, ℕ}
use Rattle.base.proofs.Exports.{option_map_or}
use Rattle.message_bag.specs.Exports.{IsBagMessageOf, Post, bag_delivered_status, is_bag_post_deliverable, new_bag_post, bag_posts_with_delivered, bag_post_with_status}
use Rattle.message_bag.proofs.BagNumberedPosts.{length_changed}
use Rattle.refinement.specs.Exports.{AreRefinedActsWritten, RefinementHearsShut, IsRefinedBagOf, RefinedNetworkState, RefineJournal, refined_switch_of}
use Rattle.refinement.proofs.RefinedControllerCalls.{hears}
use Rattle.refinement.proofs.RefinedControllerResends.{names_there, steps_leave}
use Rattle.controller.specs.Exports.{ControllerValue, ControllerReplyNamesExist, ControllerSettlesWith, controller_hear_acts, controller_marks_after}
use Rattle.controller.specs.declared.sends.Act.{Act}
use Rattle.controller.specs.declared.sends.Act.TheVariants.{Post as PostAct}
use Rattle.update_machine.specs.Exports.{Deliver, Item, Message, Place, Setting, machine_deliver_items, machine_delivery_items, is_deliverable, is_journal_message_to, is_journal_controller_message, is_machine_receiver_controller, is_journal_receiver_switch, journal_message_of, near, journal_next_message, nothing, piece, machine_sent_items_from, machine_message_to_switch}
use Rattle.ctrl_msg.specs.Exports.{message_to_controller}
use Rattle.switch_core.specs.Exports.{SwitchValue, switch_opening_stamp, replies, switch_with_message}
use Rattle.refinement.proofs.RefinedDeliveredRecords.{hearing_refines}
use Rattle.refinement.proofs.RefinedSwitchLinks.{kept_is}
use Rattle.steps.specs.Exports.{IsStep}
use Rattle.update_machine.proofs.Exports.{message_keeps}
use Rattle.world_log.specs.Exports.{LogMayNote, LogMaySend, log_act_items, log_act_posts}
use Rattle.world_log.proofs.LogMessages.{posts_as_acts, sent_as_acts}
use Rattle.refinement.proofs.RefinedActs.{IsTold, may_note, may_send, refines_told, written_is}
use Rattle.refinement.proofs.RefinedBagDeliveries.{deliverable_as, nothing_happens, sent_as}
use Rattle.refinement.proofs.RefinedSteps.{WroteOne, grown, links_stay, one_changes, reached_known, up_stay}
use Rattle.refinement.proofs.RefinedPostedFrames.{bag_delivered, bag_on, within_posts}

-- ---- what a delivery writes

-- by whether the message may be delivered
abbrev delivered_if : Setting → List Item → ℕ → ℕ → Bool → List Item
delivered_if setting journal row n may = Item.Row row (Deliver n) ∷ elim may [
  | false ↦ nothing
  | true ↦ Item.Delivered n ∷ machine_delivery_items setting journal n
      (journal ++ Item.Row row (Deliver n) ∷ [] ++ Item.Delivered n ∷ [])
]

pub deliver_piece : (setting : Setting) (journal : List Item) (row n : ℕ) → is_deliverable journal n
    ≡ true → piece setting journal row (Deliver n) ≡ Item.Row row (Deliver n) ∷ Item.Delivered n
    ∷ machine_delivery_items setting journal n (grown journal row (Deliver n) (Item.Delivered n))
unfolding piece machine_deliver_items
deliver_piece setting journal row n may =
    cc (may, append_assoc journal (Item.Row row (Deliver n) ∷ []) (Item.Delivered n ∷ []))

none_piece : (setting : Setting) (journal : List Item) (row n : ℕ) → is_deliverable journal n
    ≡ false → piece setting journal row (Deliver n) ≡ Item.Row row (Deliver n) ∷ nothing
unfolding piece machine_deliver_items
none_piece setting journal row n may = ap (delivered_if setting journal row n) may

module _ {setting : Setting} {journal : List Item} {state : RefinedNetworkState}
    (refines : RefineJournal setting journal state) where
  -- no such message may be delivered
  pub undelivered : (row n : ℕ) → IsStep setting.net (length setting.files) (Deliver n)
      → is_bag_post_deliverable state.posts n ≡ false
      → WroteOne setting journal row (Deliver n) Item.Nothing state
  undelivered row n may none = nothing_happens refines row (Deliver n) may (λ q. refl)
      (none_piece setting journal row n (deliverable_as journal state.posts n refines.bag ∙ none))

-- ---- the message

-- the message of a number in the bag
pub record IsThere (setting : Setting) (journal : List Item) (posts : List Post) (row n : ℕ)
    (message : Message) : Type 0 where
  pub sent : journal_message_of journal n ≡ Some message
  pub deliverable : is_deliverable journal n ≡ true
  pub bag : IsRefinedBagOf (grown journal row (Deliver n) (Item.Delivered n)) (bag_posts_with_delivered posts n)
  pub as_many : length (bag_posts_with_delivered posts n) ≡ length posts

module _ {setting : Setting} {journal : List Item} {state : RefinedNetworkState}
    (refines : RefineJournal setting journal state) where
  pub is_there : (row n : ℕ) (message : Message) → IsBagMessageOf state.posts n message
      → IsThere setting journal state.posts row n message
  is_there row n message there = record {
    sent = sent_as journal state.posts n message refines.bag there;
    deliverable = deliverable_as journal state.posts n refines.bag ∙ ap is_some there.frames_are;
    bag = rw (append_assoc journal (Item.Row row (Deliver n) ∷ []) (Item.Delivered n ∷ [])) at
        (bag_delivered (journal ++ Item.Row row (Deliver n) ∷ []) state.posts n
        (within_posts state.posts n _ there.frames_are)
        (bag_on journal (Item.Row row (Deliver n) ∷ []) state.posts (refl, tt) refines.bag));
    as_many = length_changed (bag_post_with_status bag_delivered_status) state.posts n;
  }

  -- it is delivered, and then more is written
  pub first_piece : (row n : ℕ) (message : Message) → IsBagMessageOf state.posts n message
      → piece setting journal row (Deliver n) ≡ Item.Row row (Deliver n) ∷ Item.Delivered n
      ∷ machine_delivery_items setting journal n (grown journal row (Deliver n) (Item.Delivered n))
  first_piece row n message there =
      deliver_piece setting journal row n (is_there row n message there).deliverable

-- a row leaves a message
pub row_keeps : (journal : List Item) (row n : ℕ)
    → journal_message_of (journal ++ Item.Row row (Deliver n) ∷ []) n ≡ journal_message_of journal n
row_keeps journal row n =
    (message_keeps n journal (Item.Row row (Deliver n) ∷ []) (refl, tt)).message

-- a switch to which the message isn't stays
not_to : (setting : Setting) (journal : List Item) (row n q : ℕ) (message : Message)
    → journal_message_of journal n ≡ Some message → is_journal_receiver_switch q message.to ≡ false → refined_switch_of setting
    (grown journal row (Deliver n) (Item.Delivered n)) q ≡ refined_switch_of setting journal q
not_to setting journal row n q message sent other =
    let to_other = ap (λ o. option_map_or (λ (m : Message). is_journal_receiver_switch q m.to) o false)
    (row_keeps journal row n ∙ sent) ∙ other in
    kept_is setting q journal (Item.Row row (Deliver n) ∷ Item.Delivered n ∷ [])
    (refl, (ap (λ b. b || false) to_other, tt)) (refl, (refl, tt))

-- ---- at the controller

as_told : (message : Message) → message.to ≡ Place.Controller → message ≡ message_to_controller message.body
as_told message to = ap (λ p. record { to = p; body = message.body }) to

module _ {setting : Setting} {journal : List Item} {state : RefinedNetworkState}
    (refines : RefineJournal setting journal state) where
  -- what it names is there
  pub names_known : (n : ℕ) (message : Message) → IsBagMessageOf state.posts n message
      → message.to ≡ Place.Controller → ControllerReplyNamesExist message.body state.controller.marks
  names_known n message there to = names_there setting journal n message.body state.controller.marks
      (reached_known setting journal refines.sound refines.reached).tables.names
      refines.controller.marks
      (sent_as journal state.posts n message refines.bag there ∙ ap Some (as_told message to))

module _ {setting : Setting} {journal : List Item} {state : RefinedNetworkState}
    (refines : RefineJournal setting journal state) (row n : ℕ) (message : Message)
    (new : ControllerValue) (may : IsStep setting.net (length setting.files) (Deliver n))
    (there : IsBagMessageOf state.posts n message) (to : message.to ≡ Place.Controller)
    (settles : ControllerSettlesWith (controller_marks_after message.body state.controller.marks) state.controller.plans
    new) where
  its : IsThere setting journal state.posts row n message
  its = is_there refines row n message there

  abbrev acts : List Act
  acts = controller_hear_acts message.body state.controller.marks new

  abbrev first : List Item
  first = Item.Row row (Deliver n) ∷ Item.Delivered n ∷ []

  heard_so : AreRefinedActsWritten setting journal first acts new (piece setting journal row (Deliver n))
  heard_so = hears setting journal row n message.body state.controller new
      (reached_known setting journal refines.sound refines.reached).caused refines.controller
      its.deliverable (its.sent ∙ ap Some (as_told message to))
      (names_known refines n message there to) settles

  pub control_piece : piece setting journal row (Deliver n)
      ≡ Item.Row row (Deliver n) ∷ Item.Delivered n ∷ log_act_items (length state.posts + 1) acts
  control_piece = cc (heard_so.same, written_is (journal ++ first) acts, its.bag.many, its.as_many)

  control_told : IsTold setting journal row (Deliver n) (Item.Delivered n ∷ []) acts state
      (record state { controller = new; posts = bag_posts_with_delivered state.posts n })
  control_told =
      let each : (s : ℕ) (d : SwitchValue) → s < length state.switches → get_or state.switches s d
      ≡ refined_switch_of setting (grown journal row (Deliver n) (Item.Delivered n)) s =
      λ s d below. refines.each s d below
      ∙ sym (not_to setting journal row n s message its.sent (ap (is_journal_receiver_switch s) to)) in
      search (rules, control_piece, its.bag, its.as_many, heard_so.after, links_stay, up_stay)

  pub control_refines : RefineJournal setting (journal ++ Item.Row row (Deliver n)
      ∷ Item.Delivered n ∷ log_act_items (length state.posts + 1) acts)
      (record state { controller = new; posts = bag_posts_with_delivered state.posts n ++ log_act_posts acts })
  control_refines = refines_told refines (record state {
    controller = new;
    posts = bag_posts_with_delivered state.posts n;
  }) row (Deliver n) (Item.Delivered n ∷ []) acts control_told

  -- and it may be written
  pub control_may : length state.posts < 990_000 → LogMayNote (bag_posts_with_delivered state.posts n) acts
  control_may = may_note refines row (Deliver n) (Item.Delivered n ∷ [])
      (bag_posts_with_delivered state.posts n) acts may control_piece its.as_many

-- ---- at a switch that doesn't open

pub as_sent : (message : Message) (s : ℕ) → message.to ≡ Place.Switch s
    → message ≡ machine_message_to_switch s message.body
as_sent message s to = ap (λ p. record { to = p; body = message.body }) to

module _ {setting : Setting} {journal : List Item} {state : RefinedNetworkState}
    (refines : RefineJournal setting journal state) (row n s : ℕ) (message : Message)
    (own changed : SwitchValue) (mask : ℕ)
    (may : IsStep setting.net (length setting.files) (Deliver n))
    (there : IsBagMessageOf state.posts n message) (to : message.to ≡ Place.Switch s)
    (within : s < length state.switches) (own_at : own ≡ get_or state.switches s own)
    (near_is : mask ≡ near setting journal s)
    (changed_is : changed ≡ switch_with_message own n message.body)
    (shut : switch_opening_stamp own message.body ≡ None) where
  mine : IsThere setting journal state.posts row n message
  mine = is_there refines row n message there

  own_is : own ≡ refined_switch_of setting journal s
  own_is = own_at ∙ refines.each s own within

  abbrev messages : List Message
  messages = replies own mask message.body

  abbrev reply_acts : List Act
  reply_acts = map PostAct messages

  hears_shut : RefinementHearsShut setting journal n s message.body
  hears_shut = hearing_refines.shut setting journal n s message.body refines.sound.net (record {
    sent = mine.sent ∙ ap Some (as_sent message s to);
    names = (reached_known setting journal refines.sound refines.reached).tables.names;
    touched = (reached_known setting journal refines.sound refines.reached).touched;
  }) (ap (λ w. switch_opening_stamp w message.body) (sym own_is) ∙ shut)

  number_is : journal_next_message (grown journal row (Deliver n) (Item.Delivered n))
      ≡ length state.posts + 1
  number_is = mine.bag.many ∙ ap (λ k. k + 1) mine.as_many

  items_are : machine_delivery_items setting journal n (grown journal row (Deliver n) (Item.Delivered n))
      ≡ log_act_items (length state.posts + 1) reply_acts
  items_are = hears_shut.items row ∙ ap (λ k. machine_sent_items_from k
      (replies (refined_switch_of setting journal s) (near setting journal s) message.body)) number_is
      ∙ ap (λ w. machine_sent_items_from
      (length state.posts + 1) (replies w (near setting journal s) message.body)) (sym own_is)
      ∙ ap (λ m. machine_sent_items_from (length state.posts + 1) (replies own m message.body)) (sym near_is)
      ∙ sym (sent_as_acts (length state.posts + 1) messages)

  shut_piece_acts : piece setting journal row (Deliver n)
      ≡ Item.Row row (Deliver n) ∷ Item.Delivered n ∷ log_act_items (length state.posts + 1) reply_acts
  shut_piece_acts = cc (deliver_piece setting journal row n mine.deliverable, items_are)

  not_controller : is_journal_controller_message journal n ≡ false
  not_controller = cc (mine.sent, to)

  shut_told : IsTold setting journal row (Deliver n) (Item.Delivered n ∷ []) reply_acts state
      (record state {
        switches = set state.switches s changed;
        posts = bag_posts_with_delivered state.posts n;
      })
  shut_told =
      let each : (q : ℕ) (d : SwitchValue) → q < length state.switches
      → get_or (set state.switches s changed) q d
      ≡ refined_switch_of setting (grown journal row (Deliver n) (Item.Delivered n)) q =
      λ q d below. one_changes setting journal (grown journal row (Deliver n) (Item.Delivered n))
      state.switches s q changed d (s == q) refl within (changed_is ∙ ap (λ w. switch_with_message w
      n message.body) own_is ∙ sym (hears_shut.record_of row)) (λ other. not_to setting journal row
      n q message mine.sent (ap (is_journal_receiver_switch q) to ∙ other)) (refines.each q d below) in
      let controller = steps_leave setting journal row (Deliver n) state.controller
      (reached_known setting journal refines.sound refines.reached).caused not_controller
      refines.controller in
      search (rules, shut_piece_acts, mine.bag, mine.as_many, length-set, links_stay, up_stay)

  pub shut_piece : piece setting journal row (Deliver n)
      ≡ Item.Row row (Deliver n) ∷ Item.Delivered n ∷ machine_sent_items_from (length state.posts + 1) messages
  shut_piece = cc (shut_piece_acts, sent_as_acts (length state.posts + 1) messages)

  pub shut_refines : RefineJournal setting (journal ++ Item.Row row (Deliver n) ∷ Item.Delivered n
      ∷ machine_sent_items_from (length state.posts + 1) messages) (record state {
        switches = set state.switches s changed;
        posts = bag_posts_with_delivered state.posts n ++ map new_bag_post messages;
      })
  shut_refines =
      let with : List Post → RefinedNetworkState = λ posts. record state {
        switches = set state.switches s changed;
        posts = posts;
      } in
      let posts : List Post = bag_posts_with_delivered state.posts n in
      subst (λ items. RefineJournal setting (journal ++ Item.Row row (Deliver n)
      ∷ Item.Delivered n ∷ items) (with (posts ++ map new_bag_post messages)))
      (sent_as_acts (length state.posts + 1) messages)
      (rw (posts_as_acts messages) at (refines_told refines (with posts) row (Deliver n)
      (Item.Delivered n ∷ []) reply_acts shut_told))

  pub shut_may : length state.posts < 990_000 → LogMaySend (bag_posts_with_delivered state.posts n) messages
  shut_may room = may_send (bag_posts_with_delivered state.posts n) messages
      (may_note refines row (Deliver n) (Item.Delivered n ∷ []) (bag_posts_with_delivered state.posts n)
      reply_acts may shut_piece_acts mine.as_many room)
