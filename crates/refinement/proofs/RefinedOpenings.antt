-- A message that is delivered opens its switch: which links change, what is told of that, and what
-- the parts are behind it.
use Rattle.std.proofs.Common.{[], ◌++◌, ◌+◌, ◌-◌, ◌<◌, ◌==◌, ◌^◌, ◌∙◌, ◌∷◌, ◌≡◌, All, List, Some, ap, append_assoc, false, get_or, length, length-set, refl, set, subst, sym, ℕ}
use Rattle.base.proofs.Exports.{option_map_or}
use Rattle.message_bag.specs.Exports.{IsBagMessageOf, Post, bag_posts_with_delivered}
use Rattle.update_machine.specs.Exports.{Deliver, Item, LinkRow, Message, Place, Setting, is_link_up_in_journal, is_machine_receiver_controller, is_journal_receiver_switch, journal_link_changes, near, piece, machine_sent_items_from}
use Rattle.net_file.specs.Exports.{links_of}
use Rattle.switch_core.specs.Exports.{SwitchValue, switch_next_advert, switch_opening_stamp, switch_with_message}
use Rattle.refinement.specs.Exports.{RefinementHearsOpening, IsRefinedBagOf, RefinementLeavesSwitch, RefinedNetworkState, RefineJournal, is_refined_up_link, refined_relinked_switch, refined_switch_of, refined_up_links}
use Rattle.refinement.proofs.RefinedDeliveredRecords.{hearing_refines}
use Rattle.steps.specs.Exports.{IsStep}
use Rattle.update_machine.proofs.Exports.{last_given_append}
use Rattle.world_log.specs.Exports.{AreLogSwitchesRelinked, LogMaySend, log_all_adverts_sent, logged_near_all}
use Rattle.refinement.proofs.RefinedDeliveries.{IsThere, as_sent, deliver_piece, is_there, row_keeps}
use Rattle.refinement.proofs.RefinedSteps.{grown, reached_known, same_links}
use Rattle.refinement.proofs.RefinedPostedFrames.{bag_on}
use Rattle.refinement.proofs.RefinedLinkChanges.{relinked_state, one_relinks, one_advert, one_next, LinksChange, change_piece, change_may, unmoved, change_refines}

-- links are up as before, where none is told to be up or down
same_up : (journal : List Item) (row n s stamp : ℕ) (link : LinkRow)
    → is_refined_up_link (grown journal row (Deliver n) (Item.Delivered n) ++ Item.Opened s stamp ∷ []) link
    ≡ is_refined_up_link journal link
unfolding is_link_up_in_journal
same_up journal row n s stamp link = search (last_given_append, append_assoc)

module _ {setting : Setting} {journal : List Item} {state : RefinedNetworkState}
    (refines : RefineJournal setting journal state) (row n s stamp : ℕ) (message : Message)
    (own changed : SwitchValue) (may : IsStep setting.net (length setting.files) (Deliver n))
    (there : IsBagMessageOf state.posts n message) (to : message.to ≡ Place.Switch s)
    (within : s < length state.switches) (own_at : own ≡ get_or state.switches s own)
    (changed_is : changed ≡ switch_with_message own n message.body)
    (opens : switch_opening_stamp own message.body ≡ Some stamp) where
  its : IsThere setting journal state.posts row n message
  its = is_there refines row n message there

  own_is : own ≡ refined_switch_of setting journal s
  own_is = own_at ∙ refines.each s own within

  changed_so : changed ≡ switch_with_message (refined_switch_of setting journal s) n message.body
  changed_so = changed_is ∙ ap (λ w. switch_with_message w n message.body) own_is

  abbrev told : List Item
  told = Item.Delivered n ∷ Item.Opened s stamp ∷ []

  abbrev now : List Item
  now = journal ++ Item.Row row (Deliver n) ∷ told

  split : grown journal row (Deliver n) (Item.Delivered n) ++ Item.Opened s stamp ∷ [] ≡ now
  split = append_assoc journal (Item.Row row (Deliver n) ∷ Item.Delivered n ∷ [])
      (Item.Opened s stamp ∷ [])

  hears_open : RefinementHearsOpening setting journal n s message.body stamp
  hears_open = hearing_refines.opening setting journal n s stamp message.body (record {
    sent = its.sent ∙ ap Some (as_sent message s to);
    names = (reached_known setting journal refines.sound refines.reached).tables.names;
    touched = (reached_known setting journal refines.sound refines.reached).touched;
  }) (ap (λ w. switch_opening_stamp w message.body) (sym own_is) ∙ opens)

  piece_so : piece setting journal row (Deliver n)
      ≡ Item.Row row (Deliver n) ∷ told ++ journal_link_changes setting journal now
  piece_so = cc (deliver_piece setting journal row n its.deliverable, hears_open.items row, split)

  -- another switch hears nothing
  leaves : (q : ℕ) → (s == q) ≡ false → RefinementLeavesSwitch q journal row (Deliver n) told
  leaves q other = record {
    in_step = (tt, (tt, tt));
    apart = (refl, (cc (row_keeps journal row n, its.sent, to, other), (other, tt)));
    calls = (refl, (refl, (refl, tt)));
  }

  abbrev others : List SwitchValue
  others = set state.switches s changed

  abbrev posts : List Post
  posts = bag_posts_with_delivered state.posts n

  same : refined_up_links setting now ≡ refined_up_links setting journal
  same = same_links now journal setting.net.links (λ link.
      ap (λ js. is_refined_up_link js link) (sym split) ∙ same_up journal row n s stamp link)

  changes : LinksChange setting journal row (Deliver n) told state others state.links posts
  changes = record {
    may = may;
    piece_is = piece_so;
    not_told = cc (its.sent, to);
    none_come = refl;
    as_many = length-set state.switches s changed;
    number = its.as_many;
    bag = rw split at (bag_on (grown journal row (Deliver n) (Item.Delivered n))
        (Item.Opened s stamp ∷ []) posts (refl, tt) its.bag);
    up = λ q below. refines.up q below ∙ ap (λ rows. links_of rows q) (sym same);
    relinks = one_relinks refines row (Deliver n) told s changed within leaves
        (hears_open.record_of row ∙ ap (refined_relinked_switch setting journal now s) (sym changed_so));
    own = one_advert refines row (Deliver n) told s changed within leaves
        (λ changes. hears_open.advert row changes
        ∙ ap (λ w. switch_next_advert w (near setting now s)) (sym changed_so));
  }

  abbrev messages : List Message
  messages = log_all_adverts_sent state.near (logged_near_all state.links others) others

  pub opening_piece : piece setting journal row (Deliver n) ≡ Item.Row row (Deliver n)
      ∷ Item.Delivered n ∷ Item.Opened s stamp ∷ machine_sent_items_from (length state.posts + 1) messages
  opening_piece = change_piece refines changes

  pub opening_may : length state.posts < 990_000 → LogMaySend (bag_posts_with_delivered state.posts n) messages
  opening_may = change_may refines changes

  -- each switch has a next number for its own advert
  pub opening_next : length state.posts < 990_000
      → All (λ (switch : SwitchValue). switch.seq < 2 ^ 32 - 1) others
  opening_next room = one_next refines row (Deliver n) told s changed within leaves room
      (λ next. rw changed_so (next.then n message.body))

  -- the parts behind the step, where these are the switches
  pub opening_refines : (refined_relinked_switch : List SwitchValue)
      → AreLogSwitchesRelinked state.near (logged_near_all state.links others) others refined_relinked_switch
      → RefineJournal setting (journal ++ Item.Row row (Deliver n) ∷ Item.Delivered n
      ∷ Item.Opened s stamp ∷ machine_sent_items_from (length state.posts + 1) messages)
      (relinked_state state others state.links posts refined_relinked_switch state.travelling)
  opening_refines refined_relinked_switch are = change_refines refines changes refined_relinked_switch
      state.travelling are (unmoved refines changes (λ i. (refl, (refl, (refl, tt)))))
