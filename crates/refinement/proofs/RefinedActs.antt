-- A step by which something is told, and the controller or a switch acts upon it: marks rise, and
-- messages are sent.
use Rattle.std.proofs.Common.{[], ◌++◌, ◌+◌, ◌<◌, ◌∙◌, ◌∷◌, ◌≡◌, ◌≤◌, All, Bool, IsFalse, List, None, Some, ap, append-nil, append_assoc, arith, cond, eq-eqb, get_or, length, map, ne_eqb, refl, subst, sym, ℕ}
use Rattle.base.proofs.Exports.{All-from_recursion, AllByRecursion, length-map, sum_by-cons}
use Rattle.controller.specs.declared.sends.Act.{Act}
use Rattle.refinement.specs.Exports.{AreRefinedMessagesSpelled, RefineUpLinks, RefineUsableLinks, IsRefinedBagOf, IsRefinedController, RefinedNetworkState, RefineJournal, refined_switch_of, refined_acts_written}
use Rattle.update_machine.specs.Exports.{Hello, IsJournalReached, Item, Message, NoMachineItemConcerns, Setting, Step, machine_item_concerns_calls, machine_item_concerns_known, machine_item_concerns_links, machine_item_concerns_packets, machine_count_of, machine_item_gives_message, is_machine_packet_entry, is_machine_sending_item, journal_last_given, journal_message_of, journal_next_message, piece}
use Rattle.update_machine.proofs.Exports.{count_of_append, have_append, last_given_append, messages_keep, near_stays, next_sent, packets_keep}
use Rattle.world_log.specs.Exports.{IsLoggedActSpelled, LogMayNote, LogMaySend, log_act_item, log_act_items, log_act_posts, log_number_after_act}
use Rattle.refinement.proofs.RefinedPacketFacts.{NoneName, none_more}
use Rattle.refinement.proofs.RefinedPostedFrames.{SendFrom, bag_sends, posts_in}
use Rattle.control_laws.specs.Exports.{ControlStepsSendFew}
use Rattle.switch_core.specs.Exports.{SwitchValue}
use Rattle.refinement.proofs.RefinedSwitchLinks.{kept_is}
use Rattle.steps.specs.Exports.{IsStep}
use Rattle.refinement.proofs.RefinedSteps.{flight_stays, reached_known, reached_more, up_stays}
use Rattle.message_bag.specs.Exports.{HasShortBagSpelling, Post, new_bag_post}
use Rattle.ctrl_msg.specs.Exports.{message_to_controller}
use Rattle.message_bag.proofs.BagSpellingLengths.{alone_short}
use Rattle.refinement.proofs.RefinedTableSpellings.{reached_spelled}
use Rattle.world_log.proofs.LogMessages.{messages_spelled, posts_as_acts}
use Rattle.refinement.proofs.RefinedBagDeliveries.{sends_few}

-- ---- what acts write: what these items concern, and what they send

-- what marks and messages concern not
pub record SparesActs (concerns : List Item → Item → Bool) : Type 0 where
  pub current : (before : List Item) (v : ℕ) → IsFalse (concerns before (Item.Current v))
  pub retired : (before : List Item) (v : ℕ) → IsFalse (concerns before (Item.Retired v))
  pub sent : (before : List Item) (n : ℕ) (message : Message)
      → IsFalse (concerns before (Item.Sent n message))

pub acts_apart : (concerns : List Item → Item → Bool) → SparesActs concerns
    → (before : List Item) (number : ℕ) (acts : List Act)
    → NoMachineItemConcerns concerns before (log_act_items number acts)
unfolding log_act_items
acts_apart concerns spares before number [] = tt
acts_apart concerns spares before number (Act.Current v ∷ acts) = (
  spares.current before v,
  acts_apart concerns spares (before ++ Item.Current v ∷ []) number acts,
)
acts_apart concerns spares before number (Act.Retired v ∷ acts) = (
  spares.retired before v,
  acts_apart concerns spares (before ++ Item.Retired v ∷ []) number acts,
)
acts_apart concerns spares before number (Act.Post message ∷ acts) = (
  spares.sent before number message,
  acts_apart concerns spares (before ++ Item.Sent number message ∷ []) (number + 1) acts,
)

-- ---- messages

pub acts_send : (number : ℕ) (acts : List Act) → SendFrom number (log_act_items number acts)
unfolding log_act_items
acts_send number [] = tt
acts_send number (Act.Current v ∷ acts) = acts_send number acts
acts_send number (Act.Retired v ∷ acts) = acts_send number acts
acts_send number (Act.Post message ∷ acts) = (refl, acts_send (number + 1) acts)

pub acts_posted : (number : ℕ) (acts : List Act) → posts_in (log_act_items number acts) ≡ log_act_posts acts
unfolding log_act_items log_act_posts
acts_posted number [] = refl
acts_posted number (Act.Current v ∷ acts) = acts_posted number acts
acts_posted number (Act.Retired v ∷ acts) = acts_posted number acts
acts_posted number (Act.Post message ∷ acts) = cc (acts_posted (number + 1) acts)

-- how many messages these items send
pub acts_counted : (number : ℕ) (acts : List Act)
    → machine_count_of is_machine_sending_item (log_act_items number acts) ≡ length (log_act_posts acts)
unfolding log_act_items log_act_posts
acts_counted number [] = refl
acts_counted number (Act.Current v ∷ acts) =
    let sum = sum_by-cons (λ x. cond (is_machine_sending_item x) 1 0) (Item.Current v) (log_act_items number acts) in
    omega (arith, sum, acts_counted number acts)
acts_counted number (Act.Retired v ∷ acts) =
    let sum = sum_by-cons (λ x. cond (is_machine_sending_item x) 1 0) (Item.Retired v) (log_act_items number acts) in
    omega (arith, sum, acts_counted number acts)
acts_counted number (Act.Post message ∷ acts) =
    let sum = sum_by-cons (λ x. cond (is_machine_sending_item x) 1 0) (Item.Sent number message)
    (log_act_items (number + 1) acts) in
    omega (arith, sum, acts_counted (number + 1) acts)

-- ---- acts as the journal's definitions have them

pub written_is : (journal : List Item) (acts : List Act)
    → refined_acts_written journal acts ≡ log_act_items (journal_next_message journal) acts
unfolding log_act_items
written_is journal [] = refl
written_is journal (Act.Current v ∷ acts) =
    ap (λ items. Item.Current v ∷ items) (written_is (journal ++ Item.Current v ∷ []) acts
    ∙ ap (λ n. log_act_items n acts) (messages_keep journal (Item.Current v ∷ []) (refl, tt)).next)
written_is journal (Act.Retired v ∷ acts) =
    ap (λ items. Item.Retired v ∷ items) (written_is (journal ++ Item.Retired v ∷ []) acts
    ∙ ap (λ n. log_act_items n acts) (messages_keep journal (Item.Retired v ∷ []) (refl, tt)).next)
written_is journal (Act.Post message ∷ acts) = let n : ℕ = journal_next_message journal in
    ap (λ items. Item.Sent n message ∷ items)
    (written_is (journal ++ Item.Sent n message ∷ []) acts
    ∙ ap (λ k. log_act_items k acts) (next_sent journal n message))

-- none of it names a packet
pub acts_unnamed : (i number : ℕ) (acts : List Act) → NoneName i (log_act_items number acts)
unfolding log_act_items
acts_unnamed i number [] = tt
acts_unnamed i number (Act.Current v ∷ acts) = (refl, acts_unnamed i number acts)
acts_unnamed i number (Act.Retired v ∷ acts) = (refl, acts_unnamed i number acts)
acts_unnamed i number (Act.Post message ∷ acts) = (refl, acts_unnamed i (number + 1) acts)

-- and no packet enters by it
pub acts_bring_none : (number : ℕ) (acts : List Act)
    → machine_count_of is_machine_packet_entry (log_act_items number acts) ≡ 0
unfolding log_act_items
acts_bring_none number [] = refl
acts_bring_none number (one ∷ acts) =
    let sum = sum_by-cons (λ x. cond (is_machine_packet_entry x) 1 0) (log_act_item number one)
    (log_act_items (log_number_after_act number one) acts) in
    omega (arith, sum, none_comes one, acts_bring_none (log_number_after_act number one) acts)
  where
    none_comes : (one : Act) → ◌≡◌ {A = ℕ} (cond (is_machine_packet_entry (log_act_item number one)) 1 0) 0
    none_comes (Act.Current version) = refl
    none_comes (Act.Retired version) = refl
    none_comes (Act.Post message) = refl

-- ---- refined acts

-- the step of the row writes these items; they name no packet, and what is done leaves the
-- switches; behind the first items the rest is as in the later state
pub record IsTold (setting : Setting) (journal : List Item) (row : ℕ) (step : Step)
    (first : List Item) (acts : List Act) (state later : RefinedNetworkState) : Type 0 where
  pub may : IsStep setting.net (length setting.files) step
  pub piece_is : piece setting journal row step
      ≡ Item.Row row step ∷ first ++ log_act_items (length state.posts + 1) acts
  pub packet : (i : ℕ) → NoneName i (Item.Row row step ∷ first)
  pub packets : NoMachineItemConcerns machine_item_concerns_packets journal (Item.Row row step ∷ first)
  pub as_many : length later.switches ≡ length state.switches
  pub each : (s : ℕ) (d : SwitchValue) → s < length state.switches
      → get_or later.switches s d ≡ refined_switch_of setting (journal ++ Item.Row row step ∷ first) s
  pub bag : IsRefinedBagOf (journal ++ Item.Row row step ∷ first) later.posts
  pub number : length later.posts ≡ length state.posts
  pub controller : IsRefinedController setting (journal ++ piece setting journal row step)
      later.controller
  pub up : RefineUpLinks setting (journal ++ Item.Row row step ∷ first) later.links
  pub usable : RefineUsableLinks setting (journal ++ Item.Row row step ∷ first) later.near

-- marks and messages concern no packet, no switch and no call of one
pub spares_links : SparesActs machine_item_concerns_links
spares_links = record {
  current = λ before v. refl;
  retired = λ before v. refl;
  sent = λ before n message. refl;
}

spares_packets : SparesActs machine_item_concerns_packets
spares_packets = record {
  current = λ before v. refl;
  retired = λ before v. refl;
  sent = λ before n message. refl;
}

spares_known : (s : ℕ) → SparesActs (machine_item_concerns_known s)
spares_known s = record {
  current = λ before v. refl;
  retired = λ before v. refl;
  sent = λ before n message. refl;
}

spares_calls : (s : ℕ) → SparesActs (machine_item_concerns_calls s)
spares_calls s = record {
  current = λ before v. refl;
  retired = λ before v. refl;
  sent = λ before n message. refl;
}

-- marks and messages leave a switch
pub acts_leave : (setting : Setting) (journal : List Item) (number : ℕ) (acts : List Act) (s : ℕ)
    → refined_switch_of setting (journal ++ log_act_items number acts) s ≡ refined_switch_of setting journal s
acts_leave setting journal number acts s = kept_is setting s journal (log_act_items number acts)
    (acts_apart (machine_item_concerns_known s) (spares_known s) journal number acts)
    (acts_apart (machine_item_concerns_calls s) (spares_calls s) journal number acts)

all_apart : (concerns : List Item → Item → Bool) → SparesActs concerns → (journal first : List Item)
    (number : ℕ) (acts : List Act) → NoMachineItemConcerns concerns journal first
    → NoMachineItemConcerns concerns journal (first ++ log_act_items number acts)
all_apart concerns spares journal first number acts none =
    have_append (λ before item. IsFalse (concerns before item)) journal first
    (log_act_items number acts) none (acts_apart concerns spares (journal ++ first) number acts)

-- marks and messages leave the links
pub links_left : (setting : Setting) (journal : List Item) (number : ℕ) (acts : List Act)
    (links near : List ℕ) → RefineUpLinks setting journal links → RefineUsableLinks setting journal near
    → RefineUpLinks setting (journal ++ log_act_items number acts) links
    × RefineUsableLinks setting (journal ++ log_act_items number acts) near
links_left setting journal number acts links near up usable =
    let none : NoMachineItemConcerns machine_item_concerns_links journal (log_act_items number acts) =
    acts_apart machine_item_concerns_links spares_links journal number acts in (
      up_stays setting journal (log_act_items number acts) links none up,
      λ s below. usable s below ∙ sym (near_stays setting s journal (log_act_items number acts) none),
    )

module _ {setting : Setting} {journal : List Item} {state : RefinedNetworkState}
    (refines : RefineJournal setting journal state) (later : RefinedNetworkState) (row : ℕ)
    (step : Step) (first : List Item) (acts : List Act)
    (told : IsTold setting journal row step first acts state later) where
  abbrev number : ℕ
  number = length state.posts + 1

  abbrev begun : List Item
  begun = Item.Row row step ∷ first

  abbrev all : List Item
  all = begun ++ log_act_items number acts

  abbrev after : List Item
  after = journal ++ all

  split : (journal ++ begun) ++ log_act_items number acts ≡ after
  split = append_assoc journal begun (log_act_items number acts)

  -- what is told and done is tied to the longer journal
  pub refines_told : RefineJournal setting (journal
      ++ (Item.Row row step ∷ first ++ log_act_items number acts)) (record later {
        travelling = state.travelling;
        packets = state.packets;
        posts = later.posts ++ log_act_posts acts;
      })
  refines_told =
      let linked = links_left setting (journal ++ begun) number acts later.links later.near told.up
      told.usable in record {
        sound = refines.sound;
        reached = subst (λ more. IsJournalReached setting (journal ++ more)) told.piece_is
            (reached_more setting journal row step refines.reached told.may);
        many = told.as_many ∙ refines.many;
        each = λ s d there. told.each s d (omega (arith, there, told.as_many))
            ∙ sym (acts_leave setting (journal ++ begun) number acts s)
            ∙ ap (λ js. refined_switch_of setting js s) split;
        packet = λ i. refines.packet i ∙ sym (flight_stays setting journal all i
            (reached_known setting journal refines.sound refines.reached) (none_more i begun
            (log_act_items number acts) (told.packet i) (acts_unnamed i number acts)));
        counted = (packets_keep journal all
            (all_apart machine_item_concerns_packets spares_packets journal begun number acts
            told.packets)).next ∙ refines.counted;
        controller = rw told.piece_is at told.controller;
        bag = rw split at (rw (acts_posted number acts) at (bag_sends number
            (journal ++ begun) (log_act_items number acts) later.posts (acts_send number acts)
            (ap (λ n. n + 1) (sym told.number) ∙ sym told.bag.many) told.bag));
        up = subst (λ js. RefineUpLinks setting js later.links) split linked.0;
        usable = subst (λ js. RefineUsableLinks setting js later.near) split linked.1;
      }

-- what a step sends finds room behind a journal with room
pub acts_fit : (setting : Setting) (journal : List Item) (row : ℕ) (step : Step)
    (first : List Item) (number : ℕ) (acts : List Act) → ControlStepsSendFew setting journal
    → piece setting journal row step ≡ Item.Row row step ∷ first ++ log_act_items number acts
    → length (log_act_posts acts) ≤ 10_000
acts_fit setting journal row step first number acts few is =
    let all = subst (λ items. machine_count_of is_machine_sending_item items ≤ 10_000) is (few row step) in
    let sum = count_of_append is_machine_sending_item (Item.Row row step ∷ first) (log_act_items number acts) in
    omega (arith, all, sum, acts_counted number acts)

-- ---- what a step sends finds room in the bag, and has short spellings

-- ---- each message that acts send is one of the journal

-- later numbers are other ones
untold : (k number : ℕ) (acts : List Act) → k < number
    → journal_last_given (machine_item_gives_message k) (log_act_items number acts) ≡ None
unfolding log_act_items
untold k number [] below = refl
untold k number (Act.Current v ∷ acts) below = rw (untold k number acts below) refl
untold k number (Act.Retired v ∷ acts) below = rw (untold k number acts below) refl
untold k number (Act.Post message ∷ acts) below =
    let other = ne_eqb number k (λ same. absurd (omega (arith, same, below))) in
    rw (untold k (number + 1) acts (omega (arith, below)), other) refl

sent_there : (before : List Item) (number : ℕ) (message : Message) (acts : List Act)
    → journal_message_of (before ++ Item.Sent number message ∷ log_act_items (number + 1) acts) number
    ≡ Some message
unfolding journal_message_of
sent_there before number message acts = last_given_append (machine_item_gives_message number) before
    (Item.Sent number message ∷ log_act_items (number + 1) acts)
    ∙ rw (untold number (number + 1) acts (omega arith), eq-eqb number number refl) refl

acts_spelled : (before : List Item) (number : ℕ) (acts : List Act)
    → AreRefinedMessagesSpelled (before ++ log_act_items number acts) → AllByRecursion IsLoggedActSpelled acts
unfolding log_act_items
acts_spelled before number [] all = tt
acts_spelled before number (Act.Current v ∷ acts) all = (
  tt,
  acts_spelled (before ++ Item.Current v ∷ []) number acts (subst AreRefinedMessagesSpelled
      (sym (append_assoc before (Item.Current v ∷ []) (log_act_items number acts))) all),
)
acts_spelled before number (Act.Retired v ∷ acts) all = (
  tt,
  acts_spelled (before ++ Item.Retired v ∷ []) number acts (subst AreRefinedMessagesSpelled
      (sym (append_assoc before (Item.Retired v ∷ []) (log_act_items number acts))) all),
)
acts_spelled before number (Act.Post message ∷ acts) all = (
  all number message (sent_there before number message acts),
  acts_spelled (before ++ Item.Sent number message ∷ []) (number + 1) acts
      (rw (append_assoc before (Item.Sent number message ∷ []) (log_act_items (number + 1) acts)) all),
)

-- ---- what a step sends

module _ {setting : Setting} {journal : List Item} {state : RefinedNetworkState}
    (refines : RefineJournal setting journal state) where
  -- the acts of a step, behind the first items, may be noted over posts as many as before
  pub may_note : (row : ℕ) (step : Step) (first : List Item) (posts : List Post) (acts : List Act)
      → IsStep setting.net (length setting.files) step → piece setting journal row step
      ≡ Item.Row row step ∷ first ++ log_act_items (length state.posts + 1) acts
      → length posts ≡ length state.posts → length state.posts < 990_000 → LogMayNote posts acts
  may_note row step first posts acts may is as_many room =
      let number = length state.posts + 1 in
      let begun : List Item = Item.Row row step ∷ first in
      let spelled = subst (λ items. AreRefinedMessagesSpelled (journal ++ items)) is
      (reached_spelled setting (journal ++ piece setting journal row step) refines.sound
      (reached_more setting journal row step refines.reached may)) in record {
        few = omega (
          arith,
          as_many,
          room,
          acts_fit setting journal row step first number acts (sends_few setting journal
              (reached_known setting journal refines.sound refines.reached)) is,
        );
        spelled = All-from_recursion IsLoggedActSpelled acts (acts_spelled (journal ++ begun) number acts
            (subst AreRefinedMessagesSpelled (sym (append_assoc journal begun (log_act_items number acts))) spelled));
      }

-- messages that may be noted as acts may be sent
pub may_send : (posts : List Post) (messages : List Message)
    → LogMayNote posts (map Act.Post messages) → LogMaySend posts messages
may_send posts messages may = record {
  few = omega (arith, may.few, ap length (posts_as_acts messages), length-map messages new_bag_post);
  spelled = messages_spelled messages [] (rw (append-nil (map Act.Post messages)) may.spelled);
}

-- a hello of a switch below 64
pub hello_spelled : (s boot : ℕ) → s < 64 → HasShortBagSpelling (message_to_controller (Hello s boot))
hello_spelled s boot below = record {
  spelling = record { switch = tt; suits = refl; fields = below };
  short = alone_short _ refl;
}
