-- Links change after the first items of a step: what is sent about that, and the parts after it.
use Rattle.std.proofs.Common.{[], ◌++◌, ◌+◌, ◌-◌, ◌<◌, ◌==◌, ◌^◌, ◌∙◌, ◌∷◌, ◌≡◌, All, Bool, IsFalse, List, ap, append_assoc, arith, eq-eqb, eqb-true, false, filter, get_or, get_or-set_other, get_or-set_same, length, length-set, map, refl, set, subst, sym, true, ℕ}
use Rattle.base.proofs.Exports.{flat_map, has_mask}
use Rattle.message_bag.specs.Exports.{Post, new_bag_post}
use Rattle.control_laws.proofs.Exports.{caused_known, fit_in_room, have_front, serving_known}
use Rattle.control_laws.specs.Exports.{HasControlItemCause, ControlNumbersFit, control_asks_controller}
use Rattle.controller.specs.declared.sends.Act.{Act}
use Rattle.controller.specs.declared.sends.Act.TheVariants.{Post as PostAct}
use Rattle.update_machine.specs.Exports.{MachineJournalHasRoom, JournalItemsHaveCauses, Item, Message, Setting, Step, machine_count_of, journal_usable_links_changed, is_machine_packet_entry, journal_link_changes, machine_messages_of, near, own_advert, piece, machine_sent_items_from, machine_switches_of}
use Rattle.refinement.specs.Exports.{RefineUpLinks, RefineUsableLinks, HasRefinedNextSeq, IsRefinedBagOf, RefinementLeavesSwitch, RefinedNetworkState, RefineJournal, refined_flight_in, refined_relinked_switch, refined_switch_of, refined_up_links}
use Rattle.refinement.proofs.RefinedSteps.{controller_stays, flight_stays, reached_known, reached_more, refines_taken}
use Rattle.refinement.proofs.RefinedPacketFacts.{NoneName, none_more}
use Rattle.refinement.proofs.RefinedPostedFrames.{bag_sends}
use Rattle.base.specs.Exports.{has}
use Rattle.net_file.specs.Exports.{are_linked_in_net}
use Rattle.steps.specs.Exports.{IsStep}
use Rattle.switch_core.specs.Exports.{SwitchValue, switch_next_advert}
use Rattle.refinement.proofs.RefinedSwitchKnowledge.{requirements_hold}
use Rattle.refinement.proofs.RefinedSwitchLinks.{links_refine}
use Rattle.travelling.specs.Travelling.{TravellingFlights, flight}
use Rattle.update_machine.proofs.Exports.{count_of_append}
use Rattle.world_log.specs.Exports.{AreLogSwitchesRelinked, LogMaySend, log_act_items, log_act_posts, log_all_adverts_sent, logged_near_all}
use Rattle.world_log.proofs.LogMessages.{posts_as_acts, sent_as_acts}
use Rattle.refinement.proofs.RefinedActs.{acts_bring_none, acts_leave, acts_posted, acts_send, acts_unnamed, links_left, may_note, may_send}
use Rattle.refinement.proofs.RefinedRelinking.{CanRelink, near_now, switches_now, told_now, up_ends}

module _ {setting : Setting} {journal : List Item} {state : RefinedNetworkState}
    (refines : RefineJournal setting journal state) where
  -- so have those behind the row
  pub caused_first : (row : ℕ) (step : Step) (first rest : List Item)
      → IsStep setting.net (length setting.files) step
      → piece setting journal row step ≡ Item.Row row step ∷ first ++ rest
      → JournalItemsHaveCauses (HasControlItemCause setting) [] (journal ++ Item.Row row step ∷ first)
  caused_first row step first rest may is = have_front (HasControlItemCause setting) []
      (journal ++ Item.Row row step ∷ first) rest (rw (ap (λ items. journal ++ items) is
      ∙ sym (append_assoc journal (Item.Row row step ∷ first) rest)) at
      (reached_known setting (journal ++ piece setting journal row step) refines.sound
      (reached_more setting journal row step refines.reached may)).caused)

  -- each switch has a next number for its own advert
  pub next_left : length state.posts < 990_000
      → (q : ℕ) → q < length state.switches → HasRefinedNextSeq (refined_switch_of setting journal q)
  next_left room q below =
      let fit : ControlNumbersFit setting journal = subst (ControlNumbersFit setting)
      (sym refines.reached.written) (fit_in_room setting refines.reached.steps refines.sound.net
      (subst MachineJournalHasRoom refines.reached.written (omega (arith, refines.bag.many, room)))) in
      requirements_hold.near_changed setting journal q fit (omega (arith, below, refines.many))

  pub numbers_left : length state.posts < 990_000
      → All (λ (switch : SwitchValue). switch.seq < 2 ^ 32 - 1) state.switches
  numbers_left room = λ q d below. rw (refines.each q d below) (next_left room q below).now

-- ---- one switch is another one behind the first items, and the others hear nothing

module _ {setting : Setting} {journal : List Item} {state : RefinedNetworkState}
    (refines : RefineJournal setting journal state) (row : ℕ) (step : Step) (first : List Item)
    (s : ℕ) (changed : SwitchValue) (within : s < length state.switches)
    (leaves : (q : ℕ) → (s == q) ≡ false → RefinementLeavesSwitch q journal row step first) where
  abbrev behind : List Item
  behind = journal ++ Item.Row row step ∷ first

  abbrev with_one : List SwitchValue
  with_one = set state.switches s changed

  here : (d : SwitchValue) → get_or with_one s d ≡ changed
  here d = get_or-set_same state.switches s changed d within

  stays : (q : ℕ) (d : SwitchValue) → (s == q) ≡ false → q < length state.switches
      → refined_switch_of setting journal q ≡ get_or with_one q d
  stays q d is below = sym (refines.each q d below)
      ∙ sym (get_or-set_other state.switches s q changed d (λ e. let own : (s == q) ≡ true =
      ap (λ k. s == k) e ∙ eq-eqb s s refl in absurd cc))

  pub one_relinks : refined_switch_of setting behind s ≡ refined_relinked_switch setting journal behind s changed
      → (q : ℕ) (d : SwitchValue) → q < length state.switches
      → refined_switch_of setting behind q ≡ refined_relinked_switch setting journal behind q (get_or with_one q d)
  one_relinks own q d below = by_switch (s == q) refl where
    by_switch : (b : Bool) → (s == q) ≡ b → refined_switch_of setting behind q
        ≡ refined_relinked_switch setting journal behind q (get_or with_one q d)
    by_switch true is = subst (λ k. refined_switch_of setting behind k
        ≡ refined_relinked_switch setting journal behind k (get_or with_one k d)) (eqb-true s q is)
        (own ∙ ap (refined_relinked_switch setting journal behind s) (sym (here d)))
    by_switch false is = links_refine.relinked setting q journal row step first (leaves q is)
        ∙ ap (refined_relinked_switch setting journal behind q) (stays q d is below)

  pub one_advert : (journal_usable_links_changed setting journal behind s ≡ true
      → own_advert setting behind s ≡ switch_next_advert changed (near setting behind s))
      → (q : ℕ) (d : SwitchValue) → q < length state.switches
      → journal_usable_links_changed setting journal behind q ≡ true
      → own_advert setting behind q ≡ switch_next_advert (get_or with_one q d) (near setting behind q)
  one_advert own q d below = by_switch (s == q) refl where
    by_switch : (b : Bool) → (s == q) ≡ b → journal_usable_links_changed setting journal behind q ≡ true
        → own_advert setting behind q ≡ switch_next_advert (get_or with_one q d) (near setting behind q)
    by_switch true is =
        subst (λ k. journal_usable_links_changed setting journal behind k ≡ true → own_advert setting behind k
        ≡ switch_next_advert (get_or with_one k d) (near setting behind k)) (eqb-true s q is)
        (λ changes. own changes ∙ ap (λ w. switch_next_advert w (near setting behind s)) (sym (here d)))
    by_switch false is = λ changes.
        links_refine.advert setting q journal row step first (leaves q is) changes
        ∙ ap (λ w. switch_next_advert w (near setting behind q)) (stays q d is below)

  pub one_next : length state.posts < 990_000
      → (HasRefinedNextSeq (refined_switch_of setting journal s) → changed.seq < 2 ^ 32 - 1)
      → All (λ (switch : SwitchValue). switch.seq < 2 ^ 32 - 1) with_one
  one_next room own = λ q d below.
      by_switch q d (s == q) refl (omega (arith, below, length-set state.switches s changed))
    where
      next : (q : ℕ) → q < length state.switches → HasRefinedNextSeq (refined_switch_of setting journal q)
      next = next_left refines room

      by_switch : (q : ℕ) (d : SwitchValue) (b : Bool) → (s == q) ≡ b → q < length state.switches
          → (get_or with_one q d).seq < 2 ^ 32 - 1
      by_switch q d true is there =
          subst (λ k. (get_or with_one k d).seq < 2 ^ 32 - 1) (eqb-true s q is)
          (subst (λ (w : SwitchValue). w.seq < 2 ^ 32 - 1) (sym (here d)) (own (next s within)))
      by_switch q d false is there =
          subst (λ (w : SwitchValue). w.seq < 2 ^ 32 - 1) (stays q d is there) (next q there).now

-- ---- the links change

-- the step writes these items first, and what is told as links change; behind the first ones these
-- are the switches before their links change, the links that are up and the messages
pub record LinksChange (setting : Setting) (journal : List Item) (row : ℕ) (step : Step)
    (first : List Item) (state : RefinedNetworkState) (others : List SwitchValue) (links : List ℕ)
    (posts : List Post) : Type 0 where
  pub may : IsStep setting.net (length setting.files) step
  pub piece_is : piece setting journal row step ≡ Item.Row row step
      ∷ first ++ journal_link_changes setting journal (journal ++ Item.Row row step ∷ first)
  pub not_told : IsFalse (control_asks_controller journal step)
  pub none_come : machine_count_of is_machine_packet_entry (Item.Row row step ∷ first) ≡ 0
  pub as_many : length others ≡ length state.switches
  pub number : length posts ≡ length state.posts
  pub bag : IsRefinedBagOf (journal ++ Item.Row row step ∷ first) posts
  pub up : RefineUpLinks setting (journal ++ Item.Row row step ∷ first) links
  pub relinks : (q : ℕ) (d : SwitchValue) → q < length state.switches
      → refined_switch_of setting (journal ++ Item.Row row step ∷ first) q
      ≡ refined_relinked_switch setting journal (journal ++ Item.Row row step ∷ first) q (get_or others q d)
  pub own : (q : ℕ) (d : SwitchValue) → q < length state.switches
      → journal_usable_links_changed setting journal (journal ++ Item.Row row step ∷ first) q ≡ true
      → own_advert setting (journal ++ Item.Row row step ∷ first) q
      ≡ switch_next_advert (get_or others q d) (near setting (journal ++ Item.Row row step ∷ first) q)

-- the state behind it, where these are the switches then, and the packets on their way
abbrev pub relinked_state : RefinedNetworkState → List SwitchValue → List ℕ → List Post
    → List SwitchValue → TravellingFlights → RefinedNetworkState
relinked_state state others links posts later after = record state {
  switches = later;
  travelling = after;
  posts = posts ++ map new_bag_post (log_all_adverts_sent state.near (logged_near_all links others) others);
  links = links;
  near = logged_near_all links others;
}

module _ {setting : Setting} {journal : List Item} {row : ℕ} {step : Step} {first : List Item}
    {state : RefinedNetworkState} {others : List SwitchValue} {links : List ℕ} {posts : List Post}
    (refines : RefineJournal setting journal state)
    (changes : LinksChange setting journal row step first state others links posts) where
  abbrev now : List Item
  now = journal ++ Item.Row row step ∷ first

  abbrev any : SwitchValue
  any = refined_switch_of setting journal 0

  abbrev messages : List Message
  messages = log_all_adverts_sent state.near (logged_near_all links others) others

  abbrev acts : List Act
  acts = map PostAct messages

  abbrev number : ℕ
  number = length state.posts + 1

  can : CanRelink setting journal now links state.near others
  can =
      let caused = caused_first refines row step first (journal_link_changes setting journal now)
      changes.may changes.piece_is in record {
        many = changes.as_many ∙ refines.many;
        few = refines.sound.net.few_switches;
        up = λ q k small below. ap (λ mask. has mask k) (changes.up q small)
            ∙ has_mask (are_linked_in_net (refined_up_links setting now) q) k below;
        within = λ q k linked. up_ends setting now q k refines.sound.net linked;
        had_is = λ q below. refines.usable q
            (omega (arith, below, changes.as_many, refines.many, refines.sound.net.few_switches));
        serving = λ q serving. (serving_known now (caused_known setting now caused)).up q serving;
        relinks = λ q d below. changes.relinks q d (omega (arith, below, changes.as_many));
        own = λ q d below. changes.own q d (omega (arith, below, changes.as_many));
      }

  changes_are : journal_link_changes setting journal now ≡ machine_sent_items_from number messages
  unfolding journal_link_changes
  changes_are = ap (λ k. machine_sent_items_from k (flat_map (machine_messages_of setting journal now)
      (filter (journal_usable_links_changed setting journal now) (machine_switches_of setting))))
      (changes.bag.many ∙ ap (λ k. k + 1) changes.number)
      ∙ ap (machine_sent_items_from number) (sym (told_now setting journal now links state.near others any can))

  pub change_piece : piece setting journal row step ≡ Item.Row row step ∷ first ++ machine_sent_items_from
      (length state.posts + 1) (log_all_adverts_sent state.near (logged_near_all links others) others)
  change_piece = changes.piece_is ∙ ap (λ items. Item.Row row step ∷ first ++ items) changes_are

  acts_piece : piece setting journal row step ≡ Item.Row row step ∷ first ++ log_act_items number acts
  acts_piece = cc (change_piece, sent_as_acts number messages)

  pub change_may : length state.posts < 990_000
      → LogMaySend posts (log_all_adverts_sent state.near (logged_near_all links others) others)
  change_may room = may_send posts messages
      (may_note refines row step first posts acts changes.may acts_piece changes.number room)

  -- ---- the parts behind it

  abbrev items : List Item
  items = first ++ log_act_items number acts

  abbrev all : List Item
  all = Item.Row row step ∷ items

  split : now ++ log_act_items number acts ≡ journal ++ all
  split = append_assoc journal (Item.Row row step ∷ first) (log_act_items number acts)

  -- the packets on their way, where none is named
  pub unmoved : ((i : ℕ) → NoneName i (Item.Row row step ∷ first)) → (i : ℕ)
      → flight state.travelling i ≡ refined_flight_in setting (journal ++ (Item.Row row step ∷ first
      ++ log_act_items (length state.posts + 1)
      (map PostAct (log_all_adverts_sent state.near (logged_near_all links others) others)))) i
  unmoved none i = refines.packet i ∙ sym (flight_stays setting journal all i
      (reached_known setting journal refines.sound refines.reached) (none_more i
      (Item.Row row step ∷ first) (log_act_items number acts) (none i) (acts_unnamed i number acts)))

  pub change_refines : (later : List SwitchValue) (after : TravellingFlights) → AreLogSwitchesRelinked state.near
      (logged_near_all links others) others later → ((i : ℕ) → flight after i
      ≡ refined_flight_in setting (journal ++ (Item.Row row step ∷ first ++ log_act_items (length state.posts
      + 1) (map PostAct (log_all_adverts_sent state.near (logged_near_all links others) others)))) i)
      → RefineJournal setting (journal ++ (Item.Row row step ∷ first ++ machine_sent_items_from
      (length state.posts + 1) (log_all_adverts_sent state.near (logged_near_all links others) others)))
      (relinked_state state others links posts later after)
  change_refines later after are travels =
      let left = links_left setting now number acts links (logged_near_all links others) changes.up
      (near_now setting journal now links state.near others any can) in
      let with : List Post → RefinedNetworkState = λ more.
      record (relinked_state state others links posts later after) { posts = posts ++ more } in
      subst (λ rest. RefineJournal setting (journal ++ (Item.Row row step ∷ first ++ rest))
      (with (map new_bag_post messages))) (sent_as_acts number messages)
      (subst (λ more. RefineJournal setting (journal ++ all) (with more)) (posts_as_acts messages)
      (refines_taken refines (with (log_act_posts acts)) row step items (record {
        may = changes.may;
        piece_is = acts_piece;
        as_many = are.as_many ∙ changes.as_many;
        each = λ q d below. switches_now setting journal now links state.near others d can later are
            q (omega (arith, below, changes.as_many)) ∙ sym (acts_leave setting now number acts q)
            ∙ ap (λ js. refined_switch_of setting js q) split;
        travels = travels;
        counted = omega (
          arith,
          count_of_append is_machine_packet_entry (Item.Row row step ∷ first) (log_act_items number acts),
          changes.none_come,
          acts_bring_none number acts,
        );
        controller = controller_stays refines row step items acts_piece changes.not_told;
        bag = rw split at (rw (acts_posted number acts) at
            (bag_sends number now (log_act_items number acts) posts (acts_send number acts)
            (ap (λ k. k + 1) (sym changes.number) ∙ sym changes.bag.many) changes.bag));
        up = subst (λ js. RefineUpLinks setting js links) split left.0;
        usable = subst (λ js. RefineUsableLinks setting js (logged_near_all links others)) split left.1;
      })))
