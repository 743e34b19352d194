-- A switch that was down begins its next boot: what is written, and the parts after it.
use Rattle.std.proofs.Common.{[], if◌then◌else◌, ◌&&◌, ◌++◌, ◌+◌, ◌<◌, ◌==◌, ◌∙◌, ◌∷◌, ◌≡◌, Bool, List, ap, append_assoc, arith, cond, eq-eqb, eqb-true, false, filter, get_or, length, not, refl, set, subst, sym, true, ℕ}
use Rattle.base.proofs.Exports.{None, Some, length-set, option_or, unwrap_or}
use Rattle.update_machine.specs.Exports.{MachineJournalHasRoom, JournalItemsHaveCauses, Hello, Item, LinkRow, Message, Restart, Setting, journal_boot_of, machine_item_gives_boot, machine_item_gives_serving, journal_usable_links_changed, machine_hello_of, is_link_up_in_journal, is_up, is_usable_in_journal, journal_items_then, journal_last_given, near, journal_next_message, nothing, piece, machine_restart_items, machine_send_items, machine_sent_items_from, serves}
use Rattle.message_bag.specs.Exports.{new_bag_post}
use Rattle.control_laws.proofs.Exports.{caused_known, fit_in_room, serving_known}
use Rattle.refinement.proofs.RefinedControllerResends.{steps_leave}
use Rattle.controller.specs.declared.sends.Act.TheVariants.{Post as PostAct}
use Rattle.ctrl_msg.specs.Exports.{message_to_controller}
use Rattle.net_file.specs.Exports.{links_of}
use Rattle.control_laws.specs.Exports.{HasControlItemCause, ControlNumbersFit}
use Rattle.switch_core.specs.Exports.{SwitchValue, near_changed, restarted_switch}
use Rattle.refinement.specs.Exports.{CanRefinedSwitchRestart, RefinedNetworkState, RefineJournal, is_refined_up_link, refined_switch_of}
use Rattle.refinement.proofs.RefinedSwitchKnowledge.{requirements_hold}
use Rattle.refinement.proofs.RefinedSwitchLinks.{kept_is, links_refine, lives_refine}
use Rattle.steps.specs.Exports.{IsStep}
use Rattle.update_machine.proofs.Exports.{last_given_append, messages_keep, switch_keeps}
use Rattle.world_log.specs.Exports.{log_act_items, log_act_posts}
use Rattle.refinement.proofs.RefinedBagDeliveries.{nothing_happens}
use Rattle.refinement.proofs.RefinedGoneSwitches.{up_as}
use Rattle.refinement.proofs.RefinedSteps.{WroteOne, one_changes, reached_known, same_links}
use Rattle.refinement.proofs.RefinedPostedFrames.{bag_on}
use Rattle.refinement.proofs.RefinedNetworkSwitches.{switch_is, switch_there}
use Rattle.refinement.proofs.RefinedActs.{refines_told}
use Rattle.refinement.proofs.RefinedLinkChanges.{caused_first}

same_filter : (now before : LinkRow → Bool) (links : List LinkRow)
    → ((link : LinkRow) → now link ≡ before link) → filter now links ≡ filter before links
same_filter now before [] same = refl
same_filter now before (link ∷ links) same = cc (same link, same_filter now before links same)

module _ {setting : Setting} {journal : List Item} {state : RefinedNetworkState}
    (refines : RefineJournal setting journal state) (row s : ℕ) (own : SwitchValue)
    (may : IsStep setting.net (length setting.files) (Restart s))
    (own_at : own ≡ get_or state.switches s own) where
  boot_there : s < length state.switches
  boot_there = switch_there refines s may

  own_is : own ≡ refined_switch_of setting journal s
  own_is = switch_is refines s own may own_at

  own_up : is_up journal s ≡ own.is_up
  own_up = sym (up_as setting journal s) ∙ ap (λ (w : SwitchValue). w.is_up) (sym own_is)

  abbrev rowed : List Item
  rowed = journal ++ Item.Row row (Restart s) ∷ []

  rowed_up : is_up rowed s ≡ own.is_up
  rowed_up = (switch_keeps setting s journal (Item.Row row (Restart s) ∷ []) (refl, tt)).up ∙ own_up

  pub up_already : own.is_up ≡ true → WroteOne setting journal row (Restart s) Item.Nothing state
  unfolding piece machine_restart_items
  up_already up = nothing_happens refines row (Restart s) may (λ q. refl)
      (ap (λ b. Item.Row row (Restart s) ∷ elim b [
        | true ↦ nothing
        | false ↦ journal_items_then (Item.Booted s (journal_boot_of rowed s + 1) ∷ [])
            (λ booted. machine_send_items booted (machine_hello_of booted s ∷ [])) rowed
      ]) (rowed_up ∙ up))

  -- it has a next boot
  pub boot_next : own.is_up ≡ false → length state.posts < 990_000 → CanRefinedSwitchRestart own
  boot_next down room =
      let fit : ControlNumbersFit setting journal = subst (ControlNumbersFit setting)
      (sym refines.reached.written) (fit_in_room setting refines.reached.steps refines.sound.net
      (subst MachineJournalHasRoom refines.reached.written (omega (arith, refines.bag.many, room)))) in
      subst CanRefinedSwitchRestart (sym own_is)
      (requirements_hold.restart setting journal s fit (own_up ∙ down))

  abbrev boot : ℕ
  boot = own.boot + 1

  abbrev booted : Item
  booted = Item.Booted s boot

  abbrev now : List Item
  now = journal ++ Item.Row row (Restart s) ∷ booted ∷ []

  split : rowed ++ booted ∷ [] ≡ now
  split = append_assoc journal (Item.Row row (Restart s) ∷ []) (booted ∷ [])

  own_boot : journal_boot_of journal s ≡ own.boot
  unfolding refined_switch_of
  own_boot = ap (λ (w : SwitchValue). w.boot) (sym own_is)

  boot_now : journal_boot_of now s ≡ boot
  unfolding journal_boot_of
  boot_now = cc (split, last_given_append (machine_item_gives_boot s) rowed (booted ∷ []), eq-eqb s s refl)

  abbrev hello : Message
  hello = message_to_controller (Hello s boot)

  number_is : journal_next_message now ≡ length state.posts + 1
  number_is =
      (messages_keep journal (Item.Row row (Restart s) ∷ booted ∷ []) (refl, (refl, tt))).next
      ∙ refines.bag.many

  pub boot_piece : own.is_up ≡ false → piece setting journal row (Restart s)
      ≡ Item.Row row (Restart s) ∷ booted ∷ Item.Sent (length state.posts + 1) hello ∷ []
  unfolding piece machine_restart_items machine_sent_items_from
  boot_piece down = ap (λ b. Item.Row row (Restart s) ∷ elim b [
    | true ↦ nothing
    | false ↦ journal_items_then (Item.Booted s (journal_boot_of rowed s + 1) ∷ [])
        (λ later. machine_send_items later (machine_hello_of later s ∷ [])) rowed
  ]) (rowed_up ∙ down)
      ∙ ap (λ b. Item.Row row (Restart s) ∷ journal_items_then (Item.Booted s (b + 1) ∷ [])
      (λ later. machine_send_items later (machine_hello_of later s ∷ [])) rowed)
      ((switch_keeps setting s journal (Item.Row row (Restart s) ∷ []) (refl, tt)).boot ∙ own_boot)
      ∙ ap (λ js. Item.Row row (Restart s) ∷ booted ∷ machine_send_items js (machine_hello_of js s ∷ [])) split
      ∙ ap (λ k. Item.Row row (Restart s) ∷ booted ∷ Item.Sent k (machine_hello_of now s) ∷ []) number_is
      ∙ ap (λ b. Item.Row row (Restart s) ∷ booted
      ∷ Item.Sent (length state.posts + 1) (message_to_controller (Hello s b)) ∷ []) boot_now

  -- a switch that is down serves not, nor does one that just booted
  serves_now : (x : ℕ) (b : Bool) → own.is_up ≡ false → (s == x) ≡ b
      → serves now x ≡ serves journal x
  unfolding serves
  serves_now x b down is =
      cc (split, last_given_append (machine_item_gives_serving x) rowed (booted ∷ []), is, by_own b is)
    where
      closed : (y : ℕ) → (s == y) ≡ true → serves journal y ≡ false
      closed y same = by_test (serves journal y) refl where
        by_test : (t : Bool) → serves journal y ≡ t → t ≡ false
        by_test false e = refl
        by_test true e =
            let up : is_up journal y ≡ true = (serving_known journal (caused_known setting journal
            (reached_known setting journal refines.sound refines.reached).caused)).up y e in
            let no = subst (λ k. is_up journal k ≡ false) (eqb-true s y same) (own_up ∙ down) in
            absurd cc

      by_own : (c : Bool) → (s == x) ≡ c → unwrap_or (option_or (if c then Some false else None)
          (journal_last_given (machine_item_gives_serving x) rowed)) true ≡ serves journal x
      by_own true same = sym (closed x same)
      by_own false other =
          (switch_keeps setting x journal (Item.Row row (Restart s) ∷ []) (refl, tt)).serving

  up_now : (link : LinkRow) → is_refined_up_link now link ≡ is_refined_up_link journal link
  unfolding is_link_up_in_journal
  up_now link = ap (λ js. is_refined_up_link js link) (sym split) ∙ search (last_given_append, append_assoc)

  near_now : own.is_up ≡ false → (q : ℕ) → near setting now q ≡ near setting journal q
  unfolding near
  near_now down q = cc (same_filter (is_usable_in_journal now) (is_usable_in_journal journal) setting.net.links
      (λ link. ap (λ u. u && serves now link.one && serves now link.two) (up_now link)
      ∙ ap (λ u. is_refined_up_link journal link && u && serves now link.two)
      (serves_now link.one (s == link.one) down refl) ∙ ap (λ u. is_refined_up_link journal link
      && serves journal link.one && u) (serves_now link.two (s == link.two) down refl)))

  abbrev items : List Item
  items = Item.Row row (Restart s) ∷ booted ∷ Item.Sent (length state.posts + 1) hello ∷ []

  caused_rowed : own.is_up ≡ false → JournalItemsHaveCauses (HasControlItemCause setting) [] rowed
  caused_rowed down = caused_first refines row (Restart s) []
      (booted ∷ Item.Sent (length state.posts + 1) hello ∷ []) may (boot_piece down)

  own_now : own.is_up ≡ false → restarted_switch own ≡ refined_switch_of setting now s
  own_now down = ap restarted_switch (own_is
      ∙ sym (kept_is setting s journal (Item.Row row (Restart s) ∷ []) (refl, tt) (refl, tt)))
      ∙ sym (lives_refine.restart setting rowed s (caused_rowed down))
      ∙ ap (λ b. refined_switch_of setting (rowed ++ Item.Booted s (b + 1) ∷ []) s)
      ((switch_keeps setting s journal (Item.Row row (Restart s) ∷ []) (refl, tt)).boot ∙ own_boot)
      ∙ ap (λ js. refined_switch_of setting js s) split

  other_now : own.is_up ≡ false → (q : ℕ) → (s == q) ≡ false
      → refined_switch_of setting now q ≡ refined_switch_of setting journal q
  other_now down q other =
      links_refine.relinked setting q journal row (Restart s) (booted ∷ []) (record {
        in_step = (tt, tt);
        apart = (refl, (other, tt));
        calls = (refl, (refl, tt));
      })
      ∙ ap (λ b. if b then near_changed (refined_switch_of setting journal q) (near setting now q)
      else refined_switch_of setting journal q) unchanged
    where
      unchanged : journal_usable_links_changed setting journal now q ≡ false
      unchanged = ap (λ n. is_up now q && not (near setting journal q == n)) (near_now down q)
          ∙ ap (λ b. is_up now q && not b) (eq-eqb (near setting journal q)
          (near setting journal q) refl) ∙ none (is_up now q)
        where
          none : (b : Bool) → (b && not true) ≡ false
          none true = refl
          none false = refl

  pub boot_refines : (changed : SwitchValue) → own.is_up ≡ false → changed ≡ restarted_switch own
      → RefineJournal setting (journal ++ items) (record state {
        switches = set state.switches s changed;
        posts = state.posts ++ new_bag_post hello ∷ [];
      })
  unfolding log_act_items log_act_posts
  boot_refines changed down changed_is = refines_told refines (record state {
    switches = set state.switches s changed;
  }) row (Restart s) (booted ∷ []) (PostAct hello ∷ []) (record {
    may = may;
    piece_is = boot_piece down;
    packet = λ i. (refl, (refl, tt));
    packets = (refl, (refl, tt));
    as_many = length-set state.switches s changed;
    each = λ q d below. one_changes setting journal now state.switches s q changed d (s == q)
        refl boot_there (changed_is ∙ own_now down) (other_now down q) (refines.each q d below);
    bag = bag_on journal (Item.Row row (Restart s) ∷ booted ∷ []) state.posts
        (refl, (refl, tt)) refines.bag;
    number = refl;
    controller = steps_leave setting journal row (Restart s) state.controller
        (reached_known setting journal refines.sound refines.reached).caused refl
        refines.controller;
    up = λ q below. refines.up q below ∙ ap (λ rows. links_of rows q)
        (sym (same_links now journal setting.net.links up_now));
    usable = λ q below. refines.usable q below ∙ sym (near_now down q);
  })
