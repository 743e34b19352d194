-- A switch that is down is confirmed to be gone: what is written, and the parts after it.
use Rattle.std.proofs.Common.{[], ◌++◌, ◌+◌, ◌<◌, ◌∙◌, ◌∷◌, ◌≡◌, List, ap, false, get_or, length, refl, rules, sym, true, ℕ}
use Rattle.refinement.specs.Exports.{AreRefinedActsWritten, IsRefinedBagOf, RefinedNetworkState, RefineJournal, refined_switch_of}
use Rattle.refinement.proofs.RefinedControllerCalls.{confirms}
use Rattle.controller.specs.Exports.{ControllerValue, ControllerSettlesWith, controller_current_plan_touched, controller_settling_acts}
use Rattle.controller.specs.declared.sends.Act.{Act}
use Rattle.update_machine.specs.Exports.{Confirm, Item, Setting, machine_confirm_items, is_up, journal_items_then, nothing, piece}
use Rattle.switch_core.specs.Exports.{SwitchValue}
use Rattle.steps.specs.Exports.{IsStep}
use Rattle.update_machine.specs.Settling as machine
use Rattle.update_machine.proofs.Exports.{switch_keeps}
use Rattle.version_update.specs.Exports.{mark_record_after_over, version_marks_with_switch_changed}
use Rattle.world_log.specs.Exports.{LogMayNote, log_act_items, log_act_posts}
use Rattle.refinement.proofs.RefinedActs.{may_note, refines_told, written_is}
use Rattle.refinement.proofs.RefinedBagDeliveries.{nothing_happens}
use Rattle.refinement.proofs.RefinedSteps.{WroteOne, links_stay, reached_known, switches_stay, up_stay}
use Rattle.refinement.proofs.RefinedPostedFrames.{bag_on}
use Rattle.refinement.proofs.RefinedNetworkSwitches.{switch_is, switch_known}

-- a switch is up as the journal says
pub up_as : (setting : Setting) (journal : List Item) (s : ℕ)
    → (refined_switch_of setting journal s).is_up ≡ is_up journal s
unfolding refined_switch_of
up_as setting journal s = refl

module _ {setting : Setting} {journal : List Item} {state : RefinedNetworkState}
    (refines : RefineJournal setting journal state) (row s : ℕ) (own : SwitchValue)
    (may : IsStep setting.net (length setting.files) (Confirm s))
    (own_at : own ≡ get_or state.switches s own) where
  own_up : is_up journal s ≡ own.is_up
  own_up = cc (up_as setting journal s, switch_is refines s own may own_at)

  pub still_up : own.is_up ≡ true → WroteOne setting journal row (Confirm s) Item.Nothing state
  unfolding piece machine_confirm_items
  still_up up =
      let rowed : List Item = journal ++ Item.Row row (Confirm s) ∷ [] in
      let here : is_up rowed s ≡ true =
      (switch_keeps setting s journal (Item.Row row (Confirm s) ∷ []) (refl, tt)).up
      ∙ own_up ∙ up in
      nothing_happens refines row (Confirm s) may
      (λ q. refl) (ap (λ b. Item.Row row (Confirm s) ∷ elim b [
        | true ↦ nothing
        | false ↦ journal_items_then (Item.OverNow s ∷ []) (machine.machine_settling setting) rowed
      ]) here)

  module _ (new : ControllerValue) (down : own.is_up ≡ false) (settles : ControllerSettlesWith (version_marks_with_switch_changed s
      mark_record_after_over state.controller.marks) state.controller.plans new) where
    abbrev acts : List Act
    acts = controller_settling_acts (controller_current_plan_touched new)
        (version_marks_with_switch_changed s mark_record_after_over state.controller.marks) new.marks

    abbrev first : List Item
    first = Item.Row row (Confirm s) ∷ Item.OverNow s ∷ []

    bag_behind : IsRefinedBagOf (journal ++ first) state.posts
    bag_behind = bag_on journal first state.posts (refl, (refl, tt)) refines.bag

    confirms_so : AreRefinedActsWritten setting journal first acts new (piece setting journal row (Confirm s))
    confirms_so = confirms setting journal row s state.controller new
        (reached_known setting journal refines.sound refines.reached).caused refines.controller
        (own_up ∙ down) (switch_known refines s may) settles

    pub gone_piece : piece setting journal row (Confirm s) ≡ Item.Row row (Confirm s)
        ∷ Item.OverNow s ∷ log_act_items (length state.posts + 1) acts
    gone_piece = cc (confirms_so.same, written_is (journal ++ first) acts, bag_behind.many)

    pub gone_refines : RefineJournal setting (journal ++ Item.Row row (Confirm s) ∷ Item.OverNow s
        ∷ log_act_items (length state.posts + 1) acts)
        (record state { controller = new; posts = state.posts ++ log_act_posts acts })
    gone_refines = refines_told refines (record state { controller = new }) row (Confirm s)
        (Item.OverNow s ∷ []) acts
        (search (rules, gone_piece, bag_behind, confirms_so, switches_stay, links_stay, up_stay))

    pub gone_may : length state.posts < 990_000 → LogMayNote state.posts acts
    gone_may = may_note refines row (Confirm s) (Item.OverNow s ∷ []) state.posts acts may
        gone_piece refl
