-- What a switch and the controller send again: what is written, and the parts after it.
use Rattle.std.proofs.Common.{[], if◌then◌else◌, ◌++◌, ◌+◌, ◌<◌, ◌==◌, ◌∙◌, ◌∷◌, ◌≡◌, ◌≢◌, Bool, List, ap, arith, eqb-true, false, flat_map, get_or, length, map, refl, sym, true, ℕ}
use Rattle.message_bag.specs.Exports.{Post as BagPost}
use Rattle.refinement.specs.Exports.{AreRefinedActsWritten, IsRefinedBagOf, RefinedNetworkState, RefineJournal, refined_resend_acts, refined_switch_of}
use Rattle.refinement.proofs.RefinedControllerResends.{resends_nothing, resends_some}
use Rattle.controller.specs.Exports.{ControllerValue, controller_resend_acts}
use Rattle.controller.specs.declared.sends.Act.{Act}
use Rattle.controller.specs.declared.sends.Act.TheVariants.{Post}
use Rattle.update_machine.specs.Exports.{Advert, Hello, Item, Message, Resend, Setting, machine_advert_to, journal_boot_of, journal_held_adverts, is_up, near, piece, journal_resent_by_switch, machine_switches_in}
use Rattle.ctrl_msg.specs.Exports.{message_to_controller}
use Rattle.switch_core.specs.Exports.{SwitchValue}
use Rattle.refinement.proofs.RefinedSwitchLinks.{kept_is, links_refine}
use Rattle.update_machine.proofs.Exports.{near_stays}
use Rattle.world_log.specs.Exports.{LogMayNote, log_act_items, log_act_posts, world_log_adverts_again}
use Rattle.steps.specs.Exports.{IsStep}
use Rattle.travelling.specs.Travelling.{TravellingFlights}
use Rattle.refinement.proofs.RefinedActs.{may_note, refines_told, written_is}
use Rattle.refinement.proofs.RefinedBagDeliveries.{nothing_happens}
use Rattle.refinement.proofs.RefinedSteps.{WroteOne, links_stay, reached_known, up_stay}
use Rattle.refinement.proofs.RefinedPostedFrames.{bag_on}
use Rattle.refinement.proofs.RefinedNetworkSwitches.{switch_is, switch_known}

-- nothing is there to send, or something
none_there : (acts : List Act) → (length acts == 0) ≡ true → acts ≡ []
none_there [] none = refl
none_there (first ∷ acts) none = absurd (omega (arith, eqb-true (length (first ∷ acts)) 0 none))

some_there : (acts : List Act) → (length acts == 0) ≡ false → acts ≢ []
some_there acts some e = let none : (length acts == 0) ≡ true = ap (λ xs. length xs == 0) e in cc

-- what the calls made is what is to be sent
pub acts_same : (controller : ControllerValue) (s n count near had : ℕ) (own : SwitchValue)
    (told : List Message) (acts : List Act) → told ≡ world_log_adverts_again s n had own → n ≡ count
    → had ≡ near → acts ≡ controller_resend_acts controller s
    → map Post told ++ acts ≡ map Post (world_log_adverts_again s count near own) ++ controller_resend_acts controller s
acts_same controller s n count near had own told acts told_is count_is near_is acts_is =
    cc (acts_is, told_is, count_is, near_is)

-- what it sends these neighbours if it holds these adverts
abbrev told_by : SwitchValue → ℕ → List ℕ → List Advert → List Message
told_by switch s neighbours adverts = if switch.is_up then message_to_controller (Hello s switch.boot)
    ∷ flat_map (λ other. map (machine_advert_to other) adverts) neighbours else []

as_journal : (setting : Setting) (journal : List Item) (s : ℕ) (neighbours : List ℕ)
    (adverts : List Advert) → told_by (refined_switch_of setting journal s) s neighbours adverts
    ≡ elim (is_up journal s) [
      | false ↦ []
      | true ↦ message_to_controller (Hello s (journal_boot_of journal s))
          ∷ flat_map (λ other. map (machine_advert_to other) adverts) neighbours
    ]
unfolding refined_switch_of
as_journal setting journal s neighbours adverts = by_test (is_up journal s) where
  by_test : (b : Bool) → (if b then message_to_controller (Hello s (journal_boot_of journal s))
      ∷ flat_map (λ other. map (machine_advert_to other) adverts) neighbours else []) ≡ elim b [
        | false ↦ []
        | true ↦ message_to_controller (Hello s (journal_boot_of journal s))
            ∷ flat_map (λ other. map (machine_advert_to other) adverts) neighbours
      ]
  by_test true = refl
  by_test false = refl

module _ {setting : Setting} {journal : List Item} {state : RefinedNetworkState}
    (refines : RefineJournal setting journal state) where
  -- the packets on their way stayed
  pub sent_refines : (after : TravellingFlights) (bag : List BagPost) → after ≡ state.travelling
      → bag ≡ state.posts
      → RefineJournal setting journal (record state { travelling = after; posts = bag })
  sent_refines after bag stayed same = rw (stayed, same) refines

module _ {setting : Setting} {journal : List Item} {state : RefinedNetworkState}
    (refines : RefineJournal setting journal state) (row s : ℕ) (own : SwitchValue)
    (may : IsStep setting.net (length setting.files) (Resend s))
    (own_at : own ≡ get_or state.switches s own) where
  abbrev rowed : List Item
  rowed = journal ++ Item.Row row (Resend s) ∷ []

  abbrev messages : List Message
  messages = world_log_adverts_again s (length state.switches) (get_or state.near s 0) own

  abbrev acts : List Act
  acts = map Post messages ++ controller_resend_acts state.controller s

  own_is : own ≡ refined_switch_of setting rowed s
  own_is = switch_is refines s own may own_at
      ∙ sym (kept_is setting s journal (Item.Row row (Resend s) ∷ []) (refl, tt) (refl, tt))

  near_is : get_or state.near s 0 ≡ near setting rowed s
  near_is = refines.usable s (omega (arith, may, refines.sound.net.few_switches))
      ∙ sym (near_stays setting s journal (Item.Row row (Resend s) ∷ []) (refl, tt))

  -- what a switch tells again, as the journal says
  by_switch : world_log_adverts_again s (length setting.net.switches) (near setting rowed s)
      (refined_switch_of setting rowed s) ≡ journal_resent_by_switch setting rowed s
  by_switch =
      ap (told_by (refined_switch_of setting rowed s) s (machine_switches_in setting (near setting rowed s)))
      (sym (links_refine.held setting rowed s)) ∙ as_journal setting rowed s
      (machine_switches_in setting (near setting rowed s)) (journal_held_adverts setting rowed s)

  acts_are : acts ≡ refined_resend_acts setting rowed s state.controller
  acts_are = ap (λ told. map Post told ++ controller_resend_acts state.controller s)
      (ap (λ n. world_log_adverts_again s n (get_or state.near s 0) own) refines.many
      ∙ ap (λ n. world_log_adverts_again s (length setting.net.switches) n own) near_is
      ∙ ap (world_log_adverts_again s (length setting.net.switches) (near setting rowed s)) own_is
      ∙ by_switch)

  -- ---- nothing is sent

  pub silent : (length acts == 0) ≡ true
      → WroteOne setting journal row (Resend s) Item.Nothing state
  silent none = nothing_happens refines row (Resend s) may (λ q. refl)
      (resends_nothing setting journal row s state.controller
      (reached_known setting journal refines.sound refines.reached).caused refines.controller
      (switch_known refines s may) (sym acts_are ∙ none_there acts none)).same

  -- ---- something is sent

  module _ (some : (length acts == 0) ≡ false) where
    bag_behind : IsRefinedBagOf rowed state.posts
    bag_behind = bag_on journal (Item.Row row (Resend s) ∷ []) state.posts (refl, tt) refines.bag

    resent_so : AreRefinedActsWritten setting journal (Item.Row row (Resend s) ∷ [])
        (refined_resend_acts setting rowed s state.controller) state.controller
        (piece setting journal row (Resend s))
    resent_so = resends_some setting journal row s state.controller
        (reached_known setting journal refines.sound refines.reached).caused refines.controller
        (switch_known refines s may) (λ e. some_there acts some (acts_are ∙ e))

    pub again_piece : piece setting journal row (Resend s)
        ≡ Item.Row row (Resend s) ∷ log_act_items (length state.posts + 1) acts
    again_piece = resent_so.same ∙ ap (λ items. Item.Row row (Resend s) ∷ items)
        (written_is rowed (refined_resend_acts setting rowed s state.controller)
        ∙ ap (λ k. log_act_items k (refined_resend_acts setting rowed s state.controller)) bag_behind.many
        ∙ ap (log_act_items (length state.posts + 1)) (sym acts_are))

    pub again_refines : RefineJournal setting (journal ++ Item.Row row (Resend s)
        ∷ log_act_items (length state.posts + 1) acts)
        (record state { posts = state.posts ++ log_act_posts acts })
    again_refines = refines_told refines state row (Resend s) [] acts (record {
      may = may;
      piece_is = again_piece;
      packet = λ i. (refl, tt);
      packets = (refl, tt);
      as_many = refl;
      each = λ q d below. refines.each q d below
          ∙ sym (kept_is setting q journal (Item.Row row (Resend s) ∷ []) (refl, tt) (refl, tt));
      bag = bag_behind;
      number = refl;
      controller = resent_so.after;
      up = up_stay refines (Item.Row row (Resend s) ∷ []) (refl, tt);
      usable = links_stay refines (Item.Row row (Resend s) ∷ []) (refl, tt);
    })

    pub again_may : length state.posts < 990_000 → LogMayNote state.posts acts
    again_may = may_note refines row (Resend s) [] state.posts acts may again_piece refl
