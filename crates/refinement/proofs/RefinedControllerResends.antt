-- What the controller sends again, and what it is told of is there.
use Rattle.std.proofs.Common.{[], ◌&&◌, ◌++◌, ◌+◌, ◌-◌, ◌<◌, ◌==◌, ◌∙◌, ◌∷◌, ◌≡◌, ◌≢◌, ◌≤◌, Bool, IsFalse, IsTrue, List, Some, ap, arith, false, filter, find, if◌then◌else◌, length, map, nat_le, nat_lt, not, refl, suc, sym, true, ℕ}
use Rattle.base.proofs.Exports.{filter_made, map-append, map_twice, nat_tests, option_map_or, picked_same, range_with_len}
use Rattle.update_machine.specs.Exports.{Body, Collect, Hello, Installed, Item, Message, NoMachineItemConcerns, OpenAt, Resend, Setting, Stamp, Stamped, Step, acked_stamp, machine_collect_for, machine_item_concerns_controller, journal_current_mark, journal_install_for, journal_message_of, journal_open_for, open_version, piece, machine_resend_items, journal_resent_by_controller, journal_resent_by_switch, journal_resent_to_member, journal_retired_mark, machine_sends_or_nothing, journal_stamp_for, machine_message_to_switch, machine_touched_by, journal_unacked_installs, journal_version_count, journal_versions_from_current}
use Rattle.ctrl_msg.specs.Exports.{message_to_controller}
use Rattle.update_machine.specs.Marks as machine
use Rattle.control_laws.proofs.Exports.{bounded, others_keep}
use Rattle.control_laws.specs.Exports.{ControlBodiesNameThere, control_asks_controller}
use Rattle.version_update.specs.Exports.{MarksValue, has_acked, is_member, is_over, update_record_of}
use Rattle.version_update.specs.declared.record.Phase.{Phase}
use Rattle.version_update.specs.declared.record.Phase.TheVariants.{Joining, Member, Over}
use Rattle.version_update.specs.declared.record.SwitchRecord.{SwitchRecord}
use Rattle.controller.specs.Exports.{ControllerValue, ControllerKeptPlan, NamesWithinControllerMarks, ControllerReplyNamesExist, controller_current_plan_touched, controller_install_act, is_missing_controller_install, controller_missing_installs, controller_resend_acts, controller_resend_acts_to}
use Rattle.controller.specs.Sends as acts
use Rattle.controller.specs.declared.sends.Act.{Act}
use Rattle.controller.specs.declared.sends.Act.TheVariants.{Post}
use Rattle.refinement.specs.Exports.{AreMarksRefined, AreRefinedActsWritten, IsRefinedController, IsKnownRefined, refined_resend_acts, refined_plan_to_keep, refined_acts_written}
use Rattle.refinement.proofs.RefinedSettling.{AreCaused}
use Rattle.refinement.proofs.RefinedControllerPlans.{controller_on, find_kept, is_of}
use Rattle.switch_table.specs.Exports.{cache_all_touched}
use Rattle.ternary.specs.Exports.{WordValue}
use Rattle.update_machine.proofs.Exports.{controller_keeps}
use Rattle.refinement.proofs.RefinedControllerCalls.{behind_row, row_on}
use Rattle.refinement.proofs.RefinedKeptController.{posted}

-- ---- what is told to the controller names what it knows

names_both : (setting : Setting) (journal : List Item) (s v : ℕ) (marks : MarksValue)
    → AreMarksRefined setting journal marks → s < length setting.net.switches
    → (1 ≤ v) × (v ≤ journal_version_count journal) → NamesWithinControllerMarks s v marks
names_both setting journal s v marks are there version = let last = are.count in record {
  switch_is = omega (arith, there, are.many);
  first = version.0;
  last = omega (arith, version.1, last);
}

pub names_there : (setting : Setting) (journal : List Item) (n : ℕ) (body : Body)
    (marks : MarksValue) → ControlBodiesNameThere setting journal → AreMarksRefined setting journal marks
    → journal_message_of journal n ≡ Some (message_to_controller body) → ControllerReplyNamesExist body marks
names_there setting journal n (Hello s boot) marks names are sent =
    omega (arith, (names.sent n (message_to_controller (Hello s boot)) sent).addressed, are.many)
names_there setting journal n (Installed s boot v) marks names are sent =
    let named = names.sent n (message_to_controller (Installed s boot v)) sent in
    names_both setting journal s v marks are named.addressed named.version
names_there setting journal n (Stamped s boot v) marks names are sent =
    let named = names.sent n (message_to_controller (Stamped s boot v)) sent in
    names_both setting journal s v marks are named.addressed named.version
names_there setting journal n body marks names are sent = tt

-- ---- sending again

if_posted : (b : Bool) (message : Message)
    → (if b then Post message ∷ [] else []) ≡ map Post (if b then message ∷ [] else [])
if_posted true message = refl
if_posted false message = refl

if_retired : (mark : ℕ) (message : Message) → (if nat_lt 0 mark then Post message ∷ [] else [])
    ≡ map Post (if mark == 0 then [] else message ∷ [])
if_retired mark message =
    ap (λ b. if b then Post message ∷ [] else []) (grind (arith, nat_tests)) ∙ by_none (mark == 0)
  where
    by_none : (b : Bool) → (if not b then Post message ∷ [] else [])
        ≡ map Post (if b then [] else message ∷ [])
    by_none true = refl
    by_none false = refl

module _ (setting : Setting) (journal : List Item) (s : ℕ) (controller : ControllerValue)
    (have : AreCaused setting journal) (is : IsRefinedController setting journal controller)
    (own : IsKnownRefined journal s (update_record_of controller.marks s)) where
  abbrev known : SwitchRecord
  known = update_record_of controller.marks s

  abbrev low : ℕ
  low = journal_current_mark journal

  abbrev lacks : ℕ → ℕ → Bool
  lacks first v = is_missing_controller_install known first v

  abbrev again : ℕ → Act
  again v = controller_install_act s known.boot (refined_plan_to_keep setting journal v)

  abbrev versions : List ℕ
  versions = journal_versions_from_current journal

  -- the plans that it keeps are those of the versions
  of_versions : (first : ℕ) → controller_missing_installs controller s first
      ≡ map again (filter (lacks first) versions)
  of_versions first =
      ap (λ plans. map (controller_install_act s known.boot) (filter (λ kept. lacks first kept.version) plans))
      is.plans ∙ ap (map (controller_install_act s known.boot))
      (filter_made (refined_plan_to_keep setting journal) (λ kept. lacks first kept.version) versions)
      ∙ map_twice (refined_plan_to_keep setting journal) (controller_install_act s known.boot)
      (filter (lacks first) versions)

  -- of the versions from one on those that it didn't acknowledge
  from_on : IsFalse (machine.is_over journal s) → (first n : ℕ) → 1 ≤ first
      → map again (filter (lacks first) (range_with_len first n))
      ≡ map Post (journal_unacked_installs setting journal s (range_with_len first n))
  from_on none first n there = picked_same again (λ v. Post (journal_install_for setting journal v s))
      (lacks first) (λ v. not (machine.has_acked journal s v)) first n
      (λ v above below. let passes : nat_le first v ≡ true = grind (arith, nat_tests) in
      ap (λ b. b && not (has_acked known v)) passes
      ∙ ap not (own.acked none v (omega (arith, above, there))))
      (λ v above below lacking. ap (λ boot. controller_install_act s boot (refined_plan_to_keep setting journal v))
      own.boot)
      ∙ sym (map_twice (λ v. journal_install_for setting journal v s) Post
      (filter (λ v. not (machine.has_acked journal s v)) (range_with_len first n)))

  -- none of them is the current one
  after_current : map again (filter (lacks (low + 1)) versions) ≡ map again
      (filter (lacks (low + 1)) (range_with_len (low + 1) (journal_version_count journal - low)))
  after_current =
      let there = (bounded setting journal have).there in
      let many : journal_version_count journal + 1 - low ≡ suc (journal_version_count journal - low) =
      omega (arith, there) in
      let fails : nat_le (low + 1) low ≡ false = grind (arith, nat_tests) in
      let rest : List ℕ =
      filter (lacks (low + 1)) (range_with_len (low + 1) (journal_version_count journal - low)) in
      ap (λ n. map again (filter (lacks (low + 1)) (range_with_len low n))) many
      ∙ ap (λ b. map again (if b && not (has_acked known low) then low ∷ rest else rest)) fails

  -- what it keeps for the current version is what that version's change touches
  kept_says : controller_current_plan_touched controller ≡ machine_touched_by setting journal low
  kept_says = ap (λ o. option_map_or (λ (kept : ControllerKeptPlan). kept.touched) o cache_all_touched)
      (ap (λ c. find (is_of c) controller.plans) is.marks.current ∙ ap (find (is_of low)) is.plans
      ∙ find_kept setting journal low (journal_version_count journal + 1 - low) low (omega arith)
      (omega (arith, (bounded setting journal have).there)))

  to_member : IsTrue (machine.is_member journal s) → IsFalse (machine.is_over journal s)
      → controller_resend_acts_to Member controller s ≡ map Post (journal_resent_to_member setting journal s)
  to_member member none =
      let first : List Message = journal_unacked_installs setting journal s
      (range_with_len (low + 1) (journal_version_count journal - low)) in
      let stamp : List Message = if nat_lt (acked_stamp journal s) low
      then journal_stamp_for setting journal low s ∷ [] else [] in
      let collect : List Message = if journal_retired_mark journal == 0
      then [] else machine_collect_for journal (journal_retired_mark journal) s ∷ [] in
      let lacking = ap (λ c. controller_missing_installs controller s (c + 1)) is.marks.current
      ∙ of_versions (low + 1) ∙ after_current ∙ from_on none (low + 1) (journal_version_count journal - low)
      (omega arith) in
      let words : List WordValue = machine_touched_by setting journal low in
      let stamped = ap (λ these. acts.controller_stamp_again these controller.marks s) kept_says
      ∙ ap (λ c. if nat_lt known.acked_stamp c
      then Post (machine_message_to_switch s (Stamp known.boot c words)) ∷ [] else []) is.marks.current
      ∙ ap (λ a. if nat_lt a low then Post (machine_message_to_switch s (Stamp known.boot low words)) ∷ [] else [])
      (own.stamp member) ∙ ap (λ b. if nat_lt (acked_stamp journal s) low
      then Post (machine_message_to_switch s (Stamp b low words)) ∷ [] else []) own.boot
      ∙ if_posted (nat_lt (acked_stamp journal s) low) (journal_stamp_for setting journal low s) in
      let collected = ap (λ r. if nat_lt 0 r
      then Post (machine_message_to_switch s (Collect known.boot r)) ∷ [] else []) is.marks.retired
      ∙ ap (λ b. if nat_lt 0 (journal_retired_mark journal)
      then Post (machine_message_to_switch s (Collect b (journal_retired_mark journal))) ∷ [] else []) own.boot
      ∙ if_retired (journal_retired_mark journal) (machine_collect_for journal (journal_retired_mark journal) s) in
      ap (λ act. act ∷ controller_missing_installs controller s (controller.marks.current + 1)
      ++ acts.controller_stamp_again (controller_current_plan_touched controller) controller.marks s ++ acts.controller_resend_collects controller.marks s)
      (ap (λ b. Post (machine_message_to_switch s (OpenAt b known.open_version))) own.boot
      ∙ ap (λ v. Post (journal_open_for journal v s)) (own.opened member))
      ∙ ap (λ xs. Post (journal_open_for journal (open_version journal s) s) ∷ xs
      ++ acts.controller_stamp_again (controller_current_plan_touched controller) controller.marks s ++ acts.controller_resend_collects controller.marks s) lacking
      ∙ ap (λ xs. Post (journal_open_for journal (open_version journal s) s) ∷ map Post first ++ xs
      ++ acts.controller_resend_collects controller.marks s) stamped
      ∙ ap (λ xs. Post (journal_open_for journal (open_version journal s) s) ∷ map Post first
      ++ map Post stamp ++ xs) collected
      ∙ ap (λ xs. Post (journal_open_for journal (open_version journal s) s) ∷ xs ++ map Post collect)
      (sym (map-append Post first stamp))
      ∙ ap (λ xs. Post (journal_open_for journal (open_version journal s) s) ∷ xs)
      (sym (map-append Post (first ++ stamp) collect))

  -- by what it knows of the switch
  abbrev sent_by : Bool → Bool → List Message
  sent_by over member = elim over [
    | true ↦ []
    | false ↦ elim member [
      | true ↦ journal_resent_to_member setting journal s
      | false ↦ journal_unacked_installs setting journal s versions
    ]
  ]

  sent_in : (phase : Phase) → known.phase ≡ phase
      → map Post (sent_by (is_over phase) (is_member phase))
      ≡ map Post (journal_resent_by_controller setting journal s)
  unfolding journal_resent_by_controller
  sent_in phase e = cc (e, own.over, own.member)

  by_phase : (phase : Phase) → known.phase ≡ phase → controller_resend_acts_to phase controller s
      ≡ map Post (journal_resent_by_controller setting journal s)
  by_phase Over e = sent_in Over e
  by_phase Joining e = ap (controller_missing_installs controller s) is.marks.current ∙ of_versions low
      ∙ from_on (sym (sym (ap is_over e) ∙ own.over)) low (journal_version_count journal + 1 - low)
      (bounded setting journal have).first ∙ sent_in Joining e
  by_phase Member e =
      let member : true ≡ machine.is_member journal s = sym (ap is_member e) ∙ own.member in
      to_member (sym member) (sym (sym (ap is_over e) ∙ own.over)) ∙ sent_in Member e

pub resends : (setting : Setting) (journal : List Item) (s : ℕ) (controller : ControllerValue)
    → AreCaused setting journal → IsRefinedController setting journal controller
    → s < length controller.marks.switches
    → controller_resend_acts controller s ≡ map Post (journal_resent_by_controller setting journal s)
resends setting journal s controller have is there = by_phase setting journal s controller have is
    (is.marks.each s there) (update_record_of controller.marks s).phase refl

-- ---- what a resend writes, and the steps that leave the controller as it was

-- ---- what leaves the controller

pub items_leave : (setting : Setting) (before items : List Item) (controller : ControllerValue)
    → AreCaused setting before → NoMachineItemConcerns machine_item_concerns_controller before items
    → IsRefinedController setting before controller → IsRefinedController setting (before ++ items) controller
items_leave setting before items controller have none is =
    controller_on setting before items controller have (controller_keeps before items none) is

pub steps_leave : (setting : Setting) (before : List Item) (row : ℕ) (step : Step)
    (controller : ControllerValue) → AreCaused setting before
    → IsFalse (control_asks_controller before step) → IsRefinedController setting before controller
    → IsRefinedController setting (before ++ piece setting before row step) controller
steps_leave setting before row step controller have none is = controller_on setting before
    (piece setting before row step) controller have (others_keep setting before row step none) is

-- ---- a resend

module _ (setting : Setting) (before : List Item) (row s : ℕ) (controller : ControllerValue)
    (have : AreCaused setting before) (is : IsRefinedController setting before controller)
    (there : s < length controller.marks.switches) where
  abbrev here : List Item
  here = before ++ Item.Row row (Resend s) ∷ []

  abbrev messages : List Message
  messages = journal_resent_by_switch setting here s ++ journal_resent_by_controller setting here s

  acts_are : refined_resend_acts setting here s controller ≡ map Post messages
  acts_are = ap (λ xs. map Post (journal_resent_by_switch setting here s) ++ xs) (resends setting here s
      controller (behind_row setting before row (Resend s) have)
      (row_on setting before row (Resend s) controller have is) there) ∙ sym (map-append Post
      (journal_resent_by_switch setting here s) (journal_resent_by_controller setting here s))

  after : IsRefinedController setting (before ++ piece setting before row (Resend s)) controller
  after = steps_leave setting before row (Resend s) controller have refl is

  pub resends_nothing : refined_resend_acts setting here s controller ≡ []
      → AreRefinedActsWritten setting before (Item.Row row (Resend s) ∷ Item.Nothing ∷ []) [] controller
      (piece setting before row (Resend s))
  unfolding piece machine_resend_items
  resends_nothing none = record {
    same = cc (by_messages messages (sym acts_are ∙ none));
    after = after;
  } where
    by_messages : (told : List Message) → map Post told ≡ []
        → machine_sends_or_nothing here told ≡ Item.Nothing ∷ []
    by_messages [] e = refl
    by_messages (message ∷ told) e = absurd cc

  pub resends_some : refined_resend_acts setting here s controller ≢ []
      → AreRefinedActsWritten setting before (Item.Row row (Resend s) ∷ [])
      (refined_resend_acts setting here s controller) controller (piece setting before row (Resend s))
  unfolding piece machine_resend_items
  resends_some some = record {
    same = ap (λ items. Item.Row row (Resend s) ∷ items)
        (by_messages messages (λ e. some (acts_are ∙ e)) ∙ ap (refined_acts_written here) (sym acts_are));
    after = after;
  } where
    by_messages : (told : List Message) → map Post told ≢ []
        → machine_sends_or_nothing here told ≡ refined_acts_written here (map Post told)
    by_messages [] none = absurd (none refl)
    by_messages (message ∷ told) e = sym (posted (message ∷ told) here)
