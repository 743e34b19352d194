-- A policy is submitted or refused: what is written then, and what the parts are behind it.
use Rattle.std.proofs.Common.{[], ◌++◌, ◌+◌, ◌-◌, ◌<◌, ◌==◌, ◌∙◌, ◌∷◌, ◌≡◌, ◌≢◌, ◌≤◌, All, Err, List, None, Ok, Some, ap, append-nil, arith, cond, false, filter, get_or, if◌then◌else◌, length, map, refl, rules, slice_get, subst, sym, ℕ}
use Rattle.base.proofs.Exports.{All-nil, get_or-map-range_with_len, length-map-range_with_len, nat_tests, range_with_len}
use Rattle.refinement.specs.Exports.{AreRefinedActsWritten, IsRefinedBagOf, IsRefinedController, IsNextPlanRefined, RefinedNetworkState, RefineJournal, refined_flight_in, is_refined_up_link, refined_plan_to_keep, refined_switch_begun, refined_switch_of}
use Rattle.refinement.proofs.RefinedControllerResends.{items_leave}
use Rattle.refinement.proofs.RefinedSubmissions.{submits, too_many_live, too_many_versions}
use Rattle.controller.specs.Exports.{ControllerValue, ControllerPlanValue, ControllerSubmitsPlan, controller_at_start, controller_newest_policy, controller_next_kept_plan, controller_submit_acts}
use Rattle.controller.specs.declared.sends.Act.{Act}
use Rattle.update_machine.specs.Exports.{Inapplicable, IsMachineSetting, Item, LinkRow, NamesMachineSettingPort, Net, JournalPoliciesKeep, PolicyFile, Row, Setting, Step, Update, Whole, machine_apply_code, journal_items_then, machine_policy_made_by, journal_next_packet, piece, journal_plan_at, machine_plan_code, machine_policy_at, machine_policy_in, machine_setting_of, machine_submitted_items, machine_touched_of, travels_in_journal, machine_update_code, machine_update_items, journal_version_count}
use Rattle.partition.specs.Plan.{HostedPolicyPartition, partition_plan_of}
use Rattle.policy_rules.specs.Exports.{PolicyFileRowsAre, IsSoundPolicyFile, NoPolicyPlan}
use Rattle.steps.specs.Exports.{IsStep}
use Rattle.update_machine.proofs.Exports.{first_version_is, next_by, policies_keep, setting_begun, start_laws, unapplied_code, unplanned_code}
use Rattle.world_log.specs.Exports.{AreLogNearMasks, LogMayNote, log_act_items, log_act_posts}
use Rattle.refinement.proofs.RefinedActs.{may_note, refines_told, written_is}
use Rattle.refinement.proofs.RefinedSteps.{grown, links_stay, reached_known, switches_stay, up_stay}
use Rattle.refinement.proofs.RefinedControllerPlans.{newest_in}
use Rattle.refinement.proofs.RefinedPostedFrames.{bag_begun, bag_on}
use Rattle.ternary.specs.Exports.{WordValue}
use Rattle.refinement.proofs.RefinedControllerCalls.{begins}
use Rattle.net_file.specs.Exports.{IsNet, links_of}
use Rattle.switch_core.specs.Exports.{SwitchValue}

-- ---- the file of an update

module _ {setting : Setting} {journal : List Item} {state : RefinedNetworkState}
    (refines : RefineJournal setting journal state) where
  -- the policy of the newest version is the one that the controller keeps, and a row leaves it
  pub newest_refines : (row : ℕ) (step : Step) (newest : List Row)
      → controller_newest_policy state.controller ≡ Some newest
      → (machine_policy_in setting journal (journal_version_count journal) ≡ Some newest)
      × (machine_policy_in setting (journal ++ Item.Row row step ∷ [])
      (journal_version_count (journal ++ Item.Row row step ∷ [])) ≡ Some newest)
  newest_refines row step newest is =
      let here : List Item = journal ++ Item.Row row step ∷ [] in
      let keep = policies_keep journal (Item.Row row step ∷ []) (refl, tt) in
      let own : machine_policy_in setting journal (journal_version_count journal) ≡ Some newest =
      sym (newest_in setting journal state.controller refines.sound (reached_known setting journal
      refines.sound refines.reached).caused refines.controller) ∙ is in (
        own,
        ap (machine_policy_in setting here) keep.count ∙ keep.rows setting (journal_version_count journal) ∙ own,
      )

-- a plan of what the file makes of it is that of the next version
pub planned_next : (net : Net) (files : List PolicyFile) (journal : List Item) (file : ℕ)
    (newest : List Row) (plan : ControllerPlanValue) (touched : List WordValue) → 1 ≤ file
    → machine_policy_in (machine_setting_of net files) journal (journal_version_count journal) ≡ Some newest
    → machine_policy_made_by (slice_get files (file - 1)) (Some newest) ≡ Ok plan.policy
    → partition_plan_of plan.policy net ≡ Ok plan.hosted
    → touched ≡ machine_touched_of (slice_get files (file - 1)) (Some newest)
    → IsNextPlanRefined (machine_setting_of net files) journal file plan touched
planned_next net files journal file newest plan touched first is made planned told = record {
  policy = next_by (machine_setting_of net files) journal file newest first is ∙ made;
  hosted = planned;
  touches = let later : (file == 0) ≡ false = grind (arith, nat_tests) in
      told ∙ ap (machine_touched_of (slice_get files (file - 1))) (sym is)
      ∙ ap (λ b. machine_touched_of (if b then None else slice_get files (file - 1))
      (machine_policy_in (machine_setting_of net files) journal (journal_version_count journal))) (sym later);
}

-- where it makes none, or one without a plan, the update is refused with the code of the cause
pub unapplied_next : (net : Net) (files : List PolicyFile) (journal : List Item) (file : ℕ)
    (newest : List Row) (why : Inapplicable) → 1 ≤ file
    → machine_policy_in (machine_setting_of net files) journal (journal_version_count journal) ≡ Some newest
    → machine_policy_made_by (slice_get files (file - 1)) (Some newest) ≡ Err why
    → machine_update_code (machine_setting_of net files) journal file ≡ Some (machine_apply_code why)
unapplied_next net files journal file newest why first is made =
    unapplied_code (machine_setting_of net files) journal file why
    (next_by (machine_setting_of net files) journal file newest first is ∙ made)

pub unplanned_next : (net : Net) (files : List PolicyFile) (journal : List Item) (file : ℕ)
    (newest rows : List Row) (why : NoPolicyPlan) → 1 ≤ file
    → machine_policy_in (machine_setting_of net files) journal (journal_version_count journal) ≡ Some newest
    → machine_policy_made_by (slice_get files (file - 1)) (Some newest) ≡ Ok rows → partition_plan_of rows net ≡ Err why
    → machine_update_code (machine_setting_of net files) journal file ≡ Some (machine_plan_code why)
unplanned_next net files journal file newest rows why first is made none =
    unplanned_code (machine_setting_of net files) journal file rows why
    (next_by (machine_setting_of net files) journal file newest first is ∙ made) none

pub refused_piece : (setting : Setting) (journal : List Item) (row file code : ℕ)
    → machine_update_code setting (journal ++ Item.Row row (Update file) ∷ []) file ≡ Some code
    → piece setting journal row (Update file)
    ≡ Item.Row row (Update file) ∷ Item.Refused file code ∷ []
unfolding piece machine_update_items
refused_piece setting journal row file code is =
    let rowed : List Item = journal ++ Item.Row row (Update file) ∷ [] in
    ap (λ o. Item.Row row (Update file) ∷ elim o [
      | Some k ↦ Item.Refused file k ∷ []
      | None ↦ journal_items_then (Item.Submitted file (journal_version_count rowed + 1) ∷ [])
          (machine_submitted_items setting) rowed
    ]) is

-- ---- the tie

module _ {setting : Setting} {journal : List Item} {state : RefinedNetworkState}
    (refines : RefineJournal setting journal state) (row file : ℕ)
    (may : IsStep setting.net (length setting.files) (Update file)) where
  abbrev first : Item → List Item
  first one = Item.Row row (Update file) ∷ one ∷ []

  -- nothing is sent, and the controller stays
  pub refused_refines : (code : ℕ) → piece setting journal row (Update file)
      ≡ Item.Row row (Update file) ∷ Item.Refused file code ∷ []
      → RefineJournal setting (grown journal row (Update file) (Item.Refused file code)) state
  unfolding log_act_items log_act_posts
  refused_refines code is =
      let one : Item = Item.Refused file code in
      let controller = subst (λ more. IsRefinedController setting (journal ++ more) state.controller)
      (sym is) (items_leave setting journal (first one) state.controller (reached_known setting
      journal refines.sound refines.reached).caused (refl, (refl, tt)) refines.controller) in
      subst (λ posts. RefineJournal setting (grown journal row (Update file) one)
      (record state { posts = posts })) (append-nil state.posts)
      (refines_told refines state row (Update file) (one ∷ []) []
      (search (rules, switches_stay, bag_on, links_stay, up_stay)))

  module _ (plan : ControllerPlanValue) (touched : List WordValue) (new : ControllerValue)
      (of_next : IsNextPlanRefined setting journal file plan touched)
      (live : state.controller.marks.count - state.controller.marks.retired ≢ 8)
      (versions : state.controller.marks.count ≢ 64)
      (submitted : ControllerSubmitsPlan state.controller (controller_next_kept_plan state.controller plan touched) new)
    where
      abbrev version : ℕ
      version = state.controller.marks.count + 1

      abbrev one : Item
      one = Item.Submitted file version

      abbrev acts : List Act
      acts = controller_submit_acts state.controller.marks (controller_next_kept_plan state.controller plan touched) new

      bag_behind : IsRefinedBagOf (grown journal row (Update file) one) state.posts
      bag_behind = bag_on journal (first one) state.posts (refl, (refl, tt)) refines.bag

      submits_so : AreRefinedActsWritten setting journal (first one) acts new
          (piece setting journal row (Update file))
      submits_so = submits setting journal row file state.controller new plan touched
          (reached_known setting journal refines.sound refines.reached).caused refines.controller
          of_next live versions submitted

      pub submitted_piece : piece setting journal row (Update file)
          ≡ Item.Row row (Update file) ∷ one ∷ log_act_items (length state.posts + 1) acts
      submitted_piece =
          cc (submits_so.same, written_is (journal ++ first one) acts, bag_behind.many)

      pub submitted_refines : RefineJournal setting (journal ++ Item.Row row (Update file) ∷ one
          ∷ log_act_items (length state.posts + 1) acts)
          (record state { controller = new; posts = state.posts ++ log_act_posts acts })
      submitted_refines = refines_told refines (record state { controller = new }) row
          (Update file) (one ∷ []) acts
          (search (rules, submitted_piece, bag_behind, submits_so, switches_stay, links_stay, up_stay))

      -- and it may be written
      pub submitted_may : length state.posts < 990_000 → LogMayNote state.posts acts
      submitted_may = may_note refines row (Update file) (one ∷ []) state.posts acts may
          submitted_piece refl

-- ---- what the marks refuse

module _ {setting : Setting} {journal : List Item} {state : RefinedNetworkState}
    (refines : RefineJournal setting journal state) (row file : ℕ) (plan : ControllerPlanValue)
    (touched : List WordValue) (of_next : IsNextPlanRefined setting journal file plan touched) where
  pub live_piece : state.controller.marks.count - state.controller.marks.retired ≡ 8
      → piece setting journal row (Update file)
      ≡ Item.Row row (Update file) ∷ Item.Refused file 16 ∷ []
  live_piece live = (too_many_live setting journal row file state.controller plan touched
      (reached_known setting journal refines.sound refines.reached).caused refines.controller
      of_next live).same

  pub versions_piece : state.controller.marks.count - state.controller.marks.retired ≢ 8
      → state.controller.marks.count ≡ 64 → piece setting journal row (Update file)
      ≡ Item.Row row (Update file) ∷ Item.Refused file 17 ∷ []
  versions_piece live many = (too_many_versions setting journal row file state.controller plan
      touched (reached_known setting journal refines.sound refines.reached).caused
      refines.controller of_next live many).same

-- ---- a world in which nothing happened yet is as its journal says

-- a switch before the first item
switch_first : (setting : Setting) (s : ℕ) → s < length setting.net.switches
    → length setting.net.switches ≤ 64
    → refined_switch_of setting [] s ≡ refined_switch_begun setting.net (journal_plan_at setting [] 1) s
unfolding refined_switch_of
switch_first setting s there few = rw (
  start_laws.boot s,
  start_laws.up s,
  start_laws.serving s,
  start_laws.stamp s,
  start_laws.heard s,
  start_laws.adverts setting s there few,
  start_laws.seq setting s,
  start_laws.versions s 1,
  start_laws.cache setting s,
  start_laws.handled s,
) refl

-- the controller's plan is that of the first version
of_first : (net : Net) (files : List PolicyFile) (plan : ControllerPlanValue)
    → slice_get files 0 ≡ Some (Whole plan.policy) → partition_plan_of plan.policy net ≡ Ok plan.hosted
    → plan ≡ (refined_plan_to_keep (machine_setting_of net files) [] 1).plan
of_first net files plan whole is =
    let first = first_version_is net files plan.policy plan.hosted whole is in
    ap (λ policy. of policy plan.hosted) (sym first.0)
    ∙ ap (of (machine_policy_at (machine_setting_of net files) [] 1)) (sym first.1)
  where
    of : List Row → List HostedPolicyPartition → ControllerPlanValue
    of policy hosted = record { policy = policy; hosted = hosted }

-- all links are up
all_up : (links : List LinkRow) → filter (is_refined_up_link []) links ≡ links
all_up [] = refl
all_up (link ∷ links) = cc (start_laws.links link.one link.two, all_up links)

pub begun_refines : (net : Net) (files : List PolicyFile) (plan : ControllerPlanValue)
    (switches : List SwitchValue) (controller : ControllerValue) (near : List ℕ) → IsNet net
    → slice_get files 0 ≡ Some (Whole plan.policy) → All IsSoundPolicyFile files
    → All (PolicyFileRowsAre (λ row. NamesMachineSettingPort (machine_setting_of net files) row.action)) files
    → partition_plan_of plan.policy net ≡ Ok plan.hosted
    → switches ≡ map (refined_switch_begun net plan.hosted) (range_with_len 0 (length net.switches))
    → controller ≡ controller_at_start (length net.switches) plan → AreLogNearMasks net near
    → RefineJournal (machine_setting_of net files) [] (record {
      switches = switches;
      travelling = [];
      packets = 0;
      controller = controller;
      posts = [];
      links = near;
      near = near;
    })
unfolding refined_flight_in travels_in_journal journal_next_packet
begun_refines net files plan switches controller near sound whole given ports is made first_is
    masks =
    let setting : Setting = machine_setting_of net files in
    let own = setting_begun net files plan.policy plan.hosted sound whole given ports is in
    let first : journal_plan_at setting [] 1 ≡ plan.hosted =
    (first_version_is net files plan.policy plan.hosted whole is).1 in
    let many = ap length made
    ∙ length-map-range_with_len (refined_switch_begun net plan.hosted) 0 (length net.switches) in record {
      sound = own;
      reached = record {
        steps = [];
        own = All-nil (λ next. IsStep setting.net (length setting.files) next.step);
        written = refl;
      };
      many = many;
      each = λ s d there. let own : s < length net.switches = omega (arith, there, many) in
          ap (λ all. get_or all s d) made
          ∙ get_or-map-range_with_len (refined_switch_begun net plan.hosted) 0 (length net.switches) s s d
          own (omega arith)
          ∙ sym (switch_first setting s own sound.few_switches
          ∙ ap (λ hosted. refined_switch_begun net hosted s) first);
      packet = λ i. refl;
      counted = refl;
      controller = rw first_is (begins setting plan (of_first net files plan whole is));
      bag = bag_begun;
      up = λ s below. masks s below ∙ ap (λ rows. links_of rows s) (sym (all_up net.links));
      usable = λ s below. masks s below ∙ sym (start_laws.near setting s);
    }
