-- What a controller sends at each call, in order, as a function of its marks before and after it
-- and of its plans. The two phases are those of Reitblatt, Foster, Rexford, Schlesinger and Walker,
-- "Abstractions for Network Update".
use Rattle.std.specs.Prelude.{[], if◌then◌else◌, ◌&&◌, ◌++◌, ◌+◌, ◌<◌, ◌∷◌, ◌≤◌, Bool, List, false, filter, length, map, nat_le, nat_lt, not, slice_get, ℕ, ⊤}
use Rattle.base.specs.Exports.{option_map_or, range_with_len}
use Rattle.ctrl_msg.specs.declared.message.Body.{Body}
use Rattle.ctrl_msg.specs.declared.message.Body.TheVariants.{Install, OpenAt, Stamp, Collect, Hello, Installed, Stamped}
use Rattle.ctrl_msg.specs.declared.message.Place.TheVariants.{Switch}
use Rattle.switch_table.specs.Exports.{tables_of}
use Rattle.version_update.specs.Exports.{MarksValue, mark_record_after_installed, update_after_stamped, version_marks_with_switch_changed, has_acked, update_hello_recorded, is_member, is_over, update_joining_opens_at, update_record_of, update_takes_hello, version_marks_with_version}
use Rattle.version_update.specs.declared.record.Phase.{Phase}
use Rattle.version_update.specs.declared.record.Phase.TheVariants.{Joining, Member, Over}
use Rattle.version_update.specs.declared.record.SwitchRecord.{SwitchRecord}
use Rattle.controller.specs.Controller.{ControllerKeptPlan, ControllerValue, controller_current_plan_touched, controller_kept_plans_from}
use Rattle.controller.specs.declared.sends.Act.{Act}
use Rattle.controller.specs.declared.sends.Act.TheVariants.{Current, Retired, Post}
use Rattle.ternary.specs.Exports.{WordValue}

-- ---- messages

-- a message to a switch
abbrev pub controller_post_act : ℕ → Body → Act
controller_post_act s body = Post (record { to = Switch s; body = body })

-- the tables that the version's plan gives the switch
abbrev pub controller_install_act : ℕ → ℕ → ControllerKeptPlan → Act
controller_install_act s boot kept = controller_post_act s (Install boot (tables_of kept.plan.hosted kept.version s))

-- the known boot of a switch
abbrev pub controller_recorded_boot : MarksValue → ℕ → ℕ
controller_recorded_boot marks s = (update_record_of marks s).boot

-- the switches that pass, by ascending number
abbrev pub controller_switches_by_record : (SwitchRecord → Bool) → List SwitchRecord → List ℕ
controller_switches_by_record passes switches =
    filter (λ s. option_map_or passes (slice_get switches s) false)
    (range_with_len 0 (length switches))

-- to each of these switches the message for its known boot
abbrev pub controller_posts_to : MarksValue → (ℕ → Body) → List ℕ → List Act
controller_posts_to marks body switches = map (λ s. controller_post_act s (body (controller_recorded_boot marks s))) switches

-- ---- settling

-- if a mark rose: its act, and then a message to each member among these switches
abbrev pub controller_mark_rising_acts : ℕ → ℕ → (ℕ → Act) → (ℕ → ℕ → Body) → MarksValue → List SwitchRecord
    → List Act
controller_mark_rising_acts old new says body marks switches = if nat_lt old new
    then says new ∷ controller_posts_to marks (λ boot. body boot new)
    (controller_switches_by_record (λ known. is_member known.phase) switches) else []

-- a new current version, and its stamps to the members from before, with what its change touches:
-- they have its tables, and those that join open at it
abbrev pub controller_stamp_acts : List WordValue → MarksValue → MarksValue → List Act
controller_stamp_acts touched before after =
    controller_mark_rising_acts before.current after.current Current (λ boot version. Stamp boot version touched)
    after before.switches

-- the new members open at the current version, which they acknowledged
abbrev pub controller_open_acts : MarksValue → MarksValue → List Act
controller_open_acts before after = controller_posts_to after (λ boot. OpenAt boot after.current)
    (controller_switches_by_record (update_joining_opens_at after.current) before.switches)

-- a newly retired version, and to all members the message to drop the tables up to it: no member
-- stamps with it any more
abbrev pub controller_collect_acts : MarksValue → MarksValue → List Act
controller_collect_acts before after =
    controller_mark_rising_acts before.retired after.retired Retired Collect after after.switches

-- what is sent when marks settle, if the change of the current version touches these words
abbrev pub controller_settling_acts : List WordValue → MarksValue → MarksValue → List Act
controller_settling_acts touched before after = controller_stamp_acts touched before after ++ controller_open_acts before after
    ++ controller_collect_acts before after

-- ---- the calls

-- the new version to each switch that isn't over; then settling
abbrev pub controller_submit_acts : MarksValue → ControllerKeptPlan → ControllerValue → List Act
controller_submit_acts old next new =
    map (λ s. controller_install_act s (controller_recorded_boot old s) next)
    (controller_switches_by_record (λ known. not (is_over known.phase)) old.switches)
    ++ controller_settling_acts (controller_current_plan_touched new) (version_marks_with_version old) new.marks

-- what a message changes of what is known
abbrev pub controller_marks_after : Body → MarksValue → MarksValue
controller_marks_after (Hello switch boot) marks = version_marks_with_switch_changed switch (update_hello_recorded boot) marks
controller_marks_after (Installed switch boot version) marks =
    version_marks_with_switch_changed switch (mark_record_after_installed boot version) marks
controller_marks_after (Stamped switch boot version) marks =
    version_marks_with_switch_changed switch (update_after_stamped boot version) marks
controller_marks_after _ marks = marks

-- to a switch in a new boot, which has no tables: those of the versions from the current one to the
-- last
abbrev pub controller_installs_after : Body → MarksValue → ControllerValue → List Act
controller_installs_after (Hello switch boot) old new = if update_takes_hello boot (update_record_of old switch)
    then map (controller_install_act switch boot) (controller_kept_plans_from new.marks.current new.plans) else []
controller_installs_after _ old new = []

-- settling, and then what a new boot lacks
abbrev pub controller_hear_acts : Body → MarksValue → ControllerValue → List Act
controller_hear_acts body old new = controller_settling_acts (controller_current_plan_touched new) (controller_marks_after body old) new.marks
    ++ controller_installs_after body old new

-- the switch exists, and so does the version
pub record NamesWithinControllerMarks (switch version : ℕ) (marks : MarksValue) : Type 0 where
  pub switch_is : switch < length marks.switches
  pub first : 1 ≤ version
  pub last : version ≤ marks.count

-- what a body for the controller names exists
abbrev pub ControllerReplyNamesExist : Body → MarksValue → Type 0
ControllerReplyNamesExist (Hello switch boot) marks = switch < length marks.switches
ControllerReplyNamesExist (Installed switch boot version) marks = NamesWithinControllerMarks switch version marks
ControllerReplyNamesExist (Stamped switch boot version) marks = NamesWithinControllerMarks switch version marks
ControllerReplyNamesExist _ marks = ⊤

-- ---- sending again

-- a version from this one on that the switch didn't acknowledge
abbrev pub is_missing_controller_install : SwitchRecord → ℕ → ℕ → Bool
is_missing_controller_install known first version = nat_le first version && not (has_acked known version)

-- the versions from this one on that the switch didn't acknowledge
abbrev pub controller_missing_installs : ControllerValue → ℕ → ℕ → List Act
controller_missing_installs controller s first =
    let known = update_record_of controller.marks s in
    map (controller_install_act s known.boot)
    (filter (λ kept. is_missing_controller_install known first kept.version) controller.plans)

-- to a member the current stamp with what its change touches, if it acknowledged a lower one
abbrev pub controller_stamp_again : List WordValue → MarksValue → ℕ → List Act
controller_stamp_again touched marks s = if nat_lt (update_record_of marks s).acked_stamp marks.current
    then controller_post_act s (Stamp (controller_recorded_boot marks s) marks.current touched) ∷ [] else []

-- to a member the message to drop the tables of the retired versions, if there are any
abbrev pub controller_resend_collects : MarksValue → ℕ → List Act
controller_resend_collects marks s = if nat_lt 0 marks.retired
    then controller_post_act s (Collect (controller_recorded_boot marks s) marks.retired) ∷ [] else []

-- what a switch in this phase may lack
abbrev pub controller_resend_acts_to : Phase → ControllerValue → ℕ → List Act
controller_resend_acts_to Joining controller s = controller_missing_installs controller s controller.marks.current
controller_resend_acts_to Member controller s =
    controller_post_act s (OpenAt (controller_recorded_boot controller.marks s)
    (update_record_of controller.marks s).open_version)
    ∷ controller_missing_installs controller s (controller.marks.current + 1)
    ++ controller_stamp_again (controller_current_plan_touched controller) controller.marks s
    ++ controller_resend_collects controller.marks s
controller_resend_acts_to Over controller s = []

-- what a switch may lack, by its phase
abbrev pub controller_resend_acts : ControllerValue → ℕ → List Act
controller_resend_acts controller s = controller_resend_acts_to (update_record_of controller.marks s).phase controller s
