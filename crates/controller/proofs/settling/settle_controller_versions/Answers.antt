use Rattle.std.proofs.Common.{[], ◌++◌, ◌∙◌, ◌∷◌, ◌≡◌, List, ap, length, refl, sym, ℕ}
use Rattle.ctrl_msg.specs.declared.message.Body.{Body}
use Rattle.ctrl_msg.specs.declared.message.Body.TheVariants.{Stamp, Collect}
use Rattle.version_update.specs.Exports.{MarksValue, SettlesVersionMarks}
use Rattle.ternary.specs.Exports.{WordValue}
use Rattle.controller.specs.Exports.{controller_kept_plan_touched, controller_posts_to, controller_mark_rising_acts, controller_stamp_acts, controller_switches_in_mask}
use Rattle.controller.specs.declared.sends.Act.TheVariants.{Current, Retired}
use Rattle.controller.proofs.ControllerSettledSends.{opens_told, rising_none, rising_told, same_number, settling_told, told_current}
use Rattle.controller.proofs.settling.settle_controller_versions.Goals as goal
use Rattle.controller.proofs.settling.settle_controller_versions.Goals.{After-send_to_switches, in-Some+in_ok-tell_current_version, in_default}

-- what the change of the current version touches
abbrev touched : After-send_to_switches → List WordValue
touched c = controller_kept_plan_touched c.drop_old_plans.new.versions.items c.args.marks.now.current

stamps_told : (c : After-send_to_switches) (before : MarksValue)
    → SettlesVersionMarks before c.args.marks.now c.args.settled.now → c.match-settled.acts.items
    ≡ c.args.acts.now.items ++ controller_stamp_acts (touched c) before c.args.marks.now
stamps_told c before is =
    let after = c.args.marks.now in
    let old = c.args.acts.now.items in
    let stamp : List WordValue → ℕ → ℕ → Body = λ words boot version. Stamp boot version words in
    elim c.match-settled.branch [
      | in-Some+in_ok-tell_current_version w ↦ let current : ℕ = w.in-Some.current in
          let words : List WordValue = controller_kept_plan_touched c.drop_old_plans.new.versions.items current in
          ap (λ v. v.items) w.acts-is
          ∙ rising_told before.current after.current current _ _ _ Current (stamp words) after
          before.switches old _ _ is.tells.current is.tells.stamps
          (same_number before after _ is) w.in-Some.is refl
          (w.in_ok-tell_current_version.ensures ∙ ap (λ plans. old ++ Current current
          ∷ [] ++ controller_posts_to after (λ boot. Stamp boot current (controller_kept_plan_touched plans current))
          (controller_switches_in_mask c.args.settled.now.stamps (length after.switches))) w.deref.ensures.value)
          ∙ ap (λ version. old ++ controller_mark_rising_acts before.current after.current Current
          (stamp (controller_kept_plan_touched c.drop_old_plans.new.versions.items version)) after before.switches)
          (sym (told_current before after current (sym is.tells.current ∙ w.in-Some.is)))
      | in_default w ↦ ap (λ v. v.items) w.acts-is ∙ rising_none before.current after.current _
          Current (stamp (touched c)) after before.switches _ is.tells.current w.in_default.is
    ]

pub returns-in_ok-send_to_switches-2-clause-acts : goal.returns-in_ok-send_to_switches-2-clause-acts
returns-in_ok-send_to_switches-2-clause-acts c = λ before is.
    let at = (goal.at.returns-in_ok-send_to_switches-2-clause-acts c).After-send_to_switches in
    let after = c.args.marks.now in
    settling_told (touched at) before after _ _ _ _ (stamps_told at before is) (opens_told before _ _ _ _ _ _
    refl c.current-current.ensures.current c.in_ok-send_to_switches.ensures is)
    (rising_told before.retired after.retired c.in-Some-retired.retired _ _ _ Retired Collect after
    after.switches _ _ _ is.tells.retired is.tells.collects refl c.in-Some-retired.is
    c.in_ok-push.ensures.items c.in_ok-send_to_switches-2.ensures)

pub returns-in_default-retired-clause-acts : goal.returns-in_default-retired-clause-acts
returns-in_default-retired-clause-acts c = λ before is.
    let at = (goal.at.returns-in_default-retired-clause-acts c).After-send_to_switches in
    let after = c.args.marks.now in
    settling_told (touched at) before after _ _ _ _ (stamps_told at before is) (opens_told before _ _ _ _ _ _
    refl c.current-current.ensures.current c.in_ok-send_to_switches.ensures is)
    (rising_none before.retired after.retired _ Retired Collect after after.switches _
    is.tells.retired c.in_default-retired.is)
