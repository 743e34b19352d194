use Rattle.std.proofs.Common.{[], ◌++◌, ◌+◌, ◌∙◌, ◌∷◌, ◌≡◌, ap, map, not, refl, ℕ}
use Rattle.version_update.specs.Exports.{is_over, version_marks_with_version}
use Rattle.controller.specs.Exports.{ControllerValue, ControllerKeptPlan, ControllerStaysSound, ControllerSubmitsPlan, controller_recorded_boot, controller_current_plan_touched, controller_install_act, controller_kept_plans_from, controller_settling_acts, controller_submit_acts, controller_switches_by_record}
use Rattle.controller.proofs.ControllerNewestPolicy.{newest_added}
use Rattle.controller.proofs.ControllerKeptVersions.{IsWhole, whole_more, stays_more}
use Rattle.controller.proofs.controller.Controller.add.Goals as goal
use Rattle.controller.proofs.controller.Controller.add.Goals.{After-settle_controller_versions}

-- the version that comes next
abbrev Next : After-settle_controller_versions → ℕ → ControllerKeptPlan
Next c count = record { version = count + 1; plan = c.args.plan; touched = c.args.touched }

next_is : (c : After-settle_controller_versions) → c.in_ok-version.version ≡ Next c c.self.inside.marks.count
next_is c = c.in_ok-version.ensures ∙ ap (Next c) c.count-number.ensures.count

pushed : (c : After-settle_controller_versions) → c.push.new.self.items ≡ c.self.inside.versions.items
    ++ Next c c.self.inside.marks.count ∷ []
pushed c = c.in_ok-push.ensures.items ∙ ap (λ v. c.self.inside.versions.items ++ v ∷ []) (next_is c)

whole : (c : After-settle_controller_versions) → IsWhole c.add_version-settled.new.marks c.settle_controller_versions.new.versions.items
whole c = whole_more c.self.inside.marks c.self.inside.versions.items
    (Next c c.self.inside.marks.count) _ _ _ _ c.hosted.ensures.sound refl c.self.invariant c.add_version-settled.ensures.rule
    c.add_version-settled.ensures.settled (pushed c) c.settle_controller_versions.ensures.versions

stays : (c : After-settle_controller_versions) → ControllerStaysSound c.args.self.now (record {
  marks = c.add_version-settled.new.marks;
  plans = c.settle_controller_versions.new.versions.items;
})
stays c = stays_more c.self.inside.marks c.self.inside.versions.items
    (Next c c.self.inside.marks.count) _ _ _ _ c.hosted.ensures.sound refl _ c.self.view_is c.self.invariant c.add_version-settled.ensures.rule
    c.add_version-settled.ensures.settled (pushed c) c.settle_controller_versions.ensures.versions

pub invariant_of-self-in_err-settle_controller_versions : goal.invariant_of-self-in_err-settle_controller_versions
invariant_of-self-in_err-settle_controller_versions c = whole (goal.at.invariant_of-self-in_err-settle_controller_versions c).After-settle_controller_versions

pub returns-in_err-settle_controller_versions-clause-rule : goal.returns-in_err-settle_controller_versions-clause-rule
returns-in_err-settle_controller_versions-clause-rule c =
    stays (goal.at.returns-in_err-settle_controller_versions-clause-rule c).After-settle_controller_versions

pub invariant_of-self-2 : goal.invariant_of-self-2
invariant_of-self-2 c = whole (goal.at.invariant_of-self-2 c).After-settle_controller_versions

pub returns-clause-newest : goal.returns-clause-newest
returns-clause-newest c =
    let old : ControllerValue =
    record { marks = c.self.inside.marks; plans = c.self.inside.versions.items } in
    let marks = c.add_version-settled.new.marks in
    let new : ControllerValue = record { marks = marks; plans = c.settle_controller_versions.new.versions.items } in
    let at = (goal.at.returns-clause-newest c).After-settle_controller_versions in
    let submits : ControllerSubmitsPlan old (Next at c.self.inside.marks.count) new = record {
      marks = (_, c.add_version-settled.ensures.settled);
      plans = c.settle_controller_versions.ensures.versions ∙ ap (controller_kept_plans_from marks.current) (pushed at);
    } in
    newest_added old new (Next at c.self.inside.marks.count) c.self.invariant (whole at) refl submits

pub returns-clause-sends : goal.returns-clause-sends
returns-clause-sends c =
    let old = c.self.inside.marks in
    let at = (goal.at.returns-clause-sends c).After-settle_controller_versions in
    let new : ControllerValue = record {
      marks = c.add_version-settled.new.marks;
      plans = c.settle_controller_versions.new.versions.items;
    } in
    c.from_items.ensures ∙ c.in_ok-settle_controller_versions.ensures.acts _ c.add_version-settled.ensures.settled
    ∙ ap (λ l. l ++ controller_settling_acts (controller_current_plan_touched new) (version_marks_with_version old) new.marks)
    (c.in_ok-acts.ensures ∙ ap (λ (version : ControllerKeptPlan). map (λ s. controller_install_act s (controller_recorded_boot old
    s) version) (controller_switches_by_record (λ known. not (is_over known.phase)) old.switches)) (next_is at))
    ∙ ap (λ (value : ControllerValue). controller_submit_acts value.marks (Next at value.marks.count) new)
    c.self.view_is

pub returns-clause-rule : goal.returns-clause-rule
returns-clause-rule c = stays (goal.at.returns-clause-rule c).After-settle_controller_versions
