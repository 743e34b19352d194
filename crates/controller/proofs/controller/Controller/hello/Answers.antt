use Rattle.std.proofs.Common.{[], ◌++◌, ◌∙◌, ◌≡◌, List, ap, cond, map, sym}
use Rattle.base.proofs.Exports.{IfOk-weaker}
use Rattle.ctrl_msg.specs.declared.message.Body.TheVariants.{Hello}
use Rattle.version_update.specs.Exports.{version_marks_with_switch_changed, update_hello_recorded, update_record_of, update_takes_hello}
use Rattle.controller.specs.Exports.{ControllerValue, ControllerKeptPlan, controller_hear_acts, controller_install_act, controller_kept_plan_touched, controller_kept_plans_from, controller_settling_acts}
use Rattle.controller.proofs.ControllerKeptVersions.{plans_twice, whole_at, settles_at, stays_at}
use Rattle.controller.proofs.controller.Controller.hello.Goals as goal

pub invariant_of-self : goal.invariant_of-self
invariant_of-self c = search whole_at

pub returns : goal.returns
returns c =
    let s = c.args.s in
    let boot = c.args.boot in
    let old = c.self.inside.marks in
    let marks = c.hello-settled.new.self in
    let kept = c.controller_hello_sends.new.versions.items in
    let told = controller_settling_acts (controller_kept_plan_touched kept marks.current) (version_marks_with_switch_changed s (update_hello_recorded boot) old)
    marks in
    let once : controller_kept_plans_from marks.current kept ≡ kept = ap (controller_kept_plans_from marks.current)
    c.controller_hello_sends.ensures.versions ∙ plans_twice marks.current c.self.inside.versions.items
    ∙ sym c.controller_hello_sends.ensures.versions in record {
      after = search settles_at;
      sends = IfOk-weaker c.controller_hello_sends.result _ _
          (λ sends is. is ∙ ap (λ b. told ++ cond b (map (controller_install_act s boot) kept) [])
          c.hello-settled.ensures.taken ∙ ap (λ (plans : List ControllerKeptPlan). told
          ++ cond (update_takes_hello boot (update_record_of old s)) (map (controller_install_act s boot) plans) [])
          (sym once) ∙ ap (λ (old : ControllerValue). controller_hear_acts (Hello s boot) old.marks
          (record { marks = marks; plans = kept })) c.self.view_is)
          (c.controller_hello_sends.ensures.sends _ c.hello-settled.ensures.settled);
      rule = search stays_at;
    }
