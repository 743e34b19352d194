use Rattle.std.proofs.Common.{◌++◌, ◌∙◌, ◌≡◌, ap, map}
use Rattle.controller.specs.Exports.{controller_install_act, controller_kept_plan_touched, controller_settling_acts}
use Rattle.controller.proofs.ControllerSettledSends.{added, not_added}
use Rattle.controller.proofs.controller.controller_hello_sends.Goals as goal
use Rattle.controller.proofs.controller.controller_hello_sends.Goals.{then-settled+in_ok-add_controller_installs, else-settled}

pub returns-clause-sends : goal.returns-clause-sends
returns-clause-sends c = λ before is. let asked = c.args.settled.now.taken in
    let all = map (controller_install_act c.args.s c.args.boot) c.settle_controller_versions.new.versions.items in
    let told = controller_settling_acts
    (controller_kept_plan_touched c.settle_controller_versions.new.versions.items c.args.marks.now.current) before c.args.marks.now in
    let base : c.settle_controller_versions.new.acts.items ≡ told = c.in_ok-settle_controller_versions.ensures.acts before is
    ∙ ap (λ l. l ++ told) c.new-acts.ensures.items in
    c.from_items.ensures
    ∙ elim c.if-settled.branch [
      | then-settled+in_ok-add_controller_installs w ↦ added asked _ c.settle_controller_versions.new.acts.items told all
          w.if-settled.true (ap (λ v. v.items) w.acts-is ∙ w.in_ok-add_controller_installs.ensures
          ∙ ap (λ plans. c.settle_controller_versions.new.acts.items ++ map (controller_install_act c.args.s c.args.boot) plans)
          w.deref.ensures.value) base
      | else-settled w ↦ not_added asked _ c.settle_controller_versions.new.acts.items told all
          w.if-settled.false (ap (λ v. v.items) w.acts-is) base
    ]
