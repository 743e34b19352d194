use Rattle.std.proofs.Common.{◌<◌, ◌∙◌, Bool, ap, arith, length, sym}
use Rattle.base.proofs.Exports.{item_add, item_skip}
use Rattle.version_update.specs.Exports.{update_record_of}
use Rattle.controller.specs.Exports.{ControllerKeptPlan, controller_install_act, is_missing_controller_install}
use Rattle.controller.proofs.resending.add_missing_controller_installs.Goals as goal
use Rattle.controller.proofs.resending.add_missing_controller_installs.Goals.{then-is_controller_install_missing+in_ok-install+in_ok-push, else-is_controller_install_missing}

pub loop-kept-preserved : goal.loop-kept-preserved
loop-kept-preserved c =
    let known = update_record_of c.args.marks.now c.args.s in
    let lacks : ControllerKeptPlan → Bool = λ kept. is_missing_controller_install known c.args.first kept.version in
    let within : c.loop-kept.kept-index < length c.args.versions.now =
    omega (arith, c.loop-kept-test.true) in
    let test = sym (c.is_controller_install_missing.ensures ∙ ap (is_missing_controller_install known c.args.first) c.version.ensures) in
    elim c.if-is_controller_install_missing.branch [
      | then-is_controller_install_missing+in_ok-install+in_ok-push w ↦ item_add (controller_install_act c.args.s known.boot) lacks
          c.args.versions.now c.loop-kept.kept-index c.kept-item.result _ c.loop-kept.acts.items _
          within c.kept-item.is c.loop-kept.invariant (test ∙ w.if-is_controller_install_missing.true)
          (ap (λ v. v.items) w.acts-is
          ∙ cc (c.boot-boot.ensures, w.in_ok-install.ensures, w.in_ok-push.ensures.items))
      | else-is_controller_install_missing w ↦ item_skip (controller_install_act c.args.s known.boot) lacks c.args.versions.now
          c.loop-kept.kept-index c.kept-item.result _ c.loop-kept.acts.items _ within c.kept-item.is
          c.loop-kept.invariant (test ∙ w.if-is_controller_install_missing.false) (ap (λ v. v.items) w.acts-is)
    ]
