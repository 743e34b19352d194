use Rattle.std.proofs.Common.{[], ◌∙◌, ◌≡◌, Bool, ap, arith, false, not, slice_get, sym, ℕ}
use Rattle.base.proofs.Exports.{option_map_or, picked_add, picked_skip}
use Rattle.version_update.specs.Exports.{is_over}
use Rattle.controller.specs.Exports.{controller_recorded_boot, controller_install_act}
use Rattle.controller.proofs.ControllerPickedSwitches.{passes_there}
use Rattle.controller.proofs.controller.install_at_each.Goals as goal
use Rattle.controller.proofs.controller.install_at_each.Goals.{then-is_controller_switch_there+in_ok-install+in_ok-push, else-is_controller_switch_there}

pub loop-s-preserved : goal.loop-s-preserved
loop-s-preserved c =
    let switches = c.args.marks.now.switches in
    let s = c.loop-s.s in
    let test : ℕ → Bool = λ s. option_map_or (λ known. not (is_over known.phase))
    (slice_get switches s) false in
    let there : test s ≡ c.is_controller_switch_there.result = passes_there (λ known. not (is_over known.phase))
    switches s _ (omega (arith, c.loop-s-test.true, c.switches-s-end.ensures.number))
    ∙ sym (c.is_controller_switch_there.ensures ∙ ap (λ phase. not (is_over phase)) c.phase.ensures) in
    let act = λ (s : ℕ). controller_install_act s (controller_recorded_boot c.args.marks.now s) c.args.version.now in
    elim c.if-is_controller_switch_there.branch [
      | then-is_controller_switch_there+in_ok-install+in_ok-push w ↦ picked_add act test s [] c.loop-s.acts.items _
          c.loop-s.invariant (there ∙ w.if-is_controller_switch_there.true) (ap (λ v. v.items) w.acts-is
          ∙ cc (w.boot.ensures, w.in_ok-install.ensures, w.in_ok-push.ensures.items))
      | else-is_controller_switch_there w ↦ picked_skip act test s [] c.loop-s.acts.items _ c.loop-s.invariant
          (there ∙ w.if-is_controller_switch_there.false) (ap (λ v. v.items) w.acts-is)
    ]
