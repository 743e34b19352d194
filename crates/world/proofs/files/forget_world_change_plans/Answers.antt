use Rattle.std.proofs.Common.{◌+◌, List, Option, ap, arith, subst, sym}
use Rattle.world.specs.declared.files.Compiled.{Compiled}
use Rattle.world.proofs.WorldKeptFiles.{AreForgotten, all_forgotten, change_forgotten, none_forgotten, whole_kept, whole_own}
use Rattle.world.proofs.files.forget_world_change_plans.Goals as goal
use Rattle.world.proofs.files.forget_world_change_plans.Goals.{in-Whole, in-Change+in-None-1, in-Change+in-Some+in-Planned+in-All-1, in-Change+in-Some+in-Planned+in-Words-1, in-Change+in-Some+in-Refused-1}

pub loop-place-init : goal.loop-place-init
loop-place-init c = none_forgotten c.args.files.now c.args.compiled.now.items

pub loop-place-preserved : goal.loop-place-preserved
loop-place-preserved c =
    let files = c.args.files.now in
    let place = c.loop-place.place in
    let file = c.index-files-place.result in
    let old = c.args.compiled.now.items in
    let kept = c.loop-place.compiled.items in
    let Forgotten : List (Option Compiled) → Type 0 = AreForgotten files (place + 1) old in
    let changed = change_forgotten files place old kept (omega arith) c.loop-place.invariant in
    elim c.match-file.branch [
      | in-Whole w ↦ subst Forgotten (sym (ap (λ v. v.items) w.compiled-is))
          (whole_kept files place file old kept c.loop-place-test.true c.index-files-place.is
          (whole_own file _ w.in-Whole.is) c.loop-place.invariant)
      | in-Change+in-None-1 w ↦ subst Forgotten (sym (ap (λ v. v.items) w.compiled-is)) changed
      | in-Change+in-Some+in-Planned+in-All-1 w ↦ rw (ap (λ v. v.items) w.compiled-is) changed
      | in-Change+in-Some+in-Planned+in-Words-1 w ↦ rw (ap (λ v. v.items) w.compiled-is) changed
      | in-Change+in-Some+in-Refused-1 w ↦ rw (ap (λ v. v.items) w.compiled-is) changed
    ]

pub returns : goal.returns
returns c = all_forgotten c.args.files.now c.loop-place.place c.args.compiled.now.items
    c.loop-place.compiled.items c.requires (omega arith) c.loop-place.invariant
