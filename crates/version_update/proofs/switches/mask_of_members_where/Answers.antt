use Rattle.std.proofs.Common.{◌&&◌, ◌∙◌, ◌≡◌, Bool, ap, arith, false, refl, true}
use Rattle.base.proofs.Exports.{from_bool}
use Rattle.version_update.specs.Exports.{is_member}
use Rattle.version_update.proofs.VersionTestMasks.{Names-more}
use Rattle.version_update.proofs.switches.mask_of_members_where.Goals as goal
use Rattle.version_update.proofs.switches.mask_of_members_where.Goals.{then-rose, else-rose}

and_rose : (rose member : Bool) → rose ≡ true → member ≡ (rose && member)
and_rose rose member e = rw e refl

and_not_rose : (rose member : Bool) → rose ≡ false → rose ≡ (rose && member)
and_not_rose rose member e = rw e refl

pub loop-s-preserved : goal.loop-s-preserved
loop-s-preserved c =
    let named : c.if-rose.from ≡ (c.args.rose && is_member _) = elim c.if-rose.branch [
      | then-rose w ↦ w.from-is ∙ w.is_member.ensures ∙ and_rose c.args.rose _ w.if-rose.true
      | else-rose w ↦ w.from-is ∙ and_not_rose c.args.rose _ w.if-rose.false
    ] in
    Names-more _ _ _ c.args.switches.now c.loop-s.s _ _ (omega arith) (omega arith) refl
    (c.from.ensures ∙ ap from_bool named) c.loop-s.invariant
