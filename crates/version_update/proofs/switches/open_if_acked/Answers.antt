use Rattle.std.proofs.Common.{◌∙◌, ap, arith, refl}
use Rattle.version_update.specs.Exports.{opened_update_record, update_joining_opens_at}
use Rattle.base.proofs.Exports.{from_bool, mapped_more, mapped_read}
use Rattle.version_update.proofs.VersionTestMasks.{Names-more}
use Rattle.version_update.proofs.switches.open_if_acked.Goals as goal

pub loop-s-preserved : goal.loop-s-preserved
loop-s-preserved c = record {
  named = Names-more _ _ (update_joining_opens_at c.args.current) c.args.switches.now c.loop-s.s _ _
      (omega arith) (omega arith) refl (c.from.ensures ∙ ap from_bool
      (c.open_if_acked.ensures.opens ∙ ap (update_joining_opens_at c.args.current)
      (mapped_read (opened_update_record c.args.current) _ _ c.loop-s.s _ c.loop-s.invariant.opened)))
      c.loop-s.invariant.named;
  opened = mapped_more (opened_update_record c.args.current) _ _ c.loop-s.s _ _ (omega arith)
      c.loop-s.invariant.opened c.open_if_acked.ensures.after;
}
