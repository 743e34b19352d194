use Rattle.std.proofs.Common.{[], ◌∙◌, ◌∷◌, ap, refl, sym}
use Rattle.base.proofs.Exports.{on_err_weaker, on_ok_weaker}
use Rattle.journal.specs.declared.item.Item.TheVariants as item
use Rattle.world.proofs.WorldStepClauses.{goes_nothing, goes_quiet, files_stay, none_in, plane_stays}
use Rattle.world_log.proofs.LogStepWrites.{part_none}
use Rattle.world_log.specs.declared.log.Log.{Log}
use Rattle.refinement.proofs.RefinedHops.{lost, lost_piece, not_lost}
use Rattle.world.proofs.parts.WorldParts.lose.Goals as goal

pub returns-then-not-has : goal.returns-then-not-has
returns-then-not-has c = λ before row begins. let self = c.args.self.now in
    goes_nothing begins refl (not_lost begins.ready.refines row c.args.packet begins.ready.may
    (sym c.has.ensures ∙ c.if-not-has.true)) c.push.ensures.pushed c.push.ensures.unchanged

pub returns : goal.returns
returns c = λ before row begins. let self = c.args.self.now in
    let new = c.lose.new.self in
    let all = record self { log = new } in
    let travelling = sym c.has.ensures ∙ c.if-not-has.false in
    goes_quiet begins (files_stay refl refl) (item.Lost c.args.packet ∷ [])
    (plane_stays refl refl refl) (lost_piece begins.ready.refines row c.args.packet travelling)
    (on_ok_weaker c.lose.result (λ grown. none_in self.packets) c.lose.ensures.written)
    c.lose.ensures.written (on_err_weaker c.lose.result
    (λ same. part_none self.log.journal (item.Lost c.args.packet ∷ []) new.journal
    (ap (λ (log : Log). log.journal) same)) c.lose.ensures.unchanged)
    (on_ok_weaker c.lose.result (λ without. rw c.lose.ensures.unsent (lost begins.ready.refines row
    c.args.packet new.travelling begins.ready.may travelling without)) c.lose.ensures.lost)
