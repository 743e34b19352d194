use Rattle.std.proofs.Common.{◌∙◌, List, arith, refl, subst, sym}
use Rattle.controller.specs.Exports.{ControllerValue, controller_current_plan_touched, controller_settling_acts}
use Rattle.controller.specs.declared.sends.Act.{Act}
use Rattle.journal.specs.declared.item.Item.TheVariants as item
use Rattle.version_update.specs.Exports.{mark_record_after_over, version_marks_with_switch_changed}
use Rattle.world_log.specs.Exports.{LogMayNote}
use Rattle.world.proofs.WorldStepClauses.{follows, goes_nothing, net_stays, none_in, nothing_goes}
use Rattle.world.proofs.WorldActingSteps.{goes_acting}
use Rattle.world.proofs.WorldSwitchParts.{known_in, place_in}
use Rattle.refinement.proofs.RefinedGoneSwitches.{gone_may, gone_piece, gone_refines, still_up}
use Rattle.world.proofs.parts.WorldParts.confirm.Goals as goal

pub index-requires : goal.index-requires
index-requires c = place_in c.args.switch c.requires c.requires.begins.ready.may

-- ---- it is up

pub returns-then-is_up : goal.returns-then-is_up
returns-then-is_up c = λ before row begins. goes_nothing begins refl
    (still_up begins.ready.refines row c.args.switch _ begins.ready.may c.index.ensures
    (sym c.is_up.ensures ∙ c.if-is_up.true)) c.push.ensures.pushed c.push.ensures.unchanged

-- ---- it is down

pub over-requires : goal.over-requires
over-requires c = let known = known_in c.args.switch c.requires c.requires.begins.ready.may in
    omega (arith, known)

pub returns-in_err-sends : goal.returns-in_err-sends
returns-in_err-sends c = λ before row begins.
    nothing_goes begins (net_stays refl refl) c.from_residual.ensures.0 refl

pub returns-in_err-push : goal.returns-in_err-push
returns-in_err-push c = λ before row begins. nothing_goes begins (net_stays refl refl)
    c.from_residual-in_err-push.ensures.0 c.in_err-push.ensures.unchanged

pub note_acts-requires : goal.note_acts-requires
note_acts-requires c =
    let self = c.args.self.now in
    let ready = c.requires.begins.ready in
    subst (LogMayNote self.log.bag) (sym (c.into_items.ensures ∙ c.in_ok-sends.ensures.sends))
    (gone_may ready.refines c.requires.row c.args.switch c.index.result.now ready.may
    c.index.ensures c.over.new.self (sym c.is_up.ensures ∙ c.if-is_up.false) c.over.ensures.after
    ready.room)

pub returns : goal.returns
returns c = λ before row begins. let s = c.args.switch in
    let ready = begins.ready in
    let new : ControllerValue = c.over.new.self in
    let acts : List Act = controller_settling_acts (controller_current_plan_touched new)
    (version_marks_with_switch_changed s mark_record_after_over c.args.self.now.controller.marks) new.marks in
    let down = sym c.is_up.ensures ∙ c.if-is_up.false in
    let its = c.note_acts.ensures in
    goes_acting (item.OverNow s) acts c.into_items.result.items c.push-2.new.self begins
    (follows begins refl refl c.over.ensures.newest) (none_in _)
    (gone_piece ready.refines row s c.index.result.now ready.may c.index.ensures new down
    c.over.ensures.after)
    c.in_ok-push.ensures.pushed (c.into_items.ensures ∙ c.in_ok-sends.ensures.sends) its.travelling
    its.written its.posted its.part
    (gone_refines ready.refines row s c.index.result.now ready.may c.index.ensures new down
    c.over.ensures.after)
