use Rattle.std.proofs.Common.{◌∙◌, None, Some, refl, sym}
use Rattle.journal.specs.declared.item.Item.TheVariants as item
use Rattle.refinement.proofs.RefinedCrashes.{expired_refines}
use Rattle.world.proofs.WorldStepClauses.{files_stay, goes_one, none_in, plane_stays}
use Rattle.world.proofs.WorldSwitchParts.{place_in}
use Rattle.world.proofs.parts.WorldParts.expire.Goals as goal

pub index_mut-requires : goal.index_mut-requires
index_mut-requires c = place_in c.args.switch c.requires c.requires.begins.ready.may.0

pub returns-in-None : goal.returns-in-None
returns-in-None c = λ before row begins. let self = c.args.self.now in
    goes_one begins
    (files_stay refl refl) item.Nothing self.log.bag (plane_stays refl refl refl) refl (none_in _)
    (expired_refines begins.ready.refines row c.args.switch c.args.place c.index_mut.result.now
    c.expire.new.self None begins.ready.may c.index_mut.ensures.value
    c.expire.ensures.after (sym c.in-None.is ∙ c.expire.ensures.message))
    c.push.ensures.pushed c.push.ensures.unchanged

pub returns-in-Some : goal.returns-in-Some
returns-in-Some c = λ before row begins. let self = c.args.self.now in
    goes_one begins
    (files_stay refl refl) (item.Expired c.args.switch c.args.place c.in-Some.message) self.log.bag
    (plane_stays refl refl refl) refl (none_in _)
    (expired_refines begins.ready.refines row c.args.switch c.args.place c.index_mut.result.now
    c.expire.new.self (Some c.in-Some.message) begins.ready.may
    c.index_mut.ensures.value c.expire.ensures.after (sym c.in-Some.is ∙ c.expire.ensures.message))
    c.push-in-Some.ensures.pushed c.push-in-Some.ensures.unchanged
