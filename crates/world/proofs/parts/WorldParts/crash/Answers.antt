use Rattle.std.proofs.Common.{◌++◌, ◌+◌, ◌∙◌, ◌∷◌, ◌≡◌, List, ap, append_assoc, arith, length, length-set, map, refl, set, subst, sym, true}
use Rattle.base.proofs.Exports.{on_err, on_err_weaker, on_ok_failed, on_ok_weaker, three_ok}
use Rattle.message_bag.specs.Exports.{new_bag_post}
use Rattle.update_machine.specs.Exports.{Crash, Message, machine_sent_items_from}
use Rattle.controller.specs.Exports.{controller_newest_policy}
use Rattle.journal.specs.declared.item.Item.TheVariants as item
use Rattle.switch_core.specs.Exports.{SwitchValue}
use Rattle.world_log.specs.Exports.{IsLogPart, log_all_adverts_sent, logged_near_all}
use Rattle.world.specs.Exports.{world_setting_in, world_state_in}
use Rattle.refinement.specs.Exports.{RefineJournal}
use Rattle.travelling.specs.Travelling.{TravellingWithoutAt, travelling_numbers_at}
use Rattle.refinement.proofs.RefinedCrashes.{crash_may, crash_next, crash_piece, crash_refines, same_switch, stays_down}
use Rattle.world.proofs.WorldStepClauses.{follows, goes, goes_nothing, net_stays, nothing_goes}
use Rattle.world.proofs.WorldActingSteps.{relinked_refines}
use Rattle.world.proofs.WorldSwitchParts.{few_in, place_in, switch_in}
use Rattle.world_log.proofs.LogStepWrites.{part_of_first, part_of_rest, step_part, step_written}
use Rattle.world.proofs.parts.WorldParts.crash.Goals as goal
use Rattle.world.proofs.parts.WorldParts.crash.Goals.{After-index_mut}

pub index-requires : goal.index-requires
index-requires c = place_in c.args.switch c.requires c.requires.begins.ready.may

pub index_mut-requires : goal.index_mut-requires
index_mut-requires c = place_in c.args.switch c.requires c.requires.begins.ready.may

-- ---- it is down

pub returns-then-not-is_up : goal.returns-then-not-is_up
returns-then-not-is_up c = λ before row begins. let self = c.args.self.now in
    goes_nothing begins refl (stays_down begins.ready.refines row c.args.switch c.index.result.now
    begins.ready.may c.index.ensures (sym c.is_up.ensures ∙ c.if-not-is_up.true))
    c.push.ensures.pushed c.push.ensures.unchanged

-- ---- it goes down

was_up : (c : After-index_mut) → c.index_mut.result.now.is_up ≡ true
was_up c = let self = c.args.self.now in
    ap (λ (w : SwitchValue). w.is_up) (same_switch self.switches.items c.args.switch
    c.index_mut.result.now c.index.result.now
    (switch_in c.args.switch c.requires c.requires.begins.ready.may)
    c.index_mut.ensures.value c.index.ensures)
    ∙ sym c.is_up.ensures ∙ c.if-not-is_up.false

pub returns-in_err-push : goal.returns-in_err-push
returns-in_err-push c = λ before row begins. nothing_goes begins (net_stays refl refl)
    c.from_residual.ensures.0 c.in_err-push.ensures.unchanged

pub returns-in_err-lose_at : goal.returns-in_err-lose_at
returns-in_err-lose_at c = λ before row begins. let self = c.args.self.now in
    let s = c.args.switch in
    let changed = c.crash.new.self in
    let within = switch_in s c.requires begins.ready.may in
    let others = set self.switches.items s changed in
    let messages : List Message = log_all_adverts_sent self.near (logged_near_all self.links others) others in
    let sends = machine_sent_items_from (length self.log.bag + 1) messages in
    let losses = map item.Lost (travelling_numbers_at self.log.travelling s) in
    let r = c.from_residual-in_err-lose_at.result in
    let failed = c.from_residual-in_err-lose_at.ensures.0 in
    goes begins (follows begins refl refl refl) (item.Down s ∷ losses ++ sends)
    (crash_piece begins.ready.refines row s c.index_mut.result.now changed begins.ready.may within
    c.index_mut.ensures.value c.crash.ensures
    (was_up (goal.at.returns-in_err-lose_at c).After-index_mut))
    (on_ok_failed _ r failed) (on_ok_failed _ r failed)
    (step_part r self.log.journal c.push-2.new.self c.lose_at.new.self.journal (losses ++ sends)
    (item.Down s ∷ losses ++ sends) (item.Down s) refl c.in_ok-push.ensures.pushed
    (on_err r (part_of_first c.push-2.new.self losses sends c.lose_at.new.self.journal
    c.in_err-lose_at.ensures.part))) (on_ok_failed _ r failed)

-- ---- links change

pub change_links-requires-clause-many : goal.change_links-requires-clause-many
change_links-requires-clause-many c = let self = c.args.self.now in
    omega (arith, length-set self.switches.items c.args.switch c.crash.new.self, few_in c.requires)

pub change_links-requires-clause-next : goal.change_links-requires-clause-next
change_links-requires-clause-next c = let ready = c.requires.begins.ready in
    crash_next ready.refines c.requires.row c.args.switch c.index_mut.result.now c.crash.new.self
    ready.may (switch_in c.args.switch c.requires ready.may) c.index_mut.ensures.value
    c.crash.ensures (was_up (goal.at.change_links-requires-clause-next c).After-index_mut)
    ready.room

pub change_links-requires-clause-may : goal.change_links-requires-clause-may
change_links-requires-clause-may c = let ready = c.requires.begins.ready in
    rw c.lose_at.ensures.unsent
    (crash_may ready.refines c.requires.row c.args.switch c.index_mut.result.now c.crash.new.self
    ready.may (switch_in c.args.switch c.requires ready.may) c.index_mut.ensures.value
    c.crash.ensures (was_up (goal.at.change_links-requires-clause-may c).After-index_mut)
    ready.room)

pub returns : goal.returns
returns c = λ before row begins. let self = c.args.self.now in
    let new = c.change_links.new.self in
    let r = c.change_links.result in
    let s = c.args.switch in
    let ready = begins.ready in
    let own = c.index_mut.result.now in
    let changed = c.crash.new.self in
    let within = switch_in s c.requires ready.may in
    let is_up = was_up (goal.at.returns c).After-index_mut in
    let others = set self.switches.items s changed in
    let messages : List Message = log_all_adverts_sent self.near (logged_near_all self.links others) others in
    let sends = machine_sent_items_from (length self.log.bag + 1) messages in
    let losses = map item.Lost (travelling_numbers_at self.log.travelling s) in
    let rest = c.change_links.ensures.rest in
    let down = c.push-2.new.self in
    let behind = c.lose_at.new.self in
    goes begins (follows begins rest.files rest.ports (ap controller_newest_policy rest.controller))
    (item.Down s ∷ losses ++ sends)
    (crash_piece ready.refines row s own changed ready.may within c.index_mut.ensures.value
    c.crash.ensures is_up)
    (on_ok_weaker r (λ done. omega (arith, rest.packets)) c.change_links.ensures.written)
    (step_written r self.log.journal down new.log.journal (losses ++ sends)
    (item.Down s ∷ losses ++ sends) (item.Down s) refl c.in_ok-push.ensures.pushed
    (on_ok_weaker r (λ written. written
    ∙ ap (λ bag. behind.journal ++ machine_sent_items_from (length bag + 1) messages) c.lose_at.ensures.unsent
    ∙ ap (λ js. js ++ sends) c.in_ok-lose_at.ensures.written
    ∙ append_assoc down losses sends) c.change_links.ensures.written))
    (step_part r self.log.journal down new.log.journal (losses ++ sends) (item.Down s
    ∷ losses ++ sends) (item.Down s) refl c.in_ok-push.ensures.pushed (on_err_weaker r (λ part.
    part_of_rest down behind.journal losses sends new.log.journal c.in_ok-lose_at.ensures.written
    (subst (λ bag. IsLogPart behind.journal (machine_sent_items_from (length bag + 1) messages) new.log.journal)
    c.lose_at.ensures.unsent part)) c.change_links.ensures.part))
    (three_ok r (λ near_is are posts_are. let posts = self.log.bag ++ map new_bag_post messages in
    subst (λ bag. RefineJournal (world_setting_in self)
    (before ++ (item.Row row (Crash s) ∷ item.Down s ∷ losses ++ sends)) (record (world_state_in new)
    { posts = bag }))
    (sym (posts_are ∙ ap (λ bag. bag ++ map new_bag_post messages) c.lose_at.ensures.unsent))
    (relinked_refines rest near_is (crash_refines ready.refines row s own changed ready.may within
    c.index_mut.ensures.value c.crash.ensures is_up new.switches.items new.log.travelling are
    (subst (TravellingWithoutAt self.log.travelling s) (sym rest.travelling) c.in_ok-lose_at.ensures.lost))))
    c.change_links.ensures.near c.change_links.ensures.switches c.change_links.ensures.posted)
