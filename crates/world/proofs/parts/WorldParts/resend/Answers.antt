use Rattle.std.proofs.Common.{◌++◌, ◌+◌, ◌==◌, ◌∙◌, ◌∷◌, ◌≡◌, Bool, List, arith, false, get_or, length, map, refl, subst, sym, true}
use Rattle.base.proofs.Exports.{on_ok_weaker}
use Rattle.controller.specs.Exports.{controller_resend_acts}
use Rattle.controller.specs.declared.sends.Act.{Act}
use Rattle.controller.specs.declared.sends.Act.TheVariants.{Post}
use Rattle.journal.specs.declared.item.Item.TheVariants as item
use Rattle.world_log.specs.Exports.{LogMayNote, log_act_items, world_log_adverts_again}
use Rattle.world.proofs.WorldStepClauses.{files_stay, goes_nothing, goes_quiet, net_stays, none_in, nothing_goes, plane_stays}
use Rattle.world.proofs.WorldActingSteps.{as_noted}
use Rattle.world.proofs.WorldSwitchParts.{few_in, known_in, place_in, switch_in}
use Rattle.refinement.proofs.RefinedResends.{acts_same, again_may, again_piece, again_refines, sent_refines, silent}
use Rattle.world.proofs.parts.WorldParts.resend.Goals as goal
use Rattle.world.proofs.parts.WorldParts.resend.Goals.{After-world_sends_are_none}

-- ---- its switch

pub bounds-self-here : goal.bounds-self-here
bounds-self-here c = let self = c.args.self.now in
    omega (arith, switch_in c.args.switch c.requires c.requires.begins.ready.may, few_in c.requires)

pub index-requires : goal.index-requires
index-requires c = place_in c.args.switch c.requires c.requires.begins.ready.may

pub world_log_adverts_again-requires : goal.world_log_adverts_again-requires
world_log_adverts_again-requires c = omega (arith, few_in c.requires, c.args.self.now.switches.ok.0)

pub resend-requires : goal.resend-requires
resend-requires c = known_in c.args.switch c.requires c.requires.begins.ready.may

pub returns-in_err-messages : goal.returns-in_err-messages
returns-in_err-messages c = λ before row begins.
    nothing_goes begins (net_stays refl refl) c.from_residual.ensures.0 refl

pub returns-in_err-sends : goal.returns-in_err-sends
returns-in_err-sends c = λ before row begins.
    nothing_goes begins (net_stays refl refl) c.from_residual-in_err-sends.ensures.0 refl

-- what the switch and the controller have to say, as acts
said : (c : After-world_sends_are_none)
    → map Post c.in_ok-messages.messages.items ++ c.into_items-acts.result.items
    ≡ map Post (world_log_adverts_again c.args.switch (length c.args.self.now.switches.items)
    (get_or c.args.self.now.near c.args.switch 0) c.index.result.now)
    ++ controller_resend_acts c.args.self.now.controller c.args.switch
said c = let self = c.args.self.now in
    acts_same self.controller c.args.switch c.len-count.result (length self.switches.items)
    (get_or self.near c.args.switch 0) _ c.index.result.now c.in_ok-messages.messages.items
    c.into_items-acts.result.items c.in_ok-messages.ensures (omega arith) refl
    (c.into_items-acts.ensures ∙ c.in_ok-sends.ensures)

-- and whether there is nothing of it
none_said : (c : After-world_sends_are_none) (b : Bool) → c.world_sends_are_none.result ≡ b
    → (length (map Post (world_log_adverts_again c.args.switch (length c.args.self.now.switches.items)
    (get_or c.args.self.now.near c.args.switch 0) c.index.result.now)
    ++ controller_resend_acts c.args.self.now.controller c.args.switch) == 0) ≡ b
none_said c b is =
    cc (c.as_slice.ensures.value, c.as_slice-2.ensures.value, said c, c.world_sends_are_none.ensures, is)

-- ---- nothing is sent

pub returns-then-world_sends_are_none : goal.returns-then-world_sends_are_none
returns-then-world_sends_are_none c = λ before row begins. let self = c.args.self.now in
    let none = none_said (goal.at.returns-then-world_sends_are_none c).After-world_sends_are_none in
    goes_nothing begins refl
    (silent begins.ready.refines row c.args.switch c.index.result.now begins.ready.may
    c.index.ensures (none true c.if-world_sends_are_none.true)) c.push.ensures.pushed c.push.ensures.unchanged

-- ---- what the switch and the controller have to say is sent

pub overflow_cast-count : goal.overflow_cast-count
overflow_cast-count c = omega (arith, few_in c.requires, c.args.self.now.switches.ok.0)

pub send_and_note-requires : goal.send_and_note-requires
send_and_note-requires c =
    let ready = c.requires.begins.ready in
    let own = c.index.result.now in
    let before = (goal.at.send_and_note-requires c).After-world_sends_are_none in
    subst (LogMayNote c.args.self.now.log.bag) (sym (said before))
    (again_may ready.refines c.requires.row c.args.switch own ready.may c.index.ensures
    (none_said before false c.if-world_sends_are_none.false) ready.room)

pub returns : goal.returns
returns c = λ before row begins. let self = c.args.self.now in
    let s = c.args.switch in
    let ready = begins.ready in
    let sent = (goal.at.returns c).After-world_sends_are_none in
    let some = none_said sent false c.if-world_sends_are_none.false in
    let acts : List Act = map Post (world_log_adverts_again s (length self.switches.items)
    (get_or self.near s 0) c.index.result.now) ++ controller_resend_acts self.controller s in
    let r = c.send_and_note.result in
    let noted = as_noted r self.log.journal (length self.log.bag) self.log.bag
    c.send_and_note.new.self _ acts (said sent) c.send_and_note.ensures.written
    c.send_and_note.ensures.posted c.send_and_note.ensures.part in
    goes_quiet begins (files_stay refl refl)
    (log_act_items (length self.log.bag + 1) acts) (plane_stays refl refl refl)
    (again_piece ready.refines row s _ ready.may c.index.ensures some)
    (on_ok_weaker r (λ done. none_in _) noted.written) noted.written noted.part (on_ok_weaker r
    (λ post. sent_refines (again_refines ready.refines row s _ ready.may c.index.ensures some)
    c.send_and_note.new.self.travelling c.send_and_note.new.self.bag
    c.send_and_note.ensures.travelling post) noted.posted)
