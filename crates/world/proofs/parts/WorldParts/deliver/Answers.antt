use Rattle.std.proofs.Common.{◌+◌, ◌<◌, ◌∙◌, ◌∷◌, List, ap, arith, get_or, is_some, length, length-set, map, refl, set, subst, sym}
use Rattle.message_bag.specs.Exports.{bag_delivered_status, new_bag_post, bag_posts_with_delivered, bag_post_with_status}
use Rattle.base.proofs.Exports.{both_ok, on_ok_weaker}
use Rattle.message_bag.proofs.BagNumberedPosts.{length_changed}
use Rattle.controller.specs.Exports.{ControllerValue, controller_hear_acts, controller_newest_policy}
use Rattle.update_machine.specs.Exports.{Message, machine_sent_items_from}
use Rattle.journal.specs.declared.item.Item.TheVariants as item
use Rattle.switch_core.specs.Exports.{IsSoundSwitchBody, replies}
use Rattle.world_log.specs.Exports.{LogMayNote, LogMaySend, log_act_items, log_act_posts, log_all_adverts_sent, logged_near_all}
use Rattle.refinement.proofs.RefinedBagDeliveries.{found_there, hear_ready, usable_here}
use Rattle.world.proofs.WorldActingSteps.{first_goes, goes_told, relinked_refines}
use Rattle.refinement.proofs.RefinedDeliveries.{control_may, control_piece, control_refines, first_piece, names_known, shut_may, shut_piece, shut_refines, undelivered}
use Rattle.world.proofs.WorldSwitchParts.{few_in}
use Rattle.refinement.proofs.RefinedOpenings.{opening_may, opening_next, opening_piece, opening_refines}
use Rattle.world.proofs.WorldStepClauses.{follows, goes_nothing, net_stays, none_in, nothing_goes}
use Rattle.world_log.proofs.LogStepWrites.{step_part, step_written}
use Rattle.world.proofs.parts.WorldParts.deliver.Goals as goal
use Rattle.world.proofs.parts.WorldParts.deliver.Goals.{In-Switch}

-- ---- no such message

pub returns-in_err-get : goal.returns-in_err-get
returns-in_err-get c = λ before row begins.
    nothing_goes begins (net_stays refl refl) c.from_residual.ensures.0 refl

pub returns-in-None : goal.returns-in-None
returns-in-None c = λ before row begins. let self = c.args.self.now in
    goes_nothing begins refl (undelivered begins.ready.refines row c.args.number begins.ready.may
    (sym c.in_ok-get.ensures.found ∙ ap is_some c.in-None.is))
    c.push.ensures.pushed c.push.ensures.unchanged

-- ---- at the controller

pub returns-in_err-push : goal.returns-in_err-push
returns-in_err-push c = λ before row begins. nothing_goes begins (net_stays refl refl)
    c.from_residual-in_err-push.ensures.0 c.in_err-push.ensures.unchanged

pub deliver_to_controller-requires-clause-there : goal.deliver_to_controller-requires-clause-there
deliver_to_controller-requires-clause-there c = let self = c.args.self.now in
    names_known c.requires.begins.ready.refines c.args.number c.in-Some.message
    (found_there _ _ _ _ c.in-Some.is c.in_ok-get.ensures.message) c.in-Controller.is

pub deliver_to_controller-requires-clause-may : goal.deliver_to_controller-requires-clause-may
deliver_to_controller-requires-clause-may c = λ new settles. let self = c.args.self.now in
    let ready = c.requires.begins.ready in
    subst (λ bag. LogMayNote bag (controller_hear_acts c.in-Some.message.body self.controller.marks new))
    (sym c.deliver.ensures)
    (control_may ready.refines c.requires.row c.args.number c.in-Some.message new ready.may
    (found_there _ _ _ _ c.in-Some.is c.in_ok-get.ensures.message) c.in-Controller.is settles
    ready.room)

pub returns-in-Controller : goal.returns-in-Controller
returns-in-Controller c = λ before row begins. let self = c.args.self.now in
    let n = c.args.number in
    let message = c.in-Some.message in
    let new : ControllerValue = c.deliver_to_controller.new.controller in
    let acts = controller_hear_acts message.body self.controller.marks new in
    let there = found_there _ _ _ _ c.in-Some.is c.in_ok-get.ensures.message in
    let ready = begins.ready in
    goes_told (item.Delivered n)
    (λ k. log_act_items k acts) c.push-2.new.self (length c.deliver.new.self)
    (bag_posts_with_delivered self.log.bag n) (log_act_posts acts) begins
    (follows begins refl refl c.deliver_to_controller.ensures.newest) (record {
      piece_is = control_piece ready.refines row n message new ready.may there c.in-Controller.is
          c.deliver_to_controller.ensures.after;
      counted = none_in _;
      pushed = c.in_ok-push.ensures.pushed;
      number_is = ap length c.deliver.ensures
          ∙ length_changed (bag_post_with_status bag_delivered_status) self.log.bag n;
      travelling = c.deliver_to_controller.ensures.travelling;
      written = c.deliver_to_controller.ensures.written;
      part = c.deliver_to_controller.ensures.part;
      posted = rw c.deliver.ensures at c.deliver_to_controller.ensures.posted;
      refines = on_ok_weaker c.deliver_to_controller.result
          (λ done. control_refines ready.refines row n message new ready.may there
          c.in-Controller.is c.deliver_to_controller.ensures.after)
          c.deliver_to_controller.ensures.written;
    })

-- ---- what its switch needs

hears : (c : In-Switch) → (c.in-Switch.switch < length c.args.self.now.switches.items)
    × (c.in-Switch.switch < 64) × IsSoundSwitchBody c.in-Some.message.body
hears c = let self = c.args.self.now in
    hear_ready c.requires.begins.ready.refines c.args.number c.in-Switch.switch c.in-Some.message
    (found_there _ _ _ _ c.in-Some.is c.in_ok-get.ensures.message) c.in-Switch.is

pub bounds-self-switch : goal.bounds-self-switch
bounds-self-switch c = (hears (goal.at.bounds-self-switch c).In-Switch).1

pub index_mut-requires : goal.index_mut-requires
index_mut-requires c = let ready = hears (goal.at.index_mut-requires c).In-Switch in
    omega (arith, ready.0, c.args.self.now.switches.ok.0)

pub hear-requires : goal.hear-requires
hear-requires c = (hears (goal.at.hear-requires c).In-Switch).2

pub returns-in_err-heard : goal.returns-in_err-heard
returns-in_err-heard c = λ before row begins. let self = c.args.self.now in
    first_goes (item.Delivered c.args.number) _ begins (net_stays refl refl)
    (first_piece begins.ready.refines row c.args.number c.in-Some.message
    (found_there _ _ _ _ c.in-Some.is c.in_ok-get.ensures.message))
    c.from_residual-in_err-heard.ensures.0 c.in_ok-push.ensures.pushed

-- ---- it stays as it was

pub send_all-requires : goal.send_all-requires
send_all-requires c =
    let self = c.args.self.now in
    let ready = c.requires.begins.ready in
    let there = found_there _ _ _ _ c.in-Some.is c.in_ok-get.ensures.message in
    let within = hears (goal.at.send_all-requires c).In-Switch in
    subst (LogMaySend c.deliver.new.self) (sym (c.into_items.ensures ∙ c.in_ok-heard.ensures.replies))
    (rw c.deliver.ensures (shut_may ready.refines c.requires.row c.args.number c.in-Switch.switch
    c.in-Some.message c.index_mut.result.now c.hear.new.self (get_or self.near c.in-Switch.switch 0)
    ready.may there c.in-Switch.is within.0 c.index_mut.ensures.value
    (usable_here ready.refines c.in-Switch.switch within.1) c.in_ok-heard.ensures.after
    (sym c.in_ok-heard.ensures.opened ∙ c.in-None-opened.is) ready.room))

pub returns-in-None-opened : goal.returns-in-None-opened
returns-in-None-opened c = λ before row begins. let self = c.args.self.now in
    let n = c.args.number in
    let s = c.in-Switch.switch in
    let message = c.in-Some.message in
    let ready = begins.ready in
    let there = found_there _ _ _ _ c.in-Some.is c.in_ok-get.ensures.message in
    let own = c.index_mut.result.now in
    let near = get_or self.near s 0 in
    let within = hears (goal.at.returns-in-None-opened c).In-Switch in
    let usable = usable_here ready.refines s within.1 in
    let shut = sym c.in_ok-heard.ensures.opened ∙ c.in-None-opened.is in
    let messages : List Message = replies own near message.body in
    let are = c.into_items.ensures ∙ c.in_ok-heard.ensures.replies in
    goes_told (item.Delivered n)
    (λ k. machine_sent_items_from k messages) c.push-2.new.self (length c.deliver.new.self)
    (bag_posts_with_delivered self.log.bag n) (map new_bag_post messages) begins
    (follows begins refl refl refl) (record {
      piece_is = shut_piece ready.refines row n s message own c.hear.new.self near ready.may there
          c.in-Switch.is within.0 c.index_mut.ensures.value usable c.in_ok-heard.ensures.after shut;
      counted = none_in _;
      pushed = c.in_ok-push.ensures.pushed;
      number_is = ap length c.deliver.ensures
          ∙ length_changed (bag_post_with_status bag_delivered_status) self.log.bag n;
      travelling = c.send_all.ensures.travelling;
      written = rw are at c.send_all.ensures.written;
      part = rw are at c.send_all.ensures.part;
      posted = rw are at (rw c.deliver.ensures at c.send_all.ensures.posted);
      refines = on_ok_weaker c.send_all.result (λ done. shut_refines ready.refines row n s message
          own c.hear.new.self near ready.may there c.in-Switch.is within.0 c.index_mut.ensures.value
          usable c.in_ok-heard.ensures.after shut) c.send_all.ensures.written;
    })

-- ---- it opens

pub returns-in_err-push-in-Some-opened : goal.returns-in_err-push-in-Some-opened
returns-in_err-push-in-Some-opened c = λ before row begins. let self = c.args.self.now in
    first_goes (item.Delivered c.args.number) _ begins (net_stays refl refl)
    (first_piece begins.ready.refines row c.args.number c.in-Some.message
    (found_there _ _ _ _ c.in-Some.is c.in_ok-get.ensures.message))
    c.from_residual-in_err-push-in-Some-opened.ensures.0
    (c.in_err-push-in-Some-opened.ensures.unchanged ∙ c.in_ok-push.ensures.pushed)

pub change_links-requires-clause-many : goal.change_links-requires-clause-many
change_links-requires-clause-many c = let self = c.args.self.now in
    omega (
      arith,
      length-set self.switches.items c.in-Switch.switch c.hear.new.self,
      few_in c.requires,
    )

pub change_links-requires-clause-next : goal.change_links-requires-clause-next
change_links-requires-clause-next c =
    let ready = c.requires.begins.ready in
    let within = hears (goal.at.change_links-requires-clause-next c).In-Switch in
    opening_next ready.refines c.requires.row c.args.number c.in-Switch.switch
    c.in-Some-opened.version c.in-Some.message c.index_mut.result.now c.hear.new.self ready.may
    (found_there _ _ _ _ c.in-Some.is c.in_ok-get.ensures.message) c.in-Switch.is within.0
    c.index_mut.ensures.value c.in_ok-heard.ensures.after
    (sym c.in_ok-heard.ensures.opened ∙ c.in-Some-opened.is) ready.room

pub change_links-requires-clause-may : goal.change_links-requires-clause-may
change_links-requires-clause-may c = let ready = c.requires.begins.ready in
    rw c.deliver.ensures (opening_may ready.refines c.requires.row c.args.number c.in-Switch.switch
    c.in-Some-opened.version c.in-Some.message c.index_mut.result.now c.hear.new.self ready.may
    (found_there _ _ _ _ c.in-Some.is c.in_ok-get.ensures.message) c.in-Switch.is
    (hears (goal.at.change_links-requires-clause-may c).In-Switch).0 c.index_mut.ensures.value
    c.in_ok-heard.ensures.after (sym c.in_ok-heard.ensures.opened ∙ c.in-Some-opened.is) ready.room)

pub returns : goal.returns
returns c = λ before row begins. let self = c.args.self.now in
    let new = c.change_links.new.self in
    let n = c.args.number in
    let s = c.in-Switch.switch in
    let stamp = c.in-Some-opened.version in
    let message = c.in-Some.message in
    let ready = begins.ready in
    let there = found_there _ _ _ _ c.in-Some.is c.in_ok-get.ensures.message in
    let own = c.index_mut.result.now in
    let within = hears (goal.at.returns c).In-Switch in
    let opens = sym c.in_ok-heard.ensures.opened ∙ c.in-Some-opened.is in
    let others = set self.switches.items s c.hear.new.self in
    let messages : List Message = log_all_adverts_sent self.near (logged_near_all self.links others) others in
    let rest = c.change_links.ensures.rest in
    let behind = c.push-in-Some-opened.new.self in
    let sends = machine_sent_items_from (length c.deliver.new.self + 1) messages in
    goes_told (item.Delivered n) (λ k. item.Opened s stamp ∷ machine_sent_items_from k messages) c.push-2.new.self
    (length c.deliver.new.self) (bag_posts_with_delivered self.log.bag n) (map new_bag_post messages) begins
    (follows begins rest.files rest.ports (ap controller_newest_policy rest.controller)) (record {
      piece_is = opening_piece ready.refines row n s stamp message own c.hear.new.self ready.may
          there c.in-Switch.is within.0 c.index_mut.ensures.value c.in_ok-heard.ensures.after opens;
      counted = omega (arith, rest.packets);
      pushed = c.in_ok-push.ensures.pushed;
      number_is = ap length c.deliver.ensures
          ∙ length_changed (bag_post_with_status bag_delivered_status) self.log.bag n;
      travelling = rest.travelling;
      written = step_written c.change_links.result c.push-2.new.self behind new.log.journal sends
          (item.Opened s stamp ∷ sends) (item.Opened s stamp) refl
          c.in_ok-push-in-Some-opened.ensures.pushed c.change_links.ensures.written;
      part = step_part c.change_links.result c.push-2.new.self behind new.log.journal sends
          (item.Opened s stamp ∷ sends) (item.Opened s stamp) refl
          c.in_ok-push-in-Some-opened.ensures.pushed c.change_links.ensures.part;
      posted = rw c.deliver.ensures at c.change_links.ensures.posted;
      refines = both_ok c.change_links.result (λ near_is are.
          relinked_refines rest near_is
          (opening_refines ready.refines row n s stamp message own c.hear.new.self ready.may there
          c.in-Switch.is within.0 c.index_mut.ensures.value c.in_ok-heard.ensures.after opens
          new.switches.items are)) c.change_links.ensures.near c.change_links.ensures.switches;
    })
