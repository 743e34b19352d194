use Rattle.std.proofs.Common.{[], ◌+◌, ◌<◌, ◌∙◌, ◌≡◌, Bool, List, ap, arith, false, length, map, max, min, refl, sym, true, ℕ}
use Rattle.base.proofs.Exports.{beq, both_ok}
use Rattle.message_bag.specs.Exports.{new_bag_post}
use Rattle.update_machine.specs.Exports.{Item, Message, machine_sent_items_from}
use Rattle.controller.specs.Exports.{controller_newest_policy}
use Rattle.journal.specs.declared.item.Item.TheVariants as item
use Rattle.refinement.specs.Exports.{refined_link_step}
use Rattle.world_log.specs.Exports.{log_all_adverts_sent, logged_near_all}
use Rattle.world.specs.Exports.{WorldStepHasBegun, world_packets_coming_in}
use Rattle.world.specs.declared.parts.WorldParts.{WorldParts}
use Rattle.world.proofs.WorldStepClauses.{follows, goes_nothing, net_stays, nothing_goes}
use Rattle.world.proofs.WorldActingSteps.{goes_told, relinked_refines}
use Rattle.world.proofs.WorldSwitchParts.{few_in}
use Rattle.refinement.proofs.RefinedLinkChanges.{numbers_left}
use Rattle.refinement.proofs.RefinedLinkSteps.{ends_below, same_refines, set_may, set_piece, set_refines}
use Rattle.world.proofs.parts.WorldParts.set_link.Goals as goal

-- no packet enters
none_come : (one two : ℕ) (up : Bool) → world_packets_coming_in (refined_link_step up one two) ≡ 0
none_come one two true = refl
none_come one two false = refl

-- both ends are switches
ends : (self : WorldParts) (one two : ℕ) (up : Bool) (begun : WorldStepHasBegun (refined_link_step up one two) self)
    → (one < 64) × (two < 64)
ends self one two up begun = ends_below begun.begins.ready.refines begun.row one two up
    begun.begins.ready.may

pub bounds-self-one : goal.bounds-self-one
bounds-self-one c = (ends c.args.self.now c.args.one c.args.two c.args.up c.requires).0

pub has-requires : goal.has-requires
has-requires c = (ends c.args.self.now c.args.one c.args.two c.args.up c.requires).1

pub set_world_log_link-requires-clause-one : goal.set_world_log_link-requires-clause-one
set_world_log_link-requires-clause-one c = (ends c.args.self.now c.args.one c.args.two c.args.up c.requires).0

pub set_world_log_link-requires-clause-two : goal.set_world_log_link-requires-clause-two
set_world_log_link-requires-clause-two c = (ends c.args.self.now c.args.one c.args.two c.args.up c.requires).1

-- ---- it is so already

pub returns-then-has-up : goal.returns-then-has-up
returns-then-has-up c = λ before row begins. let self = c.args.self.now in
    let one = c.args.one in
    let two = c.args.two in
    let up = c.args.up in
    goes_nothing begins (none_come one two up)
    (same_refines begins.ready.refines row one two up begins.ready.may
    (ap (λ b. beq b up) (sym c.has.ensures.has) ∙ c.if-has-up.true))
    c.push.ensures.pushed c.push.ensures.unchanged

-- ---- it changes

pub returns-in_err-push : goal.returns-in_err-push
returns-in_err-push c = λ before row begins. nothing_goes begins (net_stays refl refl)
    c.from_residual.ensures.0 c.in_err-push.ensures.unchanged

pub change_links-requires-clause-many : goal.change_links-requires-clause-many
change_links-requires-clause-many c = few_in c.requires

pub change_links-requires-clause-next : goal.change_links-requires-clause-next
change_links-requires-clause-next c =
    let self = c.args.self.now in
    let ready = c.requires.begins.ready in numbers_left ready.refines ready.room

pub change_links-requires-clause-may : goal.change_links-requires-clause-may
change_links-requires-clause-may c =
    let self = c.args.self.now in
    let ready = c.requires.begins.ready in
    set_may ready.refines c.requires.row c.args.one c.args.two c.args.up ready.may
    c.set_world_log_link.new.links (ap (λ b. beq b c.args.up) (sym c.has.ensures.has) ∙ c.if-has-up.false)
    c.set_world_log_link.ensures.set c.set_world_log_link.ensures.fits ready.room

pub returns : goal.returns
returns c = λ before row begins. let self = c.args.self.now in
    let one = c.args.one in
    let two = c.args.two in
    let up = c.args.up in
    let ready = begins.ready in
    let links = c.set_world_log_link.new.links in
    let other = ap (λ b. beq b up) (sym c.has.ensures.has) ∙ c.if-has-up.false in
    let near = logged_near_all links self.switches.items in
    let messages : List Message = log_all_adverts_sent self.near near self.switches.items in
    let told : Item = item.LinkIs (min one two) (max one two) up in
    let rest = c.change_links.ensures.rest in
    goes_told told (λ k. machine_sent_items_from k messages) c.push-2.new.self (length self.log.bag) self.log.bag
    (map new_bag_post messages) begins
    (follows begins rest.files rest.ports (ap controller_newest_policy rest.controller)) (record {
      piece_is = set_piece ready.refines row one two up ready.may links other c.set_world_log_link.ensures.set
          c.set_world_log_link.ensures.fits;
      counted = omega (arith, rest.packets, none_come one two up);
      pushed = cc (c.in_ok-push.ensures.pushed, c.min.ensures, c.max.ensures);
      number_is = refl;
      travelling = rest.travelling;
      written = c.change_links.ensures.written;
      part = c.change_links.ensures.part;
      posted = c.change_links.ensures.posted;
      refines = both_ok c.change_links.result (λ near_is are. relinked_refines rest near_is
          (set_refines ready.refines row one two up ready.may links other c.set_world_log_link.ensures.set
          c.set_world_log_link.ensures.fits c.change_links.new.self.switches.items are))
          c.change_links.ensures.near c.change_links.ensures.switches;
    })
