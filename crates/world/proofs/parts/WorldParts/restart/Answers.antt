use Rattle.std.proofs.Common.{[], ◌++◌, ◌+◌, ◌<◌, ◌∙◌, ◌∷◌, ◌≡◌, OnOk, ap, arith, false, length, refl, subst, sym}
use Rattle.base.proofs.Exports.{get_or_default, on_err_weaker, on_ok_weaker}
use Rattle.message_bag.specs.Exports.{new_bag_post}
use Rattle.update_machine.specs.Exports.{Hello}
use Rattle.ctrl_msg.specs.Exports.{message_to_controller}
use Rattle.journal.specs.declared.item.Item.TheVariants as item
use Rattle.switch_core.specs.Exports.{SwitchValue}
use Rattle.refinement.proofs.RefinedActs.{hello_spelled}
use Rattle.refinement.proofs.RefinedBoots.{boot_next, boot_piece, boot_refines, up_already}
use Rattle.world.proofs.WorldStepClauses.{follows, goes_nothing, net_stays, none_in, nothing_goes}
use Rattle.world.proofs.WorldActingSteps.{goes_told}
use Rattle.world.proofs.WorldSwitchParts.{few_in, place_in, switch_in}
use Rattle.world_log.proofs.LogStepWrites.{part_none}
use Rattle.world.proofs.parts.WorldParts.restart.Goals as goal
use Rattle.world.proofs.parts.WorldParts.restart.Goals.{After-index_mut}

pub index-requires : goal.index-requires
index-requires c = place_in c.args.switch c.requires c.requires.begins.ready.may

pub index_mut-requires : goal.index_mut-requires
index_mut-requires c = place_in c.args.switch c.requires c.requires.begins.ready.may

-- ---- it is up

pub returns-then-is_up : goal.returns-then-is_up
returns-then-is_up c = λ before row begins. goes_nothing begins refl
    (up_already begins.ready.refines row c.args.switch _ begins.ready.may c.index.ensures
    (sym c.is_up.ensures ∙ c.if-is_up.true)) c.push.ensures.pushed c.push.ensures.unchanged

-- ---- it is down

is_down : (c : After-index_mut) → c.index_mut.result.now.is_up ≡ false
is_down c =
    let own = c.index_mut.result.now in
    let same : own ≡ c.index.result.now =
    c.index_mut.ensures.value ∙ get_or_default c.args.self.now.switches.items c.args.switch own
    c.index.result.now (switch_in c.args.switch c.requires c.requires.begins.ready.may)
    ∙ sym c.index.ensures in
    ap (λ (w : SwitchValue). w.is_up) same ∙ sym c.is_up.ensures ∙ c.if-is_up.false

pub restart-boot-requires : goal.restart-boot-requires
restart-boot-requires c =
    let self = c.args.self.now in
    let ready = c.requires.begins.ready in
    let own = c.index_mut.result.now in
    let down = is_down (goal.at.restart-boot-requires c).After-index_mut in
    let can = boot_next ready.refines c.requires.row c.args.switch own ready.may
    c.index_mut.ensures.value down ready.room in
    record { down = can.down; boot = can.boot }

pub returns-in_err-push : goal.returns-in_err-push
returns-in_err-push c = λ before row begins. nothing_goes begins (net_stays refl refl)
    c.from_residual.ensures.0 c.in_err-push.ensures.unchanged

pub send-requires : goal.send-requires
send-requires c =
    let self = c.args.self.now in
    let ready = c.requires.begins.ready in
    let there = switch_in c.args.switch c.requires ready.may in
    let below : c.args.switch < 64 = omega (arith, there, few_in c.requires) in record {
      spelling = rw c.hello.ensures (hello_spelled c.args.switch c.restart-boot.result below);
      few = omega (arith, ready.room);
    }

pub returns : goal.returns
returns c = λ before row begins. let self = c.args.self.now in
    let s = c.args.switch in
    let ready = begins.ready in
    let own = c.index_mut.result.now in
    let down = is_down (goal.at.returns c).After-index_mut in
    let boot = own.boot + 1 in
    let hello = message_to_controller (Hello s boot) in
    let begun = c.push-2.new.self in
    let told : c.restart-boot.result ≡ boot = c.restart-boot.ensures.boot in
    let said = c.hello.ensures ∙ ap (λ b. message_to_controller (Hello s b)) told in
    let written = subst (λ message. OnOk c.send.result
    (c.send.new.self.journal ≡ begun ++ item.Sent (length self.log.bag + 1) message ∷ [])) said
    c.send.ensures.written in
    goes_told (item.Booted s boot)
    (λ k. item.Sent k hello ∷ []) begun (length self.log.bag) self.log.bag (new_bag_post hello ∷ [])
    begins (follows begins refl refl refl) (record {
      piece_is = boot_piece ready.refines row s own ready.may c.index_mut.ensures.value down;
      counted = none_in _;
      pushed = rw told at c.in_ok-push.ensures.pushed;
      number_is = refl;
      travelling = c.send.ensures.travelling;
      written = written;
      part = on_err_weaker c.send.result (λ same. part_none begun
          (item.Sent (length self.log.bag + 1) hello ∷ []) c.send.new.self.journal same)
          c.send.ensures.unwritten;
      posted = rw said at c.send.ensures.posted;
      refines = on_ok_weaker c.send.result
          (λ done. boot_refines ready.refines row s own ready.may c.index_mut.ensures.value
          c.restart-boot.new.self down c.restart-boot.ensures.after) written;
    })
