use Rattle.std.proofs.Common.{◌-◌, ◌∙◌, Err, ap, arith, drop, length, refl, subst, sym, take, true, true≢false}
use Rattle.base.proofs.Exports.{on_err_holds, same_error}
use Rattle.meters.specs.Exports.{seen_meter_board}
use Rattle.steps.specs.Exports.{IsEventOfSteps}
use Rattle.update_machine.specs.Exports.{Setting}
use Rattle.world.specs.Exports.{WorldValue, no_world_step, world_setting_at}
use Rattle.replay.specs.Leavings.{ReplayMetersKeepUp}
use Rattle.replay.specs.Playing.{ReplayEventStopsWithin}
use Rattle.replay.proofs.ReplayAskedStep.{Asked, asked, brought_all, none_yet}
use Rattle.replay.proofs.ReplayBoard.{keep_up_next, keep_up_none, rest_is}
use Rattle.replay.proofs.ReplayEventStepping.{begins_next, begins_whole, happens_whole, stops_next, took_next, took_none}
use Rattle.replay.proofs.ReplayedWorld.{few_packets, tie_of}
use Rattle.replay.proofs.event_steps.take_event_steps.Goals as goal
use Rattle.replay.proofs.event_steps.take_event_steps.Goals.{After-refines}
use Rattle.replay.proofs.event_steps.take_event_steps.Given.{Over}

pub loop-next-init : goal.loop-next-init
loop-next-init g c = record {
  setting = refl;
  able = c.requires.able;
  packets = omega (arith, none_yet c.args.event.now);
  took = took_none (world_setting_at c.args.world.now) c.args.row c.args.event.now c.args.world.now.journal;
  kept = keep_up_none c.args.world.now.journal (seen_meter_board g.M.Meter.seen c.args.board.now);
}

-- what is true of the step that is asked for next
next_asked : (g : Over) (c : After-refines g) → Asked (world_setting_at c.loop-next.world) c.args.row
    c.args.event.now c.loop-next.is_begun c.loop-next.world.journal c.in-Some.next
next_asked g c = asked c.packet_drains_end.ensures.fewer c.deliveries_rise.ensures c.loop-next.world
    c.args.row c.args.event.now c.loop-next.is_begun c.in-Some.next
    (c.refines.ensures c.loop-next.invariant.able) (sym c.in-Some.ensures)

pub step-requires-clause-few : goal.step-requires-clause-few
step-requires-clause-few g c =
    let so_far = c.loop-next.invariant in
    let next = next_asked g (goal.at.step-requires-clause-few g c).After-refines in
    few_packets c.loop-next.world c.args.world.now.packets (c.refines.ensures so_far.able)
    (omega (arith, so_far.packets, next.none)) c.requires.few

pub step-requires-clause-may : goal.step-requires-clause-may
step-requires-clause-may g c =
    let so_far = c.loop-next.invariant in
    let refines = tie_of c.loop-next.world (c.refines.ensures so_far.able) in
    let next = next_asked g (goal.at.step-requires-clause-may g c).After-refines in
    next.may
    (subst (λ (s : Setting). IsEventOfSteps s.net (length s.files) c.args.event.now)
    (sym so_far.setting) c.requires.may)
    (omega (arith, refines.counted, so_far.packets, next.none, c.requires.few))

pub loop-next-smaller : goal.loop-next-smaller
loop-next-smaller g c = let next = next_asked g (goal.at.loop-next-smaller g c).After-refines in
    rw c.in_ok-step.ensures.written (next.fewer c.in_ok-step.ensures.room)

pub loop-next-preserved : goal.loop-next-preserved
loop-next-preserved g c =
    let so_far = c.loop-next.invariant in
    let world = c.loop-next.world in
    let next = next_asked g (goal.at.loop-next-preserved g c).After-refines in record {
      setting = c.in_ok-step.ensures.setting ∙ so_far.setting;
      able = c.in_ok-step.ensures.goes_on;
      packets = omega (
        arith,
        c.in_ok-step.ensures.counted,
        so_far.packets,
        next.none,
        next.brought,
      );
      took = took_next (world_setting_at c.args.world.now) c.args.row c.args.event.now c.loop-next.is_begun
          c.args.world.now.journal world.journal c.step.new.self.journal c.in-Some.next so_far.took
          (sym c.in-Some.ensures) c.in_ok-step.ensures.room (rw so_far.setting at c.in_ok-step.ensures.written);
      kept =
          let before = c.items-before.result.now in
          let items = c.items.result.now in
          keep_up_next c.args.world.now.journal world.journal c.step.new.self.journal _
          (take (length items - length before) (drop (length before) items)) _ _ _
          c.in_ok-step.ensures.written so_far.kept c.in_ok-replay_note_left_packets.ensures
          (rest_is world.journal c.step.new.self.journal before items (c.items-before.ensures
          ∙ c.journal.ensures) (c.items.ensures ∙ c.journal-in-Some.ensures));
    }

pub returns-in_err-step-clause-part : goal.returns-in_err-step-clause-part
returns-in_err-step-clause-part g c = let so_far = c.loop-next.invariant in
    on_err_holds c.from_residual.result _
    (begins_next (world_setting_at c.args.world.now) c.args.row c.args.event.now c.loop-next.is_begun
    c.args.world.now.journal c.loop-next.world.journal c.step.new.self.journal c.in-Some.next
    so_far.took (sym c.in-Some.ensures) (rw so_far.setting at c.in_err-step.ensures.part))

pub returns-in_err-step-clause-stops : goal.returns-in_err-step-clause-stops
returns-in_err-step-clause-stops g c = λ is.
    let full = ap Err (same_error c.from_residual.result _ no_world_step c.from_residual.ensures.1 is) in
    subst (λ (world : WorldValue). ReplayEventStopsWithin (world_setting_at c.args.world.now) c.args.row
    c.args.event.now c.args.world.now.journal world.journal)
    (sym (c.in_err-step.ensures.unchanged full))
    (stops_next (world_setting_at c.args.world.now) c.args.row c.args.event.now c.loop-next.is_begun
    c.args.world.now.journal c.loop-next.world.journal c.in-Some.next
    c.loop-next.invariant.took (sym c.in-Some.ensures) (c.in_err-step.ensures.full full))

pub returns-in_err-step-clause-kept_part : goal.returns-in_err-step-clause-kept_part
returns-in_err-step-clause-kept_part g c = on_err_holds c.from_residual.result _ (λ spent. record {
  whole = c.loop-next.world.journal;
  written = c.in_err-step.ensures.part.written;
  longer = c.in_err-step.ensures.part.grown;
  kept = c.loop-next.invariant.kept;
})

pub returns-in_err-replay_note_left_packets-clause-kept_part : goal.returns-in_err-replay_note_left_packets-clause-kept_part
returns-in_err-replay_note_left_packets-clause-kept_part g c = on_err_holds c.from_residual-in_err-replay_note_left_packets.result
    _ (λ spent. absurd (true≢false (sym spent ∙ c.in_ok-step.ensures.goes_on)))

pub returns-in_err-step-clause-able_full : goal.returns-in_err-step-clause-able_full
returns-in_err-step-clause-able_full g c = λ is.
    let full = ap Err (same_error c.from_residual.result _ no_world_step c.from_residual.ensures.1 is) in
    rw (c.in_err-step.ensures.unchanged full) c.loop-next.invariant.able

pub returns-in_err-step-clause-packets_full : goal.returns-in_err-step-clause-packets_full
returns-in_err-step-clause-packets_full g c = λ is.
    let full = ap Err (same_error c.from_residual.result _ no_world_step c.from_residual.ensures.1 is) in
    let next = next_asked g (goal.at.returns-in_err-step-clause-packets_full g c).After-refines in
    rw (c.in_err-step.ensures.unchanged full)
    (omega (arith, c.loop-next.invariant.packets, next.none))

pub returns-in_err-step-clause-kept_full : goal.returns-in_err-step-clause-kept_full
returns-in_err-step-clause-kept_full g c = λ is.
    let full = ap Err (same_error c.from_residual.result _ no_world_step c.from_residual.ensures.1 is) in
    subst (λ (world : WorldValue). ReplayMetersKeepUp c.args.world.now.journal world.journal
    (seen_meter_board g.M.Meter.seen c.args.board.now) (seen_meter_board g.M.Meter.seen c.loop-next.board))
    (sym (c.in_err-step.ensures.unchanged full)) c.loop-next.invariant.kept

pub returns-in_err-replay_note_left_packets-clause-part : goal.returns-in_err-replay_note_left_packets-clause-part
returns-in_err-replay_note_left_packets-clause-part g c = let so_far = c.loop-next.invariant in
    on_err_holds c.from_residual-in_err-replay_note_left_packets.result _
    (begins_whole (world_setting_at c.args.world.now) c.args.row c.args.event.now true
    c.args.world.now.journal c.step.new.self.journal
    (took_next (world_setting_at c.args.world.now) c.args.row c.args.event.now c.loop-next.is_begun
    c.args.world.now.journal c.loop-next.world.journal c.step.new.self.journal c.in-Some.next
    so_far.took (sym c.in-Some.ensures) c.in_ok-step.ensures.room
    (rw so_far.setting at c.in_ok-step.ensures.written)))

pub returns-clause-happens : goal.returns-clause-happens
returns-clause-happens g c = happens_whole (world_setting_at c.args.world.now) c.args.row c.args.event.now
    c.loop-next.is_begun c.args.world.now.journal c.loop-next.world.journal
    c.loop-next.invariant.took (sym c.next_replay_step.ensures ∙ c.in_default.is)

pub returns-clause-packets : goal.returns-clause-packets
returns-clause-packets g c = omega (
  arith,
  c.loop-next.invariant.packets,
  brought_all c.args.event.now c.loop-next.is_begun c.loop-next.world.journal
      (sym c.next_replay_step.ensures ∙ c.in_default.is),
)
