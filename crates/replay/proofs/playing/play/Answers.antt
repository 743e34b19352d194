use Rattle.world.specs.Exports.{world_setting_at}
use Rattle.std.proofs.Common.{[], ◌+◌, ◌∙◌, ◌≡◌, Err, List, None, Some, ap, arith, map, refl, subst, sym}
use Rattle.base.proofs.Exports.{drop_all}
use Rattle.update_machine.specs.Exports.{Item, journal_next_packet}
use Rattle.meters.specs.Exports.{MeterBoardValue, SeenMeter, meter_board_after, seen_meter_board}
use Rattle.update_machine.proofs.Exports.{start_laws}
use Rattle.replay.specs.Leavings.{replay_left_in}
use Rattle.replay.proofs.ReplayAskedStep.{brought_few}
use Rattle.replay.proofs.ReplayEventPlays.{PlaysOn, plays_from_start, plays_no_more, plays_on_by, stops_by}
use Rattle.replay.specs.InForce.{IsReplayPlanInForce}
use Rattle.replay.proofs.ReplayBoard.{kept_up}
use Rattle.replay.proofs.ReplayedWorld.{tie_of}
use Rattle.replay.proofs.playing.play.Goals as goal
use Rattle.replay.proofs.playing.play.Given.{Over}

board_is : (one other : MeterBoardValue SeenMeter) → one.meters ≡ other.meters → one.gone ≡ other.gone
    → one ≡ other
board_is one other meters gone = λ i. record { meters = meters i; gone = gone i }

pub loop-event-init : goal.loop-event-init
loop-event-init g c =
    let world = c.args.world in
    let begun = c.requires.begun in record {
      rows = refl;
      setting = refl;
      able = begun.able;
      packets = omega (
        arith,
        (tie_of world (c.refines.ensures begun.able)).counted,
        ap journal_next_packet begun.silent,
        start_laws.packets,
      );
      plays_on = λ whole stop rest.
          subst (λ journal. PlaysOn (world_setting_at world) journal 1 c.args.events.now whole stop)
          begun.silent rest;
      board = board_is (seen_meter_board g.M.Meter.seen c.new-board.result)
          (meter_board_after c.args.ports [] (map g.M.Meter.seen c.args.meters.items))
          c.new-board.ensures.kept c.new-board.ensures.gone
          ∙ ap (λ (journal : List Item). meter_board_after c.args.ports (replay_left_in journal)
          (map g.M.Meter.seen c.args.meters.items)) (sym begun.silent);
    }

pub loop-event-preserved : goal.loop-event-preserved
loop-event-preserved g c = let so_far = c.loop-event.invariant in record {
  rows = ap (λ n. n + 1) so_far.rows;
  setting = c.in-Ok.ensures.setting ∙ so_far.setting;
  able = c.in-Ok.ensures.able;
  packets = omega (arith, c.in-Ok.ensures.packets, brought_few, so_far.packets);
  plays_on = λ whole stop rest. so_far.plays_on whole stop (plays_on_by (world_setting_at c.args.world)
      c.loop-event.world.journal c.take_event_steps.new.world.journal whole
      (c.loop-event.row + 1) c.args.events.now c.loop-event.event-index _ stop
      c.loop-event-test.true (rw so_far.setting at c.in-Ok.ensures.happens) rest);
  board = kept_up _ _ _ _ c.args.ports (map g.M.Meter.seen c.args.meters.items)
      c.in-Ok.ensures.kept so_far.board;
}

pub returns-in-Err-Refused-clause-play : goal.returns-in-Err-Refused-clause-play
returns-in-Err-Refused-clause-play g c =
    let setting = world_setting_at c.args.world in
    let so_far = c.loop-event.invariant in
    let row = c.loop-event.row + 1 in
    let after = c.take_event_steps.new.world.journal in
    let stops = rw so_far.setting at c.in-Err-Refused.ensures.stops (ap Err c.in-Err-Refused.field-0-is)
    in
    rw (c.ended.ensures.journal, c.ended.ensures.full)
    (plays_from_start setting c.args.events.now after (Some row)
    (so_far.plays_on after (Some row) (stops_by setting c.loop-event.world.journal after row
    c.args.events.now c.loop-event.event-index _ c.loop-event-test.true stops)))

pub returns-clause-play : goal.returns-clause-play
returns-clause-play g c =
    let setting = world_setting_at c.args.world in
    let journal = c.loop-event.world.journal in
    let row = c.loop-event.row + 1 in
    let none = drop_all c.loop-event.event-index c.args.events.now c.loop-event-test.false in
    rw (c.ended-2.ensures.journal, c.ended-2.ensures.full)
    (plays_from_start setting c.args.events.now journal None
    (c.loop-event.invariant.plays_on journal None (subst (λ events. PlaysOn setting journal row
    events journal None) (sym none) (plays_no_more setting journal row))))

-- a full journal's board is the one that it says
full_board : (g : Over) (c : goal.After-ended g)
    → seen_meter_board g.M.Meter.seen c.take_event_steps.new.board ≡ meter_board_after c.args.ports
    (replay_left_in c.take_event_steps.new.world.journal) (map g.M.Meter.seen c.args.meters.items)
full_board g c = kept_up _ _ _ _ c.args.ports (map g.M.Meter.seen c.args.meters.items)
    (c.in-Err-Refused.ensures.kept_full (ap Err c.in-Err-Refused.field-0-is))
    c.loop-event.invariant.board

pub returns-in-Err-Refused-clause-kept : goal.returns-in-Err-Refused-clause-kept
returns-in-Err-Refused-clause-kept g c = rw (c.ended.ensures.journal, c.ended.ensures.meters)
    (ap (λ (board : MeterBoardValue SeenMeter). board.meters) (full_board g c))

pub returns-in-Err-Refused-clause-gone : goal.returns-in-Err-Refused-clause-gone
returns-in-Err-Refused-clause-gone g c = rw (c.ended.ensures.journal, c.ended.ensures.gone)
    (ap (λ (board : MeterBoardValue SeenMeter). board.gone) (full_board g c))

pub returns-clause-kept : goal.returns-clause-kept
returns-clause-kept g c = rw (c.ended-2.ensures.journal, c.ended-2.ensures.meters)
    (ap (λ (board : MeterBoardValue SeenMeter). board.meters) c.loop-event.invariant.board)

pub returns-clause-gone : goal.returns-clause-gone
returns-clause-gone g c = rw (c.ended-2.ensures.journal, c.ended-2.ensures.gone)
    (ap (λ (board : MeterBoardValue SeenMeter). board.gone) c.loop-event.invariant.board)

pub returns-in-Err-Refused-clause-held : goal.returns-in-Err-Refused-clause-held
returns-in-Err-Refused-clause-held g c = c.packet_plays_held_on_way.ensures (world_setting_at c.args.world)
    c.args.events.now c.ended.result.journal c.ended.result.full
    (tie_of c.args.world (c.refines.ensures c.requires.begun.able)).sound c.requires.events
    (returns-in-Err-Refused-clause-play g c)

pub returns-clause-held : goal.returns-clause-held
returns-clause-held g c = c.packet_plays_held_on_way.ensures (world_setting_at c.args.world)
    c.args.events.now c.ended-2.result.journal c.ended-2.result.full
    (tie_of c.args.world (c.refines.ensures c.requires.begun.able)).sound c.requires.events
    (returns-clause-play g c)

pub returns-in-Err-Refused-clause-plan : goal.returns-in-Err-Refused-clause-plan
returns-in-Err-Refused-clause-plan g c =
    let same = c.in-Err-Refused.ensures.setting ∙ c.loop-event.invariant.setting in
    rw (c.ended.ensures.journal, c.ended.ensures.plan)
    (subst (λ setting. IsReplayPlanInForce setting c.take_event_steps.new.world.journal c.in_ok-plan-in-Err-Refused.plan) same
    c.in_ok-plan-in-Err-Refused.ensures)

pub returns-clause-plan : goal.returns-clause-plan
returns-clause-plan g c = rw (c.ended-2.ensures.journal, c.ended-2.ensures.plan)
    (subst (λ setting. IsReplayPlanInForce setting c.loop-event.world.journal c.in_ok-plan.plan)
    c.loop-event.invariant.setting c.in_ok-plan.ensures)

pub replay_plan_in_force-requires : goal.replay_plan_in_force-requires
replay_plan_in_force-requires g c = c.in-Err-Refused.ensures.able_full (ap Err c.in-Err-Refused.field-0-is)
