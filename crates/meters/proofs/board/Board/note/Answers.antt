use Rattle.std.proofs.Common.{[], ◌++◌, ◌<◌, ◌∙◌, ◌∷◌, ◌≡◌, ap, append-nil, drop, flat_map, get_or-set_same, length, map, rules, sym}
use Rattle.meters.specs.Exports.{meter_flow_records_of, meter_leaving_records, meters_after}
use Rattle.meters.proofs.MetersKept.{after_stay, after_leave, after_all}
use Rattle.meters.proofs.MeterRecords.{board_on, told_all, told_leave, told_stay}
use Rattle.meters.proofs.board.Board.note.Goals as goal
use Rattle.meters.proofs.board.Board.note.Given.{Over}

pub loop-at-preserved-in-Stay : goal.loop-at-preserved-in-Stay
loop-at-preserved-in-Stay g c = record {
  noted = c.loop-at.invariant.noted ∙ after_stay g.M.Meter.seen ((c.args.port, c.args.leaving.now)
      ∷ []) c.loop-at.self-inside.meters.items c.loop-at.at c.index_mut.result.now c.offer_leaving.new.meter
      (search rules) (sym c.index_mut.ensures.value) (c.offer_leaving.ensures.stay c.in-Stay.is);
  told = c.loop-at.invariant.told ∙ told_stay g.M.Meter.seen (c.args.port, c.args.leaving.now)
      c.loop-at.self-inside.gone c.loop-at.self-inside.meters.items c.loop-at.at
      c.index_mut.result.now c.offer_leaving.new.meter (search rules) (sym c.index_mut.ensures.value)
      (c.offer_leaving.ensures.silent c.in-Stay.is);
}

-- the records of the meter that leaves
its_records : (g : Over) (c : goal.After-drop-meter-in-Leave g)
    → meter_leaving_records (c.args.port, c.args.leaving.now) (g.M.Meter.seen c.index_mut.result.now)
    ≡ c.in_ok-records-in-Leave.field-0
its_records g c =
    let within : c.loop-at.at < length c.loop-at.self-inside.meters.items = search rules in
    let it : c.remove-meter.result ≡ c.offer_leaving.new.meter =
    c.remove-meter.ensures.value ∙ get_or-set_same c.loop-at.self-inside.meters.items c.loop-at.at
    c.offer_leaving.new.meter c.remove-meter.result within in
    c.offer_leaving.ensures.told c.in-Leave.is ∙ ap (λ m. meter_flow_records_of (g.M.Meter.seen m)) (sym it)
    ∙ sym c.in_ok-records-in-Leave.ensures

pub loop-at-preserved : goal.loop-at-preserved
loop-at-preserved g c = record {
  noted = c.loop-at.invariant.noted ∙ after_leave g.M.Meter.seen ((c.args.port, c.args.leaving.now)
      ∷ []) c.loop-at.self-inside.meters.items c.loop-at.at c.index_mut.result.now c.offer_leaving.new.meter
      c.remove-meter.new.self.items (search rules) (sym c.index_mut.ensures.value)
      (c.offer_leaving.ensures.leave c.in-Leave.is) c.remove-meter.ensures.items;
  told = c.loop-at.invariant.told ∙ told_leave g.M.Meter.seen (c.args.port, c.args.leaving.now)
      c.loop-at.self-inside.gone c.in_ok-records-in-Leave.field-0 c.loop-at.self-inside.meters.items
      c.remove-meter.new.self.items c.loop-at.at c.index_mut.result.now c.offer_leaving.new.meter
      (search rules) (sym c.index_mut.ensures.value) (its_records g c) c.remove-meter.ensures.items
      ∙ ap (λ gone. gone ++ flat_map (meter_leaving_records (c.args.port, c.args.leaving.now))
      (map g.M.Meter.seen (drop c.loop-at.at c.remove-meter.new.self.items)))
      (sym c.in_ok-append-in-Leave.ensures);
}

-- at the end each meter noted it
noted : (g : Over) (c : goal.After-loop-at g)
    → map g.M.Meter.seen c.loop-at.self-inside.meters.items ≡ meters_after
    ((c.args.port, c.args.leaving.now) ∷ []) (map g.M.Meter.seen c.args.self.now.meters)
noted g c =
    sym (c.loop-at.invariant.noted ∙ after_all g.M.Meter.seen ((c.args.port, c.args.leaving.now)
    ∷ []) c.loop-at.self-inside.meters.items c.loop-at.at (search rules))

-- and those that left have told
told : (g : Over) (c : goal.After-loop-at g) → c.loop-at.self-inside.gone
    ≡ c.args.self.now.gone ++ flat_map (meter_leaving_records (c.args.port, c.args.leaving.now))
    (map g.M.Meter.seen c.args.self.now.meters)
told g c = sym (c.loop-at.invariant.told ∙ told_all g.M.Meter.seen (c.args.port, c.args.leaving.now)
    c.loop-at.self-inside.gone c.loop-at.self-inside.meters.items c.loop-at.at (search rules))

pub returns-clause-noted : goal.returns-clause-noted
returns-clause-noted g c = noted g c

pub returns-clause-told : goal.returns-clause-told
returns-clause-told g c = told g c ∙ ap (λ all. c.args.self.now.gone ++ all) (sym (append-nil _))

pub returns-clause-goes_on : goal.returns-clause-goes_on
returns-clause-goes_on g c =
    λ ports left meters until_now. board_on ports left ((c.args.port, c.args.leaving.now) ∷ [])
    meters _ _ until_now (noted g c) (returns-clause-told g c)
