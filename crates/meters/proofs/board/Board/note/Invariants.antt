use Rattle.std.proofs.Common.{[], ◌++◌, ◌-◌, ◌∷◌, ◌≡◌, drop, flat_map, length, map, take}
use Rattle.meters.specs.Exports.{meter_leaving_records, meters_after}
use Rattle.meters.proofs.board.Board.note.Given as goal

abbrev pub invariant-loop-at : goal.invariant-loop-at
invariant-loop-at g l = record {
  noted : meters_after ((l.port, l.leaving) ∷ []) (map g.M.Meter.seen l.fn.self.meters)
      ≡ map g.M.Meter.seen (take l.at l.self-inside.meters.items) ++ meters_after
      ((l.port, l.leaving) ∷ []) (map g.M.Meter.seen (drop l.at l.self-inside.meters.items));
  told : l.fn.self.gone
      ++ flat_map (meter_leaving_records (l.port, l.leaving)) (map g.M.Meter.seen l.fn.self.meters)
      ≡ l.self-inside.gone ++ flat_map (meter_leaving_records (l.port, l.leaving))
      (map g.M.Meter.seen (drop l.at l.self-inside.meters.items));
}

abbrev pub decreases-loop-at : goal.decreases-loop-at
decreases-loop-at g l = length l.self-inside.meters.items - l.at
