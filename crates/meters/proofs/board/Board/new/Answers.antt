use Rattle.std.proofs.Common.{◌∙◌, ◌≡◌, ap, filter, map, rules, sym}
use Rattle.base.proofs.Exports.{filter_same}
use Rattle.base.specs.Exports.{has}
use Rattle.meters.proofs.MetersKept.{map-filter, kept-nothing}
use Rattle.meters.proofs.board.Board.new.Goals as goal
use Rattle.meters.proofs.board.Board.new.Given.{Over}

chosen : (g : Over) (c : goal.After-new-gone g) → c.retain.new.self.items
    ≡ filter (λ m. has c.args.ports (g.M.Meter.seen m).port) c.args.meters.items
chosen g c = filter_same _ (λ m. has c.args.ports (g.M.Meter.seen m).port) _
    (λ m b f called. (search rules, search rules)) _ _ c.retain.ensures.filtered

pub returns-clause-chosen : goal.returns-clause-chosen
returns-clause-chosen g c = chosen g c

pub returns-clause-kept : goal.returns-clause-kept
returns-clause-kept g c = ap (map g.M.Meter.seen) (chosen g c)
    ∙ map-filter g.M.Meter.seen (λ m. has c.args.ports m.port) c.args.meters.items
    ∙ sym (kept-nothing _)
