use Rattle.std.proofs.Common.{◌∙◌, ◌≡◌, subst, sym}
use Rattle.meters.specs.declared.meter.Stay.{Stay}
use Rattle.meters.specs.Exports.{IsMeterNoted}
use Rattle.meters.proofs.MetersKept.{kept-stay, kept-leave, kept_elsewhere}
use Rattle.meters.proofs.board.offer_leaving.Goals as goal
use Rattle.meters.proofs.board.offer_leaving.Given.{Over}

-- what the answer says of the meter
answered : (g : Over) (c : goal.After-note g) (answer : Stay) → c.note.result ≡ answer → IsMeterNoted
    c.args.leaving.now (g.M.Meter.seen c.args.meter.now) (g.M.Meter.seen c.note.new.self) answer
answered g c answer is = subst (λ (it : Stay). IsMeterNoted c.args.leaving.now
    (g.M.Meter.seen c.args.meter.now) (g.M.Meter.seen c.note.new.self) it) is c.note.ensures

pub returns-then-port-clause-stay : goal.returns-then-port-clause-stay
returns-then-port-clause-stay g c =
    λ stays. kept-stay c.args.port c.args.leaving.now (g.M.Meter.seen c.args.meter.now)
    (g.M.Meter.seen c.note.new.self) (sym c.port.ensures ∙ c.if-port.true) (answered g c _ stays)

pub returns-then-port-clause-leave : goal.returns-then-port-clause-leave
returns-then-port-clause-leave g c =
    λ leaves. kept-leave c.args.port c.args.leaving.now (g.M.Meter.seen c.args.meter.now)
    (g.M.Meter.seen c.note.new.self) (sym c.port.ensures ∙ c.if-port.true) (answered g c _ leaves)

pub returns-else-port-clause-stay : goal.returns-else-port-clause-stay
returns-else-port-clause-stay g c = λ _. kept_elsewhere c.args.port c.args.leaving.now
    (g.M.Meter.seen c.args.meter.now) (λ same. c.if-port.false (c.port.ensures ∙ same))
