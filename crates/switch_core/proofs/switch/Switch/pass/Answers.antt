use Rattle.std.proofs.Common.{◌<◌, ◌∙◌, ◌≡◌, ◌≢◌, subst, sym}
use Rattle.switch_core.proofs.SwitchOnwardHops.{next_apart}
use Rattle.switch_core.proofs.switch.Switch.pass.Goals as goal

pub returns-in-Some-2-clause-other : goal.returns-in-Some-2-clause-other
returns-in-Some-2-clause-other c = λ other is. let number = c.args.self.now.number in
    let same : c.in-Some.next ≡ other = cc in
    subst (λ o. (o ≢ number) × (o < 64)) same
    (next_apart c.args.route.now c.args.place number c.in-Some.next c.switch_core_next_switch.ensures.route
    c.requires.here (sym c.switch_core_next_switch.ensures.next ∙ c.in-Some.is))
