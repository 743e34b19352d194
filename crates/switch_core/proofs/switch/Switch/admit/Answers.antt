use Rattle.std.proofs.Common.{◌∙◌, ap, sym}
use Rattle.failover.specs.Exports.{no_failover_links}
use Rattle.switch_core.specs.Exports.{SwitchValue, switch_incoming_packet}
use Rattle.switch_core.proofs.SwitchAdmissions.{not_admitted, was_admitted}
use Rattle.switch_core.proofs.SwitchLookupAnswers.{entry_uncached}
use Rattle.switch_core.proofs.switch.Switch.admit.Goals as goal

pub returns-then-not-serves-clause-answer : goal.returns-then-not-serves-clause-answer
returns-then-not-serves-clause-answer c = λ site number. not_admitted c.args.self.now site
    (switch_incoming_packet c.args.self.now number c.args.h.now)
    (sym c.serves.ensures ∙ c.if-not-serves.true)

pub returns-then-not-serves-clause-uncached : goal.returns-then-not-serves-clause-uncached
returns-then-not-serves-clause-uncached c = λ site number.
    entry_uncached c.args.self.now site number c.args.h.now

pub returns-clause-answer : goal.returns-clause-answer
returns-clause-answer c = λ site number. was_admitted c.args.self.now c.count-2.new.self site number
    c.args.h.now c.look_up-forwarding.result c.self.inside.number c.count-2.ensures
    (sym c.serves.ensures ∙ c.if-not-serves.false) (ap (λ (s : SwitchValue). s.number)
    c.self.view_is) (c.look_up-forwarding.ensures site number no_failover_links)

pub returns-clause-uncached : goal.returns-clause-uncached
returns-clause-uncached c = λ site number. entry_uncached c.args.self.now site number c.args.h.now
