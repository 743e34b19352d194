use Rattle.travelling.proofs.travelling.Travelling.next_at.Goals as goal

pub returns-then-switch-ge64 : goal.returns-then-switch-ge64
returns-then-switch-ge64 c = rw (← c.self.view_is)
    (λ i above. c.self.invariant.below i c.args.switch c.if-switch-ge64.true)
