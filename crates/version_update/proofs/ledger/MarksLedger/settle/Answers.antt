use Rattle.std.proofs.Common.{◌∙◌, ap, length, subst, sym}
use Rattle.base.proofs.Exports.{length-map}
use Rattle.version_update.specs.Exports.{MarksValue, CurrentMarkRisesTo}
use Rattle.version_update.proofs.VersionOpenings.{settled_by}
use Rattle.version_update.proofs.ledger.MarksLedger.settle.Goals as goal

pub returns-clause-rule : goal.returns-clause-rule
returns-clause-rule c =
    let rises = subst (λ (m : MarksValue). CurrentMarkRisesTo m c.risen-current.result) (sym c.self.view_is)
    c.risen-current.ensures in
    let opened = c.open_joining-opens.ensures.opened in record {
      settled = settled_by _ _ _ _ _ rises opened c.self-2.view_is c.allowed-retired.ensures.allowed
          c.allowed-retired.ensures.live c.switches-2.ensures.bounds;
      switches = ap (λ (m : MarksValue). length m.switches) (c.self-2.view_is ∙ opened)
          ∙ simp length-map (ap (λ (m : MarksValue). length m.switches) c.self.view_is);
    }
