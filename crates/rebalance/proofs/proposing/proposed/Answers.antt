use Rattle.std.proofs.Common.{◌∙◌, ◌≡◌, ◌≤◌, ap, arith, inr}
use Rattle.rebalance.specs.Loads.{peak}
use Rattle.rebalance.proofs.RebalanceSpread.{kept_by_lack, kept_by_peak}
use Rattle.rebalance.proofs.proposing.proposed.Goals as goal

pub returns-in_default : goal.returns-in_default
returns-in_default c = λ sizes rooms backups is none. let refused = rw c.in_default.is at none in
    inr (kept_by_lack sizes c.args.weights.now rooms backups refused.0 c.args.old.items refused.1)

pub returns : goal.returns
returns c = λ sizes rooms backups is none. let weights = c.args.weights.now in
    let new_peak : c.peak.result ≡ peak weights c.in-Some.new.items =
    c.peak.ensures ∙ ap (peak weights) c.deref.ensures.value in
    let old_peak : c.peak-2.result ≡ peak weights c.args.old.items =
    c.peak-2.ensures ∙ ap (peak weights) c.deref-2.ensures.value in
    inr (kept_by_peak sizes weights rooms backups c.args.old.items c.in-Some.new.items
    (rw c.in-Some.is at is) (omega (arith, c.if-peak.false, new_peak, old_peak)))
