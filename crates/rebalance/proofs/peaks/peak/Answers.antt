use Rattle.std.proofs.Common.{◌∙◌, ◌≡◌, arith, length, refl, replicate}
use Rattle.placement.proofs.PlacementCallerLemmas.{none_yet}
use Rattle.rebalance.proofs.RebalanceLoads.{greatest-is}
use Rattle.rebalance.proofs.peaks.peak.Goals as goal

pub carry-requires-clause-none : goal.carry-requires-clause-none
carry-requires-clause-none c = λ s. none_yet (replicate 64 0) 64 s refl

pub returns : goal.returns
returns c = let len : length c.carry.new.carried ≡ 64 = omega (arith, c.carry.auto.carried) in
    c.greatest.ensures
    ∙ greatest-is 64 c.args.weights.now c.args.targets.now c.carry.new.carried len
    (λ s within. c.carry.ensures s (omega (arith, within)))
