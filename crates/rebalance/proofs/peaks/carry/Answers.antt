use Rattle.std.proofs.Common.{[], ◌<◌, ◌∙◌, ◌≡◌, ap, arith, length, sum_by, sym}
use Rattle.base.proofs.Exports.{get_or_default, range_with_len}
use Rattle.rebalance.proofs.RebalanceLoads.{carried, carried-step, carried-within, traffic-sum}
use Rattle.rebalance.proofs.peaks.carry.Goals as goal

pub loop-partition-init : goal.loop-partition-init
loop-partition-init c = λ s within. c.requires.none s

pub add_first_weight-requires : goal.add_first_weight-requires
add_first_weight-requires c = λ s d within. omega (
  arith,
  get_or_default c.loop-partition.carried s d 0 within,
  c.loop-partition.invariant s within,
  carried-within c.args.weights.now c.args.targets.now s c.loop-partition.partition
      c.loop-partition-test.true,
  c.requires.small,
)

pub loop-partition-preserved : goal.loop-partition-preserved
loop-partition-preserved c = λ s within. let targets = c.args.targets.now in
    let k = c.loop-partition.partition in
    let here : s < length c.loop-partition.carried = omega (arith, within, c.add_first_weight.auto.carried)
    in
    carried-step c.args.weights.now targets s k _ _ c.index-targets-partition.result
    (c.index-targets-partition.is ∙ get_or_default targets k c.index-targets-partition.result []
    (omega (arith, c.loop-partition-test.true, c.requires.each)))
    (c.loop-partition.invariant s here) (c.add_first_weight.ensures s here)

pub returns : goal.returns
returns c = λ s within. let weights = c.args.weights.now in
    let targets = c.args.targets.now in
    let all : c.loop-partition.partition ≡ length weights = omega arith in
    c.loop-partition.invariant s (omega (arith, within, c.loop-partition.auto.carried))
    ∙ ap (λ n. sum_by (carried weights targets s) (range_with_len 0 n)) all
    ∙ sym (traffic-sum weights targets s)
