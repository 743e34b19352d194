use Rattle.std.proofs.Common.{◌++◌, ◌<◌, ◌∙◌, ◌≡◌, List, ap, arith, drop, get_or, length, length-take, replicate, rules, sum, take, take_all, ℕ}
use Rattle.base.proofs.Exports.{get_or_default, length-replicate}
use Rattle.placement.proofs.PlacementCallerLemmas.{none_yet, overwritten}
use Rattle.update_machine.specs.Exports.{journal_current_mark}
use Rattle.rebalance.proofs.RebalanceWeights.{asked-room, asked-step, asked_count, weights-are, weights-few}
use Rattle.rebalance.proofs.weighing.weights.Goals as goal

as_many : (numbers : List ℕ) (n : ℕ) → numbers ≡ replicate n 0 → length numbers ≡ n
as_many numbers n is = ap length is ∙ length-replicate n 0

pub loop-item-init : goal.loop-item-init
loop-item-init c = record {
  number = as_many c.in_ok-weights.weights.items c.args.parts (search rules);
  counts = λ p within. none_yet c.in_ok-weights.weights.items c.args.parts p (search rules);
}

pub add_one_weight-requires : goal.add_one_weight-requires
add_one_weight-requires c = λ p d within. let items = c.items-items.result.now in
    let i = c.loop-item.item-index in
    let here : p < length c.loop-item.weights.items =
    omega (arith, within, ap length c.deref_mut.ensures.value) in
    omega (
      arith,
      ap (λ numbers. get_or numbers p d) c.deref_mut.ensures.value,
      get_or_default c.loop-item.weights.items p d 0 here,
      c.loop-item.invariant.counts p (omega (arith, here, c.loop-item.invariant.number)),
      asked-room c.rebalance_version_at_end-current.result p (take i items),
      length-take i items,
      c.loop-item-test.true,
    )

pub loop-item-preserved : goal.loop-item-preserved
loop-item-preserved c =
    let items = c.items-items.result.now in
    let i = c.loop-item.item-index in
    let old = c.loop-item.weights.items in
    let new = c.add_one_weight.new.numbers in
    let len : length new ≡ length old = c.add_one_weight.auto.numbers ∙ ap length c.deref_mut.ensures.value
    in
    let written : take c.loop-item.weights.len (new ++ drop (length new) old) ≡ new =
    overwritten c.loop-item.weights.len new old len (omega (arith, c.loop-item.weights.ok.0)) in
    rw written (record {
      number = len ∙ c.loop-item.invariant.number;
      counts = λ p within.
          let here : p < length c.deref_mut.result.now =
          omega (arith, within, c.loop-item.invariant.number, ap length c.deref_mut.ensures.value) in
          asked-step c.rebalance_version_at_end-current.result p items i c.item-item.result c.weighed_partition_in.result
          (get_or c.deref_mut.result.now p 0) (get_or new p 0) c.loop-item-test.true c.item-item.is
          c.weighed_partition_in.ensures
          (ap (λ numbers. get_or numbers p 0) c.deref_mut.ensures.value
          ∙ c.loop-item.invariant.counts p within) (c.add_one_weight.ensures p here);
    })

pub returns-clause-weights : goal.returns-clause-weights
returns-clause-weights c =
    let items = c.items-items.result.now in
    let current = c.rebalance_version_at_end-current.result in
    weights-are c.args.journal.now c.args.parts c.loop-item.weights.items
    c.loop-item.invariant.number (λ p within. c.loop-item.invariant.counts p within
    ∙ ap (asked_count current p) (take_all c.loop-item.item-index items c.loop-item-test.false)
    ∙ ap (λ version. asked_count version p items) c.rebalance_version_at_end-current.ensures
    ∙ ap (λ journal. asked_count (journal_current_mark journal) p journal) c.items-items.ensures)

pub returns-clause-small : goal.returns-clause-small
returns-clause-small c = let items = c.items-items.result.now in
    omega (
      arith,
      (ap sum (returns-clause-weights c)),
      weights-few c.args.journal.now c.args.parts,
      ap length c.items-items.ensures,
      c.loop-item-test.false,
    )
