use Rattle.std.proofs.Common.{inl, inr}
use Rattle.base.proofs.Exports.{cases_lt}
use Rattle.travelling.proofs.TravellingMasks.{none_past}
use Rattle.travelling.proofs.switch_index.next_traveller_mark.Goals as goal

pub returns : goal.returns
returns c = λ i above. elim (cases_lt i c.loop-next.next) [
  | inl low ↦ c.loop-next.invariant.none i above low
  | inr high ↦ none_past c.args.masks.now c.args.switch c.loop-next.next c.loop-next-test.false
      i high
]
