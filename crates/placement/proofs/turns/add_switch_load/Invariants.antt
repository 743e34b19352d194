use Rattle.std.proofs.Common.{◌+◌, ◌≡◌, cond, eqb, get_or, take, ℕ}
use Rattle.base.proofs.Exports.{list_any}
use Rattle.placement.proofs.turns.add_switch_load.Given as goal

abbrev pub invariant-loop-switch : goal.invariant-loop-switch
invariant-loop-switch l = (s : ℕ) → get_or l.loads s 0
    ≡ get_or l.initial.loads s 0 + cond (list_any (eqb s) (take l.switch-index l.targets)) l.more 0
