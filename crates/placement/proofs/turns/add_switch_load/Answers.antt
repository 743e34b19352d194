use Rattle.std.proofs.Common.{◌+◌, ◌<◌, ◌||◌, ◌∙◌, ◌≡◌, ◌≢◌, AllPairs, List, ap, arith, cond, eq-eqb, eqb, false, get_or, get_or-set_other, get_or-set_same, inl, inr, length, ne_eqb, set, take, ℕ}
use Rattle.base.proofs.Exports.{cases_eq, list_any, or_right, take_more}
use Rattle.placement.proofs.PlacementOrder.{not_among_before, among-push}
use Rattle.placement.proofs.turns.add_switch_load.Goals as goal

pub overflow_add-loads : goal.overflow_add-loads
overflow_add-loads c =
    let targets = c.args.targets.now in
    let k = c.loop-switch.switch-index in
    let first = not_among_before targets k c.loop-switch-test.true c.requires.distinct in
    let same = c.loop-switch.invariant (get_or targets k 0)
    ∙ ap (λ b. get_or c.args.loads.now (get_or targets k 0) 0 + cond b c.args.more 0) first in
    omega (arith, same, c.requires.fits k 0 c.loop-switch-test.true)

-- one more target
added_more : (old loads targets : List ℕ) (size k : ℕ)
    → ((s : ℕ) → get_or loads s 0 ≡ get_or old s 0 + cond (list_any (eqb s) (take k targets)) size
    0) → k < length targets → get_or targets k 0 < length loads → AllPairs (λ a b. a ≢ b) targets
    → (s : ℕ) → get_or (set loads (get_or targets k 0) (get_or loads (get_or targets k 0) 0 + size))
    s 0 ≡ get_or old s 0 + cond (list_any (eqb s) (take (k + 1) targets)) size 0
added_more old loads targets size k before within there distinct s = let x = get_or targets k 0 in
    rw (ap (list_any (eqb s)) (take_more targets k 0 within) ∙ among-push s (take k targets) x)
    (elim (cases_eq s x) [
      | inl same ↦ let first = not_among_before targets k within distinct in
          let old_load = before x ∙ ap (λ b. get_or old x 0 + cond b size 0) first in
          let here = ap (λ z. get_or (set loads x (get_or loads x 0 + size)) z 0) same
          ∙ get_or-set_same loads x (get_or loads x 0 + size) 0 there in
          rw (or_right (list_any (eqb s) (take k targets)) (eqb s x) (eq-eqb s x same))
          (omega (arith, here, old_load, ap (λ z. get_or old z 0) same))
      | inr other ↦ rw (ne_eqb s x other) (rw (or-false (list_any (eqb s) (take k targets)))
          (get_or-set_other loads x s (get_or loads x 0 + size) 0 other ∙ before s))
    ])
  where
    or-false : (b : _) → (b || false) ≡ b
    or-false b = grind arith

pub loop-switch-preserved : goal.loop-switch-preserved
loop-switch-preserved c = added_more c.args.loads.now c.loop-switch.loads c.args.targets.now
    c.args.more c.loop-switch.switch-index c.loop-switch.invariant c.loop-switch-test.true (omega (
      arith,
      c.requires.there c.loop-switch.switch-index 0 c.loop-switch-test.true,
      c.loop-switch.auto.loads,
    )) c.requires.distinct
