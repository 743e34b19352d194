use Rattle.std.proofs.Common.{◌%◌, ◌*◌, ◌+◌, ◌/◌, ◌<◌, ◌^◌, ◌≡◌, arith, get_or, refl, suc, zero, ℕ}
use Rattle.base.specs.Exports.{least_in_number_set}
use Rattle.travelling.proofs.TravellingMasks.{least_marked, none_before, none_in_mask, none_past, rest_below}
use Rattle.travelling.proofs.switch_index.next_traveller_mark_in_block.Goals as goal

pub returns-then-place-masks : goal.returns-then-place-masks
returns-then-place-masks c =
    λ i above _. none_past c.args.masks.now c.args.switch c.args.from c.if-place-masks.true i above

pub returns-then-rest-eq0 : goal.returns-then-rest-eq0
returns-then-rest-eq0 c = none_in_mask c.args.masks.now c.args.switch c.args.from c.if-rest-eq0.true

pub returns : goal.returns
unfolding least_in_number_set
returns c =
    let masks = c.args.masks.now in
    let s = c.args.switch in
    let from = c.args.from in
    let rest = get_or masks (from / 64 * 64 + s) 0 / 2 ^ (from % 64) in
    let some : 0 < rest = by_cases rest c.if-rest-eq0.false in
    let fits : get_or masks (from / 64 * 64 + s) 0 < 2 ^ 64 =
    (let fit = c.type_inv.masks (from / 64 * 64 + s) in omega (arith, fit.fits)) in
    let rest_fits : rest < 2 ^ 64 = rest_below masks s from fits in (
      omega arith,
      least_marked masks s from some fits rest_fits,
      none_before masks s from some fits rest_fits,
    )
  where
    by_cases : (r : ℕ) → (r ≡ 0 → ⊥) → 0 < r
    by_cases zero other = absurd (other refl)
    by_cases (suc r) other = omega arith
