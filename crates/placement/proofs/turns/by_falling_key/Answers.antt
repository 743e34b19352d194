use Rattle.std.proofs.Common.{◌+◌, ◌∙◌, ◌≡◌, ◌≤◌, arith, get_or, length, rules, sym, ℕ}
use Rattle.base.proofs.Exports.{Reverse, always_returns_same, range_with_len, sum_by-IsPermutation}
use Rattle.placement.specs.Order.{in_placement_order}
use Rattle.placement.specs.Placement.{is_earlier_in_placement}
use Rattle.placement.proofs.PlacementOrder.{one_of, count, count-range-le, sum-in_order, rises_from_sorted, rises-in_order, same_rising, lexicographic}
use Rattle.placement.proofs.PlacementFirsts.{earlier_order}
use Rattle.placement.proofs.turns.by_falling_key.Goals as goal

pub returns : goal.returns
unfolding is_earlier_in_placement
returns c =
    let order = c.sort_unstable_by_key.new.self.items in
    let sizes = c.args.numbers.now in
    let numbers = range_with_len 0 (length sizes) in
    let key : ℕ → Reverse ℕ × ℕ = λ p. (record { 0 = get_or sizes p 0 }, p) in
    let sorted = c.sort_unstable_by_key.ensures.sorted key
    (always_returns_same _ _ _ (λ a r f called. (search rules, search rules))) in
    let counts : (z : ℕ) → count z order ≡ count z numbers = λ z. sum_by-IsPermutation (one_of z)
    numbers order (rw c.in_ok-order.ensures at c.sort_unstable_by_key.ensures.permutation) in
    let once : (z : ℕ) → count z order ≤ 1 =
    λ z. omega (arith, counts z, count-range-le z 0 (length sizes)) in
    let rises = rises_from_sorted (is_earlier_in_placement sizes) (earlier_order sizes) order (λ k d low high.
    let here = get_or order k d in
    let next = get_or order (k + 1) d in
    lexicographic (get_or sizes here 0) (get_or sizes next 0) next here (sorted k d low high))
    once in
    let same = same_rising (is_earlier_in_placement sizes) (earlier_order sizes) order
    (in_placement_order (is_earlier_in_placement sizes) numbers) rises (rises-in_order (is_earlier_in_placement sizes)
    (earlier_order sizes) numbers (λ z. count-range-le z 0 (length sizes)))
    (λ z. counts z ∙ sym (sum-in_order (one_of z) (is_earlier_in_placement sizes) numbers)) in
    same
