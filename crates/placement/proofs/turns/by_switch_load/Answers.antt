use Rattle.std.proofs.Common.{◌+◌, ◌∙◌, ◌≡◌, ◌≤◌, ap, arith, filter, get_or, rules, sym, ℕ}
use Rattle.base.proofs.Exports.{always_returns_same, filter_same, sum_by-IsPermutation}
use Rattle.placement.specs.Order.{in_placement_order}
use Rattle.placement.specs.Placement.{is_lighter_placement_switch, placement_has_room, placement_with_room}
use Rattle.placement.proofs.PlacementOrder.{one_of, count, rises_from_sorted, rises-in_order, same_rising, sum-in_order, lexicographic}
use Rattle.placement.proofs.PlacementFirsts.{lighter_order, count-placement_with_room-le}
use Rattle.placement.proofs.turns.by_switch_load.Goals as goal

pub returns : goal.returns
unfolding is_lighter_placement_switch
returns c =
    let load : ℕ → ℕ = λ s. get_or c.args.loads.now s 0 in
    let held : ℕ → ℕ = λ s. get_or c.args.held.now s 0 in
    let rooms = c.args.rooms.now in
    let size = c.args.size in
    let listed : c.retain.new.self.items ≡ placement_with_room held rooms size =
    (filter_same _ (placement_has_room held rooms size) _ (λ s b f called. (search rules, search rules)) _ _
    c.retain.ensures.filtered) ∙ ap (filter (placement_has_room held rooms size)) c.in_ok-switches.ensures in
    let switches = c.sort_unstable_by_key.new.self.items in
    let sorted = c.sort_unstable_by_key.ensures.sorted (λ s. (load s, s))
    (always_returns_same _ _ _ (λ a r f called. (search rules, search rules))) in
    let moved = rw listed at c.sort_unstable_by_key.ensures.permutation in
    let counts : (z : ℕ) → count z switches ≡ count z (placement_with_room held rooms size) =
    λ z. sum_by-IsPermutation (one_of z) (placement_with_room held rooms size) switches moved in
    let once : (z : ℕ) → count z switches ≤ 1 =
    λ z. omega (arith, counts z, count-placement_with_room-le held rooms size z) in
    let rises = rises_from_sorted (is_lighter_placement_switch load) (lighter_order load) switches (λ k d low high.
    let here = get_or switches k d in
    let next = get_or switches (k + 1) d in
    lexicographic (load next) (load here) next here (sorted k d low high)) once in
    same_rising (is_lighter_placement_switch load) (lighter_order load) switches
    (in_placement_order (is_lighter_placement_switch load) (placement_with_room held rooms size)) rises
    (rises-in_order (is_lighter_placement_switch load) (lighter_order load) (placement_with_room held rooms size)
    (count-placement_with_room-le held rooms size))
    (λ z. counts z ∙ sym (sum-in_order (one_of z) (is_lighter_placement_switch load) (placement_with_room held rooms size)))
