-- The placement as partitions in turn, where the load is what a switch holds.
use Rattle.std.proofs.Common.{[], ◌++◌, ◌+◌, ◌<◌, ◌^◌, ◌∷◌, ◌≡◌, ◌≤◌, Bool, Err, List, Ok, Result, ap, arith, cond, false, get_or, length, ltb, ltb-false, ltb-true, refl, replicate, set, sum, take, true, ℕ}
use Rattle.base.proofs.Exports.{All-from_get_or, length-replicate, sum_by-le}
use Rattle.placement.specs.Order.{in_placement_order}
use Rattle.placement.specs.Placement.{is_lighter_placement_switch, placement_load_before, placement_with_room, IsPlacement, PlacementLacksRoom, placement_from, placement_of, placement_turn_rule_by_size, MeetsPlacement}
use Rattle.placement.proofs.PlacementOrder.{length-in_order}
use Rattle.placement.proofs.PlacementFirsts.{first_in_order}
use Rattle.placement.proofs.PlacementTurns.{TakenTurns, hosted_or_refused, same_hosted, same_refused, taken_all, taken_more, taken_none, taken_refused, turns}

-- so many sizes have a sum of 64 bits
pub sum-sizes : (sizes : List ℕ) → length sizes < 2 ^ 32 → ((k : ℕ) → get_or sizes k 0 < 2 ^ 32)
    → sum sizes < 2 ^ 64
sum-sizes sizes few small =
    let most = sum_by-le (λ x. x) 4294967295 sizes
    (All-from_get_or (λ x. x ≤ 4294967295) sizes 0 (λ k within. omega (arith, small k))) in
    omega (arith, most)

-- ---- all turns

turns_meet : (sizes rooms : List ℕ) (backups : ℕ) (left done : List ℕ) (P : List (List ℕ))
    → TakenTurns (placement_turn_rule_by_size sizes rooms backups) P done left → MeetsPlacement sizes rooms backups
    (placement_from sizes rooms backups P left)
unfolding placement_load_before
turns_meet sizes rooms backups [] done P taken = taken_all (placement_turn_rule_by_size sizes rooms backups) P done
    taken
turns_meet sizes rooms backups (p ∷ left) done P taken =
    let load = placement_load_before sizes P p in
    let found = in_placement_order (is_lighter_placement_switch load) (placement_with_room load rooms (get_or sizes p 0)) in
    by_case (ltb (length found) (1 + backups))
    (placement_from sizes rooms backups (set P p (take (1 + backups) found)) left)
    (λ few. taken_refused (placement_turn_rule_by_size sizes rooms backups) P done p left taken (omega (
      arith,
      ltb-true (length found) (1 + backups) few,
      length-in_order (is_lighter_placement_switch load) (placement_with_room load rooms (get_or sizes p 0)),
    )))
    (λ many. turns_meet sizes rooms backups left
    (done ++ p ∷ []) (set P p (take (1 + backups) found)) (taken_more (placement_turn_rule_by_size sizes rooms backups)
    P done p left (take (1 + backups) found) taken (first_in_order load load rooms
    (get_or sizes p 0) (1 + backups) (ltb-false (length found) (1 + backups) many))))
  where
    by_case : (b : Bool) (hosted : Result (List (List ℕ)) ℕ)
        → (b ≡ true → PlacementLacksRoom sizes rooms backups p)
        → (b ≡ false → MeetsPlacement sizes rooms backups hosted)
        → MeetsPlacement sizes rooms backups (cond b (Err p) hosted)
    by_case true hosted refused meets = refused refl
    by_case false hosted refused meets = meets refl

pub placement_meets : (sizes rooms : List ℕ) (backups : ℕ) → MeetsPlacement sizes rooms backups
    (placement_of sizes rooms backups)
unfolding placement_of
placement_meets sizes rooms backups = turns_meet sizes rooms backups (turns sizes) []
    (replicate (length sizes) []) (taken_none (placement_turn_rule_by_size sizes rooms backups)
    (replicate (length sizes) []) (length-replicate (length sizes) []))

-- ---- one placement

pub placement_is : (sizes rooms : List ℕ) (backups : ℕ) (Q : List (List ℕ))
    → IsPlacement sizes rooms backups Q → placement_of sizes rooms backups ≡ Ok Q
placement_is sizes rooms backups Q placement = by_case (placement_of sizes rooms backups)
    (placement_meets sizes rooms backups)
  where
    by_case : (answer : Result (List (List ℕ)) ℕ) → MeetsPlacement sizes rooms backups answer
        → answer ≡ Ok Q
    by_case (Ok P) meets = ap Ok (same_hosted (placement_turn_rule_by_size sizes rooms backups) P Q meets placement)
    by_case (Err p) meets = absurd (hosted_or_refused (placement_turn_rule_by_size sizes rooms backups) p Q placement
        meets)

pub refusal_is : (sizes rooms : List ℕ) (backups p : ℕ) → PlacementLacksRoom sizes rooms backups p
    → placement_of sizes rooms backups ≡ Err p
refusal_is sizes rooms backups p refused = by_case (placement_of sizes rooms backups)
    (placement_meets sizes rooms backups)
  where
    by_case : (answer : Result (List (List ℕ)) ℕ) → MeetsPlacement sizes rooms backups answer
        → answer ≡ Err p
    by_case (Ok P) meets = absurd (hosted_or_refused (placement_turn_rule_by_size sizes rooms backups) p P meets refused)
    by_case (Err q) meets = ap Err (same_refused (placement_turn_rule_by_size sizes rooms backups) q p meets refused)
