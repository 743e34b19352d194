-- Partitions in turn, whatever loads they weigh: what a turn keeps, that turns end in a placement
-- or in a refusal, that there is one of these, and that no switch is given more than its room.
use Rattle.std.proofs.Common.{[], ◌&&◌, ◌++◌, ◌+◌, ◌<◌, ◌∙◌, ◌∷◌, ◌≡◌, ◌≢◌, ◌≤◌, Bool, List, ap, append-nil, append_assoc, arith, cond, drop, eqb, false, filter, get_or, get_or-set_other, get_or-set_same, inl, inr, length, length-set, refl, replicate, set, subst, sum, sum_by, sym, take, take_all, true, ℕ, rules}
use Rattle.base.proofs.Exports.{AllByRecursion, cases_Bool, cases_eq, cases_lt, common_steps, drop_all, false_from_ne_true, false≢true, fill_by_all, filter_agree, fun_ext, get_or_default, get_or_past, list_any, nat_tests, range_with_len, recursion_from_All, same_lists, sum-map, sum_by-append, sum_by-cons, sum_by-le-sum_by, sum_by_push}
use Rattle.policy_rules.proofs.PolicyRulesCallerLemmas.{each_weaker}
use Rattle.placement.specs.Order.{in_placement_order}
use Rattle.placement.specs.Placement.{is_earlier_in_placement, placement_sum_before, placement_targets_at, placement_with_room, AreLightestPlacementSwitches, PlacementHasTargets, HasDuePlacementTargets, IsPlacementRefused, PlacementTurnRule}
use Rattle.placement.proofs.PlacementOrder.{Rises, one_of, one_of-same, one_of-other, count, count-range-le, count-range_within, range-within, sum-in_order, rises-in_order, each_from_count}
use Rattle.placement.proofs.PlacementFirsts.{among_holds, earlier_order, first_along, first_room, same_first, room_for_first}

-- ---- turns

-- the partitions in turn
abbrev pub turns : List ℕ → List ℕ
turns sizes = in_placement_order (is_earlier_in_placement sizes) (range_with_len 0 (length sizes))

rises-turns : (sizes : List ℕ) → Rises (is_earlier_in_placement sizes) (turns sizes)
rises-turns sizes = search (rules, rises-in_order, earlier_order, count-range-le)

count-turns : (sizes : List ℕ) (z : ℕ)
    → count z (turns sizes) ≡ count z (range_with_len 0 (length sizes))
count-turns sizes z = sum-in_order (one_of z) (is_earlier_in_placement sizes) (range_with_len 0 (length sizes))

in_turns : (sizes : List ℕ) (p : ℕ) → p < length sizes → 0 < count p (turns sizes)
in_turns sizes p within = search (rules, count-turns, count-range_within)

turns-within : (sizes : List ℕ) (p : ℕ) → 0 < count p (turns sizes) → p < length sizes
turns-within sizes p there = range-within p (length sizes) (omega (arith, count-turns sizes p))

-- a number, with those before and after it
record IsSplit (sizes done : List ℕ) (p : ℕ) (left : List ℕ) : Type 0 where
  within : p < length sizes
  before : AllByRecursion (λ o. is_earlier_in_placement sizes o p ≡ true) done
  after : AllByRecursion (λ o. is_earlier_in_placement sizes p o ≡ true) left
  others : (o : ℕ) → o < length sizes → is_earlier_in_placement sizes o p ≡ true → 0 < count o done

rises-parts : (before : ℕ → ℕ → Bool) (done : List ℕ) (p : ℕ) (left : List ℕ)
    → Rises before (done ++ p ∷ left) → AllByRecursion (λ o. before o p ≡ true) done
    × AllByRecursion (λ o. before p o ≡ true) left
rises-parts before [] p left rises = (tt, rises.0)
rises-parts before (x ∷ xs) p left rises =
    let rest = rises-parts before xs p left rises.1 in ((reached xs rises.0, rest.0), rest.1)
  where
    reached : (ys : List ℕ) → AllByRecursion (λ y. before x y ≡ true) (ys ++ p ∷ left)
        → before x p ≡ true
    reached [] each = each.0
    reached (y ∷ ys) each = reached ys each.1

not_both : (sizes : List ℕ) (a b : ℕ) → is_earlier_in_placement sizes a b ≡ true → is_earlier_in_placement sizes b a ≡ true
    → ⊥
not_both sizes a b p q =
    false≢true (sym ((earlier_order sizes).never a) ∙ (earlier_order sizes).trans a b a p q)

split_of : (sizes done : List ℕ) (p : ℕ) (left : List ℕ) → turns sizes ≡ done ++ p ∷ left
    → IsSplit sizes done p left
split_of sizes done p left split =
    let parts = rises-parts (is_earlier_in_placement sizes) done p left
    (subst (Rises (is_earlier_in_placement sizes)) split (rises-turns sizes)) in
    let counts : (o : ℕ) → count o (turns sizes) ≡ count o done + count o (p ∷ left) =
    λ o. ap (count o) split ∙ sum_by-append (one_of o) done (p ∷ left) in record {
      within = turns-within sizes p
          (omega (arith, counts p, sum_by-cons (one_of p) p left, one_of-same p));
      before = parts.0;
      after = parts.1;
      others = λ o within earlier. let other : o ≢ p =
          λ same. false≢true (sym ((earlier_order sizes).never p)
          ∙ subst (λ z. is_earlier_in_placement sizes z p ≡ true) same earlier) in
          elim (cases_lt 0 (count o left)) [
            | inl later ↦ absurd (not_both sizes o p earlier
                (each_from_count (λ z. is_earlier_in_placement sizes p z ≡ true) o left parts.1 later))
            | inr none ↦ omega (
              arith,
              counts o,
              sum_by-cons (one_of o) p left,
              one_of-other o p other,
              in_turns sizes o within,
            )
          ];
    }

split_at : (p : ℕ) (xs : List ℕ) → 0 < count p xs → (done : List ℕ) × (left : List ℕ)
    × (xs ≡ done ++ p ∷ left)
split_at p [] there = absurd (omega arith)
split_at p (x ∷ xs) there = elim (cases_eq p x) [
  | inl same ↦ ([], xs, ap (λ y. y ∷ xs) (sym same))
  | inr other ↦ let rest = split_at p xs
      (omega (arith, sum_by-cons (one_of p) x xs, one_of-other p x other)) in
      (x ∷ rest.0, rest.1, ap (λ ys. x ∷ ys) rest.2)
]

earlier-within : (sizes : List ℕ) (o p : ℕ) → is_earlier_in_placement sizes o p ≡ true → p < length sizes
    → o < length sizes
unfolding is_earlier_in_placement
earlier-within sizes o p earlier within = search (rules, nat_tests, get_or_past)

-- ---- what the earlier partitions put on a switch

-- the sum of the numbers of these partitions, as far as they put theirs on the switch
abbrev pub sum_among : (List ℕ → List ℕ) → List ℕ → List (List ℕ) → List ℕ → ℕ → ℕ
sum_among chosen numbers placement done s =
    sum_by (λ o. cond (list_any (eqb s) (chosen (placement_targets_at placement o))) (get_or numbers o 0) 0)
    done

sums_agree : (chosen : List ℕ → List ℕ) (keys numbers : List ℕ) (P Q : List (List ℕ)) (p : ℕ)
    → ((o : ℕ) → is_earlier_in_placement keys o p ≡ true → placement_targets_at P o ≡ placement_targets_at Q o)
    → placement_sum_before chosen keys numbers P p ≡ placement_sum_before chosen keys numbers Q p
sums_agree chosen keys numbers P Q p same = search (rules, filter_agree)

-- a turn changes no sum before itself or before an earlier one
sums-set : (chosen : List ℕ → List ℕ) (keys numbers : List ℕ) (P : List (List ℕ)) (p q : ℕ)
    (targets : List ℕ) → is_earlier_in_placement keys p q ≡ false
    → placement_sum_before chosen keys numbers (set P p targets) q ≡ placement_sum_before chosen keys numbers P q
sums-set chosen keys numbers P p q targets later = search (rules, sums_agree, get_or-set_other)

pub sum-filter : (f : ℕ → ℕ) (p : ℕ → Bool) (xs : List ℕ)
    → sum_by f (filter p xs) ≡ sum_by (λ x. cond (p x) (f x) 0) xs
sum-filter f p [] = refl
sum-filter f p (x ∷ xs) = by_case (p x) refl (sum-filter f p xs) where
  by_case : (b : Bool) → p x ≡ b → sum_by f (filter p xs) ≡ sum_by (λ y. cond (p y) (f y) 0) xs
      → sum_by f (cond b (x ∷ filter p xs) (filter p xs)) ≡ sum_by (λ y. cond (p y) (f y) 0)
      (x ∷ xs)
  by_case true is rest = let one : cond (p x) (f x) 0 ≡ f x = rw is refl in
      omega (
        arith,
        sum_by-cons f x (filter p xs),
        sum_by-cons (λ y. cond (p y) (f y) 0) x xs,
        one,
        rest,
      )
  by_case false is rest = let none : cond (p x) (f x) 0 ≡ 0 = rw is refl in
      omega (arith, sum_by-cons (λ y. cond (p y) (f y) 0) x xs, none, rest)

sum_same : (f g : ℕ → ℕ) (xs : List ℕ) → AllByRecursion (λ x. f x ≡ g x) xs
    → sum_by f xs ≡ sum_by g xs
sum_same f g [] each = refl
sum_same f g (x ∷ xs) each =
    omega (arith, sum_by-cons f x xs, sum_by-cons g x xs, each.0, sum_same f g xs each.1)

pub sum_none : (f : ℕ → ℕ) (xs : List ℕ) → AllByRecursion (λ x. f x ≡ 0) xs → sum_by f xs ≡ 0
sum_none f [] each = refl
sum_none f (x ∷ xs) each = omega (arith, sum_by-cons f x xs, each.0, sum_none f xs each.1)

each-append : (P : ℕ → Type 0) (xs ys : List ℕ) → AllByRecursion P xs → AllByRecursion P ys
    → AllByRecursion P (xs ++ ys)
each-append P [] ys front back = back
each-append P (x ∷ xs) ys front back = (front.0, each-append P xs ys front.1 back)

-- what was put on a switch so far is its sum before the next turn
running_sum : (chosen : List ℕ → List ℕ) (keys numbers : List ℕ) (P : List (List ℕ))
    (done : List ℕ) (p : ℕ) (left : List ℕ) → turns keys ≡ done ++ p ∷ left → (s : ℕ)
    → placement_sum_before chosen keys numbers P p s ≡ sum_among chosen numbers P done s
running_sum chosen keys numbers P done p left split s =
    let parts = split_of keys done p left split in
    let number : ℕ → ℕ = λ o. get_or numbers o 0 in
    let among : ℕ → Bool = λ o. list_any (eqb s) (chosen (placement_targets_at P o)) in
    let held : ℕ → Bool = λ o. is_earlier_in_placement keys o p && among o in
    let weight : ℕ → ℕ = λ o. cond (held o) (number o) 0 in
    let there = each_weaker (λ o. is_earlier_in_placement keys o p ≡ true) _
    (λ o is. ap (λ b. cond (b && among o) (number o) 0) is) done parts.before in
    let later = each_weaker (λ o. is_earlier_in_placement keys p o ≡ true) _
    (λ o is. ap (λ b. cond (b && among o) (number o) 0)
    (false_from_ne_true _ (λ flipped. not_both keys p o is flipped))) left parts.after in
    let whole : sum_by number (filter held (range_with_len 0 (length keys))) ≡ sum_by weight
    (done ++ p ∷ left) = sum-filter number held (range_with_len 0 (length keys))
    ∙ sym (sum-in_order weight (is_earlier_in_placement keys) (range_with_len 0 (length keys)))
    ∙ ap (sum_by weight) split in
    let front = sum_same weight (λ o. cond (among o) (number o) 0) done there in
    let back = sum_none weight (p ∷ left)
    ((ap (λ b. cond (b && among p) (number p) 0) ((earlier_order keys).never p)), later) in
    omega (arith, whole, sum_by-append weight done (p ∷ left), front, back)

-- ---- one turn

-- the partitions of the turns so far have their targets
pub record TakenTurns (t : PlacementTurnRule) (placement : List (List ℕ)) (done left : List ℕ) : Type 0 where
  pub split : turns t.keys ≡ done ++ left
  pub number : length placement ≡ length t.keys
  pub hosted : AllByRecursion (HasDuePlacementTargets t placement) done

pub taken_none : (t : PlacementTurnRule) (placement : List (List ℕ)) → length placement ≡ length t.keys
    → TakenTurns t placement [] (turns t.keys)
taken_none t placement len = record { split = refl; number = len; hosted = tt }

hosted-set : (t : PlacementTurnRule) (P : List (List ℕ)) (p q : ℕ) (targets : List ℕ)
    → is_earlier_in_placement t.keys q p ≡ true → HasDuePlacementTargets t P q → HasDuePlacementTargets t (set P p targets) q
hosted-set t P p q targets earlier hosted =
    let later = false_from_ne_true _ (λ flipped. not_both t.keys q p earlier flipped) in
    let other : q ≢ p = λ same. false≢true (sym ((earlier_order t.keys).never p)
    ∙ subst (λ z. is_earlier_in_placement t.keys z p ≡ true) same earlier) in
    first_along _ _ _ _ t.rooms (get_or t.sizes q 0) (1 + t.backups) _ _
    (sym (sums-set (λ xs. xs) t.keys t.sizes P p q targets later))
    (sym (sums-set t.loaded t.keys t.keys P p q targets later))
    (sym (get_or-set_other P p q targets [] other)) hosted

pub taken_more : (t : PlacementTurnRule) (P : List (List ℕ)) (done : List ℕ) (p : ℕ) (left targets : List ℕ)
    → TakenTurns t P done (p ∷ left) → AreLightestPlacementSwitches (placement_sum_before (λ xs. xs) t.keys t.sizes P p)
    (placement_sum_before t.loaded t.keys t.keys P p) t.rooms (get_or t.sizes p 0) (1 + t.backups) targets
    → TakenTurns t (set P p targets) (done ++ p ∷ []) left
taken_more t P done p left targets taken first =
    let parts = split_of t.keys done p left taken.split in
    let never = (earlier_order t.keys).never p in
    let here : HasDuePlacementTargets t (set P p targets) p = first_along _ _ _ _ t.rooms
    (get_or t.sizes p 0) (1 + t.backups) _ _
    (sym (sums-set (λ xs. xs) t.keys t.sizes P p p targets never))
    (sym (sums-set t.loaded t.keys t.keys P p p targets never))
    (sym (get_or-set_same P p targets [] (omega (arith, parts.within, taken.number)))) first in
    record {
      split = taken.split ∙ sym (append_assoc done (p ∷ []) left);
      number = length-set P p targets ∙ taken.number;
      hosted = each-append (HasDuePlacementTargets t (set P p targets)) done (p ∷ [])
          (both done parts.before taken.hosted) (here, tt);
    }
  where
    both : (xs : List ℕ) → AllByRecursion (λ o. is_earlier_in_placement t.keys o p ≡ true) xs
        → AllByRecursion (HasDuePlacementTargets t P) xs → AllByRecursion (HasDuePlacementTargets t (set P p targets)) xs
    both [] earlier hosted = tt
    both (x ∷ xs) earlier hosted =
        (hosted-set t P p x targets earlier.0 hosted.0, both xs earlier.1 hosted.1)

pub taken_within : (t : PlacementTurnRule) (P : List (List ℕ)) (done : List ℕ) (p : ℕ) (left : List ℕ)
    → TakenTurns t P done (p ∷ left) → p < length P
taken_within t P done p left taken =
    omega (arith, (split_of t.keys done p left taken.split).within, taken.number)

pub taken_all : (t : PlacementTurnRule) (P : List (List ℕ)) (done : List ℕ) → TakenTurns t P done []
    → PlacementHasTargets t P
taken_all t P done taken = record {
  number = taken.number;
  hosted = λ p within. each_from_count (HasDuePlacementTargets t P) p done taken.hosted
      (subst (λ xs. 0 < count p xs) (taken.split ∙ append-nil done) (in_turns t.keys p within));
}

pub taken_refused : (t : PlacementTurnRule) (P : List (List ℕ)) (done : List ℕ) (p : ℕ) (left : List ℕ)
    → TakenTurns t P done (p ∷ left)
    → length (placement_with_room (placement_sum_before (λ xs. xs) t.keys t.sizes P p) t.rooms (get_or t.sizes p 0))
    < 1 + t.backups → IsPlacementRefused t p
taken_refused t P done p left taken fewer =
    let parts = split_of t.keys done p left taken.split in record {
      there = parts.within;
      placement = P;
      earlier = λ o within earlier. each_from_count (HasDuePlacementTargets t P) o done taken.hosted
          (parts.others o within earlier);
      fewer = fewer;
    }

-- what a turn puts on a switch
sum_among_more : (chosen : List ℕ → List ℕ) (t : PlacementTurnRule) (numbers : List ℕ) (P : List (List ℕ))
    (done : List ℕ) (p : ℕ) (left targets : List ℕ) → TakenTurns t P done (p ∷ left) → (s : ℕ)
    → sum_among chosen numbers (set P p targets) (done ++ p ∷ []) s ≡ sum_among chosen numbers P
    done s + cond (list_any (eqb s) (chosen targets)) (get_or numbers p 0) 0
sum_among_more chosen t numbers P done p left targets taken s =
    let parts = split_of t.keys done p left taken.split in
    let put : List ℕ → ℕ → ℕ = λ xs o. cond (list_any (eqb s) (chosen xs)) (get_or numbers o 0) 0 in
    let after : ℕ → ℕ = λ o. put (placement_targets_at (set P p targets) o) o in
    let before : ℕ → ℕ = λ o. put (placement_targets_at P o) o in
    let same : AllByRecursion (λ o. after o ≡ before o) done =
    each_weaker (λ o. is_earlier_in_placement t.keys o p ≡ true) _
    (λ o is. let other : o ≢ p = λ here. false≢true
    (sym ((earlier_order t.keys).never p) ∙ subst (λ z. is_earlier_in_placement t.keys z p ≡ true) here is) in
    ap (λ xs. put xs o) (get_or-set_other P p o targets [] other)) done parts.before in
    let here : after p ≡ put targets p = ap (λ xs. put xs p)
    (get_or-set_same P p targets [] (omega (arith, parts.within, taken.number))) in
    omega (arith, sum_by_push after done p, sum_same after before done same, here)

-- ---- one turn with running sums

-- a slice of a list, written back
pub overwritten : (n : ℕ) (new old : List ℕ) → length new ≡ length old → n ≡ length old
    → take n (new ++ drop (length new) old) ≡ new
overwritten n new old len is = rw (drop_all (length new) old (omega arith), append-nil)
    (take_all n new (omega arith))

pub none_yet : (numbers : List ℕ) (n s : ℕ) → numbers ≡ replicate n 0 → get_or numbers s 0 ≡ 0
none_yet numbers n s is = grind (arith, common_steps)

-- the turns so far are done, and these are what they put on the switches
pub record Loaded (t : PlacementTurnRule) (held loads : List ℕ) (placement : List (List ℕ))
    (done left : List ℕ) : Type 0 where
  pub taken : TakenTurns t placement done left
  pub held_is : (s : ℕ) → get_or held s 0 ≡ sum_among (λ xs. xs) t.sizes placement done s
  pub loads_is : (s : ℕ) → get_or loads s 0 ≡ sum_among t.loaded t.keys placement done s
  pub held_switches : length held ≡ length t.rooms
  pub loads_switches : length loads ≡ length t.rooms

-- the running sums are those before the next turn
held_before : (t : PlacementTurnRule) (held loads : List ℕ) (P : List (List ℕ)) (done : List ℕ) (p : ℕ)
    (left : List ℕ) → Loaded t held loads P done (p ∷ left)
    → (λ s. get_or held s 0) ≡ placement_sum_before (λ xs. xs) t.keys t.sizes P p
held_before t held loads P done p left loaded = fun_ext (λ s. loaded.held_is s
    ∙ sym (running_sum (λ xs. xs) t.keys t.sizes P done p left loaded.taken.split s))

loads_before : (t : PlacementTurnRule) (held loads : List ℕ) (P : List (List ℕ)) (done : List ℕ) (p : ℕ)
    (left : List ℕ) → Loaded t held loads P done (p ∷ left)
    → (λ s. get_or loads s 0) ≡ placement_sum_before t.loaded t.keys t.keys P p
loads_before t held loads P done p left loaded = search (rules, running_sum)

pub loaded_none : (t : PlacementTurnRule) (held loads : List ℕ) (P : List (List ℕ))
    → length P ≡ length t.keys → ((s : ℕ) → get_or held s 0 ≡ 0)
    → ((s : ℕ) → get_or loads s 0 ≡ 0) → length held ≡ length t.rooms
    → length loads ≡ length t.rooms → Loaded t held loads P [] (turns t.keys)
loaded_none t held loads P len none_held none_loads held_switches loads_switches = record {
  taken = taken_none t P len;
  held_is = none_held;
  loads_is = none_loads;
  held_switches = held_switches;
  loads_switches = loads_switches;
}

-- what a turn adds to a running sum
abbrev pub IsAdded : List ℕ → List ℕ → List ℕ → ℕ → Type 0
IsAdded old new targets size = (s : ℕ) → get_or new s 0
    ≡ get_or old s 0 + cond (list_any (eqb s) targets) size 0

pub loaded_more : (t : PlacementTurnRule) (held loads : List ℕ) (P : List (List ℕ)) (done : List ℕ) (p : ℕ)
    (left targets more_held more_loads : List ℕ) → Loaded t held loads P done (p ∷ left)
    → AreLightestPlacementSwitches (λ s. get_or held s 0) (λ s. get_or loads s 0) t.rooms (get_or t.sizes p 0)
    (1 + t.backups) targets → IsAdded held more_held targets (get_or t.sizes p 0)
    → IsAdded loads more_loads (t.loaded targets) (get_or t.keys p 0)
    → length more_held ≡ length held → length more_loads ≡ length loads
    → Loaded t more_held more_loads (set P p targets) (done ++ p ∷ []) left
loaded_more t held loads P done p left targets more_held more_loads loaded first added carried
    held_len loads_len = record {
      taken = taken_more t P done p left targets loaded.taken
          (first_along _ _ _ _ t.rooms (get_or t.sizes p 0) (1 + t.backups) targets targets
          (held_before t held loads P done p left loaded)
          (loads_before t held loads P done p left loaded) refl first);
      held_is = λ s. omega (
        arith,
        added s,
        loaded.held_is s,
        sum_among_more (λ xs. xs) t t.sizes P done p left targets loaded.taken s,
      );
      loads_is = λ s. omega (
        arith,
        carried s,
        loaded.loads_is s,
        sum_among_more t.loaded t t.keys P done p left targets loaded.taken s,
      );
      held_switches = held_len ∙ loaded.held_switches;
      loads_switches = loads_len ∙ loaded.loads_switches;
    }

pub loaded_refused : (t : PlacementTurnRule) (held loads : List ℕ) (P : List (List ℕ)) (done : List ℕ) (p : ℕ)
    (left : List ℕ) → Loaded t held loads P done (p ∷ left)
    → length (placement_with_room (λ s. get_or held s 0) t.rooms (get_or t.sizes p 0)) < 1 + t.backups
    → IsPlacementRefused t p
loaded_refused t held loads P done p left loaded fewer = taken_refused t P done p left loaded.taken
    (rw (held_before t held loads P done p left loaded) at fewer)

-- what a switch carries before a turn, and the key of this one, are within the sum of all
pub carried-room : (t : PlacementTurnRule) (held loads : List ℕ) (P : List (List ℕ)) (done : List ℕ)
    (p : ℕ) (left : List ℕ) → Loaded t held loads P done (p ∷ left) → (s : ℕ)
    → get_or loads s 0 + get_or t.keys p 0 ≤ sum t.keys
carried-room t held loads P done p left loaded s =
    let key : ℕ → ℕ = λ o. get_or t.keys o 0 in
    let put : ℕ → ℕ = λ o. cond (list_any (eqb s) (t.loaded (placement_targets_at P o))) (key o) 0 in
    omega (
      arith,
      loaded.loads_is s,
      sum_by-le-sum_by put key done
          (λ o. part_le (list_any (eqb s) (t.loaded (placement_targets_at P o))) (key o)),
      sum_by-append key done (p ∷ left),
      sum_by-cons key p left,
      ap (sum_by key) loaded.taken.split,
      sum-in_order key (is_earlier_in_placement t.keys) (range_with_len 0 (length t.keys)),
      sum-map key (range_with_len 0 (length t.keys)),
      ap sum (fill_by_all key t.keys (length t.keys) 0 refl (λ k within. refl)),
    )
  where
    part_le : (b : Bool) (n : ℕ) → cond b n 0 ≤ n
    part_le true n = omega arith
    part_le false n = omega arith

-- ---- one placement

-- two placements give these partitions the same targets
abbrev Agree : List (List ℕ) → List (List ℕ) → List ℕ → Type 0
Agree P Q xs = AllByRecursion (λ o. placement_targets_at P o ≡ placement_targets_at Q o) xs

agree_next : (chosen : List ℕ → List ℕ) (keys numbers : List ℕ) (P Q : List (List ℕ))
    (done : List ℕ) (p : ℕ) (left : List ℕ) → turns keys ≡ done ++ p ∷ left → Agree P Q done
    → placement_sum_before chosen keys numbers P p ≡ placement_sum_before chosen keys numbers Q p
agree_next chosen keys numbers P Q done p left split agree =
    let parts = split_of keys done p left split in
    sums_agree chosen keys numbers P Q p (λ o earlier.
    each_from_count (λ z. placement_targets_at P z ≡ placement_targets_at Q z) o
    done agree (parts.others o (earlier-within keys o p earlier parts.within) earlier))

agree_from : (t : PlacementTurnRule) (P Q : List (List ℕ)) (now done left : List ℕ)
    → turns t.keys ≡ done ++ (now ++ left) → Agree P Q done → AllByRecursion (HasDuePlacementTargets t P) now
    → AllByRecursion (HasDuePlacementTargets t Q) now → Agree P Q (done ++ now)
agree_from t P Q [] done left split agree p q = subst (Agree P Q) (sym (append-nil done)) agree
agree_from t P Q (x ∷ xs) done left split agree p q =
    let held = agree_next (λ xs. xs) t.keys t.sizes P Q done x (xs ++ left) split agree in
    let here = same_first (placement_sum_before (λ xs. xs) t.keys t.sizes Q x)
    (placement_sum_before t.loaded t.keys t.keys Q x) t.rooms (get_or t.sizes x 0)
    (1 + t.backups) (placement_targets_at P x) (placement_targets_at Q x) (first_along _ _ _ _ t.rooms
    (get_or t.sizes x 0) (1 + t.backups) (placement_targets_at P x) (placement_targets_at P x) held
    (agree_next t.loaded t.keys t.keys P Q done x (xs ++ left) split agree) refl p.0) q.0 in
    subst (Agree P Q) (append_assoc done (x ∷ []) xs)
    (agree_from t P Q xs (done ++ x ∷ []) left
    (split ∙ sym (append_assoc done (x ∷ []) (xs ++ left)))
    (each-append (λ o. placement_targets_at P o ≡ placement_targets_at Q o) done (x ∷ []) agree (here, tt)) p.1 q.1)

each_within : (P : ℕ → Type 0) (sizes : List ℕ) → ((p : ℕ) → p < length sizes → P p) → (xs : List ℕ)
    → ((z : ℕ) → 0 < count z xs → z < length sizes) → AllByRecursion P xs
each_within P sizes all [] within = tt
each_within P sizes all (x ∷ xs) within = (
  all x (within x (omega (arith, sum_by-cons (one_of x) x xs, one_of-same x))),
  each_within P sizes all xs (λ z there. within z (omega (arith, sum_by-cons (one_of z) x xs))),
)

pub same_hosted : (t : PlacementTurnRule) (P Q : List (List ℕ)) → PlacementHasTargets t P → PlacementHasTargets t Q → P ≡ Q
same_hosted t P Q p q =
    let due = λ (R : List (List ℕ)) (r : PlacementHasTargets t R). each_within (HasDuePlacementTargets t R) t.keys r.hosted
    (turns t.keys) (turns-within t.keys) in
    same_lists P Q (omega (arith, p.number, q.number)) (λ k d within.
    let here = each_from_count (λ z. placement_targets_at P z ≡ placement_targets_at Q z) k (turns t.keys)
    (agree_from t P Q (turns t.keys) [] [] (sym (append-nil (turns t.keys))) tt (due P p) (due Q q))
    (in_turns t.keys k (omega (arith, p.number))) in
    get_or_default P k d [] within ∙ here
    ∙ get_or_default Q k [] d (omega (arith, p.number, q.number)))

-- a partition that is refused has no targets in any placement of the earlier ones
refused_clash : (t : PlacementTurnRule) (p : ℕ) → IsPlacementRefused t p → (Q : List (List ℕ))
    → ((o : ℕ) → o < length t.keys → is_earlier_in_placement t.keys o p ≡ true → HasDuePlacementTargets t Q o) → HasDuePlacementTargets t Q p → ⊥
refused_clash t p refused Q earlier due =
    let cut = split_at p (turns t.keys) (in_turns t.keys p refused.there) in
    let parts = split_of t.keys cut.0 p cut.1 cut.2 in
    let within : (z : ℕ) → 0 < count z cut.0 → z < length t.keys = λ z there. turns-within t.keys z
    (omega (arith, ap (count z) cut.2, sum_by-append (one_of z) cut.0 (p ∷ cut.1))) in
    let all = λ (R : List (List ℕ)) (r : (o : ℕ) → o < length t.keys
    → is_earlier_in_placement t.keys o p ≡ true → HasDuePlacementTargets t R o). each_both R r cut.0 parts.before within in
    let agree = agree_from t refused.placement Q cut.0 [] (p ∷ cut.1) cut.2 tt
    (all refused.placement refused.earlier) (all Q earlier) in
    let held = agree_next (λ xs. xs) t.keys t.sizes refused.placement Q cut.0 p cut.1 cut.2 agree in
    let room = room_for_first (placement_sum_before (λ xs. xs) t.keys t.sizes Q p)
    (placement_sum_before t.loaded t.keys t.keys Q p) t.rooms (get_or t.sizes p 0) (1 + t.backups)
    (placement_targets_at Q p) due in
    let fewer = subst (λ f. length (placement_with_room f t.rooms (get_or t.sizes p 0)) < 1 + t.backups) held
    refused.fewer in
    omega (arith, room, fewer)
  where
    each_both : (R : List (List ℕ))
        → ((o : ℕ) → o < length t.keys → is_earlier_in_placement t.keys o p ≡ true → HasDuePlacementTargets t R o)
        → (xs : List ℕ) → AllByRecursion (λ o. is_earlier_in_placement t.keys o p ≡ true) xs
        → ((z : ℕ) → 0 < count z xs → z < length t.keys) → AllByRecursion (HasDuePlacementTargets t R) xs
    each_both R all [] before within = tt
    each_both R all (x ∷ xs) before within = (
      all x (within x (omega (arith, sum_by-cons (one_of x) x xs, one_of-same x))) before.0,
      each_both R all xs before.1
          (λ z there. within z (omega (arith, sum_by-cons (one_of z) x xs))),
    )

refused_before : (t : PlacementTurnRule) (p q : ℕ) → IsPlacementRefused t p → IsPlacementRefused t q
    → is_earlier_in_placement t.keys p q ≡ true → ⊥
refused_before t p q at_p at_q first = refused_clash t p at_p at_q.placement
    (λ o within earlier. at_q.earlier o within ((earlier_order t.keys).trans o p q earlier first))
    (at_q.earlier p at_p.there first)

pub same_refused : (t : PlacementTurnRule) (p q : ℕ) → IsPlacementRefused t p → IsPlacementRefused t q → p ≡ q
same_refused t p q at_p at_q = elim (cases_eq p q) [
  | inl same ↦ same
  | inr other ↦ elim (cases_Bool (is_earlier_in_placement t.keys q p)) [
    | inl later ↦ absurd (refused_before t q p at_q at_p later)
    | inr first ↦ absurd (refused_before t p q at_p at_q
        ((earlier_order t.keys).total p q other first))
  ]
]

pub hosted_or_refused : (t : PlacementTurnRule) (p : ℕ) (Q : List (List ℕ)) → PlacementHasTargets t Q → IsPlacementRefused t p → ⊥
hosted_or_refused t p Q placement refused = refused_clash t p refused Q
    (λ o within _. placement.hosted o within) (placement.hosted p refused.there)

-- ---- no switch has more than its room

-- one more turn leaves each switch within its room
fits_more : (t : PlacementTurnRule) (P : List (List ℕ)) (done : List ℕ) (p : ℕ) (left : List ℕ) (s : ℕ)
    → turns t.keys ≡ done ++ p ∷ left → HasDuePlacementTargets t P p
    → sum_among (λ xs. xs) t.sizes P done s ≤ get_or t.rooms s 0
    → sum_among (λ xs. xs) t.sizes P (done ++ p ∷ []) s ≤ get_or t.rooms s 0
fits_more t P done p left s split due fits = by_case (list_any (eqb s) (placement_targets_at P p)) refl where
  by_case : (b : Bool) → list_any (eqb s) (placement_targets_at P p) ≡ b
      → sum_among (λ xs. xs) t.sizes P (done ++ p ∷ []) s ≤ get_or t.rooms s 0
  by_case true among =
      let put : ℕ → ℕ = λ o. cond (list_any (eqb s) (placement_targets_at P o)) (get_or t.sizes o 0) 0 in
      let before : ℕ → ℕ = placement_sum_before (λ xs. xs) t.keys t.sizes P p in
      let load : ℕ → ℕ = placement_sum_before t.loaded t.keys t.keys P p in
      let room : before s + get_or t.sizes p 0 ≤ get_or t.rooms s 0 =
      among_holds (λ z. before z + get_or t.sizes p 0 ≤ get_or t.rooms z 0) s (placement_targets_at P p)
      (recursion_from_All (λ z. before z + get_or t.sizes p 0 ≤ get_or t.rooms z 0)
      (placement_targets_at P p) (first_room before load t.rooms (get_or t.sizes p 0)
      (1 + t.backups) (placement_targets_at P p) due)) among in
      omega (
        arith,
        sum_by_push put done p,
        (ap (λ b. cond b (get_or t.sizes p 0) 0) among),
        room,
        running_sum (λ xs. xs) t.keys t.sizes P done p left split s,
      )
  by_case false among =
      let put : ℕ → ℕ = λ o. cond (list_any (eqb s) (placement_targets_at P o)) (get_or t.sizes o 0) 0 in
      omega (arith, sum_by_push put done p, ap (λ b. cond b (get_or t.sizes p 0) 0) among, fits)

fits_from : (t : PlacementTurnRule) (P : List (List ℕ)) (now done : List ℕ) (s : ℕ)
    → turns t.keys ≡ done ++ now → AllByRecursion (HasDuePlacementTargets t P) now
    → sum_among (λ xs. xs) t.sizes P done s ≤ get_or t.rooms s 0
    → sum_among (λ xs. xs) t.sizes P (done ++ now) s ≤ get_or t.rooms s 0
fits_from t P [] done s split due fits = rw (append-nil done) fits
fits_from t P (x ∷ xs) done s split due fits = rw (append_assoc done (x ∷ []) xs) at
    (fits_from t P xs (done ++ x ∷ []) s (split ∙ sym (append_assoc done (x ∷ []) xs)) due.1
    (fits_more t P done x xs s split due.0 fits))

-- all that is put on a switch is within its room
pub hosted_fits : (t : PlacementTurnRule) (P : List (List ℕ)) → PlacementHasTargets t P → (s : ℕ)
    → sum_among (λ xs. xs) t.sizes P (range_with_len 0 (length t.keys)) s ≤ get_or t.rooms s 0
hosted_fits t P hosted s =
    let due = each_within (HasDuePlacementTargets t P) t.keys hosted.hosted (turns t.keys) (turns-within t.keys) in
    let put : ℕ → ℕ = λ o. cond (list_any (eqb s) (placement_targets_at P o)) (get_or t.sizes o 0) 0 in
    omega (
      arith,
      fits_from t P (turns t.keys) [] s refl due (omega arith),
      sum-in_order put (is_earlier_in_placement t.keys) (range_with_len 0 (length t.keys)),
    )
