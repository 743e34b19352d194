-- What becomes of the waiting messages when the list of statuses changes, and which one is found.
use Rattle.std.proofs.Common.{[], if◌then◌else◌, ◌++◌, ◌+◌, ◌-◌, ◌<◌, ◌==◌, ◌^◌, ◌∙◌, ◌∷◌, ◌≡◌, ◌≤◌, Bool, IsTrue, List, None, Option, Some, ap, arith, cond, eq-eqb, false, find, get_or, inl, inr, length, length-append, max, ne_eqb, option_map, refl, set, slice_get, subst, suc, sym, take, true, zero, ℕ}
use Rattle.base.proofs.Exports.{cases_eq, cases_lt, common_steps, get_or_from_slice_get, option_map_or, range_with_len, take-append_seam}
use Rattle.message_bag.proofs.BagNumberedPosts.{length_changed, numbered_changed, numbered_pushed}
use Rattle.message_bag.specs.Exports.{AreBagMessagesPassed, IsFirstWaitingInBag, is_deliverable, is_waiting, bag_item_numbered, bag_post_may_be_delivered, next_waiting, bag_waiting_status, bag_post_waits, bag_with_changed}
use Rattle.message_bag.specs.declared.deliveries.MessageState.{MessageState}

waits_as : (statuses after : List MessageState) (number : ℕ) (b : Bool) → bag_item_numbered after number
    ≡ bag_item_numbered statuses number → is_waiting statuses number ≡ b → is_waiting after number ≡ b
waits_as statuses after number b same is = ap (λ o. option_map_or bag_post_waits o false) same ∙ is

status_before : (statuses : List MessageState) (status : MessageState) (number : ℕ) → number ≤ length statuses
    → bag_item_numbered (statuses ++ status ∷ []) number ≡ bag_item_numbered statuses number
status_before statuses status number within = numbered_pushed statuses status number
    ∙ ap (λ b. cond b (Some status) (bag_item_numbered statuses number))
    (ne_eqb number (length statuses + 1) (λ same. absurd (omega arith)))

status_last : (statuses : List MessageState) (status : MessageState) (number : ℕ) → number ≡ length statuses + 1
    → bag_item_numbered (statuses ++ status ∷ []) number ≡ Some status
status_last statuses status number last =
    cc (numbered_pushed statuses status number, eq-eqb number (length statuses + 1) last)

-- a status behind the others leaves what waits before it, and waits itself
pub pushed_passed : (passed : ℕ) (statuses : List MessageState) → length statuses + 1 < 2 ^ 32
    → AreBagMessagesPassed passed statuses → AreBagMessagesPassed passed (statuses ++ bag_waiting_status ∷ [])
pushed_passed passed statuses few are =
    let after = statuses ++ bag_waiting_status ∷ [] in
    let longer = length-append statuses (bag_waiting_status ∷ []) in record {
      few = omega arith;
      within = omega (arith, are.within);
      here = λ below. elim (cases_lt passed (length statuses)) [
        | inl within ↦ waits_as statuses after (passed + 1) true
            (status_before statuses bag_waiting_status (passed + 1) (omega arith)) (are.here within)
        | inr past ↦ ap (λ o. option_map_or bag_post_waits o false)
            (status_last statuses bag_waiting_status (passed + 1) (omega arith))
      ];
      none = λ number below. waits_as statuses after number false
          (status_before statuses bag_waiting_status number (omega (arith, are.within)))
          (are.none number below);
    }

-- statuses without the last one
pub without_last : (n : ℕ) (all before : List MessageState) → all ≡ before ++ bag_waiting_status ∷ []
    → n ≡ length all - 1 → take n all ≡ before
without_last n all before is last =
    let many : n ≡ length before =
    omega (arith, last, ap length is, length-append before (bag_waiting_status ∷ [])) in
    rw (is, many) (take-append_seam before (bag_waiting_status ∷ []))

-- so it is without a status that waits behind the others
pub taken_back : (passed : ℕ) (statuses : List MessageState)
    → AreBagMessagesPassed passed (statuses ++ bag_waiting_status ∷ []) → AreBagMessagesPassed passed statuses
taken_back passed statuses are =
    let longer = length-append statuses (bag_waiting_status ∷ []) in
    let within : passed ≤ length statuses = elim (cases_lt (length statuses) passed) [
      | inl past ↦ absurd (let last : is_waiting (statuses ++ bag_waiting_status ∷ [])
          (length statuses + 1)
          ≡ true = ap (λ o. option_map_or bag_post_waits o false)
          (status_last statuses bag_waiting_status (length statuses + 1) refl) in
          let not_last = are.none (length statuses + 1) (omega (arith, past)) in cc)
      | inr within ↦ within
    ] in record {
      few = omega (arith, are.few, longer);
      within = within;
      here = λ below. waits_as (statuses ++ bag_waiting_status ∷ []) statuses (passed + 1) true
          (sym (status_before statuses bag_waiting_status (passed + 1) (omega (arith, below))))
          (are.here (omega (arith, below, longer)));
      none = λ number below. waits_as (statuses ++ bag_waiting_status ∷ []) statuses number false
          (sym (status_before statuses bag_waiting_status number (omega (arith, below, within))))
          (are.none number below);
    }

-- after a change by which a message waits no more, nothing waits that didn't before
still_none : (change : MessageState → MessageState) (statuses : List MessageState) (changed number : ℕ)
    → ((status : MessageState) → bag_post_waits (change status) ≡ false) → is_waiting statuses number ≡ false
    → is_waiting (bag_with_changed change statuses changed) number ≡ false
still_none change statuses changed number still none =
    ap (λ o. option_map_or bag_post_waits o false) (numbered_changed change statuses changed number)
    ∙ by_status (number == changed) (bag_item_numbered statuses number) none
  where
    by_status : (b : Bool) (o : Option MessageState) → option_map_or bag_post_waits o false ≡ false
        → option_map_or bag_post_waits (if b then option_map change o else o) false ≡ false
    by_status true None before = refl
    by_status true (Some status) before = still status
    by_status false o before = before

-- the change of a number's status is a change at its place
changed_place : (change : MessageState → MessageState) (statuses : List MessageState) (place : ℕ) (status : MessageState)
    → IsTrue (is_deliverable statuses (suc place)) → status ≡ get_or statuses place status
    → set statuses place (change status) ≡ bag_with_changed change statuses (suc place)
changed_place change statuses place status is here = by_status (slice_get statuses place) refl is
  where
    by_status : (o : Option MessageState) → slice_get statuses place ≡ o
        → IsTrue (option_map_or bag_post_may_be_delivered o false)
        → set statuses place (change status) ≡ option_map_or (λ p. set statuses place (change p)) o statuses
    by_status None at none = absurd (cc)
    by_status (Some found) at some = ap (λ p. set statuses place (change p))
        (here ∙ get_or_from_slice_get statuses place found status at)

changed_at : (change : MessageState → MessageState) (statuses : List MessageState) (number : ℕ) (status : MessageState)
    → IsTrue (is_deliverable statuses number) → status ≡ get_or statuses (number - 1) status
    → set statuses (number - 1) (change status) ≡ bag_with_changed change statuses number
changed_at change statuses zero status is here = absurd (cc)
changed_at change statuses (suc place) status is here =
    let same : suc place - 1 ≡ place = omega arith in
    rw same (changed_place change statuses place status is (rw same at here))

pub changed_from : (change : MessageState → MessageState) (before statuses : List MessageState) (number : ℕ) (status : MessageState)
    → IsTrue (is_deliverable statuses number) → before ≡ statuses
    → status ≡ get_or before (number - 1) status
    → set statuses (number - 1) (change status) ≡ bag_with_changed change statuses number
changed_from change before statuses number status is same here = changed_at change statuses number
    status is (subst (λ statuses. status ≡ get_or statuses (number - 1) status) same here)

-- the messages up to the first that waits have been passed
pub changed_passed : (change : MessageState → MessageState) (passed number first : ℕ)
    → (before statuses seen : List MessageState) (status : MessageState)
    → ((status : MessageState) → bag_post_waits (change status) ≡ false) → AreBagMessagesPassed passed before
    → IsTrue (is_deliverable statuses number) → before ≡ statuses
    → status ≡ get_or before (number - 1) status
    → seen ≡ set before (number - 1) (change status) → IsFirstWaitingInBag seen passed first
    → AreBagMessagesPassed first (set before (number - 1) (change status))
changed_passed change passed number first before statuses seen status still are there same here
    sees found =
    let after : List MessageState = set before (number - 1) (change status) in
    let changed : after ≡ bag_with_changed change statuses number =
    ap (λ statuses. set statuses (number - 1) (change status)) same
    ∙ changed_from change before statuses number status there same here in
    let long = ap length changed ∙ length_changed change statuses number ∙ sym (ap length same) in
    let is : IsFirstWaitingInBag after passed first =
    subst (λ statuses. IsFirstWaitingInBag statuses passed first) sees found in record {
      few = omega (arith, are.few);
      within = is.within (omega (arith, are.within));
      here = is.here;
      none = λ at below. elim (cases_lt passed at) [
        | inl above ↦ is.none at above below
        | inr within ↦ ap (λ statuses. is_waiting statuses at) changed
            ∙ still_none change statuses number at still
            (subst (λ statuses. is_waiting statuses at ≡ false) same (are.none at within))
      ];
    }

-- the first of these numbers for which the test holds
found_at : (p : ℕ → Bool) (from n at : ℕ)
    → ((number : ℕ) → from ≤ number → number < at → p number ≡ false)
    → from ≤ at → at < from + n → p at ≡ true → find p (range_with_len from n) ≡ Some at
found_at p from zero at none above below here = absurd (omega arith)
found_at p from (suc n) at none above below here = elim (cases_eq from at) [
  | inl same ↦ now same
  | inr other ↦ later (none from (omega arith) (omega arith)) (found_at p (from + 1) n at
      (λ number past before. none number (omega arith) before) (omega arith) (omega arith) here)
] where
  now : from ≡ at → find p (range_with_len from (suc n)) ≡ Some at
  now same = grind (arith, common_steps)

  later : p from ≡ false → find p (range_with_len (from + 1) n) ≡ Some at
      → find p (range_with_len from (suc n)) ≡ Some at
  later not_here rest = grind (arith, common_steps)

not_found : (p : ℕ → Bool) (from n : ℕ)
    → ((number : ℕ) → from ≤ number → number < from + n → p number ≡ false)
    → find p (range_with_len from n) ≡ None
not_found p from zero none = refl
not_found p from (suc n) none =
    let not_here : p from ≡ false = none from (omega arith) (omega arith) in
    let later : find p (range_with_len (from + 1) n) ≡ None =
    not_found p (from + 1) n (λ number past before. none number (omega arith) (omega arith)) in
    grind (arith, common_steps)

-- a place that was searched for from this number on, behind what was passed
pub record IsSearched (statuses : List MessageState) (passed from start place : ℕ) : Type 0 where
  pub are : AreBagMessagesPassed passed statuses
  pub begins : start ≡ max (from - 1) passed
  pub first : IsFirstWaitingInBag statuses start place

-- by whatever name the statuses go
pub searched : {inside now seen : List MessageState} {passed start place : ℕ} (from : ℕ) → AreBagMessagesPassed passed inside
    → start ≡ max (from - 1) passed → IsFirstWaitingInBag seen start place → inside ≡ now → seen ≡ inside
    → IsSearched now passed from start place
searched {passed = passed} {start = start} {place = place} from are begins first same sees = record {
  are = subst (AreBagMessagesPassed passed) same are;
  begins = begins;
  first = subst (λ statuses. IsFirstWaitingInBag statuses start place) (sees ∙ same) first;
}

-- the search misses nothing
none_before : {statuses : List MessageState} {passed from start place : ℕ} → IsSearched statuses passed from start place
    → (number : ℕ) → from ≤ number → number ≤ place → is_waiting statuses number ≡ false
none_before is zero above below = refl
none_before {passed = passed} is (suc at) above below = elim (cases_lt passed (suc at)) [
  | inl past ↦ is.first.none (suc at) (omega (arith, is.begins)) below
  | inr within ↦ is.are.none (suc at) within
]

pub next_is : {statuses : List MessageState} {passed from start place : ℕ} → IsSearched statuses passed from start place
    → place < length statuses → Some (place + 1) ≡ next_waiting statuses from
next_is {statuses = statuses} {from = from} {place = place} is within =
    sym (found_at (is_waiting statuses) from (length statuses + 1 - from) (place + 1)
    (λ number above below. none_before is number above (omega arith))
    (omega (arith, is.begins, is.first.above)) (omega (arith, is.begins, is.first.above)) (is.first.here within))

pub next_is_none : {statuses : List MessageState} {passed from start place : ℕ} → IsSearched statuses passed from start place
    → length statuses ≤ place → None ≡ next_waiting statuses from
next_is_none {statuses = statuses} {from = from} is past = sym (not_found (is_waiting statuses) from
    (length statuses + 1 - from) (λ number above below. none_before is number above (omega arith)))
