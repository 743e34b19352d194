-- What one more item of a journal adds to the weights.
use Rattle.std.proofs.Common.{[], ◌++◌, ◌+◌, ◌<◌, ◌∙◌, ◌∷◌, ◌≡◌, ◌≤◌, List, None, Option, Some, ap, arith, cond, count_by, eq-eqb, eqb, filter_map, get_or, inl, inr, length, map, ne_eqb, option_to_list, refl, suc, sum, sum_by, sym, take, unwrap_or, zero, zero-add, ℕ}
use Rattle.base.proofs.Exports.{cases_eq, count_by-le-length, filter_map-append, get_or-map-range_with_len, get_or_default, length-map-range_with_len, option_or, range_with_len, same_lists, sum-map, sum_by-append, sum_by-cons, take_more}
use Rattle.update_machine.specs.Exports.{Item, journal_current_mark, machine_item_gives_current, journal_last_given}
use Rattle.update_machine.proofs.Exports.{last_given_append}
use Rattle.rebalance.specs.Loads.{rebalance_weighed_partitions, rebalance_weighed_partition_in, weight, rebalance_weights_of}

-- ---- the current version

pub current_start : journal_current_mark [] ≡ 1
unfolding journal_current_mark
current_start = refl

pub current_goes_on : (before : List Item) (item : Item) (current : ℕ)
    → current ≡ journal_current_mark before
    → unwrap_or (machine_item_gives_current item) current ≡ journal_current_mark (before ++ item ∷ [])
unfolding journal_current_mark
current_goes_on before item current is = ap (unwrap_or (machine_item_gives_current item)) is
    ∙ sym (ap (λ o. unwrap_or o 1) (last_given_append machine_item_gives_current before (item ∷ []))
    ∙ go (machine_item_gives_current item) (journal_last_given machine_item_gives_current before))
  where
    go : (told earlier : Option ℕ) → unwrap_or (option_or (option_or None told) earlier) 1
        ≡ unwrap_or told (unwrap_or earlier 1)
    go None earlier = refl
    go (Some x) earlier = refl

-- ---- how often a partition was asked

kept_one : (tells : Item → Option ℕ) (item : Item)
    → filter_map tells (item ∷ []) ≡ option_to_list (tells item)
kept_one tells item = by_case (tells item) refl where
  by_case : (told : Option ℕ) → tells item ≡ told
      → filter_map tells (item ∷ []) ≡ option_to_list (tells item)
  by_case None is = rw is refl
  by_case (Some p) is = rw is refl

kept_more : (tells : Item → Option ℕ) (p : ℕ) (before : List Item) (item : Item)
    → count_by (eqb p) (filter_map tells (before ++ item ∷ []))
    ≡ count_by (eqb p) (filter_map tells before) + count_by (eqb p) (option_to_list (tells item))
kept_more tells p before item = ap (count_by (eqb p)) (filter_map-append tells before (item ∷ []))
    ∙ sum_by-append (λ q. cond (eqb p q) 1 0) (filter_map tells before) (filter_map tells
    (item ∷ [])) ∙ ap (λ xs. count_by (eqb p) (filter_map tells before) + count_by (eqb p) xs)
    (kept_one tells item)

length-kept : (tells : Item → Option ℕ) (items : List Item)
    → length (filter_map tells items) ≤ length items
length-kept tells [] = omega arith
length-kept tells (item ∷ items) = by_case (tells item) refl (length-kept tells items) where
  by_case : (told : Option ℕ) → tells item ≡ told → length (filter_map tells items) ≤ length items
      → length (filter_map tells (item ∷ items)) ≤ length (item ∷ items)
  by_case None is rest = rw is (omega (arith, rest))
  by_case (Some p) is rest = rw is (omega (arith, rest))

-- how often among these items, by this version
abbrev pub asked_count : ℕ → ℕ → List Item → ℕ
asked_count version partition items = count_by (eqb partition) (rebalance_weighed_partitions version items)

pub asked_more : (version partition : ℕ) (before : List Item) (item : Item)
    → asked_count version partition (before ++ item ∷ []) ≡ asked_count version partition before
    + count_by (eqb partition) (option_to_list (rebalance_weighed_partition_in version item))
asked_more version partition before item = kept_more (rebalance_weighed_partition_in version) partition before item

pub asked-room : (version partition : ℕ) (items : List Item)
    → asked_count version partition items ≤ length items
asked-room version partition items = omega (arith, count_by-le-length, length-kept)

-- one more item, of which so much is told
pub asked-step : (version p : ℕ) (items : List Item) (i : ℕ) (item : Item) (told : Option ℕ)
    (before after : ℕ) → i < length items → item ≡ get_or items i item
    → told ≡ rebalance_weighed_partition_in version item → before ≡ asked_count version p (take i items)
    → after ≡ before + count_by (eqb p) (option_to_list told)
    → after ≡ asked_count version p (take (i + 1) items)
asked-step version p items i item told before after within same tells was is = omega (
  arith,
  was,
  is,
  asked_more version p (take i items) item,
  ap (λ o. count_by (eqb p) (option_to_list o)) tells,
  (ap (asked_count version p)
      (ap (λ x. take i items ++ x ∷ []) same ∙ sym (take_more items i item within))),
)

-- so many counts are the weights
pub weights-are : (journal : List Item) (parts : ℕ) (numbers : List ℕ) → length numbers ≡ parts
    → ((p : ℕ) → p < parts → get_or numbers p 0 ≡ asked_count (journal_current_mark journal) p journal)
    → numbers ≡ rebalance_weights_of journal parts
unfolding weight
weights-are journal parts numbers len each = let of : ℕ → ℕ = weight journal in
    same_lists numbers (map of (range_with_len 0 parts))
    (omega (arith, len, length-map-range_with_len of 0 parts))
    (λ k d within. get_or_default numbers k d 0 within ∙ each k (omega (arith, within, len))
    ∙ sym (get_or-map-range_with_len of 0 parts k k d (omega (arith, within, len)) (zero-add k)))

-- ---- all weights

abbrev is_at : ℕ → ℕ → ℕ
is_at x p = cond (eqb p x) 1 0

-- of places that begin here, none below is among them
none_below : (a n x : ℕ) → x < a → sum_by (is_at x) (range_with_len a n) ≡ 0
none_below a zero x below = refl
none_below a (suc n) x below =
    let head : is_at x a ≡ 0 = ap (λ b. cond b 1 0) (ne_eqb a x (λ same. absurd (omega arith))) in
    omega (arith, sum_by-cons, none_below (a + 1) n x (omega arith))

-- one of them at most is a given one
one_place : (a n x : ℕ) → sum_by (is_at x) (range_with_len a n) ≤ 1
one_place a zero x = omega arith
one_place a (suc n) x = elim (cases_eq a x) [
  | inl same ↦ let head : is_at x a ≡ 1 = ap (λ b. cond b 1 0) (eq-eqb a x same) in
      omega (arith, sum_by-cons, none_below (a + 1) n x (omega arith))
  | inr other ↦ let head : is_at x a ≡ 0 = ap (λ b. cond b 1 0) (ne_eqb a x other) in
      omega (arith, sum_by-cons (is_at x) a (range_with_len (a + 1) n), head, one_place (a + 1) n x)
]

-- how often each place is among these
abbrev times : List ℕ → ℕ → ℕ
times xs p = sum_by (λ x. cond (eqb p x) 1 0) xs

times_more : (x : ℕ) (xs places : List ℕ)
    → sum_by (times (x ∷ xs)) places ≡ sum_by (is_at x) places + sum_by (times xs) places
times_more x xs [] = refl
times_more x xs (p ∷ ps) = omega (
  arith,
  sum_by-cons (times (x ∷ xs)) p ps,
  sum_by-cons (times xs) p ps,
  sum_by-cons (is_at x) p ps,
  sum_by-cons (λ y. cond (eqb p y) 1 0) x xs,
  times_more x xs ps,
)

times_none : (places : List ℕ) → sum_by (times []) places ≡ 0
times_none [] = refl
times_none (p ∷ ps) = omega (arith, sum_by-cons (times []) p ps, times_none ps)

-- each of these is at one place at most
counted_once : (xs places : List ℕ) → ((x : ℕ) → sum_by (is_at x) places ≤ 1)
    → sum_by (times xs) places ≤ length xs
counted_once [] places once = omega (arith, times_none places)
counted_once (x ∷ xs) places once =
    omega (arith, times_more x xs places, once x, counted_once xs places once)

-- no more than the items of the journal
pub weights-few : (journal : List Item) (parts : ℕ)
    → sum (rebalance_weights_of journal parts) ≤ length journal
unfolding weight
weights-few journal parts = let asked = rebalance_weighed_partitions (journal_current_mark journal) journal in
    omega (
      arith,
      (sum-map (weight journal) (range_with_len 0 parts)),
      counted_once asked (range_with_len 0 parts) (one_place 0 parts),
      length-kept (rebalance_weighed_partition_in (journal_current_mark journal)) journal,
    )
