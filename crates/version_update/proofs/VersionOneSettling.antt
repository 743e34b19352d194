-- A change settles in one way.
use Rattle.std.proofs.Common.{[], ◌&&◌, ◌<◌, ◌∙◌, ◌∷◌, ◌≡◌, ◌≤◌, ◌⊎◌, All, Bool, Contains, IsFalse, List, MatchOption, None, ap, arith, cond, false, fold, inl, inr, le-ltb, ltb, map, min, refl, slice_get, suc, sym, zero, ℕ, rules}
use Rattle.base.proofs.Exports.{All-cons, All-head, All-nil, All-tail, bit_at-zero, cases_lt, from_bool, option_map_or, same_from_bits}
use Rattle.version_update.specs.declared.record.Phase.TheVariants.{Member}
use Rattle.version_update.specs.declared.record.SwitchRecord.{SwitchRecord}
use Rattle.version_update.specs.declared.marks.Settled.{Settled}
use Rattle.version_update.specs.Exports.{AreVersionMarksSettled, IsLeastOfMarks, MarksValue, MaskNamesUpdateSwitches, VersionMarksSettlingReports, CurrentMarkRisesTo, SettlesVersionMarks, least_of_marks, update_no_mark_rose, opened_update_record, update_joining_opens_at, mark_rises_to}

-- ---- one result

-- a version that each member acknowledged isn't one that stops current
rises_past : (marks : MarksValue) (low high : ℕ) → CurrentMarkRisesTo marks low → CurrentMarkRisesTo marks high
    → low < high → ⊥
rises_past marks low high stops rises less = search rules

one_current : (marks : MarksValue) (a b : ℕ) → CurrentMarkRisesTo marks a → CurrentMarkRisesTo marks b → a ≡ b
one_current marks a b left right = search (rules, rises_past)

pub one_result : (before a b : MarksValue) (x y : Settled) → SettlesVersionMarks before a x → SettlesVersionMarks before b y
    → a ≡ b
one_result before a b x y left right = search (rules, one_current)

-- ---- one answer

one_mask : (mask other : ℕ) (passes : SwitchRecord → Bool) (switches : List SwitchRecord)
    → MaskNamesUpdateSwitches mask passes switches → MaskNamesUpdateSwitches other passes switches → mask ≡ other
one_mask mask other passes switches one two = same_from_bits mask other (λ s. one s ∙ sym (two s))

one_telling : (before after : MarksValue) (x y : Settled) → VersionMarksSettlingReports before after x
    → VersionMarksSettlingReports before after y → x.taken ≡ y.taken → x ≡ y
one_telling before after x y one two taken =
    let current : x.current ≡ y.current = one.current ∙ sym two.current in
    let stamps : x.stamps ≡ y.stamps = one_mask _ _ _ _ one.stamps two.stamps in
    let opens : x.opens ≡ y.opens = one_mask _ _ _ _ one.opens two.opens in
    let retired : x.retired ≡ y.retired = one.retired ∙ sym two.retired in
    let collects : x.collects ≡ y.collects = one_mask _ _ _ _ one.collects two.collects in
    ap (λ b. record x { taken = b }) taken
    ∙ ap (λ o. record x { taken = y.taken; current = o }) current
    ∙ ap (λ n. record x { taken = y.taken; current = y.current; stamps = n }) stamps
    ∙ ap (λ n. record y { opens = n; retired = x.retired; collects = x.collects }) opens
    ∙ ap (λ o. record y { retired = o; collects = x.collects }) retired
    ∙ ap (λ n. record y { collects = n }) collects

pub one_answer : (before a b : MarksValue) (x y : Settled) → SettlesVersionMarks before a x → SettlesVersionMarks before b y
    → x.taken ≡ y.taken → x ≡ y
one_answer before a b x y left right taken = one_telling before a x y left.tells
    (rw (one_result before a b x y left right) right.tells) taken

-- ---- settled marks

raised_none : (n : ℕ) → mark_rises_to n n ≡ None
raised_none n = rw (le-ltb n n (omega arith)) refl

names_none : (n : ℕ) (passes : SwitchRecord → Bool) (switches : List SwitchRecord)
    → MaskNamesUpdateSwitches 0 (λ known. ltb n n && passes known) switches
names_none n passes switches s = search (rules, bit_at-zero, le-ltb)

all_stay : (current : ℕ) (switches : List SwitchRecord)
    → All (λ known. IsFalse (update_joining_opens_at current known)) switches → switches ≡ map (opened_update_record current)
    switches
all_stay current [] closed = refl
all_stay current (known ∷ more) closed =
    let rest = all_stay current more
    (All-tail (λ known. IsFalse (update_joining_opens_at current known)) known more closed) in
    let same : known ≡ opened_update_record current known =
    ap (λ b. cond b (record known { phase = Member; open_version = current; acked_stamp = current })
    known) (sym (All-head (λ known. IsFalse (update_joining_opens_at current known)) known more closed)) in
    ap (λ l. known ∷ l) rest ∙ ap (λ (k : SwitchRecord). k ∷ map (opened_update_record current) more) same

none_named : (current : ℕ) (switches : List SwitchRecord)
    → All (λ known. IsFalse (update_joining_opens_at current known)) switches → MaskNamesUpdateSwitches 0 (update_joining_opens_at current) switches
none_named current switches closed s = bit_at-zero s ∙ at_place switches s closed where
  at_place : (xs : List SwitchRecord) (k : ℕ) → All (λ known. IsFalse (update_joining_opens_at current known)) xs
      → 0 ≡ from_bool (option_map_or (update_joining_opens_at current) (slice_get xs k) false)
  at_place [] k _ = refl
  at_place (known ∷ more) zero shut =
      ap from_bool (sym (All-head (λ known. IsFalse (update_joining_opens_at current known)) known more shut))
  at_place (known ∷ more) (suc k) shut =
      at_place more k (All-tail (λ known. IsFalse (update_joining_opens_at current known)) known more shut)

pub settled_stay : (marks : MarksValue) (taken : Bool) → AreVersionMarksSettled marks
    → SettlesVersionMarks marks marks (update_no_mark_rose taken)
settled_stay marks taken settled = search (rules, all_stay, raised_none, names_none, none_named)

-- ---- the least

least_among : (first : ℕ) (more : List ℕ) → Contains (first ∷ more) (fold min first more)
least_among first [] = (0, omega arith, refl)
least_among first (n ∷ more) = place (least_among (min first n) more) (cases_lt n first) where
  place : Contains (min first n ∷ more) (fold min (min first n) more) → (n < first) ⊎ (first ≤ n)
      → Contains (first ∷ n ∷ more) (fold min (min first n) more)
  place (zero, within, at) (inl less) = (1, omega arith, omega (arith, at))
  place (zero, within, at) (inr upto) = (0, omega arith, omega (arith, at))
  place (suc k, within, at) _ = (suc (suc k), omega (arith, within), at)

least_first : (first : ℕ) (more : List ℕ) → fold min first more ≤ first
least_first first [] = omega arith
least_first first (n ∷ more) = let h = least_first (min first n) more in omega (arith, h)

least_below : (first : ℕ) (more : List ℕ) → All (λ n. fold min first more ≤ n) more
least_below first [] = All-nil (λ n. first ≤ n)
least_below first (n ∷ more) = let h = least_first (min first n) more in
    All-cons (λ k. fold min (min first n) more ≤ k) n more (omega (arith, h))
    (least_below (min first n) more)

pub least_of_numbers : (numbers : List ℕ) → MatchOption (least_of_marks numbers) (numbers ≡ [])
    (IsLeastOfMarks numbers)
least_of_numbers [] = refl
least_of_numbers (first ∷ more) = (
  least_among first more,
  All-cons (λ n. fold min first more ≤ n) first more
      (least_first first more) (least_below first more),
)
