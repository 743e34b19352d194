-- What records state, from the rows that were read of the first of them.
use Rattle.std.proofs.Common.{[], ◌++◌, ◌+◌, ◌<◌, ◌∙◌, ◌∷◌, ◌≡◌, ◌≤◌, Bool, Err, List, None, Ok, Option, Result, Some, ap, arith, cond, drop, eq-eqb, eqb, false, filter_map, get_or, get_or-take, inl, inr, length, length-take, map, ne_eqb, option_map, refl, subst, suc, sym, take, take-take, take_all, true, zero, ℕ}
use Rattle.base.proofs.Exports.{cases_lt, drop_all, drop_more, get_or-map, get_or_default, length-map, list_any_none, map-append, option_map_or, option_or, result_ok, take-map, take_more}
use Rattle.csv_records.specs.Texts.{TakesCsvRecord, is_csv_heading}
use Rattle.policy_rules.specs.Exports.{ArePolicyEditsDistinct, PolicyHasDistinctPriorities}
use Rattle.policy_rules.specs.declared.policy.Row.{Row}
use Rattle.policy_rules.specs.declared.amendment.Edit.{Edit}
use Rattle.policy_rules.proofs.PolicyRulesCallerLemmas.{fresh_edits}
use Rattle.policy_file.specs.declared.error.PolicyRefusal.{PolicyRefusal}
use Rattle.policy_file.specs.declared.error.PolicyRefusal.TheVariants as why
use Rattle.base.specs.declared.row.InRow.{InRow}
use Rattle.policy_file.specs.Exports.{IsPolicyReadUpTo, PolicyFileRowFormat, PolicyFileRecordsStateEach, policy_file_change_heading, policy_file_change_rows, policy_file_first_row_refused, policy_file_has_change_heading, policy_file_rows, policy_file_row_refusal_after, policy_file_row_refusal_at, policy_file_stated_rows, csv_policy_rows_stated, policy_file_rows_under_heading}

-- ---- the first number that has something

none_below : {X : Type 0} (at : ℕ → Option X) (n : ℕ) → ((k : ℕ) → k < n → at k ≡ None)
    → policy_file_first_row_refused at n ≡ None
none_below at zero none = refl
none_below at (suc n) none = ap (λ o. option_or o (at n))
    (none_below at n (λ k h. none k (omega arith))) ∙ none n (omega arith)

first_is : {X : Type 0} (at : ℕ → Option X) (n p : ℕ) (x : X) → p < n → at p ≡ Some x
    → ((k : ℕ) → k < p → at k ≡ None) → policy_file_first_row_refused at n ≡ Some x
first_is at zero p x within is none = absurd (omega arith)
first_is at (suc n) p x within is none = elim (cases_lt p n) [
  | inl less ↦ ap (λ o. option_or o (at n)) (first_is at n p x less is none)
  | inr more ↦ let same : n ≡ p = omega arith in
      ap (λ o. option_or o (at n)) (none_below at n (λ k h. none k (omega arith))) ∙ ap at same
      ∙ is
]

-- ---- rows that records state

abbrev Records : Type 0
Records = List (List (List ℕ))

module _ {X : Type 0} (format : PolicyFileRowFormat X) where
  abbrev fine : X → Result X PolicyRefusal
  fine row = Ok row

  pub state_push : (records : Records) (rows : List X) (fields : List (List ℕ)) (row : X)
      → PolicyFileRecordsStateEach format records rows → format.read fields ≡ Ok row
      → PolicyFileRecordsStateEach format (records ++ fields ∷ []) (rows ++ row ∷ [])
  state_push records rows fields row stated is =
      cc (map-append format.read records (fields ∷ []), stated, is, map-append fine rows (row ∷ []))

  state_take : (records : Records) (rows : List X) (k : ℕ) → PolicyFileRecordsStateEach format records rows
      → PolicyFileRecordsStateEach format (take k records) (take k rows)
  state_take records rows k stated = sym (take-map format.read k records) ∙ ap (take k) stated
      ∙ take-map fine k rows

  state_length : (records : Records) (rows : List X) → PolicyFileRecordsStateEach format records rows
      → length records ≡ length rows
  state_length records rows stated = sym (length-map records format.read) ∙ ap length stated
      ∙ length-map rows fine

  state_at : (records : Records) (rows : List X) (k : ℕ) (d : X) → PolicyFileRecordsStateEach format records rows
      → k < length rows → format.read (get_or records k []) ≡ Ok (get_or rows k d)
  state_at records rows k d stated within =
      let inside : k < length records = omega (arith, state_length records rows stated) in
      sym (get_or-map format.read records k [] (fine d) inside)
      ∙ ap (λ xs. get_or xs k (fine d)) stated ∙ get_or-map fine rows k d (fine d) within

  state_rows : (records : Records) (rows : List X) → PolicyFileRecordsStateEach format records rows
      → csv_policy_rows_stated format records ≡ rows
  state_rows records rows stated = cc (outcomes records, stated, all_fine rows) where
    outcomes : (records : Records) → csv_policy_rows_stated format records ≡ filter_map result_ok
        (map format.read records)
    outcomes [] = refl
    outcomes (fields ∷ records) = cc (outcomes records)

    all_fine : (rows : List X) → filter_map result_ok (map fine rows) ≡ rows
    all_fine [] = refl
    all_fine (row ∷ rows) = ap (λ xs. row ∷ xs) (all_fine rows)

  -- ---- why a record is refused

  abbrev pub Stated : Records → List X → Type 0
  Stated records rows = PolicyFileRecordsStateEach format (take (length rows) records) rows

  -- none of the first p rows repeats an earlier one
  abbrev pub NoneRepeats : List X → ℕ → Type 0
  NoneRepeats rows p = (k : ℕ) (d : X) → k < p → k < length rows
      → format.repeats (take k rows) (get_or rows k d) ≡ false

  -- after rows that the first records state: only what an earlier row has
  refused_in : (records : Records) (rows : List X) (k : ℕ) (d : X) → Stated records rows
      → k < length rows → length rows ≤ 2000 → policy_file_row_refusal_at format records k
      ≡ cond (format.repeats (take k rows) (get_or rows k d)) (Some why.SamePriority) None
  refused_in records rows k d stated within few =
      let n = length rows in
      let row = get_or rows k d in
      let earlier : PolicyFileRecordsStateEach format (take k records) (take k rows) =
      subst (λ xs. PolicyFileRecordsStateEach format xs (take k rows)) (take-take k n records (omega arith))
      (state_take (take n records) rows k stated) in
      ap (λ b. cond b (Some why.TooManyRows) (policy_file_row_refusal_after format
      (csv_policy_rows_stated format (take k records)) (format.read (get_or records k []))))
      (ne_eqb k 2000 (λ full. absurd (omega arith)))
      ∙ ap (λ fields. policy_file_row_refusal_after format (csv_policy_rows_stated format (take k records))
      (format.read fields)) (sym (get_or-take n records k [] within))
      ∙ ap (policy_file_row_refusal_after format (csv_policy_rows_stated format (take k records)))
      (state_at (take n records) rows k d stated within)
      ∙ ap (λ earlier. cond (format.repeats earlier row) (Some why.SamePriority) None)
      (state_rows (take k records) (take k rows) earlier)

  clean : (records : Records) (rows : List X) (p : ℕ) → Stated records rows
      → length rows ≤ 2000 → p ≤ length rows → NoneRepeats rows p → (k : ℕ) → k < p
      → policy_file_row_refusal_at format records k ≡ None
  clean records [] p stated few most none k less = absurd (omega arith)
  clean records (row ∷ rows) p stated few most none k less =
      refused_in records (row ∷ rows) k row stated (omega arith) few
      ∙ ap (λ b. cond b (Some why.SamePriority) None) (none k row less (omega arith))

  abbrev at_row : ℕ → PolicyRefusal → InRow PolicyRefusal
  at_row place refusal = record { refusal = refusal; row = place + 1 }

  -- the first refused record decides
  refused_first : (records : Records) (p : ℕ) (refusal : PolicyRefusal) → p < length records
      → policy_file_row_refusal_at format records p ≡ Some refusal
      → ((k : ℕ) → k < p → policy_file_row_refusal_at format records k ≡ None)
      → policy_file_stated_rows format records ≡ Err (at_row p refusal)
  refused_first records p refusal within is none =
      cc (first_is (λ place. option_map (at_row place) (policy_file_row_refusal_at format records place))
      (length records) p (at_row p refusal) within (ap (option_map (at_row p)) is)
      (λ k h. ap (option_map (at_row k)) (none k h)))

  -- ---- what was read

  -- a row repeats an earlier one
  pub repeated : (records : Records) (rows : List X) (refusal : Option PolicyRefusal)
      (place : ℕ) → IsPolicyReadUpTo format records rows refusal → place < length rows
      → ((d : X) → format.repeats (take place rows) (get_or rows place d) ≡ true)
      → NoneRepeats rows place
      → policy_file_stated_rows format records ≡ Err (record { refusal = why.SamePriority; row = place + 1 })
  repeated records [] refusal place read there repeats none = absurd (omega arith)
  repeated records (row ∷ rows) refusal place read there repeats none =
      refused_first records place why.SamePriority (omega (arith, read.within))
      (refused_in records (row ∷ rows) place row read.stated there read.few
      ∙ ap (λ b. cond b (Some why.SamePriority) None) (repeats row))
      (clean records (row ∷ rows) place read.stated read.few (omega arith) none)

  -- the record after the rows is refused
  pub refused_next : (records : Records) (rows : List X) (refusal : PolicyRefusal)
      → IsPolicyReadUpTo format records rows (Some refusal) → NoneRepeats rows (length rows)
      → policy_file_stated_rows format records ≡ Err (record { refusal = refusal; row = length rows + 1 })
  refused_next records rows refusal read none =
      refused_first records (length rows) refusal read.ends.0 read.ends.1
      (clean records rows (length rows) read.stated read.few (omega arith) none)

  -- the records end with the rows
  pub all_read : (records : Records) (rows : List X) → IsPolicyReadUpTo format records rows None
      → NoneRepeats rows (length rows) → policy_file_stated_rows format records ≡ Ok rows
  all_read records rows read none = let end : length records ≡ length rows = read.ends in
      ap (λ first. option_map_or Err first (Ok (csv_policy_rows_stated format records)))
      (none_below (λ place. option_map (at_row place) (policy_file_row_refusal_at format records place))
      (length records) (λ k h. ap (option_map (at_row k))
      (clean records rows (length rows) read.stated read.few (omega arith) none k (omega arith))))
      ∙ ap Ok (state_rows records rows (subst (λ xs. PolicyFileRecordsStateEach format xs rows)
      (take_all (length rows) records (omega arith)) read.stated))

-- ---- rows of distinct priorities, and distinct edits

pub fresh_rows : (rows : List Row) (p : ℕ) → PolicyHasDistinctPriorities (take p rows)
    → NoneRepeats policy_file_rows rows p
fresh_rows rows p distinct k d less within =
    list_any_none (λ (x : Row). eqb x.priority (get_or rows k d).priority) (take k rows)
    (λ j e inside. let before : j < k = omega (arith, length-take k rows) in
    let other : get_or rows k d ≡ get_or (take p rows) k e = get_or_default rows k d e within
    ∙ sym (get_or-take p rows k e less) in
    let room : k < length (take p rows) = omega (arith, length-take p rows) in
    ne_eqb _ _ (λ same. distinct j k e before room (sym (ap (λ (x : Row). x.priority) (get_or-take k
    rows j e before ∙ sym (get_or-take p rows j e (omega arith)))) ∙ same ∙ ap (λ (x : Row).
    x.priority) other)))

pub all_fresh_rows : (rows : List Row) → PolicyHasDistinctPriorities rows
    → NoneRepeats policy_file_rows rows (length rows)
all_fresh_rows rows distinct = fresh_rows rows (length rows)
    (subst PolicyHasDistinctPriorities (sym (take_all (length rows) rows (omega arith))) distinct)

pub all_fresh_edits : (edits : List Edit) → ArePolicyEditsDistinct edits
    → NoneRepeats policy_file_change_rows edits (length edits)
all_fresh_edits edits distinct k d = fresh_edits edits (length edits) k d
    (subst ArePolicyEditsDistinct (sym (take_all (length edits) edits (omega arith))) distinct)

-- ---- one record more

-- the next of the records that are left after the first n
pub record IsNext (records : Records) (n : ℕ) (fields : List (List ℕ)) (after : Records) : Type 0
  where
    pub within : n < length records
    pub more : take (n + 1) records ≡ take n records ++ fields ∷ []
    pub rest : drop (n + 1) records ≡ after
    pub here : get_or records n [] ≡ fields

pub next_of : (records : Records) (n : ℕ) (fields : List (List ℕ)) (after left : Records)
    (found : Bool) → found ≡ true → left ≡ drop n records → TakesCsvRecord left found fields after
    → IsNext records n fields after
next_of records n fields after left false is at takes = cc is
next_of records n fields after left true is at takes = elim (cases_lt n (length records)) [
  | inl within ↦ let split = drop_more records n [] within in
      let first : get_or records n [] ≡ fields = cc in record {
        within = within;
        more = take_more records n [] within ∙ ap (λ x. take n records ++ x ∷ []) first;
        rest = cc;
        here = first;
      }
  | inr past ↦ let none = drop_all n records past in
      absurd (cc)
]

-- no record is left after the first n
ends_at : (records : Records) (n : ℕ) (fields : List (List ℕ)) (after left : Records)
    (found : Bool) → found ≡ false → left ≡ drop n records → TakesCsvRecord left found fields after
    → n ≤ length records → length records ≡ n
ends_at records n fields after left true is at takes most = cc is
ends_at records n fields after left false is at takes most = elim (cases_lt n (length records)) [
  | inl within ↦ let split = drop_more records n [] within in
      let none = takes.0 in absurd (cc)
  | inr past ↦ omega arith
]

module _ {X : Type 0} (format : PolicyFileRowFormat X) where
  -- no record is left behind those that state these rows
  pub ended : (records : Records) (rows : List X) (fields : List (List ℕ)) (after left : Records)
      (found : Bool) → PolicyFileRecordsStateEach format (take (length rows) records) rows → length rows ≤ 2000
      → length rows ≤ length records → found ≡ false → left ≡ drop (length rows) records
      → TakesCsvRecord left found fields after → IsPolicyReadUpTo format records rows None
  ended records rows fields after left found stated few within none at takes = record {
    stated = stated;
    few = few;
    within = within;
    ends = ends_at records (length rows) fields after left found none at takes within;
  }

  -- the next record states no row
  pub refused_row : (records : Records) (n : ℕ) (fields : List (List ℕ)) (after : Records)
      (refusal : PolicyRefusal) → IsNext records n fields after → n < 2000
      → format.read fields ≡ Err refusal → policy_file_row_refusal_at format records n ≡ Some refusal
  refused_row records n fields after refusal next room is =
      cc (ne_eqb n 2000 (λ full. absurd (omega arith)), next.here, is)

  -- there are too many
  pub too_many : (records : Records) (n : ℕ) → n ≡ 2000
      → policy_file_row_refusal_at format records n ≡ Some why.TooManyRows
  too_many records n full = cc (eq-eqb n 2000 full)

  -- ---- the heading

  pub under_heading : (before after : Records) (fields : List (List ℕ)) (found : Bool)
      → found ≡ true → TakesCsvRecord before found fields after → is_csv_heading format.heading fields
      ≡ true → policy_file_rows_under_heading format before ≡ policy_file_stated_rows format after
  under_heading before after fields false is takes heading = cc is
  under_heading before after fields true is takes heading = rw (takes, heading) refl

-- what the first record says of a change's heading
pub none_heads : (before after : Records) (fields : List (List ℕ)) (found : Bool) → found ≡ false
    → TakesCsvRecord before found fields after → policy_file_has_change_heading before ≡ false
none_heads before after fields true none takes = cc none
none_heads before after fields false none takes = ap policy_file_has_change_heading takes.0

pub first_heads : (before after : Records) (fields : List (List ℕ)) (found : Bool) → found ≡ true
    → TakesCsvRecord before found fields after
    → policy_file_has_change_heading before ≡ is_csv_heading policy_file_change_heading fields
first_heads before after fields false is takes = cc is
first_heads before after fields true is takes = ap policy_file_has_change_heading takes
