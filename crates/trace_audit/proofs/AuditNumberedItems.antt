-- Items by their numbers, in a run or among others, when one is put in.
use Rattle.std.proofs.Common.{[], if◌then◌else◌, ◌++◌, ◌-◌, ◌<◌, ◌==◌, ◌∙◌, ◌∷◌, ◌≡◌, ◌≤◌, List, None, Option, Some, ap, arith, eq-eqb, inl, inr, le-leb, leb, length, ne_eqb, option_map, set, slice_get, sym, ℕ}
use Rattle.base.proofs.Exports.{cases_eq, cases_lt, cond-false, cond-true, fun_ext, get_push_at, get_push_left, get_set_other, get_set_same, length_push, lt-leb, slice_get_past}
use Rattle.trace_audit.specs.Exports.{trace_run_get}

-- by their numbers, the items that are seen: one is put in, and no other changes
pub seen_put : {A B : Type 0} (seen : A → B) (old new : ℕ → Option A) (number : ℕ) (item : A)
    → new number ≡ Some item → ((n : ℕ) → (n ≡ number → ⊥) → new n ≡ old n)
    → ◌≡◌ {A = ℕ → Option B} (λ n. option_map seen (new n))
    (λ n. if n == number then Some (seen item) else option_map seen (old n))
seen_put seen old new number item here there = fun_ext (λ n. elim (cases_eq n number) [
  | inl same ↦ ap (λ k. option_map seen (new k)) same ∙ ap (option_map seen) here ∙ sym
      (cond-true (n == number) (Some (seen item)) (option_map seen (old n)) (eq-eqb n number same))
  | inr other ↦ ap (option_map seen) (there n other) ∙ sym (cond-false (n == number)
      (Some (seen item)) (option_map seen (old n)) (ne_eqb n number other))
])

module _ {A : Type 0} (first : ℕ) (run : List A) (n : ℕ) where
  run_at : first ≤ n → trace_run_get first run n ≡ slice_get run (n - first)
  run_at above = cond-true (leb first n) (slice_get run (n - first)) None (le-leb first n above)

  pub run_below : n < first → trace_run_get first run n ≡ None
  run_below below = cond-false (leb first n) (slice_get run (n - first)) None (lt-leb first n below)

  -- it isn't in the run
  pub run_past : length run ≤ n - first → trace_run_get first run n ≡ None
  run_past past = elim (cases_lt n first) [
    | inl below ↦ run_below below
    | inr above ↦ run_at above ∙ slice_get_past run (n - first) past
  ]

-- one is put in the place of another
module _ {A : Type 0} (first : ℕ) (run : List A) (number : ℕ) (item : A) (above : first ≤ number)
  where
    pub set_here : number - first < length run
        → trace_run_get first (set run (number - first) item) number ≡ Some item
    set_here within = run_at first (set run (number - first) item) number above
        ∙ get_set_same run (number - first) item within

    pub set_there : (n : ℕ) → (n ≡ number → ⊥)
        → trace_run_get first (set run (number - first) item) n ≡ trace_run_get first run n
    set_there n other = elim (cases_lt n first) [
      | inl below ↦ run_below first (set run (number - first) item) n below
          ∙ sym (run_below first run n below)
      | inr least ↦ run_at first (set run (number - first) item) n least
          ∙ get_set_other run (number - first) (n - first) item
          (λ e. other (omega (arith, e, least, above))) ∙ sym (run_at first run n least)
    ]

    -- one is put behind the run
    pub push_here : number - first ≡ length run
        → trace_run_get first (run ++ item ∷ []) number ≡ Some item
    push_here end = run_at first (run ++ item ∷ []) number above
        ∙ get_push_at run item (number - first) end

    pub push_there : number - first ≡ length run → (n : ℕ) → (n ≡ number → ⊥)
        → trace_run_get first (run ++ item ∷ []) n ≡ trace_run_get first run n
    push_there end n other = elim (cases_lt n first) [
      | inl below ↦ run_below first (run ++ item ∷ []) n below ∙ sym (run_below first run n below)
      | inr least ↦ elim (cases_lt (n - first) (length run)) [
        | inl within ↦ run_at first (run ++ item ∷ []) n least
            ∙ get_push_left run item (n - first) within ∙ sym (run_at first run n least)
        | inr past ↦ elim (cases_lt (length run) (n - first)) [
          | inl beyond ↦ run_past first (run ++ item ∷ []) n
              (omega (arith, length_push run item, beyond)) ∙ sym (run_past first run n past)
          | inr not ↦ absurd (other (omega (arith, not, past, end, least, above)))
        ]
      ]
    ]
