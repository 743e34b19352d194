-- The definition of load cases, draw by draw.
use Rattle.std.proofs.Common.{[], ◌*◌, ◌++◌, ◌+◌, ◌/◌, ◌<◌, ◌==◌, ◌^◌, ◌∙◌, ◌∷◌, ◌≡◌, ◌≤◌, All, Bool, List, add-one, ap, arith, cond, false, length, length-append, ltb-false, ltb-true, nat_lt, ne_eqb, refl, slice_index_or, suc, sym, take, take_all, true, true≢false, zero, ℕ}
use Rattle.base.proofs.Exports.{All-append, All-cons, All-nil, get_or-append, get_or-append_seam, list_any-append, mod_below, take-append-le}
use Rattle.five_tuple.specs.Exports.{IsHeader}
use Rattle.policy_rules.specs.Exports.{IsFirstPolicyPriorityRepeat, policy_has_priority}
use Rattle.policy_rules.specs.declared.policy.Action.TheVariants.{Drop, Out}
use Rattle.steps.specs.Exports.{IsEventOfSteps}
use Rattle.schedule.specs.Case.{IsPlayableLoadCase, NamesLoadCasePort, load_case_action_at, load_case_address_at, load_case_draw_state_after, load_case_draw_below, load_case_change_events, load_case_drop_draw, load_case_group_at, load_case_groups_from, load_case_header_drawn, load_case_packet_drawn, load_case, load_case_net, load_case_next_drawn, load_case_row_at, load_case_row_ends, load_case_rows_drawn}
use Rattle.schedule.proofs.LoadCaseNetworks.{load_net_sound, port_owned}
use Rattle.policy_rules.specs.declared.policy.Row.{Row}
use Rattle.steps.specs.declared.step.Event.TheVariants.{Drain, Flush, One}
use Rattle.steps.specs.declared.step.Step.TheVariants as step

pub rows_more : (k x : ℕ) → load_case_rows_drawn (k + 1) x
    ≡ ((load_case_rows_drawn k x).0 ++ load_case_row_at (k + 1) (load_case_rows_drawn k x).1 ∷ [], load_case_row_ends (load_case_rows_drawn k x).1)
rows_more k x = ap (λ n. load_case_rows_drawn n x) (add-one k)

pub groups_more : (k x : ℕ) → load_case_groups_from (k + 1) x
    ≡ ((load_case_groups_from k x).0 ++ load_case_group_at (load_case_groups_from k x).1, load_case_draw_state_after 9 (load_case_groups_from k x).1)
groups_more k x = ap (λ n. load_case_groups_from n x) (add-one k)

-- ---- priorities

pub rows_count : (k x : ℕ) → length (load_case_rows_drawn k x).0 ≡ k
rows_count zero x = refl
rows_count (suc k) x = length-append (load_case_rows_drawn k x).0 _ ∙ omega (arith, rows_count k x)

later_priority : (k x priority : ℕ) → k < priority
    → policy_has_priority (load_case_rows_drawn k x).0 priority ≡ false
later_priority zero x priority above = refl
later_priority (suc k) x priority above =
    list_any-append (λ (row : Row). row.priority == priority) (load_case_rows_drawn k x).0 _ ∙ rw (
      later_priority k x priority (omega (arith, above)),
      ne_eqb (k + 1) priority (λ e. omega (arith, above, e)),
    ) refl

-- no row has the priority of an earlier one
pub rows_distinct : (k x place : ℕ) (d : Row) → place < k → policy_has_priority (take place
    (load_case_rows_drawn k x).0) (slice_index_or (load_case_rows_drawn k x).0 place d).priority ≡ false
rows_distinct zero x place d inside = absurd (omega (arith, inside))
rows_distinct (suc k) x place d inside = go (nat_lt place k) refl (rows_distinct k x place d) where
  go : (b : Bool) → nat_lt place k ≡ b → (place < k → policy_has_priority (take place (load_case_rows_drawn k x).0)
      (slice_index_or (load_case_rows_drawn k x).0 place d).priority ≡ false) → policy_has_priority (take place
      ((load_case_rows_drawn k x).0 ++ load_case_row_at (k + 1) (load_case_rows_drawn k x).1 ∷ [])) (slice_index_or
      ((load_case_rows_drawn k x).0 ++ load_case_row_at (k + 1) (load_case_rows_drawn k x).1 ∷ []) place d).priority ≡ false
  go true e earlier =
      let draw_below : place < length (load_case_rows_drawn k x).0 =
      omega (arith, ltb-true place k e, rows_count k x) in
      rw (
        take-append-le place (load_case_rows_drawn k x).0 (load_case_row_at (k + 1) (load_case_rows_drawn k x).1 ∷ [])
            (omega (arith, draw_below)),
        get_or-append (load_case_rows_drawn k x).0 (load_case_row_at (k + 1) (load_case_rows_drawn k x).1 ∷ []) d place
            draw_below,
      )
      (earlier (ltb-true place k e))
  go false e earlier =
      let same : place ≡ length (load_case_rows_drawn k x).0 = omega (arith, ltb-false, rows_count k x) in
      rw (
        same,
        take-append-le (length (load_case_rows_drawn k x).0) (load_case_rows_drawn k x).0
            (load_case_row_at (k + 1) (load_case_rows_drawn k x).1 ∷ []) (omega arith),
        take_all (length (load_case_rows_drawn k x).0) (load_case_rows_drawn k x).0 (omega arith),
        get_or-append_seam (load_case_rows_drawn k x).0 (load_case_row_at (k + 1) (load_case_rows_drawn k x).1) [] d,
      )
      (later_priority k x (k + 1) (omega arith))

pub no_repeat : (k x place : ℕ) → IsFirstPolicyPriorityRepeat (load_case_rows_drawn k x).0 place → ⊥
no_repeat k x place repeat = true≢false (sym (repeat.repeats (load_case_row_at 1 x))
    ∙ rows_distinct k x place (load_case_row_at 1 x) (omega (arith, repeat.there, rows_count k x)))

-- ---- events

below_limit : (m x : ℕ) → 0 < m → load_case_draw_below m x < m
below_limit m x some = mod_below (x / 65536) m some

header_sound : (x : ℕ) → IsHeader (load_case_header_drawn x)
header_sound x = record {
  src = address_fits x;
  dst = address_fits (load_case_draw_state_after 3 x);
  sport = omega (arith, below_limit 30000 (load_case_draw_state_after 7 x) (omega arith));
  dport = omega (arith, below_limit 1024 (load_case_draw_state_after 8 x) (omega arith));
  proto = omega arith;
} where
  address_fits : (x : ℕ) → load_case_address_at x < 2 ^ 32
  address_fits x = omega (arith, below_limit)

group_may : (x : ℕ) → All (IsEventOfSteps load_case_net 2) (load_case_group_at x)
group_may x = All-cons (IsEventOfSteps load_case_net 2) (One (load_case_packet_drawn x))
    (Drain ∷ Flush ∷ []) (below_limit 8 (load_case_next_drawn x) (omega arith), header_sound (load_case_next_drawn x))
    (All-cons (IsEventOfSteps load_case_net 2) Drain (Flush ∷ []) tt
    (All-cons (IsEventOfSteps load_case_net 2) Flush [] tt (All-nil (IsEventOfSteps load_case_net 2))))

groups_may : (k x : ℕ) → All (IsEventOfSteps load_case_net 2) (load_case_groups_from k x).0
groups_may zero x = All-nil (IsEventOfSteps load_case_net 2)
groups_may (suc k) x = All-append (IsEventOfSteps load_case_net 2) (load_case_groups_from k x).0
    (load_case_group_at (load_case_groups_from k x).1) (groups_may k x) (group_may (load_case_groups_from k x).1)

changes_may : All (IsEventOfSteps load_case_net 2) load_case_change_events
changes_may = All-cons (IsEventOfSteps load_case_net 2) (One (step.Update 2))
    (Flush ∷ One (step.LinkDown 0 1) ∷ Flush ∷ []) (omega arith, omega arith)
    (All-cons (IsEventOfSteps load_case_net 2) Flush (One (step.LinkDown 0 1) ∷ Flush ∷ []) tt
    (All-cons (IsEventOfSteps load_case_net 2) (One (step.LinkDown 0 1)) (Flush ∷ []) refl
    (All-cons (IsEventOfSteps load_case_net 2) Flush [] tt (All-nil (IsEventOfSteps load_case_net 2)))))

action_names : (x : ℕ) → NamesLoadCasePort load_case_net (load_case_action_at x)
action_names x = go (load_case_drop_draw x == 0) where
  go : (b : Bool) → NamesLoadCasePort load_case_net (cond b Drop (Out (load_case_draw_below 8 (load_case_draw_state_after 2 x))))
  go true = tt
  go false = port_owned (load_case_draw_below 8 (load_case_draw_state_after 2 x))
      (below_limit 8 (load_case_draw_state_after 2 x) (omega arith))

ports_named : (k x : ℕ) → All (λ (row : Row). NamesLoadCasePort load_case_net row.action) (load_case_rows_drawn k x).0
ports_named zero x = All-nil (λ (row : Row). NamesLoadCasePort load_case_net row.action)
ports_named (suc k) x = All-append (λ (row : Row). NamesLoadCasePort load_case_net row.action) (load_case_rows_drawn k x).0
    (load_case_row_at (k + 1) (load_case_rows_drawn k x).1 ∷ []) (ports_named k x)
    (All-cons (λ (row : Row). NamesLoadCasePort load_case_net row.action) (load_case_row_at (k + 1) (load_case_rows_drawn k x).1) []
    (action_names (load_case_draw_state_after 4 (load_case_rows_drawn k x).1))
    (All-nil (λ (row : Row). NamesLoadCasePort load_case_net row.action)))

groups_count : (k x : ℕ) → length (load_case_groups_from k x).0 ≡ 3 * k
groups_count zero x = refl
groups_count (suc k) x = length-append (load_case_groups_from k x).0 _ ∙ omega (arith, groups_count k x)

pub case_playable : (n : ℕ) → n ≤ 1000 → IsPlayableLoadCase (load_case n)
case_playable n few =
    let Named : List Row → Type 0 = All (λ row. NamesLoadCasePort load_case_net row.action) in
    let start = (load_case_rows_drawn n (load_case_rows_drawn n n).1).1 in
    let early = load_case_groups_from (2 * n) start in
    let late = load_case_groups_from (2 * n) early.1 in record {
      net = load_net_sound;
      ports = All-cons Named (load_case_rows_drawn n n).0 ((load_case_rows_drawn n (load_case_rows_drawn n n).1).0 ∷ [])
          (ports_named n n)
          (All-cons Named (load_case_rows_drawn n (load_case_rows_drawn n n).1).0 [] (ports_named n (load_case_rows_drawn n n).1)
          (All-nil Named));
      may = All-append (IsEventOfSteps load_case_net 2) (early.0 ++ load_case_change_events) late.0
          (All-append (IsEventOfSteps load_case_net 2) early.0 load_case_change_events (groups_may (2 * n) start) changes_may)
          (groups_may (2 * n) early.1);
      few = omega (
        arith,
        length-append (early.0 ++ load_case_change_events) late.0,
        length-append early.0 load_case_change_events,
        groups_count (2 * n) start,
        groups_count (2 * n) early.1,
        few,
      );
    }
