use Rattle.std.proofs.Common.{◌+◌, ◌<◌, ◌∙◌, ◌≡◌, ◌≤◌, Err, List, Ok, ap, arith, false, le-ltb, length, lt-ltb, ltb, nat_cmp, subst, sym, rules}
use Rattle.base.proofs.Exports.{contains, list_any}
use Rattle.policy_rules.specs.Exports.{IsPolicy, policy_change_adds_taken, amended_policy_rows, policy_removals, policy_change_removes_absent, policy_rows_after_removal}
use Rattle.policy_rules.specs.declared.applying.Inapplicable.TheVariants.{TooManyRows}
use Rattle.policy_rules.specs.declared.amendment.Edit.{Edit}
use Rattle.policy_rules.specs.declared.policy.Row.{Row}
use Rattle.policy_rules.proofs.AmendmentCases.{IsPolicy-amended, absent_by, is_absent, is_applied, is_taken, is_too_long, taken_by}
use Rattle.policy_rules.proofs.applying.apply.Goals as goal
use Rattle.policy_rules.proofs.applying.apply.Goals.{In_ok-amended, In_ok-new, In_ok-extend_from_slice}

-- ---- the rows that stay

staying_is : (c : In_ok-amended) → c.in_ok-amended.amended.items
    ≡ policy_rows_after_removal c.args.policy.now c.args.change.now
staying_is c = search rules

absent_is : (c : In_ok-amended) → policy_change_removes_absent c.args.policy.now c.args.change.now
    ≡ ltb (length c.rows-rows.result.now)
    (length c.in_ok-amended.amended.items + length c.removed-removed.result.now)
absent_is c =
    let rows = c.args.policy.now in
    let change = c.args.change.now in
    let two : length c.removed-removed.result.now ≡ length (policy_removals change) =
    ap length c.removed-removed.ensures in
    let three : length c.rows-rows.result.now ≡ length rows = ap length c.rows-rows.ensures.rows in
    absent_by rows change c.rows-rows.ensures.policy.distinct
    c.added-added.ensures.amendment.distinct.removed_once
    ∙ sym (λ i. ltb (three i) ((ap length (staying_is c)) i + two i))

pub returns-then-rows-len-clause-refused : goal.returns-then-rows-len-clause-refused
returns-then-rows-len-clause-refused c =
    let before = (goal.at.returns-then-rows-len-clause-refused c).In_ok-amended in
    is_absent c.args.policy.now c.args.change.now
    (absent_is before ∙ lt-ltb _ _ (omega arith))

-- ---- the rows that are added

taken_is : (c : In_ok-new) → policy_change_adds_taken c.args.policy.now c.args.change.now
    ≡ list_any (λ (row : Row). contains nat_cmp c.in_ok-new.new row.priority)
    (policy_rows_after_removal c.args.policy.now c.args.change.now)
taken_is c = let new = contains nat_cmp c.in_ok-new.new in
    taken_by new c.args.policy.now c.args.change.now
    (rw c.added-added.ensures.rows at c.in_ok-new.ensures)

pub returns-then-some_policy_row_has_priority-clause-refused : goal.returns-then-some_policy_row_has_priority-clause-refused
returns-then-some_policy_row_has_priority-clause-refused c =
    let before = (goal.at.returns-then-some_policy_row_has_priority-clause-refused c).In_ok-amended in
    is_taken c.args.policy.now c.args.change.now
    (absent_is before ∙ le-ltb _ _ (omega arith))
    (taken_is (goal.at.returns-then-some_policy_row_has_priority-clause-refused c).In_ok-new
    ∙ ap (list_any (λ (row : Row). contains nat_cmp c.in_ok-new.new row.priority))
    (sym (c.deref.ensures.value ∙ staying_is before)) ∙ sym c.some_policy_row_has_priority.ensures ∙ c.if-some_policy_row_has_priority.true)

-- ---- where nothing is absent or taken

record Applies (rows : List Row) (change : List Edit) (amended : List Row) : Type 0 where
  there : policy_change_removes_absent rows change ≡ false
  free : policy_change_adds_taken rows change ≡ false
  is : amended_policy_rows rows change ≡ amended

applies : (c : In_ok-extend_from_slice)
    → c.in_ok-amended.amended.items ≡ policy_rows_after_removal c.args.policy.now c.args.change.now
    → policy_change_removes_absent c.args.policy.now c.args.change.now ≡ ltb (length c.rows-rows.result.now)
    (length c.in_ok-amended.amended.items + length c.removed-removed.result.now)
    → policy_change_adds_taken c.args.policy.now c.args.change.now ≡ list_any (λ (row : Row). contains nat_cmp
    c.in_ok-new.new row.priority) (policy_rows_after_removal c.args.policy.now c.args.change.now)
    → Applies c.args.policy.now c.args.change.now c.extend_from_slice.new.self.items
applies c staying absent taken = search (rules, le-ltb)

pub returns-then-len-gt-MAX_ROWS-clause-refused : goal.returns-then-len-gt-MAX_ROWS-clause-refused
returns-then-len-gt-MAX_ROWS-clause-refused c =
    let before = goal.at.returns-then-len-gt-MAX_ROWS-clause-refused c in
    let done = applies before.In_ok-extend_from_slice (staying_is before.In_ok-amended)
    (absent_is before.In_ok-amended) (taken_is before.In_ok-new) in
    let many : 2000 < length c.extend_from_slice.new.self.items = omega arith in
    is_too_long c.args.policy.now c.args.change.now done.there done.free
    (subst (λ (rows : List Row). 2000 < length rows) (sym done.is) many)
    ∙ ap (λ n. Err (TooManyRows n)) (ap length done.is ∙ (omega arith))

pub from_sound-requires : goal.from_sound-requires
from_sound-requires c =
    let before = goal.at.from_sound-requires c in
    let done = applies before.In_ok-extend_from_slice (staying_is before.In_ok-amended)
    (absent_is before.In_ok-amended) (taken_is before.In_ok-new) in
    subst IsPolicy done.is
    (IsPolicy-amended c.args.policy.now c.args.change.now c.rows-rows.ensures.policy
    c.added-added.ensures.amendment done.free
    (subst (λ (rows : List Row). length rows ≤ 2000) (sym done.is) (omega arith)))

pub returns-clause-applied : goal.returns-clause-applied
returns-clause-applied c =
    let before = goal.at.returns-clause-applied c in
    let done = applies before.In_ok-extend_from_slice (staying_is before.In_ok-amended)
    (absent_is before.In_ok-amended) (taken_is before.In_ok-new) in
    is_applied c.args.policy.now c.args.change.now done.there done.free
    (subst (λ (rows : List Row). length rows ≤ 2000) (sym done.is) (omega arith))
    ∙ ap Ok (done.is ∙ sym c.from_sound.ensures.rows)
