-- The least of the stamps that members acknowledged.
use Rattle.std.proofs.Common.{[], ◌∷◌, ◌≡◌, ◌≤◌, All, Bool, List, arith, cond, false, fold, map, min, refl, true, unwrap_or, ℕ}
use Rattle.base.proofs.Exports.{All-cons, All-head, All-nil, All-tail}
use Rattle.version_update.specs.declared.record.SwitchRecord.{SwitchRecord}
use Rattle.version_update.specs.Exports.{IsSoundUpdateRecord, update_acked_stamps, is_member, least_of_marks, update_member_records}

-- from 1 to count
abbrev IsVersion : ℕ → ℕ → Type 0
IsVersion count version = (1 ≤ version) × (version ≤ count)

fold_min-version : (count first : ℕ) (more : List ℕ) → IsVersion count first
    → All (IsVersion count) more → IsVersion count (fold min first more)
fold_min-version count first [] here all = here
fold_min-version count first (n ∷ more) here all =
    let next : IsVersion count n = All-head (IsVersion count) n more all in
    fold_min-version count (min first n) more (omega arith, omega arith)
    (All-tail (IsVersion count) n more all)

least-version : (count d : ℕ) (numbers : List ℕ) → IsVersion count d → All (IsVersion count) numbers
    → IsVersion count (unwrap_or (least_of_marks numbers) d)
least-version count d [] here all = here
least-version count d (n ∷ more) here all = fold_min-version count n more
    (All-head (IsVersion count) n more all) (All-tail (IsVersion count) n more all)

stamps-versions : (count : ℕ) (switches : List SwitchRecord) → All (IsSoundUpdateRecord count) switches
    → All (IsVersion count) (update_acked_stamps switches)
stamps-versions count [] sound = All-nil (IsVersion count)
stamps-versions count (known ∷ more) sound = by_phase (is_member known.phase) refl
    (stamps-versions count more (All-tail (IsSoundUpdateRecord count) known more sound))
  where
    here : IsSoundUpdateRecord count known
    here = All-head (IsSoundUpdateRecord count) known more sound

    by_phase : (member : Bool) → is_member known.phase ≡ member
        → All (IsVersion count) (update_acked_stamps more) → All (IsVersion count)
        (map (λ k. k.acked_stamp) (cond member (known ∷ update_member_records more) (update_member_records more)))
    by_phase true is rest = let high = here.acked_stamp is in
        All-cons (IsVersion count) known.acked_stamp (update_acked_stamps more)
        (omega (arith, here.open_version is, high), here.stamp_bound) rest
    by_phase false is rest = rest

-- the least acknowledged stamp is a version, and so is the value if there is no member
pub least_acked_stamp-version : (count d : ℕ) (switches : List SwitchRecord) → 1 ≤ d → d ≤ count
    → All (IsSoundUpdateRecord count) switches → (1 ≤ unwrap_or (least_of_marks (update_acked_stamps switches)) d)
    × (unwrap_or (least_of_marks (update_acked_stamps switches)) d ≤ count)
least_acked_stamp-version count d switches low high sound = least-version count d (update_acked_stamps switches)
    (low, high) (stamps-versions count switches sound)
