-- The laws of settling, and of the versions that a switch acknowledged: a function of `src` ensures
-- each record.
use Rattle.std.specs.Prelude.{[], ◌&&◌, ◌<◌, ◌==◌, ◌||◌, ◌≡◌, ◌≤◌, All, Bool, Contains, IsTrue, List, MatchOption, None, Some, false, slice_get, ℕ}
use Rattle.base.specs.Exports.{bit_at}
use Rattle.version_update.specs.declared.record.SwitchRecord.{SwitchRecord}
use Rattle.version_update.specs.declared.marks.Settled.{Settled}
use Rattle.version_update.specs.Record.{has_acked, first_update_record, IsSoundUpdateRecord, update_takes_hello, update_hello_recorded, mark_takes_installed, mark_record_after_installed}
use Rattle.version_update.specs.Marks.{MarksValue, least_of_marks, AreVersionMarksSettled}
use Rattle.version_update.specs.Settling.{MaskNamesUpdateSwitches, SettlesVersionMarks}

-- nothing rose, and nothing is sent
abbrev pub update_no_mark_rose : Bool → Settled
update_no_mark_rose taken = record {
  taken = taken;
  current = None;
  stamps = 0;
  opens = 0;
  retired = None;
  collects = 0;
}

-- it is one of the numbers, and none is less
abbrev pub IsLeastOfMarks : List ℕ → ℕ → Type 0
IsLeastOfMarks numbers least = Contains numbers least × All (λ n. least ≤ n) numbers

pub record UpdateSettlingLaws : Type 0 where
  pub one_result : (before a b : MarksValue) (x y : Settled) → SettlesVersionMarks before a x
      → SettlesVersionMarks before b y → a ≡ b
  pub one_answer : (before a b : MarksValue) (x y : Settled) → SettlesVersionMarks before a x
      → SettlesVersionMarks before b y → x.taken ≡ y.taken → x ≡ y
  -- settled marks stay unchanged
  pub idle : (marks : MarksValue) (taken : Bool) → AreVersionMarksSettled marks
      → SettlesVersionMarks marks marks (update_no_mark_rose taken)
  -- a mask names switches that exist and that pass
  pub named : (mask s : ℕ) (passes : SwitchRecord → Bool) (switches : List SwitchRecord)
      → MaskNamesUpdateSwitches mask passes switches → bit_at mask s ≡ 1 →
      (known : SwitchRecord) × (slice_get switches s ≡ Some known) × IsTrue (passes known)
  pub least : (numbers : List ℕ) → MatchOption (least_of_marks numbers) (numbers ≡ []) (IsLeastOfMarks numbers)

pub record UpdateRecordLaws : Type 0 where
  -- a version is acknowledged at the start, or by a message that was recorded
  pub first : (version : ℕ) → 1 ≤ version → has_acked first_update_record version ≡ (version == 1)
  pub hello : (boot version : ℕ) (known : SwitchRecord) → IsTrue (update_takes_hello boot known)
      → has_acked (update_hello_recorded boot known) version ≡ false
  pub installed : (boot version other : ℕ) (known : SwitchRecord) → 1 ≤ version → 1 ≤ other →
      has_acked (mark_record_after_installed boot version known) other
      ≡ (has_acked known other || (mark_takes_installed boot known && other == version))
  -- no version beyond the last one is acknowledged
  pub past : (count version : ℕ) (known : SwitchRecord) → IsSoundUpdateRecord count known
      → count < version → has_acked known version ≡ false
