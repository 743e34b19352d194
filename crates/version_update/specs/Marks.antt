-- The marks of a policy's versions: how many there are, the current one, the last one that is
-- retired, and what is known of each switch.
use Rattle.std.specs.Prelude.{◌+◌, ◌-◌, ◌<◌, ◌≡◌, ◌≤◌, All, Bool, IsFalse, List, Option, filter, length, map, min, replicate, slice_index_or, slice_set, unwrap_or, ℕ}
use Rattle.base.specs.Exports.{list_all, reduce}
use Rattle.version_update.specs.declared.record.SwitchRecord.{SwitchRecord}
use Rattle.version_update.specs.Record.{is_member, has_acked, first_update_record, unknown_update_record, IsSoundUpdateRecord, update_joining_opens_at}

-- the versions are 1 to count; those up to retired are retired; each switch is known at its number
pub record MarksValue : Type 0 where
  pub count : ℕ
  pub current : ℕ
  pub retired : ℕ
  pub switches : List SwitchRecord

-- at the start
abbrev pub first_marks : ℕ → MarksValue
first_marks number = record {
  count = 1;
  current = 1;
  retired = 0;
  switches = replicate number first_update_record;
}

-- ---- switches

abbrev pub update_record_of : MarksValue → ℕ → SwitchRecord
update_record_of marks s = slice_index_or marks.switches s unknown_update_record

-- the marks with this change of what is known of switch s
abbrev pub version_marks_with_switch_changed : ℕ → (SwitchRecord → SwitchRecord) → MarksValue → MarksValue
version_marks_with_switch_changed s change marks =
    record marks { switches = slice_set marks.switches s (change (update_record_of marks s)) }

-- the marks with one more version
abbrev pub version_marks_with_version : MarksValue → MarksValue
version_marks_with_version marks = record marks { count = marks.count + 1 }

-- the records of the members
abbrev pub update_member_records : List SwitchRecord → List SwitchRecord
update_member_records switches = filter (λ known. is_member known.phase) switches

-- each member acknowledged the version
abbrev pub update_all_have_acked : ℕ → List SwitchRecord → Bool
update_all_have_acked version switches = list_all (λ known. has_acked known version) (update_member_records switches)

-- the stamps that the members acknowledged
abbrev pub update_acked_stamps : List SwitchRecord → List ℕ
update_acked_stamps switches = map (λ known. known.acked_stamp) (update_member_records switches)

-- ---- the rule of the marks

-- the least of numbers, if there is one
abbrev pub least_of_marks : List ℕ → Option ℕ
least_of_marks numbers = reduce min numbers

-- the least acknowledged stamp of the members minus 1, or current minus 1 if there is no member
abbrev pub update_retired_of : MarksValue → ℕ
update_retired_of marks = unwrap_or (least_of_marks (update_acked_stamps marks.switches)) marks.current - 1

-- the marks are of 1 to 64 versions and of 1 to 64 switches
pub record AreVersionMarksBounded (marks : MarksValue) : Type 0 where
  pub first : 1 ≤ marks.current
  pub last : marks.current ≤ marks.count
  pub versions : marks.count ≤ 64
  pub some : 1 ≤ length marks.switches
  pub switches : length marks.switches ≤ 64
  pub records : All (IsSoundUpdateRecord marks.count) marks.switches

-- current can't rise, no joining switch can open, and retired is as far as the members allow
pub record AreVersionMarksSettled (marks : MarksValue) : Type 0 where
  pub bounds : AreVersionMarksBounded marks
  pub stopped : marks.current < marks.count → IsFalse (update_all_have_acked (marks.current + 1) marks.switches)
  pub opened : All (λ known. IsFalse (update_joining_opens_at marks.current known)) marks.switches
  pub retired : marks.retired ≡ update_retired_of marks
  pub live : marks.retired < marks.count

-- still settled, and of the same switches
pub record VersionMarksStaySettled (old new : MarksValue) : Type 0 where
  pub settled : AreVersionMarksSettled new
  pub switches : length new.switches ≡ length old.switches
