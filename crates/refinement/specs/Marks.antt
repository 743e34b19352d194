-- The controller's marks, as a journal says them: how many versions there are, the current and the
-- last retired one, and what each switch acknowledged. The two-phase update is that of Reitblatt,
-- Foster, Rexford, Schlesinger and Walker, "Abstractions for Network Update", SIGCOMM 2012.
use Rattle.std.specs.Prelude.{◌<◌, ◌≡◌, ◌≤◌, IsFalse, IsTrue, List, length, ℕ}
use Rattle.update_machine.specs.Exports.{Item, Setting, journal_version_count}
use Rattle.update_machine.specs.Marks as machine
use Rattle.version_update.specs.Exports.{MarksValue, has_acked, is_member, is_over, update_record_of}
use Rattle.version_update.specs.declared.record.SwitchRecord.{SwitchRecord}

-- what the controller knows of a switch is what the journal says: its boot, and whether it is over
-- or a member. While it isn't over, also which versions it acknowledged; and of a member at which
-- version it was opened, and its acknowledged stamp
pub record IsKnownRefined (items : List Item) (s : ℕ) (known : SwitchRecord) : Type 0 where
  pub boot : known.boot ≡ machine.journal_known_boot items s
  pub over : is_over known.phase ≡ machine.is_over items s
  pub member : is_member known.phase ≡ machine.is_member items s
  pub acked : IsFalse (machine.is_over items s) →
      (v : ℕ) → 1 ≤ v → has_acked known v ≡ machine.has_acked items s v
  pub opened : IsTrue (machine.is_member items s) →
      known.open_version ≡ machine.open_version items s
  pub stamp : IsTrue (machine.is_member items s) → known.acked_stamp ≡ machine.acked_stamp items s

-- the marks are those that the journal says
pub record AreMarksRefined (setting : Setting) (items : List Item) (marks : MarksValue) : Type 0 where
  pub count : marks.count ≡ journal_version_count items
  pub current : marks.current ≡ machine.journal_current_mark items
  pub retired : marks.retired ≡ machine.journal_retired_mark items
  pub many : length marks.switches ≡ length setting.net.switches
  pub each : (s : ℕ) → s < length marks.switches → IsKnownRefined items s (update_record_of marks s)
