-- How the marks bound each other and the stamps of members.
use Rattle.std.specs.Prelude.{◌<◌, ◌≡◌, ◌≤◌, IsTrue, List, Some, length, ℕ}
use Rattle.update_machine.specs.Exports.{Collect, Item, Setting, acked_stamp, journal_current_mark, is_member, journal_message_of, journal_retired_mark, journal_stamp_of, machine_message_to_switch, journal_version_count}

-- the current version exists; retired versions are below it and below the acknowledged stamp of
-- each member of the network, and a member is told to drop only versions below that stamp
pub record ControlMarksAreBounded (setting : Setting) (journal : List Item) : Type 0 where
  pub first : 1 ≤ journal_current_mark journal
  pub there : journal_current_mark journal ≤ journal_version_count journal
  pub retired : journal_retired_mark journal < journal_current_mark journal
  pub stamped : (s : ℕ) → s < length setting.net.switches → IsTrue (is_member journal s)
      → journal_retired_mark journal < acked_stamp journal s
  pub collected : (s boot version n : ℕ) → s < length setting.net.switches
      → journal_message_of journal n ≡ Some (machine_message_to_switch s (Collect boot version))
      → IsTrue (is_member journal s) → version < acked_stamp journal s
  -- no switch's stamp is above the current version, nor is the stamp that the controller knows
  pub stamps : (s : ℕ) → journal_stamp_of journal s ≤ journal_current_mark journal
  pub known : (s : ℕ) → acked_stamp journal s ≤ journal_current_mark journal
