-- What switches heard about versions, and what the controller may rely on while a boot lasts.
use Rattle.std.specs.Prelude.{◌≡◌, ◌≤◌, ◌⊎◌, IsTrue, List, Some, ℕ}
use Rattle.base.specs.Exports.{list_any}
use Rattle.update_machine.specs.Exports.{Install, Installed, Item, Setting, Stamped, Tables, journal_boot_of, has_acked, heard, machine_body_installs_version, is_up, journal_known_boot, journal_message_of, journal_stamp_of, journal_tables_at, machine_message_to_switch, journal_version_count}
use Rattle.ctrl_msg.specs.Exports.{message_to_controller}

-- the switch heard the tables of the version in its boot, or began with them
abbrev pub ControlSwitchHeardTables : List Item → ℕ → ℕ → Type 0
ControlSwitchHeardTables journal s version =
    ((version ≡ 1) × (journal_boot_of journal s ≡ 1))
    ⊎ IsTrue (list_any (machine_body_installs_version version) (heard journal s))

-- while a switch is up, it heard in its boot all tables that it acknowledged in that boot, and its
-- stamp is at least each one that it acknowledged in that boot
pub record ControlAcksHold (journal : List Item) (s : ℕ) : Type 0 where
  pub installed : (boot version n : ℕ)
      → journal_message_of journal n ≡ Some (message_to_controller (Installed s boot version))
      → IsTrue (is_up journal s) → boot ≡ journal_boot_of journal s
      → IsTrue (list_any (machine_body_installs_version version) (heard journal s))
  pub stamped : (boot version n : ℕ)
      → journal_message_of journal n ≡ Some (message_to_controller (Stamped s boot version))
      → IsTrue (is_up journal s) → boot ≡ journal_boot_of journal s → version ≤ journal_stamp_of journal s
  -- so it has the tables of each version that the controller counts as acknowledged
  pub acked : (version : ℕ) → IsTrue (is_up journal s) → journal_known_boot journal s ≡ journal_boot_of journal s
      → IsTrue (has_acked journal s version) → ControlSwitchHeardTables journal s version

-- the tables are those that some version's plan gives the switch
pub record AreControlInstallTablesPlanned (setting : Setting) (journal : List Item) (s : ℕ) (installed : Tables)
    : Type 0 where
  pub version : ℕ
  pub first : 1 ≤ version
  pub last : version ≤ journal_version_count journal
  pub planned : installed ≡ journal_tables_at setting journal version s

-- a switch is sent only tables that a version's plan gives it
abbrev pub ControlInstallsArePlanned : Setting → List Item → Type 0
ControlInstallsArePlanned setting journal = (s boot n : ℕ) (installed : Tables)
    → journal_message_of journal n ≡ Some (machine_message_to_switch s (Install boot installed))
    → AreControlInstallTablesPlanned setting journal s installed
