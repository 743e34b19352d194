-- Versions and their plans: how many there are, and which of their tables switches have.
use Rattle.std.specs.Prelude.{[], ◌++◌, ◌-◌, ◌≡◌, ◌≤◌, All, IsTrue, List, Some, ℕ, ⊤}
use Rattle.update_machine.specs.Exports.{Body, MachineVersionHasPlan, Install, Item, Setting, Tables, heard, holds_version, journal_message_of, most_live_journal_versions, most_journal_versions, journal_retired_mark, journal_tables_at, machine_message_to_switch, journal_version_count}

-- ---- versions

-- there are at most 64 versions, at most eight of which aren't retired; if the first policy has a
-- plan, each of them has one
pub record ControlVersionsArePlanned (setting : Setting) (journal : List Item) : Type 0 where
  pub few : journal_version_count journal ≤ most_journal_versions
  pub live : journal_version_count journal - journal_retired_mark journal ≤ most_live_journal_versions
  pub planned : MachineVersionHasPlan setting [] 1 → (version : ℕ) → 1 ≤ version
      → version ≤ journal_version_count journal → MachineVersionHasPlan setting journal version

-- ---- tables

-- the tables are those that their version's plan gives the switch, however the journal continues
pub record AreControlTablesOf (setting : Setting) (journal : List Item) (s : ℕ) (installed : Tables)
    : Type 0 where
  pub first : 1 ≤ installed.version
  pub last : installed.version ≤ journal_version_count journal
  pub planned : installed ≡ journal_tables_at setting journal installed.version s
  pub later : (items : List Item)
      → installed ≡ journal_tables_at setting (journal ++ items) installed.version s

-- tables in the body are those that their version's plan gives the switch
abbrev pub ControlMessageBringsPlannedTables : Setting → List Item → ℕ → Body → Type 0
ControlMessageBringsPlannedTables setting journal s (Install boot installed) = AreControlTablesOf setting journal s installed
ControlMessageBringsPlannedTables setting journal s body = ⊤

-- this is true of all tables that a switch was sent or heard; and each version that it has exists
pub record ControlTablesArePlanned (setting : Setting) (journal : List Item) : Type 0 where
  pub sent : (s boot n : ℕ) (installed : Tables)
      → journal_message_of journal n ≡ Some (machine_message_to_switch s (Install boot installed))
      → AreControlTablesOf setting journal s installed
  pub heard : (s : ℕ) → All (ControlMessageBringsPlannedTables setting journal s) (heard journal s)
  pub held : (s version : ℕ) → IsTrue (holds_version journal s version)
      → (1 ≤ version) × (version ≤ journal_version_count journal)
