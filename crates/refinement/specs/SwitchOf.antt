-- What a journal says of a switch, as the record that the switch keeps.
use Rattle.std.specs.Prelude.{[], if◌then◌else◌, ◌++◌, ◌==◌, ◌∷◌, List, None, Option, Some, filter, filter_map, fold, ℕ}
use Rattle.base.specs.Exports.{list_any}
use Rattle.update_machine.specs.Exports.{Body, Collect, Install, Item, Setting, Tables, journal_adverts_known, journal_boot_of, journal_cache_of, machine_greatest_stamp_number, journal_handled_count, heard, holds_version, is_first_boot_in_journal, is_up, journal_own_seq, serves, journal_stamp_of, journal_tables_at}
use Rattle.switch_core.specs.Exports.{SwitchValue}

-- the version up to which a body tells the switch to drop tables; the switch keeps the greatest
-- that it heard in its boot
abbrev pub refined_collect_in : Body → Option ℕ
refined_collect_in (Collect boot version) = Some version
refined_collect_in _ = None

-- tables that a body brings
abbrev pub refined_tables_in : Body → Option Tables
refined_tables_in (Install boot tables) = Some tables
refined_tables_in _ = None

-- in boot 1 a switch begins with the tables of version 1, otherwise with none
abbrev pub refined_tables_begun : Setting → List Item → ℕ → List Tables
refined_tables_begun setting journal s =
    if is_first_boot_in_journal journal s then journal_tables_at setting journal 1 s ∷ [] else []

-- all these tables, and then the new ones unless there are some of their version
abbrev pub refined_with_tables : List Tables → Tables → List Tables
refined_with_tables all tables =
    if list_any (λ other. other.version == tables.version) all then all else all ++ tables ∷ []

-- the tables of the versions that the switch has, in the order in which they came
abbrev pub refined_tables_kept : Setting → List Item → ℕ → List Tables
refined_tables_kept setting journal s =
    filter (λ tables. holds_version journal s tables.version)
    (fold refined_with_tables (refined_tables_begun setting journal s) (filter_map refined_tables_in (heard journal s)))

-- what the journal says of the switch
unfoldable pub refined_switch_of : Setting → List Item → ℕ → SwitchValue
refined_switch_of setting journal s = record {
  number = s;
  boot = journal_boot_of journal s;
  is_up = is_up journal s;
  is_open = serves journal s;
  stamp = journal_stamp_of journal s;
  collected = machine_greatest_stamp_number (filter_map refined_collect_in (heard journal s));
  tables = refined_tables_kept setting journal s;
  cache = journal_cache_of setting journal s;
  database = journal_adverts_known setting journal s;
  seq = journal_own_seq setting journal s;
  handled = journal_handled_count journal s;
}
