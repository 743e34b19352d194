-- The result of a finished update: all switches that are up stamp with the newest version, and no
-- other version is needed (Reitblatt, Foster, Rexford, Schlesinger and Walker, "Abstractions for
-- Network Update").
use Rattle.std.specs.Prelude.{◌-◌, ◌≡◌, All, IsTrue, List}
use Rattle.update_machine.specs.Exports.{Item, Setting, journal_current_mark, is_up, journal_retired_mark, serves, journal_stamp_of, machine_switches_of, journal_version_count}

-- each switch that is up serves and stamps with the newest version; that one is current, and all
-- before it are retired
pub record IsNetworkUpdated (setting : Setting) (journal : List Item) : Type 0 where
  pub serving : All (λ s. IsTrue (is_up journal s) → IsTrue (serves journal s))
      (machine_switches_of setting)
  pub stamps : All (λ s. IsTrue (is_up journal s) → journal_stamp_of journal s ≡ journal_version_count journal)
      (machine_switches_of setting)
  pub current : journal_current_mark journal ≡ journal_version_count journal
  pub retired : journal_retired_mark journal ≡ journal_version_count journal - 1
