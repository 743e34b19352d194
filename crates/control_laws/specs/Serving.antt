-- Switches that serve have the version that they stamp packets with. That a packet finds the
-- tables of its version at each switch is the consistency of Reitblatt, Foster, Rexford,
-- Schlesinger and Walker, "Abstractions for Network Update".
use Rattle.std.specs.Prelude.{◌<◌, ◌≤◌, ◌⊎◌, IsTrue, List, length, ℕ}
use Rattle.update_machine.specs.Exports.{Item, Setting, journal_current_mark, holds_version, journal_retired_mark, serves, journal_stamp_of}

-- the switch has the version of its stamp, and each one from there up to the current version; the
-- stamp isn't retired, and is at most the current version
pub record ControlHoldsStampedVersions (journal : List Item) (s : ℕ) : Type 0 where
  pub stamp : IsTrue (holds_version journal s (journal_stamp_of journal s))
  pub held : (version : ℕ) → version ≤ journal_current_mark journal →
      IsTrue (holds_version journal s version) ⊎ (version < journal_stamp_of journal s)
  pub retired : journal_retired_mark journal < journal_stamp_of journal s
  pub current : journal_stamp_of journal s ≤ journal_current_mark journal

-- this is true of each switch of the network that serves
abbrev pub ControlServingHoldVersions : Setting → List Item → Type 0
ControlServingHoldVersions setting journal = (s : ℕ) → s < length setting.net.switches
    → IsTrue (serves journal s) → ControlHoldsStampedVersions journal s
