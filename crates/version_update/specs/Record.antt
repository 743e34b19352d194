-- What the controller knows of one switch during updates, which have two phases as in Reitblatt,
-- Foster, Rexford, Schlesinger and Walker, "Abstractions for Network Update"; the acknowledgements
-- are our own.
use Rattle.std.specs.Prelude.{if◌then◌else◌, ◌&&◌, ◌-◌, ◌<◌, ◌==◌, ◌^◌, ◌≤◌, Bool, IsTrue, bit_or, false, max, nat_lt, not, true, ℕ}
use Rattle.base.specs.Exports.{bit_at}
use Rattle.version_update.specs.declared.record.Phase.{Phase}
use Rattle.version_update.specs.declared.record.Phase.TheVariants.{Joining, Member, Over}
use Rattle.version_update.specs.declared.record.SwitchRecord.{SwitchRecord}

-- ---- phases

abbrev pub is_member : Phase → Bool
is_member Member = true
is_member _ = false

abbrev pub is_joining : Phase → Bool
is_joining Joining = true
is_joining _ = false

abbrev pub is_over : Phase → Bool
is_over Over = true
is_over _ = false

-- ---- one switch

-- the version is in the set of those that the switch acknowledged in its boot: version v is the bit
-- v - 1
abbrev pub has_acked : SwitchRecord → ℕ → Bool
has_acked known version = bit_at known.acked (version - 1) == 1

-- at the start: open at version 1 in boot 1
abbrev pub first_update_record : SwitchRecord
first_update_record = record { boot = 1; phase = Member; acked = 1; open_version = 1; acked_stamp = 1 }

-- the record of a number that no switch has
abbrev pub unknown_update_record : SwitchRecord
unknown_update_record = record { boot = 0; phase = Over; acked = 0; open_version = 0; acked_stamp = 0 }

-- it names only the versions 1 to count, and a member acknowledged at least what it was opened at
pub record IsSoundUpdateRecord (count : ℕ) (known : SwitchRecord) : Type 0 where
  pub acked : known.acked < 2 ^ count
  pub open_version : IsTrue (is_member known.phase) → 1 ≤ known.open_version
  pub acked_stamp : IsTrue (is_member known.phase) → known.open_version ≤ known.acked_stamp
  pub stamp_bound : known.acked_stamp ≤ count

-- ---- what the controller hears about it

-- a hello of a greater boot: nothing is acknowledged in that one
abbrev pub update_takes_hello : ℕ → SwitchRecord → Bool
update_takes_hello boot known = nat_lt known.boot boot

abbrev pub update_hello_recorded : ℕ → SwitchRecord → SwitchRecord
update_hello_recorded boot known = if update_takes_hello boot known then
    record { boot = boot; phase = Joining; acked = 0; open_version = 0; acked_stamp = 0 } else known

-- a version is installed in the known boot of a switch that is not over
abbrev pub mark_takes_installed : ℕ → SwitchRecord → Bool
mark_takes_installed boot known = (known.boot == boot) && not (is_over known.phase)

abbrev pub mark_record_after_installed : ℕ → ℕ → SwitchRecord → SwitchRecord
mark_record_after_installed boot version known = if mark_takes_installed boot known then record known
    { acked = bit_or known.acked (2 ^ (version - 1)) } else known

-- a member stamps new packets with this version, in its known boot
abbrev pub update_takes_stamped : ℕ → SwitchRecord → Bool
update_takes_stamped boot known = (known.boot == boot) && is_member known.phase

abbrev pub update_after_stamped : ℕ → ℕ → SwitchRecord → SwitchRecord
update_after_stamped boot version known = if update_takes_stamped boot known then record known
    { acked_stamp = max known.acked_stamp version } else known

-- it is over
abbrev pub mark_record_after_over : SwitchRecord → SwitchRecord
mark_record_after_over known = record known { phase = Over }

-- ---- opening

-- a joining switch opens if it acknowledged the current version
abbrev pub update_joining_opens_at : ℕ → SwitchRecord → Bool
update_joining_opens_at current known = is_joining known.phase && has_acked known current

abbrev pub opened_update_record : ℕ → SwitchRecord → SwitchRecord
opened_update_record current known = if update_joining_opens_at current known then record known
    { phase = Member; open_version = current; acked_stamp = current } else known
