-- What the journal just before an item of switches and their controller says of messages, boots,
-- openings and marks. Each cause is about only the journal before the item, so it is true in the
-- middle of a step too. The update in two phases is that of Reitblatt, Foster, Rexford,
-- Schlesinger and Walker, "Abstractions for Network Update"; boots and acknowledgements are ours.
use Rattle.std.specs.Prelude.{◌+◌, ◌-◌, ◌<◌, ◌≡◌, ◌≢◌, ◌≤◌, ◌⊎◌, IsFalse, IsOk, IsTrue, List, None, Ok, Some, ℕ, ⊤}
use Rattle.base.specs.Exports.{list_any}
use Rattle.update_machine.specs.Exports.{Advertise, Body, CacheRule, Collect, Hello, Install, Installed, Item, MachineCurrentMayRise, OpenAt, Place, Row, Setting, Stamp, Stamped, Tables, journal_boot_of, journal_current_mark, has_acked, heard, machine_body_installs_version, is_member, is_over, is_up, journal_known_boot, journal_message_of, most_live_journal_versions, most_journal_versions, journal_next_policy, journal_next_retired, journal_opened_at, journal_retired_mark, journal_stamp_of, journal_tables_at, machine_message_to_switch, machine_touched_by, journal_version_count}
use Rattle.ctrl_msg.specs.declared.message.Place.TheVariants as receiver
use Rattle.ternary.specs.Exports.{WordValue}
use Rattle.journal.specs.declared.item.Item.TheVariants as item

-- ---- what is sent to a switch

-- the boot is the one that the controller knows of the switch, and the switch isn't over
pub record IsControlForKnown (before : List Item) (s boot : ℕ) : Type 0 where
  pub known : boot ≡ journal_known_boot before s
  pub not_over : IsFalse (is_over before s)

-- the tables are those that a version's plan gives the switch; the version is the newest one, or
-- the current one or a later one
pub record IsRightControlInstall (setting : Setting) (before : List Item) (s boot : ℕ)
    (installed : Tables) : Type 0 where
  pub to : IsControlForKnown before s boot
  pub version : ℕ
  pub which : (version ≡ journal_version_count before) ⊎ (journal_current_mark before ≤ version)
  pub there : version ≤ journal_version_count before
  pub planned : installed ≡ journal_tables_at setting before version s

-- the switch wasn't opened before in this boot, acknowledged the current version, and opens at it
pub record IsFirstControlOpening (before : List Item) (s version : ℕ) : Type 0 where
  pub closed : journal_opened_at before s ≡ None
  pub current : version ≡ journal_current_mark before
  pub acked : IsTrue (has_acked before s version)

-- the message opens the switch first at the current version; if sent again, at the same version
pub record IsRightControlOpening (before : List Item) (s boot version : ℕ) : Type 0 where
  pub to : IsControlForKnown before s boot
  pub opens : IsFirstControlOpening before s version ⊎ (journal_opened_at before s ≡ Some version)

-- a member is told to stamp with the current version, and gets the words that its change touches
pub record IsRightControlStamp (setting : Setting) (before : List Item) (s boot version : ℕ)
    (touched : List WordValue) : Type 0 where
  pub to : IsControlForKnown before s boot
  pub member : IsTrue (is_member before s)
  pub current : version ≡ journal_current_mark before
  pub says : touched ≡ machine_touched_by setting before version

-- a member is told to drop the versions up to the retired mark
pub record IsRightControlCollect (before : List Item) (s boot version : ℕ) : Type 0 where
  pub to : IsControlForKnown before s boot
  pub member : IsTrue (is_member before s)
  pub retired : version ≡ journal_retired_mark before

-- what may be sent to a switch; cache rules and adverts carry no boot of it, so they always may be
abbrev pub IsRightControlMessageTo : Setting → List Item → ℕ → Body → Type 0
IsRightControlMessageTo setting before s (Install boot tables) = IsRightControlInstall setting before s boot tables
IsRightControlMessageTo setting before s (OpenAt boot version) = IsRightControlOpening before s boot version
IsRightControlMessageTo setting before s (Stamp boot version touched) =
    IsRightControlStamp setting before s boot version touched
IsRightControlMessageTo setting before s (Collect boot version) = IsRightControlCollect before s boot version
IsRightControlMessageTo setting before s (CacheRule version word rule action) = ⊤
IsRightControlMessageTo setting before s (Advertise advert) = ⊤
IsRightControlMessageTo setting before s _ = ⊥

-- ---- what a switch sends to the controller

-- the switch is up, in this boot
pub record IsControlSenderPresent (before : List Item) (s boot : ℕ) : Type 0 where
  pub up : IsTrue (is_up before s)
  pub own : boot ≡ journal_boot_of before s

-- it acknowledges tables that it heard in its boot
pub record IsRightControlInstalledAck (before : List Item) (s boot version : ℕ) : Type 0 where
  pub present : IsControlSenderPresent before s boot
  pub heard : IsTrue (list_any (machine_body_installs_version version) (heard before s))

-- it acknowledges a stamp that is at most its own
pub record IsRightControlStampAck (before : List Item) (s boot version : ℕ) : Type 0 where
  pub present : IsControlSenderPresent before s boot
  pub stamps : version ≤ journal_stamp_of before s

abbrev pub IsRightControlMessageFrom : List Item → Body → Type 0
IsRightControlMessageFrom before (Hello s boot) = IsControlSenderPresent before s boot
IsRightControlMessageFrom before (Installed s boot version) = IsRightControlInstalledAck before s boot version
IsRightControlMessageFrom before (Stamped s boot version) = IsRightControlStampAck before s boot version
IsRightControlMessageFrom before _ = ⊥

abbrev pub IsRightControlMessage : Setting → List Item → Place → Body → Type 0
IsRightControlMessage setting before (receiver.Switch s) body = IsRightControlMessageTo setting before s body
IsRightControlMessage setting before receiver.Controller body = IsRightControlMessageFrom before body

-- ---- switches and marks

-- a switch that was down begins its next boot
pub record ControlBootHasCause (before : List Item) (s boot : ℕ) : Type 0 where
  pub down : IsFalse (is_up before s)
  pub next : boot ≡ journal_boot_of before s + 1

-- the switch is up and opens with its stamp, which is at least the version of some message that was
-- sent to open it in this boot
pub record ControlOpeningHasCause (before : List Item) (s stamp : ℕ) : Type 0 where
  pub up : IsTrue (is_up before s)
  pub number : ℕ
  pub version : ℕ
  pub sent : journal_message_of before number ≡ Some (machine_message_to_switch s (OpenAt (journal_boot_of before s) version))
  pub stamped : version ≤ journal_stamp_of before s
  pub own : stamp ≡ journal_stamp_of before s

-- the version is the next one: its file makes a policy from the newest one, that policy has a
-- plan, and there is room for one more live version and for one more version in all
pub record ControlSubmissionHasCause (setting : Setting) (before : List Item) (file version : ℕ) : Type 0 where
  pub next : version ≡ journal_version_count before + 1
  pub rows : List Row
  pub policy : journal_next_policy setting before file ≡ Ok rows
  pub planned : IsOk (setting.plan rows)
  pub live : journal_version_count before - journal_retired_mark before ≢ most_live_journal_versions
  pub few : journal_version_count before ≢ most_journal_versions

-- the retired mark rises as far as the members' acknowledged stamps allow
pub record ControlRetirementHasCause (setting : Setting) (before : List Item) (version : ℕ) : Type 0 where
  pub rises : journal_retired_mark before < version
  pub least : version ≡ journal_next_retired setting before

-- each item of switches and their controller has its cause earlier in the journal
abbrev pub HasControlItemCause : Setting → List Item → Item → Type 0
HasControlItemCause setting before (item.Sent number message) =
    IsRightControlMessage setting before message.to message.body
HasControlItemCause setting before (item.Down s) = IsTrue (is_up before s)
HasControlItemCause setting before (item.Booted s boot) = ControlBootHasCause before s boot
HasControlItemCause setting before (item.Opened s version) = ControlOpeningHasCause before s version
HasControlItemCause setting before (item.OverNow s) = IsFalse (is_up before s)
HasControlItemCause setting before (item.Submitted file version) =
    ControlSubmissionHasCause setting before file version
HasControlItemCause setting before (item.Current version) = MachineCurrentMayRise setting before version
HasControlItemCause setting before (item.Retired version) = ControlRetirementHasCause setting before version
HasControlItemCause setting before _ = ⊤
