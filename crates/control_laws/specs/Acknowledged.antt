-- A switch is told to stamp with a version only after it acknowledged that version's tables;
-- members acknowledged each version from the one at which they were opened to the current one.
use Rattle.std.specs.Prelude.{◌<◌, ◌≡◌, ◌≤◌, IsTrue, List, length, ℕ, ⊤}
use Rattle.update_machine.specs.Exports.{Body, Item, OpenAt, Place, Setting, Stamp, acked_stamp, journal_current_mark, has_acked, is_member, journal_known_boot, open_version, serves, journal_stamp_of}
use Rattle.ctrl_msg.specs.declared.message.Place.TheVariants as receiver
use Rattle.journal.specs.declared.item.Item.TheVariants as item

-- a switch of the network may stamp with a version, in its known boot, only if it acknowledged
-- this version in that boot; the version is at most the current one
pub record IsControlStampAfterAck (setting : Setting) (before : List Item) (s boot version : ℕ) : Type 0 where
  pub known : boot ≡ journal_known_boot before s
  pub acked : s < length setting.net.switches → IsTrue (has_acked before s version)
  pub current : version ≤ journal_current_mark before

abbrev pub ControlLetsStampAfterAck : Setting → List Item → Place → Body → Type 0
ControlLetsStampAfterAck setting before (receiver.Switch s) (OpenAt boot version) =
    IsControlStampAfterAck setting before s boot version
ControlLetsStampAfterAck setting before (receiver.Switch s) (Stamp boot version touched) =
    IsControlStampAfterAck setting before s boot version
ControlLetsStampAfterAck setting before to body = ⊤

-- a message that lets a switch stamp has this cause; other items need none
abbrev pub IsControlAckedFirst : Setting → List Item → Item → Type 0
IsControlAckedFirst setting before (item.Sent number message) =
    ControlLetsStampAfterAck setting before message.to message.body
IsControlAckedFirst setting before _ = ⊤

-- a member of the network acknowledged each version from the one at which it was opened to the
-- current one; the stamp of a switch that serves is at least the one that the controller knows
pub record ControlMembersAcknowledged (setting : Setting) (journal : List Item) : Type 0 where
  pub acked : (s version : ℕ) → s < length setting.net.switches → IsTrue (is_member journal s)
      → open_version journal s ≤ version → version ≤ journal_current_mark journal
      → IsTrue (has_acked journal s version)
  pub stamps : (s : ℕ) → IsTrue (serves journal s) → acked_stamp journal s ≤ journal_stamp_of journal s
