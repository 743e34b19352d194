-- What is true at each moment, within a step too, so that no packet is decided by half of an old
-- version and half of a new one.
use Rattle.std.specs.Prelude.{[], List, ℕ}
use Rattle.update_machine.specs.Exports.{JournalItemsHaveCauses, Item, Setting}
use Rattle.control_laws.specs.Exports.{ControlAcksHold, ControlBootsArePast, HasControlItemCause, IsControlAckedFirst, ControlMarksAreBounded, ControlMembersAcknowledged, ControlOpeningMessagesNameOneVersion, ControlServingHoldVersions, ControlServingIsKnown, ControlStampsSayTouched, ControlTablesArePlanned}
use Rattle.packet_laws.specs.Amended.{ChangesLeaveOtherPackets, UntouchedPacketCacheRulesStay}
use Rattle.packet_laws.specs.Travelling.{PacketRulesAreRight}

pub record PacketLawsKeepVersionsWhole (setting : Setting) (journal : List Item) : Type 0 where
  -- each item of switches and of the controller has its cause: a message for a boot was sent while
  -- that boot was known and the switch wasn't over. The current mark rose only when each member had
  -- acknowledged each version above the old mark, up to the new one
  pub causes : JournalItemsHaveCauses (HasControlItemCause setting) [] journal
  -- the known boot of a switch is at most its own, and no message carries a greater one
  pub boots : ControlBootsArePast journal
  -- a switch that serves is a member in its own boot
  pub serving : ControlServingIsKnown journal
  -- a switch heard the tables that it acknowledged in its boot; it acknowledged no greater stamp
  pub heard : (s : ℕ) → ControlAcksHold journal s
  -- it is told to open or to stamp only at a version that it acknowledged, and to open at only one
  -- version in each boot
  pub acknowledged : JournalItemsHaveCauses (IsControlAckedFirst setting) [] journal
  pub opened : ControlOpeningMessagesNameOneVersion journal
  -- the tables that are sent are those that their version's plan gives the switch, and stay so
  -- however the journal continues; so are those that it heard
  pub tables : ControlTablesArePlanned setting journal
  -- members acknowledged each version from the one at which they were opened to the current one
  pub members : ControlMembersAcknowledged setting journal
  -- the marks bound each other, and what is dropped is below what members stamp with
  pub marks : ControlMarksAreBounded setting journal
  -- a switch that serves has the version that it stamps with, and each later version up to the
  -- current one
  pub holding : ControlServingHoldVersions setting journal
  -- a switch that is told to stamp with a version also gets what its change touches
  pub touched : ControlStampsSayTouched setting journal
  -- each cache rule decides each header of its word as its own version does
  pub rules : PacketRulesAreRight setting journal
  -- when a `Stamp` raises a switch to the very next version, its cache keeps, in their order, the
  -- rules that the amendment doesn't touch, unless an entry of that version has the rule's word
  pub untouched : UntouchedPacketCacheRulesStay setting journal
  -- a header that an amendment doesn't touch is decided alike by the versions before and after it
  pub alike : ChangesLeaveOtherPackets setting journal
