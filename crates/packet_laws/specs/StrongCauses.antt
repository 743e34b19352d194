-- Causes that are strong enough for the headline, which is true of a run with them whose rows are
-- the schedule's. Each packet is decided by one whole version that wasn't retired when it entered,
-- or is lost by a row, or stuck because no route is known.
use Rattle.std.specs.Prelude.{◌<◌, ◌≡◌, ◌≢◌, ◌≤◌, IsFalse, List, None, Some, ℕ, ⊤}
use Rattle.failover.specs.Exports.{IsRoute}
use Rattle.update_machine.specs.Exports.{Cause, Exit, MachineFindsNextDown, MachineFindsNoPath, Item, MachineLeavesRightly, Leg, Seek, MachineLegSeeksOwn, Setting, journal_stuck_cause_at, journal_current_mark, journal_decision_of, journal_found_down, holds_version, journal_leg_of, journal_links_known, journal_route_from, journal_standing_of, journal_leg_targets}
use Rattle.journal.specs.declared.item.Item.TheVariants as item
use Rattle.steps.specs.Exports.{StepLinkExists}
use Rattle.control_laws.specs.Exports.{ControlRetirementHasCause, ControlSubmissionHasCause}
use Rattle.packet_laws.specs.Facts.{packet_entry_mark}
use Rattle.packet_laws.specs.KeptFacts.{PacketRouteAvoidsFound}
use Rattle.packet_laws.specs.Stages.{Blocked, packet_stage_of}
use Rattle.packet_laws.specs.PacketCauses.{HasPacketItemCause}

-- the link from where the packet is to the next switch of its route is one of the network, and its
-- switch can't use it
pub record PacketFindsLinkDown (setting : Setting) (before : List Item) (packet one two : ℕ) : Type 0
  where
    pub finds : MachineFindsNextDown setting before packet one two
    pub linked : StepLinkExists setting.net one two

-- the packet is undecided, and the version, by which it seeks an authority or is being decided,
-- wasn't retired when it entered and is at most the current one
pub record PacketSeeksRightly (before : List Item) (packet version : ℕ) : Type 0 where
  pub undecided : journal_decision_of before packet ≡ None
  pub not_retired : packet_entry_mark before packet < version
  pub current : version ≤ journal_current_mark before

abbrev pub IsPacketOnRightLeg : List Item → ℕ → Leg → Type 0
IsPacketOnRightLeg before packet (Seek version partition) = PacketSeeksRightly before packet version
IsPacketOnRightLeg before packet (Exit port) = ⊤

-- a lookup on the way raises the version that the packet seeks
abbrev pub PacketRaisesVersion : List Item → ℕ → ℕ → Type 0
PacketRaisesVersion before packet version = (earlier partition : ℕ)
    → journal_leg_of before packet ≡ Some (Seek earlier partition) → earlier < version

-- so does a decision by a switch that doesn't have the version that the packet seeks
abbrev pub PacketRaisesUnheld : List Item → ℕ → ℕ → Type 0
PacketRaisesUnheld before packet version = (earlier partition switch : ℕ)
    → journal_leg_of before packet ≡ Some (Seek earlier partition)
    → journal_standing_of before packet ≡ Some switch → IsFalse (holds_version before switch earlier)
    → earlier < version

-- so does a lookup after which the packet is stuck at once, before it found a link of the leg down
abbrev pub PacketRaisesOnLeg : List Item → ℕ → Leg → Type 0
PacketRaisesOnLeg before packet (Seek version partition) =
    (packet_stage_of before packet ≢ Some Blocked) → PacketRaisesVersion before packet version
PacketRaisesOnLeg before packet (Exit port) = ⊤

-- the packet is stuck, with the links that it found down, only because its switch finds no route;
-- the cause follows the cause rule
pub record IsPacketStuckOnLeg (setting : Setting) (before : List Item) (packet switch : ℕ)
    (cause : Cause) (leg : Leg) (down : List ℕ) : Type 0 where
  pub stuck : MachineFindsNoPath setting before packet switch leg
  pub found : down ≡ journal_found_down before packet
  pub no_route : journal_route_from setting before switch (journal_leg_targets setting before leg) down ≡ None
  pub why : cause ≡ journal_stuck_cause_at setting before switch down leg
  pub rightly : IsPacketOnRightLeg before packet leg
  pub raises : PacketRaisesOnLeg before packet leg

-- a route uses no link that the packet found down
abbrev pub PacketAvoidsFound : List Item → ℕ → List ℕ → Type 0
PacketAvoidsFound before packet route = PacketRouteAvoidsFound (journal_found_down before packet) route

-- the route is a shortest one from where the packet is to the first target of the leg that is
-- reachable, and of these the least. The links are those that its switch knows, except those that
-- the packet found down; so the route uses none of these
pub record IsLeastPacketRoute (setting : Setting) (before : List Item) (packet : ℕ) (leg : Leg)
    (route : List ℕ) : Type 0 where
  pub switch : ℕ
  pub stands : journal_standing_of before packet ≡ Some switch
  pub least : (let links = journal_links_known setting before switch (journal_found_down before packet) in
      IsRoute links switch (journal_leg_targets setting before leg) (Some route))
  pub avoids : PacketAvoidsFound before packet route

-- it takes a least route to the port of its decision
pub record PacketExitsByLeast (setting : Setting) (before : List Item) (packet : ℕ) (route : List ℕ)
    : Type 0 where
  pub port : ℕ
  pub own_leg : MachineLegSeeksOwn setting before packet (Exit port)
  pub by : IsLeastPacketRoute setting before packet (Exit port) route

-- it takes another least route on its leg
pub record PacketTurnsToLeast (setting : Setting) (before : List Item) (packet : ℕ) (route : List ℕ)
    : Type 0 where
  pub leg : Leg
  pub own_leg : journal_leg_of before packet ≡ Some leg
  pub by : IsLeastPacketRoute setting before packet leg route

-- what is required of an item beyond its cause
abbrev pub PacketFurtherCause : Setting → List Item → Item → Type 0
PacketFurtherCause setting before (item.Submitted file version) =
    ControlSubmissionHasCause setting before file version
PacketFurtherCause setting before (item.Retired version) = ControlRetirementHasCause setting before version
PacketFurtherCause setting before (item.Seeking packet version partition route) =
    PacketRaisesVersion before packet version
    × IsLeastPacketRoute setting before packet (Seek version partition) route
PacketFurtherCause setting before (item.Exiting packet route) = PacketExitsByLeast setting before packet route
PacketFurtherCause setting before (item.Rerouted packet route) = PacketTurnsToLeast setting before packet route
PacketFurtherCause setting before (item.FoundDown packet one two) =
    PacketFindsLinkDown setting before packet one two
PacketFurtherCause setting before (item.Decided packet version rule action how) =
    PacketSeeksRightly before packet version × PacketRaisesUnheld before packet version
PacketFurtherCause setting before (item.Left packet port leaving) =
    MachineLeavesRightly setting before packet port leaving
PacketFurtherCause setting before (item.Stuck packet switch cause leg down) =
    IsPacketStuckOnLeg setting before packet switch cause leg down
PacketFurtherCause setting before _ = ⊤

-- the cause of an item, and what is required beyond it
abbrev pub PacketStrongCause : Setting → List Item → Item → Type 0
PacketStrongCause setting before next = HasPacketItemCause setting before next × PacketFurtherCause setting before next
