-- The causes of packets' items: what the journal says just before each, where its switch finds the
-- packet. They depend only on the items, for steps of all kinds; packets are those of Yu, Rexford,
-- Freedman and Wang, "Scalable Flow-Based Networking with DIFANE".
use Rattle.std.specs.Prelude.{◌==◌, ◌≡◌, ◌⊎◌, Bool, IsFalse, IsTrue, List, None, Option, Some, false, true, unwrap_or, ℕ, ⊤}
use Rattle.update_machine.specs.Exports.{Action, MachineAuthorityRule, Body, CacheEntry, CacheRule, Cause, Crash, Decision, Exit, Header, How, IsMachineLinkStep, Item, Leaving, Leg, Lose, Message, Packet, Restart, Seek, Setting, Update, journal_authority_rule, machine_cache_rule, journal_stuck_cause_at, journal_decision_of, machine_first_rule_place, journal_found_down, journal_packet_header_at, holds_version, journal_ingress_of, is_at_machine_switch, is_up, journal_last_given, journal_leaving_item, journal_leg_of, machine_lookup_at, near, journal_next_packet, journal_next_switch, owner, journal_present_step, journal_packet_route, serves, journal_stamp_of, journal_standing_of, travels_in_journal}
use Rattle.base.specs.Exports.{has}
use Rattle.policy_rules.specs.declared.packet.How.TheVariants as how
use Rattle.policy_rules.specs.declared.policy.Action.TheVariants as action
use Rattle.switch_table.specs.declared.search.Found.TheVariants as found
use Rattle.journal.specs.declared.item.Item.TheVariants as item
use Rattle.packet_laws.specs.Stages.{Blocked, CameIn, Judged, OnWay, packet_stage_of}

-- ---- where it is

-- the packet travels, and is at the switch, which serves
pub record IsPacketAt (before : List Item) (packet switch : ℕ) : Type 0 where
  pub travelling : IsTrue (travels_in_journal before packet)
  pub stands : unwrap_or (journal_standing_of before packet) 0 ≡ switch
  pub serving : IsTrue (serves before switch)

abbrev pub gives_whether_packet_row : Item → Option Bool
gives_whether_packet_row (item.Row row step) = Some true
gives_whether_packet_row _ = Some false

-- the last item is the row of a step
unfoldable pub packet_law_ends_with_row : List Item → Bool
packet_law_ends_with_row journal = unwrap_or (journal_last_given gives_whether_packet_row journal) false

-- the packet enters, or is closed, right after its row, under the next number
pub record PacketIsOfRow (before : List Item) (packet switch : ℕ) (header : Header) : Type 0 where
  pub number : packet ≡ journal_next_packet before
  pub row : journal_present_step before ≡ Some (Packet switch header)
  pub behind : IsTrue (packet_law_ends_with_row before)

-- the packet is on its way, and its route ends here
pub record PacketArrivesHere (before : List Item) (packet : ℕ) : Type 0 where
  pub moving : packet_stage_of before packet ≡ Some OnWay
  pub last : journal_next_switch before packet ≡ None

-- it arrives on its way to an authority, at a switch that doesn't have the version
pub record PacketMissesVersion (before : List Item) (packet switch : ℕ) : Type 0 where
  pub arrives : PacketArrivesHere before packet
  pub version : ℕ
  pub partition : ℕ
  pub seeks : journal_leg_of before packet ≡ Some (Seek version partition)
  pub missing : IsFalse (holds_version before switch version)

-- the switch looks it up: it just entered, or arrived with a version that the switch doesn't have
abbrev pub IsPacketLookedUp : List Item → ℕ → ℕ → Type 0
IsPacketLookedUp before packet switch =
    (packet_stage_of before packet ≡ Some CameIn) ⊎ PacketMissesVersion before packet switch

-- the switch looks it up under this version, its stamp
abbrev pub IsPacketLookedUpBy : List Item → ℕ → ℕ → ℕ → Type 0
IsPacketLookedUpBy before packet switch version =
    IsPacketLookedUp before packet switch × (version ≡ journal_stamp_of before switch)

-- ---- legs

-- the lookup, under the switch's stamp, sends it to the targets of the partition
pub record IsPacketRedirectedHere (setting : Setting) (before : List Item)
    (packet switch version partition : ℕ) : Type 0 where
  pub looked_up : IsPacketLookedUp before packet switch
  pub targets : List ℕ
  pub answer : machine_lookup_at setting before switch (journal_packet_header_at before packet)
      ≡ found.Redirect partition targets
  pub stamp : version ≡ journal_stamp_of before switch

-- its decision, just made, is to leave by a port of another switch
pub record IsPacketSentOut (setting : Setting) (before : List Item) (packet switch port : ℕ) : Type 0
  where
    pub judged : packet_stage_of before packet ≡ Some Judged
    pub decision : Decision
    pub decided : journal_decision_of before packet ≡ Some decision
    pub action : decision.action ≡ action.Out port
    pub elsewhere : (owner setting port == switch) ≡ false

abbrev pub PacketTakesLeg : Setting → List Item → ℕ → ℕ → Leg → Type 0
PacketTakesLeg setting before packet switch (Seek version partition) =
    IsPacketRedirectedHere setting before packet switch version partition
PacketTakesLeg setting before packet switch (Exit port) = IsPacketSentOut setting before packet switch port

-- it found a link down on this leg
pub record IsPacketBlockedOn (before : List Item) (packet : ℕ) (leg : Leg) : Type 0 where
  pub blocked : packet_stage_of before packet ≡ Some Blocked
  pub takes : journal_leg_of before packet ≡ Some leg

-- it takes the leg from its switch, on the route that the switch knows
pub record PacketTakesRoute (setting : Setting) (before : List Item) (packet : ℕ) (leg : Leg)
    (route : List ℕ) : Type 0 where
  pub switch : ℕ
  pub at : IsPacketAt before packet switch
  pub takes : PacketTakesLeg setting before packet switch leg
  pub leads : journal_packet_route setting before packet switch leg ≡ Some route

pub record PacketTakesExit (setting : Setting) (before : List Item) (packet : ℕ) (route : List ℕ)
    : Type 0 where
  pub port : ℕ
  pub by : PacketTakesRoute setting before packet (Exit port) route

-- it takes another route on its leg
pub record PacketTakesDetour (setting : Setting) (before : List Item) (packet : ℕ) (route : List ℕ)
    : Type 0 where
  pub switch : ℕ
  pub at : IsPacketAt before packet switch
  pub leg : Leg
  pub blocked : IsPacketBlockedOn before packet leg
  pub leads : journal_packet_route setting before packet switch leg ≡ Some route

-- its switch knows no route for a leg that it takes, or on which it found a link down
pub record PacketFindsNoRoute (setting : Setting) (before : List Item) (packet switch : ℕ)
    (cause : Cause) (leg : Leg) (down : List ℕ) : Type 0 where
  pub at : IsPacketAt before packet switch
  pub on : PacketTakesLeg setting before packet switch leg ⊎ IsPacketBlockedOn before packet leg
  pub none : journal_packet_route setting before packet switch leg ≡ None
  pub why : cause ≡ journal_stuck_cause_at setting before switch (journal_found_down before packet) leg
  pub found : down ≡ journal_found_down before packet

-- it moves on to the next switch of its route, over a usable link
pub record PacketMovesOver (setting : Setting) (before : List Item) (packet next : ℕ) : Type 0 where
  pub switch : ℕ
  pub at : IsPacketAt before packet switch
  pub moving : packet_stage_of before packet ≡ Some OnWay
  pub goes_on : journal_next_switch before packet ≡ Some next
  pub usable : IsTrue (has (near setting before switch) next)

-- it finds the link to the next switch of its route unusable
pub record PacketMeetsDown (setting : Setting) (before : List Item) (packet one two : ℕ) : Type 0 where
  pub at : IsPacketAt before packet one
  pub moving : packet_stage_of before packet ≡ Some OnWay
  pub goes_on : journal_next_switch before packet ≡ Some two
  pub unusable : IsFalse (has (near setting before one) two)

-- ---- decisions

-- the switch's lookup returns the place of its own rule
pub record PacketAnswersHere (setting : Setting) (before : List Item)
    (packet switch version partition place : ℕ) : Type 0 where
  pub answer : machine_lookup_at setting before switch (journal_packet_header_at before packet)
      ≡ found.Authority partition place
  pub stamp : version ≡ journal_stamp_of before switch

-- the packet seeks the partition, and this is the place of the first rule there with its header
pub record PacketSeeksHere (setting : Setting) (before : List Item)
    (packet version partition place : ℕ) : Type 0 where
  pub seeks : journal_leg_of before packet ≡ Some (Seek version partition)
  pub first : place ≡ machine_first_rule_place setting before version partition (journal_packet_header_at before packet)

-- an authority rule of the switch for the packet
pub record PacketAuthorityFinds (setting : Setting) (before : List Item) (packet switch version : ℕ)
    (found : MachineAuthorityRule) : Type 0 where
  pub partition : ℕ
  pub place : ℕ
  pub rule : journal_authority_rule setting before version partition place ≡ Some found
  pub says : PacketAnswersHere setting before packet switch version partition place
      ⊎ PacketSeeksHere setting before packet version partition place

-- a cached rule decides the packet
pub record CacheDecidesPacket (setting : Setting) (before : List Item) (packet switch version : ℕ)
    (rule : Option ℕ) (action : Action) (message : ℕ) : Type 0 where
  pub looked_up : IsPacketLookedUp before packet switch
  pub entry : CacheEntry
  pub answer : machine_lookup_at setting before switch (journal_packet_header_at before packet) ≡ found.Cached entry
  pub of_version : version ≡ entry.version
  pub by_rule : rule ≡ entry.rule
  pub says : action ≡ entry.action
  pub brought : message ≡ entry.message

-- it arrives at an authority that has the version
pub record PacketReachesAuthority (before : List Item) (packet switch version : ℕ) : Type 0 where
  pub arrives : PacketArrivesHere before packet
  pub partition : ℕ
  pub seeks : journal_leg_of before packet ≡ Some (Seek version partition)
  pub held : IsTrue (holds_version before switch version)

-- an authority rule decides it, when it is looked up or arrives
pub record AuthorityDecidesPacket (setting : Setting) (before : List Item) (packet switch version : ℕ)
    (rule : Option ℕ) (action : Action) (partition : ℕ) : Type 0 where
  pub found : MachineAuthorityRule
  pub finds : PacketAuthorityFinds setting before packet switch version found
  pub when : IsPacketLookedUpBy before packet switch version
      ⊎ PacketReachesAuthority before packet switch version
  pub by_rule : rule ≡ found.rule.rule
  pub says : action ≡ found.rule.action
  pub of_part : partition ≡ found.part.number

abbrev pub PacketDecidesBy : Setting → List Item → ℕ → ℕ → ℕ → Option ℕ → Action → How → Type 0
PacketDecidesBy setting before packet switch version rule action (how.Cached message) =
    CacheDecidesPacket setting before packet switch version rule action message
PacketDecidesBy setting before packet switch version rule action (how.Authority authority partition) =
    (authority ≡ switch)
    × AuthorityDecidesPacket setting before packet switch version rule action partition

pub record IsPacketDecided (setting : Setting) (before : List Item) (packet version : ℕ)
    (rule : Option ℕ) (action : Action) (how : How) : Type 0 where
  pub switch : ℕ
  pub at : IsPacketAt before packet switch
  pub by : PacketDecidesBy setting before packet switch version rule action how

-- the authority's rule that decided the packet is sent to its ingress, which is another switch
pub record PacketSendsRule (setting : Setting) (before : List Item) (message : Message) : Type 0 where
  pub packet : ℕ
  pub switch : ℕ
  pub at : IsPacketAt before packet switch
  pub judged : packet_stage_of before packet ≡ Some Judged
  pub found : MachineAuthorityRule
  pub finds : PacketAuthorityFinds setting before packet switch found.version found
  pub decided : journal_decision_of before packet ≡ Some (record {
    version = found.version;
    rule = found.rule.rule;
    action = found.rule.action;
  })
  pub apart : is_at_machine_switch switch (journal_ingress_of before packet) ≡ false
  pub says : message
      ≡ machine_cache_rule found (unwrap_or (journal_ingress_of before packet) 0) (journal_packet_header_at before packet)

-- ---- ends

-- its decision, just made, is to leave by a port of its switch; or it arrives at its port's switch
abbrev pub IsPacketAtPort : Setting → List Item → ℕ → ℕ → ℕ → Type 0
IsPacketAtPort setting before packet switch port =
    ((packet_stage_of before packet ≡ Some Judged) × ((owner setting port == switch) ≡ true)
    × ((decision : Decision) × (journal_decision_of before packet ≡ Some decision)
    × (decision.action ≡ action.Out port)))
    ⊎ (PacketArrivesHere before packet × (journal_leg_of before packet ≡ Some (Exit port)))

pub record PacketLeavesHere (setting : Setting) (before : List Item) (packet port : ℕ)
    (leaving : Leaving) : Type 0 where
  pub switch : ℕ
  pub at : IsPacketAt before packet switch
  pub at_port : IsPacketAtPort setting before packet switch port
  pub own : item.Left packet port leaving ≡ journal_leaving_item before packet port

-- its decision, just made, is to drop it
pub record IsPacketDroppedHere (before : List Item) (packet : ℕ) : Type 0 where
  pub switch : ℕ
  pub at : IsPacketAt before packet switch
  pub judged : packet_stage_of before packet ≡ Some Judged
  pub decision : Decision
  pub decided : journal_decision_of before packet ≡ Some decision
  pub action : decision.action ≡ action.Drop

abbrev pub gives_fallen_packet_switch : Item → Option (Option ℕ)
gives_fallen_packet_switch (item.Row row step) = Some None
gives_fallen_packet_switch (item.Down switch) = Some (Some switch)
gives_fallen_packet_switch _ = None

-- the switch that went down in the step that is being taken
unfoldable pub packet_fallen_switch : List Item → Option ℕ
packet_fallen_switch journal = unwrap_or (journal_last_given gives_fallen_packet_switch journal) None

-- the packet is at the switch that went down in this very crash
pub record IsPacketLostInCrash (before : List Item) (packet : ℕ) : Type 0 where
  pub switch : ℕ
  pub crashes : journal_present_step before ≡ Some (Crash switch)
  pub fell : packet_fallen_switch before ≡ Some switch
  pub down : IsFalse (is_up before switch)
  pub stands : journal_standing_of before packet ≡ Some switch

pub record IsPacketLostHere (before : List Item) (packet : ℕ) : Type 0 where
  pub travelling : IsTrue (travels_in_journal before packet)
  pub how : (journal_present_step before ≡ Some (Lose packet)) ⊎ IsPacketLostInCrash before packet

-- ---- all items

abbrev pub SendsRightPacketRule : Setting → List Item → Message → Body → Type 0
SendsRightPacketRule setting before message (CacheRule version word rule action) =
    PacketSendsRule setting before message
SendsRightPacketRule setting before message _ = ⊤

-- each item of packets and of cache rules, and each that changes a switch or a link or submits a
-- version, has its cause earlier in the journal
abbrev pub HasPacketItemCause : Setting → List Item → Item → Type 0
HasPacketItemCause setting before (item.Entered packet switch header) =
    PacketIsOfRow before packet switch header × IsTrue (serves before switch)
HasPacketItemCause setting before (item.Closed packet switch) =
    ((header : Header) × PacketIsOfRow before packet switch header) × IsFalse (serves before switch)
HasPacketItemCause setting before (item.Seeking packet version partition route) =
    PacketTakesRoute setting before packet (Seek version partition) route
HasPacketItemCause setting before (item.Exiting packet route) = PacketTakesExit setting before packet route
HasPacketItemCause setting before (item.Rerouted packet route) = PacketTakesDetour setting before packet route
HasPacketItemCause setting before (item.Hopped packet switch) = PacketMovesOver setting before packet switch
HasPacketItemCause setting before (item.FoundDown packet one two) = PacketMeetsDown setting before packet one two
HasPacketItemCause setting before (item.Decided packet version rule action how) =
    IsPacketDecided setting before packet version rule action how
HasPacketItemCause setting before (item.Left packet port leaving) =
    PacketLeavesHere setting before packet port leaving
HasPacketItemCause setting before (item.Dropped packet) = IsPacketDroppedHere before packet
HasPacketItemCause setting before (item.Lost packet) = IsPacketLostHere before packet
HasPacketItemCause setting before (item.Stuck packet switch cause leg down) =
    PacketFindsNoRoute setting before packet switch cause leg down
HasPacketItemCause setting before (item.Sent number message) =
    SendsRightPacketRule setting before message message.body
HasPacketItemCause setting before (item.Down switch) = journal_present_step before ≡ Some (Crash switch)
HasPacketItemCause setting before (item.Booted switch boot) = journal_present_step before ≡ Some (Restart switch)
HasPacketItemCause setting before (item.LinkIs one two up) = IsMachineLinkStep (journal_present_step before) one two up
HasPacketItemCause setting before (item.Submitted file version) = journal_present_step before ≡ Some (Update file)
HasPacketItemCause setting before _ = ⊤
