-- First tier. What must be in a journal before ends, failures and updates. The notion is our own.
use Rattle.std.specs.Prelude.{[], ◌&&◌, ◌++◌, ◌==◌, ◌||◌, ◌∷◌, ◌≡◌, ◌⊎◌, All, Bool, Contains, IsFalse, IsTrue, List, None, Option, Some, false, not, option_to_list, true, ℕ, ⊤}
use Rattle.base.specs.Exports.{list_any}
use Rattle.five_tuple.specs.declared.header.Header.{Header}
use Rattle.net_file.specs.Exports.{are_linked_in_net, net_port_owner}
use Rattle.policy_rules.specs.Exports.{HostedPolicyPartition, is_in_policy_partition}
use Rattle.policy_rules.specs.declared.packet.Leaving.{Leaving}
use Rattle.policy_rules.specs.declared.packet.Leg.{Leg}
use Rattle.policy_rules.specs.declared.packet.Leg.TheVariants.{Seek, Exit}
use Rattle.policy_rules.specs.declared.policy.Action.TheVariants.{Out}
use Rattle.journal.specs.declared.item.Item.{Item}
use Rattle.journal.specs.declared.item.Item.TheVariants as item
use Rattle.steps.specs.declared.step.Step.TheVariants.{Crash, LinkDown, LinkUp, Lose, Restart, Update}
use Rattle.steps.specs.declared.step.Step.{Step}
use Rattle.update_machine.specs.Folds.{journal_last_given}
use Rattle.update_machine.specs.Links.{journal_can_use, journal_knows_link, serves}
use Rattle.update_machine.specs.Packets.{Decision, journal_decision_of, journal_packet_header, journal_standing_of}
use Rattle.update_machine.specs.Setting.{Setting, IsMachineSettingPlanOf}

abbrev pub machine_item_gives_step : Item → Option Step
machine_item_gives_step (item.Row row step) = Some step
machine_item_gives_step _ = None

-- the step that is being taken
unfoldable pub journal_present_step : List Item → Option Step
journal_present_step journal = journal_last_given machine_item_gives_step journal

-- a packet leaves where it is, by a port of that switch, with its own header, version and rule
pub record MachineLeavesRightly (setting : Setting) (before : List Item) (packet port : ℕ)
    (leaving : Leaving) : Type 0 where
  pub switch : ℕ
  pub stands : journal_standing_of before packet ≡ Some switch
  pub has_port : net_port_owner setting.net.switches port ≡ Some switch
  pub number : leaving.packet ≡ packet
  pub header : journal_packet_header before packet ≡ Some leaving.header
  pub decided : journal_decision_of before packet
      ≡ Some (record { version = leaving.version; rule = leaving.rule; action = Out port })

-- a packet is lost by its own row, or with the switch where it is
pub record IsLostWithMachineSwitch (before : List Item) (packet : ℕ) : Type 0 where
  pub switch : ℕ
  pub crashes : journal_present_step before ≡ Some (Crash switch)
  pub stands : journal_standing_of before packet ≡ Some switch

abbrev pub MachineLosesRightly : List Item → ℕ → Type 0
MachineLosesRightly before packet = (journal_present_step before ≡ Some (Lose packet)) ⊎ IsLostWithMachineSwitch before packet

-- a packet finds a link of the network down, from where it is: that switch can't use it
pub record MachineFindsDown (setting : Setting) (before : List Item) (packet one two : ℕ) : Type 0 where
  pub stands : journal_standing_of before packet ≡ Some one
  pub linked : IsTrue (are_linked_in_net setting.net.links one two)
  pub unusable : IsFalse (journal_can_use setting before one two)

-- the item says that this packet found the link of these switches down
abbrev pub machine_item_finds_down : ℕ → ℕ → ℕ → Item → Bool
machine_item_finds_down i one two (item.FoundDown packet from to) =
    packet == i && ((from == one && to == two) || (from == two && to == one))
machine_item_finds_down i one two _ = false

-- a switch knows the link, and the packet didn't find it down
abbrev pub is_journal_link_open : Setting → List Item → ℕ → ℕ → ℕ → ℕ → Bool
is_journal_link_open setting before packet s one two =
    journal_knows_link setting before s one two && not (list_any (machine_item_finds_down packet one two) before)

-- the switches after the first one are each joined to the one before it, and end at the target
abbrev pub MachineWalkLeads : (ℕ → ℕ → Bool) → ℕ → List ℕ → ℕ → Type 0
MachineWalkLeads joined at [] target = at ≡ target
MachineWalkLeads joined at (next ∷ rest) target = IsTrue (joined at next) × MachineWalkLeads joined next rest target

-- these are the targets of the packet's leg: while it is undecided those of the partition that has
-- its header, in the plan of the leg's version; then the switch of the port of its decision
abbrev pub AreMachineLegTargets : Setting → List Item → ℕ → Leg → List ℕ → Type 0
AreMachineLegTargets setting before packet (Seek version partition) targets =
    (journal_decision_of before packet ≡ None) × (header : Header) × (journal_packet_header before packet ≡ Some header)
    × (plan : List HostedPolicyPartition) × IsMachineSettingPlanOf setting before version plan
    × (hosted : HostedPolicyPartition) × Contains plan hosted × IsTrue (is_in_policy_partition header hosted.0)
    × (hosted.0.number ≡ partition) × (hosted.1 ≡ targets)
AreMachineLegTargets setting before packet (Exit port) targets =
    (decision : Decision) × (journal_decision_of before packet ≡ Some decision)
    × (decision.action ≡ Out port) × (option_to_list (net_port_owner setting.net.switches port) ≡ targets)

-- a packet is stuck where it is, at a switch that serves: over the links that the switch knows,
-- except those that the packet found down, no walk leads to any target of its leg
pub record IsMachinePacketStuckRightly (setting : Setting) (before : List Item) (packet switch : ℕ) (leg : Leg)
    : Type 0 where
  pub stands : journal_standing_of before packet ≡ Some switch
  pub serving : IsTrue (serves before switch)
  pub targets : List ℕ
  pub own_leg : AreMachineLegTargets setting before packet leg targets
  pub no_path : All (λ target. (path : List ℕ)
      → ¬ MachineWalkLeads (is_journal_link_open setting before packet switch) switch path target) targets

-- a link comes back or fails by its own row, which names its ends in either order
abbrev pub IsMachineLinkStep : Option Step → ℕ → ℕ → Bool → Type 0
IsMachineLinkStep step one two true = (step ≡ Some (LinkUp one two)) ⊎ (step ≡ Some (LinkUp two one))
IsMachineLinkStep step one two false = (step ≡ Some (LinkDown one two)) ⊎ (step ≡ Some (LinkDown two one))

-- ends, links found down, failures, boots and submitted versions have their causes before them
abbrev pub HasMachineCause : Setting → List Item → Item → Type 0
HasMachineCause setting before (item.Left packet port leaving) =
    MachineLeavesRightly setting before packet port leaving
HasMachineCause setting before (item.Lost packet) = MachineLosesRightly before packet
HasMachineCause setting before (item.FoundDown packet one two) = MachineFindsDown setting before packet one two
HasMachineCause setting before (item.Stuck packet switch cause leg down) =
    IsMachinePacketStuckRightly setting before packet switch leg
HasMachineCause setting before (item.Down switch) = journal_present_step before ≡ Some (Crash switch)
HasMachineCause setting before (item.Booted switch boot) =
    (journal_present_step before ≡ Some (Restart switch)) × IsFalse (serves before switch)
HasMachineCause setting before (item.LinkIs one two up) = IsMachineLinkStep (journal_present_step before) one two up
HasMachineCause setting before (item.Submitted file version) = journal_present_step before ≡ Some (Update file)
HasMachineCause setting before _ = ⊤

-- after this journal, each item has its cause in what comes before it: for any table of causes
abbrev pub JournalItemsHaveCauses : (List Item → Item → Type 0) → List Item → List Item → Type 0
JournalItemsHaveCauses cause before [] = ⊤
JournalItemsHaveCauses cause before (item ∷ items) =
    cause before item × JournalItemsHaveCauses cause (before ++ item ∷ []) items
