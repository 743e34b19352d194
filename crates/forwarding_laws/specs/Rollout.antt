-- If no switch crashes and no link fails, the network drops no packet: however many updates run,
-- and however messages are lost, repeated or reordered. A packet ends by its decision, is lost by
-- its own row, or is stuck, cut off from its targets. That an update drops none is a requirement
-- of Reitblatt, Foster, Rexford, Schlesinger and Walker, "Abstractions for Network Update".
use Rattle.std.specs.Prelude.{[], ◌++◌, ◌∷◌, ◌≡◌, ◌≢◌, All, Bool, Contains, IsFalse, List, Some, false, true, ℕ, ⊤}
use Rattle.update_machine.specs.Exports.{AreMachineLegTargets, Cause, Crash, Decision, Drop, Event, Header, Item, MachineWalkLeads, MachineLeavesRightly, Leg, LinkDown, Lose, Net, One, Setting, Step, journal_decision_of, journal_present_step, journal_standing_of}
use Rattle.journal.specs.declared.item.Item.TheVariants as item
use Rattle.net_file.specs.Exports.{are_linked_in_net}
use Rattle.steps.specs.Exports.{StepSwitchExists}

-- a row that crashes a switch or fails a link
abbrev pub rollout_step_fails_something : Step → Bool
rollout_step_fails_something (Crash s) = true
rollout_step_fails_something (LinkDown one two) = true
rollout_step_fails_something _ = false

abbrev pub RolloutFailsNothing : Event → Type 0
RolloutFailsNothing (One step) = IsFalse (rollout_step_fails_something step)
RolloutFailsNothing _ = ⊤

-- no row of the schedule crashes a switch or fails a link
abbrev pub NothingFailsInRollout : List Event → Type 0
NothingFailsInRollout events = All RolloutFailsNothing events

-- the links of the network lead from the switch to none of the targets
abbrev pub AreForwardingTargetsCutOff : Net → ℕ → List ℕ → Type 0
AreForwardingTargetsCutOff net switch targets = All (λ target. (path : List ℕ)
    → ¬ MachineWalkLeads (are_linked_in_net net.links) switch path target) targets

-- a packet is stuck where it is: its leg has targets, and the links of the network lead from there
-- to none of them
pub record IsForwardingStuckCutOff (setting : Setting) (before : List Item) (packet switch : ℕ) (leg : Leg)
    : Type 0 where
  pub stands : journal_standing_of before packet ≡ Some switch
  pub targets : List ℕ
  pub own_leg : AreMachineLegTargets setting before packet leg targets
  pub has_targets : targets ≢ []
  pub cut_off : AreForwardingTargetsCutOff setting.net switch targets

-- a packet is stuck only if it is cut off, and lost only by its own row; none finds a link down;
-- and no switch is closed to one
abbrev pub ForwardingDropsNothing : Setting → List Item → Item → Type 0
ForwardingDropsNothing setting before (item.Stuck packet switch cause leg down) =
    IsForwardingStuckCutOff setting before packet switch leg
ForwardingDropsNothing setting before (item.Lost packet) = journal_present_step before ≡ Some (Lose packet)
ForwardingDropsNothing setting before (item.FoundDown packet one two) = ⊥
ForwardingDropsNothing setting before (item.Closed packet switch) = ⊥
ForwardingDropsNothing setting before _ = ⊤

-- ---- connected networks

-- the links of the network lead from each switch to each other switch
abbrev pub IsConnectedForwardingNetwork : Net → Type 0
IsConnectedForwardingNetwork net = (one other : ℕ) → StepSwitchExists net one → StepSwitchExists net other
    → (path : List ℕ) × MachineWalkLeads (are_linked_in_net net.links) one path other

-- no packet is stuck
abbrev pub NoneIsStuck : List Item → Type 0
NoneIsStuck journal = (packet switch : ℕ) (cause : Cause) (leg : Leg) (down : List ℕ)
    → ¬ Contains journal (item.Stuck packet switch cause leg down)

-- ---- the whole account

-- the packet was decided, and dropped by its decision
pub record ForwardedIsDroppedRightly (before : List Item) (packet : ℕ) : Type 0 where
  pub decision : Decision
  pub decided : journal_decision_of before packet ≡ Some decision
  pub drops : decision.action ≡ Drop

-- how a packet ends that isn't cut off: by its decision it is dropped, or leaves by its decision's
-- port; or it is lost by its own row
abbrev pub RolloutEndsRightly : Setting → ℕ → List Item → Item → Type 0
RolloutEndsRightly setting packet before (item.Dropped i) = (i ≡ packet) × ForwardedIsDroppedRightly before packet
RolloutEndsRightly setting packet before (item.Left i port leaving) =
    (i ≡ packet) × MachineLeavesRightly setting before packet port leaving
RolloutEndsRightly setting packet before (item.Lost i) =
    (i ≡ packet) × (journal_present_step before ≡ Some (Lose packet))
RolloutEndsRightly setting packet before _ = ⊥

-- or it is stuck, cut off from its targets
abbrev pub RolloutEndsOrIsCutOff : Setting → ℕ → List Item → Item → Type 0
RolloutEndsOrIsCutOff setting packet before (item.Stuck i switch cause leg down) =
    (i ≡ packet) × IsForwardingStuckCutOff setting before packet switch leg
RolloutEndsOrIsCutOff setting packet before end = RolloutEndsRightly setting packet before end

-- the journal has an item for which `is` is true after the items before it
pub record RolloutHasItem (is : List Item → Item → Type 0) (journal : List Item) : Type 0 where
  pub before : List Item
  pub found : Item
  pub rest : List Item
  pub stands : journal ≡ before ++ found ∷ rest
  pub own : is before found

-- each packet that entered ended rightly
abbrev pub RolloutAccountsForAll : Setting → List Item → Type 0
RolloutAccountsForAll setting journal = (packet switch : ℕ) (header : Header)
    → Contains journal (item.Entered packet switch header)
    → RolloutHasItem (RolloutEndsRightly setting packet) journal

-- each packet that entered ended rightly, or is stuck, cut off from its targets
abbrev pub RolloutAccountedOrCutOff : Setting → List Item → Type 0
RolloutAccountedOrCutOff setting journal = (packet switch : ℕ) (header : Header)
    → Contains journal (item.Entered packet switch header)
    → RolloutHasItem (RolloutEndsOrIsCutOff setting packet) journal
