-- A network forwards: a packet that enters, and is drained, is decided by the newest version and
-- is dropped or leaves by its port, or it is stuck if usable links lead to no target. Packets are
-- those of Yu, Rexford, Freedman and Wang, "Scalable Flow-Based Networking with DIFANE", SIGCOMM
-- 2010; that they end like this is our own notion.
use Rattle.std.specs.Prelude.{◌++◌, ◌≡◌, ◌⊎◌, All, Contains, IsTrue, List, None, Option, Some, find, option_map, ℕ}
use Rattle.five_tuple.specs.Exports.{IsHeader}
use Rattle.update_machine.specs.Exports.{Action, AreAllMachineEventSteps, Cause, Exit, Header, Item, Leaving, Leg, Packet, Seek, Setting, MachineStepOfRow, journal_after_steps, journal_decision_of, is_up, journal_next_hop, journal_next_packet, piece, journal_plan_at, machine_policy_at, journal_leg_targets, journal_version_count}
use Rattle.net_file.specs.Exports.{net_port_owner}
use Rattle.policy_rules.specs.Exports.{IsFirstPolicyMatch, is_in_policy_partition}
use Rattle.policy_rules.specs.declared.policy.Action.TheVariants as action
use Rattle.journal.specs.declared.item.Item.TheVariants as item
use Rattle.steps.specs.Exports.{StepSwitchExists}
use Rattle.convergence_laws.specs.Exports.{ConvergenceReaches}

-- the packet got, by the newest version of `before`, this header's first match, with this action
pub record IsForwardingDecidedByNewest (setting : Setting) (before after : List Item) (packet : ℕ)
    (header : Header) (act : Action) : Type 0 where
  pub rule : Option ℕ
  pub decided : journal_decision_of after packet
      ≡ Some (record { version = journal_version_count before; rule = rule; action = act })
  pub first_match : IsFirstPolicyMatch (machine_policy_at setting before (journal_version_count before)) header
      (record { rule = rule; action = act })

-- the packet is stuck on this leg, and usable links led from where it entered to no target
pub record IsForwardingStuckApart (setting : Setting) (before after : List Item) (packet ingress : ℕ)
    (leg : Leg) : Type 0 where
  pub switch : ℕ
  pub cause : Cause
  pub down : List ℕ
  pub stuck : Contains after (item.Stuck packet switch cause leg down)
  pub apart : All (λ target. ¬ ConvergenceReaches setting before ingress target)
      (journal_leg_targets setting before leg)

-- the packet leaves by the port, and usable links led from where it entered to the port's switch
pub record ForwardedLeavesThere (setting : Setting) (before after : List Item) (packet ingress port : ℕ)
    : Type 0 where
  pub leaving : Leaving
  pub left : Contains after (item.Left packet port leaving)
  pub home : ℕ
  pub has_port : net_port_owner setting.net.switches port ≡ Some home
  pub reached : ConvergenceReaches setting before ingress home

-- a packet with this action is dropped; or it leaves by its port, or is stuck on its way there
abbrev pub ForwardedEndsBy : Setting → List Item → List Item → ℕ → ℕ → Action → Type 0
ForwardedEndsBy setting before after packet ingress action.Drop = Contains after (item.Dropped packet)
ForwardedEndsBy setting before after packet ingress (action.Out port) =
    ForwardedLeavesThere setting before after packet ingress port
    ⊎ IsForwardingStuckApart setting before after packet ingress (Exit port)

pub record IsForwardedByNewest (setting : Setting) (before after : List Item) (packet ingress : ℕ)
    (header : Header) : Type 0 where
  pub act : Action
  pub decided : IsForwardingDecidedByNewest setting before after packet header act
  pub ends : ForwardedEndsBy setting before after packet ingress act

-- undecided, the packet is stuck on its way to the partition of the newest version's plan whose
-- region holds its header
pub record ForwardingFindsNoTarget (setting : Setting) (before after : List Item) (packet ingress : ℕ)
    (header : Header) : Type 0 where
  pub undecided : journal_decision_of after packet ≡ None
  pub partition : ℕ
  pub own : option_map (λ hosted. hosted.0.number)
      (find (λ hosted. is_in_policy_partition header hosted.0) (journal_plan_at setting before (journal_version_count before)))
      ≡ Some partition
  pub stuck : IsForwardingStuckApart setting before after packet ingress
      (Seek (journal_version_count before) partition)

-- this is true of each packet that enters right after the journal at a switch that is up, once a
-- drain has taken all its hops
abbrev pub NetworkForwards : Setting → List Item → Type 0
NetworkForwards setting before = (row later ingress : ℕ) (header : Header) (hops : List MachineStepOfRow)
    → StepSwitchExists setting.net ingress → IsHeader header → IsTrue (is_up before ingress)
    → (let entered = before ++ piece setting before row (Packet ingress header) in
    AreAllMachineEventSteps setting journal_next_hop later entered hops
    → (let after = journal_after_steps setting entered hops in
    IsForwardedByNewest setting before after (journal_next_packet before) ingress header
    ⊎ ForwardingFindsNoTarget setting before after (journal_next_packet before) ingress header))
