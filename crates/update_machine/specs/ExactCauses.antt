-- The causes of what packets find, as the functions that compute their routes say.
use Rattle.std.specs.Prelude.{◌≡◌, All, IsFalse, List, Some, find, option_map, ℕ}
use Rattle.failover.specs.Exports.{IsFailoverReachable}
use Rattle.base.specs.Exports.{has}
use Rattle.policy_rules.specs.Exports.{is_in_policy_partition}
use Rattle.policy_rules.specs.declared.packet.Leg.{Leg}
use Rattle.policy_rules.specs.declared.packet.Leg.TheVariants.{Seek, Exit}
use Rattle.policy_rules.specs.declared.policy.Action.TheVariants.{Out}
use Rattle.five_tuple.specs.declared.header.Header.{Header}
use Rattle.journal.specs.declared.item.Item.{Item}
use Rattle.update_machine.specs.LinkMasks.{near, journal_links_known}
use Rattle.update_machine.specs.Packets.{Decision, journal_decision_of, journal_packet_header, journal_standing_of}
use Rattle.update_machine.specs.Setting.{Setting}
use Rattle.update_machine.specs.Versions.{journal_plan_at}
use Rattle.update_machine.specs.PacketRoutes.{journal_found_down, journal_next_switch, journal_leg_targets}

-- the link from where the packet is to the next switch of its route exists, and isn't usable
pub record MachineFindsNextDown (setting : Setting) (before : List Item) (packet one two : ℕ) : Type 0 where
  pub stands : journal_standing_of before packet ≡ Some one
  pub next : journal_next_switch before packet ≡ Some two
  pub unusable : IsFalse (has (near setting before one) two)

-- the leg is to the partition that holds the packet's header, or to the port of its decision
abbrev pub MachineLegSeeksOwn : Setting → List Item → ℕ → Leg → Type 0
MachineLegSeeksOwn setting before packet (Seek version partition) =
    (header : Header) × (journal_packet_header before packet ≡ Some header)
    × (option_map (λ hosted. hosted.0.number)
    (find (λ hosted. is_in_policy_partition header hosted.0) (journal_plan_at setting before version)) ≡ Some partition)
MachineLegSeeksOwn setting before packet (Exit port) =
    (decision : Decision) × (journal_decision_of before packet ≡ Some decision)
    × (decision.action ≡ Out port)

-- a packet is stuck where it is: over the links that its switch knows, except those that the
-- packet found down, no path leads to any target of its leg
pub record MachineFindsNoPath (setting : Setting) (before : List Item) (packet switch : ℕ) (leg : Leg)
    : Type 0 where
  pub stands : journal_standing_of before packet ≡ Some switch
  pub own_leg : MachineLegSeeksOwn setting before packet leg
  pub no_path : (let links = journal_links_known setting before switch (journal_found_down before packet) in
      All (λ target. ¬ IsFailoverReachable links switch target) (journal_leg_targets setting before leg))
