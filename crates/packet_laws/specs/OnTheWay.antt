-- What is true on the way: at each moment, within a step too; and after each step.
use Rattle.std.specs.Prelude.{[], ◌∷◌, ◌≤◌, List, drop, take, ℕ, ⊤}
use Rattle.update_machine.specs.Exports.{AreMachineMarksSettled, HasMachineCause, JournalItemsHaveCauses, IsMachineRun, Item, Setting}
use Rattle.journal.specs.declared.item.Item.TheVariants as item
use Rattle.packet_laws.specs.Hops.{packet_detour_count, packet_exit_count, packet_hops_taken, most_packet_hops, most_packet_route_switches, packet_routes_taken, packet_search_count}
use Rattle.packet_laws.specs.Routes.{packet_route_hops, most_packet_routes}
use Rattle.packet_laws.specs.StrongCauses.{PacketStrongCause}
use Rattle.packet_laws.specs.Travelling.{PacketsTravel}
use Rattle.packet_laws.specs.Whole.{PacketLawsKeepVersionsWhole}

-- the packet took at most 64 routes to authorities, one to its port and 256 around links; and,
-- while it travelled, at most 64 hops on its last route, and 20,544 in all
pub record PacketTakesFewHops (journal : List Item) (i : ℕ) : Type 0 where
  pub searches : packet_search_count journal i ≤ 64
  pub exits : packet_exit_count journal i ≤ 1
  pub detours : packet_detour_count journal i ≤ 256
  pub routes : packet_routes_taken journal i ≤ most_packet_routes
  pub on_route : packet_route_hops journal i ≤ most_packet_route_switches
  pub hops : packet_hops_taken journal i ≤ most_packet_hops

-- the journal, which may end within a step, is a run of the machine; the ends of packets have their
-- causes, all items their strong ones; versions are whole; and packets took few routes and hops
pub record PacketLawsHoldSoFar (setting : Setting) (journal : List Item) : Type 0 where
  pub run : IsMachineRun setting journal
  pub causes : JournalItemsHaveCauses (HasMachineCause setting) [] journal
  pub strong : JournalItemsHaveCauses (PacketStrongCause setting) [] journal
  pub versions : PacketLawsKeepVersionsWhole setting journal
  pub few : (i : ℕ) → PacketTakesFewHops journal i

-- after a step each packet that travels is on its way to a target of its own version, or to its
-- port, and the marks are settled
pub record ArePacketsKeptBehind (setting : Setting) (journal : List Item) : Type 0 where
  pub packets : PacketsTravel setting journal
  pub settled : AreMachineMarksSettled setting journal

-- there are no items, or the first one is a step's row
abbrev pub BeginPacketLawStep : List Item → Type 0
BeginPacketLawStep [] = ⊤
BeginPacketLawStep (item.Row row step ∷ items) = ⊤
BeginPacketLawStep _ = ⊥

-- a step ends with the first n items of the journal: the next one begins a step, or there is none
abbrev pub EndsPacketLawStep : List Item → ℕ → Type 0
EndsPacketLawStep journal n = BeginPacketLawStep (drop n journal)

-- this was true on the way to this journal: at each moment, and after each step
pub record PacketLawsHeldThroughout (setting : Setting) (journal : List Item) : Type 0 where
  pub so_far : (n : ℕ) → PacketLawsHoldSoFar setting (take n journal)
  pub kept : (n : ℕ) → EndsPacketLawStep journal n → ArePacketsKeptBehind setting (take n journal)
