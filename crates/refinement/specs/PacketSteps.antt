-- What a switch returns for a packet is what its step writes by the definitions over journals.
use Rattle.std.specs.Prelude.{[], ◌++◌, ◌+◌, ◌<◌, ◌==◌, ◌∷◌, ◌≡◌, ◌≤◌, IsTrue, List, Option, Some, false, length, ℕ}
use Rattle.message_bag.specs.Exports.{Post, new_bag_post, bag_posts_with_delivered, bag_posts_with_forgotten}
use Rattle.update_machine.specs.Exports.{Header, Hop, IsJournalReached, IsMachineSetting, Item, Message, NoMachineItemConcerns, Packet, Ports, Setting, machine_item_concerns_messages, near, journal_next_message, journal_next_packet, piece}
use Rattle.five_tuple.specs.Exports.{IsHeader}
use Rattle.journal.specs.declared.item.Item.TheVariants as item
use Rattle.net_file.specs.Exports.{AreNetPortOwners}
use Rattle.switch_core.specs.Exports.{SwitchAnswer, CanSwitchLookUp, MaySwitchEndLeg, SwitchStandsAtRoutePlace, switch_hop_answer, serves}
use Rattle.switch_core.specs.declared.tunnel_calls.HopEnd.TheVariants as hop
use Rattle.refinement.specs.SwitchOf.{refined_switch_of}
use Rattle.travelling.specs.Travelling.{TravellingFlight}
use Rattle.tunnel.specs.Exports.{here}
use Rattle.world_log.specs.Exports.{log_coming_in, log_entered_flight, log_entered_items, entry, log_hop_flight, log_hop_written}
use Rattle.refinement.specs.Bags.{IsRefinedBagOf}
use Rattle.refinement.specs.Flights.{refined_flight_in}

-- the journal is of steps of the network, and the table of the ports is the network's
pub record IsRefinedJournalOfNet (setting : Setting) (journal : List Item) (ports : Ports) : Type 0 where
  pub sound : IsMachineSetting setting
  pub reached : IsJournalReached setting journal
  pub owners : AreNetPortOwners setting.net.switches ports

-- ---- a packet enters

-- what the switch that the journal describes returns for the next packet
abbrev pub refined_entry_at : Setting → List Item → Ports → ℕ → Header → Option SwitchAnswer
refined_entry_at setting journal ports s header =
    entry (refined_switch_of setting journal s) (near setting journal s) ports (journal_next_packet journal) header

-- the switch's call may be made, its result is what the step writes, and the packet is then where
-- the result leaves it, while all others are where they were
pub record RefinedPacketComes (setting : Setting) (journal : List Item) (row s : ℕ) (header : Header)
    (ports : Ports) : Type 0 where
  pub may : CanSwitchLookUp (refined_switch_of setting journal s)
  pub written : piece setting journal row (Packet s header)
      ≡ item.Row row (Packet s header) ∷ log_entered_items (journal_next_message journal)
      (log_coming_in (journal_next_packet journal) header s) (refined_entry_at setting journal ports s header)
  pub goes : refined_flight_in setting (journal ++ piece setting journal row (Packet s header))
      (journal_next_packet journal) ≡ log_entered_flight (refined_entry_at setting journal ports s header)
  pub others : (i : ℕ) → (i == journal_next_packet journal) ≡ false
      → refined_flight_in setting (journal ++ piece setting journal row (Packet s header)) i
      ≡ refined_flight_in setting journal i

abbrev pub EntriesRefine : Type 0
EntriesRefine = (setting : Setting) (journal : List Item) (row s : ℕ) (header : Header)
    (ports : Ports) → IsRefinedJournalOfNet setting journal ports → s < length setting.net.switches
    → IsHeader header → RefinedPacketComes setting journal row s header ports

-- ---- a packet moves on

-- what a hop requires of the switch where the packet is
pub record RefinedHopMayBeAsked (setting : Setting) (journal : List Item) (t : TravellingFlight) : Type 0 where
  pub there : here t.tunnel < length setting.net.switches
  pub stands : SwitchStandsAtRoutePlace (refined_switch_of setting journal (here t.tunnel)) t.tunnel.route t.tunnel.place
  pub serving : IsTrue (serves (refined_switch_of setting journal (here t.tunnel)))
  pub stamped : CanSwitchLookUp (refined_switch_of setting journal (here t.tunnel))
  pub authority : (switch_hop_answer (refined_switch_of setting journal (here t.tunnel))
      (near setting journal (here t.tunnel)) t.tunnel).end ≡ hop.Arrive
      → MaySwitchEndLeg (refined_switch_of setting journal (here t.tunnel)) t.tunnel.header t.tunnel.leg

-- the hop of a packet on its way: the call of the switch where it is may be made, and its result is
-- what the step writes. The packet is then where the result leaves it, all others where they were
pub record RefinedHopGoesOn (setting : Setting) (journal : List Item) (row i : ℕ) (t : TravellingFlight)
    (ports : Ports) : Type 0 where
  pub may : RefinedHopMayBeAsked setting journal t
  pub written : piece setting journal row (Hop i)
      ≡ item.Row row (Hop i) ∷ log_hop_written (journal_next_message journal)
      (refined_switch_of setting journal (here t.tunnel)) (near setting journal (here t.tunnel)) ports t
  pub goes : refined_flight_in setting (journal ++ piece setting journal row (Hop i)) i
      ≡ log_hop_flight (refined_switch_of setting journal (here t.tunnel))
      (near setting journal (here t.tunnel)) ports t
  pub others : (k : ℕ) → (i == k) ≡ false
      → refined_flight_in setting (journal ++ piece setting journal row (Hop i)) k
      ≡ refined_flight_in setting journal k

abbrev pub HopsRefine : Type 0
HopsRefine = (setting : Setting) (journal : List Item) (row i : ℕ) (t : TravellingFlight) (ports : Ports)
    → IsRefinedJournalOfNet setting journal ports → refined_flight_in setting journal i ≡ Some t
    → RefinedHopGoesOn setting journal row i t ports

-- ---- messages

-- the posts stay those of the journal when a message is sent, delivered or forgotten; no other
-- item changes them
pub record BagsRefine : Type 0 where
  pub begun : IsRefinedBagOf [] []
  pub sent : (before : List Item) (posts : List Post) (message : Message) → IsRefinedBagOf before posts
      → IsRefinedBagOf (before ++ item.Sent (length posts + 1) message ∷ [])
      (posts ++ new_bag_post message ∷ [])
  pub delivered : (before : List Item) (posts : List Post) (n : ℕ) → n ≤ length posts
      → IsRefinedBagOf before posts → IsRefinedBagOf (before ++ item.Delivered n ∷ []) (bag_posts_with_delivered posts n)
  pub forgotten : (before : List Item) (posts : List Post) (n : ℕ) → n ≤ length posts
      → IsRefinedBagOf before posts → IsRefinedBagOf (before ++ item.Forgotten n ∷ []) (bag_posts_with_forgotten posts n)
  pub others : (before items : List Item) (posts : List Post)
      → NoMachineItemConcerns machine_item_concerns_messages before items → IsRefinedBagOf before posts
      → IsRefinedBagOf (before ++ items) posts
