-- The laws of what journals say: each is ensured by a function of the crate that has no body.
use Rattle.std.specs.Prelude.{[], if◌then◌else◌, ◌++◌, ◌<◌, ◌==◌, ◌↔◌, ◌∷◌, ◌≡◌, ◌≢◌, ◌≤◌, IsTrue, List, None, Some, false, length, map, option_to_list, true, ℕ}
use Rattle.failover.specs.Exports.{IsFailoverTargetIsolated, IsNewestAdvert, IsRoute, first_advert, first_adverts, held_advert, no_failover_links}
use Rattle.five_tuple.specs.declared.header.Header.{Header}
use Rattle.net_file.specs.Exports.{links_of, net_port_owner}
use Rattle.policy_rules.specs.declared.packet.Leg.TheVariants.{Exit}
use Rattle.policy_rules.specs.declared.policy.Action.TheVariants.{Out}
use Rattle.switch_table.specs.Exports.{switch_table_lookup}
use Rattle.journal.specs.declared.item.Item.{Item}
use Rattle.update_machine.specs.Adverts.{journal_advert_known, journal_adverts_known, journal_held_adverts, is_cut_off_in_journal, own_advert, journal_own_advert_sent, journal_own_seq, journal_route_from}
use Rattle.update_machine.specs.Boots.{journal_boot_of, heard, is_up}
use Rattle.update_machine.specs.Caches.{journal_cache_of, machine_lookup_at}
use Rattle.update_machine.specs.Concerns.{NoMachineItemConcerns, machine_item_concerns_calls, machine_item_concerns_controller, machine_item_concerns_known, machine_item_concerns_links, item_concerns_journal_lookups, machine_item_concerns_message, machine_item_concerns_messages, machine_item_concerns_packet, machine_item_concerns_packets, machine_item_concerns_policies, machine_item_concerns_steps, machine_item_concerns_switch, machine_item_concerns_waiting}
use Rattle.update_machine.specs.Handled.{journal_handled_count}
use Rattle.update_machine.specs.Links.{is_link_up_in_journal, serves, journal_message_of}
use Rattle.update_machine.specs.Marks.{acked_stamp, journal_controller_heard, journal_current_mark, has_acked, is_member, is_over, journal_known_boot, journal_opened_at, journal_retired_mark}
use Rattle.update_machine.specs.Messages.{is_deliverable, is_forgotten_in_journal, journal_next_message, next_waiting, was_delivered_in_journal}
use Rattle.update_machine.specs.Moves.{machine_end_items, machine_stuck_on_leg_item}
use Rattle.update_machine.specs.Packets.{journal_decision_of, journal_packet_header, journal_next_packet, journal_standing_of}
use Rattle.update_machine.specs.Quiet.{is_waited_for_in_journal}
use Rattle.update_machine.specs.Sendings.{machine_sendings}
use Rattle.update_machine.specs.Setting.{Setting, journal_version_file, machine_policy_in}
use Rattle.update_machine.specs.SwitchNumbers.{machine_switches_of}
use Rattle.update_machine.specs.Causes.{journal_present_step}
use Rattle.update_machine.specs.Versions.{holds_version, machine_policy_at, journal_stamp_of, journal_tables_at, journal_version_count, journal_next_policy, journal_plan_at}
use Rattle.update_machine.specs.Travels.{journal_ingress_of, journal_leg_of, next_travelling, travels_in_journal}
use Rattle.update_machine.specs.PacketRoutes.{journal_found_down, journal_next_switch, journal_route_in, journal_route_place}
use Rattle.update_machine.specs.LinkMasks.{near, journal_adverts_begun, journal_adverts_heard, journal_links_known}
use Rattle.update_machine.specs.Touched.{machine_touched_by}

-- a journal without items says nothing about the packet
pub record JournalPacketStarts (i : ℕ) : Type 0 where
  pub header : journal_packet_header [] i ≡ None
  pub ingress : journal_ingress_of [] i ≡ None
  pub stands : journal_standing_of [] i ≡ None
  pub travels : travels_in_journal [] i ≡ false
  pub decision : journal_decision_of [] i ≡ None
  pub leg : journal_leg_of [] i ≡ None
  pub route : journal_route_in [] i ≡ []
  pub route_place : journal_route_place [] i ≡ 0
  pub next : journal_next_switch [] i ≡ None
  pub found : journal_found_down [] i ≡ no_failover_links

-- a journal without items says nothing about the message
pub record JournalMessageStarts (n : ℕ) : Type 0 where
  pub message : journal_message_of [] n ≡ None
  pub delivered : was_delivered_in_journal [] n ≡ false
  pub forgotten : is_forgotten_in_journal [] n ≡ false
  pub deliverable : is_deliverable [] n ≡ false

-- what a journal without items says
pub record MachineStartLaws : Type 0 where
  pub boot : (s : ℕ) → journal_boot_of [] s ≡ 1
  pub up : (s : ℕ) → is_up [] s ≡ true
  pub serving : (s : ℕ) → serves [] s ≡ true
  pub heard : (s : ℕ) → heard [] s ≡ []
  pub stamp : (s : ℕ) → journal_stamp_of [] s ≡ 1
  pub versions : (s v : ℕ) → holds_version [] s v ≡ (v == 1)
  pub count : journal_version_count [] ≡ 1
  pub file : (v : ℕ) → journal_version_file [] v ≡ (if v == 1 then Some 1 else None)
  pub known : (s : ℕ) → journal_known_boot [] s ≡ 1
  pub over : (s : ℕ) → is_over [] s ≡ false
  pub member : (s : ℕ) → is_member [] s ≡ true
  pub acked : (s v : ℕ) → has_acked [] s v ≡ (v == 1)
  pub acked_stamp : (s : ℕ) → acked_stamp [] s ≡ 1
  pub current : journal_current_mark [] ≡ 1
  pub retired : journal_retired_mark [] ≡ 0
  pub links : (one other : ℕ) → is_link_up_in_journal [] one other ≡ true
  pub near : (setting : Setting) (s : ℕ) → near setting [] s ≡ links_of setting.net.links s
  pub seq : (setting : Setting) (s : ℕ) → journal_own_seq setting [] s ≡ 1
  pub advert : (setting : Setting) (s : ℕ) →
      own_advert setting [] s ≡ first_advert s (links_of setting.net.links s)
  pub cache : (setting : Setting) (s : ℕ) →
      journal_cache_of setting [] s ≡ record { entries = []; capacity = setting.net.cache }
  pub handled : (s : ℕ) → journal_handled_count [] s ≡ 0
  pub packets : journal_next_packet [] ≡ 1
  pub travelling : next_travelling [] ≡ None
  pub messages : journal_next_message [] ≡ 1
  pub waiting : next_waiting [] ≡ None
  pub sent : machine_sendings [] ≡ []
  pub waited_for : (s : ℕ) → is_waited_for_in_journal [] s ≡ false
  pub step : journal_present_step [] ≡ None
  pub packet : (i : ℕ) → JournalPacketStarts i
  pub message : (n : ℕ) → JournalMessageStarts n
  -- each switch knows the first advert of each one, its own included
  pub adverts : (setting : Setting) (s : ℕ) → s < length setting.net.switches →
      length setting.net.switches ≤ 64 → journal_adverts_known setting [] s
      ≡ first_adverts (map (links_of setting.net.links) (machine_switches_of setting))
      (length setting.net.switches)
  -- about a header it says what the tables of the first version say
  pub lookup : (setting : Setting) (s : ℕ) (header : Header) →
      machine_lookup_at setting [] s header ≡ switch_table_lookup (journal_tables_at setting [] 1 s) header

-- items that don't concern a switch don't change what the journal says about it
pub record JournalSwitchKeeps (setting : Setting) (s : ℕ) (before after : List Item) : Type 0 where
  pub boot : journal_boot_of after s ≡ journal_boot_of before s
  pub up : is_up after s ≡ is_up before s
  pub serving : serves after s ≡ serves before s
  pub heard : heard after s ≡ heard before s
  pub stamp : journal_stamp_of after s ≡ journal_stamp_of before s
  pub versions : (v : ℕ) → holds_version after s v ≡ holds_version before s v
  pub cache : journal_cache_of setting after s ≡ journal_cache_of setting before s

-- those that don't concern a packet don't change what the journal says about it
pub record MachinePacketKeeps (i : ℕ) (before after : List Item) : Type 0 where
  pub header : journal_packet_header after i ≡ journal_packet_header before i
  pub ingress : journal_ingress_of after i ≡ journal_ingress_of before i
  pub stands : journal_standing_of after i ≡ journal_standing_of before i
  pub travels : travels_in_journal after i ≡ travels_in_journal before i
  pub decision : journal_decision_of after i ≡ journal_decision_of before i
  pub leg : journal_leg_of after i ≡ journal_leg_of before i
  pub route : journal_route_in after i ≡ journal_route_in before i
  pub route_place : journal_route_place after i ≡ journal_route_place before i
  pub next : journal_next_switch after i ≡ journal_next_switch before i
  pub found : journal_found_down after i ≡ journal_found_down before i

-- those that don't concern the controller don't change what it knows
pub record JournalControllerKeeps (before after : List Item) : Type 0 where
  pub heard : journal_controller_heard after ≡ journal_controller_heard before
  pub known : (s : ℕ) → journal_known_boot after s ≡ journal_known_boot before s
  pub over : (s : ℕ) → is_over after s ≡ is_over before s
  pub opened : (s : ℕ) → journal_opened_at after s ≡ journal_opened_at before s
  pub member : (s : ℕ) → is_member after s ≡ is_member before s
  pub acked : (s v : ℕ) → has_acked after s v ≡ has_acked before s v
  pub stamp : (s : ℕ) → acked_stamp after s ≡ acked_stamp before s
  pub current : journal_current_mark after ≡ journal_current_mark before
  pub retired : journal_retired_mark after ≡ journal_retired_mark before
  pub count : journal_version_count after ≡ journal_version_count before

-- what doesn't concern links changes neither which of them are usable nor what switches say of them
pub record MachineLinksKeep (setting : Setting) (before after : List Item) : Type 0 where
  pub up : (one other : ℕ) → is_link_up_in_journal after one other ≡ is_link_up_in_journal before one other
  pub near : (s : ℕ) → near setting after s ≡ near setting before s
  pub seq : (s : ℕ) → journal_own_seq setting after s ≡ journal_own_seq setting before s
  pub advert : (s : ℕ) → own_advert setting after s ≡ own_advert setting before s

-- those that concern neither the links nor a switch don't change what it knows about the network
pub record JournalKnownKeeps (setting : Setting) (s : ℕ) (before after : List Item) : Type 0 where
  pub known : journal_adverts_known setting after s ≡ journal_adverts_known setting before s
  pub held : journal_held_adverts setting after s ≡ journal_held_adverts setting before s
  pub links : (down : List ℕ) → journal_links_known setting after s down ≡ journal_links_known setting before s down
  pub route : (targets down : List ℕ) →
      journal_route_from setting after s targets down ≡ journal_route_from setting before s targets down
  pub cut_off : (down : List ℕ) (target : ℕ) →
      is_cut_off_in_journal setting after s down target ≡ is_cut_off_in_journal setting before s down target

-- those that don't concern a message don't change what the journal says about it
pub record MachineMessageKeeps (n : ℕ) (before after : List Item) : Type 0 where
  pub message : journal_message_of after n ≡ journal_message_of before n
  pub delivered : was_delivered_in_journal after n ≡ was_delivered_in_journal before n
  pub forgotten : is_forgotten_in_journal after n ≡ is_forgotten_in_journal before n
  pub deliverable : is_deliverable after n ≡ is_deliverable before n

-- those that concern no message don't change what the journal says about all messages
pub record JournalMessagesKeep (before after : List Item) : Type 0 where
  pub next : journal_next_message after ≡ journal_next_message before
  pub waiting : next_waiting after ≡ next_waiting before
  pub sent : machine_sendings after ≡ machine_sendings before

-- those by which no packet enters or ends don't change what the journal says about all packets
pub record MachineKeepsJournalPackets (before after : List Item) : Type 0 where
  pub next : journal_next_packet after ≡ journal_next_packet before
  pub travelling : next_travelling after ≡ next_travelling before

-- those that submit no policy don't change the versions and their policies
pub record JournalPoliciesKeep (before after : List Item) : Type 0 where
  pub count : journal_version_count after ≡ journal_version_count before
  pub file : (v : ℕ) → journal_version_file after v ≡ journal_version_file before v
  pub rows : (setting : Setting) (v : ℕ) → machine_policy_in setting after v ≡ machine_policy_in setting before v
  pub policy : (setting : Setting) (v : ℕ) → machine_policy_at setting after v ≡ machine_policy_at setting before v
  pub plan : (setting : Setting) (v : ℕ) → journal_plan_at setting after v ≡ journal_plan_at setting before v
  pub touched : (setting : Setting) (v : ℕ) →
      machine_touched_by setting after v ≡ machine_touched_by setting before v
  pub next : (setting : Setting) (file : ℕ) →
      journal_next_policy setting after file ≡ journal_next_policy setting before file

pub record JournalConcernLaws : Type 0 where
  pub switch : (setting : Setting) (s : ℕ) (before items : List Item) →
      NoMachineItemConcerns (machine_item_concerns_switch s) before items → JournalSwitchKeeps setting s before (before ++ items)
  pub lookup : (setting : Setting) (s : ℕ) (header : Header) (before items : List Item) →
      NoMachineItemConcerns (item_concerns_journal_lookups s) before items →
      machine_lookup_at setting (before ++ items) s header ≡ machine_lookup_at setting before s header
  pub calls : (s : ℕ) (before items : List Item) → NoMachineItemConcerns (machine_item_concerns_calls s) before items →
      journal_handled_count (before ++ items) s ≡ journal_handled_count before s
  pub waiting : (s : ℕ) (before items : List Item) →
      NoMachineItemConcerns (machine_item_concerns_waiting s) before items →
      is_waited_for_in_journal (before ++ items) s ≡ is_waited_for_in_journal before s
  pub links : (setting : Setting) (before items : List Item) →
      NoMachineItemConcerns machine_item_concerns_links before items → MachineLinksKeep setting before (before ++ items)
  pub known : (setting : Setting) (s : ℕ) (before items : List Item) →
      NoMachineItemConcerns (machine_item_concerns_known s) before items → JournalKnownKeeps setting s before (before ++ items)
  pub packet : (i : ℕ) (before items : List Item) →
      NoMachineItemConcerns (machine_item_concerns_packet i) before items → MachinePacketKeeps i before (before ++ items)
  pub packets : (before items : List Item) →
      NoMachineItemConcerns machine_item_concerns_packets before items → MachineKeepsJournalPackets before (before ++ items)
  pub message : (n : ℕ) (before items : List Item) →
      NoMachineItemConcerns (machine_item_concerns_message n) before items → MachineMessageKeeps n before (before ++ items)
  pub messages : (before items : List Item) →
      NoMachineItemConcerns machine_item_concerns_messages before items → JournalMessagesKeep before (before ++ items)
  pub policies : (before items : List Item) →
      NoMachineItemConcerns machine_item_concerns_policies before items → JournalPoliciesKeep before (before ++ items)
  pub controller : (before items : List Item) →
      NoMachineItemConcerns machine_item_concerns_controller before items → JournalControllerKeeps before (before ++ items)
  pub step : (before items : List Item) → NoMachineItemConcerns machine_item_concerns_steps before items →
      journal_present_step (before ++ items) ≡ journal_present_step before

-- what a switch knows about the network's links
pub record JournalKnownLinkLaws : Type 0 where
  -- of another switch it knows the newest advert of those that it began with and heard
  pub newest : (setting : Setting) (journal : List Item) (s origin : ℕ) → origin ≢ s → origin < 64 →
      IsNewestAdvert origin
      (option_to_list (held_advert (journal_adverts_begun setting journal s) origin)
      ++ journal_adverts_heard journal s)
      (journal_advert_known setting journal s origin)
  -- of itself what it sent last, if it sent something in its boot
  pub own : (setting : Setting) (journal : List Item) (s : ℕ) → s < 64 →
      journal_advert_known setting journal s s ≡ journal_own_advert_sent (own_advert setting journal s)
  -- its route is a shortest one over the links that it knows, and of those the least, to the first
  -- target that it reaches; there is none exactly if it reaches no target
  pub route : (setting : Setting) (journal : List Item) (s : ℕ) (targets down : List ℕ) →
      IsRoute (journal_links_known setting journal s down) s targets
      (journal_route_from setting journal s targets down)
  -- a target is isolated exactly if it is another switch and no known link ends at it
  pub cut_off : (setting : Setting) (journal : List Item) (s target : ℕ) (down : List ℕ) →
      IsTrue (is_cut_off_in_journal setting journal s down target) ↔
      IsFailoverTargetIsolated (journal_links_known setting journal s down) s target
  -- a packet that is to leave by a port that no switch has is stuck where it was decided
  pub portless : (setting : Setting) (journal : List Item) (i s port : ℕ) → s < 64 →
      net_port_owner setting.net.switches port ≡ None →
      machine_end_items setting i s (Out port) journal ≡ machine_stuck_on_leg_item setting journal i s (Exit port) ∷ []
