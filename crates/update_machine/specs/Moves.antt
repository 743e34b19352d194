-- What becomes of a packet at a switch: lookups, decisions, tunnels and exits, as in Yu, Rexford,
-- Freedman and Wang, "Scalable Flow-Based Networking with DIFANE", SIGCOMM 2010. Each block of
-- items is read on the journal before it.
use Rattle.std.specs.Prelude.{[], if◌then◌else◌, ◌++◌, ◌==◌, ◌∷◌, List, None, Option, Some, false, option_and_then, option_map, position, slice_get, true, unwrap_or, ℕ}
use Rattle.base.specs.Exports.{has, list_all}
use Rattle.cache_maker.specs.Independent.{widen}
use Rattle.ctrl_msg.specs.declared.message.Body.TheVariants.{CacheRule}
use Rattle.ctrl_msg.specs.declared.message.Message.{Message}
use Rattle.ctrl_msg.specs.declared.message.Place.TheVariants as receiver
use Rattle.five_tuple.specs.Exports.{header_of, header_number_of}
use Rattle.five_tuple.specs.declared.header.Header.{Header}
use Rattle.policy_rules.specs.Exports.{is_held_by_policy_rule}
use Rattle.policy_rules.specs.declared.packet.Cause.{Cause}
use Rattle.policy_rules.specs.declared.packet.Cause.TheVariants.{NoAuthority, NoRoute}
use Rattle.policy_rules.specs.declared.packet.How.TheVariants as how
use Rattle.policy_rules.specs.declared.packet.Leg.{Leg}
use Rattle.policy_rules.specs.declared.packet.Leg.TheVariants.{Seek, Exit}
use Rattle.policy_rules.specs.declared.policy.Action.{Action}
use Rattle.policy_rules.specs.declared.policy.Action.TheVariants as action
use Rattle.policy_rules.specs.declared.rules.Partition.{Partition}
use Rattle.policy_rules.specs.declared.rules.Rule.{Rule}
use Rattle.switch_table.specs.Exports.{switch_table_part_of}
use Rattle.switch_table.specs.declared.search.Found.{Found}
use Rattle.switch_table.specs.declared.search.Found.TheVariants as found
use Rattle.journal.specs.declared.item.Item.{Item}
use Rattle.journal.specs.declared.item.Item.TheVariants as item
use Rattle.update_machine.specs.Adverts.{is_cut_off_in_journal, journal_route_from}
use Rattle.update_machine.specs.Caches.{machine_lookup_at}
use Rattle.update_machine.specs.LinkMasks.{near}
use Rattle.update_machine.specs.Messages.{machine_send_items}
use Rattle.update_machine.specs.Packets.{journal_decision_of, journal_packet_header}
use Rattle.update_machine.specs.Setting.{Setting}
use Rattle.update_machine.specs.Versions.{holds_version, journal_stamp_of, journal_plan_at}
use Rattle.update_machine.specs.Travels.{journal_ingress_of, is_at_machine_switch, journal_leg_of}
use Rattle.update_machine.specs.PacketRoutes.{journal_found_down, journal_next_switch, owner, journal_leg_targets}

-- ---- blocks

-- these items, and what follows a journal with them at its end
abbrev pub journal_items_then : List Item → (List Item → List Item) → List Item → List Item
journal_items_then items rest journal = items ++ rest (journal ++ items)

-- blocks one after another, each read on the journal with those before it
abbrev pub machine_blocks_in_turn : List (List Item → List Item) → List Item → List Item
machine_blocks_in_turn [] journal = []
machine_blocks_in_turn (block ∷ blocks) journal = journal_items_then (block journal) (machine_blocks_in_turn blocks) journal

-- ---- legs

-- a packet that finds no route is stuck without an authority exactly if it seeks one and no
-- known link ends at any target
abbrev pub journal_stuck_cause_at : Setting → List Item → ℕ → List ℕ → Leg → Cause
journal_stuck_cause_at setting journal s down (Seek version partition) =
    if list_all (is_cut_off_in_journal setting journal s down)
    (journal_leg_targets setting journal (Seek version partition))
    then NoAuthority else NoRoute
journal_stuck_cause_at setting journal s down (Exit port) = NoRoute

-- the packet is stuck at the switch on this leg
abbrev pub machine_stuck_on_leg_item : Setting → List Item → ℕ → ℕ → Leg → Item
machine_stuck_on_leg_item setting journal i s leg =
    item.Stuck i s (journal_stuck_cause_at setting journal s (journal_found_down journal i) leg) leg
    (journal_found_down journal i)

-- the route from the switch to the leg's targets, without the links that the packet found down
abbrev pub journal_packet_route : Setting → List Item → ℕ → ℕ → Leg → Option (List ℕ)
journal_packet_route setting journal i s leg =
    journal_route_from setting journal s (journal_leg_targets setting journal leg) (journal_found_down journal i)

abbrev pub machine_takes_route : ℕ → Leg → List ℕ → Item
machine_takes_route i (Seek version partition) route = item.Seeking i version partition route
machine_takes_route i (Exit port) route = item.Exiting i route

-- the packet takes a leg from the switch, or is stuck there
unfoldable pub machine_leg_items : Setting → List Item → ℕ → ℕ → Leg → List Item
machine_leg_items setting journal i s leg = elim (journal_packet_route setting journal i s leg) [
  | None ↦ machine_stuck_on_leg_item setting journal i s leg ∷ []
  | Some route ↦ machine_takes_route i leg route ∷ []
]

-- ---- decisions

-- the packet's header
abbrev pub journal_packet_header_at : List Item → ℕ → Header
journal_packet_header_at journal i =
    unwrap_or (journal_packet_header journal i)
    (header_of (record { src = 0; dst = 0; sport = 0; dport = 0; proto = 0 }))

-- the packet leaves with its header, version and rule
abbrev pub journal_leaving_item : List Item → ℕ → ℕ → Item
journal_leaving_item journal i port = item.Left i port (record {
  packet = i;
  header = journal_packet_header_at journal i;
  version = unwrap_or (option_map (λ decision. decision.version) (journal_decision_of journal i)) 0;
  rule = unwrap_or (option_map (λ decision. decision.rule) (journal_decision_of journal i)) None;
})

-- a packet with this action is dropped, leaves by a port of the switch, or is sent to another
unfoldable pub machine_end_items : Setting → ℕ → ℕ → Action → List Item → List Item
machine_end_items setting i s action.Drop journal = item.Dropped i ∷ []
machine_end_items setting i s (action.Out port) journal = elim (owner setting port == s) [
  | true ↦ journal_leaving_item journal i port ∷ []
  | false ↦ machine_leg_items setting journal i s (Exit port)
]

-- a rule of a partition of some version, by its place among the partition's rules
pub record MachineAuthorityRule : Type 0 where
  pub version : ℕ
  pub part : Partition
  pub place : ℕ
  pub rule : Rule

-- the rule at a place of a partition of the version's plan, if there is one
abbrev pub journal_authority_rule : Setting → List Item → ℕ → ℕ → ℕ → Option MachineAuthorityRule
journal_authority_rule setting journal version partition place =
    elim (slice_get (journal_plan_at setting journal version) partition) [
      | None ↦ None
      | Some hosted ↦ option_map
          (λ rule. record { version = version; part = switch_table_part_of hosted; place = place; rule = rule })
          (slice_get hosted.0.rules place)
    ]

-- the place of the first rule of the partition that holds the header
abbrev pub machine_first_rule_place : Setting → List Item → ℕ → ℕ → Header → ℕ
machine_first_rule_place setting journal version partition header =
    unwrap_or (option_and_then (λ hosted. position (is_held_by_policy_rule (header_number_of header)) hosted.0.rules)
    (slice_get (journal_plan_at setting journal version) partition)) 0

-- the cache rule by which the ingress decides headers as this rule does
abbrev pub machine_cache_rule : MachineAuthorityRule → ℕ → Header → Message
machine_cache_rule found ingress header = record {
  to = receiver.Switch ingress;
  body = CacheRule found.version
      (widen (header_number_of header) found.part.region found.part.rules found.place)
      found.rule.rule found.rule.action;
}

-- the switch sends it to an ingress other than itself
unfoldable pub journal_cache_items : Setting → ℕ → ℕ → MachineAuthorityRule → List Item → List Item
journal_cache_items setting i s found journal = elim (is_at_machine_switch s (journal_ingress_of journal i)) [
  | true ↦ []
  | false ↦ machine_send_items journal
      (machine_cache_rule found (unwrap_or (journal_ingress_of journal i) 0) (journal_packet_header_at journal i) ∷ [])
]

-- an authority rule of the switch decides the packet
unfoldable pub machine_authority_items : Setting → ℕ → ℕ → Option MachineAuthorityRule → List Item → List Item
machine_authority_items setting i s None journal = []
machine_authority_items setting i s (Some found) journal =
    journal_items_then
    (item.Decided i found.version found.rule.rule found.rule.action
    (how.Authority s found.part.number) ∷ [])
    (machine_blocks_in_turn (journal_cache_items setting i s found ∷ machine_end_items setting i s found.rule.action ∷ [])) journal

-- what becomes of the packet by a lookup under the switch's stamp
abbrev pub machine_found_items : Setting → ℕ → ℕ → Found → List Item → List Item
machine_found_items setting i s (found.Cached entry) journal =
    journal_items_then
    (item.Decided i entry.version entry.rule entry.action (how.Cached entry.message) ∷ [])
    (machine_end_items setting i s entry.action) journal
machine_found_items setting i s (found.Authority partition place) journal =
    machine_authority_items setting i s
    (journal_authority_rule setting journal (journal_stamp_of journal s) partition place) journal
machine_found_items setting i s (found.Redirect partition targets) journal =
    machine_leg_items setting journal i s (Seek (journal_stamp_of journal s) partition)

unfoldable pub machine_lookup_items : Setting → ℕ → ℕ → List Item → List Item
machine_lookup_items setting i s journal =
    machine_found_items setting i s (machine_lookup_at setting journal s (journal_packet_header_at journal i)) journal

-- ---- on the way

-- a packet that arrives by its leg: at its port, at an authority switch that has its version, or
-- at one that doesn't have it and looks the packet up again
abbrev pub journal_leg_arrival_items : Setting → ℕ → ℕ → Option Leg → List Item → List Item
journal_leg_arrival_items setting i s None journal = []
journal_leg_arrival_items setting i s (Some (Exit port)) journal = journal_leaving_item journal i port ∷ []
journal_leg_arrival_items setting i s (Some (Seek version partition)) journal =
    elim (holds_version journal s version) [
      | false ↦ machine_lookup_items setting i s journal
      | true ↦ let place = machine_first_rule_place setting journal version partition (journal_packet_header_at journal i) in
          machine_authority_items setting i s (journal_authority_rule setting journal version partition place)
          journal
    ]

unfoldable pub machine_arrive_items : Setting → ℕ → ℕ → List Item → List Item
machine_arrive_items setting i s journal = journal_leg_arrival_items setting i s (journal_leg_of journal i) journal

-- it moves on along its new route, or arrives if that is only this switch
abbrev pub machine_onward_items : Setting → ℕ → ℕ → List Item → List Item
machine_onward_items setting i s journal = elim (journal_next_switch journal i) [
  | None ↦ machine_arrive_items setting i s journal
  | Some next ↦ item.Hopped i next ∷ []
]

-- with one more link found down, it takes a new route from the switch, or is stuck there
abbrev pub journal_reroute_by : Setting → ℕ → ℕ → Option Leg → List Item → List Item
journal_reroute_by setting i s None journal = []
journal_reroute_by setting i s (Some leg) journal = elim (journal_packet_route setting journal i s leg) [
  | None ↦ machine_stuck_on_leg_item setting journal i s leg ∷ []
  | Some route ↦ journal_items_then (item.Rerouted i route ∷ []) (machine_onward_items setting i s) journal
]

unfoldable pub machine_reroute_items : Setting → ℕ → ℕ → List Item → List Item
machine_reroute_items setting i s journal = journal_reroute_by setting i s (journal_leg_of journal i) journal

-- a packet at its route's end arrives; otherwise it moves over the next link, or finds it down
unfoldable pub machine_move_items : Setting → ℕ → ℕ → List Item → List Item
machine_move_items setting i s journal = elim (journal_next_switch journal i) [
  | None ↦ machine_arrive_items setting i s journal
  | Some next ↦ elim (has (near setting journal s) next) [
    | true ↦ item.Hopped i next ∷ []
    | false ↦ journal_items_then (item.FoundDown i s next ∷ []) (machine_reroute_items setting i s) journal
  ]
]
