-- The routes of packets, the links that they found down, and the targets of their legs.
-- They enter at an ingress switch, seek an authority switch and exit by a switch of their port,
-- as in Yu, Rexford, Freedman and Wang, "Scalable Flow-Based Networking with DIFANE", SIGCOMM 2010.
use Rattle.std.specs.Prelude.{[], if◌then◌else◌, ◌+◌, ◌==◌, ◌∷◌, List, None, Option, Some, option_map, slice_get, unwrap_or, ℕ}
use Rattle.failover.specs.Exports.{no_failover_links, with_failover_link}
use Rattle.net_file.specs.Exports.{net_port_owner}
use Rattle.policy_rules.specs.declared.packet.Leg.{Leg}
use Rattle.policy_rules.specs.declared.packet.Leg.TheVariants.{Seek, Exit}
use Rattle.switch_table.specs.Exports.{HostedPolicyPartition}
use Rattle.journal.specs.declared.item.Item.{Item}
use Rattle.update_machine.specs.Folds.{journal_folded_value, journal_last_given}
use Rattle.update_machine.specs.Setting.{Setting}
use Rattle.update_machine.specs.Versions.{journal_plan_at}
use Rattle.journal.specs.declared.item.Item.TheVariants as item

abbrev pub machine_item_gives_route : ℕ → Item → Option (List ℕ)
machine_item_gives_route i (item.Seeking packet version partition route) =
    if packet == i then Some route else None
machine_item_gives_route i (item.Exiting packet route) = if packet == i then Some route else None
machine_item_gives_route i (item.Rerouted packet route) = if packet == i then Some route else None
machine_item_gives_route i _ = None

-- the route of its last `Seeking`, `Exiting` or `Rerouted`
unfoldable pub journal_route_in : List Item → ℕ → List ℕ
journal_route_in journal i = unwrap_or (journal_last_given (machine_item_gives_route i) journal) []

abbrev pub machine_item_changes_hops : ℕ → List Item → ℕ → Item → ℕ
machine_item_changes_hops i before hops (item.Seeking packet version partition route) =
    if packet == i then 0 else hops
machine_item_changes_hops i before hops (item.Exiting packet route) = if packet == i then 0 else hops
machine_item_changes_hops i before hops (item.Rerouted packet route) = if packet == i then 0 else hops
machine_item_changes_hops i before hops (item.Hopped packet switch) = if packet == i then hops + 1 else hops
machine_item_changes_hops i before hops _ = hops

-- its place on that route, from 0: the number of its `Hopped` since
unfoldable pub journal_route_place : List Item → ℕ → ℕ
journal_route_place journal i = journal_folded_value (machine_item_changes_hops i) 0 journal

-- the switch after that place, if the route continues
unfoldable pub journal_next_switch : List Item → ℕ → Option ℕ
journal_next_switch journal i = slice_get (journal_route_in journal i) (journal_route_place journal i + 1)

abbrev pub machine_item_changes_found : ℕ → List Item → List ℕ → Item → List ℕ
machine_item_changes_found i before links (item.FoundDown packet one two) =
    if packet == i then with_failover_link links one two else links
machine_item_changes_found i before links _ = links

-- the links that it found down on any leg, as a set
unfoldable pub journal_found_down : List Item → ℕ → List ℕ
journal_found_down journal i = journal_folded_value (machine_item_changes_found i) no_failover_links journal

-- the targets of the partition at a place of a plan
abbrev pub machine_targets_in : List HostedPolicyPartition → ℕ → List ℕ
machine_targets_in plan partition =
    unwrap_or (option_map (λ hosted. hosted.1) (slice_get plan partition)) []

-- a number that no switch has: they are below 64
abbrev pub machine_no_switch : ℕ
machine_no_switch = 64

-- the switch that has the port; if none has, no switch, to which no route leads
abbrev pub owner : Setting → ℕ → ℕ
owner setting port = unwrap_or (net_port_owner setting.net.switches port) machine_no_switch

-- the targets of the partition, or the switch of the port
abbrev pub journal_leg_targets : Setting → List Item → Leg → List ℕ
journal_leg_targets setting journal (Seek version partition) =
    machine_targets_in (journal_plan_at setting journal version) partition
journal_leg_targets setting journal (Exit port) = owner setting port ∷ []
