-- Causes of packets' items on journals of few items, which must fail: what no switch writes.
use Rattle.std.proofs.Common.{[], ◌∷◌, ◌≡◌, IsTrue, List, None, Some, arith, false, inr, refl, rules, subst, sym, true}
use Rattle.failover.specs.Exports.{link_set_has, no_failover_links, with_failover_link}
use Rattle.base.specs.Exports.{has}
use Rattle.update_machine.specs.Exports.{Cached, Crash, Drop, Exit, Item, NoAuthority, NoRoute, Out, Packet, Seek, journal_boot_of, journal_found_down, journal_packet_header, heard, is_up, journal_leg_of, journal_next_packet, journal_next_switch, journal_present_step, journal_route_in, journal_route_place, serves, journal_stamp_of, journal_standing_of, travels_in_journal}
use Rattle.update_machine.proofs.Exports.{one, open_net}
use Rattle.packet_laws.specs.Exports.{ArePacketsResting, IsPacketAtRouteEnd, IsPacketLookedUp, HasPacketItemCause, PacketStrongCause, packet_law_ends_with_row, packet_fallen_switch, packet_stage_of}

-- a packet entered at switch 0
abbrev in_at_0 : List Item
in_at_0 = Item.Row 1 (Packet 0 one) ∷ Item.Entered 1 0 one ∷ []

-- and was decided
abbrev decided : List Item
decided = Item.Row 1 (Packet 0 one) ∷ Item.Entered 1 0 one
    ∷ Item.Decided 1 1 None (Out 3) (Cached 1) ∷ []

-- ---- entries

not_under_another_number : HasPacketItemCause open_net (Item.Row 1 (Packet 0 one) ∷ [])
    (Item.Entered 2 0 one) → ⊥
unfolding journal_next_packet
not_under_another_number way = omega (arith, way.0.number)

-- ---- decisions

looked_up_once : IsPacketLookedUp decided 1 0 → ⊥
unfolding packet_stage_of
looked_up_once h0 = search rules

not_decided_twice : HasPacketItemCause open_net decided (Item.Decided 1 1 None Drop (Cached 1)) → ⊥
unfolding journal_standing_of
not_decided_twice way = search (rules, looked_up_once)

-- ---- packets that are stuck

-- by a version that isn't the stamp's
not_stuck_by_another_version : HasPacketItemCause open_net in_at_0
    (Item.Stuck 1 0 NoRoute (Seek 7 0) no_failover_links) → ⊥
unfolding journal_stamp_of heard is_up journal_boot_of packet_stage_of
not_stuck_by_another_version way = search rules

-- on its way to an authority once it was decided
not_stuck_seeking_when_decided : HasPacketItemCause open_net decided
    (Item.Stuck 1 0 NoRoute (Seek 1 0) no_failover_links) → ⊥
unfolding packet_stage_of
not_stuck_seeking_when_decided way = search (rules, looked_up_once)

-- with the cause that there is no authority, on its way out
not_without_authority_on_its_way_out : HasPacketItemCause open_net decided
    (Item.Stuck 1 0 NoAuthority (Exit 3) no_failover_links) → ⊥
not_without_authority_on_its_way_out way = let why = way.why in cc

-- ---- ways

not_sought_by_another_version : HasPacketItemCause open_net in_at_0 (Item.Seeking 1 2 0 (0 ∷ 1 ∷ [])) → ⊥
unfolding journal_standing_of journal_stamp_of heard is_up journal_boot_of
not_sought_by_another_version way = search rules

not_rerouted_unless_blocked : HasPacketItemCause open_net in_at_0 (Item.Rerouted 1 (0 ∷ [])) → ⊥
unfolding packet_stage_of
not_rerouted_unless_blocked way = let stage = way.blocked.blocked in cc

not_moved_before_it_is_looked_up : HasPacketItemCause open_net in_at_0 (Item.Hopped 1 1) → ⊥
unfolding packet_stage_of
not_moved_before_it_is_looked_up way = let stage = way.moving in cc

-- ---- crashes

-- a packet doesn't survive the crash of its switch
none_survives : ArePacketsResting (Item.Row 1 (Packet 0 one) ∷ Item.Entered 1 0 one
    ∷ Item.Row 2 (Crash 0) ∷ Item.Down 0 ∷ []) → ⊥
unfolding travels_in_journal journal_standing_of serves
none_survives rests =
    let here = rests.served 1 refl in
    let at : Some 0 ≡ Some here.switch = here.stands in
    let same : 0 ≡ here.switch = cc in
    let serving : false ≡ true = subst (λ s. IsTrue (serves (Item.Row 1 (Packet 0 one)
    ∷ Item.Entered 1 0 one ∷ Item.Row 2 (Crash 0) ∷ Item.Down 0 ∷ []) s)) (sym same) here.serving in
    cc

-- ---- strong causes

-- a lookup on the way by an older version
not_looked_up_by_an_older_version : PacketStrongCause open_net (Item.Entered 1 0 one
    ∷ Item.Seeking 1 2 0 (0 ∷ 1 ∷ []) ∷ Item.Hopped 1 1 ∷ []) (Item.Seeking 1 1 0 (1 ∷ 0 ∷ [])) → ⊥
unfolding journal_leg_of
not_looked_up_by_an_older_version causes = omega (arith, causes.1.0 2 0 refl)

-- a new route over a link that was found down
not_rerouted_over_a_link_found_down : PacketStrongCause open_net (Item.Entered 1 0 one ∷ Item.Seeking 1 1
    0 (0 ∷ 1 ∷ []) ∷ Item.FoundDown 1 0 1 ∷ []) (Item.Rerouted 1 (0 ∷ 1 ∷ [])) → ⊥
unfolding journal_found_down with_failover_link link_set_has has
not_rerouted_over_a_link_found_down causes =
    let up : true ≡ false = causes.1.by.avoids 0 0 1 refl refl in cc

-- ---- packets at the end of their route, on journals of few items

-- a packet entered at switch 0, and seeks an authority at switch 1
abbrev seeking : List Item
seeking = Item.Entered 1 0 one ∷ Item.Seeking 1 1 0 (0 ∷ 1 ∷ []) ∷ []

-- it goes on from switch 0
not_at_first : IsPacketAtRouteEnd seeking 1 0 one (Seek 1 0) → ⊥
unfolding journal_next_switch journal_route_in journal_route_place
not_at_first at = let last : Some 1 ≡ None = at.arrives.last in cc

abbrev moved : List Item
moved = Item.Entered 1 0 one ∷ Item.Seeking 1 1 0 (0 ∷ 1 ∷ []) ∷ Item.Hopped 1 1 ∷ []

at_end : IsPacketAtRouteEnd moved 1 1 one (Seek 1 0)
unfolding travels_in_journal packet_stage_of journal_next_switch journal_route_in journal_route_place journal_standing_of journal_packet_header journal_leg_of
at_end = search rules

-- in the middle of a hop: it found the link down, and switch 0 is another target
abbrev rerouted : List Item
rerouted = Item.Entered 1 0 one ∷ Item.Seeking 1 1 0 (0 ∷ 1 ∷ []) ∷ Item.FoundDown 1 0 1
    ∷ Item.Rerouted 1 (0 ∷ []) ∷ []

at_another_target : IsPacketAtRouteEnd rerouted 1 0 one (Seek 1 0)
unfolding travels_in_journal packet_stage_of journal_next_switch journal_route_in journal_route_place journal_standing_of journal_packet_header journal_leg_of
at_another_target = search rules

-- ---- packets enter by a row of their own, and are lost in a crash that happened: on journals of
-- few items.

in_by_its_row : HasPacketItemCause open_net (Item.Row 1 (Packet 0 one) ∷ []) (Item.Entered 1 0 one)
unfolding journal_next_packet journal_present_step packet_law_ends_with_row serves
in_by_its_row = (record { number = refl; row = refl; behind = refl }, refl)

not_two_by_one_row : HasPacketItemCause open_net (Item.Row 1 (Packet 0 one) ∷ Item.Entered 1 0 one ∷ [])
    (Item.Entered 2 0 one) → ⊥
unfolding packet_law_ends_with_row
not_two_by_one_row way = let last : false ≡ true = way.0.behind in cc

-- the switch goes down, and its packet is lost
abbrev crashed : List Item
crashed = Item.Row 1 (Packet 0 one) ∷ Item.Entered 1 0 one ∷ Item.Row 2 (Crash 0) ∷ Item.Down 0 ∷ []

lost_with_it : HasPacketItemCause open_net crashed (Item.Lost 1)
unfolding travels_in_journal journal_present_step packet_fallen_switch is_up journal_standing_of
lost_with_it = record {
  travelling = refl;
  how = inr (record { switch = 0; crashes = refl; fell = refl; down = refl; stands = refl });
}

-- but not once more, in a crash of a switch that is down already
abbrev down_already : List Item
down_already = Item.Row 1 (Packet 0 one) ∷ Item.Entered 1 0 one ∷ Item.Row 2 (Crash 0) ∷ Item.Down 0
    ∷ Item.Row 3 (Crash 0) ∷ Item.Nothing ∷ []

not_lost_when_it_was_down : HasPacketItemCause open_net down_already (Item.Lost 1) → ⊥
unfolding journal_present_step packet_fallen_switch
not_lost_when_it_was_down way = search rules
