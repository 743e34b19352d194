-- A switch that is asked to move a travelling packet on writes an item of it.
use Rattle.std.proofs.Common.{[], ◌∙◌, ◌≡◌, Bool, IsTrue, List, None, Option, Some, ap, arith, false, inl, is_some, option_and_then, position, refl, subst, sym, true, unwrap_or, ℕ}
use Rattle.five_tuple.specs.Exports.{header_number_of}
use Rattle.policy_rules.specs.Exports.{is_held_by_policy_rule}
use Rattle.update_machine.specs.Exports.{MachineAuthorityRule, Exit, Found, JournalItemsHaveCauses, IsMachineSetting, Item, Leg, Seek, Setting, journal_leg_arrival_items, machine_arrive_items, machine_authority_items, journal_authority_rule, machine_first_rule_place, journal_found_down, journal_packet_header_at, machine_hop_items, machine_leg_items, journal_leg_of, machine_lookup_at, machine_lookup_items, machine_move_items, journal_plan_at, journal_route_in, serves, journal_stamp_of, journal_standing_of, travels_in_journal}
use Rattle.switch_table.specs.Exports.{HostedPolicyPartition}
use Rattle.control_laws.specs.Exports.{HasControlItemCause}
use Rattle.control_laws.proofs.Exports.{own, serving_hold}
use Rattle.packet_laws.specs.Exports.{AllPacketFactsKept, ArePacketsResting, PacketRouteAvoidsFound, IsPacketAt, IsPacketOnWay, PacketFacts, PacketsTravel, PacketRulesAreRight, packet_stage_of, packet_facts_of}
use Rattle.packet_laws.proofs.PacketsAllKept.{all_kept}
use Rattle.packet_laws.proofs.PacketHeaderLookups.{FindsRule, IsHere, authority_found, current_planned, here_of, in_plan, leg_in, rule_there, seeking_of, travels_in}
use Rattle.packet_laws.proofs.PacketsAtRest.{IsSettled, IsWayItem, switches_of_all}
use Rattle.packet_laws.proofs.PacketRouteHops.{NamesFirst}

leg_names : (setting : Setting) (journal : List Item) (i s : ℕ) (leg : Leg)
    → NamesFirst i (machine_leg_items setting journal i s leg)
unfolding machine_leg_items
leg_names setting journal i s leg = grind (arith, own)

authority_names : (setting : Setting) (i s : ℕ) (o : Option MachineAuthorityRule) (journal : List Item)
    → IsTrue (is_some o) → NamesFirst i (machine_authority_items setting i s o journal)
unfolding machine_authority_items
authority_names setting i s None journal some = absurd cc
authority_names setting i s (Some rule) journal some = own i

-- each rule that the lookup gives is there
abbrev RulesAreThere : Setting → List Item → ℕ → ℕ → Type 0
RulesAreThere setting journal i s = (partition place : ℕ)
    → machine_lookup_at setting journal s (journal_packet_header_at journal i) ≡ Found.Authority partition place
    → IsTrue (is_some (journal_authority_rule setting journal (journal_stamp_of journal s) partition place))

lookup_names : (setting : Setting) (i s : ℕ) (journal : List Item)
    → RulesAreThere setting journal i s → NamesFirst i (machine_lookup_items setting i s journal)
unfolding machine_lookup_items
lookup_names setting i s journal there = grind (arith, own, authority_names, leg_names, there)

-- ---- at a switch

-- what is known of the packet and its switch
record IsMoved (setting : Setting) (journal : List Item) (i s : ℕ) : Type 0 where
  is : IsMachineSetting setting
  have : JournalItemsHaveCauses (HasControlItemCause setting) [] journal
  here : IsHere setting journal i s
  way : IsPacketOnWay setting journal (packet_facts_of journal i)

rules_there : (setting : Setting) (journal : List Item) (i s : ℕ)
    → IsMoved setting journal i s → RulesAreThere setting journal i s
rules_there setting journal i s moved partition place answer =
    let finds : FindsRule setting journal s moved.here.under.header partition place =
    authority_found setting journal s moved.here.under.header partition place moved.here.stamped
    moved.here.under.sound (ap (machine_lookup_at setting journal s) (sym moved.here.header) ∙ answer) in
    subst
    (λ p. IsTrue (is_some (journal_authority_rule setting journal (journal_stamp_of journal s) partition p)))
    finds.found_at (rw (rule_there setting journal _ _ _ partition _ finds.part.number) refl)

sought_there : (setting : Setting) (journal : List Item) (i s version partition : ℕ)
    → IsMoved setting journal i s → journal_leg_of journal i ≡ Some (Seek version partition)
    → IsTrue (is_some (journal_authority_rule setting journal version partition
    (machine_first_rule_place setting journal version partition (journal_packet_header_at journal i))))
sought_there setting journal i s version partition moved seeks =
    let facts : PacketFacts = packet_facts_of journal i in
    let on = seeking_of _ _ facts _ _ _ moved.way moved.here.under.entered (leg_in _ i _ seeks) in
    let finds = in_plan setting _ (journal_plan_at setting journal version) moved.here.under.header
    on.hosted (current_planned setting journal version moved.is moved.have
    (omega (arith, on.not_retired)) on.current) moved.here.under.sound on.own.first in
    let place = ap (machine_first_rule_place setting journal version partition) moved.here.header
    ∙ ap (λ (o : Option HostedPolicyPartition). unwrap_or (option_and_then (λ (p : HostedPolicyPartition). position
    (is_held_by_policy_rule (header_number_of moved.here.under.header)) p.0.rules) o) 0) on.own.found ∙ finds.position in
    subst
    (λ p. IsTrue (is_some (journal_authority_rule setting journal version partition p)))
    (sym place) (rw (rule_there setting journal _ _ version partition finds on.own.number) refl)

leg_out : (journal : List Item) (i : ℕ) (leg : Option Leg) → (packet_facts_of journal i).leg ≡ leg
    → journal_leg_of journal i ≡ leg
unfolding packet_facts_of
leg_out journal i leg is = is

arrive_names : (setting : Setting) (i s : ℕ) (journal : List Item) → IsMoved setting journal i s
    → NamesFirst i (machine_arrive_items setting i s journal)
unfolding machine_arrive_items
arrive_names setting i s journal moved =
    let leg = leg_out journal i (Some moved.way.leg) moved.way.takes in
    subst (λ o. NamesFirst i (journal_leg_arrival_items setting i s o journal)) (sym leg)
    (by_leg moved.way.leg leg)
  where
    by_held : (version partition : ℕ) (b : Bool)
        → journal_leg_of journal i ≡ Some (Seek version partition) → NamesFirst i (elim b [
          | false ↦ machine_lookup_items setting i s journal
          | true ↦ machine_authority_items setting i s (journal_authority_rule setting journal version partition
              (machine_first_rule_place setting journal version partition (journal_packet_header_at journal i))) journal
        ])
    by_held version partition false e = lookup_names _ i s _ (rules_there setting journal i s moved)
    by_held version partition true e = authority_names setting i s _ journal
        (sought_there setting journal i s version partition moved e)

    by_leg : (leg : Leg) → journal_leg_of journal i ≡ Some leg
        → NamesFirst i (journal_leg_arrival_items setting i s (Some leg) journal)
    by_leg (Exit port) e = own i
    by_leg (Seek version partition) e = by_held version partition _ e

move_names : (setting : Setting) (i s : ℕ) (journal : List Item) → IsMoved setting journal i s
    → NamesFirst i (machine_move_items setting i s journal)
unfolding machine_move_items
move_names setting i s journal moved = grind (arith, own, arrive_names, moved)

-- ---- a hop

pub hop_names : (setting : Setting) (i : ℕ) (journal : List Item) → IsMachineSetting setting
    → JournalItemsHaveCauses (IsWayItem setting) [] journal → ArePacketsResting journal
    → IsTrue (travels_in_journal journal i) → NamesFirst i (machine_hop_items setting i journal)
unfolding machine_hop_items
hop_names setting i journal is have rests travelling =
    let served = rests.served i travelling in
    let kept : AllPacketFactsKept setting journal = all_kept setting journal is have in
    let switches = switches_of_all setting [] journal have in
    let s : ℕ = unwrap_or (journal_standing_of journal i) 0 in
    let there : served.switch ≡ s = sym (ap (λ o. unwrap_or o 0) served.stands) in
    let at : IsPacketAt journal i s = record {
      travelling = travelling;
      stands = refl;
      serving = subst (λ k. IsTrue (serves journal k)) there served.serving;
    } in
    let here = here_of setting journal i s (packet_stage_of journal i) is switches (kept.packets i) at in
    rw (travelling, machine_hop_items) (move_names setting i s journal (record {
      is = is;
      have = switches;
      here = here;
      way = (kept.packets i).on_way here.travelling (inl (rests.moving i travelling));
    }))

-- ---- between steps packets travel as they should

avoids_in : (journal : List Item) (i : ℕ) → PacketRouteAvoidsFound (packet_facts_of journal i).found
    (packet_facts_of journal i).route → PacketRouteAvoidsFound (journal_found_down journal i) (journal_route_in journal i)
unfolding packet_facts_of
avoids_in journal i avoids = avoids

pub packets_travel : (setting : Setting) (journal : List Item) → IsMachineSetting setting
    → IsSettled setting journal → PacketsTravel setting journal
packets_travel setting journal is settled i travelling =
    let kept : AllPacketFactsKept setting journal = all_kept setting journal is settled.causes in
    let on : IsTrue (packet_facts_of journal i).travels = travels_in journal i travelling in
    let moving = settled.rests.moving i travelling in
    let way : IsPacketOnWay setting journal (packet_facts_of journal i) =
    (kept.packets i).on_way on (inl moving) in record {
      on_way = way;
      served = settled.rests.served i travelling;
      avoids = avoids_in journal i ((kept.packets i).avoids on moving);
      held = λ version partition s seeks there serving. (serving_hold setting journal
          (switches_of_all setting [] journal settled.causes) s there serving).held version
          (seeking_of setting journal (packet_facts_of journal i) way.under_way.header version
          partition way way.under_way.entered (leg_in journal i _ seeks)).current;
    }

pub rules_right : (setting : Setting) (journal : List Item) → AllPacketFactsKept setting journal
    → PacketRulesAreRight setting journal
rules_right setting journal kept = record { sent = kept.sent; cached = kept.cached }
