-- Items that end a packet, or say that it found a link down, have their causes.
use Rattle.std.proofs.Common.{[], ◌+◌, ◌-◌, ◌<◌, ◌∙◌, ◌∷◌, ◌≡◌, ◌≤◌, ◌⊎◌, All, Bool, Contains, IsFalse, IsTrue, List, None, Option, Some, ap, arith, eq-eqb, eqb-true, false, get_or, inl, inr, length, nat_eq, option_map, option_to_list, refl, slice_get, subst, sym, true, unwrap_or, ℕ, rules}
use Rattle.base.proofs.Exports.{All-from_recursion, All-weaker, cases_lt, get_or_from_slice_get, list_any, nat_tests, slice_get-get_or, slice_get_within, some_same}
use Rattle.failover.specs.Exports.{IsFailoverReachable}
use Rattle.failover.proofs.RouteSearch.{length-known_links}
use Rattle.base.specs.Exports.{has}
use Rattle.net_file.specs.Exports.{are_linked_in_net, net_port_owner}
use Rattle.update_machine.specs.Exports.{Action, AreMachineLegTargets, Cause, Decision, Exit, MachineFindsDown, MachineFindsNoPath, HasMachineCause, MachineLosesRightly, IsMachinePacketStuckRightly, Item, MachineWalkLeads, MachineLeavesRightly, Leaving, Leg, Seek, MachineLegSeeksOwn, Setting, journal_can_use, journal_decision_of, journal_found_down, journal_packet_header_at, journal_packet_header, is_journal_link_open, is_up, journal_links_known, near, machine_no_switch, owner, journal_plan_at, serves, journal_standing_of, journal_leg_targets}
use Rattle.switch_table.specs.Exports.{HostedPolicyPartition}
use Rattle.update_machine.proofs.Exports.{plan_is, unreached}
use Rattle.control_laws.specs.Exports.{HasControlItemCause}
use Rattle.control_laws.proofs.Exports.{IsKnown, linked_by_mask, own_end}
use Rattle.packet_laws.specs.Exports.{PacketFindsNoRoute, PacketRouteFollowsLinks, IsPacketAt, IsPacketAtPort, IsPacketBlockedOn, IsPacketLostHere, IsPacketOnWay, IsPacketPartitionOf, PacketLeavesHere, PacketMeetsDown, HasPacketItemCause, PacketFacts, PacketSeeksRightly, PacketTakesLeg, packet_entry_mark, packet_stage_of, packet_facts_of}
use Rattle.packet_laws.proofs.PacketHeaderLookups.{IsHere, decision_in, exiting_of, header_in_facts, leg_in, next_in, stands_in, seeking_of}
use Rattle.packet_laws.proofs.KeptPacketFacts.{Knows, here_known, port_named, redirected_to, stage_looked, undecided_of}
use Rattle.packet_laws.proofs.PacketKnownRoutes.{Sees, none_leads, open_joined}

pub decision_out : (journal : List Item) (i : ℕ) (decision : Option Decision)
    → (packet_facts_of journal i).decision ≡ decision → journal_decision_of journal i ≡ decision
unfolding packet_facts_of
decision_out journal i decision is = is

stands_at : (setting : Setting) (before : List Item) (i s : ℕ) → IsHere setting before i s
    → journal_standing_of before i ≡ Some s
stands_at setting before i s here = search (rules, stands_in)

pub stands_known : (setting : Setting) (before : List Item) (i s : ℕ)
    → Knows setting before i (packet_stage_of before i) → IsPacketAt before i s → journal_standing_of before i ≡ Some s
stands_known setting before i s knows at = stands_at _ before i s (here_known _ before i s knows at)

entered_as : (setting : Setting) (before : List Item) (i s : ℕ)
    → (here : IsHere setting before i s) → journal_packet_header before i ≡ Some here.under.header
entered_as setting before i s here = header_in_facts before i here.under.header here.under.entered

-- ---- links found down

follows : (setting : Setting) (journal : List Item) (facts : PacketFacts) (way : IsPacketOnWay setting journal facts)
    → PacketRouteFollowsLinks setting facts.route
follows setting journal facts way = search rules

-- a link that a packet finds down is one of the network, since its route follows links
pub meets_link : (setting : Setting) (before : List Item) (i one two : ℕ)
    → Knows setting before i (packet_stage_of before i) → PacketMeetsDown setting before i one two
    → IsTrue (are_linked_in_net setting.net.links one two)
meets_link setting before i one two knows meets =
    let facts : PacketFacts = packet_facts_of before i in
    let here = here_known setting before i one knows meets.at in
    let way = knows.kept.on_way here.travelling (inl meets.moving) in
    linked_by_mask setting.net.links one two
    (follows setting before facts way facts.hops one two
    (way.stands ∙ ap Some (some_same facts.stands way.under_way.switch here.under.switch
    way.under_way.stands here.under.stands ∙ sym here.at)) (sym (next_in before i) ∙ meets.goes_on))

-- ---- losses

lost_rightly : (before : List Item) (i : ℕ) → IsPacketLostHere before i → MachineLosesRightly before i
lost_rightly before i lost = search rules

-- ---- packets that are stuck

-- the partition that it seeks, which has its header
seeks_part : (setting : Setting) (before : List Item) (i s version partition : ℕ)
    → Knows setting before i (packet_stage_of before i) → (here : IsHere setting before i s)
    → PacketTakesLeg setting before i s (Seek version partition)
    ⊎ IsPacketBlockedOn before i (Seek version partition)
    → (hosted : HostedPolicyPartition) × IsPacketPartitionOf setting before here.under.header version partition hosted
seeks_part setting before i s version partition knows here h8 =
    search (rules, redirected_to, seeking_of, leg_in)

-- its decision, by the port to which it exits
exits_by : (setting : Setting) (before : List Item) (i s port : ℕ)
    → Knows setting before i (packet_stage_of before i) → IsHere setting before i s
    → PacketTakesLeg setting before i s (Exit port) ⊎ IsPacketBlockedOn before i (Exit port)
    → (decision : Decision) × (journal_decision_of before i ≡ Some decision)
    × (decision.action ≡ Action.Out port)
exits_by setting before i s port knows here h7 = search (rules, exiting_of, leg_in, decision_out)

own_leg : (setting : Setting) (before : List Item) (i s : ℕ) (leg : Leg)
    → Knows setting before i (packet_stage_of before i) → IsHere setting before i s
    → PacketTakesLeg setting before i s leg ⊎ IsPacketBlockedOn before i leg → MachineLegSeeksOwn setting before i leg
own_leg setting before i s (Seek version partition) knows here on =
    let part = seeks_part setting before i s version partition knows here on in (
      here.under.header,
      entered_as setting before i s here,
      ap (option_map (λ (p : HostedPolicyPartition). p.0.number)) part.1.first ∙ ap Some part.1.number,
    )
own_leg setting before i s (Exit port) knows here on = exits_by _ before i s port knows here on

pub mark_in : (journal : List Item) (i : ℕ) → (packet_facts_of journal i).mark ≡ packet_entry_mark journal i
unfolding packet_facts_of
mark_in journal i = refl

pub seeks_rightly : (setting : Setting) (before : List Item) (i s : ℕ) (version partition : ℕ)
    → Knows setting before i (packet_stage_of before i) → IsHere setting before i s
    → PacketTakesLeg setting before i s (Seek version partition)
    ⊎ IsPacketBlockedOn before i (Seek version partition) → PacketSeeksRightly before i version
seeks_rightly setting before i s version partition knows here (inl takes) = record {
  undecided = decision_out before i None (undecided_of setting before i s (packet_stage_of before i)
      knows.kept here (stage_looked before i s takes.looked_up));
  not_retired = omega (
    arith,
    sym (mark_in before i),
    here.under.mark,
    here.stamped.retired,
    takes.stamp,
  );
  current = omega (arith, here.stamped.current, takes.stamp);
}
seeks_rightly setting before i s version partition knows here (inr blocked) =
    let on = seeking_of _ before _ _ _ _ (knows.kept.on_way here.travelling (inr blocked.blocked))
    here.under.entered (leg_in before i (Some (Seek version partition)) blocked.takes) in record {
      undecided = decision_out before i None on.undecided;
      not_retired = subst (λ m. m < version) (mark_in before i) on.not_retired;
      current = on.current;
    }

pub stuck_rightly : (setting : Setting) (before : List Item) (i s : ℕ) (cause : Cause) (leg : Leg)
    (down : List ℕ) → Knows setting before i (packet_stage_of before i)
    → PacketFindsNoRoute setting before i s cause leg down
    → MachineFindsNoPath setting before i s leg
stuck_rightly setting before i s cause leg down knows finds =
    let here : IsHere setting before i s = here_known setting before i s knows finds.at in record {
      stands = stands_at setting before i s here;
      own_leg = own_leg setting before i s leg knows here finds.on;
      no_path = let down : List ℕ = journal_found_down before i in
          All-from_recursion
          (λ target. ¬ IsFailoverReachable (journal_links_known setting before s down) s target)
          (journal_leg_targets setting before leg)
          (unreached setting before s (journal_leg_targets setting before leg) down finds.none);
    }

-- ---- by what the switch knows of links, as relations

pub finds_down : (setting : Setting) (before : List Item) (i one two : ℕ) → Knows setting before i
    (packet_stage_of before i) → PacketMeetsDown setting before i one two → MachineFindsDown setting before i one two
finds_down setting before i one two knows meets = record {
  stands = stands_known setting before i one knows meets.at;
  linked = meets_link setting before i one two knows meets;
  unusable = unusable (journal_can_use setting before one two) refl;
} where
  unusable : (b : Bool) → journal_can_use setting before one two ≡ b → IsFalse b
  unusable false e = refl
  unusable true e =
      let usable : has (near setting before one) two ≡ true =
      (own_end setting before knows.is.net one two (rw (eq-eqb one one refl) e)).named in
      absurd (cc meets.unusable)

-- a partition at a place of a plan is in it
part_in : (plan : List HostedPolicyPartition) (k : ℕ) (hosted : HostedPolicyPartition) → slice_get plan k ≡ Some hosted
    → Contains plan hosted
part_in plan k hosted there = search (rules, slice_get_within, get_or_from_slice_get)

-- no way leads to any of these targets
abbrev AreCutOff : Setting → List Item → ℕ → ℕ → List ℕ → Type 0
AreCutOff setting before i s targets =
    All (λ target. (path : List ℕ) → ¬ MachineWalkLeads (is_journal_link_open setting before i s) s path target) targets

home_cut_off : (setting : Setting) (before : List Item) (i s : ℕ) (home : Option ℕ)
    → AreCutOff setting before i s (unwrap_or home machine_no_switch ∷ [])
    → AreCutOff setting before i s (option_to_list home)
home_cut_off setting before i s home cut = search rules

-- the targets of its leg, all cut off
record HasTargets (setting : Setting) (before : List Item) (i s : ℕ) (leg : Leg) : Type 0 where
  targets : List ℕ
  own_leg : AreMachineLegTargets setting before i leg targets
  cut_off : AreCutOff setting before i s targets

targets_cut_off : (setting : Setting) (before : List Item) (i s : ℕ) (leg : Leg)
    → Knows setting before i (packet_stage_of before i) → IsHere setting before i s
    → PacketTakesLeg setting before i s leg ⊎ IsPacketBlockedOn before i leg
    → AreCutOff setting before i s (journal_leg_targets setting before leg)
    → HasTargets setting before i s leg
targets_cut_off setting before i s (Seek version partition) knows here on cut =
    let part = seeks_part setting before i s version partition knows here on in
    let hosted : HostedPolicyPartition = part.0 in
    let plan : List HostedPolicyPartition = journal_plan_at setting before version in record {
      targets = hosted.1;
      own_leg = (
        (seeks_rightly setting before i s version partition knows here on).undecided,
        here.under.header,
        entered_as setting before i s here,
        plan,
        plan_is setting before version hosted (part_in plan partition hosted part.1.found),
        hosted,
        part_in plan partition hosted part.1.found,
        part.1.holds,
        part.1.number,
        refl,
      );
      cut_off = subst (AreCutOff setting before i s)
          (ap (λ o. unwrap_or (option_map (λ (p : HostedPolicyPartition). p.1) o) []) part.1.found) cut;
    }
targets_cut_off setting before i s (Exit port) knows here on cut =
    let by = exits_by setting before i s port knows here on in record {
      targets = option_to_list (net_port_owner setting.net.switches port);
      own_leg = (by.0, by.1, by.2, refl);
      cut_off = home_cut_off setting before i s (net_port_owner setting.net.switches port) cut;
    }

pub stuck_by_claims : (setting : Setting) (before : List Item) (i s : ℕ) (cause : Cause)
    (leg : Leg) (down : List ℕ) → Knows setting before i (packet_stage_of before i)
    → PacketFindsNoRoute setting before i s cause leg down → IsMachinePacketStuckRightly setting before i s leg
stuck_by_claims setting before i s cause leg down knows finds =
    let here : IsHere setting before i s = here_known setting before i s knows finds.at in
    let exact = stuck_rightly setting before i s cause leg down knows finds in
    let links : List ℕ = journal_links_known setting before s (journal_found_down before i) in
    let sees : Sees setting before s =
    record { net = knows.is.net; have = knows.both; serving = finds.at.serving } in
    let cut : AreCutOff setting before i s (journal_leg_targets setting before leg) =
    All-weaker (λ target. ¬ IsFailoverReachable links s target)
    (λ target. (path : List ℕ) → ¬ MachineWalkLeads (is_journal_link_open setting before i s) s path target)
    (λ target unreached. none_leads (is_journal_link_open setting before i s) links s target
    (length-known_links _ s (near setting before s) (journal_found_down before i)) (open_joined setting
    before i s sees) (omega (arith, here.at, here.under.now, knows.is.net.few_switches)) unreached)
    (journal_leg_targets setting before leg) exact.no_path in
    let own = targets_cut_off setting before i s leg knows here finds.on cut in record {
      stands = exact.stands;
      serving = finds.at.serving;
      targets = own.targets;
      own_leg = own.own_leg;
      no_path = own.cut_off;
    }

-- ---- packets that leave

-- if a route doesn't go on, the packet is at its last switch
pub last_here : (route : List ℕ) (hops s target : ℕ) → slice_get route hops ≡ Some s
    → slice_get route (hops + 1) ≡ None → slice_get route (length route - 1) ≡ Some target
    → s ≡ target
last_here route hops s target here none last =
    let within : hops < length route = slice_get_within route hops s here in
    let past : length route ≤ hops + 1 = not_within (cases_lt (hops + 1) (length route)) in
    let same : length route - 1 ≡ hops = omega arith in
    some_same (slice_get route hops) s target here
    (subst (λ n. slice_get route n ≡ Some target) same last)
  where
    not_within : ((hops + 1) < length route) ⊎ (length route ≤ hops + 1) → length route ≤ hops + 1
    not_within (inl more) =
        let clash : None ≡ Some (get_or route (hops + 1) 0) = sym none
        ∙ slice_get-get_or route (hops + 1) 0 more in absurd cc
    not_within (inr past) = past

pub one_target : (target home : ℕ) → IsTrue (list_any (nat_eq target) (home ∷ [])) → target ≡ home
one_target target home own = grind (arith, nat_tests)

-- the port's switch, and the decision by that port
record LeavesBy (setting : Setting) (before : List Item) (i s port : ℕ) : Type 0 where
  has_port : net_port_owner setting.net.switches port ≡ Some s
  decision : Decision
  decided : journal_decision_of before i ≡ Some decision
  action : decision.action ≡ Action.Out port

leaves_by : (setting : Setting) (before : List Item) (i port : ℕ) (leaving : Leaving)
    → Knows setting before i (packet_stage_of before i) → (way : PacketLeavesHere setting before i port leaving)
    → IsHere setting before i way.switch → LeavesBy setting before i way.switch port
leaves_by setting before i port leaving knows way here = by_port way.at_port where
  facts : PacketFacts
  facts = packet_facts_of before i

  by_port : IsPacketAtPort setting before i way.switch port → LeavesBy setting before i way.switch port
  by_port (inl now) =
      let decision : Decision = now.2.0 in
      let judged = knows.kept.judged here.travelling now.0 here.under.header here.under.entered in
      let home = port_named setting port _ (ap (λ (d : Decision). d.action) (some_same _ _ decision
      judged.decided (decision_in before i (Some decision) now.2.1)) ∙ now.2.2) judged.named in
      record {
        has_port = home ∙ ap Some (eqb-true (owner setting port) way.switch now.1);
        decision = decision;
        decided = now.2.1;
        action = now.2.2;
      }
  by_port (inr arrived) =
      let was = knows.kept.on_way here.travelling (inl arrived.0.moving) in
      let on = exiting_of setting before facts port was (leg_in before i (Some (Exit port)) arrived.1) in
      let there : was.under_way.switch ≡ here.under.switch = some_same facts.stands
      was.under_way.switch here.under.switch was.under_way.stands here.under.stands in
      let home = sym (one_target on.leads.ends.target on.owner on.leads.ends.own)
      ∙ sym (last_here facts.route facts.hops was.under_way.switch on.leads.ends.target was.stands
      (sym (next_in before i) ∙ arrived.0.last) on.leads.ends.last) ∙ there ∙ sym here.at in
      record {
        has_port = on.has_port ∙ ap Some home;
        decision = on.decision;
        decided = decision_out before i (Some on.decision) on.decided;
        action = on.action;
      }

-- the packet leaves with its own header, version and rule
abbrev leaving_of : List Item → ℕ → Leaving
leaving_of before i = record {
  packet = i;
  header = journal_packet_header_at before i;
  version = unwrap_or (option_map (λ (d : Decision). d.version) (journal_decision_of before i)) 0;
  rule = unwrap_or (option_map (λ (d : Decision). d.rule) (journal_decision_of before i)) None;
}

leaving_is : (one other : Leaving) (i port : ℕ)
    → Item.Left i port one ≡ Item.Left i port other → one ≡ other
leaving_is one other i port e = cc

pub leaves_rightly : (setting : Setting) (before : List Item) (i port : ℕ) (leaving : Leaving)
    → Knows setting before i (packet_stage_of before i) → PacketLeavesHere setting before i port leaving
    → MachineLeavesRightly setting before i port leaving
leaves_rightly setting before i port leaving knows way =
    let s : ℕ = way.switch in
    let here : IsHere setting before i s = here_known setting before i s knows way.at in
    let by = leaves_by setting before i port leaving knows way here in
    let decision : Decision = by.decision in
    let whole : decision ≡ record {
      version = decision.version;
      rule = decision.rule;
      action = Action.Out port;
    } =
    ap (λ (a : Action). record { version = decision.version; rule = decision.rule; action = a })
    by.action in
    subst (MachineLeavesRightly setting before i port)
    (sym (leaving_is leaving (leaving_of before i) i port way.own)) (record {
      switch = s;
      stands = stands_at setting before i s here;
      has_port = by.has_port;
      number = refl;
      header = entered_as setting before i s here ∙ ap Some (sym here.header);
      decided = by.decided ∙ ap Some whole ∙ ap (λ (o : Option Decision). Some (record {
        version = unwrap_or (option_map (λ (d : Decision). d.version) o) 0;
        rule = unwrap_or (option_map (λ (d : Decision). d.rule) o) None;
        action = Action.Out port;
      })) (sym by.decided);
    })

-- ---- all ends

-- a switch that is down doesn't serve
not_serving : (before : List Item) (s : ℕ) → IsKnown before → IsFalse (is_up before s)
    → IsFalse (serves before s)
not_serving before s known down = by_serving (serves before s) refl where
  by_serving : (b : Bool) → serves before s ≡ b → IsFalse b
  by_serving false e = refl
  by_serving true e = let clash : true ≡ false = sym ((known.serving s).up e) ∙ down in absurd cc

pub end_caused : (setting : Setting) (before : List Item) (next : Item)
    → ((i : ℕ) → Knows setting before i (packet_stage_of before i)) → IsKnown before
    → HasControlItemCause setting before next → HasPacketItemCause setting before next
    → HasMachineCause setting before next
end_caused setting before (Item.Left packet port leaving) knows served own way =
    leaves_rightly setting before packet port leaving (knows packet) way
end_caused setting before (Item.Lost packet) knows served own way = lost_rightly before packet way
end_caused setting before (Item.FoundDown packet one two) knows served own way =
    finds_down setting before packet one two (knows packet) way
end_caused setting before (Item.Stuck packet switch cause leg down) knows served own way =
    stuck_by_claims setting before packet switch cause leg down (knows packet) way
end_caused setting before (Item.Down switch) knows served own way = way
end_caused setting before (Item.Booted switch boot) knows served own way =
    (way, not_serving before switch served own.down)
end_caused setting before (Item.LinkIs one two up) knows served own way = way
end_caused setting before (Item.Submitted file version) knows served own way = way
end_caused setting before next knows served own way = tt
