-- A switch takes a leg as the journal's definitions say.
use Rattle.std.proofs.Common.{[], ◌&&◌, ◌++◌, ◌<◌, ◌==◌, ◌||◌, ◌∙◌, ◌∷◌, ◌≡◌, Bool, Err, IsFalse, IsTrue, List, None, Ok, Option, Result, Some, ap, arith, ext_get_or, false, get_or, if◌then◌else◌, length, ltb-true, map, nat_lt, ok_or, option_map, refl, rules, sym, true, unwrap_or, ℕ}
use Rattle.base.proofs.Exports.{get_or-map-range_with_len, list_all, range_with_len}
use Rattle.controller.specs.Exports.{ControllerValue, ControllerPlanValue, controller_at_start, controller_kept_plan_tables}
use Rattle.switch_table.specs.Exports.{switch_table_lookup_of, tables_of}
use Rattle.update_machine.specs.Exports.{Action, Cause, Exit, Header, Item, JournalKnownKeeps, Leg, Net, NoAuthority, NoRoute, Ports, Seek, Setting, JournalSwitchKeeps, Tables, journal_stuck_cause_at, machine_item_concerns_links, machine_item_concerns_policies, machine_item_concerns_switch, journal_decision_of, machine_end_items, journal_found_down, journal_packet_header, holds_version as holds_in, is_cut_off_in_journal, is_up, journal_leaving_item as left, machine_leg_items, machine_lookup_at, near, machine_no_switch, owner, journal_plan_at, journal_route_from, serves as serves_in, journal_stamp_of, journal_tables_at, machine_takes_route, journal_leg_targets}
use Rattle.failover.proofs.FailoverHeldAdverts.{by_origin-first, held-first}
use Rattle.failover.specs.Exports.{first_advert, first_adverts, first_failover_advert_below, is_failover_target_isolated, route_of}
use Rattle.net_file.specs.Exports.{AreNetPortOwners, IsNet, links_of, net_port_owner, owner_in_net_ports}
use Rattle.world_log.specs.Exports.{AreLogNearMasks, log_end_item, log_left_item, log_set_item}
use Rattle.switch_core.specs.Exports.{SwitchValue, are_switch_targets_isolated, switch_site_around, switch_call_counted, switch_stuck_cause, switch_exit_by_tunnel, switch_held_tables, holds_version, switch_leave_by_port, switch_next_of, no_switch_tables, serves, switch_set_out, switch_stamp_tables}
use Rattle.refinement.specs.Exports.{refined_switch_of}
use Rattle.refinement.proofs.RefinedSwitchKnowledge.{knowledge_refines, open_shown}
use Rattle.refinement.proofs.RefinedSwitchFacts.{number_shown, stamp_shown}
use Rattle.update_machine.proofs.Exports.{known_keeps, known_link_laws, lookup_stays, near_stays, policies_keep, switch_keeps}
use Rattle.refinement.proofs.RefinedSteps.{Known}
use Rattle.switch_core.specs.declared.tunnel_calls.Packet.{Packet}
use Rattle.tunnel.specs.Exports.{TunnelValue, tunnel_begun}
use Rattle.travelling.specs.Travelling.{TravellingStanding}
use Rattle.switch_core.specs.declared.deciding.Decision.{Decision as Decided}
use Rattle.switch_core.specs.declared.tunnel_calls.Next.TheVariants as next

-- ---- switches as they begin

-- of the neighbours, those of the switches alone are told
first_same : (near other : List ℕ) (count s : ℕ) (b : Bool) → nat_lt s count ≡ b
    → (s < count → get_or near s 0 ≡ get_or other s 0)
    → first_failover_advert_below near count s ≡ first_failover_advert_below other count s
first_same near other count s true is same =
    rw is (ap (λ up. Some (first_advert s up)) (same (ltb-true s count is)))
first_same near other count s false is same = rw is refl

all_first : (near other : List ℕ) (count : ℕ)
    → ((s : ℕ) → s < count → get_or near s 0 ≡ get_or other s 0)
    → first_adverts near count ≡ first_adverts other count
all_first near other count same =
    let many : length (first_adverts near count) ≡ 64 = (by_origin-first near count).places in
    let others : length (first_adverts other count) ≡ 64 = (by_origin-first other count).places in
    ext_get_or None (first_adverts near count) (first_adverts other count)
    (many ∙ sym others)
    (λ s within. let below : s < 64 = omega (arith, within, many) in
    held-first near count s below
    ∙ first_same near other count s (nat_lt s count) refl (same s)
    ∙ sym (held-first other count s below))

-- the masks of all 64 places tell what those of the network's switches tell
pub first_near : (net : Net) (near : List ℕ) → IsNet net → AreLogNearMasks net near
    → first_adverts near (length net.switches) ≡ first_adverts (map (links_of net.links)
    (range_with_len 0 (length net.switches))) (length net.switches)
first_near net near sound are = all_first near
    (map (links_of net.links) (range_with_len 0 (length net.switches))) (length net.switches)
    (λ s within. are s (omega (arith, within, sound.few_switches)) ∙ sym (get_or-map-range_with_len
    (links_of net.links) 0 (length net.switches) s s 0 within (omega arith)))

-- the first controller's tables of version 1 are those of its plan
pub first_tables : (net : Net) (controller : ControllerValue) (plan : ControllerPlanValue)
    (tables : Tables) (s : ℕ) → controller ≡ controller_at_start (length net.switches) plan
    → controller_kept_plan_tables controller 1 s ≡ Some tables → tables ≡ tables_of plan.hosted 1 s
first_tables net controller plan tables s is found =
    cc (sym found ∙ ap (λ (c : ControllerValue). controller_kept_plan_tables c 1 s) is)

-- ---- what a switch has and knows is what the journal says, also within a step

-- the switch and the mask of its usable links are as the journal says of this one
pub record Sees (setting : Setting) (journal : List Item) (s : ℕ) (w : SwitchValue) (mask : ℕ)
    : Type 0 where
  pub number : w.number ≡ s
  pub serving : serves w ≡ serves_in journal s
  pub stamp : w.stamp ≡ journal_stamp_of journal s
  pub held : (v : ℕ) → holds_version w v ≡ holds_in journal s v
  pub tables : (v : ℕ) → switch_held_tables w v
      ≡ (if holds_in journal s v then Some (journal_tables_at setting journal v s) else None)
  pub lookup : (header : Header) → IsTrue (serves_in journal s)
      → switch_table_lookup_of w.cache.entries (switch_stamp_tables w) header ≡ machine_lookup_at setting journal s header
  pub stamped : IsTrue (serves_in journal s)
      → switch_stamp_tables w ≡ journal_tables_at setting journal (journal_stamp_of journal s) s
  pub route : (targets down : List ℕ) → route_of w.database w.number targets mask down
      ≡ journal_route_from setting journal s targets down
  pub cut_off : (target : ℕ) (down : List ℕ) → is_failover_target_isolated w.database w.number target mask down
      ≡ is_cut_off_in_journal setting journal s down target
  pub usable : mask ≡ near setting journal s

serving_of : (up serving : Bool) → (serving ≡ true → up ≡ true) → (up && serving) ≡ serving
serving_of true serving is = refl
serving_of false true is = let clash : false ≡ true = is refl in absurd cc
serving_of false false is = refl

pub sees : (setting : Setting) (journal : List Item) (s : ℕ) → Known setting journal
    → s < length setting.net.switches
    → Sees setting journal s (refined_switch_of setting journal s) (near setting journal s)
sees setting journal s knows there =
    let w : SwitchValue = refined_switch_of setting journal s in
    let mask : ℕ = near setting journal s in
    let stamp : w.stamp ≡ journal_stamp_of journal s = stamp_shown setting journal s in
    let number : w.number ≡ s = number_shown setting journal s in record {
      number = number;
      serving = open_shown setting journal s
          ∙ serving_of (is_up journal s) (serves_in journal s) (knows.serving.up s);
      stamp = stamp;
      held = knowledge_refines.held setting journal s;
      tables = λ v. knowledge_refines.tables setting journal s v knows.tables;
      lookup = λ header serving. knowledge_refines.lookup setting journal s header knows.tables
          (knows.holds s there serving).stamp;
      stamped = λ serving. ap (λ o. unwrap_or o no_switch_tables) (ap (switch_held_tables w) stamp
          ∙ knowledge_refines.tables setting journal s (journal_stamp_of journal s) knows.tables
          ∙ ap (λ b. if b then Some (journal_tables_at setting journal (journal_stamp_of journal s) s) else None)
          (knows.holds s there serving).stamp);
      route = λ targets down. ap (λ n. route_of w.database n targets mask down) number
          ∙ knowledge_refines.route setting journal s targets down;
      cut_off = λ target down. ap (λ n. is_failover_target_isolated w.database n target mask down) number
          ∙ knowledge_refines.cut_off setting journal s target down;
      usable = refl;
    }

-- one more call changes nothing of it
pub sees_counted : (setting : Setting) (journal : List Item) (s : ℕ) (w : SwitchValue) (mask : ℕ)
    → Sees setting journal s w mask → Sees setting journal s (switch_call_counted w) mask
sees_counted setting journal s w mask sees = search (rules, sees.held, sees.tables, sees.lookup, sees.stamped, sees.route, sees.cut_off)

-- nor does an item that concerns neither the switch, nor links, nor policies
pub record Spares (s : ℕ) (before : List Item) (next : Item) : Type 0 where
  pub switch : IsFalse (machine_item_concerns_switch s before next)
  pub links : IsFalse (machine_item_concerns_links before next)
  pub policies : IsFalse (machine_item_concerns_policies before next)

neither : (a b : Bool) → a ≡ false → b ≡ false → (a || b) ≡ false
neither a b one other = rw (one, other) refl

pub sees_one : (setting : Setting) (before : List Item) (next : Item) (s : ℕ) (w : SwitchValue)
    (mask : ℕ) → Spares s before next → Sees setting before s w mask
    → Sees setting (before ++ next ∷ []) s w mask
sees_one setting before next s w mask spares sees =
    let after : List Item = before ++ next ∷ [] in
    let keeps = switch_keeps setting s before (next ∷ []) (spares.switch, tt) in
    let knows : JournalKnownKeeps setting s before after =
    known_keeps setting s before (next ∷ []) (neither _ _ spares.switch spares.links, tt) in
    let plans : (v : ℕ) → journal_plan_at setting after v ≡ journal_plan_at setting before v =
    (policies_keep before (next ∷ []) (spares.policies, tt)).plan setting in
    let same : (v : ℕ) → journal_tables_at setting before v s ≡ journal_tables_at setting after v s =
    λ v. ap (λ plan. tables_of plan v s) (sym (plans v)) in
    let was : IsTrue (serves_in after s) → IsTrue (serves_in before s) =
    λ serving. sym keeps.serving ∙ serving in record {
      number = sees.number;
      serving = sees.serving ∙ sym keeps.serving;
      stamp = sees.stamp ∙ sym keeps.stamp;
      held = λ v. sees.held v ∙ sym (keeps.versions v);
      tables = λ v. sees.tables v ∙ ap (λ b. if b then Some (journal_tables_at setting before v s)
          else None) (sym (keeps.versions v))
          ∙ ap (λ (t : Tables). if holds_in after s v then Some t else None) (same v);
      lookup = λ header serving. sees.lookup header (was serving) ∙ sym (lookup_stays setting s
          header before (next ∷ []) (neither _ _ spares.switch spares.policies, tt));
      stamped = λ serving. sees.stamped (was serving) ∙ same (journal_stamp_of before s)
          ∙ ap (λ v. journal_tables_at setting after v s) (sym keeps.stamp);
      route = λ targets down. sees.route targets down ∙ sym (knows.route targets down);
      cut_off = λ target down. sees.cut_off target down ∙ sym (knows.cut_off down target);
      usable = sees.usable ∙ sym (near_stays setting s before (next ∷ []) (spares.links, tt));
    }

-- ---- taken legs

abbrev pub at_switch : ℕ → Packet → TravellingStanding
at_switch s packet = record {
  packet = packet.number;
  header = packet.header;
  ingress = packet.ingress;
  switch = s;
  down = packet.down;
}

all_same : (one other : ℕ → Bool) → ((x : ℕ) → one x ≡ other x) → (xs : List ℕ)
    → list_all one xs ≡ list_all other xs
all_same one other same [] = refl
all_same one other same (x ∷ xs) = cc (same x, all_same one other same xs)

pub cause_law : (setting : Setting) (journal : List Item) (s : ℕ) (w : SwitchValue) (mask : ℕ)
    → Sees setting journal s w mask → (down : List ℕ) (leg : Leg)
    → journal_stuck_cause_at setting journal s down leg
    ≡ switch_stuck_cause w mask down leg (journal_leg_targets setting journal leg)
unfolding switch_stuck_cause are_switch_targets_isolated
cause_law setting journal s w mask sees down (Seek version partition) =
    ap (λ b. if b then NoAuthority else NoRoute) (all_same (is_cut_off_in_journal setting journal s down)
    (λ target. is_failover_target_isolated w.database w.number target mask down) (λ target. sym
    (sees.cut_off target down)) (journal_leg_targets setting journal (Seek version partition)))
cause_law setting journal s w mask sees down (Exit port) = refl

-- by the route that the switch knows
by_route : (s : ℕ) (packet : Packet) (leg : Leg) (targets : List ℕ)
    (cause : Cause) (route : Option (List ℕ)) → elim route [
      | None ↦ Item.Stuck packet.number s cause leg packet.down ∷ []
      | Some way ↦ machine_takes_route packet.number leg way ∷ []
    ]
    ≡ log_set_item (at_switch s packet) leg (ok_or (option_map (λ way.
    tunnel_begun packet.number packet.header packet.ingress leg targets way packet.down) route) cause)
    ∷ []
by_route s packet leg targets cause None = refl
by_route s packet leg targets cause (Some route) = refl

pub leg_law : (setting : Setting) (journal : List Item) (s : ℕ) (w : SwitchValue) (mask : ℕ)
    → Sees setting journal s w mask → (packet : Packet) → journal_found_down journal packet.number
    ≡ packet.down → (leg : Leg) → machine_leg_items setting journal packet.number s leg
    ≡ log_set_item (at_switch s packet) leg (switch_set_out w mask packet leg (journal_leg_targets setting journal leg))
    ∷ []
unfolding machine_leg_items switch_set_out
leg_law setting journal s w mask sees packet found leg =
    let targets : List ℕ = journal_leg_targets setting journal leg in
    let by : Cause → List ℕ → Option (List ℕ) → List Item = λ cause down route. elim route [
      | None ↦ Item.Stuck packet.number s cause leg down ∷ []
      | Some way ↦ machine_takes_route packet.number leg way ∷ []
    ] in
    ap (λ down. by (journal_stuck_cause_at setting journal s down leg) down
    (journal_route_from setting journal s targets down)) found
    ∙ ap (by (journal_stuck_cause_at setting journal s packet.down leg) packet.down)
    (sym (sees.route targets packet.down))
    ∙ ap (λ cause. by cause packet.down (route_of w.database w.number targets mask packet.down))
    (cause_law setting journal s w mask sees packet.down leg)
    ∙ by_route s packet leg targets (switch_stuck_cause w mask packet.down leg targets)
    (route_of w.database w.number targets mask packet.down)

-- ---- a decided packet ends at a switch, or sets out for its port, as the journal's definitions
-- say

-- what the journal says of a packet that was decided just now
pub record IsDecided (journal : List Item) (packet : Packet) (decision : Decided) : Type 0 where
  pub entered : journal_packet_header journal packet.number ≡ Some packet.header
  pub found : journal_found_down journal packet.number ≡ packet.down
  pub decided : journal_decision_of journal packet.number ≡ Some (record {
    version = decision.version;
    rule = decision.rule;
    action = decision.action;
  })

exit_item : (at : TravellingStanding) (decision : Decided) (port : ℕ) (way : Result TunnelValue Cause)
    → decision.action ≡ Action.Out port
    → log_set_item at (Exit port) way ≡ log_end_item at decision (switch_exit_by_tunnel way)
exit_item at decision port (Ok tunnel) is = refl
exit_item at decision port (Err cause) is = rw is refl

-- out by a port of this switch, or on the way to another one's
out_law : (setting : Setting) (journal : List Item) (s : ℕ) (w : SwitchValue) (mask : ℕ)
    → Sees setting journal s w mask → (packet : Packet) (decision : Decided)
    → IsDecided journal packet decision → (port its : ℕ) → decision.action ≡ Action.Out port
    → owner setting port ≡ its → (b : Bool) → (its == s) ≡ b
    → machine_end_items setting packet.number s (Action.Out port) journal
    ≡ log_end_item (at_switch s packet) decision (switch_leave_by_port w mask packet port (Some its)) ∷ []
unfolding machine_end_items switch_leave_by_port
out_law setting journal s w mask sees packet decision said port its acts owns true here =
    let i : ℕ = packet.number in
    let way : Result TunnelValue Cause = switch_set_out w mask packet (Exit port) (its ∷ []) in
    ap (λ b. elim b [
      | true ↦ left journal i port ∷ []
      | false ↦ machine_leg_items setting journal i s (Exit port)
    ]) (ap (λ o. o == s) owns ∙ here)
    ∙ ap (λ one. one ∷ []) (rw (said.entered, said.decided) refl)
    ∙ sym (ap (λ b. log_end_item (at_switch s packet) decision
    (if b then next.Out port else switch_exit_by_tunnel way) ∷ []) (ap (λ n. its == n) sees.number ∙ here))
out_law setting journal s w mask sees packet decision said port its acts owns false here =
    let at : TravellingStanding = at_switch s packet in
    let i : ℕ = packet.number in
    let way : Result TunnelValue Cause = switch_set_out w mask packet (Exit port) (its ∷ []) in
    ap (λ b. elim b [
      | true ↦ left journal i port ∷ []
      | false ↦ machine_leg_items setting journal i s (Exit port)
    ]) (ap (λ o. o == s) owns ∙ here)
    ∙ leg_law setting journal s w mask sees packet said.found (Exit port)
    ∙ ap (λ o. log_set_item at (Exit port) (switch_set_out w mask packet (Exit port) (o ∷ [])) ∷ []) owns
    ∙ ap (λ one. one ∷ []) (exit_item at decision port way acts)
    ∙ sym (ap (λ b. log_end_item at decision (if b then next.Out port else switch_exit_by_tunnel way) ∷ [])
    (ap (λ n. its == n) sees.number ∙ here))

-- a port that no switch has
portless_law : (setting : Setting) (journal : List Item) (s : ℕ) (w : SwitchValue) (mask : ℕ)
    → s < 64 → (packet : Packet) (decision : Decided) → IsDecided journal packet decision
    → (port : ℕ) → decision.action ≡ Action.Out port → net_port_owner setting.net.switches port ≡ None
    → machine_end_items setting packet.number s (Action.Out port) journal
    ≡ log_end_item (at_switch s packet) decision (switch_leave_by_port w mask packet port None) ∷ []
unfolding switch_leave_by_port
portless_law setting journal s w mask there packet decision said port acts none =
    let i : ℕ = packet.number in
    known_link_laws.portless setting journal i s port there none
    ∙ ap (λ down. Item.Stuck i s NoRoute (Exit port) down ∷ []) said.found
    ∙ sym (rw acts refl)

pub end_law : (setting : Setting) (journal : List Item) (s : ℕ) (w : SwitchValue) (mask : ℕ)
    → Sees setting journal s w mask
    → s < 64 → (ports : Ports) → AreNetPortOwners setting.net.switches ports
    → (packet : Packet) (decision : Decided) → IsDecided journal packet decision
    → (what : Action) → decision.action ≡ what → machine_end_items setting packet.number s what journal
    ≡ log_end_item (at_switch s packet) decision (switch_next_of w (switch_site_around mask ports) packet what) ∷ []
unfolding machine_end_items switch_next_of
end_law setting journal s w mask sees there ports owners packet decision said Action.Drop acts =
    refl
end_law setting journal s w mask sees there ports owners packet decision said (Action.Out port)
    acts = by_owner (net_port_owner setting.net.switches port) refl
  where
    at_owner : Option ℕ → Item
    at_owner o = log_end_item (at_switch s packet) decision (switch_leave_by_port w mask packet port o)

    by_owner : (o : Option ℕ) → net_port_owner setting.net.switches port ≡ o
        → machine_end_items setting packet.number s (Action.Out port) journal
        ≡ at_owner (owner_in_net_ports ports port) ∷ []
    by_owner None none =
        portless_law setting journal s w mask there packet decision said port acts none
        ∙ ap (λ o. at_owner o ∷ []) (sym (owners port ∙ none))
    by_owner (Some its) is = out_law setting journal s w mask sees packet decision said port its
        acts (ap (λ o. unwrap_or o machine_no_switch) is) (its == s) refl
        ∙ ap (λ o. at_owner o ∷ []) (sym (owners port ∙ is))
