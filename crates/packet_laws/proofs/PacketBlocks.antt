-- The blocks of a packet's items have their causes, whatever journal they follow.
use Rattle.std.proofs.Common.{[], ◌++◌, ◌∙◌, ◌∷◌, ◌≡◌, ◌⊎◌, Bool, IsTrue, List, None, Option, Some, false, inl, inr, refl, rules, slice_get, subst, sym, true, unwrap_or, ℕ}
use Rattle.base.proofs.Exports.{option_or}
use Rattle.update_machine.specs.Exports.{Action, MachineAuthorityRule, Decision, Exit, Found, JournalItemsHaveCauses, Header, How, Item, Leg, Lose, Message, Seek, Setting, journal_leg_arrival_items, machine_arrive_items, machine_authority_items, journal_authority_rule, journal_cache_items, journal_decision_of, machine_end_items, machine_first_rule_place, journal_found_down, machine_found_items, machine_item_gives_decision, machine_item_gives_serving, machine_item_gives_standing, machine_item_gives_travelling, machine_onward_items, journal_packet_header_at, journal_packet_header, holds_version, machine_hop_items, machine_blocks_in_turn, journal_items_then, machine_leg_items, journal_leg_of, machine_lookup_at, machine_lookup_items, machine_lose_items, machine_move_items, near, journal_next_switch, nothing, machine_packet_items, journal_plan_at, journal_present_step, journal_reroute_by, machine_reroute_items, journal_packet_route, journal_route_in, journal_route_place, machine_sent_items_from, serves, journal_stamp_of, journal_standing_of, machine_stuck_on_leg_item, machine_takes_route, travels_in_journal}
use Rattle.base.specs.Exports.{has}
use Rattle.update_machine.proofs.Exports.{folded_append, have_append, have_first, last_given_append, lookup_stays, near_stays, policies_keep, switch_keeps}
use Rattle.control_laws.proofs.Exports.{last_more, own, serving_more}
use Rattle.packet_laws.specs.Exports.{ArePacketsResting, PacketArrivesHere, PacketAuthorityFinds, Blocked, CameIn, IsPacketAt, IsPacketLookedUp, IsPacketLookedUpBy, PacketIsOfRow, Judged, OnWay, HasPacketItemCause, PacketReachesAuthority, PacketStage, PacketTakesLeg, gives_packet_stage, packet_stage_of}
use Rattle.packet_laws.proofs.PacketKnownRoutes.{first_usable}

abbrev pub Ways : Setting → List Item → List Item → Type 0
Ways setting journal items = JournalItemsHaveCauses (HasPacketItemCause setting) journal items

-- ---- what stays behind one more item

pub travels_more : (before : List Item) (next : Item) (i : ℕ)
    → travels_in_journal (before ++ next ∷ []) i ≡ unwrap_or (machine_item_gives_travelling i next) (travels_in_journal before i)
unfolding travels_in_journal
travels_more before next i = last_more (machine_item_gives_travelling i) before next false

-- an item with which it ends
pub ended : (before : List Item) (next : Item) (i : ℕ) → machine_item_gives_travelling i next ≡ Some false
    → travels_in_journal (before ++ next ∷ []) i ≡ false
ended before next i ends = rw (travels_more before next i, ends) refl

pub standing_more : (before : List Item) (next : Item) (i : ℕ)
    → journal_standing_of (before ++ next ∷ []) i ≡ option_or (machine_item_gives_standing i next) (journal_standing_of before i)
unfolding journal_standing_of
standing_more before next i = last_given_append (machine_item_gives_standing i) before (next ∷ [])

pub stage_next : (before : List Item) (next : Item) (i : ℕ)
    → packet_stage_of (before ++ next ∷ []) i ≡ option_or (gives_packet_stage i next) (packet_stage_of before i)
unfolding packet_stage_of
stage_next before next i = last_given_append (gives_packet_stage i) before (next ∷ [])

pub stage_more : (before : List Item) (next : Item) (i : ℕ) (stage : PacketStage)
    → gives_packet_stage i next ≡ Some stage → packet_stage_of (before ++ next ∷ []) i ≡ Some stage
stage_more before next i stage tells = rw (stage_next before next i, tells) refl

pub stage_stays : (before : List Item) (next : Item) (i : ℕ) → gives_packet_stage i next ≡ None
    → packet_stage_of (before ++ next ∷ []) i ≡ packet_stage_of before i
stage_stays before next i tells = rw (stage_next before next i, tells) refl

-- an item that leaves a packet where it is
pub still : (before : List Item) (next : Item) (i s : ℕ) → machine_item_gives_travelling i next ≡ None
    → machine_item_gives_standing i next ≡ None → machine_item_gives_serving s next ≡ None → IsPacketAt before i s
    → IsPacketAt (before ++ next ∷ []) i s
still before next i s travelling stands serving at =
    search (rules, travels_more, standing_more, serving_more)

-- ---- legs

takes_cause : (setting : Setting) (journal : List Item) (i s : ℕ) (leg : Leg) (route : List ℕ)
    → IsPacketAt journal i s → PacketTakesLeg setting journal i s leg
    → journal_packet_route setting journal i s leg ≡ Some route
    → HasPacketItemCause setting journal (machine_takes_route i leg route)
takes_cause setting journal i s (Seek version partition) route at takes leads =
    record { switch = s; at = at; takes = takes; leads = leads }
takes_cause setting journal i s (Exit port) route at takes leads =
    record { port = port; by = record { switch = s; at = at; takes = takes; leads = leads } }

pub leg_ways : (setting : Setting) (journal : List Item) (i s : ℕ) (leg : Leg) → IsPacketAt journal i s
    → PacketTakesLeg setting journal i s leg → Ways setting journal (machine_leg_items setting journal i s leg)
unfolding machine_leg_items
leg_ways setting journal i s leg at takes = search rules

-- ---- ends

-- the packet was just decided at the switch
pub record IsDecidedHere (journal : List Item) (i s : ℕ) (decision : Decision) : Type 0 where
  pub at : IsPacketAt journal i s
  pub judged : packet_stage_of journal i ≡ Some Judged
  pub decided : journal_decision_of journal i ≡ Some decision

pub end_ways : (setting : Setting) (journal : List Item) (i s : ℕ) (decision : Decision)
    (act : Action) → IsDecidedHere journal i s decision → decision.action ≡ act
    → Ways setting journal (machine_end_items setting i s act journal)
unfolding machine_end_items
end_ways setting journal i s decision act here says = search (rules, leg_ways)

-- ---- decisions

judged_now : (journal : List Item) (i s version : ℕ) (rule : Option ℕ) (act : Action) (by : How)
    → IsPacketAt journal i s → IsDecidedHere (journal ++ Item.Decided i version rule act by ∷ []) i s
    (record { version = version; rule = rule; action = act })
unfolding journal_decision_of
judged_now journal i s version rule act by at =
    let decided : Item = Item.Decided i version rule act by in record {
      at = still journal decided i s refl refl refl at;
      judged = stage_more journal decided i Judged (rw (own i) refl);
      decided = rw (last_given_append (machine_item_gives_decision i) journal (decided ∷ []), own i) refl;
    }

judged_on : (journal : List Item) (i s number : ℕ) (message : Message) (decision : Decision)
    → IsDecidedHere journal i s decision
    → IsDecidedHere (journal ++ Item.Sent number message ∷ []) i s decision
unfolding journal_decision_of
judged_on journal i s number message decision here =
    let sent : Item = Item.Sent number message in record {
      at = still journal sent i s refl refl refl here.at;
      judged = stage_stays journal sent i refl ∙ here.judged;
      decided = last_given_append (machine_item_gives_decision i) journal (sent ∷ []) ∙ here.decided;
    }

header_more : (journal : List Item) (i version : ℕ) (rule : Option ℕ) (act : Action) (by : How)
    → journal_packet_header (journal ++ Item.Decided i version rule act by ∷ []) i ≡ journal_packet_header journal i
unfolding journal_packet_header
header_more journal i version rule act by = search (rules, last_given_append)

leg_more : (journal : List Item) (i version : ℕ) (rule : Option ℕ) (act : Action) (by : How)
    → journal_leg_of (journal ++ Item.Decided i version rule act by ∷ []) i ≡ journal_leg_of journal i
unfolding journal_leg_of
leg_more journal i version rule act by = search (rules, folded_append)

-- a decision changes nothing of what decides
finds_on : (setting : Setting) (journal : List Item) (i s version : ℕ) (found : MachineAuthorityRule)
    (rule : Option ℕ) (act : Action) (by : How) → PacketAuthorityFinds setting journal i s version found
    → PacketAuthorityFinds setting (journal ++ Item.Decided i version rule act by ∷ []) i s version found
finds_on setting journal i s version found rule act by finds =
    let decided : Item = Item.Decided i version rule act by in
    let same_plan : journal_plan_at setting (journal ++ decided ∷ []) version
    ≡ journal_plan_at setting journal version = (policies_keep journal _ (refl, tt)).plan setting version in
    let same_header = header_more journal i version rule act by in
    let same_stamp : journal_stamp_of (journal ++ decided ∷ []) s ≡ journal_stamp_of journal s =
    (switch_keeps setting s journal (decided ∷ []) (refl, tt)).stamp in record {
      partition = finds.partition;
      place = finds.place;
      rule = rw (same_plan, journal_authority_rule) finds.rule;
      says = elim finds.says [
        | inl here ↦ inl (record {
          answer = rw (
            same_header,
            lookup_stays setting s (journal_packet_header_at journal i) journal (decided ∷ []) (refl, tt),
          ) here.answer;
          stamp = here.stamp ∙ sym same_stamp;
        })
        | inr sought ↦ inr (record {
          seeks = leg_more journal i version rule act by ∙ sought.seeks;
          first = rw (same_header, same_plan, machine_first_rule_place) sought.first;
        })
      ];
    }

cache_ways : (setting : Setting) (journal : List Item) (i s : ℕ) (found : MachineAuthorityRule)
    → let decision : Decision = record {
      version = found.version;
      rule = found.rule.rule;
      action = found.rule.action;
    } in
    IsDecidedHere journal i s decision → PacketAuthorityFinds setting journal i s found.version found
    → Ways setting journal
    (machine_blocks_in_turn (journal_cache_items setting i s found ∷ machine_end_items setting i s found.rule.action ∷ []) journal)
unfolding journal_cache_items machine_sent_items_from
cache_ways setting journal i s found here finds = search (rules, have_append, end_ways, judged_on)

-- the packet is looked up or arrives where its rule is found
abbrev pub WhenDecided : List Item → ℕ → ℕ → ℕ → Type 0
WhenDecided journal i s version =
    IsPacketLookedUpBy journal i s version ⊎ PacketReachesAuthority journal i s version

pub authority_ways : (setting : Setting) (journal : List Item) (i s version : ℕ)
    (o : Option MachineAuthorityRule) → IsPacketAt journal i s → WhenDecided journal i s version
    → ((found : MachineAuthorityRule) → o ≡ Some found
    → (found.version ≡ version) × PacketAuthorityFinds setting journal i s version found)
    → Ways setting journal (machine_authority_items setting i s o journal)
unfolding machine_authority_items
authority_ways setting journal i s version None at when finds = tt
authority_ways setting journal i s version (Some found) at when finds =
    let own_version : found.version ≡ version = (finds found refl).0 in
    let here = subst (λ v. PacketAuthorityFinds setting journal i s v found) (sym own_version)
    (finds found refl).1 in
    have_first (HasPacketItemCause setting)
    (Item.Decided i found.version found.rule.rule found.rule.action
    (How.Authority s found.part.number))
    (machine_blocks_in_turn (journal_cache_items setting i s found ∷ machine_end_items setting i s found.rule.action ∷ []))
    journal
    (record {
      switch = s;
      at = at;
      by = (
        refl,
        record {
          found = found;
          finds = here;
          when = subst (WhenDecided journal i s) (sym own_version) when;
          by_rule = refl;
          says = refl;
          of_part = refl;
        },
      );
    })
    (cache_ways setting _ i s found (judged_now journal i s found.version found.rule.rule _ _ at)
    (finds_on setting journal i s found.version found found.rule.rule found.rule.action _ here))

-- the rule of a partition is of its version
rule_version : (setting : Setting) (journal : List Item) (version partition place : ℕ)
    (found : MachineAuthorityRule) → journal_authority_rule setting journal version partition place ≡ Some found
    → found.version ≡ version
rule_version setting journal version partition place found is = search rules

found_ways : (setting : Setting) (journal : List Item) (i s : ℕ) (what : Found) → IsPacketAt journal i s
    → IsPacketLookedUp journal i s → machine_lookup_at setting journal s (journal_packet_header_at journal i) ≡ what
    → Ways setting journal (machine_found_items setting i s what journal)
found_ways setting journal i s (Found.Cached entry) at looked answer =
    have_first (HasPacketItemCause setting)
    (Item.Decided i entry.version entry.rule entry.action (How.Cached entry.message))
    (machine_end_items setting i s entry.action) journal
    (record { switch = s; at = at; by = search (rules, looked, answer) }) (end_ways setting _ i s
    (record { version = entry.version; rule = entry.rule; action = entry.action }) entry.action
    (judged_now journal i s entry.version entry.rule entry.action (How.Cached entry.message) at)
    refl)
found_ways setting journal i s (Found.Authority partition place) at looked answer =
    authority_ways setting journal i s (journal_stamp_of journal s)
    (journal_authority_rule setting journal (journal_stamp_of journal s) partition place) at (inl (looked, refl))
    (λ rule is. (
      rule_version setting journal (journal_stamp_of journal s) partition place rule is,
      record {
        partition = partition;
        place = place;
        rule = is;
        says = inl (record { answer = answer; stamp = refl });
      },
    ))
found_ways setting journal i s (Found.Redirect partition targets) at looked answer =
    search (rules, leg_ways)

pub lookup_ways : (setting : Setting) (journal : List Item) (i s : ℕ) → IsPacketAt journal i s
    → IsPacketLookedUp journal i s → Ways setting journal (machine_lookup_items setting i s journal)
unfolding machine_lookup_items
lookup_ways setting journal i s at looked = search (rules, found_ways)

-- ---- on the way

arrive_ways : (setting : Setting) (journal : List Item) (i s : ℕ) → IsPacketAt journal i s
    → PacketArrivesHere journal i → Ways setting journal (machine_arrive_items setting i s journal)
unfolding machine_arrive_items
arrive_ways setting journal i s at arrives = by_leg (journal_leg_of journal i) refl where
  by_held : (version partition : ℕ) (b : Bool) → journal_leg_of journal i ≡ Some (Seek version partition)
      → holds_version journal s version ≡ b → Ways setting journal (elim b [
        | false ↦ machine_lookup_items setting i s journal
        | true ↦ machine_authority_items setting i s (journal_authority_rule setting journal version partition
            (machine_first_rule_place setting journal version partition (journal_packet_header_at journal i))) journal
      ])
  by_held version partition false seeks held = lookup_ways setting journal i s at (inr (record {
    arrives = arrives;
    version = version;
    partition = partition;
    seeks = seeks;
    missing = held;
  }))
  by_held version partition true seeks held =
      let place : ℕ = machine_first_rule_place setting journal version partition (journal_packet_header_at journal i) in
      authority_ways setting journal i s version
      (journal_authority_rule setting journal version partition place) at
      (inr (record { arrives = arrives; partition = partition; seeks = seeks; held = held }))
      (λ rule is. (
        rule_version setting journal version partition place rule is,
        record {
          partition = partition;
          place = place;
          rule = is;
          says = inr (record { seeks = seeks; first = refl });
        },
      ))

  by_leg : (o : Option Leg) → journal_leg_of journal i ≡ o
      → Ways setting journal (journal_leg_arrival_items setting i s o journal)
  by_leg None e = tt
  by_leg (Some (Exit port)) e =
      (record { switch = s; at = at; at_port = inr (arrives, e); own = refl }, tt)
  by_leg (Some (Seek version partition)) e = by_held version partition _ e refl

-- behind a new route the packet is at its first place
route_now : (journal : List Item) (i : ℕ) (route : List ℕ)
    → journal_next_switch (journal ++ Item.Rerouted i route ∷ []) i ≡ slice_get route 1
unfolding journal_next_switch journal_route_in journal_route_place
route_now journal i route = rw (last_given_append, folded_append, own) refl

go_on_ways : (setting : Setting) (journal : List Item) (i s : ℕ) → IsPacketAt journal i s
    → packet_stage_of journal i ≡ Some OnWay
    → ((next : ℕ) → journal_next_switch journal i ≡ Some next → IsTrue (has (near setting journal s) next))
    → Ways setting journal (machine_onward_items setting i s journal)
go_on_ways setting journal i s at moving usable = search (rules, arrive_ways)

reroute_ways : (setting : Setting) (journal : List Item) (i s : ℕ) → IsPacketAt journal i s
    → packet_stage_of journal i ≡ Some Blocked → Ways setting journal (machine_reroute_items setting i s journal)
unfolding machine_reroute_items
reroute_ways setting journal i s at blocked = by_leg (journal_leg_of journal i) refl where
  detour : (leg : Leg) (route : List ℕ) → journal_leg_of journal i ≡ Some leg
      → journal_packet_route setting journal i s leg ≡ Some route
      → Ways setting journal (journal_items_then (Item.Rerouted i route ∷ []) (machine_onward_items setting i s) journal)
  detour leg route takes leads = let turned : Item = Item.Rerouted i route in
      have_first (HasPacketItemCause setting) turned (machine_onward_items setting i s) journal
      (record {
        switch = s;
        at = at;
        leg = leg;
        blocked = record { blocked = blocked; takes = takes };
        leads = leads;
      })
      (go_on_ways setting _ i s (still journal turned i s refl refl refl at) (stage_more journal
      turned i OnWay (rw (own i) refl)) (λ next goes_on. subst (λ links. IsTrue (has links next))
      (sym (near_stays setting s journal (turned ∷ []) (refl, tt))) (first_usable setting journal s
      next _ (journal_found_down journal i) route leads (sym (route_now journal i route) ∙ goes_on))))

  by_route : (leg : Leg) (o : Option (List ℕ)) → journal_leg_of journal i ≡ Some leg
      → journal_packet_route setting journal i s leg ≡ o → Ways setting journal (elim o [
        | None ↦ machine_stuck_on_leg_item setting journal i s leg ∷ []
        | Some route ↦ journal_items_then (Item.Rerouted i route ∷ []) (machine_onward_items setting i s) journal
      ])
  by_route leg None takes none = (
    record {
      at = at;
      on = inr (record { blocked = blocked; takes = takes });
      none = none;
      why = refl;
      found = refl;
    },
    tt,
  )
  by_route leg (Some route) takes leads = detour leg route takes leads

  by_leg : (o : Option Leg) → journal_leg_of journal i ≡ o
      → Ways setting journal (journal_reroute_by setting i s o journal)
  by_leg None e = tt
  by_leg (Some leg) e = by_route leg (journal_packet_route setting journal i s leg) e refl

move_ways : (setting : Setting) (journal : List Item) (i s : ℕ) → IsPacketAt journal i s
    → packet_stage_of journal i ≡ Some OnWay → Ways setting journal (machine_move_items setting i s journal)
unfolding machine_move_items
move_ways setting journal i s at moving = by_next (journal_next_switch journal i) refl where
  by_link : (next : ℕ) (b : Bool) → journal_next_switch journal i ≡ Some next
      → has (near setting journal s) next ≡ b → Ways setting journal (elim b [
        | true ↦ Item.Hopped i next ∷ []
        | false ↦ journal_items_then (Item.FoundDown i s next ∷ []) (machine_reroute_items setting i s) journal
      ])
  by_link next true goes_on e =
      (record { switch = s; at = at; moving = moving; goes_on = goes_on; usable = e }, tt)
  by_link next false goes_on e = let met : Item = Item.FoundDown i s next in
      have_first (HasPacketItemCause setting) met (machine_reroute_items setting i s) journal
      (record { at = at; moving = moving; goes_on = goes_on; unusable = e })
      (reroute_ways setting (journal ++ met ∷ []) i s (still journal met i s refl refl refl at)
      (stage_more journal met i Blocked (rw (own i) refl)))

  by_next : (o : Option ℕ) → journal_next_switch journal i ≡ o → Ways setting journal (elim o [
    | None ↦ machine_arrive_items setting i s journal
    | Some next ↦ elim (has (near setting journal s) next) [
      | true ↦ Item.Hopped i next ∷ []
      | false ↦ journal_items_then (Item.FoundDown i s next ∷ []) (machine_reroute_items setting i s) journal
    ]
  ])
  by_next None e = arrive_ways setting journal i s at (record { moving = moving; last = e })
  by_next (Some next) e = by_link next (has (near setting journal s) next) e refl

-- ---- steps of packets

entered_at : (journal : List Item) (i s : ℕ) (header : Header) → IsTrue (serves journal s)
    → IsPacketAt (journal ++ Item.Entered i s header ∷ []) i s
entered_at journal i s header serving = search (rules, travels_more, standing_more, serving_more)

pub packet_ways : (setting : Setting) (journal : List Item) (i s : ℕ) (header : Header)
    → PacketIsOfRow journal i s header → Ways setting journal (machine_packet_items setting i s header journal)
unfolding machine_packet_items
packet_ways setting journal i s header of_row = by_serving (serves journal s) refl where
  by_serving : (b : Bool) → serves journal s ≡ b → Ways setting journal (elim b [
    | false ↦ Item.Closed i s ∷ []
    | true ↦ journal_items_then (Item.Entered i s header ∷ []) (machine_lookup_items setting i s) journal
  ])
  by_serving false e = (((header, of_row), e), tt)
  by_serving true e = let entered : Item = Item.Entered i s header in
      have_first (HasPacketItemCause setting) entered (machine_lookup_items setting i s) journal (of_row, e)
      (lookup_ways _ _ i s (entered_at _ i s _ e) (inl (stage_more _ _ i CameIn (rw (own i) refl))))

pub hop_ways : (setting : Setting) (journal : List Item) (i : ℕ) → ArePacketsResting journal
    → Ways setting journal (machine_hop_items setting i journal)
unfolding machine_hop_items
hop_ways setting journal i rests = search (rules, move_ways)

pub lose_ways : (setting : Setting) (journal : List Item) (i : ℕ)
    → journal_present_step journal ≡ Some (Lose i) → Ways setting journal (machine_lose_items i journal)
unfolding machine_lose_items
lose_ways setting journal i loses = search rules
