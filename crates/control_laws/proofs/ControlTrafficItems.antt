-- Items of packets and of links, and messages between switches: they boot and open no switch,
-- deliver nothing and move no mark, whatever journal they follow.
use Rattle.std.proofs.Common.{[], ◌++◌, ◌<◌, ◌∷◌, ◌≡◌, Bool, IfSome, IsFalse, IsTrue, List, None, Option, Some, arith, false, filter, flat_map, length, map, option_map, refl, slice_get, true, unwrap_or, ℕ}
use Rattle.base.proofs.Exports.{AllByRecursion, each_append, each_flat_map, each_map, ⊤}
use Rattle.update_machine.specs.Exports.{Action, Advert, Advertise, MachineAuthorityRule, Body, CacheRule, Exit, Expire, Forget, Found, JournalItemsHaveCauses, Header, Hop, How, Item, Leg, LinkDown, LinkUp, Lose, Message, Place, Rule, Seek, Setting, Step, machine_advert_to, journal_leg_arrival_items, machine_arrive_items, machine_authority_items, journal_authority_rule, journal_cache_items, machine_cache_rule, machine_end_items, machine_expire_items, machine_first_rule_place, machine_forget_items, journal_found_down, machine_found_items, machine_onward_items, journal_usable_links_changed, journal_packet_header_at, journal_held_adverts, holds_version, machine_hop_items, machine_blocks_in_turn, journal_ingress_of, is_at_machine_switch, is_deliverable, is_journal_version, journal_items_then, machine_leg_items, journal_leg_of, journal_link_changes, machine_link_items, machine_lookup_at, machine_lookup_items, machine_lose_items, machine_messages_of, machine_messages_over_link, machine_move_items, near, nothing, own_advert, machine_packet_items, machine_advert_passed_on, journal_plan_at, journal_reroute_by, machine_reroute_items, journal_packet_route, journal_route_from, machine_send_items, machine_sent_items_from, serves, journal_stamp_of, machine_step_items, machine_stuck_on_leg_item, machine_switches_in, machine_switches_of, machine_takes_route, journal_leg_targets}
use Rattle.base.specs.Exports.{has}
use Rattle.update_machine.proofs.Exports.{have_first, have_in_turn, have_put, part_there, version_kept}
use Rattle.partition.specs.Plan.{HostedPolicyPartition}
use Rattle.switch_table.specs.Exports.{switch_table_part_of}
use Rattle.control_laws.specs.Exports.{HasControlItemCause, IsRightControlMessage}
use Rattle.control_laws.proofs.ControlFactsGrown.{Has, have_weaker}
use Rattle.control_laws.proofs.ControlMessageSends.{each_of_network}
use Rattle.control_laws.proofs.ControlCommands.{sends_each}

-- the switch where some packet entered
pub record IsIngress (before : List Item) (s : ℕ) : Type 0 where
  pub packet : ℕ
  pub ingress : s ≡ unwrap_or (journal_ingress_of before packet) 0

-- a cache rule of a version that is there goes to an ingress
abbrev pub IsRuleTo : List Item → Place → Body → Type 0
IsRuleTo before (Place.Switch s) (CacheRule version word rule action) =
    IsTrue (is_journal_version before version) × IsIngress before s
IsRuleTo before to body = ⊥

-- what such rules have
pub rule_cases : (before : List Item) (P : Place → Body → Type 0)
    → ((s version : ℕ) (word : _) (rule : Option ℕ) (action : Action) → IsTrue (is_journal_version before
    version) → IsIngress before s → P (Place.Switch s) (CacheRule version word rule action))
    → (to : Place) (body : Body) → IsRuleTo before to body → P to body
rule_cases before P rules (Place.Switch s) (CacheRule version word rule action) is =
    rules s version word rule action is.0 is.1
rule_cases before P rules to body is = absurd is

-- the switch knows no route without the links that the packet found down
pub record KnowsNoRoute (setting : Setting) (before : List Item) (i s : ℕ) (leg : Leg)
    (down : List ℕ) : Type 0 where
  pub found : down ≡ journal_found_down before i
  pub none : journal_route_from setting before s (journal_leg_targets setting before leg) down ≡ None

-- what becomes of packets once they entered, and of messages and cache rules that end. Nothing is
-- sent but cache rules, nothing is forgotten that can't be delivered, and no link changes. A packet
-- is stuck only where its switch knows no route, and finds down only links that aren't usable
abbrev pub IsWork : Setting → List Item → Item → Type 0
IsWork setting before (Item.Sent number message) = IsRuleTo before message.to message.body
IsWork setting before (Item.Stuck i s cause leg down) = KnowsNoRoute setting before i s leg down
IsWork setting before (Item.FoundDown i one two) = IsFalse (has (near setting before one) two)
IsWork setting before (Item.Entered packet s header) = ⊥
IsWork setting before (Item.Delivered number) = ⊥
IsWork setting before (Item.Forgotten number) = IsTrue (is_deliverable before number)
IsWork setting before (Item.LinkIs one two up) = ⊥
IsWork setting before (Item.Down s) = ⊥
IsWork setting before (Item.Booted s boot) = ⊥
IsWork setting before (Item.Opened s version) = ⊥
IsWork setting before (Item.OverNow s) = ⊥
IsWork setting before (Item.Submitted file version) = ⊥
IsWork setting before (Item.Current version) = ⊥
IsWork setting before (Item.Retired version) = ⊥
IsWork setting before _ = ⊤

abbrev pub Work : Setting → List Item → List Item → Type 0
Work setting journal items = JournalItemsHaveCauses (IsWork setting) journal items

-- a message of a switch to another one: such a rule, or an advert to a switch of the network
abbrev pub IsBetween : Setting → List Item → Place → Body → Type 0
IsBetween setting before (Place.Switch s) (Advertise advert) = s < length setting.net.switches
IsBetween setting before to body = IsRuleTo before to body

abbrev pub IsTraffic : Setting → List Item → Item → Type 0
IsTraffic setting before (Item.Sent number message) =
    IsBetween setting before message.to message.body
IsTraffic setting before (Item.LinkIs one two up) = ⊤
IsTraffic setting before next = IsWork setting before next

abbrev pub Traffic : Setting → List Item → List Item → Type 0
Traffic setting journal items = JournalItemsHaveCauses (IsTraffic setting) journal items

-- what rules have and adverts
pub between_cases : (setting : Setting) (before : List Item) (P : Place → Body → Type 0)
    → ((s version : ℕ) (word : _) (rule : Option ℕ) (action : Action) → IsTrue (is_journal_version before
    version) → IsIngress before s → P (Place.Switch s) (CacheRule version word rule action))
    → ((s : ℕ) (advert : Advert) → s < length setting.net.switches
    → P (Place.Switch s) (Advertise advert))
    → (to : Place) (body : Body) → IsBetween setting before to body → P to body
between_cases setting before P rules adverts (Place.Switch s) (Advertise advert) is =
    adverts s advert is
between_cases setting before P rules adverts to body is = rule_cases before P rules to body is

-- of such items nothing is asked
pub traffic_right : (setting : Setting) (before : List Item) (next : Item)
    → IsTraffic setting before next → HasControlItemCause setting before next
traffic_right setting before (Item.Sent number message) is = between_cases setting before
    (IsRightControlMessage setting before) (λ s version word rule action there ingress. tt)
    (λ s advert there. tt) message.to message.body is
traffic_right setting before (Item.Entered packet s header) is = absurd is
traffic_right setting before (Item.Down s) is = absurd is
traffic_right setting before (Item.Booted s boot) is = absurd is
traffic_right setting before (Item.Opened s version) is = absurd is
traffic_right setting before (Item.OverNow s) is = absurd is
traffic_right setting before (Item.Submitted file version) is = absurd is
traffic_right setting before (Item.Current version) is = absurd is
traffic_right setting before (Item.Retired version) is = absurd is
traffic_right setting before _ is = tt

pub traffic_has : (setting : Setting) (journal items : List Item) → Traffic setting journal items
    → Has setting journal items
traffic_has setting = have_weaker (IsTraffic setting) (HasControlItemCause setting) (traffic_right setting)

-- work is traffic
work_is_traffic : (setting : Setting) (before : List Item) (next : Item)
    → IsWork setting before next → IsTraffic setting before next
work_is_traffic setting before (Item.Sent number message) is =
    rule_cases before (IsBetween setting before)
    (λ s version word rule action there ingress. (there, ingress)) message.to message.body is
work_is_traffic setting before (Item.LinkIs one two up) is = absurd is
work_is_traffic setting before next is = is

-- ---- packets

leg_work : (setting : Setting) (journal : List Item) (i s : ℕ) (leg : Leg)
    → Work setting journal (machine_leg_items setting journal i s leg)
unfolding machine_leg_items
leg_work setting journal i s leg = by_route (journal_packet_route setting journal i s leg) refl where
  takes : (leg : Leg) (route : List ℕ) → Work setting journal (machine_takes_route i leg route ∷ [])
  takes (Seek version partition) route = (tt, tt)
  takes (Exit port) route = (tt, tt)

  by_route : (o : Option (List ℕ)) → journal_packet_route setting journal i s leg ≡ o
      → Work setting journal (elim o [
        | None ↦ machine_stuck_on_leg_item setting journal i s leg ∷ []
        | Some route ↦ machine_takes_route i leg route ∷ []
      ])
  by_route None e = (record { found = refl; none = e }, tt)
  by_route (Some route) e = takes leg route

end_work : (setting : Setting) (i s : ℕ) (act : Action) (journal : List Item)
    → Work setting journal (machine_end_items setting i s act journal)
unfolding machine_end_items
end_work setting i s Action.Drop journal = (tt, tt)
end_work setting i s (Action.Out port) journal = grind (arith, leg_work)

-- a rule is of a version that is there
abbrev IsOfVersion : List Item → Option MachineAuthorityRule → Type 0
IsOfVersion journal rule = IfSome rule (λ found. IsTrue (is_journal_version journal found.version))

rule_there : (setting : Setting) (journal : List Item) (version partition place : ℕ)
    → IsOfVersion journal (journal_authority_rule setting journal version partition place)
rule_there setting journal version partition place =
    by_part (slice_get (journal_plan_at setting journal version) partition) refl
  where
    by_rule : (hosted : HostedPolicyPartition) (o : Option Rule) → IsTrue (is_journal_version journal version)
        → IsOfVersion journal (option_map
        (λ rule. record { version = version; part = switch_table_part_of hosted; place = place; rule = rule }) o)
    by_rule hosted None there = tt
    by_rule hosted (Some rule) there = there

    by_part : (o : Option HostedPolicyPartition) → slice_get (journal_plan_at setting journal version) partition ≡ o
        → IsOfVersion journal (elim o [
          | None ↦ None
          | Some hosted ↦ option_map (λ rule. record {
            version = version;
            part = switch_table_part_of hosted;
            place = place;
            rule = rule;
          }) (slice_get hosted.0.rules place)
        ])
    by_part None e = tt
    by_part (Some hosted) e = by_rule hosted (slice_get hosted.0.rules place)
        (part_there setting journal version partition hosted e)

cache_work : (setting : Setting) (i s : ℕ) (rule : MachineAuthorityRule) (journal : List Item)
    → IsTrue (is_journal_version journal rule.version)
    → Work setting journal (journal_cache_items setting i s rule journal)
unfolding journal_cache_items machine_sent_items_from
cache_work setting i s rule journal there = by_test (is_at_machine_switch s (journal_ingress_of journal i)) where
  by_test : (b : Bool) → Work setting journal (elim b [
    | true ↦ []
    | false ↦ machine_send_items journal
        (machine_cache_rule rule (unwrap_or (journal_ingress_of journal i) 0) (journal_packet_header_at journal i) ∷ [])
  ])
  by_test true = tt
  by_test false = ((there, record { packet = i; ingress = refl }), tt)

authority_work : (setting : Setting) (i s : ℕ) (rule : Option MachineAuthorityRule) (journal : List Item)
    → IsOfVersion journal rule → Work setting journal (machine_authority_items setting i s rule journal)
unfolding machine_authority_items
authority_work setting i s None journal there = tt
authority_work setting i s (Some rule) journal there =
    let decided : Item = Item.Decided i rule.version rule.rule.rule rule.rule.action
    (How.Authority s rule.part.number) in
    let now : List Item = journal ++ decided ∷ [] in
    have_first (IsWork setting) decided
    (machine_blocks_in_turn (journal_cache_items setting i s rule ∷ machine_end_items setting i s rule.rule.action ∷ [])) journal
    tt
    (have_put (IsWork setting) (journal_cache_items setting i s rule now)
    (machine_blocks_in_turn (machine_end_items setting i s rule.rule.action ∷ [])) now
    (cache_work setting i s rule now (version_kept journal (decided ∷ []) rule.version there))
    (have_in_turn (IsWork setting) (machine_end_items setting i s rule.rule.action ∷ [])
    (end_work setting i s rule.rule.action, tt) (now ++ journal_cache_items setting i s rule now)))

found_work : (setting : Setting) (i s : ℕ) (what : Found) (journal : List Item)
    → Work setting journal (machine_found_items setting i s what journal)
found_work setting i s (Found.Cached entry) journal =
    let decided = Item.Decided i entry.version entry.rule entry.action (How.Cached entry.message) in
    have_first (IsWork setting) decided (machine_end_items setting i s entry.action) journal tt
    (end_work setting i s entry.action (journal ++ decided ∷ []))
found_work setting i s (Found.Authority partition place) journal = authority_work setting i s
    (journal_authority_rule setting journal (journal_stamp_of journal s) partition place) journal
    (rule_there setting journal (journal_stamp_of journal s) partition place)
found_work setting i s (Found.Redirect partition targets) journal =
    leg_work setting journal i s (Seek (journal_stamp_of journal s) partition)

lookup_work : (setting : Setting) (i s : ℕ) (journal : List Item)
    → Work setting journal (machine_lookup_items setting i s journal)
unfolding machine_lookup_items
lookup_work setting i s journal =
    found_work setting i s (machine_lookup_at setting journal s (journal_packet_header_at journal i)) journal

arrive_by_work : (setting : Setting) (i s : ℕ) (leg : Option Leg) (journal : List Item)
    → Work setting journal (journal_leg_arrival_items setting i s leg journal)
arrive_by_work setting i s None journal = tt
arrive_by_work setting i s (Some (Exit port)) journal = (tt, tt)
arrive_by_work setting i s (Some (Seek version partition)) journal =
    by_held (holds_version journal s version)
  where
    place : ℕ
    place = machine_first_rule_place setting journal version partition (journal_packet_header_at journal i)

    by_held : (b : Bool) → Work setting journal (elim b [
      | false ↦ machine_lookup_items setting i s journal
      | true ↦ machine_authority_items setting i s (journal_authority_rule setting journal version partition place)
          journal
    ])
    by_held false = lookup_work setting i s journal
    by_held true = authority_work setting i s
        (journal_authority_rule setting journal version partition place) journal
        (rule_there setting journal version partition place)

arrive_work : (setting : Setting) (i s : ℕ) (journal : List Item)
    → Work setting journal (machine_arrive_items setting i s journal)
unfolding machine_arrive_items
arrive_work setting i s journal = arrive_by_work setting i s (journal_leg_of journal i) journal

reroute_by_work : (setting : Setting) (i s : ℕ) (leg : Option Leg) (journal : List Item)
    → Work setting journal (journal_reroute_by setting i s leg journal)
reroute_by_work setting i s None journal = tt
reroute_by_work setting i s (Some leg) journal = by_route (journal_packet_route setting journal i s leg) refl
  where
    by_route : (o : Option (List ℕ)) → journal_packet_route setting journal i s leg ≡ o
        → Work setting journal (elim o [
          | None ↦ machine_stuck_on_leg_item setting journal i s leg ∷ []
          | Some route ↦ journal_items_then (Item.Rerouted i route ∷ []) (machine_onward_items setting i s) journal
        ])
    by_route None e = (record { found = refl; none = e }, tt)
    by_route (Some route) e = have_first (IsWork setting) (Item.Rerouted i route)
        (machine_onward_items setting i s) journal tt (grind (arith, arrive_work))

reroute_work : (setting : Setting) (i s : ℕ) (journal : List Item)
    → Work setting journal (machine_reroute_items setting i s journal)
unfolding machine_reroute_items
reroute_work setting i s journal = reroute_by_work setting i s (journal_leg_of journal i) journal

move_work : (setting : Setting) (i s : ℕ) (journal : List Item)
    → Work setting journal (machine_move_items setting i s journal)
unfolding machine_move_items
move_work setting i s journal = grind (arith, arrive_work, reroute_work)

-- a packet that enters is no work yet: its cause is to be given
pub packet_works : (setting : Setting) (cause : List Item → Item → Type 0) →
    ((before : List Item) (next : Item) → IsWork setting before next → cause before next) →
    (i s : ℕ) (header : Header) (journal : List Item) → cause journal (Item.Entered i s header)
    → JournalItemsHaveCauses cause journal (machine_packet_items setting i s header journal)
unfolding machine_packet_items
packet_works setting cause weaker i s header journal enters = by_serving (serves journal s) where
  entered : Item
  entered = Item.Entered i s header

  by_serving : (b : Bool) → JournalItemsHaveCauses cause journal (elim b [
    | false ↦ Item.Closed i s ∷ []
    | true ↦ journal_items_then (entered ∷ []) (machine_lookup_items setting i s) journal
  ])
  by_serving false = (weaker journal (Item.Closed i s) tt, tt)
  by_serving true = have_first cause entered (machine_lookup_items setting i s) journal enters
      (have_weaker (IsWork setting) cause weaker (journal ++ entered ∷ []) (machine_lookup_items setting i
      s (journal ++ entered ∷ [])) (lookup_work setting i s (journal ++ entered ∷ [])))

pub packet_has : (setting : Setting) (cause : List Item → Item → Type 0) →
    ((before : List Item) (next : Item) → IsTraffic setting before next → cause before next) →
    (i s : ℕ) (header : Header) (journal : List Item) → cause journal (Item.Entered i s header)
    → JournalItemsHaveCauses cause journal (machine_packet_items setting i s header journal)
packet_has setting cause weaker = packet_works setting cause
    (λ before next is. weaker before next (work_is_traffic setting before next is))

pub hop_work : (setting : Setting) (i : ℕ) (journal : List Item)
    → Work setting journal (machine_hop_items setting i journal)
unfolding machine_hop_items
hop_work setting i journal = grind (arith, move_work)

lose_work : (setting : Setting) (i : ℕ) (journal : List Item)
    → Work setting journal (machine_lose_items i journal)
unfolding machine_lose_items
lose_work setting i journal = grind arith

-- ---- caches and messages

forget_work : (setting : Setting) (number : ℕ) (journal : List Item)
    → Work setting journal (machine_forget_items number journal)
unfolding machine_forget_items
forget_work setting number journal = by_test (is_deliverable journal number) refl where
  by_test : (b : Bool) → is_deliverable journal number ≡ b → Work setting journal (elim b [
    | false ↦ nothing
    | true ↦ Item.Forgotten number ∷ []
  ])
  by_test false e = (tt, tt)
  by_test true e = (e, tt)

expire_work : (setting : Setting) (s at : ℕ) (journal : List Item)
    → Work setting journal (machine_expire_items setting s at journal)
unfolding machine_expire_items
expire_work setting s at journal = grind arith

-- ---- adverts

-- an advert to a switch of the network
abbrev pub IsAdvertTo : Setting → Place → Body → Type 0
IsAdvertTo setting (Place.Switch s) (Advertise advert) = s < length setting.net.switches
IsAdvertTo setting to body = ⊥

abbrev pub IsAdvert : Setting → Message → Type 0
IsAdvert setting message = IsAdvertTo setting message.to message.body

advert_between : (setting : Setting) (before : List Item) (to : Place) (body : Body)
    → IsAdvertTo setting to body → IsBetween setting before to body
advert_between setting before (Place.Switch s) (Advertise advert) is = is
advert_between setting before to body is = absurd is

-- what changes of links write, and switches that crash
abbrev pub IsChange : Setting → List Item → Item → Type 0
IsChange setting before (Item.Sent number message) = IsAdvert setting message
IsChange setting before (Item.LinkIs one two up) = ⊤
IsChange setting before (Item.Lost packet) = ⊤
IsChange setting before Item.Nothing = ⊤
IsChange setting before _ = ⊥

abbrev pub Change : Setting → List Item → List Item → Type 0
Change setting journal items = JournalItemsHaveCauses (IsChange setting) journal items

pub change_traffic : (setting : Setting) (before : List Item) (next : Item)
    → IsChange setting before next → IsTraffic setting before next
change_traffic setting before (Item.Sent number message) is =
    advert_between setting before message.to message.body is
change_traffic setting before (Item.LinkIs one two up) is = tt
change_traffic setting before (Item.Lost packet) is = tt
change_traffic setting before Item.Nothing is = tt
change_traffic setting before _ is = absurd is

pub adverts_to : (setting : Setting) (s : ℕ) → s < length setting.net.switches
    → (adverts : List Advert) → AllByRecursion (IsAdvert setting) (map (machine_advert_to s) adverts)
adverts_to setting s there [] = tt
adverts_to setting s there (advert ∷ adverts) = (there, adverts_to setting s there adverts)

-- the switches of a mask are of the network
pub masked_there : (setting : Setting) (mask : ℕ)
    → AllByRecursion (λ s. s < length setting.net.switches) (machine_switches_in setting mask)
masked_there setting mask =
    each_of_network (λ s. s < length setting.net.switches) setting (has mask) (λ s there is. there)

-- what is told to each of some switches of the network
pub each_told : (setting : Setting) (told : ℕ → List Message)
    → ((s : ℕ) → s < length setting.net.switches → AllByRecursion (IsAdvert setting) (told s))
    → (switches : List ℕ) → AllByRecursion (λ s. s < length setting.net.switches) switches
    → AllByRecursion (IsAdvert setting) (flat_map told switches)
each_told setting told adverts [] there = tt
each_told setting told adverts (s ∷ switches) there = each_append (IsAdvert setting) (told s)
    (flat_map told switches) (adverts s there.0) (each_told setting told adverts switches there.1)

told_adverts : (setting : Setting) (before journal : List Item) (s neighbour : ℕ)
    → neighbour < length setting.net.switches
    → AllByRecursion (IsAdvert setting) (machine_messages_over_link setting before journal s neighbour)
told_adverts setting before journal s neighbour there =
    by_link (has (near setting before s) neighbour)
  where
    by_link : (old : Bool) → AllByRecursion (IsAdvert setting) (elim old [
      | true ↦ machine_advert_to neighbour (own_advert setting journal s) ∷ []
      | false ↦ map (machine_advert_to neighbour) (journal_held_adverts setting journal s)
    ])
    by_link true = (there, tt)
    by_link false = adverts_to setting neighbour there (journal_held_adverts setting journal s)

pub links_change : (setting : Setting) (before journal : List Item)
    → Change setting journal (journal_link_changes setting before journal)
unfolding journal_link_changes
links_change setting before journal = sends_each (IsChange setting) (IsAdvert setting)
    (λ before n message is. is) journal _
    (each_flat_map (IsAdvert setting) (machine_messages_of setting before journal) (λ s. each_told setting
    (machine_messages_over_link setting before journal s) (told_adverts setting before journal s)
    (machine_switches_in setting (near setting journal s)) (masked_there setting (near setting journal s)))
    (filter (journal_usable_links_changed setting before journal) (machine_switches_of setting)))

pub link_change : (setting : Setting) (before : List Item) (one two : ℕ) (up : Bool)
    (journal : List Item) → Change setting journal (machine_link_items setting before one two up journal)
unfolding machine_link_items
link_change setting before one two up journal = grind (arith, have_first, links_change)

pub changes_traffic : (setting : Setting) (journal items : List Item)
    → Change setting journal items → Traffic setting journal items
changes_traffic setting =
    have_weaker (IsChange setting) (IsTraffic setting) (change_traffic setting)

pub links_traffic : (setting : Setting) (before journal : List Item)
    → Traffic setting journal (journal_link_changes setting before journal)
links_traffic setting before journal =
    changes_traffic setting journal _ (links_change setting before journal)

pub links_have : (setting : Setting) (before journal : List Item)
    → Has setting journal (journal_link_changes setting before journal)
links_have setting before journal = traffic_has setting journal
    (journal_link_changes setting before journal) (links_traffic setting before journal)

pub passed_traffic : (setting : Setting) (journal : List Item) (s : ℕ) (advert : Advert)
    → Traffic setting journal (machine_send_items journal (machine_advert_passed_on setting journal s advert))
passed_traffic setting journal s advert = sends_each (IsTraffic setting) (IsAdvert setting)
    (λ before n message is. advert_between setting before message.to message.body is) journal
    (machine_advert_passed_on setting journal s advert)
    (each_map (IsAdvert setting) (λ neighbour. machine_advert_to neighbour advert)
    (machine_switches_in setting (near setting journal s)) (masked_there setting (near setting journal s)))

-- ---- steps

-- the steps that write work alone
abbrev pub IsWorkStep : Step → Type 0
IsWorkStep (Hop packet) = ⊤
IsWorkStep (Lose packet) = ⊤
IsWorkStep (Forget message) = ⊤
IsWorkStep (Expire s place) = ⊤
IsWorkStep _ = ⊥

-- what is true of each of these is true of each such step
pub work_cases : (P : Step → Type 0) → ((packet : ℕ) → P (Hop packet))
    → ((packet : ℕ) → P (Lose packet)) → ((message : ℕ) → P (Forget message))
    → ((s place : ℕ) → P (Expire s place)) → (step : Step) → IsWorkStep step → P step
work_cases P hop lose forget expire (Hop packet) is = hop packet
work_cases P hop lose forget expire (Lose packet) is = lose packet
work_cases P hop lose forget expire (Forget message) is = forget message
work_cases P hop lose forget expire (Expire s place) is = expire s place
work_cases P hop lose forget expire step is = absurd is

pub step_work : (setting : Setting) (before : List Item) (step : Step) (here : List Item)
    → IsWorkStep step → Work setting here (machine_step_items setting before step here)
step_work setting before step here =
    work_cases (λ step. Work setting here (machine_step_items setting before step here))
    (λ packet. hop_work setting packet here) (λ packet. lose_work setting packet here)
    (λ message. forget_work setting message here) (λ s place. expire_work setting s place here) step

-- and those that change links too
abbrev pub IsTrafficStep : Step → Type 0
IsTrafficStep (LinkDown one two) = ⊤
IsTrafficStep (LinkUp one two) = ⊤
IsTrafficStep step = IsWorkStep step

pub step_traffic : (setting : Setting) (before : List Item) (step : Step) (here : List Item)
    → IsTrafficStep step → Traffic setting here (machine_step_items setting before step here)
step_traffic setting before (LinkDown one two) here is =
    changes_traffic setting here _ (link_change setting before one two false here)
step_traffic setting before (LinkUp one two) here is =
    changes_traffic setting here _ (link_change setting before one two true here)
step_traffic setting before step here is = have_weaker (IsWork setting) (IsTraffic setting)
    (work_is_traffic setting) here _ (step_work setting before step here is)
