-- What a switch knows of the network's links, by the laws of adverts and routes.
use Rattle.std.proofs.Common.{[], ◌&&◌, ◌++◌, ◌<◌, ◌==◌, ◌^◌, ◌||◌, ◌↔◌, ◌∙◌, ◌∷◌, ◌≡◌, ◌≢◌, ◌≤◌, ◌⊎◌, Bool, Contains, Err, IsFalse, IsTrue, List, None, Ok, Option, Result, Some, ap, arith, bit_or, false, filter, get_or, get_or-set_other, get_or-set_same, if◌then◌else◌, inl, inr, length, length-set, map, max, min, nat_lt, option_to_list, refl, rules, set, set-set, slice_index, slice_set, subst, sym, true, unwrap_or, ℕ}
use Rattle.base.proofs.Exports.{AllByRecursion, any_filtered, any_weaker, cases_eq, cases_lt, false_from_ne_true, get_or-map-range_with_len, has-or, has-pow_other, has_mask, list_any, map-set, nat_tests, option_map_or, or-false, or_left, or_right, set-get_or, set_past}
use Rattle.failover.specs.Exports.{AreAdvertsByOrigin, IsFailoverTargetIsolated, IsNewestAdvert, IsFailoverPath, IsFailoverReachable, IsRoute, FailoverLinksLeadTo, adverts_after_hearing, adverts_after_hearing_all, first_advert, first_adverts, first_failover_advert_below, link_set_has, held_advert, is_known_route_link, failover_known_links, route_links_at, neighbours_by_adverts, neighbours_named_by_advert, no_adverts, no_failover_links, with_failover_link}
use Rattle.failover.proofs.FailoverHeldAdverts.{by_origin-first, by_origin-hearing, by_origin-none, held-first}
use Rattle.update_machine.specs.Exports.{Advert, Exit, Header, IsMachineSettingPlanOf, Item, JournalKnownLinkLaws, LinkRow, JournalMessageStarts, Out, JournalPacketStarts, Row, Setting, MachineStartLaws, acked_stamp, journal_advert_known, journal_adverts_begun, journal_adverts_heard, journal_adverts_known, journal_adverts_of_others, journal_boot_of, journal_cache_of, journal_can_use, machine_item_changes_found, journal_controller_heard, journal_current_mark, journal_decision_of, machine_end_items, journal_version_file, machine_item_finds_down, folded_journal_from, journal_found_down, journal_handled_count, has_acked, journal_packet_header, heard, holds_version, machine_hosted_or_none, journal_ingress_of, is_cut_off_in_journal, is_deliverable, is_forgotten_in_journal, is_first_boot_in_journal, is_link_up_in_journal, is_member, is_over, is_up, is_usable_in_journal, journal_known_boot, journal_leaving_item, machine_leg_items, journal_leg_of, journal_links_known, machine_lookup_at, journal_message_of, near, journal_next_message, journal_next_packet, journal_next_switch, next_travelling, next_waiting, machine_no_switch, journal_opened_at, own_advert, journal_own_advert_sent, journal_own_seq, owner, journal_plan_at, machine_policy_in, journal_present_step, journal_retired_mark, journal_route_from, journal_route_in, journal_route_place, machine_sendings, serves, journal_stamp_of, journal_standing_of, journal_steps_in, machine_stuck_on_leg_item, machine_switches_of, journal_tables_at, machine_takes_route, travels_in_journal, machine_usable_links, journal_version_count, was_delivered_in_journal}
use Rattle.net_file.specs.Exports.{are_linked_in_net, net_link_joins, links_of, net_port_owner}
use Rattle.switch_table.specs.Exports.{switch_table_lookup}
use Rattle.failover.proofs.FailoverNewestAdvert.{held_newest}
use Rattle.failover.proofs.FailoverKnownLinks.{has_known, isolated_tells}
use Rattle.failover.proofs.RouteSearch.{known_route_is_route}
use Rattle.base.specs.Exports.{has, switches}
use Rattle.failover.proofs.RouteLinkBalls.{or_cases}
use Rattle.failover.proofs.FailoverLinkSets.{link_set_has-none}
use Rattle.partition.specs.Plan.{HostedPolicyPartition}
use Rattle.policy_rules.specs.Exports.{NoPolicyPlan}

-- ---- what a journal without items says

all_usable : (links : List LinkRow) → filter (is_usable_in_journal []) links ≡ links
unfolding is_link_up_in_journal serves
all_usable [] = refl
all_usable (link ∷ links) = ap (λ rest. link ∷ rest) (all_usable links)

near_start : (setting : Setting) (s : ℕ) → near setting [] s ≡ links_of setting.net.links s
unfolding near
near_start setting s = ap (λ links. links_of links s) (all_usable setting.net.links)

seq_start : (setting : Setting) (s : ℕ) → journal_own_seq setting [] s ≡ 1
unfolding journal_own_seq journal_boot_of is_up journal_steps_in
seq_start setting s = refl

advert_start : (setting : Setting) (s : ℕ) → own_advert setting [] s ≡ first_advert s
    (links_of setting.net.links s)
unfolding own_advert journal_own_seq journal_boot_of is_up journal_steps_in
advert_start setting s = ap (first_advert s) (near_start setting s)

acked_start : (s v : ℕ) → has_acked [] s v ≡ (v == 1)
unfolding has_acked journal_known_boot journal_controller_heard
acked_start s v = or-false (v == 1)

versions_start : (s v : ℕ) → holds_version [] s v ≡ (v == 1)
unfolding holds_version heard is_up journal_boot_of
versions_start s v = by_test (v == 1) where
  by_test : (b : Bool) → ((b && true) && true) ≡ b
  by_test true = refl
  by_test false = refl

packet_starts : (i : ℕ) → JournalPacketStarts i
unfolding journal_packet_header journal_ingress_of journal_standing_of travels_in_journal journal_decision_of journal_leg_of journal_route_in journal_route_place journal_next_switch
    journal_found_down
packet_starts i = search rules

message_starts : (n : ℕ) → JournalMessageStarts n
unfolding journal_message_of was_delivered_in_journal is_forgotten_in_journal is_deliverable
message_starts n = search rules

-- the own advert is the one that the switch began with
own_first : (setting : Setting) (s : ℕ) → s < length setting.net.switches
    → first_failover_advert_below (map (links_of setting.net.links) (machine_switches_of setting))
    (length setting.net.switches) s ≡ Some (first_advert s (links_of setting.net.links s))
own_first setting s there =
    let below : nat_lt s (length setting.net.switches) ≡ true = grind (arith, nat_tests) in
    let own = get_or-map-range_with_len (links_of setting.net.links) 0 (length setting.net.switches)
    s s 0 there (omega arith) in
    rw (below, own) refl

adverts_start : (setting : Setting) (s : ℕ) → s < length setting.net.switches
    → length setting.net.switches ≤ 64 → journal_adverts_known setting [] s ≡ first_adverts
    (map (links_of setting.net.links) (machine_switches_of setting)) (length setting.net.switches)
unfolding journal_adverts_known heard is_up journal_boot_of
adverts_start setting s there few =
    let near = map (links_of setting.net.links) (machine_switches_of setting) in
    let count : ℕ = length setting.net.switches in
    rw (advert_start setting s) (ap (slice_set (first_adverts near count) s)
    (sym (held-first near count s (omega (arith, few, there)) ∙ own_first setting s there))
    ∙ set-get_or (first_adverts near count) s None)

lookup_start : (setting : Setting) (s : ℕ) (header : Header) → machine_lookup_at setting [] s header
    ≡ switch_table_lookup (journal_tables_at setting [] 1 s) header
unfolding machine_lookup_at journal_cache_of journal_stamp_of heard is_up journal_boot_of
lookup_start setting s header = refl

pub start_laws : MachineStartLaws
unfolding journal_boot_of is_up serves heard journal_stamp_of journal_version_count journal_version_file journal_known_boot is_over is_member
    journal_opened_at journal_controller_heard acked_stamp journal_current_mark journal_retired_mark is_link_up_in_journal journal_cache_of
    journal_handled_count journal_steps_in journal_next_packet next_travelling journal_next_message next_waiting machine_sendings
    journal_present_step
start_laws = search (
  rules,
  versions_start,
  acked_start,
  near_start,
  seq_start,
  advert_start,
  packet_starts,
  message_starts,
  adverts_start,
  lookup_start,
)

-- ---- journal known links

begun_by_origin : (setting : Setting) (journal : List Item) (s : ℕ)
    → AreAdvertsByOrigin (journal_adverts_begun setting journal s)
begun_by_origin setting journal s = by_test (is_first_boot_in_journal journal s) where
  by_test : (b : Bool) → AreAdvertsByOrigin (if b then first_adverts (map (links_of setting.net.links)
      (machine_switches_of setting)) (length setting.net.switches) else no_adverts)
  by_test true = by_origin-first (map (links_of setting.net.links) (machine_switches_of setting))
      (length setting.net.switches)
  by_test false = by_origin-none

all_by_origin : (adverts : List (Option Advert)) (heard : List Advert) → AreAdvertsByOrigin adverts
    → AreAdvertsByOrigin (adverts_after_hearing_all adverts heard)
all_by_origin adverts [] sound = sound
all_by_origin adverts (advert ∷ heard) sound = all_by_origin (adverts_after_hearing adverts advert) heard
    (by_origin-hearing adverts advert sound)

pub heard_by_origin : (setting : Setting) (journal : List Item) (s : ℕ)
    → AreAdvertsByOrigin (journal_adverts_of_others setting journal s)
heard_by_origin setting journal s = all_by_origin (journal_adverts_begun setting journal s)
    (journal_adverts_heard journal s) (begun_by_origin setting journal s)

pub known_places : (setting : Setting) (journal : List Item) (s : ℕ)
    → length (journal_adverts_known setting journal s) ≡ 64
unfolding journal_adverts_known
known_places setting journal s =
    length-set (journal_adverts_of_others setting journal s) s (journal_own_advert_sent (own_advert setting journal s))
    ∙ (heard_by_origin setting journal s).places

newest_known : (setting : Setting) (journal : List Item) (s origin : ℕ) → origin ≢ s → origin < 64
    → IsNewestAdvert origin (option_to_list (held_advert (journal_adverts_begun setting journal s) origin)
    ++ journal_adverts_heard journal s) (journal_advert_known setting journal s origin)
unfolding journal_adverts_known
newest_known setting journal s origin other small =
    rw (get_or-set_other (journal_adverts_of_others setting journal s) s origin
    (journal_own_advert_sent (own_advert setting journal s)) None other)
    (held_newest (journal_adverts_begun setting journal s) (journal_adverts_heard journal s) origin
    (begun_by_origin setting journal s) small)

own_known : (setting : Setting) (journal : List Item) (s : ℕ) → s < 64
    → journal_advert_known setting journal s s ≡ journal_own_advert_sent (own_advert setting journal s)
unfolding journal_adverts_known
own_known setting journal s small = get_or-set_same (journal_adverts_of_others setting journal s) s
    (journal_own_advert_sent (own_advert setting journal s)) None
    (subst (λ n. s < n) (sym (heard_by_origin setting journal s).places) small)

-- ---- its own advert says nothing of its own links

links_are : (setting : Setting) (journal : List Item) (s : ℕ) (down : List ℕ)
    → journal_links_known setting journal s down
    ≡ failover_known_links (journal_adverts_known setting journal s) s (near setting journal s) down
unfolding journal_adverts_known failover_known_links neighbours_by_adverts
links_are setting journal s down =
    let others : List (Option Advert) = journal_adverts_of_others setting journal s in
    let own : Option Advert = journal_own_advert_sent (own_advert setting journal s) in
    ap (λ rows. map (route_links_at rows down) switches)
    (sym (set-set (map neighbours_named_by_advert others) s (neighbours_named_by_advert own) (near setting journal s))
    ∙ ap (λ rows. set rows s (near setting journal s)) (sym (map-set neighbours_named_by_advert others s own)))

pub has_known_link : (setting : Setting) (journal : List Item) (s : ℕ) (down : List ℕ)
    (one other : ℕ) → one < 64 → other < 64
    → has (slice_index (journal_links_known setting journal s down) one) other ≡ is_known_route_link
    (neighbours_by_adverts (journal_adverts_known setting journal s) s (near setting journal s)) down one other
has_known_link setting journal s down one other one_small other_small =
    ap (λ links. has (slice_index links one) other) (links_are setting journal s down)
    ∙ has_known (journal_adverts_known setting journal s) s (near setting journal s) down one other
    one_small other_small

route_known : (setting : Setting) (journal : List Item) (s : ℕ) (targets down : List ℕ)
    → IsRoute (journal_links_known setting journal s down) s targets
    (journal_route_from setting journal s targets down)
unfolding journal_route_from
route_known setting journal s targets down = rw (links_are setting journal s down)
    (known_route_is_route (journal_adverts_known setting journal s) s targets (near setting journal s) down)

none_reached : (links : List ℕ) (from : ℕ) (targets : List ℕ) → IsRoute links from targets None
    → AllByRecursion (λ target. ¬ IsFailoverReachable links from target) targets
unfolding IsRoute
none_reached links from [] is = tt
none_reached links from (target ∷ targets) (inl some) = absurd some
none_reached links from (target ∷ targets) (inr rest) =
    (rest.0, none_reached links from targets rest.1)

-- where it has no route, no path leads to any target
pub unreached : (setting : Setting) (journal : List Item) (s : ℕ) (targets down : List ℕ)
    → journal_route_from setting journal s targets down ≡ None
    → AllByRecursion (λ target. ¬ IsFailoverReachable (journal_links_known setting journal s down) s target) targets
unreached setting journal s targets down none = none_reached (journal_links_known setting journal s down) s
    targets (rw none at (route_known setting journal s targets down))

cut_off_known : (setting : Setting) (journal : List Item) (s target : ℕ) (down : List ℕ)
    → IsTrue (is_cut_off_in_journal setting journal s down target)
    ↔ IsFailoverTargetIsolated (journal_links_known setting journal s down) s target
unfolding is_cut_off_in_journal
cut_off_known setting journal s target down = rw (links_are setting journal s down)
    (isolated_tells (journal_adverts_known setting journal s) s target (near setting journal s) down
    (known_places setting journal s))

-- ---- ports that no switch has

-- each path ends at a switch
ends_below : (links : List ℕ) (at target : ℕ) (path : List ℕ) → at < 64 → 64 ≤ target
    → FailoverLinksLeadTo links target at path → ⊥
ends_below links at target [] here past leads = omega (arith, leads, here, past)
ends_below links at target (next ∷ path) here past leads =
    ends_below links next target path leads.0 past leads.2

no_path : (links : List ℕ) (from target : ℕ) (path : List ℕ) → 64 ≤ target
    → IsFailoverPath links from target path → ⊥
unfolding IsFailoverPath
no_path links from target [] past path = path
no_path links from target (first ∷ path) past is = ends_below links first target path is.1 past is.2

no_route : (links : List ℕ) (from : ℕ) (route : Option (List ℕ))
    → IsRoute links from (machine_no_switch ∷ []) route → route ≡ None
unfolding IsRoute
no_route links from None is = refl
no_route links from (Some path) (inl is) =
    absurd (no_path links from machine_no_switch path (omega arith) is.path)
no_route links from (Some path) (inr is) = is.1

portless_stuck : (setting : Setting) (journal : List Item) (i s port : ℕ) → s < 64
    → net_port_owner setting.net.switches port ≡ None
    → machine_end_items setting i s (Out port) journal ≡ machine_stuck_on_leg_item setting journal i s (Exit port) ∷ []
unfolding machine_end_items machine_leg_items
portless_stuck setting journal i s port small none =
    let elsewhere : (owner setting port == s) ≡ false =
    ap (λ o. unwrap_or o machine_no_switch == s) none ∙ (grind (arith, nat_tests)) in
    let stuck =
    ap (λ o. journal_route_from setting journal s (unwrap_or o machine_no_switch ∷ []) (journal_found_down journal i)) none
    ∙ no_route (journal_links_known setting journal s (journal_found_down journal i)) s _
    (route_known setting journal s (machine_no_switch ∷ []) (journal_found_down journal i)) in
    ap (λ b. elim b [
      | true ↦ journal_leaving_item journal i port ∷ []
      | false ↦ machine_leg_items setting journal i s (Exit port)
    ]) elsewhere
    ∙ ap (λ route. elim route [
      | None ↦ machine_stuck_on_leg_item setting journal i s (Exit port) ∷ []
      | Some way ↦ machine_takes_route i (Exit port) way ∷ []
    ]) stuck

pub known_link_laws : JournalKnownLinkLaws
known_link_laws = search (newest_known, own_known, route_known, cut_off_known, portless_stuck)

-- ---- what switches can use and know of links, what packets found down, and the plans of versions,
-- as items say it: against the masks, sets and functions that compute them.

-- ---- links that switches can use

-- a switch can use the links to those that are near, and no others
pub near_usable : (setting : Setting) (journal : List Item) (one two : ℕ) → two < 64
    → has (near setting journal one) two ≡ journal_can_use setting journal one two
unfolding near
near_usable setting journal one two small =
    has_mask (are_linked_in_net (machine_usable_links setting journal) one) two small
    ∙ any_filtered (net_link_joins one two) (is_usable_in_journal journal) setting.net.links

-- a usable link is of the network
pub usable_linked : (setting : Setting) (journal : List Item) (one two : ℕ)
    → IsTrue (journal_can_use setting journal one two) → IsTrue (are_linked_in_net setting.net.links one two)
usable_linked setting journal one two is =
    any_weaker (net_link_joins one two) (is_usable_in_journal journal) setting.net.links is

-- ---- links that packets found down

same_ends : (one two x y : ℕ) → min x y ≡ min one two → max x y ≡ max one two
    → ((one == x && two == y) || (one == y && two == x)) ≡ true
same_ends one two x y low high = grind (arith, nat_tests)

-- a row has what it had, or it is that of the lower end, and gained the higher one
row_gained : (links : List ℕ) (low high k x : ℕ)
    → IsTrue (has (get_or (set links low (bit_or (get_or links low 0) (2 ^ high))) k 0) x)
    → IsTrue (has (get_or links k 0) x) ⊎ ((k ≡ low) × (x ≡ high))
row_gained links low high k x is = elim (cases_lt low (length links)) [
  | inr past ↦ inl (ap (λ rows. has (get_or rows k 0) x)
      (sym (set_past links low (bit_or (get_or links low 0) (2 ^ high)) past)) ∙ is)
  | inl within ↦ elim (cases_eq k low) [
    | inr apart ↦ inl (ap (λ row. has row x)
        (sym (get_or-set_other links low k (bit_or (get_or links low 0) (2 ^ high)) 0 apart)) ∙ is)
    | inl same ↦
        elim (or_cases _ _ (sym (has-or (get_or links low 0) (2 ^ high) x) ∙ ap (λ n. has n x)
        (sym (ap (λ n. get_or (set links low (bit_or (get_or links low 0) (2 ^ high))) n 0) same
        ∙ get_or-set_same links low (bit_or (get_or links low 0) (2 ^ high)) 0 within)) ∙ is)) [
          | inl old ↦ inl (ap (λ n. has (get_or links n 0) x) same ∙ old)
          | inr new ↦ elim (cases_eq x high) [
            | inl at ↦ inr (same, at)
            | inr apart ↦
                let none : has (2 ^ high) x ≡ false = has-pow_other high x apart in absurd cc
          ]
        ]
  ]
]

link_gained : (links : List ℕ) (one two x y : ℕ) → IsTrue (link_set_has (with_failover_link links one two) x y)
    → IsTrue (link_set_has links x y) ⊎ (((one == x && two == y) || (one == y && two == x)) ≡ true)
unfolding link_set_has with_failover_link
link_gained links one two x y is =
    elim (row_gained links (min one two) (max one two) (min x y) (max x y) is) [
      | inl old ↦ inl old
      | inr new ↦ inr (same_ends one two x y new.0 new.1)
    ]

-- each link that items add to a set was found down by one of them
found_by : (i x y : ℕ) (before : List Item) (links : List ℕ) (items : List Item)
    → IsTrue (link_set_has (folded_journal_from (machine_item_changes_found i) before links items) x y)
    → (link_set_has links x y || list_any (machine_item_finds_down i x y) items) ≡ true
found_by i x y before links [] is = or_left _ _ is
found_by i x y before links (Item.FoundDown packet one two ∷ items) is = by_packet (packet == i)
    refl (found_by i x y (before ++ Item.FoundDown packet one two ∷ []) (machine_item_changes_found i before
    links (Item.FoundDown packet one two)) items is)
  where
    by_packet : (b : Bool) → (packet == i) ≡ b
        → (link_set_has (machine_item_changes_found i before links (Item.FoundDown packet one two)) x y
        || list_any (machine_item_finds_down i x y) items) ≡ true → (link_set_has links x y
        || list_any (machine_item_finds_down i x y) (Item.FoundDown packet one two ∷ items)) ≡ true
    by_packet false e rest = rw e (rw e at rest)
    by_packet true e rest = elim (or_cases _ _ (rw e at rest)) [
      | inl there ↦ elim (link_gained links one two x y there) [
        | inl old ↦ or_left _ _ old
        | inr new ↦ or_right (link_set_has links x y) _ (rw (e, new) refl)
      ]
      | inr later ↦ or_right (link_set_has links x y) _
          (or_right (machine_item_finds_down i x y (Item.FoundDown packet one two)) _ later)
    ]
found_by i x y before links (next ∷ items) is = found_by i x y (before ++ next ∷ []) links items is

-- a link of the set was found down
pub link_found : (journal : List Item) (i one two : ℕ)
    → IsTrue (link_set_has (journal_found_down journal i) one two)
    → IsTrue (list_any (machine_item_finds_down i one two) journal)
unfolding journal_found_down
link_found journal i one two is =
    cc (link_set_has-none one two, found_by i one two [] no_failover_links journal is)

-- so what wasn't found down isn't in the set
pub link_not_found : (journal : List Item) (i one two : ℕ)
    → IsFalse (list_any (machine_item_finds_down i one two) journal)
    → IsFalse (link_set_has (journal_found_down journal i) one two)
link_not_found journal i one two none = false_from_ne_true (link_set_has (journal_found_down journal i) one two)
    (λ is. let there = link_found journal i one two is in cc)

-- ---- plans of versions

-- a plan that has a partition is that of its version's policy
pub plan_is : (setting : Setting) (journal : List Item) (version : ℕ) (hosted : HostedPolicyPartition)
    → Contains (journal_plan_at setting journal version) hosted
    → IsMachineSettingPlanOf setting journal version (journal_plan_at setting journal version)
unfolding journal_plan_at
plan_is setting journal version hosted there =
    by_policy (machine_policy_in setting journal version) refl there
  where
    plan_by : Option (List Row) → List HostedPolicyPartition
    plan_by policy = option_map_or (λ rows. machine_hosted_or_none (setting.plan rows)) policy []

    by_plan : (rows : List Row) (plan : Result (List HostedPolicyPartition) NoPolicyPlan)
        → machine_policy_in setting journal version ≡ Some rows → setting.plan rows ≡ plan
        → Contains (machine_hosted_or_none plan) hosted
        → IsMachineSettingPlanOf setting journal version (machine_hosted_or_none plan)
    by_plan rows (Err why) policy is there = absurd (omega (arith, there.1))
    by_plan rows (Ok plan) policy is there = (rows, policy, is)

    by_policy : (policy : Option (List Row)) → machine_policy_in setting journal version ≡ policy
        → Contains (plan_by policy) hosted
        → IsMachineSettingPlanOf setting journal version (plan_by policy)
    by_policy None is there = absurd (omega (arith, there.1))
    by_policy (Some rows) is there = by_plan rows (setting.plan rows) is refl there
