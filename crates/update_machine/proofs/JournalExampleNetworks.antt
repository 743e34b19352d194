-- Small networks, policies and messages on which the definitions are tried.
use Rattle.std.proofs.Common.{[], ◌++◌, ◌-◌, ◌^◌, ◌∙◌, ◌∷◌, ◌≡◌, Bool, Err, IsTrue, List, None, Ok, Option, Result, Some, ap, arith, codes, false, inl, inr, leb-true, nat_le, refl, replicate, subst, sym, take, true, unwrap_or, ℕ}
use Rattle.update_machine.specs.Exports.{Action, Advertise, Any, AreMachineLegTargets, Body, Cause, Drop, HasMachineCause, MachineVersionHasPlan, JournalItemsHaveCauses, Header, Hello, Install, Installed, IsMachineSettingPlanOf, Item, MachineWalkLeads, Leaving, Leg, LinkRow, Message, Net, NoMachineItemConcerns, OpenAt, Out, Place, PolicyFile, Row, Rule, Setting, Step, MachineStepOfRow, SwitchRow, Whole, acked_stamp, journal_adverts_known, journal_after_steps, machine_arrive_items, machine_authority_items, journal_boot_of, journal_cache_items, journal_cache_of, journal_claim_of, machine_item_concerns_policies, machine_confirm_items, journal_controller_heard, machine_controller_items, journal_crash_items, machine_current_items, journal_current_mark, journal_decision_of, machine_deliver_items, machine_delivery_items, machine_end_items, machine_expire_items, journal_version_file, machine_forget_items, journal_found_down, journal_handled_count, has_acked, journal_packet_header, heard, journal_held_adverts, holds_version, machine_hop_items, journal_ingress_of, machine_installs_to, machine_installs_to_all, is_cut_off_in_journal, is_deliverable, is_forgotten_in_journal, is_link_up_in_journal, is_member, is_journal_link_open, is_over, is_up, journal_known_boot, machine_leg_items, journal_leg_of, journal_link_changes, machine_link_items, machine_lookup_at, machine_lookup_items, machine_lose_items, journal_message_of, machine_move_items, near, journal_next_current, journal_next_message, journal_next_packet, journal_next_policy, journal_next_retired, journal_next_switch, next_travelling, next_waiting, machine_open_items, journal_opened_at, own_advert, journal_own_seq, machine_packet_items, piece, journal_plan_at, machine_policy_at, machine_policy_in, journal_present_step, machine_reroute_items, machine_resend_items, journal_resent_by_controller, machine_restart_items, machine_retired_items, journal_retired_mark, journal_route_from, journal_route_in, journal_route_place, machine_sendings, machine_sent_items_from, serves, machine_settling, journal_stamp_of, journal_standing_of, journal_steps_in, journal_switch_items, machine_touched_by, travels_in_journal, machine_update_items, journal_version_count, was_delivered_in_journal}
use Rattle.policy_rules.specs.Exports.{NoPolicyPlan, TooManyLeaves, policy_change_applied}
use Rattle.base.specs.Exports.{has, least_in_number_set, small_number_mask, number_set_where, switches}
use Rattle.failover.specs.Exports.{adverts_after_hearing, route_ball, first_adverts, first_route, grown_route_ball, link_set_has, is_failover_target_isolated, is_known_route_link, is_advert_news, failover_known_links, least_route_neighbour_in, route_ball_links_away, neighbours_by_adverts, advert_names_neighbour, no_failover_links, route_path_after, route_of, route_to, with_failover_link}
use Rattle.ternary.specs.Exports.{WordValue, word_covers_of, ternary_with_bit_freed, holds, is_word_bit_fixed, word_meet_of, word_meets}
use Rattle.cache_maker.specs.Independent.{is_cache_word_apart, is_cache_word_independent, widen, widening_of}
use Rattle.switch_table.specs.Exports.{same_cache_key}
use Rattle.five_tuple.specs.Exports.{header_of}
use Rattle.partition.specs.Plan.{HostedPolicyPartition}
pub use Rattle.switch_table.specs.Tables.{tables_of}
use Rattle.update_machine.proofs.JournalVersionPolicies.{file_append}
use Rattle.update_machine.proofs.JournalSilentLinks.{ends_within, policies_keep}
use Rattle.base.proofs.Exports.{⊤, All-from_recursion, cases_eq, nat_tests}

-- ---- what steps leave, computed

-- ---- names that compute

-- what these steps leave of a journal without items; a proof that unfolds it computes
unfoldable pub left_by : Setting → List MachineStepOfRow → List Item
unfolding journal_own_seq own_advert journal_adverts_known journal_held_adverts journal_route_from is_cut_off_in_journal journal_boot_of is_up
    serves heard journal_cache_of machine_lookup_at journal_link_changes journal_switch_items machine_controller_items machine_delivery_items
    journal_handled_count is_link_up_in_journal near journal_controller_heard journal_known_boot is_over journal_opened_at is_member
    has_acked acked_stamp journal_current_mark journal_retired_mark journal_next_current journal_next_retired journal_next_message
    journal_message_of is_forgotten_in_journal was_delivered_in_journal is_deliverable next_waiting machine_sent_items_from machine_leg_items
    machine_end_items journal_cache_items machine_authority_items machine_lookup_items machine_arrive_items machine_reroute_items machine_move_items
    journal_next_packet journal_packet_header journal_ingress_of journal_standing_of travels_in_journal next_travelling journal_decision_of journal_leg_of journal_route_in
    journal_route_place journal_next_switch journal_found_down machine_packet_items machine_hop_items machine_lose_items machine_deliver_items
    machine_forget_items machine_expire_items machine_update_items machine_link_items journal_crash_items machine_restart_items machine_confirm_items
    machine_resend_items piece machine_sendings machine_current_items machine_open_items machine_retired_items machine_settling machine_installs_to
    machine_installs_to_all journal_resent_by_controller journal_steps_in journal_present_step journal_version_count journal_version_file machine_policy_in machine_touched_by journal_next_policy policy_change_applied journal_plan_at
    journal_stamp_of holds_version has number_set_where small_number_mask switches least_in_number_set is_advert_news adverts_after_hearing first_adverts
    advert_names_neighbour neighbours_by_adverts is_known_route_link failover_known_links is_failover_target_isolated grown_route_ball route_ball least_route_neighbour_in
    route_path_after route_ball_links_away route_to
    first_route route_of link_set_has with_failover_link holds word_meets word_meet_of word_covers_of is_word_bit_fixed ternary_with_bit_freed
    is_cache_word_apart is_cache_word_independent widen widening_of same_cache_key lib.Count.count_trailing_zeros
left_by setting steps = journal_after_steps setting [] steps

-- ---- example networks

-- ---- steps and messages

abbrev pub at : ℕ → Step → MachineStepOfRow
at row step = record { row = row; step = step }

abbrev pub to : ℕ → Body → Message
to s body = record { to = Place.Switch s; body = body }

abbrev pub to_controller : Body → Message
to_controller body = record { to = Place.Controller; body = body }

abbrev pub advert : ℕ → ℕ → ℕ → ℕ → Body
advert origin boot seq up = Advertise (record { origin = origin; boot = boot; seq = seq; up = up })

abbrev pub leaving : ℕ → Header → ℕ → Option ℕ → Leaving
leaving packet header version rule =
    record { packet = packet; header = header; version = version; rule = rule }

-- so many versions are there, of which so many are retired
abbrev pub versions : ℕ → ℕ → List Item
versions count retired = replicate (count - 1) (Item.Submitted 1 2) ++ Item.Retired retired ∷ []

-- the row that delivers a message, and its delivery
abbrev pub delivered : ℕ → ℕ → List Item
delivered row number = Item.Row row (Step.Deliver number) ∷ Item.Delivered number ∷ []

-- a message is delivered, and this is answered
abbrev pub answered : ℕ → ℕ → ℕ → Body → List Item
answered row number next body = delivered row number ++ Item.Sent next (to_controller body) ∷ []

-- ---- headers: from 1.2.3.4 to 10.2.0.1, 10.3.9.9 and 10.1.5.5, by TCP from port 5000 to port 80

abbrev pub one : Header
one = header_of (record { src = 16909060; dst = 167903233; sport = 5000; dport = 80; proto = 6 })

abbrev pub other : Header
other = header_of (record { src = 16909060; dst = 167971081; sport = 5000; dport = 80; proto = 6 })

abbrev pub denied : Header
denied = header_of (record { src = 16909060; dst = 167838981; sport = 5000; dport = 80; proto = 6 })

-- ---- policies of one row, `100,any,any,any,any,any,ACTION`

abbrev pub all_to : Action → Row
all_to action = record {
  priority = 100;
  src = record { address = 0; len = 0 };
  dst = record { address = 0; len = 0 };
  sport = record { low = 0; high = 65535 };
  dport = record { low = 0; high = 65535 };
  proto = Any;
  action = action;
}

-- the first file lets all out by port 2, the second one drops all
abbrev pub out_or_drop : List PolicyFile
out_or_drop = Whole (all_to (Out 2) ∷ []) ∷ Whole (all_to Drop ∷ []) ∷ []

-- the plan of the policy that lets out, and of the one that drops
abbrev pub by_action : Result (List HostedPolicyPartition) NoPolicyPlan → Result (List HostedPolicyPartition) NoPolicyPlan → List Row
    → Result (List HostedPolicyPartition) NoPolicyPlan
by_action outs drops [] = Err TooManyLeaves
by_action outs drops (row ∷ rows) = elim row.action [ Drop ↦ drops | Out port ↦ outs ]

-- ---- plans of one partition

abbrev pub any_word : WordValue
any_word = record { value = 0; mask = 0 }

abbrev pub rule : WordValue → ℕ → Option ℕ → Action → Rule
rule word rank priority action =
    record { word = word; rank = rank; rule = priority; action = action }

abbrev pub on : List ℕ → List Rule → List HostedPolicyPartition
on targets rules = (record { number = 0; region = any_word; rules = rules }, targets) ∷ []

-- `200,any,10.1.0.0/16,any,80,tcp,drop` and `100,any,10.0.0.0/8,any,any,tcp,out:2`, on b
abbrev pub web : WordValue
web = record { value = 184539498331133464582; mask = 4722294425275624062975 }

abbrev pub tcp : WordValue
tcp = record { value = 184467440737095516166; mask = 4703919738795935662335 }

abbrev pub shield_plan : List HostedPolicyPartition
shield_plan = on (1 ∷ []) (rule web 0 (Some 200) Drop ∷ rule tcp 1 (Some 100) (Out 2)
    ∷ rule any_word 2 None Drop ∷ [])

-- the word of the cache rule that `one` brings
abbrev pub cached : WordValue
cached = record { value = 184611555925171372038; mask = 4704063853984011518207 }

-- `100,any,any,any,any,any,out:2`, and the same with `drop`, on b; the latter on the one switch too
abbrev pub plan_p : List HostedPolicyPartition
plan_p = on (1 ∷ []) (rule any_word 0 (Some 100) (Out 2) ∷ rule any_word 1 None Drop ∷ [])

abbrev pub all_dropped : List Rule
all_dropped = rule any_word 0 (Some 100) Drop ∷ rule any_word 1 None Drop ∷ []

abbrev pub plan_q : List HostedPolicyPartition
plan_q = on (1 ∷ []) all_dropped

abbrev pub plan_s : List HostedPolicyPartition
plan_s = on (0 ∷ []) all_dropped

-- ---- networks

abbrev pub switch : List ℕ → ℕ → ℕ → SwitchRow
switch name ports room = record { name = name; ports = ports; room = room }

abbrev pub link : ℕ → ℕ → LinkRow
link one two = record { one = one; two = two }

abbrev pub network : List SwitchRow → List LinkRow → Net
network switches links = record {
  switches = switches;
  links = links;
  leaf_rules = 8;
  backups = 0;
  cache = 4;
}

-- a has the port 1; b the port 2, and room for 100 rules
abbrev pub two_switches : Net
two_switches =
    network (switch (codes "a") 2 0 ∷ switch (codes "b") 4 100 ∷ []) (link 0 1 ∷ [])

abbrev pub shielded : Setting
shielded = record { net = two_switches; files = out_or_drop; plan = λ rows. Ok shield_plan }

abbrev pub open_net : Setting
open_net = record {
  net = two_switches;
  files = out_or_drop;
  plan = by_action (Ok plan_p) (Ok plan_q);
}

-- a-b, a-c, b-d, c-d; d has the port 2, and room
abbrev pub ring_net : Net
ring_net = network
    (switch (codes "a") 0 0 ∷ switch (codes "b") 0 0 ∷ switch (codes "c") 0 0
    ∷ switch (codes "d") 4 10 ∷ [])
    (link 0 1 ∷ link 0 2 ∷ link 1 3 ∷ link 2 3 ∷ [])

abbrev pub ring : Setting
ring = record { net = ring_net; files = out_or_drop; plan = λ rows. Ok (on (3 ∷ []) all_dropped) }

-- a-b, b-c; c is the authority, and b its backup
abbrev pub line_of_three : Setting
line_of_three = record {
  net = network
      (switch (codes "a") 0 0 ∷ switch (codes "b") 0 10 ∷ switch (codes "c") 4 10 ∷ [])
      (link 0 1 ∷ link 1 2 ∷ []);
  files = out_or_drop;
  plan = λ rows. Ok (on (2 ∷ 1 ∷ []) all_dropped);
}

-- one switch with all ports
abbrev pub solo : Setting
solo = record {
  net = network (switch (codes "s0") (2 ^ 64 - 1) 8192 ∷ []) [];
  files = out_or_drop;
  plan = λ rows. Ok plan_s;
}

-- ---- in the open network a crashes, begins boot 2, and is sent tables and its opening

abbrev pub rebooting : List MachineStepOfRow
rebooting = at 1 (Step.Crash 0) ∷ at 2 (Step.Restart 0) ∷ at 3 (Step.Deliver 1)
    ∷ at 4 (Step.Deliver 2) ∷ at 5 (Step.Deliver 3) ∷ []

abbrev pub rebooted : List Item
rebooted = Item.Row 1 (Step.Crash 0) ∷ Item.Down 0 ∷ Item.Row 2 (Step.Restart 0) ∷ Item.Booted 0 2
    ∷ Item.Sent 1 (to_controller (Hello 0 2)) ∷ delivered 3 1
    ++ Item.Sent 2 (to 0 (Install 2 (tables_of plan_p 1 0))) ∷ answered 4 2 3 (Installed 0 2 1)
    ++ delivered 5 3 ++ Item.Sent 4 (to 0 (OpenAt 2 1)) ∷ []

-- ---- failing links, computed

-- what becomes of a packet in a ring whose links fail
abbrev pub round : List Item
round = Item.Row 1 (Step.Packet 0 one) ∷ Item.Entered 1 0 one
    ∷ Item.Seeking 1 1 0 (0 ∷ 1 ∷ 3 ∷ []) ∷ Item.Row 2 (Step.LinkDown 1 3) ∷ Item.LinkIs 1 3 false
    ∷ Item.Sent 1 (to 0 (advert 1 1 2 1)) ∷ Item.Sent 2 (to 2 (advert 3 1 2 4))
    ∷ Item.Row 3 (Step.Hop 1) ∷ Item.Hopped 1 1 ∷ Item.Row 4 (Step.Hop 1) ∷ Item.FoundDown 1 1 3
    ∷ Item.Rerouted 1 (1 ∷ 0 ∷ 2 ∷ 3 ∷ []) ∷ Item.Hopped 1 0 ∷ Item.Row 5 (Step.LinkDown 2 0)
    ∷ Item.LinkIs 0 2 false ∷ Item.Sent 3 (to 1 (advert 0 1 2 2))
    ∷ Item.Sent 4 (to 3 (advert 2 1 2 8)) ∷ Item.Row 6 (Step.Hop 1) ∷ Item.FoundDown 1 0 2
    ∷ Item.Stuck 1 0 Cause.NoRoute (Leg.Seek 1 0) (with_failover_link (with_failover_link no_failover_links 1 3) 0 2) ∷ []

-- a ring a-b-d-c of switches whose authority is d: the packet goes round the link that it finds
-- down, and is stuck at the next one
pub link_rows : left_by ring (at 1 (Step.Packet 0 one) ∷ at 2 (Step.LinkDown 1 3) ∷ at 3
    (Step.Hop 1) ∷ at 4 (Step.Hop 1) ∷ at 5 (Step.LinkDown 2 0) ∷ at 6 (Step.Hop 1) ∷ []) ≡ round
unfolding left_by
link_rows = refl

-- two switches, whose authority b is down
pub no_authority_rows : left_by open_net (at 1 (Step.Crash 1) ∷ at 2 (Step.Packet 0 one) ∷ [])
    ≡ Item.Row 1 (Step.Crash 1) ∷ Item.Down 1 ∷ Item.Row 2 (Step.Packet 0 one)
    ∷ Item.Entered 1 0 one ∷ Item.Stuck 1 0 Cause.NoAuthority (Leg.Seek 1 0) no_failover_links ∷ []
unfolding left_by
no_authority_rows = refl

-- ---- the versions of the open network, where the second one is submitted with the second file:
-- what trials cite, here and above.

-- ---- the first version

first_rows : (journal : List Item) → machine_policy_in open_net journal 1 ≡ Some (all_to (Out 2) ∷ [])
unfolding machine_policy_in journal_version_file
first_rows journal = refl

pub first_policy : (journal : List Item) → machine_policy_at open_net journal 1 ≡ all_to (Out 2) ∷ []
unfolding machine_policy_at
first_policy journal = ap (λ o. unwrap_or o []) (first_rows journal)

pub first_plan : (journal : List Item) → journal_plan_at open_net journal 1 ≡ plan_p
unfolding journal_plan_at
first_plan journal = cc (first_rows journal)

pub first_planned : (journal : List Item) → MachineVersionHasPlan open_net journal 1
unfolding machine_policy_at journal_plan_at machine_policy_in journal_version_file
first_planned journal = record { policy = refl; plan = refl }

pub of_first : (journal : List Item) → IsMachineSettingPlanOf open_net journal 1 plan_p
of_first journal = (all_to (Out 2) ∷ [], first_rows journal, refl)

-- it has no other plan
pub first_alone : (journal : List Item) (plan : List HostedPolicyPartition) → IsMachineSettingPlanOf open_net journal 1 plan
    → plan ≡ plan_p
first_alone journal plan (rows, policy, planned) =
    let own : rows ≡ all_to (Out 2) ∷ [] = cc (sym policy ∙ first_rows journal) in
    cc (subst (λ these. open_net.plan these ≡ Ok plan) own planned)

-- ---- the second one, behind items that submit nothing

second_file : (before items : List Item) → NoMachineItemConcerns machine_item_concerns_policies [] before
    → journal_version_file (before ++ Item.Submitted 2 2 ∷ items) 2 ≡ Some 2
unfolding journal_version_file
second_file before items none =
    cc (file_append before (Item.Submitted 2 2 ∷ items) 2, (policies_keep [] before none).file 2)

second_rows : (before items : List Item) → NoMachineItemConcerns machine_item_concerns_policies [] before
    → machine_policy_in open_net (before ++ Item.Submitted 2 2 ∷ items) 2 ≡ Some (all_to Drop ∷ [])
unfolding machine_policy_in
second_rows before items none = cc (second_file before items none)

pub second_policy : (before items : List Item) → NoMachineItemConcerns machine_item_concerns_policies [] before
    → machine_policy_at open_net (before ++ Item.Submitted 2 2 ∷ items) 2 ≡ all_to Drop ∷ []
unfolding machine_policy_at
second_policy before items none = ap (λ o. unwrap_or o []) (second_rows before items none)

pub second_plan : (before items : List Item) → NoMachineItemConcerns machine_item_concerns_policies [] before
    → journal_plan_at open_net (before ++ Item.Submitted 2 2 ∷ items) 2 ≡ plan_q
unfolding journal_plan_at
second_plan before items none = cc (second_rows before items none)

pub second_planned : (before items : List Item) → NoMachineItemConcerns machine_item_concerns_policies [] before
    → MachineVersionHasPlan open_net (before ++ Item.Submitted 2 2 ∷ items) 2
second_planned before items none =
    let policy = second_policy before items none in
    let plan = second_plan before items none in record {
      policy = second_rows before items none ∙ ap Some (sym policy);
      plan = ap open_net.plan policy ∙ ap Ok (sym plan);
    }

pub of_second : (before items : List Item) → NoMachineItemConcerns machine_item_concerns_policies [] before
    → IsMachineSettingPlanOf open_net (before ++ Item.Submitted 2 2 ∷ items) 2 plan_q
of_second before items none = (all_to Drop ∷ [], second_rows before items none, refl)

-- a version of a file that isn't there has no plan
pub none_of_7 : (items : List Item) → MachineVersionHasPlan open_net (Item.Submitted 7 2 ∷ items) 2 → ⊥
unfolding machine_policy_at machine_policy_in journal_version_file
none_of_7 items has = cc has.policy

-- ---- the causes of packets' ends and of what fails, computed

-- an item that needs no cause, and those behind it
free : {causes : Type 0} → causes → ⊤ × causes
free behind = (tt, behind)

-- in the ring a packet finds two links down, and is stuck at the second one
abbrev behind : List Item
behind = take 19 round

abbrev is_left : ℕ → ℕ → Bool
is_left one two = is_journal_link_open ring behind 1 0 one two

-- a link that is left to it from a leads to b alone, and from b back to a
from_a : (two : ℕ) → IsTrue (is_left 0 two) → two ≡ 1
unfolding serves is_link_up_in_journal
from_a two is = grind (arith, nat_tests)

from_b : (two : ℕ) → IsTrue (is_left 1 two) → two ≡ 0
unfolding serves is_link_up_in_journal journal_claim_of journal_message_of
from_b two is = grind (arith, nat_tests)

keeps_to : (one two : ℕ) → IsTrue (nat_le one 1) → IsTrue (is_left one two) → IsTrue (nat_le two 1)
keeps_to one two within is = elim (cases_eq one 0) [
  | inl same ↦ rw (from_a two (subst (λ x. IsTrue (is_left x two)) same is)) refl
  | inr apart ↦ let same : one ≡ 1 = omega (arith, apart, leb-true one 1 within) in
      rw (from_b two (subst (λ x. IsTrue (is_left x two)) same is)) refl
]

abbrev no_way_to : ℕ → Type 0
no_way_to target = (path : List ℕ) → ¬ MachineWalkLeads is_left 0 path target

no_path_left : no_way_to 3
no_path_left path leads =
    let within : false ≡ true = ends_within is_left (λ n. nat_le n 1) keeps_to 0 path 3 refl leads
    in absurd cc

own_leg_there : AreMachineLegTargets ring behind 1 (Leg.Seek 1 0) (3 ∷ [])
unfolding journal_packet_header holds journal_decision_of machine_policy_in journal_version_file
own_leg_there = (
  refl,
  one,
  refl,
  on (3 ∷ []) all_dropped,
  (all_to (Out 2) ∷ [], refl, refl),
  (record { number = 0; region = any_word; rules = all_dropped }, 3 ∷ []),
  (0, omega arith, refl),
  refl,
  refl,
  refl,
)

pub stuck_has_cause : JournalItemsHaveCauses (HasMachineCause ring) [] round
unfolding journal_standing_of serves is_link_up_in_journal journal_present_step
stuck_has_cause = free (free (free (free (
  inl refl,
  free (free (free (free (free (
    record { stands = refl; linked = refl; unusable = refl },
    free (free (free (
      inr refl,
      free (free (free (
        record { stands = refl; linked = refl; unusable = refl },
        (
          record {
            stands = refl;
            serving = refl;
            targets = 3 ∷ [];
            own_leg = own_leg_there;
            no_path = All-from_recursion no_way_to (3 ∷ []) (no_path_left, tt);
          },
          tt,
        ),
      ))),
    ))),
  ))))),
))))

-- one packet is lost by its row, and another one with its switch
pub lost_has_cause : JournalItemsHaveCauses (HasMachineCause open_net) []
    (Item.Entered 1 0 one ∷ Item.Entered 2 0 one ∷ Item.Row 3 (Step.Lose 1) ∷ Item.Lost 1
    ∷ Item.Row 4 (Step.Crash 0) ∷ Item.Down 0 ∷ Item.Lost 2 ∷ [])
unfolding journal_standing_of journal_present_step
lost_has_cause = free (free (free (
  inl refl,
  free (refl, (inr (record { switch = 0; crashes = refl; stands = refl }), tt)),
)))
