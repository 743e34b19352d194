-- Journals that break the headline, one whole version: the last item of each is one that no
-- network writes. Its strong cause is refuted by the field that it breaks; where the item has a
-- cause of the plainer sort too, that one holds.
use Rattle.std.proofs.Common.{[], ◌<◌, ◌==◌, ◌∙◌, ◌∷◌, ◌≡◌, All, Contains, IsFalse, IsTrue, List, None, Some, arith, eqb-true, false, get_or, inr, refl, subst, sym, true, ℕ, rules}
use Rattle.base.proofs.Exports.{All-from_recursion, nat_tests}
use Rattle.failover.specs.Exports.{no_failover_links}
use Rattle.base.specs.Exports.{has, small_number_mask, number_set_where, switches}
use Rattle.partition.specs.Plan.{HostedPolicyPartition}
use Rattle.update_machine.specs.Exports.{AreMachineLegTargets, Authority, Crash, Deliver, Drop, Exit, HasMachineCause, Hop, IsMachineSettingPlanOf, Item, MachineWalkLeads, LinkDown, NoAuthority, NoRoute, Out, Packet, Restart, Rule, Seek, Setting, Update, acked_stamp, journal_claim_of, journal_controller_heard, journal_current_mark, journal_decision_of, journal_packet_header, is_link_up_in_journal, is_member, is_journal_link_open, is_over, is_up, journal_known_boot, journal_message_of, near, journal_next_policy, journal_next_retired, journal_next_switch, journal_opened_at, journal_present_step, journal_retired_mark, journal_route_in, journal_route_place, serves, journal_standing_of}
use Rattle.ternary.specs.Exports.{holds}
use Rattle.update_machine.proofs.Exports.{all_dropped, any_word, ends_within, first_alone, line_of_three, of_first, of_second, on, one, open_net, other, plan_p, ring, rule}
use Rattle.packet_laws.specs.Exports.{PacketMovesOver, PacketStrongCause, packet_entry_mark}

-- ---- packets that are stuck, where the one link failed

abbrev cut : List Item → List Item
cut items = Item.Row 1 (LinkDown 0 1) ∷ Item.LinkIs 0 1 false ∷ items

-- version 1 was retired before the packet entered; version 2 isn't current yet; it was decided
abbrev retired : List Item
retired = cut (Item.Row 2 (Update 2) ∷ Item.Submitted 2 2 ∷ Item.Current 2 ∷ Item.Retired 1
    ∷ Item.Row 3 (Packet 0 one) ∷ Item.Entered 1 0 one ∷ [])

abbrev came_in : List Item
came_in = Item.Row 3 (Packet 0 one) ∷ Item.Entered 1 0 one ∷ []

abbrev to_come : List Item
to_come = cut (Item.Row 2 (Update 2) ∷ Item.Submitted 2 2 ∷ came_in)

abbrev decided : List Item
decided = cut (Item.Row 2 (Packet 0 one) ∷ Item.Entered 1 0 one
    ∷ Item.Decided 1 1 (Some 100) (Out 2) (Authority 0 0) ∷ [])

-- the packet seeks an authority by this version, and its switch knows of none
abbrev seeking : ℕ → Item
seeking version = Item.Stuck 1 0 NoAuthority (Seek version 0) no_failover_links

-- no link that it knows leads away
none_left : (journal : List Item) (two : ℕ) → IsFalse (is_link_up_in_journal journal 0 1)
    → IsTrue (is_journal_link_open open_net journal 1 0 0 two) → ⊥
none_left journal two down is = grind (arith, nat_tests)

stays_there : (journal : List Item) → IsFalse (is_link_up_in_journal journal 0 1) → (one two : ℕ)
    → IsTrue (one == 0) → IsTrue (is_journal_link_open open_net journal 1 0 one two) → IsTrue (two == 0)
stays_there journal down one two at is = search (rules, eqb-true)

abbrev no_way_to : List Item → ℕ → Type 0
no_way_to journal target = (path : List ℕ) → ¬ MachineWalkLeads (is_journal_link_open open_net journal 1 0) 0 path target

no_way : (journal : List Item) → IsFalse (is_link_up_in_journal journal 0 1) → no_way_to journal 1
no_way journal down path leads = absurd (cc (ends_within _ _ (stays_there _ down) 0 _ 1 refl leads))

-- the plan of the version has one partition, on b
own_targets : (journal : List Item) (version : ℕ) (rules : List Rule)
    → journal_decision_of journal 1 ≡ None → journal_packet_header journal 1 ≡ Some one
    → IsMachineSettingPlanOf open_net journal version (on (1 ∷ []) rules)
    → AreMachineLegTargets open_net journal 1 (Seek version 0) (1 ∷ [])
unfolding holds
own_targets journal version rules undecided entered planned = (
  undecided,
  one,
  entered,
  on (1 ∷ []) rules,
  planned,
  (record { number = 0; region = any_word; rules = rules }, 1 ∷ []),
  (0, omega arith, refl),
  refl,
  refl,
  refl,
)

stuck_at : (journal : List Item) (version : ℕ) → journal_standing_of journal 1 ≡ Some 0
    → IsTrue (serves journal 0) → IsFalse (is_link_up_in_journal journal 0 1)
    → AreMachineLegTargets open_net journal 1 (Seek version 0) (1 ∷ [])
    → HasMachineCause open_net journal (seeking version)
stuck_at journal version stands serving down own = record {
  stands = stands;
  serving = serving;
  targets = 1 ∷ [];
  own_leg = own;
  no_path = All-from_recursion (no_way_to journal) (1 ∷ []) (no_way journal down, tt);
}

abbrev lets_out : List Rule
lets_out = rule any_word 0 (Some 100) (Out 2) ∷ rule any_word 1 None Drop ∷ []

stuck_have_causes : HasMachineCause open_net retired (seeking 1) × HasMachineCause open_net to_come (seeking 2)
unfolding journal_standing_of serves is_link_up_in_journal journal_packet_header journal_decision_of
stuck_have_causes = (
  stuck_at retired 1 refl refl refl (own_targets retired 1 lets_out refl refl (of_first retired)),
  stuck_at to_come 2 refl refl refl (own_targets to_come 2 all_dropped refl refl
      (of_second (cut (Item.Row 2 (Update 2) ∷ [])) came_in (refl, (refl, (refl, tt))))),
)

not_stuck_by_a_retired_version : PacketStrongCause open_net retired (seeking 1) → ⊥
unfolding packet_entry_mark journal_retired_mark
not_stuck_by_a_retired_version cause = absurd (omega (arith, cause.1.rightly.not_retired))

not_stuck_by_a_version_to_come : PacketStrongCause open_net to_come (seeking 2) → ⊥
unfolding journal_current_mark
not_stuck_by_a_version_to_come cause = absurd (omega (arith, cause.1.rightly.current))

-- nor by one that never was
not_stuck_by_no_version : PacketStrongCause open_net to_come (seeking 7) → ⊥
unfolding journal_current_mark
not_stuck_by_no_version cause = absurd (omega (arith, cause.1.rightly.current))

not_stuck_seeking_once_decided : HasMachineCause open_net decided (seeking 1) → ⊥
unfolding journal_decision_of
not_stuck_seeking_once_decided cause = let none = cause.own_leg.0 in absurd cc

-- on its way out, on the leg of another port than its decision's
not_stuck_on_another_leg : PacketStrongCause open_net decided
    (Item.Stuck 1 0 NoRoute (Exit 1) no_failover_links) → ⊥
unfolding journal_decision_of
not_stuck_on_another_leg cause = search rules

-- ---- packets that are stuck, though their switch knows a way: no cause of either sort

abbrev entered : List Item
entered = Item.Row 1 (Packet 0 one) ∷ Item.Entered 1 0 one ∷ []

its_part : (k : ℕ) (hosted : HostedPolicyPartition) → k < 1 → get_or plan_p k hosted ≡ hosted → hosted.1 ≡ 1 ∷ []
its_part k hosted within e = search rules

not_stuck_where_a_way_is_known : HasMachineCause open_net entered (seeking 1) → ⊥
unfolding is_link_up_in_journal serves journal_claim_of journal_message_of
not_stuck_where_a_way_is_known cause =
    let own = cause.own_leg in
    let plan : own.3 ≡ plan_p = first_alone entered own.3 own.4 in
    let there : Contains plan_p own.5 = subst (λ all. Contains all own.5) plan own.6 in
    subst (All (no_way_to entered)) (sym own.9 ∙ its_part there.0 own.5 there.1 there.2)
    cause.no_path 0 0 (omega arith) (1 ∷ []) (refl, refl)

-- ---- packets that enter

-- with another header than its row's
not_with_another_header : PacketStrongCause open_net (Item.Row 1 (Packet 0 one) ∷ [])
    (Item.Entered 1 0 other) → ⊥
unfolding journal_present_step
not_with_another_header cause = search rules

-- at another switch than its row's
not_at_another_switch : PacketStrongCause open_net (Item.Row 1 (Packet 0 one) ∷ [])
    (Item.Entered 1 1 one) → ⊥
unfolding journal_present_step
not_at_another_switch cause = let row = cause.0.0.row in absurd cc

-- in the row of no packet
not_in_another_row : PacketStrongCause open_net (Item.Row 1 (Deliver 7) ∷ []) (Item.Entered 1 0 one) → ⊥
unfolding journal_present_step
not_in_another_row cause = let row = cause.0.0.row in absurd cc

-- at a switch that is down
not_at_one_that_is_down : PacketStrongCause open_net
    (Item.Row 1 (Crash 0) ∷ Item.Down 0 ∷ Item.Row 2 (Packet 0 one) ∷ []) (Item.Entered 1 0 one) → ⊥
unfolding serves
not_at_one_that_is_down cause = let served : false ≡ true = cause.0.1 in absurd cc

-- or is closed where the switch serves
not_refused_where_served : PacketStrongCause open_net (Item.Row 1 (Packet 0 one) ∷ [])
    (Item.Closed 1 0) → ⊥
unfolding serves
not_refused_where_served cause = let closed : true ≡ false = cause.0.1 in absurd cc

-- ---- packets on their way

-- from a to c, between which there is no link
abbrev leap : List Item
leap = Item.Row 1 (Packet 0 one) ∷ Item.Entered 1 0 one ∷ Item.Seeking 1 1 0 (0 ∷ 2 ∷ [])
    ∷ Item.Row 2 (Hop 1) ∷ []

hops_over_usable : (setting : Setting) (before : List Item) (packet s next : ℕ)
    (moves : PacketMovesOver setting before packet next) → s ≡ moves.switch
    → IsTrue (has (near setting before s) next)
hops_over_usable setting before packet s next moves at = rw at moves.usable

not_hopped_where_no_link_leads : PacketStrongCause line_of_three leap (Item.Hopped 1 2) → ⊥
unfolding near journal_standing_of has small_number_mask number_set_where switches is_link_up_in_journal serves
not_hopped_where_no_link_leads cause = search (rules, hops_over_usable)

not_found_down_where_no_link_is : HasMachineCause line_of_three leap (Item.FoundDown 1 0 2) → ⊥
not_found_down_where_no_link_is cause = let linked : false ≡ true = cause.linked in absurd cc

-- over a link that failed
abbrev failing : List Item
failing = Item.Row 1 (Packet 0 one) ∷ Item.Entered 1 0 one ∷ Item.Seeking 1 1 0 (0 ∷ 1 ∷ [])
    ∷ Item.Row 2 (LinkDown 0 1) ∷ Item.LinkIs 0 1 false ∷ Item.Row 3 (Hop 1) ∷ []

not_hopped_over_a_failed_link : PacketStrongCause open_net failing (Item.Hopped 1 1) → ⊥
unfolding near journal_standing_of has small_number_mask number_set_where switches is_link_up_in_journal serves
not_hopped_over_a_failed_link cause = search (rules, hops_over_usable)

-- ---- what fails

-- a switch that no row crashes doesn't go down, and a link that no row fails doesn't change
not_down_for_nothing : HasMachineCause open_net (Item.Row 1 (Deliver 7) ∷ []) (Item.Down 0) → ⊥
unfolding journal_present_step
not_down_for_nothing crashes = absurd cc

not_booted_for_nothing : HasMachineCause open_net (Item.Row 1 (Crash 0) ∷ []) (Item.Booted 0 2) → ⊥
unfolding journal_present_step
not_booted_for_nothing cause = let restarts = cause.0 in absurd cc

not_booted_while_it_serves : HasMachineCause open_net (Item.Row 1 (Restart 0) ∷ []) (Item.Booted 0 2) → ⊥
unfolding serves
not_booted_while_it_serves cause = let closed : true ≡ false = cause.1 in absurd cc

-- nor is a policy submitted that no row updates to
not_submitted_for_nothing : HasMachineCause open_net (Item.Row 1 (Deliver 7) ∷ []) (Item.Submitted 2 2) → ⊥
unfolding journal_present_step
not_submitted_for_nothing updates = absurd cc

not_failed_for_nothing : HasMachineCause open_net (Item.Row 1 (LinkDown 0 2) ∷ [])
    (Item.LinkIs 0 1 false) → ⊥
unfolding journal_present_step
not_failed_for_nothing h0 = search rules

failed_by_its_row : HasMachineCause open_net (Item.Row 1 (LinkDown 1 0) ∷ []) (Item.LinkIs 0 1 false)
unfolding journal_present_step
failed_by_its_row = inr refl

-- by another way than its route
not_hopped_off_its_route : PacketStrongCause ring (Item.Row 1 (Packet 0 one) ∷ Item.Entered 1 0 one
    ∷ Item.Seeking 1 1 0 (0 ∷ 1 ∷ 3 ∷ []) ∷ Item.Row 2 (Hop 1) ∷ []) (Item.Hopped 1 2) → ⊥
unfolding journal_next_switch journal_route_in journal_route_place
not_hopped_off_its_route cause = search rules

-- ---- decisions and losses

-- by a version that isn't current yet
not_decided_by_a_version_to_come : PacketStrongCause open_net to_come
    (Item.Decided 1 2 (Some 100) Drop (Authority 0 0)) → ⊥
unfolding journal_current_mark
not_decided_by_a_version_to_come cause = absurd (omega (arith, cause.1.0.current))

-- in the row of a crash that didn't happen
abbrev uncrashed : List Item
uncrashed = Item.Row 1 (Packet 0 one) ∷ Item.Entered 1 0 one ∷ Item.Row 2 (Crash 0) ∷ []

lost_has_cause : HasMachineCause open_net uncrashed (Item.Lost 1)
unfolding journal_present_step journal_standing_of
lost_has_cause = inr (record { switch = 0; crashes = refl; stands = refl })

not_lost_without_a_crash : PacketStrongCause open_net uncrashed (Item.Lost 1) → ⊥
unfolding journal_present_step is_up journal_standing_of
not_lost_without_a_crash cause = search rules

-- ---- the controller's items

-- a version of a file that isn't there
not_submitted_without_a_file : PacketStrongCause open_net (Item.Row 1 (Update 7) ∷ [])
    (Item.Submitted 7 2) → ⊥
unfolding journal_next_policy
not_submitted_without_a_file cause = cc cause.1.policy

-- a mark that isn't below the stamp that each member acknowledged
not_retired_while_stamped : PacketStrongCause open_net
    (Item.Row 1 (Update 2) ∷ Item.Submitted 2 2 ∷ Item.Current 2 ∷ []) (Item.Retired 1) → ⊥
unfolding journal_next_retired acked_stamp is_member is_over journal_known_boot journal_opened_at journal_controller_heard
    journal_current_mark
not_retired_while_stamped cause = let least : 1 ≡ 0 = cause.1.least in absurd (omega (arith, least))
