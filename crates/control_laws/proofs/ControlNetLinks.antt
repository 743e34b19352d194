-- Adverts, known links and routes name links of the network alone.
use Rattle.std.proofs.Common.{[], ◌&&◌, ◌<◌, ◌==◌, ◌∙◌, ◌∷◌, ◌≡◌, ◌≤◌, ◌⊎◌, Bool, IsTrue, List, None, Option, Some, ap, arith, eq-eqb, false, filter, get_or, get_or-set_other, get_or-set_same, inl, inr, length, length-set, map, refl, set, subst, sym, true, ℕ}
use Rattle.base.proofs.Exports.{All-from_recursion, any_filter, cases_eq, cases_lt, get_or-map, get_or_past, has-zero, length-map, list_any, mask_of_lt, nat_tests}
use Rattle.failover.specs.Exports.{AreJoinedByFailoverLinks, IsFailoverPath, IsRoute, FailoverLinksLeadTo, adverts_after_hearing, first_adverts, held_advert, is_known_route_link, is_advert_news, neighbours_by_adverts, neighbours_named_by_advert}
use Rattle.base.specs.Exports.{has, small_number_mask, number_set_where, switches}
use Rattle.update_machine.specs.Exports.{Advert, JournalItemsHaveCauses, Hello, Item, LinkRow, Net, Setting, Step, MachineStepOfRow, journal_advert_known, machine_advert_to, journal_adverts_known, journal_after_steps, journal_boot_of, journal_crash_items, heard, journal_held_adverts, is_link_up_in_journal, is_up, is_usable_in_journal, journal_link_changes, machine_link_items, journal_links_known, journal_message_of, near, journal_next_message, own_advert, journal_own_advert_sent, journal_own_seq, piece, machine_restart_items, machine_sent_items_from, serves, journal_steps_in}
use Rattle.net_file.specs.Exports.{IsNet, IsNetSwitchRow, are_linked_in_net, net_link_joins, links_of, net_of_one_switch}
use Rattle.net_file.proofs.NetFilePortMasks.{in_mask, in_mask_of, in_mask_past}
use Rattle.steps.specs.Exports.{StepLinkExists, StepSwitchExists}
use Rattle.update_machine.proofs.Exports.{advert, at, has_known_link, known_link_laws, open_net, to, to_controller, two_switches}
use Rattle.control_laws.specs.Exports.{ControlAdvertsAreOfSwitches, AllControlAdverts, ControlRouteFollowsLinks, IsNoNewerControlAdvert, IsControlRouteOverLinks, ControlAdvertisedLinksAreThere, ControlAdvertNamesLinks, ControlOwnAdvertsAreNewest}
use Rattle.control_laws.proofs.ControlAllAdverts.{AreSuch, HasBothCauses, IsAdvertFact, all_such, behind_both, is_newest, known_such, own_told, such_on}
use Rattle.net_file.proofs.NetFileRowPlaces.{links}
use Rattle.control_laws.proofs.ControlOwnAdverts.{own_newest}

-- ---- usable links

-- a mask of neighbours has linked switches alone
pub linked_by_mask : (links : List LinkRow) (s k : ℕ) → IsTrue (has (links_of links s) k)
    → IsTrue (are_linked_in_net links s k)
unfolding has
linked_by_mask links s k is = elim (cases_lt k 64) [
  | inl small ↦ sym (in_mask_of (are_linked_in_net links s) k small) ∙ is
  | inr past ↦
      absurd (cc (in_mask_past (links_of links s) k (mask_of_lt (are_linked_in_net links s)) past))
]

pub near_linked : (setting : Setting) (journal : List Item) (s k : ℕ)
    → IsTrue (has (near setting journal s) k) → StepLinkExists setting.net s k
unfolding near
near_linked setting journal s k is = any_filter (net_link_joins s k) (is_usable_in_journal journal) setting.net.links
    (linked_by_mask (filter (is_usable_in_journal journal) setting.net.links) s k is)

-- ---- both ends of such a link serve

usable_serves : (journal : List Item) (s k : ℕ) (link : LinkRow) → net_link_joins s k link ≡ true
    → is_usable_in_journal journal link ≡ true → (serves journal s ≡ true) × (serves journal k ≡ true)
usable_serves journal s k link joined usable = grind (arith, nat_tests)

any_serves : (journal : List Item) (s k : ℕ) (links : List LinkRow)
    → list_any (net_link_joins s k) (filter (is_usable_in_journal journal) links) ≡ true
    → (serves journal s ≡ true) × (serves journal k ≡ true)
any_serves journal s k [] is = absurd cc
any_serves journal s k (link ∷ links) is =
    by_tests (is_usable_in_journal journal link) refl (any_serves journal s k links) is
  where
    by_joins : (b : Bool) → net_link_joins s k link ≡ b → is_usable_in_journal journal link ≡ true
        → (list_any (net_link_joins s k) (filter (is_usable_in_journal journal) links) ≡ true
        → (serves journal s ≡ true) × (serves journal k ≡ true))
        → list_any (net_link_joins s k) (link ∷ filter (is_usable_in_journal journal) links) ≡ true
        → (serves journal s ≡ true) × (serves journal k ≡ true)
    by_joins true e usable rest is = usable_serves journal s k link e usable
    by_joins false e usable rest is = rest (rw e at is)

    by_tests : (b : Bool) → is_usable_in_journal journal link ≡ b
        → (list_any (net_link_joins s k) (filter (is_usable_in_journal journal) links) ≡ true
        → (serves journal s ≡ true) × (serves journal k ≡ true))
        → list_any (net_link_joins s k) (filter (is_usable_in_journal journal) (link ∷ links)) ≡ true
        → (serves journal s ≡ true) × (serves journal k ≡ true)
    by_tests true e rest is = by_joins (net_link_joins s k link) refl e rest (rw e at is)
    by_tests false e rest is = rest (rw e at is)

pub ends_serve : (setting : Setting) (journal : List Item) (s k : ℕ)
    → IsTrue (has (near setting journal s) k)
    → (serves journal s ≡ true) × (serves journal k ≡ true)
unfolding near
ends_serve setting journal s k is = any_serves journal s k setting.net.links
    (linked_by_mask (filter (is_usable_in_journal journal) setting.net.links) s k is)

-- ---- adverts

own_names : (setting : Setting) (journal : List Item) (s : ℕ)
    → ControlAdvertNamesLinks setting.net (own_advert setting journal s)
unfolding own_advert
own_names setting journal s k is = near_linked setting journal s k is

pub names_fact : (setting : Setting) → IsAdvertFact setting (λ journal. ControlAdvertNamesLinks setting.net)
names_fact setting = record {
  kept = λ before next both advert names. names;
  own = λ journal s neighbour linked. own_names setting journal s;
  first = λ origin there k is. linked_by_mask setting.net.links origin k is;
}

-- an advert is known at the place of its origin
pub own_origin : (setting : Setting) (journal : List Item) (s : ℕ)
    → (own_advert setting journal s).origin ≡ s
unfolding own_advert
own_origin setting journal s = refl

pub known_origin : (setting : Setting) (journal : List Item) (s origin : ℕ) (advert : Advert)
    → origin < 64 → journal_advert_known setting journal s origin ≡ Some advert → advert.origin ≡ origin
known_origin setting journal s origin advert small known = elim (cases_eq origin s) [
  | inl same ↦
      let own = sym (known_link_laws.own setting journal s (subst (λ x. x < 64) same small))
      ∙ ap (journal_advert_known setting journal s) (sym same) ∙ known in
      ap (λ a. a.origin) (sym (own_told (own_advert setting journal s) advert own))
      ∙ own_origin setting journal s ∙ sym same
  | inr apart ↦ (is_newest setting journal s origin advert apart small known).3
]

-- ---- known links

pub second : (a b c d : Bool) → (a && b && c && d) ≡ true → b ≡ true
second true true c d is = refl
second true false c d is = absurd cc
second false b c d is = absurd cc

no_link_in_none : (k : ℕ) → IsTrue (has 0 k) → ⊥
no_link_in_none k is = let none : has 0 k ≡ false = has-zero k in absurd cc

-- what a switch is told of another one's links
pub claimed_mask : (adverts : List (Option Advert)) (one : ℕ)
    → get_or (map neighbours_named_by_advert adverts) one 0 ≡ neighbours_named_by_advert (held_advert adverts one)
claimed_mask adverts one = elim (cases_lt one (length adverts)) [
  | inl within ↦ get_or-map neighbours_named_by_advert adverts one None 0 within
  | inr past ↦ get_or_past (map neighbours_named_by_advert adverts) one 0
      (omega (arith, past, length-map adverts neighbours_named_by_advert))
      ∙ ap neighbours_named_by_advert (sym (get_or_past adverts one None past))
]

claims_linked : (net : Net) (told : Option Advert) (one other : ℕ)
    → ((advert : Advert) → told ≡ Some advert → ControlAdvertNamesLinks net advert × (advert.origin ≡ one))
    → IsTrue (has (neighbours_named_by_advert told) other) → StepLinkExists net one other
claims_linked net None one other names is = absurd (no_link_in_none other is)
claims_linked net (Some advert) one other names is = let named = names advert refl in
    subst (λ origin. StepLinkExists net origin other) named.1 (named.0 other is)

-- a row of the links that are told: the switch's own, or one of an advert
linked_row : (net : Net) (adverts : List (Option Advert)) (at own one other : ℕ)
    → (IsTrue (has own other) → StepLinkExists net at other)
    → ((advert : Advert) → held_advert adverts one ≡ Some advert
    → ControlAdvertNamesLinks net advert × (advert.origin ≡ one))
    → IsTrue (has (get_or (set (map neighbours_named_by_advert adverts) at own) one 0) other)
    → StepLinkExists net one other
linked_row net adverts at own one other sees names is = elim (cases_eq one at) [
  | inl same ↦ by_place same (cases_lt at (length rows))
  | inr apart ↦ claims_linked net (held_advert adverts one) one other names
      (rw (get_or-set_other rows at one own 0 apart ∙ claimed_mask adverts one) at is)
] where
  rows : List ℕ
  rows = map neighbours_named_by_advert adverts

  by_place : one ≡ at → (at < length (map neighbours_named_by_advert adverts))
      ⊎ (length (map neighbours_named_by_advert adverts) ≤ at) → StepLinkExists net one other
  by_place same (inl within) =
      let row = ap (λ x. get_or (set (map neighbours_named_by_advert adverts) at own) x 0) same
      ∙ get_or-set_same (map neighbours_named_by_advert adverts) at own 0 within in
      subst (λ x. StepLinkExists net x other) (sym same)
      (sees (subst (λ mask. IsTrue (has mask other)) row is))
  by_place same (inr past) =
      let none = get_or_past (set (map neighbours_named_by_advert adverts) at own) one 0
      (omega (arith, same, past, length-set (map neighbours_named_by_advert adverts) at own)) in
      absurd (no_link_in_none other (subst (λ mask. IsTrue (has mask other)) none is))

known_linked : (setting : Setting) (journal : List Item)
    → AllControlAdverts setting journal (ControlAdvertNamesLinks setting.net)
    → (s one other : ℕ) (down : List ℕ) → one < 64 → other < 64
    → AreJoinedByFailoverLinks (journal_links_known setting journal s down) one other → StepLinkExists setting.net one other
unfolding is_known_route_link neighbours_by_adverts
known_linked setting journal adverts s one other down one_small other_small joined =
    linked_row setting.net (journal_adverts_known setting journal s) s (near setting journal s) one other
    (near_linked setting journal s other) (λ advert known. (
      adverts.held s one advert one_small known,
      known_origin setting journal s one advert one_small known,
    ))
    (second _ _ _ _
    (sym (has_known_link setting journal s down one other one_small other_small) ∙ joined))

-- ---- routes

leads_over : (net : Net) (links : List ℕ)
    → ((one other : ℕ) → one < 64 → other < 64 → AreJoinedByFailoverLinks links one other → StepLinkExists net one other)
    → (target at : ℕ) (route : List ℕ) → at < 64 → FailoverLinksLeadTo links target at route
    → ControlRouteFollowsLinks net at route
leads_over net links linked target at [] small leads = tt
leads_over net links linked target at (next ∷ route) small leads = (
  linked at next small leads.0 leads.1,
  leads_over net links linked target next route leads.0 leads.2,
)

path_over : (net : Net) (links : List ℕ)
    → ((one other : ℕ) → one < 64 → other < 64 → AreJoinedByFailoverLinks links one other → StepLinkExists net one other)
    → (from target : ℕ) (route : List ℕ) → IsFailoverPath links from target route → IsControlRouteOverLinks net route
unfolding IsFailoverPath
path_over net links linked from target [] path = tt
path_over net links linked from target (first ∷ route) path =
    leads_over net links linked target first route path.1 path.2

route_over : (net : Net) (links : List ℕ)
    → ((one other : ℕ) → one < 64 → other < 64 → AreJoinedByFailoverLinks links one other → StepLinkExists net one other)
    → (from : ℕ) (targets route : List ℕ) → IsRoute links from targets (Some route)
    → IsControlRouteOverLinks net route
unfolding IsRoute
route_over net links linked from [] route is = absurd cc
route_over net links linked from (target ∷ targets) route (inl is) =
    path_over net links linked from target route is.path
route_over net links linked from (target ∷ targets) route (inr is) =
    route_over net links linked from targets route is.1

-- ---- all of it

pub links_there : (setting : Setting) (journal : List Item)
    → JournalItemsHaveCauses (HasBothCauses setting) [] journal → ControlAdvertisedLinksAreThere setting journal
links_there setting journal have =
    let adverts = all_such setting (λ js. ControlAdvertNamesLinks setting.net) (names_fact setting) journal have
    (own_names setting journal) in record {
      adverts = adverts;
      usable = near_linked setting journal;
      known = known_linked setting journal adverts;
      routes = λ s targets down route is. route_over setting.net
          (journal_links_known setting journal s down) (λ one other one_small other_small joined.
          known_linked setting journal adverts s one other down one_small other_small joined) s
          targets route (rw is at (known_link_laws.route setting journal s targets down));
    }

-- ---- each advert that is told is of a switch of the network: those that tell have neighbours

abbrev pub IsOfSwitch : Setting → List Item → Advert → Type 0
IsOfSwitch setting journal advert = StepSwitchExists setting.net advert.origin

-- a switch that has a neighbour is of the network
has_neighbour : (setting : Setting) (journal : List Item) (s neighbour : ℕ) → IsNet setting.net
    → IsTrue (has (near setting journal s) neighbour) → StepSwitchExists setting.net s
has_neighbour setting journal s neighbour net is = links.below setting.net neighbour s net
    (links.both_ways setting.net.links neighbour s ∙ near_linked setting journal s neighbour is)

own_of : (setting : Setting) (journal : List Item) (s : ℕ) → StepSwitchExists setting.net s
    → IsOfSwitch setting journal (own_advert setting journal s)
own_of setting journal s there = rw (own_origin setting journal s) there

of_fact : (setting : Setting) → IsNet setting.net → IsAdvertFact setting (IsOfSwitch setting)
of_fact setting net = record {
  kept = λ before next both advert of. of;
  own = λ journal s neighbour linked.
      own_of setting journal s (has_neighbour setting journal s neighbour net linked);
  first = λ origin there. there;
}

pub of_switches : (setting : Setting) (journal : List Item)
    → JournalItemsHaveCauses (HasBothCauses setting) [] journal → IsNet setting.net
    → ControlAdvertsAreOfSwitches setting journal
of_switches setting journal have net =
    let such = such_on setting (IsOfSwitch setting) (of_fact setting net) journal have in record {
      sent = λ n s advert is. such.sent n (machine_advert_to s advert) is;
      heard = such.heard;
      held = λ s origin advert there small known. let at : advert.origin ≡ origin =
          known_origin setting journal s origin advert small known in (
            subst (StepSwitchExists setting.net) at (known_such setting (IsOfSwitch setting) journal such s
                origin advert small (own_of setting journal s there) known),
            at,
          );
    }

-- ---- adverts of small journals, computed

-- ---- links of the network: switches a and b, and their link

abbrev told : ℕ → ℕ → ℕ → Advert
told boot seq up = record { origin = 0; boot = boot; seq = seq; up = up }

names_b : ControlAdvertNamesLinks two_switches (told 1 1 2)
unfolding small_number_mask number_set_where switches
names_b k is = linked_by_mask two_switches.links 0 k is

-- there is no switch 2
names_none : ControlAdvertNamesLinks two_switches (told 1 1 4) → ⊥
unfolding has
names_none names = let linked : false ≡ true = names 2 refl in absurd cc

goes_over : IsControlRouteOverLinks two_switches (1 ∷ 0 ∷ [])
goes_over = (refl, tt)

leaps : IsControlRouteOverLinks two_switches (1 ∷ 2 ∷ []) → ⊥
leaps over = let linked : false ≡ true = over.0 in absurd cc

-- ---- own adverts, once the link failed

abbrev failed : List Item
failed = Item.Row 1 (Step.LinkDown 0 1) ∷ Item.LinkIs 0 1 false ∷ []

own_is : own_advert open_net failed 0 ≡ told 1 2 0
unfolding own_advert journal_own_seq near is_link_up_in_journal serves is_up journal_boot_of journal_steps_in small_number_mask number_set_where switches
own_is = refl

first_is_older : IsNoNewerControlAdvert open_net failed (told 1 1 2)
unfolding own_advert journal_own_seq near is_link_up_in_journal serves is_up journal_boot_of journal_steps_in small_number_mask number_set_where switches
first_is_older = record { boot = omega arith; own = λ up. inr refl }

own_is_own : IsNoNewerControlAdvert open_net failed (told 1 2 0)
unfolding own_advert journal_own_seq near is_link_up_in_journal serves is_up journal_boot_of journal_steps_in small_number_mask number_set_where switches
own_is_own = record { boot = omega arith; own = λ up. inl refl }

-- one of the own number that says something else; one of a greater number; one of a boot to come
apart : (m n : ℕ) → (m == n) ≡ false → m ≡ n → ⊥
apart m n other same = let is : (m == n) ≡ true = eq-eqb m n same in absurd cc

other_links : told 1 2 2 ≡ told 1 2 0 → ⊥
other_links same = apart 2 0 refl (ap (λ (advert : Advert). advert.up) same)

other_seq : told 1 3 0 ≡ told 1 2 0 → ⊥
other_seq same = apart 3 2 refl (ap (λ (advert : Advert). advert.seq) same)

other_of_number : IsNoNewerControlAdvert open_net failed (told 1 2 2) → ⊥
unfolding own_advert journal_own_seq near is_link_up_in_journal serves is_up journal_boot_of journal_steps_in small_number_mask number_set_where switches
other_of_number is = elim (is.own refl) [
  | inl same ↦ other_links same
  | inr newer ↦ let no : false ≡ true = newer in absurd cc
]

greater_number : IsNoNewerControlAdvert open_net failed (told 1 3 0) → ⊥
unfolding own_advert journal_own_seq near is_link_up_in_journal serves is_up journal_boot_of journal_steps_in small_number_mask number_set_where switches
greater_number is = elim (is.own refl) [
  | inl same ↦ other_seq same
  | inr newer ↦ let no : false ≡ true = newer in absurd cc
]

boot_to_come : IsNoNewerControlAdvert open_net failed (told 2 1 0) → ⊥
unfolding journal_boot_of
boot_to_come is = let limit : 2 ≤ 1 = is.boot in omega arith

-- ---- an advert of an old boot is none that counts, however great its number

abbrev again : List Item
again = Item.Row 1 (Step.Crash 0) ∷ Item.Down 0 ∷ Item.Row 2 (Step.Restart 0) ∷ Item.Booted 0 2 ∷ []

old_is_older : IsNoNewerControlAdvert open_net again (told 1 7 2)
unfolding own_advert journal_own_seq near is_link_up_in_journal serves is_up journal_boot_of journal_steps_in small_number_mask number_set_where switches
old_is_older = record { boot = omega arith; own = λ up. inr refl }

-- ---- behind a link that failed and came back nothing is wrong

abbrev back : List Item
back = Item.Row 1 (Step.LinkDown 0 1) ∷ Item.LinkIs 0 1 false ∷ Item.Row 2 (Step.LinkUp 0 1)
    ∷ Item.LinkIs 0 1 true ∷ Item.Sent 1 (to 1 (advert 0 1 3 2))
    ∷ Item.Sent 2 (to 1 (advert 1 1 1 1)) ∷ Item.Sent 3 (to 0 (advert 0 1 1 2))
    ∷ Item.Sent 4 (to 0 (advert 1 1 3 1)) ∷ []

abbrev its_steps : List MachineStepOfRow
its_steps = at 1 (Step.LinkDown 0 1) ∷ at 2 (Step.LinkUp 0 1) ∷ []

written : journal_after_steps open_net [] its_steps ≡ back
unfolding piece machine_link_items journal_link_changes journal_held_adverts journal_adverts_known own_advert journal_own_seq near
    is_link_up_in_journal serves is_up journal_boot_of heard journal_steps_in journal_next_message machine_sent_items_from first_adverts
    adverts_after_hearing is_advert_news has number_set_where switches small_number_mask
written = refl

linked_once_back : ControlAdvertisedLinksAreThere open_net back
linked_once_back = subst (ControlAdvertisedLinksAreThere open_net) written
    ((behind_both ControlAdvertisedLinksAreThere links_there).ends.stepped open_net its_steps)

newest_once_back : ControlOwnAdvertsAreNewest open_net back
newest_once_back = subst (ControlOwnAdvertsAreNewest open_net) written
    ((behind_both ControlOwnAdvertsAreNewest own_newest).ends.stepped open_net its_steps)

-- ---- journals in which wrong adverts were sent

unlinked : ControlAdvertisedLinksAreThere open_net (Item.Sent 1 (to 1 (advert 0 1 1 4)) ∷ []) → ⊥
unfolding journal_message_of
unlinked there = names_none (there.adverts.sent 1 1 (told 1 1 4) refl)

newer_sent : ControlOwnAdvertsAreNewest open_net (Item.Sent 1 (to 1 (advert 0 2 1 2)) ∷ []) → ⊥
unfolding journal_message_of journal_boot_of
newer_sent newest = let limit : 2 ≤ 1 = (newest.sent 1 1 (told 2 1 2) refl).boot in omega arith

-- ---- adverts of the network's switches, of which there is no third one

first_of_b : journal_advert_known open_net failed 0 1
    ≡ Some (record { origin = 1; boot = 1; seq = 1; up = 1 })
unfolding journal_adverts_known own_advert journal_own_seq near is_link_up_in_journal serves is_up journal_boot_of heard journal_steps_in
    first_adverts adverts_after_hearing is_advert_news small_number_mask number_set_where switches
first_of_b = refl

none_of_third : journal_advert_known open_net failed 0 2 ≡ None
unfolding journal_adverts_known own_advert journal_own_seq near is_link_up_in_journal serves is_up journal_boot_of heard journal_steps_in
    first_adverts adverts_after_hearing is_advert_news small_number_mask number_set_where switches
none_of_third = refl

of_third : ControlAdvertsAreOfSwitches open_net (Item.Sent 1 (to 1 (advert 2 1 1 0)) ∷ []) → ⊥
unfolding journal_message_of
of_third are =
    let there : 2 < 2 =
    are.sent 1 1 (record { origin = 2; boot = 1; seq = 1; up = 0 }) refl in omega arith

-- ---- a network of one switch, which crashed and restarted

abbrev pub solo : Setting
solo = record { net = net_of_one_switch; files = []; plan = open_net.plan }

pub is_net : IsNet net_of_one_switch
is_net = record {
  some_switch = omega arith;
  few_switches = omega arith;
  switches = All-from_recursion IsNetSwitchRow net_of_one_switch.switches
      (record { name = refl; ports = omega arith; room = omega arith }, tt);
  apart = λ i j row before inside. absurd (omega (arith, before, inside));
  few_links = omega arith;
  links = λ k link inside. absurd (omega (arith, inside));
  others = λ i j link before inside. absurd (omega (arith, inside));
  some_rules = omega arith;
  leaf_rules = omega arith;
  backups = omega arith;
  cache = omega arith;
}

abbrev pub restart : List MachineStepOfRow
restart = at 1 (Step.Crash 0) ∷ at 2 (Step.Restart 0) ∷ []

abbrev pub restarted : List Item
restarted = Item.Row 1 (Step.Crash 0) ∷ Item.Down 0 ∷ Item.Row 2 (Step.Restart 0) ∷ Item.Booted 0 2
    ∷ Item.Sent 1 (to_controller (Hello 0 2)) ∷ []

of_the_switch : ControlAdvertsAreOfSwitches solo restarted
unfolding piece journal_crash_items machine_restart_items journal_link_changes near is_link_up_in_journal serves is_up journal_boot_of
    journal_next_message machine_sent_items_from small_number_mask number_set_where switches
of_the_switch =
    (behind_both (λ setting journal. IsNet setting.net → ControlAdvertsAreOfSwitches setting journal)
    of_switches).ends.stepped solo restart is_net
