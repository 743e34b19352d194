-- A route that a switch knows begins there, leads over links of the network to a target, and uses
-- none of the links that the packet found down.
use Rattle.std.proofs.Common.{[], ◌&&◌, ◌++◌, ◌+◌, ◌-◌, ◌<◌, ◌∙◌, ◌∷◌, ◌≡◌, ◌≢◌, ◌≤◌, Bool, IsFalse, IsTrue, List, None, Option, Some, ap, arith, eq-eqb, false, get_or, get_or-set_other, get_or-set_same, inl, inr, length, length-set, map, nat_eq, not, refl, replicate, set, slice_get, slice_index, subst, suc, sym, true, zero, ℕ, rules}
use Rattle.base.proofs.Exports.{cases_eq, get_or-map, get_or_past, has-zero, length-map, list_any, or_left}
use Rattle.failover.specs.Exports.{AreJoinedByFailoverLinks, IsFailoverPath, IsFailoverReachable, IsRoute, FailoverLinksLeadTo, link_set_has, held_advert, is_known_route_link, neighbours_by_adverts, advert_names_neighbour, neighbours_named_by_advert}
use Rattle.base.specs.Exports.{has}
use Rattle.update_machine.specs.Exports.{Advert, JournalItemsHaveCauses, Hop, Item, MachineWalkLeads, Setting, journal_adverts_of_others, journal_found_down, is_journal_link_end, is_journal_link_open, journal_links_known, near, journal_route_from, serves, travels_in_journal}
use Rattle.update_machine.proofs.Exports.{has_known_link, heard_by_origin, known_link_laws, link_not_found, one}
use Rattle.control_laws.proofs.Exports.{HasBothCauses, IsNamed, names_end, own_end, second}
use Rattle.failover.proofs.FailoverKnownLinks.{has_known}
use Rattle.failover.proofs.RouteSearch.{path_is_route_list, straight_path}
use Rattle.net_file.specs.Exports.{IsNet, links_of}
use Rattle.net_file.proofs.NetFilePortMasks.{in_mask_of}
use Rattle.control_laws.specs.Exports.{ControlAdvertisedLinksAreThere}
use Rattle.packet_laws.specs.Exports.{PacketRouteAvoidsFound, PacketRouteLeadsToTarget, PacketRouteStartsAt, packet_finding_count, packet_route_hops, packet_hops_taken, most_packet_route_switches}

-- ---- the first link of a route that a switch knows is one that it can use

-- of its own links a switch knows what it sees
own_row : (rows : List ℕ) (at own other : ℕ) → IsTrue (has (get_or (set rows at own) at 0) other)
    → IsTrue (has own other)
own_row rows at own other is = search (rules, get_or-set_same, has-zero, get_or_past, length-set)

joined_sees : (setting : Setting) (journal : List Item) (s next : ℕ) (down : List ℕ) → s < 64
    → next < 64 → AreJoinedByFailoverLinks (journal_links_known setting journal s down) s next
    → IsTrue (has (near setting journal s) next)
unfolding is_known_route_link neighbours_by_adverts
joined_sees setting journal s next down small fits joined = own_row _ s (near setting journal s)
    next (second _ _ _ _ (sym (has_known_link setting journal s down s next small fits) ∙ joined))

path_begins : (links : List ℕ) (from target next : ℕ) (route : List ℕ)
    → IsFailoverPath links from target route → slice_get route 1 ≡ Some next
    → (from < 64) × (next < 64) × AreJoinedByFailoverLinks links from next
unfolding IsFailoverPath
path_begins links from target next [] path is = absurd path
path_begins links from target next (first ∷ []) path is = absurd cc
path_begins links from target next (first ∷ second ∷ rest) path is = search rules

route_begins : (links : List ℕ) (from next : ℕ) (targets route : List ℕ)
    → IsRoute links from targets (Some route) → slice_get route 1 ≡ Some next
    → (from < 64) × (next < 64) × AreJoinedByFailoverLinks links from next
unfolding IsRoute
route_begins links from next [] route is begins = absurd cc
route_begins links from next (target ∷ targets) route (inl least) begins =
    path_begins links from target next route least.path begins
route_begins links from next (target ∷ targets) route (inr later) begins =
    route_begins links from next targets route later.1 begins

pub first_usable : (setting : Setting) (journal : List Item) (s next : ℕ)
    (targets down route : List ℕ) → journal_route_from setting journal s targets down ≡ Some route
    → slice_get route 1 ≡ Some next → IsTrue (has (near setting journal s) next)
first_usable setting journal s next targets down route is begins =
    let way = route_begins _ s _ _ _ (subst (IsRoute (journal_links_known setting journal s down) s targets)
    is (known_link_laws.route setting journal s targets down)) begins in
    joined_sees setting journal s next down way.0 way.1 way.2

-- ---- a way over links that a switch knows, and that the packet didn't find down, is one over the
-- masks of these links.

-- ---- ways

leads_over : (joined : ℕ → ℕ → Bool) (links : List ℕ) (at target : ℕ) (path : List ℕ)
    → ((one two : ℕ) → IsTrue (joined one two) → (two < 64) × AreJoinedByFailoverLinks links one two)
    → MachineWalkLeads joined at path target → FailoverLinksLeadTo links target at path
leads_over joined links at target [] over leads = leads
leads_over joined links at target (next ∷ path) over leads =
    let step : (next < 64) × AreJoinedByFailoverLinks links at next = over at next leads.0 in
    (step.0, step.1, leads_over joined links next target path over leads.1)

-- where the masks don't reach the target, no way leads there
pub none_leads : (joined : ℕ → ℕ → Bool) (links : List ℕ) (from target : ℕ) → length links ≡ 64
    → ((one two : ℕ) → IsTrue (joined one two) → (two < 64) × AreJoinedByFailoverLinks links one two)
    → from < 64 → ¬ IsFailoverReachable links from target → (path : List ℕ)
    → ¬ MachineWalkLeads joined from path target
none_leads joined links from target rows over small unreached path leads = unreached
    (straight_path links from _ path rows small (leads_over _ links from target path over leads))

-- ---- links

-- what a switch is told of the links of one
abbrev claimed_mask : Setting → List Item → ℕ → ℕ → ℕ
claimed_mask setting before s one = slice_index
    (neighbours_by_adverts (journal_adverts_of_others setting before s) s (near setting before s)) one

-- what is known of a journal in which a switch serves
pub record Sees (setting : Setting) (before : List Item) (s : ℕ) : Type 0 where
  pub net : IsNet setting.net
  pub have : JournalItemsHaveCauses (HasBothCauses setting) [] before
  pub serving : IsTrue (serves before s)

-- to a serving switch one has a link to two, so the row of one has two
end_has : (setting : Setting) (before : List Item) (s one two : ℕ) → Sees setting before s
    → IsTrue (is_journal_link_end setting before s one two)
    → IsNamed one two (IsTrue (has (claimed_mask setting before s one) two))
unfolding neighbours_by_adverts advert_names_neighbour
end_has setting before s one two sees is = elim (cases_eq one s) [
  | inl same ↦ own same (own_end setting before sees.net s two (rw same at is))
  | inr apart ↦ told apart (names_end _ before sees.have sees.net s one two apart sees.serving is)
] where
  adverts : List (Option Advert)
  adverts = journal_adverts_of_others setting before s

  places : length (journal_adverts_of_others setting before s) ≡ 64
  places = (heard_by_origin setting before s).places

  rows : List ℕ
  rows = map neighbours_named_by_advert adverts

  own : one ≡ s → IsNamed s two (IsTrue (has (near setting before s) two))
      → IsNamed one two (IsTrue (has (get_or (set rows s (near setting before s)) one 0) two))
  own same named =
      let row = get_or-set_same rows s (near setting before s) 0
      (omega (arith, named.one_small, places, length-map adverts neighbours_named_by_advert)) in
      subst (λ x. IsNamed x two (IsTrue (has (get_or (set rows s (near setting before s)) x 0)
      two))) (sym same) (record {
        one_small = named.one_small;
        two_small = named.two_small;
        named = subst (λ mask. IsTrue (has mask two)) (sym row) named.named;
      })

  told : one ≢ s → IsNamed one two (IsTrue (has (neighbours_named_by_advert (held_advert adverts one)) two))
      → IsNamed one two (IsTrue (has (get_or (set rows s (near setting before s)) one 0) two))
  told apart named =
      let row = get_or-set_other rows s one (near setting before s) 0 apart
      ∙ get_or-map neighbours_named_by_advert adverts one None 0 (omega (arith, named.one_small, places)) in
      record {
        one_small = named.one_small;
        two_small = named.two_small;
        named = subst (λ mask. IsTrue (has mask two)) (sym row) named.named;
      }

all_parts : (a b c d : Bool) → ((a && b && c) && not d) ≡ true
    → (a ≡ true) × (b ≡ true) × (c ≡ true) × (d ≡ false)
all_parts a b c d is = search rules

all_four : (a b c d : Bool) → a ≡ true → b ≡ true → c ≡ true → d ≡ false
    → (a && b && c && not d) ≡ true
all_four a b c d p q r s = rw (p, q, r, s) refl

-- a link that the switch knows, and that the packet didn't find down, is in the masks
pub open_joined : (setting : Setting) (before : List Item) (i s : ℕ) → Sees setting before s
    → (one two : ℕ) → IsTrue (is_journal_link_open setting before i s one two)
    → (two < 64) × AreJoinedByFailoverLinks (journal_links_known setting before s (journal_found_down before i)) one two
unfolding is_known_route_link
open_joined setting before i s sees one two is =
    search (rules, all_parts, end_has, has_known, all_four, link_not_found)

-- ---- packet known routes

-- what a joined pair is: a link of the network, not found down
record IsGoodLink (setting : Setting) (down : List ℕ) (one two : ℕ) : Type 0 where
  linked : IsTrue (has (links_of setting.net.links one) two)
  up : IsFalse (link_set_has down one two)

last_false : (a b c d : Bool) → (a && b && c && not d) ≡ true → d ≡ false
last_false a b c d e = search rules

not_down : (neighbours down : List ℕ) (one two : ℕ) → is_known_route_link neighbours down one two ≡ true
    → link_set_has down one two ≡ false
unfolding is_known_route_link
not_down neighbours down one two is = search (rules, last_false)

good_link : (setting : Setting) (journal : List Item) (at one two : ℕ) (down : List ℕ)
    → ControlAdvertisedLinksAreThere setting journal → one < 64 → two < 64
    → AreJoinedByFailoverLinks (journal_links_known setting journal at down) one two → IsGoodLink setting down one two
unfolding has
good_link setting journal at one two down there one_small two_small joined = record {
  linked = in_mask_of _ two two_small ∙ there.known at one two down one_small two_small joined;
  up = not_down _ _ one two (sym (has_known_link _ _ at down one two one_small two_small) ∙ joined);
}

last_of : (first : ℕ) (rest : List ℕ) → length (first ∷ rest) - 1 ≡ length rest
last_of first rest = omega arith

leads_last : (links : List ℕ) (target at : ℕ) (rest : List ℕ) → FailoverLinksLeadTo links target at rest
    → slice_get (at ∷ rest) (length rest) ≡ Some target
leads_last links target at [] leads = ap Some leads
leads_last links target at (next ∷ rest) leads = leads_last links target next rest leads.2

leads_at : (links : List ℕ) (target at : ℕ) (rest : List ℕ) (k one two : ℕ) → at < 64
    → FailoverLinksLeadTo links target at rest → slice_get (at ∷ rest) k ≡ Some one
    → slice_get (at ∷ rest) (suc k) ≡ Some two → (one < 64) × (two < 64) × AreJoinedByFailoverLinks links one two
leads_at links target at [] zero one two fits way here there = absurd cc
leads_at links target at (next ∷ more) zero one two fits way here there = search rules
leads_at links target at [] (suc k) one two fits way here there = absurd cc
leads_at links target at (next ∷ more) (suc k) one two fits way here there =
    leads_at links target next more k one two way.0 way.2 here there

-- what a route does
pub record IsWay (setting : Setting) (at : ℕ) (targets down route : List ℕ) : Type 0 where
  pub leads : PacketRouteLeadsToTarget setting targets route
  pub begins : PacketRouteStartsAt at route
  pub avoids : PacketRouteAvoidsFound down route

path_way : (setting : Setting) (journal : List Item) (at target : ℕ) (targets down route : List ℕ)
    → ControlAdvertisedLinksAreThere setting journal → IsTrue (list_any (nat_eq target) targets)
    → IsFailoverPath (journal_links_known setting journal at down) at target route
    → IsWay setting at targets down route
unfolding IsFailoverPath
path_way setting journal at target targets down [] there own path = absurd path
path_way setting journal at target targets down (first ∷ rest) there own path =
    let links : List ℕ = journal_links_known setting journal at down in
    let good : (k one two : ℕ) → slice_get (first ∷ rest) k ≡ Some one
    → slice_get (first ∷ rest) (k + 1) ≡ Some two → IsGoodLink setting down one two =
    λ k one two here next. let more : k + 1 ≡ suc k = omega arith in
    let joined = leads_at links target first rest k one two path.1 path.2 here
    (subst (λ n. slice_get (first ∷ rest) n ≡ Some two) more next) in
    good_link setting journal at one two down there joined.0 joined.1 joined.2 in record {
      leads = record {
        list = path_is_route_list links at target (first ∷ rest) path;
        joined = λ k one two here next. (good k one two here next).linked;
        ends = record {
          target = target;
          last = rw (last_of first rest) (leads_last links target first rest path.2);
          own = own;
        };
      };
      begins = ap Some path.0;
      avoids = λ k one two here next. (good k one two here next).up;
    }

widen : (setting : Setting) (at first : ℕ) (targets down route : List ℕ)
    → IsWay setting at targets down route → IsWay setting at (first ∷ targets) down route
widen setting at first targets down route way = search rules

is_way : (setting : Setting) (journal : List Item) (at : ℕ) (targets down route : List ℕ)
    → ControlAdvertisedLinksAreThere setting journal
    → IsRoute (journal_links_known setting journal at down) at targets (Some route)
    → IsWay setting at targets down route
unfolding IsRoute
is_way setting journal at [] down route there is = absurd cc
is_way setting journal at (target ∷ targets) down route there (inl least) =
    search (rules, path_way, or_left, eq-eqb)
is_way setting journal at (target ∷ targets) down route there (inr later) = widen setting at target
    targets down route (is_way setting journal at targets down route there later.1)

pub route_way : (setting : Setting) (journal : List Item) (at : ℕ) (targets down route : List ℕ)
    → ControlAdvertisedLinksAreThere setting journal → journal_route_from setting journal at targets down ≡ Some route
    → IsWay setting at targets down route
route_way setting journal at targets down route there is = is_way setting journal at targets down
    route there (rw is at (known_link_laws.route setting journal at targets down))

-- ---- hops on one route, and links found down, on journals of few items

abbrev seeking : List Item
seeking = Item.Entered 1 0 one ∷ Item.Seeking 1 1 0 (0 ∷ 1 ∷ []) ∷ []

-- the link is down, and the packet takes two hops around it
abbrev around : List Item
around = seeking ++ Item.Row 2 (Hop 1) ∷ Item.FoundDown 1 0 1
    ∷ Item.Rerouted 1 (0 ∷ 2 ∷ 1 ∷ []) ∷ Item.Hopped 1 2 ∷ Item.Row 3 (Hop 1) ∷ Item.Hopped 1 1 ∷ []

two_hops : packet_hops_taken around 1 ≡ 2
unfolding packet_hops_taken travels_in_journal
two_hops = refl

-- the first of them was on the route before
one_on_this_route : packet_route_hops around 1 ≡ 1
unfolding packet_route_hops travels_in_journal
one_on_this_route = refl

one_link : packet_finding_count around 1 ≡ 1
unfolding packet_finding_count
one_link = refl

none_of_another : packet_finding_count around 2 ≡ 0
unfolding packet_finding_count
none_of_another = refl

-- 65 hops on a route are one too many
abbrev too_many : List Item
too_many = seeking ++ replicate 65 (Item.Row 2 (Hop 1))

not_65 : packet_route_hops too_many 1 ≤ most_packet_route_switches → ⊥
unfolding packet_route_hops travels_in_journal
not_65 few = let limit : 65 ≤ 64 = few in omega (arith, limit)
