-- What a switch holds of another one is what it heard claimed of it: the newest advert of the other
-- one, and its newest claim, change together item by item.
use Rattle.std.proofs.Common.{[], if◌then◌else◌, ◌&&◌, ◌++◌, ◌<◌, ◌==◌, ◌||◌, ◌∙◌, ◌∷◌, ◌≡◌, ◌≢◌, ◌≤◌, Bool, IsTrue, List, None, Option, Some, ap, arith, eq-eqb, false, filter_map, length, lt-ltb, map, nat_lt, ne_eqb, option_and_then, refl, subst, sym, true, ℕ, rules}
use Rattle.base.proofs.Exports.{and_right, bit_at, cases_eq, filter_map-append, fold-append, get_or-map-range_with_len, has_mask, nat_tests, option_map_or, ⊤}
use Rattle.update_machine.specs.Exports.{Advert, Advertise, Body, JournalClaim, JournalItemsHaveCauses, Item, Message, Net, Place, Setting, journal_adverts_begun, journal_adverts_of_others, journal_boot_of, changes_journal_claim, changes_journal_heard, journal_claim_by, journal_claim_in_message, journal_claim_of, heard, is_journal_link_end, is_journal_body_for_boot, is_first_boot_in_journal, is_journal_receiver_switch, is_up, journal_message_of, near, newer_journal_claim_of, machine_advert_of_other, serves, machine_switches_of}
use Rattle.failover.specs.Exports.{AreAdvertsByOrigin, adverts_after_hearing, adverts_after_hearing_all, first_adverts, held_advert, is_newer_advert, is_advert_news, advert_names_neighbour, neighbours_named_by_advert, no_adverts}
use Rattle.failover.proofs.FailoverHeldAdverts.{after_no_news, held-first, held_heard, held_others}
use Rattle.base.specs.Exports.{has}
use Rattle.net_file.specs.Exports.{IsNet, links_of}
use Rattle.net_file.proofs.NetFileRowPlaces.{links}
use Rattle.steps.specs.Exports.{StepLinkExists, StepSwitchExists}
use Rattle.update_machine.proofs.Exports.{folded_append, heard_by_origin, near_usable, start_laws, usable_linked}
use Rattle.control_laws.specs.Exports.{HasControlItemCause, ControlAdvertNamesLinks}
use Rattle.control_laws.proofs.ControlFactsGrown.{AreKept, boot_more, boot_rises, fact_on, have_weaker, heard_more, up_more}
use Rattle.control_laws.proofs.ControlSwitchOpenings.{caused_known}
use Rattle.control_laws.proofs.ControlAllAdverts.{AreSuch, HasBothCauses, IfAdvert, none_held, such_at_first, such_kept}
use Rattle.control_laws.proofs.ControlNetLinks.{names_fact}

-- the claim says of links to switches what the advert says
pub record IsClaimOf (advert : Advert) (claim : JournalClaim) : Type 0 where
  pub boot : claim.boot ≡ advert.boot
  pub seq : claim.seq ≡ advert.seq
  pub links : (k : ℕ) → k < 64 → has advert.up k ≡ claim.links k

-- there is neither, or there are both and they say the same
abbrev pub AreSame : Option Advert → Option JournalClaim → Type 0
AreSame None None = ⊤
AreSame (Some advert) (Some claim) = IsClaimOf advert claim
AreSame _ _ = ⊥

pub claim_more : (setting : Setting) (before : List Item) (next : Item) (s one : ℕ)
    → journal_claim_of setting (before ++ next ∷ []) s one
    ≡ changes_journal_claim s one before (journal_claim_of setting before s one) next
unfolding journal_claim_of
claim_more setting before next s one = search (rules, folded_append)

-- ---- one advert that is heard

-- what an advert claims of its origin
abbrev claim_from : Advert → JournalClaim
claim_from advert = record {
  boot = advert.boot;
  seq = advert.seq;
  links = λ other. bit_at advert.up other == 1;
}

from_advert : (advert : Advert) → IsClaimOf advert (claim_from advert)
unfolding has
from_advert advert = record { boot = refl; seq = refl; links = λ k small. refl }

newer_none : (claim : Option JournalClaim) → newer_journal_claim_of claim None ≡ claim
newer_none claim = search rules

-- the advert is news where it is the newer claim
newer_same : (advert old : Advert) (claim : JournalClaim) → IsClaimOf old claim → is_newer_advert advert old
    ≡ (nat_lt claim.boot advert.boot || (claim.boot == advert.boot && nat_lt claim.seq advert.seq))
newer_same advert old claim same = search (rules, nat_tests)

news_if : (adverts : List (Option Advert)) (advert : Advert) (found : Option Advert) (b : Bool)
    → advert.origin < 64 → held_advert adverts advert.origin ≡ found
    → option_map_or (is_newer_advert advert) found true ≡ b → is_advert_news adverts advert ≡ b
unfolding is_advert_news
news_if adverts advert found b small e f = cc (e, f, lt-ltb advert.origin 64 small)

own_heard : (adverts : List (Option Advert)) (advert : Advert) (claim : Option JournalClaim)
    → AreAdvertsByOrigin adverts → advert.origin < 64 → AreSame (held_advert adverts advert.origin) claim
    → AreSame (held_advert (adverts_after_hearing adverts advert) advert.origin)
    (newer_journal_claim_of claim (Some (claim_from advert)))
own_heard adverts advert claim by small same =
    by_held (held_advert adverts advert.origin) claim refl same
  where
    is_heard : is_advert_news adverts advert ≡ true → AreSame (held_advert (adverts_after_hearing adverts advert)
        advert.origin) (Some (claim_from advert))
    is_heard news = rw (held_heard adverts advert by news) (from_advert advert)

    by_held : (found : Option Advert) (old : Option JournalClaim)
        → held_advert adverts advert.origin ≡ found → AreSame found old
        → AreSame (held_advert (adverts_after_hearing adverts advert) advert.origin)
        (newer_journal_claim_of old (Some (claim_from advert)))
    by_held None None e so = is_heard (news_if adverts advert None true small e refl)
    by_held None (Some old) e so = absurd so
    by_held (Some found) None e so = absurd so
    by_held (Some found) (Some old) e so = by_test (is_newer_advert advert found) refl where
      test : Bool
      test = nat_lt old.boot advert.boot || (old.boot == advert.boot && nat_lt old.seq advert.seq)

      by_test : (b : Bool) → is_newer_advert advert found ≡ b
          → AreSame (held_advert (adverts_after_hearing adverts advert) advert.origin)
          (if test then Some (claim_from advert) else Some old)
      by_test true f = let newer : test ≡ true = sym (newer_same advert found old so) ∙ f in
          rw newer (is_heard (news_if adverts advert (Some found) true small e f))
      by_test false f = rw (sym (newer_same advert _ old so) ∙ f) (subst (λ o. AreSame o (Some old))
          (sym (ap (λ (all : List (Option Advert)). held_advert all advert.origin) (after_no_news
          adverts advert (news_if adverts advert (Some found) false small e f)) ∙ e)) so)

advert_heard : (adverts : List (Option Advert)) (advert : Advert) (one : ℕ) (claim : Option JournalClaim)
    → AreAdvertsByOrigin adverts → one < 64 → AreSame (held_advert adverts one) claim
    → AreSame (held_advert (adverts_after_hearing adverts advert) one)
    (newer_journal_claim_of claim (if advert.origin == one then Some (claim_from advert) else None))
advert_heard adverts advert one claim by small same =
    search (rules, cases_eq, eq-eqb, own_heard, ne_eqb, newer_none, held_others)

-- ---- one item

others_more : (adverts : List (Option Advert)) (s : ℕ) (bodies : List Body) (body : Body)
    → adverts_after_hearing_all adverts (filter_map (machine_advert_of_other s) (bodies ++ body ∷ []))
    ≡ adverts_after_hearing_all (adverts_after_hearing_all adverts (filter_map (machine_advert_of_other s) bodies))
    (filter_map (machine_advert_of_other s) (body ∷ []))
others_more adverts s bodies body = search (rules, filter_map-append, fold-append)

-- a body that a switch heard, or that wasn't for it
body_heard : (adverts : List (Option Advert)) (bodies : List Body)
    (s one t boot : ℕ) (up : Bool) (body : Body) (claim : Option JournalClaim) → IsTrue up
    → AreAdvertsByOrigin (adverts_after_hearing_all adverts (filter_map (machine_advert_of_other s) bodies))
    → one ≢ s → one < 64 → AreSame
    (held_advert (adverts_after_hearing_all adverts (filter_map (machine_advert_of_other s) bodies)) one) claim
    → AreSame
    (held_advert (adverts_after_hearing_all adverts (filter_map (machine_advert_of_other s) (option_map_or (λ b. bodies
    ++ b ∷ []) (if (t == s) && up && is_journal_body_for_boot boot body then Some body else None) bodies))) one)
    (newer_journal_claim_of claim (journal_claim_by s one (Place.Switch t) body))
body_heard adverts bodies s one t boot up (Advertise advert) claim is by apart small same =
    by_tests (t == s) (advert.origin == s) refl refl
  where
    by_tests : (b c : Bool) → (t == s) ≡ b → (advert.origin == s) ≡ c → AreSame (held_advert
        (adverts_after_hearing_all adverts (filter_map (machine_advert_of_other s) (option_map_or (λ b. bodies
        ++ b ∷ []) (if (t == s) && up && true then Some (Advertise advert) else None) bodies))) one)
        (newer_journal_claim_of claim (journal_claim_by s one (Place.Switch t) (Advertise advert)))
    by_tests false c e f = rw (e, newer_none claim) same
    by_tests true true e f =
        let other : (advert.origin == one) ≡ false = grind (arith, nat_tests) in
        rw (e, is, others_more adverts s bodies (Advertise advert), f, other, newer_none claim) same
    by_tests true false e f = rw (e, is, others_more adverts s bodies (Advertise advert), f)
        (advert_heard _ advert one claim by small same)
body_heard adverts bodies s one t boot up body claim is by apart small same =
    rw (newer_none claim) (by_test ((t == s) && up && is_journal_body_for_boot boot body))
  where
    by_test : (b : Bool)
        → AreSame (held_advert (adverts_after_hearing_all adverts (filter_map (machine_advert_of_other s)
        (option_map_or (λ b. bodies ++ b ∷ []) (if b then Some body else None) bodies))) one) claim
    by_test true = rw (others_more adverts s bodies body) same
    by_test false = same

-- of switch one each switch that is up holds what it heard claimed; boots are counted from 1
pub record AreHeld (setting : Setting) (one : ℕ) (journal : List Item) : Type 0 where
  pub boots : (s : ℕ) → 1 ≤ journal_boot_of journal s
  pub same : (s : ℕ) → one ≢ s → IsTrue (is_up journal s) →
      AreSame (held_advert (journal_adverts_of_others setting journal s) one)
      (journal_claim_of setting journal s one)

-- what is held, by the boot and the bodies
abbrev held_by : Setting → ℕ → ℕ → Bool → List Body → Option Advert
held_by setting s one first bodies = held_advert (adverts_after_hearing_all (if first
    then first_adverts (map (links_of setting.net.links) (machine_switches_of setting))
    (length setting.net.switches) else no_adverts) (filter_map (machine_advert_of_other s) bodies)) one

-- what a message says to a switch, if it is for it
abbrev said_by : List Item → ℕ → Option Message → Option Body
said_by before s message = elim message [
  | None ↦ None
  | Some told ↦ if is_journal_receiver_switch s told.to && is_up before s
      && is_journal_body_for_boot (journal_boot_of before s) told.body then Some told.body else None
]

-- facts that an item leaves as they are
unchanged : (setting : Setting) (before now : List Item) (s one : ℕ)
    → is_first_boot_in_journal now s ≡ is_first_boot_in_journal before s → heard now s ≡ heard before s
    → journal_claim_of setting now s one ≡ journal_claim_of setting before s one
    → AreSame (held_advert (journal_adverts_of_others setting before s) one) (journal_claim_of setting before s one)
    → AreSame (held_advert (journal_adverts_of_others setting now s) one) (journal_claim_of setting now s one)
unchanged setting before now s one first bodies claim same = search rules

same_on : (setting : Setting) (one : ℕ) (before : List Item) (next : Item) → one < 64
    → HasControlItemCause setting before next → AreHeld setting one before
    → (s : ℕ) → one ≢ s → IsTrue (is_up (before ++ next ∷ []) s)
    → AreSame (held_advert (journal_adverts_of_others setting (before ++ next ∷ []) s) one)
    (journal_claim_of setting (before ++ next ∷ []) s one)
same_on setting one before (Item.Down t) small cause kept s apart up =
    search (rules, up_more, boot_more, heard_more, claim_more)
same_on setting one before (Item.Booted t boot) small cause kept s apart up = by_test (t == s) refl
  where
    now : List Item
    now = before ++ Item.Booted t boot ∷ []

    by_test : (b : Bool) → (t == s) ≡ b
        → AreSame (held_advert (journal_adverts_of_others setting now s) one) (journal_claim_of setting now s one)
    by_test true e =
        let here : t ≡ s = grind (arith, nat_tests) in
        let counted = kept.boots t in
        let next = cause.next in
        let later : (journal_boot_of now s == 1) ≡ false = rw (boot_more, e) (grind (arith, nat_tests)) in
        let none : heard now s ≡ [] = rw (heard_more before (Item.Booted t boot) s, e) refl in
        let claim : journal_claim_of setting now s one ≡ None = rw (claim_more _ before _ s one, e) refl in
        let empty : held_advert (journal_adverts_of_others setting now s) one ≡ None =
        ap (λ b. held_by setting s one b (heard now s))
        (ap (λ b. is_up now s && b) later ∙ and_right (is_up now s) false refl)
        ∙ ap (held_by setting s one false) none ∙ none_held one small in
        subst (AreSame (held_advert (journal_adverts_of_others setting now s) one)) (sym claim)
        (subst (λ o. AreSame o None) (sym empty) tt)
    by_test false e =
        let was : IsTrue (is_up before s) = rw (up_more before (Item.Booted t boot) s, e) at up in
        unchanged setting before now s one
        (rw (up_more before _ s, boot_more before (Item.Booted t boot) s, e) refl)
        (rw (heard_more before (Item.Booted t boot) s, e) refl)
        (rw (claim_more setting before (Item.Booted t boot) s one, e) refl)
        (kept.same s apart was)
same_on setting one before (Item.Delivered number) small cause kept s apart up =
    let now : List Item = before ++ Item.Delivered number ∷ [] in
    let first : is_first_boot_in_journal now s ≡ is_first_boot_in_journal before s = rw (up_more, boot_more) refl in
    rw (claim_more setting before (Item.Delivered number) s one)
    (rw (ap (λ b. held_by setting s one b (changes_journal_heard s before (heard before s)
    (Item.Delivered number))) (sym first) ∙ ap (held_by setting s one (is_first_boot_in_journal now s))
    (sym (heard_more before (Item.Delivered number) s))) at (by_message (journal_message_of before number)))
  where
    was : IsTrue (is_up before s)
    was = sym (up_more before (Item.Delivered number) s) ∙ up

    same : AreSame (held_advert (journal_adverts_of_others setting before s) one)
        (journal_claim_of setting before s one)
    same = kept.same s apart was

    by_receiver : (to : Place) (body : Body)
        → AreSame (held_by setting s one (is_first_boot_in_journal before s) (option_map_or
        (λ heard_body. heard before s ++ heard_body ∷ []) (if is_journal_receiver_switch s to && is_up before s
        && is_journal_body_for_boot (journal_boot_of before s) body then Some body else None) (heard before s)))
        (newer_journal_claim_of (journal_claim_of setting before s one) (journal_claim_by s one to body))
    by_receiver (Place.Switch t) body = body_heard (journal_adverts_begun setting before s)
        (heard before s) s one t (journal_boot_of before s) (is_up before s) body
        (journal_claim_of setting before s one) was (heard_by_origin setting before s) apart small same
    by_receiver Place.Controller body = rw (newer_none (journal_claim_of setting before s one)) same

    by_message : (message : Option Message)
        → AreSame (held_by setting s one (is_first_boot_in_journal before s) (option_map_or
        (λ body. heard before s ++ body ∷ []) (said_by before s message) (heard before s)))
        (newer_journal_claim_of (journal_claim_of setting before s one) (option_and_then (journal_claim_in_message s one) message))
    by_message None = rw (newer_none (journal_claim_of setting before s one)) same
    by_message (Some message) = by_receiver message.to message.body
same_on setting one before next small cause kept s apart up =
    search (rules, up_more, boot_more, heard_more, claim_more)

held_kept : (setting : Setting) (one : ℕ) → one < 64
    → AreKept (HasControlItemCause setting) (AreHeld setting one)
held_kept setting one small before next cause kept = record {
  boots = λ s. omega (arith, kept.boots s, boot_rises setting before next s cause);
  same = same_on setting one before next small cause kept;
}

-- ---- at first

held_at_first : (setting : Setting) (one : ℕ) → one < 64 → StepSwitchExists setting.net one
    → AreHeld setting one []
unfolding journal_claim_of
held_at_first setting one small there =
    search (rules, start_laws, held-first, lt-ltb, has_mask, get_or-map-range_with_len)

-- of another switch of the network, what a switch that is up holds is what it heard claimed
pub claims_held : (setting : Setting) (journal : List Item)
    → JournalItemsHaveCauses (HasControlItemCause setting) [] journal → (s one : ℕ) → one ≢ s → one < 64
    → StepSwitchExists setting.net one → IsTrue (is_up journal s)
    → AreSame (held_advert (journal_adverts_of_others setting journal s) one)
    (journal_claim_of setting journal s one)
claims_held setting journal have s one apart small there up = (fact_on _ (AreHeld setting one)
    (held_kept setting one small) [] _ have (held_at_first setting one small there)).same s apart up

-- ---- claims name links of the network

-- the claim of this switch names only switches to which the network has a link of it
abbrev pub ClaimsLinks : Net → ℕ → Option JournalClaim → Type 0
ClaimsLinks net one None = ⊤
ClaimsLinks net one (Some claim) = (k : ℕ) → IsTrue (claim.links k) → StepLinkExists net one k

newer_links : (net : Net) (one : ℕ) (old new : Option JournalClaim) → ClaimsLinks net one old
    → ClaimsLinks net one new → ClaimsLinks net one (newer_journal_claim_of old new)
newer_links net one old new olds news = search rules

claimed_links : (net : Net) (s one : ℕ) (to : Place) (body : Body)
    → IfAdvert (ControlAdvertNamesLinks net) body → ClaimsLinks net one (journal_claim_by s one to body)
unfolding has
claimed_links net s one to body such = search (rules, nat_tests)

-- what is kept of it, item by item
record ClaimLinks (setting : Setting) (journal : List Item) : Type 0 where
  such : AreSuch setting (λ js. ControlAdvertNamesLinks setting.net) journal
  claims : (s one : ℕ) → ClaimsLinks setting.net one (journal_claim_of setting journal s one)

claims_on : (setting : Setting) (before : List Item) (next : Item) (s one : ℕ) → ClaimLinks setting
    before
    → ClaimsLinks setting.net one (changes_journal_claim s one before (journal_claim_of setting before s one) next)
claims_on setting before (Item.Down t) s one kept = search rules
claims_on setting before (Item.Booted t boot) s one kept = search rules
claims_on setting before (Item.Delivered number) s one kept = newer_links setting.net one _ _
    (kept.claims s one) (by_message (journal_message_of before number) refl)
  where
    by_message : (message : Option Message) → journal_message_of before number ≡ message
        → ClaimsLinks setting.net one (option_and_then (journal_claim_in_message s one) message)
    by_message None e = tt
    by_message (Some message) e = claimed_links setting.net s one message.to message.body
        (kept.such.sent number message e)
claims_on setting before next s one kept = kept.claims s one

links_kept : (setting : Setting) → AreKept (HasBothCauses setting) (ClaimLinks setting)
links_kept setting before next both kept = record {
  such = such_kept setting _ (names_fact setting) before next both kept.such;
  claims = λ s one. subst (ClaimsLinks setting.net one)
      (sym (claim_more setting before next s one)) (claims_on setting before next s one kept);
}

links_at_first : (setting : Setting) → ClaimLinks setting []
unfolding journal_claim_of
links_at_first setting = search (rules, such_at_first, names_fact)

-- whatever is claimed to whomever are links of the network
pub claims_linked : (setting : Setting) (journal : List Item)
    → JournalItemsHaveCauses (HasBothCauses setting) [] journal → (s one : ℕ)
    → ClaimsLinks setting.net one (journal_claim_of setting journal s one)
claims_linked setting journal have s one = (fact_on (HasBothCauses setting) (ClaimLinks setting)
    (links_kept setting) [] journal have (links_at_first setting)).claims s one

-- ---- ends

-- the numbers of both ends, and what is true of them
pub record IsNamed (one two : ℕ) (P : Type 0) : Type 0 where
  pub one_small : one < 64
  pub two_small : two < 64
  pub named : P

linked_small : (net : Net) (one two : ℕ) → IsNet net → StepLinkExists net one two
    → StepSwitchExists net one × StepSwitchExists net two
linked_small net one two sound linked = (
  links.below net two one sound (links.both_ways net.links two one ∙ linked),
  links.below net one two sound linked,
)

-- where another switch has an end to a switch that serves, what that switch holds names it
pub names_end : (setting : Setting) (journal : List Item)
    → JournalItemsHaveCauses (HasBothCauses setting) [] journal → IsNet setting.net
    → (s one two : ℕ) → one ≢ s → IsTrue (serves journal s)
    → IsTrue (is_journal_link_end setting journal s one two)
    → IsNamed one two (IsTrue (advert_names_neighbour (journal_adverts_of_others setting journal s) one two))
unfolding advert_names_neighbour
names_end setting journal have net s one two apart serving is =
    by_claim (journal_claim_of setting journal s one) refl (rw (ne_eqb one s apart) at is)
  where
    caused : JournalItemsHaveCauses (HasControlItemCause setting) [] journal
    caused = have_weaker _ (HasControlItemCause setting) (λ before next both. both.first) [] journal have

    up : IsTrue (is_up journal s)
    up = ((caused_known setting journal caused).serving s).up serving

    by_held : (claim : JournalClaim) (found : Option Advert)
        → held_advert (journal_adverts_of_others setting journal s) one ≡ found
        → two < 64 → IsTrue (claim.links two) → AreSame found (Some claim)
        → IsTrue (advert_names_neighbour (journal_adverts_of_others setting journal s) one two)
    by_held claim None e small linked same = absurd same
    by_held claim (Some advert) e small linked same = cc (e, same.links two small, linked)

    by_claim : (claim : Option JournalClaim) → journal_claim_of setting journal s one ≡ claim
        → IsTrue (option_map_or (λ c. c.links two) claim false)
        → IsNamed one two (IsTrue (advert_names_neighbour (journal_adverts_of_others setting journal s) one two))
    by_claim None e linked = absurd cc
    by_claim (Some claim) e linked =
        let there = linked_small setting.net one two net (subst (ClaimsLinks setting.net one) e
        (claims_linked setting journal have s one) two linked) in
        let few = net.few_switches in
        let one_small : one < 64 = omega (arith, there.0, few) in
        let two_small : two < 64 = omega (arith, there.1, few) in record {
          one_small = one_small;
          two_small = two_small;
          named = by_held claim (held_advert (journal_adverts_of_others setting journal s) one) refl
              two_small linked (rw e at (claims_held _ _ caused s one apart one_small there.0 up));
        }

-- a switch's own ends are those of the links that it can use
pub own_end : (setting : Setting) (journal : List Item) → IsNet setting.net → (s two : ℕ)
    → IsTrue (is_journal_link_end setting journal s s two)
    → IsNamed s two (IsTrue (has (near setting journal s) two))
own_end setting journal net s two is =
    search (rules, eq-eqb, linked_small, usable_linked, near_usable)
