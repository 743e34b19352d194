-- Items that crash no switch and fail no link: all links of the network are usable, and each advert
-- names all links of its origin.
use Rattle.std.proofs.Common.{[], ◌&&◌, ◌++◌, ◌<◌, ◌==◌, ◌||◌, ◌∙◌, ◌∷◌, ◌≡◌, Bool, IsTrue, List, None, Option, Some, ap, arith, false, if◌then◌else◌, max, min, nat_lt, option_and_then, refl, subst, sym, true, unwrap_or, ℕ}
use Rattle.base.proofs.Exports.{⊤, bit_at, has_mask, list_any, nat_tests}
use Rattle.base.specs.Exports.{has}
use Rattle.update_machine.specs.Exports.{Advert, Advertise, Body, JournalClaim, JournalItemsHaveCauses, Item, LinkRow, Message, Net, Place, Setting, journal_can_use, changes_journal_claim, journal_claim_by, journal_claim_in_message, journal_claim_of, gives_journal_link, is_link_up_in_journal, is_usable_in_journal, journal_message_of, newer_journal_claim_of, own_advert, serves}
use Rattle.net_file.specs.Exports.{are_linked_in_net, net_link_joins}
use Rattle.update_machine.proofs.Exports.{have_append, near_usable, start_laws}
use Rattle.control_laws.proofs.Exports.{AreKept, AreSuch, Both, HasBothCauses, IfAdvert, IsAdvertFact, claim_more, fact_on, have_front, last_more, serving_more, such_at_first, such_kept}

abbrev pub IsUnfailing : List Item → Item → Type 0
IsUnfailing before (Item.Down s) = ⊥
IsUnfailing before (Item.Booted s boot) = ⊥
IsUnfailing before (Item.LinkIs one two false) = ⊥
IsUnfailing before _ = ⊤

-- ---- links

pub record AreAllUp (journal : List Item) : Type 0 where
  pub serving : (s : ℕ) → IsTrue (serves journal s)
  pub links : (one other : ℕ) → IsTrue (is_link_up_in_journal journal one other)

next_serving : (before : List Item) (next : Item) (s : ℕ) → IsUnfailing before next
    → IsTrue (serves before s) → IsTrue (serves (before ++ next ∷ []) s)
next_serving before (Item.Down t) s safe serving = absurd safe
next_serving before (Item.Booted t boot) s safe serving = absurd safe
next_serving before (Item.Opened t version) s safe serving =
    rw (serving_more before (Item.Opened t version) s) (by_test (t == s) serving)
  where
    by_test : (b : Bool) → IsTrue (serves before s)
        → IsTrue (unwrap_or (if b then Some true else None) (serves before s))
    by_test true serving = refl
    by_test false serving = serving
next_serving before next s safe serving = rw (serving_more before next s) serving

next_link : (before : List Item) (next : Item) (one other : ℕ) → IsUnfailing before next
    → IsTrue (is_link_up_in_journal before one other) → IsTrue (is_link_up_in_journal (before ++ next ∷ []) one other)
unfolding is_link_up_in_journal
next_link before (Item.LinkIs x y false) one other safe up = absurd safe
next_link before (Item.LinkIs x y true) one other safe up =
    rw (last_more (gives_journal_link (min one other) (max one other)) before (Item.LinkIs x y true) true)
    (by_test (x == min one other && y == max one other) up)
  where
    by_test : (b : Bool) → IsTrue (is_link_up_in_journal before one other)
        → IsTrue (unwrap_or (if b then Some true else None) (is_link_up_in_journal before one other))
    by_test true up = refl
    by_test false up = up
next_link before next one other safe up =
    rw (last_more (gives_journal_link (min one other) (max one other)) before next true) up

up_kept : AreKept IsUnfailing AreAllUp
up_kept before next safe up = record {
  serving = λ s. next_serving before next s safe (up.serving s);
  links = λ one other. next_link before next one other safe (up.links one other);
}

pub all_up : (journal : List Item) → JournalItemsHaveCauses IsUnfailing [] journal → AreAllUp journal
all_up journal safe = fact_on IsUnfailing AreAllUp up_kept [] journal safe
    (record { serving = start_laws.serving; links = start_laws.links })

any_usable : (journal : List Item) (one two : ℕ) (rows : List LinkRow) → AreAllUp journal
    → list_any (λ link. net_link_joins one two link && is_usable_in_journal journal link) rows
    ≡ list_any (net_link_joins one two) rows
any_usable journal one two [] up = refl
any_usable journal one two (link ∷ rows) up =
    cc (usable, with_true (net_link_joins one two link), any_usable journal one two rows up)
  where
    with_true : (b : Bool) → (b && true) ≡ b
    with_true true = refl
    with_true false = refl

    usable : is_usable_in_journal journal link ≡ true
    usable = let second = up.serving link.two in
        all_three _ _ _ (up.links link.one link.two) (up.serving link.one) second
      where
        all_three : (a b c : Bool) → a ≡ true → b ≡ true → c ≡ true → (a && b && c) ≡ true
        all_three a b c p q r = rw (p, q, r) refl

-- exactly the links of the network are usable
pub all_usable : (setting : Setting) (journal : List Item) → JournalItemsHaveCauses IsUnfailing [] journal
    → (one two : ℕ) → journal_can_use setting journal one two ≡ are_linked_in_net setting.net.links one two
all_usable setting journal safe one two =
    any_usable journal one two setting.net.links (all_up journal safe)

-- ---- adverts

-- the advert names the switches to which the network has links of its origin, and no others
abbrev pub NamesAll : Net → Advert → Type 0
NamesAll net advert = (k : ℕ) → k < 64 → has advert.up k ≡ are_linked_in_net net.links advert.origin k

own_names_all : (setting : Setting) (journal : List Item) (s : ℕ)
    → JournalItemsHaveCauses IsUnfailing [] journal → NamesAll setting.net (own_advert setting journal s)
unfolding own_advert
own_names_all setting journal s safe k small =
    near_usable setting journal s k small ∙ all_usable setting journal safe s k

abbrev pub NamesAllSafely : Setting → List Item → Advert → Type 0
NamesAllSafely setting journal advert =
    JournalItemsHaveCauses IsUnfailing [] journal → NamesAll setting.net advert

pub all_fact : (setting : Setting) → IsAdvertFact setting (NamesAllSafely setting)
all_fact setting = record {
  kept = λ before next both advert names safe.
      names (have_front IsUnfailing [] before (next ∷ []) safe);
  own = λ journal s neighbour linked safe. own_names_all setting journal s safe;
  first = λ origin there safe k small. has_mask (are_linked_in_net setting.net.links origin) k small;
}

-- ---- where nothing fails each switch is claimed to have all its links

-- the claim is of all links of this switch
abbrev pub IsWhole : Net → ℕ → JournalClaim → Type 0
IsWhole net one claim = (k : ℕ) → k < 64 → claim.links k ≡ are_linked_in_net net.links one k

-- there is such a claim
abbrev pub ClaimsAll : Net → ℕ → Option JournalClaim → Type 0
ClaimsAll net one None = ⊥
ClaimsAll net one (Some claim) = IsWhole net one claim

-- if there is one, it is such
abbrev IfClaims : Net → ℕ → Option JournalClaim → Type 0
IfClaims net one None = ⊤
IfClaims net one (Some claim) = IsWhole net one claim

newer_all : (net : Net) (one : ℕ) (old new : Option JournalClaim) → ClaimsAll net one old
    → IfClaims net one new → ClaimsAll net one (newer_journal_claim_of old new)
newer_all net one None new olds news = absurd olds
newer_all net one (Some old) None olds news = olds
newer_all net one (Some old) (Some new) olds news =
    by_test (nat_lt old.boot new.boot || (old.boot == new.boot && nat_lt old.seq new.seq))
  where
    by_test : (b : Bool) → ClaimsAll net one (if b then Some new else Some old)
    by_test true = news
    by_test false = olds

-- what an advert claims
abbrev said_by : Advert → JournalClaim
said_by advert = record {
  boot = advert.boot;
  seq = advert.seq;
  links = λ other. bit_at advert.up other == 1;
}

claimed_all : (net : Net) (s one : ℕ) (to : Place) (body : Body) → IfAdvert (NamesAll net) body
    → IfClaims net one (journal_claim_by s one to body)
unfolding has
claimed_all net s one (Place.Switch t) (Advertise advert) such =
    by_tests ((t == s) && (advert.origin == one)) refl
  where
    by_tests : (b : Bool) → ((t == s) && (advert.origin == one)) ≡ b
        → IfClaims net one (if b then Some (said_by advert) else None)
    by_tests false e = tt
    by_tests true e =
        λ k small. such k small ∙ ap (λ n. are_linked_in_net net.links n k) (grind (arith, nat_tests))
claimed_all net s one to body such = tt

-- what is kept of it, item by item, of a journal in which nothing failed
pub record AreClaimed (setting : Setting) (journal : List Item) : Type 0 where
  pub such : AreSuch setting (NamesAllSafely setting) journal
  pub safe : JournalItemsHaveCauses IsUnfailing [] journal
  pub claims : (s one : ℕ) → ClaimsAll setting.net one (journal_claim_of setting journal s one)

claims_on : (setting : Setting) (before : List Item) (next : Item) (s one : ℕ)
    → IsUnfailing before next → AreClaimed setting before
    → ClaimsAll setting.net one (changes_journal_claim s one before (journal_claim_of setting before s one) next)
claims_on setting before (Item.Down t) s one safe kept = absurd safe
claims_on setting before (Item.Booted t boot) s one safe kept = absurd safe
claims_on setting before (Item.Delivered number) s one safe kept = newer_all setting.net one
    (journal_claim_of setting before s one) (option_and_then (journal_claim_in_message s one) (journal_message_of before number))
    (kept.claims s one) (by_message (journal_message_of before number) refl)
  where
    by_body : (body : Body) → IfAdvert (NamesAllSafely setting before) body
        → IfAdvert (NamesAll setting.net) body
    by_body (Advertise advert) such = such kept.safe
    by_body _ such = tt

    by_message : (message : Option Message) → journal_message_of before number ≡ message
        → IfClaims setting.net one (option_and_then (journal_claim_in_message s one) message)
    by_message None e = tt
    by_message (Some message) e = claimed_all setting.net s one message.to message.body
        (by_body message.body (kept.such.sent number message e))
claims_on setting before next s one safe kept = kept.claims s one

claimed_kept : (setting : Setting)
    → AreKept (Both (HasBothCauses setting) IsUnfailing) (AreClaimed setting)
claimed_kept setting before next both kept = record {
  such = such_kept setting (NamesAllSafely setting) (all_fact setting) before next both.first
      kept.such;
  safe = have_append IsUnfailing [] before (next ∷ []) kept.safe (both.second, tt);
  claims = λ s one. subst (ClaimsAll setting.net one) (sym (claim_more setting before next s one))
      (claims_on setting before next s one both.second kept);
}

claimed_at_first : (setting : Setting) → AreClaimed setting []
unfolding journal_claim_of
claimed_at_first setting = record {
  such = such_at_first setting (NamesAllSafely setting) (all_fact setting);
  safe = tt;
  claims = λ s one k small. refl;
}

pub are_claimed : (setting : Setting) (journal : List Item)
    → JournalItemsHaveCauses (Both (HasBothCauses setting) IsUnfailing) [] journal → AreClaimed setting journal
are_claimed setting journal have = fact_on (Both (HasBothCauses setting) IsUnfailing)
    (AreClaimed setting) (claimed_kept setting) [] journal have (claimed_at_first setting)
