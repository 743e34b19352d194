-- Where adverts have spread, and each switch was given what it was told, neighbours agree.
use Rattle.std.proofs.Common.{[], ◌++◌, ◌<◌, ◌∙◌, ◌∷◌, ◌≡◌, ◌≢◌, ◌≤◌, ◌⊎◌, IsFalse, IsTrue, List, None, Some, ap, arith, false, inl, inr, not, refl, subst, sym, true, ℕ, rules}
use Rattle.base.proofs.Exports.{All-from_recursion, cases_eq, nat_tests}
use Rattle.failover.specs.Exports.{first_advert, link_set_has, is_newer_advert, no_failover_links, with_failover_link}
use Rattle.update_machine.specs.Exports.{Advert, JournalItemsHaveCauses, Hello, Item, Setting, journal_advert_known, journal_boot_of, journal_current_mark, is_deliverable, is_forgotten_in_journal, is_link_up_in_journal, is_up, journal_message_of, near, next_waiting, own_advert, journal_own_seq, serves, journal_version_count, was_delivered_in_journal}
use Rattle.base.specs.Exports.{has, small_number_mask, number_set_where, switches}
use Rattle.net_file.specs.Exports.{IsNet}
use Rattle.steps.specs.Exports.{StepSwitchExists}
use Rattle.update_machine.proofs.Exports.{known_link_laws, open_net, ring, start_laws}
use Rattle.control_laws.proofs.Exports.{AreKept, HasBothCauses, IsKnown, boot_more, ends_serve, fact_on, known_at_first, known_kept, own_on, own_origin, own_told, same_near, same_seq, turns}
use Rattle.control_laws.specs.Exports.{ControlOwnAdvertsAreNewest}
use Rattle.convergence_laws.specs.Exports.{AreConvergenceUnusableLinks, HoldsConvergenceAdvertAsNew, IsConvergenceAdvertAsNew, IsConvergenceNetworkFinished, IsNetworkUpdated, ConvergenceLeadsOverUsableNeighbours, ConvergenceNeighboursAgree, ConvergenceReaches}
use Rattle.convergence_laws.proofs.ConvergenceLinkChanges.{AreEnds, ends_there, near_both, newest_held, own_held, serving_turns}
use Rattle.convergence_laws.proofs.ConvergenceFloods.{known_given}
use Rattle.convergence_laws.proofs.ConvergenceAdverts.{HasNews, IsGiven, IsHad, IsToldTo, as_new_itself, as_new_through}
use Rattle.convergence_laws.proofs.ConvergenceNews.{Spread}
use Rattle.ctrl_msg.specs.Exports.{message_to_controller}

-- ---- a switch that has a link told its own advert

pub record TellsOwn (setting : Setting) (journal : List Item) : Type 0 where
  pub known : IsKnown journal
  pub tells : (s k : ℕ) → IsTrue (has (near setting journal s) k) → 1 ≤ journal_own_seq setting journal s

boot_stays : (before : List Item) (next : Item) (s : ℕ) → turns s next ≡ false
    → journal_boot_of (before ++ next ∷ []) s ≡ journal_boot_of before s
boot_stays before next s e = search (rules, boot_more)

serving_boot : (before : List Item) (next : Item) (s : ℕ)
    → serves (before ++ next ∷ []) s ≡ true → journal_boot_of (before ++ next ∷ []) s ≡ journal_boot_of before s
serving_boot before next s serving = search (rules, serving_turns, boot_stays)

tells_kept : (setting : Setting) → AreKept (HasBothCauses setting) (TellsOwn setting)
tells_kept setting before next both are = record { known = known_now; tells = tells } where
  now : List Item
  now = before ++ next ∷ []

  known_now : IsKnown now
  known_now = known_kept setting before next both.first are.known

  tells : (s k : ℕ) → IsTrue (has (near setting now s) k) → 1 ≤ journal_own_seq setting now s
  tells s k linked = let serving = (ends_serve setting now s k linked).0 in
      elim (own_on _ _ _ s both ((known_now.serving s).up serving) (serving_boot _ _ s serving)) [
        | inl same ↦ omega (
          arith,
          same_seq setting now before s same,
          are.tells s k (rw (same_near setting now before s same) at linked),
        )
        | inr more ↦ omega (arith, more.seq)
      ]

pub caused_tells : (setting : Setting) (journal : List Item)
    → JournalItemsHaveCauses (HasBothCauses setting) [] journal → TellsOwn setting journal
caused_tells setting journal have = fact_on _ _ (tells_kept setting) [] journal have (record {
  known = known_at_first;
  tells = λ s k linked. omega (arith, start_laws.seq setting s);
})

-- ---- what a neighbour holds, or was told

older_own : (own a : Advert) → (a ≡ own) ⊎ IsTrue (is_newer_advert own a) → IsFalse (is_newer_advert a own)
older_own own a h2 = search (rules, nat_tests, as_new_itself)

-- of what it was given it holds what is as new
given_held : (setting : Setting) (journal : List Item) (s : ℕ) (b a : Advert) → a.origin ≢ s
    → a.origin < 64 → IsConvergenceAdvertAsNew b a → IsGiven setting journal s b → HoldsConvergenceAdvertAsNew setting journal s a
given_held setting journal s b a apart small as_new given =
    let of = as_new.origin in
    let best = newest_held setting journal s b (record {
      other = λ same. apart (sym of ∙ same);
      small = omega (arith, of, small);
      given = given;
    }) in record {
      advert = best.advert;
      held = ap (journal_advert_known setting journal s) (sym of) ∙ best.held;
      as_new = as_new_through best.advert b a best.as_new as_new;
    }

-- the network, and what is true of the adverts in it
pub record AreSpread (setting : Setting) (since : ℕ) (journal : List Item) : Type 0 where
  pub net : IsNet setting.net
  pub spread : Spread setting since journal
  pub newest : ControlOwnAdvertsAreNewest setting journal
  pub tells : TellsOwn setting journal

-- an advert of another switch that is as new was told to the switch
pub record IsToldAsNew (since : ℕ) (journal : List Item) (s : ℕ) (than : Advert) : Type 0 where
  pub advert : Advert
  pub as_new : IsConvergenceAdvertAsNew advert than
  pub told : IsToldTo since journal s advert
  pub other : advert.origin ≢ s
  pub small : than.origin < 64

pub spread_cases : {since : ℕ} (setting : Setting) (journal : List Item)
    → AreSpread setting since journal → (s neighbour origin : ℕ) (a : Advert) → IsTrue (has (near setting journal s) neighbour)
    → origin < 64 → journal_advert_known setting journal s origin ≡ Some a
    → HoldsConvergenceAdvertAsNew setting journal neighbour a ⊎ IsToldAsNew since journal neighbour a
spread_cases {since = since} setting journal are s neighbour origin a linked small known =
    by_place (cases_eq a.origin neighbour)
  where
    ends : AreEnds setting s neighbour
    ends = ends_there setting journal s neighbour are.net linked

    s_small : s < 64
    s_small = omega (arith, ends.one, are.net.few_switches)

    had : IsHad setting journal s a
    had = by_origin (cases_eq origin s) where
      by_origin : (origin ≡ s) ⊎ (origin ≢ s) → IsHad setting journal s a
      by_origin (inl same) = inl (sym (own_told (own_advert setting journal s) a
          (sym (known_link_laws.own setting journal s s_small)
          ∙ ap (journal_advert_known setting journal s) (sym same) ∙ known)))
      by_origin (inr apart) =
          let given = known_given setting journal s origin a apart small known in
          inr (record {
            other = λ same. apart (sym given.of ∙ same);
            small = omega (arith, given.of, small);
            given = given.given;
          })

    -- of itself a neighbour holds the newest
    of_itself : a.origin ≡ neighbour → HoldsConvergenceAdvertAsNew setting journal neighbour a
    of_itself same =
        let fits : neighbour < 64 = omega (arith, ends.other, are.net.few_switches) in
        let back = near_both setting journal s neighbour s_small linked in
        let up : IsTrue (is_up journal neighbour) =
        (are.tells.known.serving neighbour).up (ends_serve setting journal s neighbour linked).1 in
        record {
          advert = own_advert setting journal neighbour;
          held = ap (journal_advert_known setting journal neighbour) same
              ∙ own_held setting journal neighbour fits (are.tells.tells neighbour s back);
          as_new = record {
            origin = own_origin setting journal neighbour ∙ sym same;
            new = older_own _ a (subst (λ o. (a ≡ own_advert setting journal o)
                ⊎ IsTrue (is_newer_advert (own_advert setting journal o) a)) same ((are.newest.held s
                origin a small known).own (subst (λ o. IsTrue (is_up journal o)) (sym same) up)));
          };
        }

    a_small : IsHad setting journal s a → a.origin < 64
    a_small (inl own) = omega (arith, ap (λ (b : Advert). b.origin) own ∙ own_origin _ _ s, s_small)
    a_small (inr of) = of.small

    by_had : a.origin ≢ neighbour → (news : HasNews setting since journal neighbour a)
        → IsGiven setting journal neighbour news.advert
        ⊎ IsToldTo since journal neighbour news.advert
        → HoldsConvergenceAdvertAsNew setting journal neighbour a ⊎ IsToldAsNew since journal neighbour a
    by_had apart news (inl given) = inl (given_held _ _ _ _ a apart (a_small had) news.as_new given)
    by_had apart news (inr told) = inr (record {
      advert = news.advert;
      as_new = news.as_new;
      told = told;
      other = λ same. apart (sym news.as_new.origin ∙ same);
      small = a_small had;
    })

    by_place : (a.origin ≡ neighbour) ⊎ (a.origin ≢ neighbour)
        → HoldsConvergenceAdvertAsNew setting journal neighbour a ⊎ IsToldAsNew since journal neighbour a
    by_place (inl same) = inl (of_itself same)
    by_place (inr apart) = elim (are.spread.each s neighbour a linked had apart) [
      | inl none ↦ absurd none
      | inr news ↦ by_had apart news news.had
    ]

-- ---- neighbours that agree

-- the switch was given an advert that is as new
pub record IsGivenNew (setting : Setting) (journal : List Item) (s : ℕ) (than : Advert)
    : Type 0 where
  pub advert : Advert
  pub as_new : IsConvergenceAdvertAsNew advert than
  pub given : IsGiven setting journal s advert

-- where each switch was given what it was told, or what is as new, neighbours agree
pub spread_agree : {since : ℕ} (setting : Setting) (journal : List Item)
    → AreSpread setting since journal
    → ((s : ℕ) (b : Advert) → StepSwitchExists setting.net s → IsTrue (is_up journal s) → b.origin ≢ s
    → IsToldTo since journal s b → IsGivenNew setting journal s b)
    → ConvergenceNeighboursAgree setting journal
spread_agree setting journal are gets s neighbour origin a linked small known =
    elim (spread_cases setting journal are s neighbour origin a linked small known) [
      | inl held ↦ held
      | inr told ↦ let ends = ends_there setting journal s neighbour are.net linked in
          let up : IsTrue (is_up journal neighbour) =
          (are.tells.known.serving neighbour).up (ends_serve setting journal s neighbour linked).1 in
          let found = gets neighbour told.advert ends.other up told.other told.told in
          let of : a.origin ≢ neighbour = λ same. told.other (told.as_new.origin ∙ same) in
          given_held setting journal neighbour found.advert a of told.small
          (as_new_through found.advert told.advert a found.as_new told.as_new) found.given
    ]

-- ---- news, usable links and finished updates, computed on networks of two and four switches

-- ---- usable links

-- in the ring a reaches d by b
across_the_ring : ConvergenceReaches ring [] 0 3
unfolding near is_link_up_in_journal serves small_number_mask number_set_where switches has
across_the_ring = record { rest = 1 ∷ 3 ∷ []; leads = (refl, (refl, refl)) }

-- and by c where b is down
around_b : ConvergenceReaches ring (Item.Down 1 ∷ []) 0 3
unfolding near is_link_up_in_journal serves small_number_mask number_set_where switches has
around_b = record { rest = 2 ∷ 3 ∷ []; leads = (refl, (refl, refl)) }

not_by_b : ConvergenceLeadsOverUsableNeighbours ring (Item.Down 1 ∷ []) 3 0 (1 ∷ 3 ∷ []) → ⊥
unfolding near is_link_up_in_journal serves small_number_mask number_set_where switches has
not_by_b leads = let no : false ≡ true = leads.0 in absurd cc

-- a usable link isn't among those that aren't
not_unusable : AreConvergenceUnusableLinks ring [] (with_failover_link no_failover_links 0 1) → ⊥
unfolding near is_link_up_in_journal serves small_number_mask number_set_where switches has link_set_has with_failover_link
not_unusable all = let no : true ≡ false = all 0 1 refl in absurd cc

-- ---- adverts

-- an advert is as new as itself, and as an older one, but not as a newer one or another's
itself : IsConvergenceAdvertAsNew (first_advert 1 2) (first_advert 1 2)
itself = record { origin = refl; new = refl }

as_older : IsConvergenceAdvertAsNew (record { origin = 1; boot = 2; seq = 1; up = 0 }) (first_advert 1 2)
as_older = record { origin = refl; new = refl }

not_as_newer : IsConvergenceAdvertAsNew (first_advert 1 2) (record { origin = 1; boot = 1; seq = 2; up = 0 }) → ⊥
not_as_newer as_new = let no : true ≡ false = as_new.new in absurd cc

not_as_another : IsConvergenceAdvertAsNew (first_advert 1 2) (first_advert 0 2) → ⊥
not_as_another as_new = absurd (omega (arith, as_new.origin))

-- ---- nothing is left to do

finished_at_first : IsConvergenceNetworkFinished open_net []
finished_at_first = search (rules, start_laws, All-from_recursion)

some_none : (n : ℕ) → Some n ≡ None → ⊥
some_none n clash = cc

not_while_one_waits : IsConvergenceNetworkFinished open_net (Item.Sent 1 (message_to_controller (Hello 0 1)) ∷ []) → ⊥
unfolding next_waiting is_deliverable journal_message_of is_forgotten_in_journal was_delivered_in_journal
not_while_one_waits finished = absurd (some_none 1 finished.waiting)

not_where_one_is_lost : IsConvergenceNetworkFinished open_net
    (Item.Sent 1 (message_to_controller (Hello 0 1)) ∷ Item.Forgotten 1 ∷ []) → ⊥
unfolding is_forgotten_in_journal
not_where_one_is_lost finished = let no : true ≡ false = finished.forgotten 1 in absurd cc

-- ---- updates

updated_at_first : IsNetworkUpdated open_net []
updated_at_first = search (rules, All-from_recursion, start_laws)

not_while_one_waits_for_it : IsNetworkUpdated open_net (Item.Submitted 2 2 ∷ []) → ⊥
unfolding journal_current_mark journal_version_count
not_while_one_waits_for_it is = absurd (omega (arith, is.current))
