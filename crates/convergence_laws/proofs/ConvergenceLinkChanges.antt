-- Where links change, each switch whose links did tells its neighbours.
use Rattle.std.proofs.Common.{[], ◌++◌, ◌<◌, ◌==◌, ◌∙◌, ◌∷◌, ◌≡◌, ◌≢◌, ◌≤◌, ◌⊎◌, Bool, IsFalse, IsTrue, List, None, Option, Some, ap, arith, eq-eqb, eqb-true, false, filter, flat_map, inl, inr, length, map, option_to_list, refl, subst, sym, true, ℕ, rules}
use Rattle.base.specs.Exports.{has, switches}
use Rattle.net_file.specs.Exports.{IsNet}
use Rattle.net_file.proofs.NetFilePortMasks.{in_mask_of}
use Rattle.net_file.proofs.NetFileRowPlaces.{linked_turn, links}
use Rattle.update_machine.specs.Exports.{Advert, JournalItemsHaveCauses, Item, Message, Setting, journal_advert_known, machine_advert_to, journal_adverts_begun, journal_adverts_heard, journal_adverts_known, journal_boot_of, journal_usable_links_changed, heard, journal_held_adverts, is_up, journal_link_changes, machine_messages_of, machine_messages_over_link, near, journal_next_message, own_advert, journal_own_seq, machine_send_items, serves, machine_switches_in, machine_switches_of}
use Rattle.control_laws.proofs.Exports.{AdvertGoesOn, HasBothCauses, IsKnown, boot_more, ends_serve, heard_more, is_delivered, known_kept, linked_by_mask, near_linked, own_on, same_near, sends_any, serving_more, turns, up_more}
use Rattle.base.proofs.Exports.{nat_tests}
use Rattle.failover.specs.Exports.{IsNewestAdvert, held_advert, is_newer_advert}
use Rattle.steps.specs.Exports.{StepSwitchExists}
use Rattle.update_machine.proofs.Exports.{known_link_laws, near_stays}
use Rattle.convergence_laws.specs.Exports.{IsConvergenceAdvertAsNew}
use Rattle.convergence_laws.proofs.ConvergenceAdverts.{HasNews, HaveNews, IsHad, IsOther, IsStill, as_new_itself, given_grows, news_on, sends_tell, stills_news}
use Rattle.convergence_laws.proofs.ConvergencePlainItems.{IsIn, all_in, in_either, in_filter, in_filter_map, in_flat_map, in_left, in_map, in_range, in_right}

-- ---- neighbours over usable links

-- ---- a link has both its ends

pub near_both : (setting : Setting) (journal : List Item) (s k : ℕ) → s < 64
    → IsTrue (has (near setting journal s) k) → IsTrue (has (near setting journal k) s)
unfolding near has
near_both setting journal s k small is = search (rules, in_mask_of, linked_turn, linked_by_mask)

-- ---- changed links told

-- ---- the newest advert that a switch holds

older : (a b : Advert) → is_newer_advert b a ≡ true → is_newer_advert a b ≡ false
older a b newer = grind (arith, nat_tests)

pub record IsHeldAsNew (setting : Setting) (journal : List Item) (s : ℕ) (than : Advert)
    : Type 0 where
  pub advert : Advert
  pub held : journal_advert_known setting journal s than.origin ≡ Some advert
  pub as_new : IsConvergenceAdvertAsNew advert than

pub newest_held : (setting : Setting) (journal : List Item) (s : ℕ) (a : Advert)
    → IsOther setting journal s a → IsHeldAsNew setting journal s a
newest_held setting journal s a of = by_known (journal_advert_known setting journal s a.origin) refl
    (known_link_laws.newest setting journal s a.origin of.other of.small)
  where
    begun : List Advert
    begun = option_to_list (held_advert (journal_adverts_begun setting journal s) a.origin)

    there : IsIn a (begun ++ journal_adverts_heard journal s)
    there = elim of.given [
      | inl given ↦ in_left a begun (journal_adverts_heard journal s) (rw given (inl refl))
      | inr told ↦ in_right a begun (journal_adverts_heard journal s) told
    ]

    by_known : (o : Option Advert) → journal_advert_known setting journal s a.origin ≡ o
        → IsNewestAdvert a.origin (begun ++ journal_adverts_heard journal s) o → IsHeldAsNew setting journal s a
    by_known None e newest = absurd (all_in (λ (b : Advert). b.origin ≢ a.origin) a
        (begun ++ journal_adverts_heard journal s) newest there refl)
    by_known (Some best) e newest = record {
      advert = best;
      held = e;
      as_new = record {
        origin = newest.3;
        new = by_place (in_either a newest.0 (best ∷ newest.1) (rw newest.2 at there));
      };
    } where
      by_place : IsIn a newest.0 ⊎ IsIn a (best ∷ newest.1) → IsFalse (is_newer_advert a best)
      by_place (inl before) = older a best
          (all_in (λ (b : Advert). b.origin ≡ a.origin → IsTrue (is_newer_advert best b)) a newest.0
          newest.4 before refl)
      by_place (inr (inl same)) = rw same (as_new_itself a).new
      by_place (inr (inr after)) =
          all_in (λ (b : Advert). b.origin ≡ a.origin → IsFalse (is_newer_advert b best)) a newest.1
          newest.5 after refl

pub held_in : (setting : Setting) (journal : List Item) (s origin : ℕ) (advert : Advert)
    → origin < 64 → journal_advert_known setting journal s origin ≡ Some advert
    → IsIn advert (journal_held_adverts setting journal s)
unfolding journal_held_adverts switches
held_in setting journal s origin advert small known =
    in_filter_map (held_advert (journal_adverts_known setting journal s)) origin advert switches
    (in_range origin 0 64 (omega arith) (omega (arith, small))) known

pub own_held : (setting : Setting) (journal : List Item) (s : ℕ) → s < 64
    → 1 ≤ journal_own_seq setting journal s
    → journal_advert_known setting journal s s ≡ Some (own_advert setting journal s)
unfolding own_advert
own_held setting journal s small told = search (rules, nat_tests, known_link_laws)

-- ---- an item that may change links

pub serving_turns : (before : List Item) (next : Item) (s : ℕ) → turns s next ≡ true
    → serves (before ++ next ∷ []) s ≡ false
serving_turns before next s e = search (rules, serving_more)

record LivesOn (before : List Item) (next : Item) (s : ℕ) : Type 0 where
  up : is_up (before ++ next ∷ []) s ≡ is_up before s
  boot : journal_boot_of (before ++ next ∷ []) s ≡ journal_boot_of before s
  bodies : heard (before ++ next ∷ []) s ≡ heard before s

lives_on : (before : List Item) (next : Item) (s : ℕ) → is_delivered next ≡ false
    → turns s next ≡ false → LivesOn before next s
lives_on before (Item.Down t) s none e = record {
  up = rw (up_more before (Item.Down t) s, e) refl;
  boot = boot_more before (Item.Down t) s;
  bodies = rw (heard_more before (Item.Down t) s, e) refl;
}
lives_on before (Item.Booted t boot) s none e = record {
  up = rw (up_more before (Item.Booted t boot) s, e) refl;
  boot = rw (boot_more before (Item.Booted t boot) s, e) refl;
  bodies = rw (heard_more before (Item.Booted t boot) s, e) refl;
}
lives_on before (Item.Delivered number) s none e = absurd cc
lives_on before next s none e = record {
  up = up_more before next s;
  boot = boot_more before next s;
  bodies = heard_more before next s;
}

serving_lives : (before : List Item) (next : Item) (s : ℕ) → is_delivered next ≡ false
    → serves (before ++ next ∷ []) s ≡ true → LivesOn before next s
serving_lives before next s none serving = by_turn (turns s next) refl where
  by_turn : (b : Bool) → turns s next ≡ b → LivesOn before next s
  by_turn true e =
      let clash : true ≡ false = sym serving ∙ serving_turns before next s e in absurd cc
  by_turn false e = lives_on before next s none e

-- a switch whose links changed owes its neighbours its own advert, and new ones all that it holds
pub record IsOwed (setting : Setting) (before now : List Item) (s neighbour : ℕ) (advert : Advert)
    : Type 0 where
  pub changed : IsTrue (journal_usable_links_changed setting before now s)
  pub told : 1 ≤ journal_own_seq setting now s
  pub had : IsHad setting now s advert
  pub which : (advert ≡ own_advert setting now s) ⊎ IsFalse (has (near setting before s) neighbour)

pub link_news : {since : ℕ} (setting : Setting) (before here : List Item) (next : Item)
    → ((s : ℕ) → near setting here s ≡ near setting before s)
    → HasBothCauses setting here next → is_delivered next ≡ false → IsKnown here
    → HaveNews setting since (λ s neighbour advert. ⊥) here
    → HaveNews setting since (IsOwed setting before (here ++ next ∷ [])) (here ++ next ∷ [])
link_news {since = since} setting before here next links_same both none known have =
    record { each = by_link }
  where
    now : List Item
    now = here ++ next ∷ []

    up_now : (s : ℕ) → serves now s ≡ true → is_up now s ≡ true
    up_now s serving = ((known_kept setting here next both.first known).serving s).up serving

    goes_on : (s : ℕ) → serves now s ≡ true → AdvertGoesOn setting here now s
    goes_on s serving = own_on setting here next s both (up_now s serving)
        (serving_lives here next s none serving).boot

    other_back : (s : ℕ) (advert : Advert) → serves now s ≡ true → IsOther setting now s advert
        → IsHad setting here s advert
    other_back s advert serving of = let life = serving_lives here next s none serving in
        inr (record {
          other = of.other;
          small = of.small;
          given = given_grows setting now here s advert (sym life.up) (sym life.boot)
              (λ body is. subst (λ bodies. IsIn body bodies) life.bodies is) of.given;
        })

    old : (s neighbour : ℕ) (advert : Advert) → serves now neighbour ≡ true
        → IsTrue (has (near setting before s) neighbour) → IsHad setting here s advert
        → advert.origin ≢ neighbour
        → IsOwed setting before now s neighbour advert ⊎ HasNews setting since now neighbour advert
    old s neighbour advert serving linked had other =
        let life = serving_lives here next neighbour none serving in
        elim (have.each s neighbour advert (rw (links_same s) linked) had other) [
          | inl owed ↦ absurd owed
          | inr has ↦ inr (news_on setting here next neighbour advert life.up life.boot
              (λ body is. subst (λ bodies. IsIn body bodies) (sym life.bodies) is) has)
        ]

    own_back : (s : ℕ) (advert : Advert) → serves now s ≡ true
        → (near setting before s == near setting now s) ≡ true
        → advert ≡ own_advert setting now s → IsHad setting here s advert
    own_back s advert serving same own = elim (goes_on s serving) [
      | inl stays ↦ inl (own ∙ stays)
      | inr more ↦ absurd (cc (sym same
          ∙ ap (λ mask. mask == near setting now s) (sym (links_same s)) ∙ more.changed))
    ]

    seq_now : (s : ℕ) → serves now s ≡ true
        → (near setting before s == near setting now s) ≡ false → 1 ≤ journal_own_seq setting now s
    seq_now s serving apart = elim (goes_on s serving) [
      | inl stays ↦ absurd (cc (sym (eq-eqb (near setting before s) (near setting now s)
          (sym (links_same s) ∙ sym (same_near setting now here s stays))) ∙ apart))
      | inr more ↦ omega (arith, more.seq)
    ]

    changed : (s neighbour : ℕ) (advert : Advert) → serves now s ≡ true
        → (near setting before s == near setting now s) ≡ false → IsHad setting now s advert
        → (advert ≡ own_advert setting now s) ⊎ IsFalse (has (near setting before s) neighbour)
        → IsOwed setting before now s neighbour advert
    changed s neighbour advert serving apart had which = record {
      changed = rw ((up_now s serving), apart) refl;
      told = seq_now s serving apart;
      had = had;
      which = which;
    }

    by_old : (s neighbour : ℕ) (advert : Advert) → serves now s ≡ true → serves now neighbour ≡ true
        → (near setting before s == near setting now s) ≡ false → IsOther setting now s advert
        → advert.origin ≢ neighbour → (b : Bool) → has (near setting before s) neighbour ≡ b
        → IsOwed setting before now s neighbour advert ⊎ HasNews setting since now neighbour advert
    by_old s neighbour advert serving at_it apart of other true e =
        old s neighbour advert at_it e (other_back s advert serving of) other
    by_old s neighbour advert serving at_it apart of other false e =
        inl (changed s neighbour advert serving apart (inr of) (inr e))

    by_same : (s neighbour : ℕ) (advert : Advert) → serves now s ≡ true
        → serves now neighbour ≡ true → IsTrue (has (near setting now s) neighbour)
        → IsHad setting now s advert → advert.origin ≢ neighbour
        → (b : Bool) → (near setting before s == near setting now s) ≡ b
        → IsOwed setting before now s neighbour advert ⊎ HasNews setting since now neighbour advert
    by_same s neighbour advert serving at_it linked (inl own) other true e = old s neighbour advert
        at_it (rw (eqb-true (near setting before s) (near setting now s) e) linked)
        (own_back s advert serving e own) other
    by_same s neighbour advert serving at_it linked (inr of) other true e = old s neighbour advert
        at_it (rw (eqb-true (near setting before s) (near setting now s) e) linked)
        (other_back s advert serving of) other
    by_same s neighbour advert serving at_it linked (inl own) other false e =
        inl (changed s neighbour advert serving e (inl own) (inl own))
    by_same s neighbour advert serving at_it linked (inr of) other false e = by_old s neighbour
        advert serving at_it e of other (has (near setting before s) neighbour) refl

    by_link : (s neighbour : ℕ) (advert : Advert) → IsTrue (has (near setting now s) neighbour)
        → IsHad setting now s advert → advert.origin ≢ neighbour
        → IsOwed setting before now s neighbour advert ⊎ HasNews setting since now neighbour advert
    by_link s neighbour advert linked had other =
        let ends = ends_serve setting now s neighbour linked in
        by_same s neighbour advert ends.0 ends.1 linked had other
        (near setting before s == near setting now s) refl

-- ---- the debt is paid

pub sends_still : (journal : List Item) (messages : List Message)
    → JournalItemsHaveCauses IsStill journal (machine_send_items journal messages)
sends_still = sends_any IsStill (λ before n message. tt)

pub sends_near : (setting : Setting) (journal : List Item) (messages : List Message) (s : ℕ)
    → near setting (journal ++ machine_send_items journal messages) s ≡ near setting journal s
sends_near setting journal messages s = search (rules, near_stays, sends_any)

-- both ends of a link are switches of the network
pub record AreEnds (setting : Setting) (s neighbour : ℕ) : Type 0 where
  pub one : StepSwitchExists setting.net s
  pub other : StepSwitchExists setting.net neighbour

pub ends_there : (setting : Setting) (journal : List Item) (s neighbour : ℕ) → IsNet setting.net
    → IsTrue (has (near setting journal s) neighbour) → AreEnds setting s neighbour
ends_there setting journal s neighbour net is = record {
  one = links.below setting.net neighbour s net
      (links.both_ways setting.net.links neighbour s ∙ near_linked setting journal s neighbour is);
  other = links.below setting.net s neighbour net (near_linked setting journal s neighbour is);
}

-- and back from there
pub near_back : (setting : Setting) (journal : List Item) (s neighbour : ℕ) → IsNet setting.net
    → IsTrue (has (near setting journal s) neighbour)
    → IsTrue (has (near setting journal neighbour) s)
near_back setting journal s neighbour net is = search (rules, ends_there, near_both)

-- what a switch sends about an advert that it has: that one, or one that is as new
record TellsAsNew (messages : List Message) (to : ℕ) (than : Advert) : Type 0 where
  advert : Advert
  as_new : IsConvergenceAdvertAsNew advert than
  is : IsIn (machine_advert_to to advert) messages

over_tells : (setting : Setting) (before now : List Item) (s neighbour : ℕ) (a : Advert)
    → s < 64 → IsOwed setting before now s neighbour a
    → TellsAsNew (machine_messages_over_link setting before now s neighbour) neighbour a
over_tells setting before now s neighbour a small owed =
    by_old (has (near setting before s) neighbour) refl owed.which owed.had
  where
    own : Advert
    own = own_advert setting now s

    is_own : a ≡ own → IsConvergenceAdvertAsNew own a
    is_own same = subst (IsConvergenceAdvertAsNew own) (sym same) (as_new_itself own)

    by_old : (b : Bool) → has (near setting before s) neighbour ≡ b
        → (a ≡ own) ⊎ IsFalse (has (near setting before s) neighbour) → IsHad setting now s a
        → TellsAsNew (elim b [
          | true ↦ machine_advert_to neighbour own ∷ []
          | false ↦ map (machine_advert_to neighbour) (journal_held_adverts setting now s)
        ]) neighbour a
    by_old true e (inl same) had = record { advert = own; as_new = is_own same; is = inl refl }
    by_old true e (inr new) had = let clash : true ≡ false = sym e ∙ new in absurd cc
    by_old false e which (inl same) = record {
      advert = own;
      as_new = is_own same;
      is = in_map _ own _ (held_in _ now s s own small (own_held setting now s small owed.told));
    }
    by_old false e which (inr of) = let best = newest_held setting now s a of in record {
      advert = best.advert;
      as_new = best.as_new;
      is = in_map _ best.advert _ (held_in setting now s a.origin best.advert of.small best.held);
    }

pub pay_links : {since : ℕ} (setting : Setting) (before now : List Item) → IsNet setting.net
    → since ≤ journal_next_message now → HaveNews setting since (IsOwed setting before now) now
    → HaveNews setting since (λ s neighbour advert. ⊥) (now ++ journal_link_changes setting before now)
unfolding journal_link_changes
pay_links {since = since} setting before now net late have = record {
  each = λ s neighbour a linked had other. elim (kept.each s neighbour a linked had other) [
    | inl owed ↦ inr (paid s neighbour a (rw (sends_near setting now messages s) at linked) owed)
    | inr has ↦ inr has
  ];
} where
  messages : List Message
  messages = flat_map (machine_messages_of setting before now)
      (filter (journal_usable_links_changed setting before now) (machine_switches_of setting))

  after : List Item
  after = now ++ machine_send_items now messages

  kept : HaveNews setting since (IsOwed setting before now) after
  kept = stills_news setting (IsOwed setting before now) now (machine_send_items now messages)
      (sends_still now messages) have

  paid : (s neighbour : ℕ) (a : Advert) → IsTrue (has (near setting now s) neighbour)
      → IsOwed setting before now s neighbour a → HasNews setting since after neighbour a
  paid s neighbour a linked owed =
      let ends = ends_there setting now s neighbour net linked in
      let tells = over_tells setting before now s neighbour a
      (omega (arith, ends.one, net.few_switches)) owed in record {
        advert = tells.advert;
        as_new = tells.as_new;
        had = inr (sends_tell now messages neighbour tells.advert late
            (in_flat_map (machine_messages_of setting before now) s (machine_advert_to neighbour tells.advert)
            (filter (journal_usable_links_changed setting before now) (machine_switches_of setting))
            (in_filter (journal_usable_links_changed setting before now) s (machine_switches_of setting) (in_range s 0
            (length setting.net.switches) (omega arith) (omega (arith, ends.one))) owed.changed)
            (in_flat_map (machine_messages_over_link setting before now s) neighbour
            (machine_advert_to neighbour tells.advert) (machine_switches_in setting (near setting now s)) (in_filter
            (has (near setting now s)) neighbour (machine_switches_of setting) (in_range neighbour 0 (length
            setting.net.switches) (omega arith) (omega (arith, ends.other))) linked) tells.is)));
      }
