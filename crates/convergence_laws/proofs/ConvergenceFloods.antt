-- News that is delivered floods. So after each step, what a switch has was sent to each neighbour,
-- or the neighbour has it or what is as new.
use Rattle.std.proofs.Common.{[], ◌&&◌, ◌++◌, ◌<◌, ◌==◌, ◌∙◌, ◌∷◌, ◌≡◌, ◌≢◌, ◌≤◌, ◌⊎◌, Bool, IsFalse, IsTrue, List, None, Option, Some, ap, append-nil, append_assoc, arith, false, inl, inr, length, map, not, option_to_list, refl, subst, sym, true, ℕ, rules}
use Rattle.base.proofs.Exports.{get_or-map-range_with_len, nat_tests, option_map_or}
use Rattle.update_machine.specs.Exports.{Advert, Advertise, Body, Confirm, Crash, Deliver, JournalItemsHaveCauses, Item, LinkDown, LinkUp, Message, OpenAt, Packet, Place, Resend, Restart, Setting, Step, MachineStepOfRow, Update, journal_advert_known, machine_advert_to, journal_adverts_begun, journal_adverts_heard, journal_adverts_known, journal_after_steps, journal_body_to_switch, machine_deliver_items, machine_delivery_items, is_journal_news_to, is_machine_receiver_controller, journal_items_then, journal_link_changes, journal_message_of, near, journal_next_message, journal_next_packet, nothing, own_advert, machine_advert_passed_on, piece, machine_send_items, serves, journal_stamp_of, machine_step_items, journal_switch_items, machine_switches_in, machine_switches_of, machine_message_to_switch}
use Rattle.failover.specs.Exports.{IsNewestAdvert, first_adverts, held_advert, is_newer_advert, is_advert_news}
use Rattle.failover.proofs.FailoverHeldAdverts.{held-first}
use Rattle.base.specs.Exports.{has}
use Rattle.net_file.specs.Exports.{IsNet, links_of}
use Rattle.update_machine.proofs.Exports.{have_append, links_keep, near_stays, start_laws}
use Rattle.control_laws.proofs.Exports.{Has, IsKnown, behind_piece, boot_more, confirm_control, controller_control, deliver_cases, delivered_first, heard_more, is_newest, known_kept, own_origin, packet_works, resends_any, row_first, said_have, said_parts, said_row, step_work, switch_cases, up_more, update_has}
use Rattle.convergence_laws.specs.Exports.{IsConvergenceAdvertAsNew}
use Rattle.convergence_laws.proofs.ConvergenceAnswers.{delivery_is, sent_items}
use Rattle.convergence_laws.proofs.ConvergenceLinkChanges.{ends_there, link_news, pay_links, sends_near, sends_still}
use Rattle.convergence_laws.proofs.ConvergenceTables.{delivery_told}
use Rattle.convergence_laws.proofs.ConvergenceAdverts.{HasNews, HaveNews, IsDelivered, IsGiven, IsHad, IsStill, as_new_itself, as_new_through, delivered_news, given_grows, news_on, sends_tell, stills_news}
use Rattle.convergence_laws.proofs.ConvergencePlainItems.{IsIn, in_either, in_filter, in_map, in_range, in_right}
use Rattle.convergence_laws.proofs.ConvergenceMessages.{IsInOrder, caused_traced, delivered_grows, next_grows, pieces_in_order}
use Rattle.convergence_laws.proofs.ConvergenceNews.{Spread, Still, control_is_still, control_still, crash_spread, link_spread, owed_as, restart_spread, row_near, still_spread, work_is_still, work_still}

-- ---- what a switch knows it was given

pub record IsGivenOf (setting : Setting) (journal : List Item) (s origin : ℕ) (advert : Advert)
    : Type 0 where
  pub of : advert.origin ≡ origin
  pub given : IsGiven setting journal s advert

pub known_given : (setting : Setting) (journal : List Item) (s origin : ℕ) (advert : Advert)
    → origin ≢ s → origin < 64 → journal_advert_known setting journal s origin ≡ Some advert
    → IsGivenOf setting journal s origin advert
known_given setting journal s origin advert other small known = record {
  of = newest.3;
  given = by_place (in_either advert begun (journal_adverts_heard journal s) there);
} where
  begun : List Advert
  begun = option_to_list (held_advert (journal_adverts_begun setting journal s) origin)

  newest : IsNewestAdvert origin (begun ++ journal_adverts_heard journal s) (Some advert)
  newest = is_newest setting journal s origin advert other small known

  there : IsIn advert (begun ++ journal_adverts_heard journal s)
  there = rw newest.2 (in_right advert newest.0 (advert ∷ newest.1) (inl refl))

  by_option : (o : Option Advert) → IsIn advert (option_to_list o) → o ≡ Some advert
  by_option None is = absurd is
  by_option (Some x) (inl same) = ap Some same
  by_option (Some x) (inr none) = absurd none

  by_place : IsIn advert begun ⊎ IsIn advert (journal_adverts_heard journal s)
      → IsGiven setting journal s advert
  by_place (inl first) = inl (ap (held_advert (journal_adverts_begun setting journal s)) newest.3
      ∙ by_option (held_advert (journal_adverts_begun setting journal s) origin) first)
  by_place (inr told) = inr told

-- ---- a delivery

-- nothing is owed where no advert of another switch is delivered
unowed : {since : ℕ} (setting : Setting) (here : List Item) (number : ℕ) (journal : List Item)
    → ((s : ℕ) (advert : Advert) → journal_body_to_switch here s number ≡ Some (Advertise advert) → ⊥)
    → HaveNews setting since (λ s neighbour advert. IsDelivered here number s advert) journal
    → Spread setting since journal
unowed setting here number journal none have = owed_as setting _ (λ s neighbour advert. ⊥) journal
    (λ s neighbour advert owed. none s advert owed.said) have

-- what isn't news to a switch it held as new
held_as_new : (setting : Setting) (before : List Item) (s : ℕ) (a : Advert) → a.origin < 64
    → is_advert_news (journal_adverts_known setting before s) a ≡ false
    → (c : Advert) × (journal_advert_known setting before s a.origin ≡ Some c) × IsFalse (is_newer_advert a c)
unfolding is_advert_news
held_as_new setting before s a small none = search (rules, nat_tests)

-- an advert is passed on where it is news, and had been had as new where it isn't
advert_spread : {since : ℕ} (setting : Setting) (before : List Item) (row number : ℕ)
    (step : Step) (t : ℕ) (advert : Advert) → IsNet setting.net → let here = before ++ Item.Row row step ∷ [] in
    let now = here ++ Item.Delivered number ∷ [] in
    since ≤ journal_next_message now → journal_body_to_switch here t number ≡ Some (Advertise advert)
    → ((s : ℕ) (a : Advert) → journal_body_to_switch here s number ≡ Some (Advertise a)
    → (s ≡ t) × (a ≡ advert)) → Spread setting since here
    → HaveNews setting since (λ s neighbour a. IsDelivered here number s a) now
    → Spread setting since (now ++ journal_switch_items setting before t (Advertise advert) now)
unfolding journal_switch_items
advert_spread {since = since} setting before row number step t advert net late said alone spread
    have = by_news (is_journal_news_to setting before t advert) refl
  where
    here : List Item
    here = before ++ Item.Row row step ∷ []

    now : List Item
    now = here ++ Item.Delivered number ∷ []

    messages : List Message
    messages = machine_advert_passed_on setting now t advert

    passed : (s neighbour : ℕ) (a : Advert)
        → IsTrue (has (near setting (now ++ machine_send_items now messages) s) neighbour)
        → IsDelivered here number s a
        → HasNews setting since (now ++ machine_send_items now messages) neighbour a
    passed s neighbour a linked owed =
        let is = alone s a owed.said in
        let near_now = subst (λ u. IsTrue (has (near setting now u) neighbour)) is.0
        (subst (λ mask. IsTrue (has mask neighbour)) (sends_near setting now messages s) linked) in
        let there = (ends_there setting now t neighbour net near_now).other in record {
          advert = a;
          as_new = as_new_itself a;
          had = inr (sends_tell now messages neighbour a late
              (rw is.1 (in_map (λ k. machine_advert_to k advert) neighbour
              (machine_switches_in setting (near setting now t)) (in_filter (has (near setting now t))
              neighbour (machine_switches_of setting) (in_range neighbour 0 (length setting.net.switches)
              (omega arith) (omega (arith, there))) near_now))));
        }

    -- it held one as new before
    had_news : is_journal_news_to setting before t advert ≡ false → (s neighbour : ℕ) (a : Advert)
        → IsTrue (has (near setting now s) neighbour) → a.origin ≢ neighbour
        → IsDelivered here number s a → HasNews setting since now neighbour a
    had_news none s neighbour a linked elsewhere owed =
        let is = alone s a owed.said in
        let apart : a.origin ≢ t = subst (λ u. a.origin ≢ u) is.0 owed.other in
        let not_own : (a.origin == t) ≡ false = grind (arith, nat_tests) in
        let no_news = sym (ap (λ b. not b && is_advert_news (journal_adverts_known setting before t) a) not_own)
        ∙ ap (is_journal_news_to setting before t) is.1 ∙ none in
        let best = held_as_new setting before t a owed.small no_news in
        let given = known_given setting before t a.origin best.0 apart owed.small best.1 in
        let near_here : IsTrue (has (near setting here t) neighbour) =
        subst (λ u. IsTrue (has (near setting here u) neighbour)) is.0
        (subst (λ mask. IsTrue (has mask neighbour))
        ((links_keep setting here (Item.Delivered number ∷ []) (refl, tt)).near s) linked) in
        by_has a best.0 (record { origin = given.of; new = best.2 })
        (spread.each t neighbour best.0 near_here (inr (record {
          other = λ same. apart (sym given.of ∙ same);
          small = omega (arith, given.of, owed.small);
          given = given_grows setting before here t best.0 (up_more before (Item.Row row step) t)
              (boot_more before (Item.Row row step) t)
              (λ body is. rw (heard_more before (Item.Row row step) t) is) given.given;
        })) (λ same. elsewhere (sym given.of ∙ same)))
      where
        by_has : (a c : Advert) → IsConvergenceAdvertAsNew c a → ⊥ ⊎ HasNews setting since here neighbour c
            → HasNews setting since now neighbour a
        by_has a c as_new (inl none) = absurd none
        by_has a c as_new (inr has) =
            let next : Item = Item.Delivered number in
            let later = news_on setting here next neighbour c (up_more here next neighbour)
            (boot_more here next neighbour) (delivered_grows here number neighbour) has in record {
              advert = later.advert;
              as_new = as_new_through later.advert c a later.as_new as_new;
              had = later.had;
            }

    by_news : (b : Bool) → is_journal_news_to setting before t advert ≡ b
        → Spread setting since (now ++ elim b [
          | true ↦ machine_send_items now (machine_advert_passed_on setting now t advert)
          | false ↦ []
        ])
    by_news true e = record {
      each = λ s neighbour a linked had other. elim
          ((stills_news setting (λ u k b. IsDelivered here number u b) now (machine_send_items now messages)
          (sends_still now messages) have).each s neighbour a linked had other) [
            | inl owed ↦ inr (passed s neighbour a linked owed)
            | inr has ↦ inr has
          ];
    }
    by_news false e = subst (Spread setting since) (sym (append-nil now)) (record {
      each = λ s neighbour a linked had other. elim (have.each s neighbour a linked had other) [
        | inl owed ↦ inr (had_news e s neighbour a linked other owed)
        | inr has ↦ inr has
      ];
    })

-- a switch that opens has new links
open_spread : {since : ℕ} (setting : Setting) (before : List Item) (row number : ℕ)
    (step : Step) (t boot version : ℕ) → IsNet setting.net → let here = before ++ Item.Row row step ∷ [] in
    let now = here ++ Item.Delivered number ∷ [] in
    since ≤ journal_next_message now
    → Has setting now (journal_switch_items setting before t (OpenAt boot version) now) → IsKnown now
    → Spread setting since now
    → Spread setting since (now ++ journal_switch_items setting before t (OpenAt boot version) now)
unfolding journal_switch_items
open_spread {since = since} setting before row number step t boot version net late =
    by_serving (serves before t)
  where
    here : List Item
    here = before ++ Item.Row row step ∷ []

    now : List Item
    now = here ++ Item.Delivered number ∷ []

    next : Item
    next = Item.Opened t (journal_stamp_of now t)

    near_now : (s : ℕ) → near setting now s ≡ near setting before s
    near_now s = near_stays setting s here (Item.Delivered number ∷ []) (refl, tt)
        ∙ row_near setting before row step s

    by_serving : (b : Bool) → Has setting now (elim b [
      | true ↦ []
      | false ↦ journal_items_then (next ∷ []) (journal_link_changes setting before) now
    ]) → IsKnown now → Spread setting since now → Spread setting since (now ++ elim b [
      | true ↦ []
      | false ↦ journal_items_then (next ∷ []) (journal_link_changes setting before) now
    ])
    by_serving true causes known have = subst (Spread setting since) (sym (append-nil now)) have
    by_serving false causes known have = subst (Spread setting since) (append_assoc now
        (next ∷ []) (journal_link_changes setting before (now ++ next ∷ []))) (pay_links setting before
        (now ++ next ∷ []) net (omega (arith, late, next_grows now (next ∷ []))) (link_news setting
        before now next near_now (record {
          first = causes.0;
          second = delivered_first here number (row_first before row step);
        }) refl known have))

other_still : (setting : Setting) (before : List Item) (s : ℕ) (body : Body) (now : List Item)
    → ((boot version : ℕ) → body ≡ OpenAt boot version → ⊥)
    → Still now (journal_switch_items setting before s body now)
other_still setting before s body now none = switch_cases (Still now) setting before s body now
    (λ boot version. sends_still now _) (λ boot version. sends_still now _)
    (λ boot version is. absurd (none boot version is)) (λ advert is news. sends_still now _) tt

-- what is said to a switch
said_spread : {since : ℕ} (setting : Setting) (before : List Item) (row number : ℕ)
    (step : Step) (t : ℕ) (body : Body) → IsNet setting.net
    → let here = before ++ Item.Row row step ∷ [] in
    let now = here ++ Item.Delivered number ∷ [] in
    since ≤ journal_next_message now → journal_body_to_switch here t number ≡ Some body
    → ((s : ℕ) (other : Body) → journal_body_to_switch here s number ≡ Some other → (s ≡ t)
    × (other ≡ body))
    → Has setting now (journal_switch_items setting before t body now) → IsKnown now
    → Spread setting since here
    → HaveNews setting since (λ s neighbour a. IsDelivered here number s a) now
    → Spread setting since (now ++ journal_switch_items setting before t body now)
said_spread setting before row number step t (Advertise advert) net late said alone causes known
    spread have = advert_spread setting before row number step t advert net late said
    (λ s a told. let is = alone s (Advertise a) told in (is.0, same_advert a _ is.1)) spread have
  where
    same_advert : (a b : Advert) → Advertise a ≡ Advertise b → a ≡ b
    same_advert a b same = cc
said_spread setting before row number step t (OpenAt boot version) net late said alone causes known
    spread have = open_spread setting before row number step t boot version net late causes known
    (unowed setting _ number _ (λ s a told. absurd (apart a (alone s (Advertise a) told).1)) have)
  where
    apart : (a : Advert) → Advertise a ≡ OpenAt boot version → ⊥
    apart a same = absurd cc
said_spread setting before row number step t body net late said alone causes known spread have =
    still_spread _ _ _ (other_still _ _ t body _ (λ boot version same. absurd cc)) (unowed _ _ _ _
    (λ s a told. let same : Advertise a ≡ body = (alone s (Advertise a) told).1 in absurd cc) have)

-- ---- deliveries that say nothing to a switch

unsent_items : (setting : Setting) (before : List Item) (number : ℕ) (now : List Item)
    → journal_message_of before number ≡ None → machine_delivery_items setting before number now ≡ []
unfolding machine_delivery_items
unsent_items setting before number now none = search rules

abbrev receiver_or : Place → ℕ
receiver_or (Place.Switch s) = s
receiver_or Place.Controller = 0

deliver_spread : {since : ℕ} (setting : Setting) (before : List Item) (row number : ℕ) (step : Step)
    → IsNet setting.net → let here = before ++ Item.Row row step ∷ [] in
    since ≤ journal_next_message here → IsKnown here → Spread setting since here
    → Spread setting since (here ++ machine_deliver_items setting before number here)
deliver_spread {since = since} setting before row number step net late known spread =
    deliver_cases (Spread setting since) setting before number here
    (still_spread setting here nothing (tt, tt) spread) (by_message (journal_message_of before number) refl)
  where
    here : List Item
    here = before ++ Item.Row row step ∷ []

    now : List Item
    now = here ++ Item.Delivered number ∷ []

    have : HaveNews setting since (λ s neighbour a. IsDelivered here number s a) now
    have = delivered_news setting here number spread

    -- what is said was sent to the switch
    sent_of : (s : ℕ) (body : Body) → journal_body_to_switch here s number ≡ Some body
        → journal_message_of before number ≡ Some (machine_message_to_switch s body)
    sent_of s body said = (said_parts _ s _ body (sym (said_row _ row s number step) ∙ said)).sent

    -- where nothing is said to a switch the rest is still
    silent : Still now (machine_delivery_items setting before number now)
        → ((s : ℕ) (body : Body) → journal_body_to_switch here s number ≡ Some body → ⊥)
        → Spread setting since (now ++ machine_delivery_items setting before number now)
    silent still none = still_spread setting now _ still
        (unowed setting here number now (λ s advert said. none s (Advertise advert) said) have)

    to_switch_alone : (t : ℕ) (body : Body) → journal_body_to_switch here t number ≡ Some body → (s : ℕ)
        (other : Body) → journal_body_to_switch here s number ≡ Some other → (s ≡ t) × (other ≡ body)
    to_switch_alone t body said s other told =
        let same : Some (machine_message_to_switch s other) ≡ Some (machine_message_to_switch t body) =
        sym (sent_of s other told) ∙ sent_of t body said in (
          ap (λ (o : Option Message). option_map_or (λ m. receiver_or m.to) o 0) same,
          ap (λ (o : Option Message). option_map_or (λ m. m.body) o body) same,
        )

    by_receiver : (to : Place) (body : Body)
        → journal_message_of before number ≡ Some (record { to = to; body = body })
        → Spread setting since (now ++ machine_delivery_items setting before number now)
    by_receiver Place.Controller body e = silent (rw (delivery_told _ before number body now e)
        (control_still now _ (controller_control setting before body now)))
        (λ s other said. let clash : false ≡ true = ap (λ (o : Option Message). option_map_or
        (λ m. is_machine_receiver_controller m.to) o false) (sym (sent_of s other said) ∙ e) in
        absurd cc)
    by_receiver (Place.Switch t) body e = by_said (journal_body_to_switch here t number) refl where
      by_said : (o : Option Body) → journal_body_to_switch here t number ≡ o
          → Spread setting since (now ++ machine_delivery_items setting before number now)
      by_said None f = silent (rw (nothing_said f) tt) (λ s other said.
          let at : s ≡ t = ap (λ (o : Option Message). option_map_or (λ m. receiver_or m.to) o 0)
          (sym (sent_of s other said) ∙ e) in
          let clash = sym f ∙ ap (λ u. journal_body_to_switch here u number) (sym at) ∙ said in
          absurd cc)
        where
          nothing_said : journal_body_to_switch here t number ≡ None
              → machine_delivery_items setting before number now ≡ []
          nothing_said f = sent_items _ _ _ t body now e None (sym (said_row _ row t _ step) ∙ f)
      by_said (Some told) f = rw (delivery_is setting before number now t told
          (sym (said_row before row t number step) ∙ f)) (said_spread setting before row number step
          t told net (omega (arith, late, next_grows here (Item.Delivered number ∷ []))) f
          (to_switch_alone t told f) (said_have setting before here t number told f)
          (known_kept setting here (Item.Delivered number) tt known) spread have)

    by_message : (o : Option Message) → journal_message_of before number ≡ o
        → Spread setting since (now ++ machine_delivery_items setting before number now)
    by_message None e = silent (rw (unsent_items setting before number now e) tt) (λ s other said.
        let clash : None ≡ Some (machine_message_to_switch s other) = sym e ∙ sent_of s other said in absurd cc)
    by_message (Some message) e = by_receiver message.to message.body e

-- ---- steps

step_spread : {since : ℕ} (setting : Setting) (before : List Item) (row : ℕ) (step : Step) → IsNet setting.net
    → let here = before ++ Item.Row row step ∷ [] in
    since ≤ journal_next_message here → IsKnown here → Spread setting since here
    → Spread setting since (here ++ machine_step_items setting before step here)
step_spread setting before row (Packet s header) net = λ late known have. still_spread setting _ _
    (packet_works setting IsStill (work_is_still setting) (journal_next_packet before) s header _ tt) have
step_spread setting before row (Deliver number) net = deliver_spread setting before row number _ net
step_spread setting before row (Update file) net = λ late known have. still_spread setting _ _
    (update_has IsStill control_is_still setting file _ (λ version. tt)) have
step_spread setting before row (LinkDown one two) net = link_spread _ before row _ one two false net
step_spread setting before row (LinkUp one two) net = link_spread _ before row _ one two true net
step_spread setting before row (Crash s) net = crash_spread setting before row (Crash s) s net
step_spread setting before row (Restart s) net = λ late. restart_spread setting before row _ s
step_spread setting before row (Confirm s) net = λ late known have.
    still_spread setting _ _ (control_still _ _ (confirm_control setting s _)) have
step_spread setting before row (Resend s) net = λ late known have.
    still_spread setting _ _ (resends_any IsStill (λ now n message. tt) setting s _ tt) have
step_spread setting before row step net = λ late known have.
    still_spread setting _ _ (work_still setting _ _ (step_work setting before step _ tt)) have

piece_spread : {since : ℕ} (setting : Setting) (before : List Item) (row : ℕ) (step : Step)
    → IsNet setting.net → since ≤ journal_next_message before → IsKnown before → Spread setting since before
    → Spread setting since (before ++ piece setting before row step)
piece_spread {since = since} setting before row step net late known have =
    let next : Item = Item.Row row step in
    behind_piece setting before row step (Spread setting since)
    (step_spread setting before row step net (omega (arith, next_grows)) (known_kept setting before
    next tt known) (still_spread setting before (next ∷ []) (tt, tt) have))

pub steps_spread : {since : ℕ} (setting : Setting) (before : List Item) (steps : List MachineStepOfRow)
    → IsNet setting.net → since ≤ journal_next_message before → JournalItemsHaveCauses (IsInOrder setting) [] before
    → Spread setting since before → Spread setting since (journal_after_steps setting before steps)
steps_spread setting before [] net late causes have = have
steps_spread setting before (next ∷ steps) net late causes have = steps_spread setting
    (before ++ piece setting before next.row next.step) steps net (omega (arith, next_grows))
    (have_append (IsInOrder setting) [] before (piece setting before next.row next.step) causes
    (pieces_in_order setting before next.row next.step)) (piece_spread setting before next.row
    next.step net late (caused_traced setting before causes).known have)

-- ---- the beginning

begun_first : (setting : Setting) (s : ℕ) → journal_adverts_begun setting [] s ≡ first_adverts
    (map (links_of setting.net.links) (machine_switches_of setting)) (length setting.net.switches)
begun_first setting s = rw (start_laws.up s, start_laws.boot s) refl

-- each switch begins with the first advert of each one
has_first : (setting : Setting) (s neighbour : ℕ) → s < length setting.net.switches → s < 64
    → held_advert (journal_adverts_begun setting [] neighbour) s ≡ Some (own_advert setting [] s)
has_first setting s neighbour there small =
    search (rules, nat_tests, begun_first, held-first, get_or-map-range_with_len, start_laws)

first_spread : {since : ℕ} (setting : Setting) → IsNet setting.net → Spread setting since []
first_spread {since = since} setting net = record {
  each = λ s neighbour a linked had other.
      inr (by_had s neighbour a (ends_there setting [] s neighbour net linked).one had);
} where
  given_news : (neighbour : ℕ) (a : Advert) → IsGiven setting [] neighbour a
      → HasNews setting since [] neighbour a
  given_news neighbour a given = record { advert = a; as_new = as_new_itself a; had = inl given }

  by_had : (s neighbour : ℕ) (a : Advert) → s < length setting.net.switches
      → IsHad setting [] s a → HasNews setting since [] neighbour a
  by_had s neighbour a there (inl own) = given_news neighbour a (inl (
      ap (λ (b : Advert). held_advert (journal_adverts_begun setting [] neighbour) b.origin) own
      ∙ ap (held_advert (journal_adverts_begun setting [] neighbour)) (own_origin setting [] s)
      ∙ has_first setting s neighbour there (omega (arith, there, net.few_switches))
      ∙ ap Some (sym own)))
  by_had s neighbour a there (inr of) = by_given of.given where
    by_given : IsGiven setting [] s a → HasNews setting since [] neighbour a
    by_given (inl begun) = given_news neighbour a (inl (
        ap (λ adverts. held_advert adverts a.origin)
        (begun_first setting neighbour ∙ sym (begun_first setting s)) ∙ begun))
    by_given (inr told) = absurd (rw (start_laws.heard s) at told)

pub spread_at_ends : (setting : Setting) (steps : List MachineStepOfRow) → IsNet setting.net
    → Spread setting 0 (journal_after_steps setting [] steps)
spread_at_ends setting steps net =
    steps_spread setting [] steps net (omega arith) tt (first_spread setting net)
