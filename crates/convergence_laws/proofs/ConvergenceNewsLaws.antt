-- The laws on news and on known links, behind any steps.
use Rattle.std.proofs.Common.{[], ◌&&◌, ◌++◌, ◌+◌, ◌<◌, ◌==◌, ◌||◌, ◌∙◌, ◌∷◌, ◌≡◌, ◌≢◌, ◌≤◌, ◌⊎◌, Bool, Contains, IsFalse, IsTrue, List, None, Option, Some, ap, append-nil, append_assoc, arith, eq-eqb, eqb-true, false, find, if◌then◌else◌, inl, inr, not, refl, subst, suc, sym, true, zero, ℕ, rules}
use Rattle.base.proofs.Exports.{nat_tests}
use Rattle.update_machine.specs.Exports.{Advert, Advertise, AreAllMachineEventSteps, AreMachineMessagesReceived, AreMachineSteps, AreMachineStepsOf, Body, Event, Flush, JournalItemsHaveCauses, IsQuietMachineJournal, Item, Message, Place, MachineSending, Setting, Step, MachineStepOfRow, journal_after_steps, journal_receiver_boot_at, journal_boot_of, machine_count_of, heard, is_deliverable, is_journal_body_for_boot, is_forgotten_in_journal, is_machine_later_body, is_machine_sending_item, is_up, is_waiting, journal_message_of, journal_next_delivery, journal_next_message, next_waiting, machine_advert_of_other, piece, machine_sendings, was_delivered_in_journal}
use Rattle.control_laws.specs.Exports.{ControlLawHoldsAtEnds, ControlLawHoldsBehindItems, ControlOwnAdvertsAreNewest}
use Rattle.control_laws.proofs.Exports.{at_ends, behind_both, behind_items, own_newest, steps_have}
use Rattle.convergence_laws.specs.Exports.{EndsInFinishedConvergenceNetwork, ConvergedGetStuckApart, HasConverged, IsConvergenceAdvertAsNew, IsConvergenceNetworkFinished, IsNetworkUpdated, ConvergenceNeighboursAgree, ConvergenceNewsSpreads}
use Rattle.convergence_laws.proofs.ConvergencePlainItems.{IsIn, each_in, in_filter_map, in_range}
use Rattle.convergence_laws.proofs.ConvergedReceipts.{IsGot, delivered_append, got, heard_in_boot, in_sendings}
use Rattle.convergence_laws.proofs.ConvergenceMessages.{AreTraced, IsInOrder, IsTraced, caused_traced, pieces_in_order, traced_at_first, traced_kept}
use Rattle.net_file.specs.Exports.{IsNet}
use Rattle.steps.specs.Exports.{StepSwitchExists}
use Rattle.convergence_laws.proofs.ConvergenceAgreement.{AreSpread, IsGivenNew, TellsOwn, caused_tells, spread_agree, spread_cases}
use Rattle.convergence_laws.proofs.ConvergedKnownLinks.{AreAgreed, agreed_converged}
use Rattle.convergence_laws.proofs.ConvergedStuckPackets.{stuck_reaches_none}
use Rattle.convergence_laws.proofs.ConvergenceFloods.{spread_at_ends}
use Rattle.convergence_laws.proofs.ConvergenceAdverts.{IsToldTo, as_new_itself}
use Rattle.convergence_laws.proofs.ConvergenceNews.{Spread}
use Rattle.update_machine.proofs.Exports.{after_append}
use Rattle.convergence_laws.proofs.ConvergenceUpdates.{updated_at_ends}

-- ---- where nothing is left to do the network is quiet

-- what isn't found passes nowhere
pub none_found : (test : ℕ → Bool) (x : ℕ) (xs : List ℕ) → find test xs ≡ None → IsIn x xs
    → IsFalse (test x)
none_found test x [] none is = absurd is
none_found test x (y ∷ xs) none is = search (rules, none_found test x xs)

-- so a message that was sent was delivered
not_waiting : (journal : List Item) (number : ℕ) → next_waiting journal ≡ None → 1 ≤ number
    → number < journal_next_message journal → IsFalse (is_waiting journal number)
unfolding next_waiting journal_next_message
not_waiting journal number none first below = none_found (is_waiting journal) number _ none
    (in_range number 1 (machine_count_of is_machine_sending_item journal) first (omega (arith, below)))

pub sent_delivered : (journal : List Item) (number : ℕ) (message : Message) → next_waiting journal
    ≡ None → IsFalse (is_forgotten_in_journal journal number) → journal_message_of journal number ≡ Some message
    → 1 ≤ number → number < journal_next_message journal → IsTrue (was_delivered_in_journal journal number)
unfolding is_deliverable
sent_delivered journal number message waiting forgotten sent first below = by_delivered _ refl
    (not_waiting journal number waiting first below)
  where
    deliverable : is_deliverable journal number ≡ true
    deliverable = rw (sent, forgotten) refl

    by_delivered : (b : Bool) → was_delivered_in_journal journal number ≡ b
        → IsFalse (is_deliverable journal number && not b) → IsTrue (was_delivered_in_journal journal number)
    by_delivered true e waits = e
    by_delivered false e waits = absurd (cc (sym (ap (λ b. b && true) deliverable) ∙ waits))

pub one_delivered : (journal : List Item) (x : MachineSending) → next_waiting journal ≡ None
    → IsFalse (is_forgotten_in_journal journal x.number) → IsTraced journal x
    → IsTrue (was_delivered_in_journal journal x.number)
one_delivered journal x waiting forgotten traced = search (rules, sent_delivered)

-- an item that sends a message delivers none
sent_alone : (number n : ℕ) (message : Message)
    → was_delivered_in_journal (Item.Sent number message ∷ []) n ≡ false
unfolding was_delivered_in_journal
sent_alone number n message = refl

-- where each message was delivered, it was behind its sending
each_received : (setting : Setting) (journal front items : List Item) → journal ≡ front ++ items
    → ((x : MachineSending) → IsIn x (machine_sendings journal) → IsTrue (was_delivered_in_journal journal x.number))
    → AreTraced front → JournalItemsHaveCauses (IsInOrder setting) front items
    → AreMachineMessagesReceived setting journal items
each_received setting journal front [] is all traced have = tt
each_received setting journal front (Item.Sent number message ∷ items) is all traced have = (
  λ s there matter. inl (by_test (was_delivered_in_journal front number) refl),
  each_received setting journal _ items (is ∙ sym (append_assoc front (next ∷ []) items)) all
      (traced_kept setting front next have.0 traced) have.1,
) where
  next : Item
  next = Item.Sent number message

  whole : (was_delivered_in_journal front number
      || (was_delivered_in_journal (next ∷ []) number || was_delivered_in_journal items number)) ≡ true
  whole =
      ap (λ b. was_delivered_in_journal front number || b) (sym (delivered_append (next ∷ []) items number))
      ∙ sym (delivered_append front _ number) ∙ ap (λ js. was_delivered_in_journal js number) (sym is)
      ∙ all (record { number = number; message = message; boot = journal_receiver_boot_at front message.to })
      (in_sendings journal front number message items is)

  by_test : (b : Bool) → was_delivered_in_journal front number ≡ b → IsTrue (was_delivered_in_journal items number)
  by_test true e = absurd (omega (arith, traced.delivered number e, have.0.second.first))
  by_test false e = rw (e, sent_alone number number message) at whole
each_received setting journal front (next ∷ items) is all traced have = each_received setting
    journal (front ++ next ∷ []) items (is ∙ sym (append_assoc front (next ∷ []) items)) all
    (traced_kept setting front next have.0 traced) have.1

finished_quiet : (setting : Setting) (journal : List Item)
    → JournalItemsHaveCauses (IsInOrder setting) [] journal → IsConvergenceNetworkFinished setting journal
    → IsQuietMachineJournal setting journal
finished_quiet setting journal have finished = record {
  switches = finished.switches;
  messages = each_received setting journal [] journal refl (λ x is. one_delivered journal x
      finished.waiting (finished.forgotten x.number) (each_in (IsTraced journal) x
      (machine_sendings journal) (caused_traced setting journal have).each is)) traced_at_first have;
}

pub finished_behind :
    ControlLawHoldsBehindItems (λ setting journal. IsConvergenceNetworkFinished setting journal → IsQuietMachineJournal setting journal)
finished_behind =
    behind_items (λ setting journal. IsConvergenceNetworkFinished setting journal → IsQuietMachineJournal setting journal)
    IsInOrder pieces_in_order finished_quiet

-- ---- news laws

-- ---- news

pub contains_in : {X : Type 0} (x : X) (xs : List X) → IsIn x xs → Contains xs x
contains_in x [] is = absurd is
contains_in x (y ∷ xs) (inl here) = (zero, omega arith, here)
contains_in x (y ∷ xs) (inr later) =
    let found = contains_in x xs later in (suc found.0, omega (arith, found.1), found.2)

news_spread : (setting : Setting) (journal : List Item) → AreSpread setting 0 journal
    → ConvergenceNewsSpreads setting journal
news_spread setting journal are s neighbour origin a linked small known =
    elim (spread_cases setting journal are s neighbour origin a linked small known) [
      | inl held ↦ inl held
      | inr news ↦ inr (record {
        number = news.told.number;
        advert = news.advert;
        sent = contains_in _ (machine_sendings journal) news.told.is;
        as_new = news.as_new;
      })
    ]

-- ---- in a quiet journal what was told was heard

later_advert : (body : Body) (b : Advert) → (body ≡ Advertise b)
    ⊎ IsTrue (is_machine_later_body body (Advertise b)) → (c : Advert) × (body ≡ Advertise c) × IsConvergenceAdvertAsNew c b
later_advert body b h2 = search (rules, nat_tests, as_new_itself, eqb-true)

told_given : (setting : Setting) (journal : List Item) (s : ℕ) (b : Advert)
    → IsQuietMachineJournal setting journal → JournalItemsHaveCauses (IsInOrder setting) [] journal
    → StepSwitchExists setting.net s → IsTrue (is_up journal s) → b.origin ≢ s
    → IsToldTo 0 journal s b → IsGivenNew setting journal s b
told_given setting journal s b quiet causes there up other told = record {
  advert = says.0;
  as_new = says.2;
  given = inr (in_filter_map (machine_advert_of_other s) (Advertise says.0) says.0 (heard journal s)
      (subst (λ body. IsIn body (heard journal s)) says.1 heard_it) told_of);
} where
  later : IsGot journal (Place.Switch s) (Advertise b)
  later = got setting journal s told.number (journal_boot_of journal s) (Place.Switch s) (Advertise b)
      quiet causes there told.is refl (λ after since. let to : (s == s) ≡ true = eq-eqb s s refl in
      rw (up, to, since) refl)

  says : (c : Advert) × (later.body ≡ Advertise c) × IsConvergenceAdvertAsNew c b
  says = later_advert later.body b later.says

  for_it : IsTrue (is_journal_body_for_boot later.boot later.body)
  for_it = subst (λ body. IsTrue (is_journal_body_for_boot later.boot body)) (sym says.1) refl

  heard_it : IsIn later.body (heard journal s)
  heard_it = heard_in_boot journal s later.number later.boot later.body
      (caused_traced setting journal causes) later.is up later.own for_it later.delivered

  apart : (says.0.origin == s) ≡ false
  apart = let elsewhere : says.0.origin ≢ s = λ same. other (sym says.2.origin ∙ same) in
      grind (arith, nat_tests)

  told_of : machine_advert_of_other s (Advertise says.0) ≡ Some says.0
  told_of = ap (λ c. if c then None else Some says.0) apart

-- ---- behind any steps

newest_stepped : (setting : Setting) (steps : List MachineStepOfRow)
    → ControlOwnAdvertsAreNewest setting (journal_after_steps setting [] steps)
newest_stepped = (behind_both ControlOwnAdvertsAreNewest own_newest).ends.stepped

pub ends_tell : (setting : Setting) (steps : List MachineStepOfRow)
    → TellsOwn setting (journal_after_steps setting [] steps)
ends_tell = (behind_both TellsOwn caused_tells).ends.stepped

-- what is true of adverts, except whom they reach
pub ends_spread : {since : ℕ} (setting : Setting) (steps : List MachineStepOfRow) → IsNet setting.net
    → Spread setting since (journal_after_steps setting [] steps)
    → AreSpread setting since (journal_after_steps setting [] steps)
ends_spread setting steps net spread = record {
  net = net;
  spread = spread;
  newest = newest_stepped setting steps;
  tells = ends_tell setting steps;
}

all_spread : (setting : Setting) (steps : List MachineStepOfRow) → IsNet setting.net
    → AreSpread setting 0 (journal_after_steps setting [] steps)
all_spread setting steps net = ends_spread setting steps net (spread_at_ends setting steps net)

pub news_at_ends : ControlLawHoldsAtEnds (λ setting journal. IsNet setting.net → ConvergenceNewsSpreads setting journal)
news_at_ends = search (rules, at_ends, news_spread, all_spread)

-- ---- neighbours that agree

pub quiet_at_ends : ControlLawHoldsAtEnds (λ setting journal.
    IsNet setting.net → IsQuietMachineJournal setting journal → ConvergenceNeighboursAgree setting journal)
quiet_at_ends = at_ends _ (λ setting steps net quiet. spread_agree setting
    (journal_after_steps setting [] steps) (all_spread setting steps net) (λ s b there up other told.
    told_given setting (journal_after_steps setting [] steps) s b quiet (steps_have (IsInOrder setting)
    setting (pieces_in_order setting) [] steps tt) there up other told))

agreed_at_ends : (Holds : Setting → List Item → Type 0)
    → ((setting : Setting) (journal : List Item) → AreAgreed setting journal → Holds setting journal)
    → ControlLawHoldsAtEnds (λ setting journal.
    IsNet setting.net → ConvergenceNeighboursAgree setting journal → Holds setting journal)
agreed_at_ends Holds holds = at_ends _
    (λ setting steps net agree. holds setting (journal_after_steps setting [] steps) (record {
      net = net;
      agree = agree;
      newest = newest_stepped setting steps;
      tells = ends_tell setting steps;
    }))

pub converged_at_ends : ControlLawHoldsAtEnds (λ setting journal.
    IsNet setting.net → ConvergenceNeighboursAgree setting journal → HasConverged setting journal)
converged_at_ends = agreed_at_ends HasConverged agreed_converged

pub apart_at_ends : ControlLawHoldsAtEnds (λ setting journal.
    IsNet setting.net → ConvergenceNeighboursAgree setting journal → ConvergedGetStuckApart setting journal)
apart_at_ends = agreed_at_ends ConvergedGetStuckApart stuck_reaches_none

-- so the same is true of quiet networks
quiet_ends : (Holds : Setting → List Item → Type 0) → ControlLawHoldsAtEnds (λ setting journal.
    IsNet setting.net → ConvergenceNeighboursAgree setting journal → Holds setting journal)
    → ControlLawHoldsAtEnds (λ setting journal.
    IsNet setting.net → IsQuietMachineJournal setting journal → Holds setting journal)
quiet_ends Holds law = search (rules, at_ends, quiet_at_ends)

pub quiet_converged : ControlLawHoldsAtEnds (λ setting journal.
    IsNet setting.net → IsQuietMachineJournal setting journal → HasConverged setting journal)
quiet_converged = quiet_ends HasConverged converged_at_ends

pub quiet_apart : ControlLawHoldsAtEnds (λ setting journal.
    IsNet setting.net → IsQuietMachineJournal setting journal → ConvergedGetStuckApart setting journal)
quiet_apart = quiet_ends ConvergedGetStuckApart apart_at_ends

-- ---- a schedule that ends with a flush leaves no message waiting

-- behind all of them there is no next one
pub all_end : (setting : Setting) (next : List Item → Option Step) (row : ℕ) (before : List Item)
    (steps : List MachineStepOfRow) → AreAllMachineEventSteps setting next row before steps
    → next (journal_after_steps setting before steps) ≡ None
all_end setting next row before [] are = are
all_end setting next row before (first ∷ steps) are =
    all_end setting next row (before ++ piece setting before first.row first.step) steps are.2

-- so where the last event takes all of its steps
pub last_ends : (setting : Setting) (next : List Item → Option Step) (event : Event)
    → ((row : ℕ) (before : List Item) (steps : List MachineStepOfRow)
    → AreMachineStepsOf setting row event before steps → AreAllMachineEventSteps setting next row before steps)
    → (row : ℕ) (events : List Event) (before : List Item) (steps : List MachineStepOfRow)
    → AreMachineSteps setting row (events ++ event ∷ []) before steps
    → next (journal_after_steps setting before steps) ≡ None
last_ends setting next event takes row [] before steps are =
    rw (are.2.split ∙ ap (λ rest. are.0 ++ rest) are.4 ∙ append-nil are.0)
    (all_end setting next row before are.0 (takes row before are.0 are.3))
last_ends setting next event takes row (first ∷ events) before steps are =
    rw (ap (journal_after_steps setting before) are.2.split ∙ after_append setting before are.0 are.1)
    (last_ends setting next event takes (row + 1) events (journal_after_steps setting before are.0) are.1
    are.4)

pub flush_ends : (setting : Setting) (row : ℕ) (events : List Event) (before : List Item)
    (steps : List MachineStepOfRow) → AreMachineSteps setting row (events ++ Flush ∷ []) before steps
    → journal_next_delivery (journal_after_steps setting before steps) ≡ None
flush_ends setting = last_ends setting journal_next_delivery Flush (λ row before steps are. are)

pub none_waits : (journal : List Item) → journal_next_delivery journal ≡ None → next_waiting journal ≡ None
none_waits journal none = search rules

pub flushed_quiet : (setting : Setting) (events : List Event) (journal : List Item)
    → EndsInFinishedConvergenceNetwork setting events journal → IsQuietMachineJournal setting journal
flushed_quiet setting events journal ends =
    finished_behind.ends.answered setting (events ++ Flush ∷ []) journal ends.answered (record {
      waiting = none_waits journal (rw ends.answered.written
          (flush_ends setting 1 events [] ends.answered.steps ends.answered.allowed));
      forgotten = ends.forgotten;
      switches = ends.switches;
    })

pub flushed_converged : (setting : Setting) (events : List Event) (journal : List Item)
    → IsNet setting.net → EndsInFinishedConvergenceNetwork setting events journal → HasConverged setting journal
flushed_converged setting events journal net ends = quiet_converged.answered setting
    (events ++ Flush ∷ []) journal ends.answered net (flushed_quiet setting events journal ends)

pub flushed_updated : (setting : Setting) (events : List Event) (journal : List Item)
    → EndsInFinishedConvergenceNetwork setting events journal → IsNetworkUpdated setting journal
flushed_updated setting events journal ends = updated_at_ends.answered setting
    (events ++ Flush ∷ []) journal ends.answered (flushed_quiet setting events journal ends)
