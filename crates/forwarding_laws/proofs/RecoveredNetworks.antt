-- Recovery, of each journal that answers a schedule that ends in it.
use Rattle.std.proofs.Common.{[], ◌++◌, ◌∙◌, ◌∷◌, ◌≡◌, ◌≤◌, ◌⊎◌, Bool, IsTrue, List, None, Option, Some, arith, false, inl, inr, option_map, refl, subst, suc, sym, true, zero, ℕ}
use Rattle.update_machine.specs.Exports.{Answers, AreAllMachineEventSteps, Deliver, Event, Flush, JournalItemsHaveCauses, IsMachineSetting, Item, Message, Resend, Setting, Step, MachineStepOfRow, MachineTakesNextNumber, journal_after_steps, is_forgotten_in_journal, journal_message_of, journal_next_delivery, journal_next_message, next_waiting, piece, was_delivered_in_journal}
use Rattle.net_file.specs.Exports.{IsNet}
use Rattle.steps.specs.Exports.{StepSwitchExists}
use Rattle.update_machine.proofs.Exports.{AreOf, after_append, start_laws}
use Rattle.control_laws.specs.Exports.{AreControlNetworkEvents, ControlLawHoldsAtEnds}
use Rattle.control_laws.proofs.Exports.{AreKept, by_number, fact_on, steps_have}
use Rattle.convergence_laws.specs.Exports.{ConvergedGetStuckApart, HasConverged, IsNetworkUpdated, ConvergenceNeighboursAgree}
use Rattle.convergence_laws.proofs.Exports.{AreReady, AreTraced, IsInOrder, all_end, caught_updated, caused_traced, ends_spread, ends_tell, flush_ends, next_first, next_grows, none_waits, pieces_in_order, sent_delivered, steps_ready, steps_spread}
use Rattle.packet_laws.specs.Exports.{PacketLawHoldsBetween}
use Rattle.forwarding_laws.specs.Exports.{AllForwardingMessagesDelivered, EndsInRecovery, HasRecovered, NetworkForwards}
use Rattle.forwarding_laws.proofs.RecoveredAdverts.{piece_resends, recovered_agree, resends_spread}
use Rattle.forwarding_laws.proofs.RecoveryCalmItems.{Calmly, IsCalmStep, calm_rest, calm_row, calm_steps, calm_through, stays}
use Rattle.forwarding_laws.proofs.RecoveredControl.{IsAsked, IsRecovered, recovered_caught}
use Rattle.forwarding_laws.proofs.RecoveryDeliveries.{IsDeliveredIn, IsFlushed, find_delivery, since_calm}
use Rattle.forwarding_laws.proofs.RecoveryRows.{EndsCalmly, IsTakenIn, among_taken, each_calm, ends_calmly}

-- ---- deliveries are calm

all_calm : (setting : Setting) (row : ℕ) (before : List Item) (steps : List MachineStepOfRow)
    → AreAllMachineEventSteps setting journal_next_delivery row before steps → AreOf IsCalmStep steps
all_calm setting row before [] all = tt
all_calm setting row before (first ∷ steps) all = (
  by_next (next_waiting before) first.step all.1,
  all_calm setting row (before ++ piece setting before first.row first.step) steps all.2,
) where
  by_next : (o : Option ℕ) (step : Step) → option_map Deliver o ≡ Some step → IsCalmStep step
  by_next None step e = absurd cc
  by_next (Some n) step e = let same : Deliver n ≡ step = cc in subst IsCalmStep same tt

both_calm : (one other : List MachineStepOfRow) → AreOf IsCalmStep one → AreOf IsCalmStep other
    → AreOf IsCalmStep (one ++ other)
both_calm [] other first later = later
both_calm (next ∷ one) other first later = (first.0, both_calm one other first.1 later)

-- ---- a journal after recovery

module _ (setting : Setting) (journal : List Item) (ends : EndsCalmly setting journal) where
  -- behind the confirmations, and behind the resends
  abbrev confirmed : List Item
  confirmed = journal_after_steps setting [] ends.first

  abbrev resent : List Item
  resent = journal_after_steps setting confirmed ends.resends

  resends_calm : AreOf IsCalmStep ends.resends
  resends_calm = each_calm Resend (λ s. tt) ends.resends ends.asked

  flush_calm : AreOf IsCalmStep ends.flush
  flush_calm = all_calm setting ends.row resent ends.flush ends.all

  -- all steps behind the confirmations
  abbrev last : List MachineStepOfRow
  last = ends.resends ++ ends.flush

  last_calm : AreOf IsCalmStep last
  last_calm = both_calm ends.resends ends.flush resends_calm flush_calm

  by_last : journal ≡ journal_after_steps setting confirmed last
  by_last = ends.written ∙ sym (after_append setting confirmed ends.resends ends.flush)

  by_all : journal ≡ journal_after_steps setting [] (ends.first ++ last)
  by_all = by_last ∙ sym (after_append setting [] ends.first last)

  pub ends_calm : Calmly setting confirmed journal
  ends_calm = rw by_last (calm_steps setting confirmed last last_calm)

  first_causes : JournalItemsHaveCauses (IsInOrder setting) [] confirmed
  first_causes = steps_have (IsInOrder setting) setting (pieces_in_order setting) [] ends.first tt

  resent_causes : JournalItemsHaveCauses (IsInOrder setting) [] resent
  resent_causes = steps_have (IsInOrder setting) setting (pieces_in_order setting) confirmed
      ends.resends first_causes

  causes : JournalItemsHaveCauses (IsInOrder setting) [] journal
  causes = subst (JournalItemsHaveCauses (IsInOrder setting) []) (sym by_all)
      (steps_have (IsInOrder setting) setting (pieces_in_order setting) [] (ends.first ++ last) tt)

  waiting : next_waiting journal ≡ None
  waiting = none_waits journal (subst (λ j. journal_next_delivery j ≡ None) (sym ends.written)
      (all_end setting journal_next_delivery ends.row resent ends.flush ends.all))

  flushed : IsFlushed setting confirmed journal
  flushed = record {
    calm = ends_calm;
    first = caused_traced setting confirmed first_causes;
    traced = caused_traced setting journal causes;
    waiting = waiting;
  }

  -- ---- adverts

  pub ends_agree : IsNet setting.net → ConvergenceNeighboursAgree setting journal
  ends_agree net = recovered_agree setting confirmed journal flushed
      (rw by_all (ends_spread setting (ends.first ++ last) net (rw (sym ends.written ∙ by_all) at
      (steps_spread setting resent ends.flush net late resent_causes (resends_spread setting
      confirmed ends.resends net ends.asked ends.each (rw (after_append setting [] ends.first
      ends.resends) at (ends_tell setting (ends.first ++ ends.resends))))))))
    where
      late : journal_next_message confirmed ≤ journal_next_message resent
      late = (stays setting confirmed resent
          (calm_steps setting confirmed ends.resends resends_calm)).numbers

  -- ---- control

  asked : (s : ℕ) → StepSwitchExists setting.net s → IsAsked setting confirmed journal s
  asked s there = record {
    here = here;
    first = calm_through setting confirmed taken.at here taken.first
        (calm_row setting taken.at taken.row (Resend s) tt);
    rest = calm_through setting here then journal (calm_rest setting taken.at taken.row (Resend s) tt)
        rest;
    sends = λ message is. since_calm setting (journal_next_message confirmed) then journal message rest
        (piece_resends (journal_next_message confirmed) setting taken.at taken.row s message late is);
  } where
    taken : IsTakenIn setting (Resend s) confirmed ends.resends
    taken = among_taken setting (Resend s) confirmed ends.resends resends_calm (ends.each s there)

    here : List Item
    here = taken.at ++ Item.Row taken.row (Resend s) ∷ []

    then : List Item
    then = taken.at ++ piece setting taken.at taken.row (Resend s)

    rest : Calmly setting then journal
    rest = calm_through setting then resent journal taken.rest (subst (Calmly setting resent)
        (sym ends.written) (calm_steps setting resent ends.flush flush_calm))

    late : journal_next_message confirmed ≤ journal_next_message here
    late = omega (arith, (stays setting confirmed taken.at taken.first).numbers, next_grows)

  delivers : (n : ℕ) → journal_next_message confirmed ≤ n → IsTrue (was_delivered_in_journal journal n)
      → IsDeliveredIn setting confirmed journal n
  delivers n late is = rw by_last (find_delivery setting confirmed last n last_calm
      (by_first (was_delivered_in_journal confirmed n) refl) (rw by_last at is))
    where
      by_first : (b : Bool) → was_delivered_in_journal confirmed n ≡ b → was_delivered_in_journal confirmed n ≡ false
      by_first false e = e
      by_first true e =
          absurd (omega (arith, (caused_traced setting confirmed first_causes).delivered n e, late))

  pub ends_recovered : IsRecovered setting confirmed journal
  ends_recovered = record {
    flushed = flushed;
    causes = first_causes;
    ready = subst (AreReady setting) (sym by_all) (steps_ready setting (ends.first ++ last));
    asked = asked;
    delivers = delivers;
  }

  pub ends_updated : IsNetworkUpdated setting journal
  ends_updated = caught_updated setting journal ends_recovered.ready
      (recovered_caught setting confirmed journal ends_recovered ends.switches)

-- ---- answers

pub recovered_neighbours : (setting : Setting) (events : List Event) (journal : List Item)
    → IsNet setting.net → EndsInRecovery setting.net events → Answers setting events journal
    → ConvergenceNeighboursAgree setting journal
recovered_neighbours setting events journal net ends answers =
    ends_agree setting journal (ends_calmly setting events journal ends answers) net

pub recovered_updated : (setting : Setting) (events : List Event) (journal : List Item)
    → EndsInRecovery setting.net events → Answers setting events journal → IsNetworkUpdated setting journal
recovered_updated setting events journal ends answers =
    ends_updated setting journal (ends_calmly setting events journal ends answers)

-- ---- by the laws of the crates below

abbrev pub Agrees : (Setting → List Item → Type 0) → Setting → List Item → Type 0
Agrees Holds setting journal =
    IsNet setting.net → ConvergenceNeighboursAgree setting journal → Holds setting journal

abbrev pub ForwardsBy : Setting → List Item → Type 0
ForwardsBy setting journal = IsMachineSetting setting → HasConverged setting journal
    → IsNetworkUpdated setting journal → NetworkForwards setting journal

pub recovered_converged : ControlLawHoldsAtEnds (Agrees HasConverged)
    → ((setting : Setting) (events : List Event) (journal : List Item) → IsNet setting.net
    → EndsInRecovery setting.net events → Answers setting events journal
    → ConvergenceNeighboursAgree setting journal)
    → (setting : Setting) (events : List Event) (journal : List Item) → IsNet setting.net
    → EndsInRecovery setting.net events → Answers setting events journal
    → HasConverged setting journal
recovered_converged converge agree setting events journal net ends answers =
    converge.answered setting events journal answers net
    (agree setting events journal net ends answers)

pub calm_recovers : ControlLawHoldsAtEnds (Agrees HasConverged) → ControlLawHoldsAtEnds (Agrees ConvergedGetStuckApart)
    → PacketLawHoldsBetween ForwardsBy → (setting : Setting) (events : List Event) (journal : List Item)
    → IsMachineSetting setting → AreControlNetworkEvents setting events → Answers setting events journal
    → EndsCalmly setting journal → HasRecovered setting journal
calm_recovers converge part forward setting events journal is own answers ends = record {
  converged = converged;
  apart = part.answered setting events journal answers is.net agree;
  updated = ends_updated setting journal ends;
  forwards = forward.answered setting events journal own answers is converged
      (ends_updated setting journal ends);
} where
  agree : ConvergenceNeighboursAgree setting journal
  agree = ends_agree setting journal ends is.net

  converged : HasConverged setting journal
  converged = converge.answered setting events journal answers is.net agree

pub recovers : ControlLawHoldsAtEnds (Agrees HasConverged) → ControlLawHoldsAtEnds (Agrees ConvergedGetStuckApart)
    → PacketLawHoldsBetween ForwardsBy → (setting : Setting) (events : List Event) (journal : List Item)
    → IsMachineSetting setting → AreControlNetworkEvents setting events → EndsInRecovery setting.net events
    → Answers setting events journal → HasRecovered setting journal
recovers converge part forward setting events journal is own ends answers =
    calm_recovers converge part forward setting events journal is own answers
    (ends_calmly setting events journal ends answers)

-- ---- a flush delivers all

-- messages are numbered from 1
first_numbers : (setting : Setting) (journal : List Item)
    → JournalItemsHaveCauses (IsInOrder setting) [] journal → (n : ℕ) (message : Message)
    → journal_message_of journal n ≡ Some message → 1 ≤ n
first_numbers setting journal causes zero message sent =
    absurd (cc (sym (fact_on (IsInOrder setting) (λ now. journal_message_of now 0 ≡ None) next_none []
    journal causes (start_laws.message 0).message) ∙ sent))
  where
    next_none : AreKept (IsInOrder setting) (λ now. journal_message_of now 0 ≡ None)
    next_none now next both none = elim (cases_none (journal_message_of (now ++ next ∷ []) 0) refl) [
      | inl is ↦ is
      | inr found ↦ elim (by_number now next 0 found.0 found.1) [
        | inl new ↦ absurd (omega (arith, subst (MachineTakesNextNumber now) new both.second.first, next_first))
        | inr old ↦ let clash : None ≡ Some found.0 = sym none ∙ old in absurd cc
      ]
    ] where
      cases_none : (o : Option Message) → journal_message_of (now ++ next ∷ []) 0 ≡ o
          → (journal_message_of (now ++ next ∷ []) 0 ≡ None)
          ⊎ ((message : Message) × (journal_message_of (now ++ next ∷ []) 0 ≡ Some message))
      cases_none None e = inl e
      cases_none (Some message) e = inr (message, e)
first_numbers setting journal causes (suc n) message sent = omega arith

one_of : (journal : List Item) (n : ℕ) (message : Message) → AreTraced journal
    → next_waiting journal ≡ None → 1 ≤ n → journal_message_of journal n ≡ Some message
    → IsTrue (was_delivered_in_journal journal n) ⊎ IsTrue (is_forgotten_in_journal journal n)
one_of journal n message traced waiting first sent = by_forgotten (is_forgotten_in_journal journal n) refl
  where
    by_forgotten : (b : Bool) → is_forgotten_in_journal journal n ≡ b
        → IsTrue (was_delivered_in_journal journal n) ⊎ IsTrue (is_forgotten_in_journal journal n)
    by_forgotten true e = inr e
    by_forgotten false e = inl (sent_delivered journal n message waiting e sent first
        (traced.sent n message sent))

pub flushed_all : (setting : Setting) (events : List Event) (journal : List Item)
    → Answers setting (events ++ Flush ∷ []) journal → AllForwardingMessagesDelivered journal
flushed_all setting events journal answers n message sent =
    one_of journal n message (caused_traced setting journal causes) waiting
    (first_numbers setting journal causes n message sent) sent
  where
    causes : JournalItemsHaveCauses (IsInOrder setting) [] journal
    causes = subst (JournalItemsHaveCauses (IsInOrder setting) []) (sym answers.written)
        (steps_have (IsInOrder setting) setting (pieces_in_order setting) [] answers.steps tt)

    waiting : next_waiting journal ≡ None
    waiting = none_waits journal (subst (λ j. journal_next_delivery j ≡ None) (sym answers.written)
        (flush_ends setting 1 events [] answers.steps answers.allowed))
