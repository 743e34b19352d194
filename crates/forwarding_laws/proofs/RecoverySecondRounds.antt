-- Behind one more resend of each switch and a flush, each switch that is up was told what is
-- retired, and so holds the tables of the newest version alone.
use Rattle.std.proofs.Common.{[], ◌&&◌, ◌++◌, ◌<◌, ◌==◌, ◌||◌, ◌∙◌, ◌∷◌, ◌≡◌, ◌≢◌, ◌≤◌, ◌⊎◌, All, Bool, IsFalse, IsTrue, List, None, Option, Some, ap, arith, eq-eqb, false, inl, inr, length, ne_eqb, not, refl, rules, subst, sym, true, ℕ}
use Rattle.base.proofs.Exports.{⊤, All-from_recursion, All-weaker, cases_eq, list_any, nat_tests, recursion_from_All}
use Rattle.update_machine.specs.Exports.{Answers, AreMachineSteps, JournalBeginsAnswer, Body, CacheEntry, Collect, Drain, Event, JournalItemsHaveCauses, Header, Hop, IsMachinePlay, IsMachineSetting, Item, Packet, MachineSending, Setting, MachineStepOfRow, journal_after_steps, journal_boot_of, journal_cache_of, message_collects_version, machine_item_concerns_controller, machine_item_concerns_policies, journal_current_mark, heard, holds_version, machine_body_installs_version, is_first_boot_in_journal, is_member, is_machine_opening_body, is_over, is_up, journal_known_boot, journal_next_message, journal_next_packet, piece, journal_plan_at, machine_policy_at, journal_resent_by_controller, journal_resent_by_switch, journal_retired_mark, machine_sendings, serves, journal_stamp_of, machine_switches_of, machine_message_to_switch, journal_version_count}
use Rattle.update_machine.proofs.Exports.{controller_keeps, policies_keep}
use Rattle.convergence_laws.proofs.Exports.{AreKept, Both, IsIn, IsTraced, IsWork, Walks, all_in, caused_traced, each_in, each_of_in, have_both, have_weaker, heard_in_boot, hop_work, in_range, in_right, items_caused, moves, near_back, own_boot, packet_works, piece_has, rule_cases}
use Rattle.packet_laws.proofs.Exports.{IsNoRow, no_rows, play_begins}
use Rattle.net_file.specs.Exports.{IsNet}
use Rattle.convergence_laws.specs.Exports.{ConvergedGetStuckApart, HasConverged, IsNetworkUpdated, ConvergenceLeadsOverUsableNeighbours, ConvergenceReaches}
use Rattle.control_laws.specs.Exports.{AreControlNetworkEvents, HasControlItemCause, ControlLawHoldsAtEnds, ControlLawHoldsReached}
use Rattle.control_laws.proofs.Exports.{IsServing, member_of, pieces_have, serving_hold, steps_have, tables_planned}
use Rattle.packet_laws.specs.Exports.{PacketLawHoldsBetween, IsRightPacketCacheEntry, PacketRulesAreRight}
use Rattle.forwarding_laws.specs.Exports.{RolloutAccountsForAll, RolloutAccountedOrCutOff, ForwardingCachesNewestAlone, ForwardingDropsNothing, EndsInForwardingDrain, EndsInRecovery, EndsInTwoRecoveryRounds, HasRecovered, HoldNewestAlone, IsConnectedForwardingNetwork, RecoveryLeavesNothingOld, NoneIsStuck, NothingFailsInRollout, PlaysKeepForwarding}
use Rattle.forwarding_laws.proofs.RolloutDrains.{caches_above}
use Rattle.forwarding_laws.proofs.RecoveryCalmItems.{Stays, calm_causes, stays}
use Rattle.forwarding_laws.proofs.RecoveredControl.{IsAsked, IsRecovered}
use Rattle.forwarding_laws.proofs.RecoveredAdverts.{collect_resent}
use Rattle.forwarding_laws.proofs.RecoveryDeliveries.{IsSince, since_delivered}
use Rattle.forwarding_laws.proofs.RecoveredNetworks.{Agrees, ForwardsBy, calm_recovers, ends_calm, ends_recovered, ends_updated, recovered_updated}
use Rattle.forwarding_laws.proofs.RecoveryRows.{EndsCalmly, IsConfirmed, all_confirmed_on, ends_by, ends_calmly}

-- ---- what the steps of packets write once a packet entered: no switch, link, policy or mark
-- changes

-- items of packets that enter and move
abbrev pub RefinedPacketComes : Setting → List Item → Item → Type 0
RefinedPacketComes setting before (Item.Entered packet s header) = ⊤
RefinedPacketComes setting before next = IsWork setting before next

-- and the rows of their steps
abbrev pub Passes : Setting → List Item → Item → Type 0
Passes setting before (Item.Row row step) = IsTrue (moves step)
Passes setting before next = RefinedPacketComes setting before next

work_comes : (setting : Setting) (before : List Item) (next : Item) → IsWork setting before next
    → RefinedPacketComes setting before next
work_comes setting before (Item.Entered packet s header) work = tt
work_comes setting before next work = work

comes_passes : (setting : Setting) (before : List Item) (next : Item)
    → Both (RefinedPacketComes setting) (λ now other. IsNoRow other) before next → Passes setting before next
comes_passes setting before (Item.Row row step) both = absurd both.second
comes_passes setting before next both = both.first

-- the pieces of such steps
pub packet_passes : (setting : Setting) (before : List Item) (row s : ℕ) (header : Header)
    → JournalItemsHaveCauses (Passes setting) before (piece setting before row (Packet s header))
packet_passes setting before row s header = piece_has (Passes setting) setting before row
    (Packet s header) refl
    (have_weaker (Both (RefinedPacketComes setting) (λ now other. IsNoRow other)) (Passes setting)
    (comes_passes setting) _ _ (have_both (RefinedPacketComes setting) (λ now other. IsNoRow other) _ _
    (packet_works setting (RefinedPacketComes setting) (work_comes setting) (journal_next_packet before) s header _ tt)
    (no_rows setting before row (Packet s header))))

pub hop_passes : (setting : Setting) (before : List Item) (row i : ℕ)
    → JournalItemsHaveCauses (Passes setting) before (piece setting before row (Hop i))
hop_passes setting before row i = piece_has (Passes setting) setting before row (Hop i) refl
    (have_weaker (Both (RefinedPacketComes setting) (λ now other. IsNoRow other)) (Passes setting)
    (comes_passes setting) _ _ (have_both (RefinedPacketComes setting) (λ now other. IsNoRow other) _ _
    (have_weaker (IsWork setting) (RefinedPacketComes setting) (work_comes setting) _ _ (hop_work setting i _))
    (no_rows setting before row (Hop i))))

pub passes_walks : (setting : Setting) (before : List Item) (next : Item)
    → Passes setting before next → Walks setting before next
passes_walks setting before (Item.Stuck i s cause leg down) passes = passes
passes_walks setting before (Item.FoundDown i one two) passes = passes
passes_walks setting before _ passes = search rules

passes_controller : (setting : Setting) (before : List Item) (next : Item)
    → Passes setting before next → IsFalse (machine_item_concerns_controller before next)
passes_controller setting before (Item.Sent number message) passes =
    rule_cases before (λ to body. IsFalse (is_machine_opening_body body))
    (λ s version word rule action there ingress. refl) message.to message.body passes
passes_controller setting before _ passes = search rules

passes_policies : (setting : Setting) (before : List Item) (next : Item)
    → Passes setting before next → IsFalse (machine_item_concerns_policies before next)
passes_policies setting before (Item.Submitted file version) passes = absurd passes
passes_policies setting before _ passes = refl

-- marks and policies are as they were
pub record MarksStay (setting : Setting) (journal now : List Item) : Type 0 where
  pub current : journal_current_mark now ≡ journal_current_mark journal
  pub retired : journal_retired_mark now ≡ journal_retired_mark journal
  pub count : journal_version_count now ≡ journal_version_count journal
  pub policy : (v : ℕ) → machine_policy_at setting now v ≡ machine_policy_at setting journal v
  pub plan : (v : ℕ) → journal_plan_at setting now v ≡ journal_plan_at setting journal v

pub marks_stay : (setting : Setting) (journal : List Item)
    → AreKept (Passes setting) (MarksStay setting journal)
marks_stay setting journal before next passes stay =
    let controller = controller_keeps before (next ∷ [])
    (passes_controller setting before next passes, tt) in
    let policies = policies_keep before (next ∷ [])
    (passes_policies setting before next passes, tt) in record {
      current = controller.current ∙ stay.current;
      retired = controller.retired ∙ stay.retired;
      count = policies.count ∙ stay.count;
      policy = λ v. policies.policy setting v ∙ stay.policy v;
      plan = λ v. policies.plan setting v ∙ stay.plan v;
    }

-- ---- walks over usable links lead back: what their end doesn't reach, their beginning doesn't

turn_round : (setting : Setting) (journal : List Item) → IsNet setting.net → (there at target : ℕ)
    (rest : List ℕ) → ConvergenceLeadsOverUsableNeighbours setting journal there at rest
    → ConvergenceReaches setting journal at target → ConvergenceReaches setting journal there target
turn_round setting journal net there at target [] leads reaches = rw leads at reaches
turn_round setting journal net there at target (next ∷ rest) leads reaches =
    turn_round setting journal net there next target rest leads.1 (record {
      rest = at ∷ reaches.rest;
      leads = (near_back setting journal at next net leads.0, reaches.leads);
    })

pub apart_from : (setting : Setting) (journal : List Item) → IsNet setting.net → (from at : ℕ)
    (targets : List ℕ) → ConvergenceReaches setting journal from at
    → All (λ target. ConvergenceReaches setting journal at target → ⊥) targets
    → All (λ target. ConvergenceReaches setting journal from target → ⊥) targets
apart_from setting journal net from at targets reaches apart =
    All-weaker (λ target. ConvergenceReaches setting journal at target → ⊥)
    (λ target. ConvergenceReaches setting journal from target → ⊥) (λ target none there. none
    (turn_round setting journal net at from target reaches.rest reaches.leads there)) targets apart

-- ---- second rounds

-- what is true of each switch of the network is true of one
of_network : (P : ℕ → Type 0) (setting : Setting) (s : ℕ) → s < length setting.net.switches
    → All P (machine_switches_of setting) → P s
of_network P setting s there all = all_in P s (machine_switches_of setting) all
    (in_range s 0 (length setting.net.switches) (omega arith) (omega (arith, there)))

-- ---- what is collected isn't held

any_of_in : {X : Type 0} (test : X → Bool) (x : X) (xs : List X) → IsIn x xs → test x ≡ true
    → list_any test xs ≡ true
any_of_in test x [] is passes = absurd is
any_of_in {X = X} test x (y ∷ xs) is passes = by_place is (any_of_in test x xs) where
  by_test : (b c : Bool) → c ≡ true → (b || c) ≡ true
  by_test true c is = refl
  by_test false c is = is

  by_place : (y ≡ x) ⊎ IsIn x xs → (IsIn x xs → test x ≡ true → list_any test xs ≡ true)
      → (test y || list_any test xs) ≡ true
  by_place (inl here) rest = ap (λ b. b || list_any test xs) (ap test here ∙ passes)
  by_place (inr later) rest = by_test (test y) (list_any test xs) (rest later passes)

collected_gone : (journal : List Item) (s boot mark version : ℕ)
    → IsIn (Collect boot mark) (heard journal s) → version ≤ mark
    → holds_version journal s version ≡ false
unfolding holds_version
collected_gone journal s boot mark version told below =
    ap (λ b. (list_any (machine_body_installs_version version) (heard journal s)
    || (version == 1 && is_first_boot_in_journal journal s)) && not b) (any_of_in (message_collects_version version)
    (Collect boot mark) (heard journal s) told (grind (arith, nat_tests)))
    ∙ none (list_any (machine_body_installs_version version) (heard journal s)
    || (version == 1 && is_first_boot_in_journal journal s))
  where
    none : (b : Bool) → (b && false) ≡ false
    none true = refl
    none false = refl

module _ (setting : Setting) (before journal : List Item) (are : IsRecovered setting before journal)
    (early : IsNetworkUpdated setting before) (late : IsNetworkUpdated setting journal) where
  caused : JournalItemsHaveCauses (HasControlItemCause setting) [] journal
  caused = items_caused setting journal are.ready.causes

  -- what is retired is told to each switch that is up
  collect_sent : (s : ℕ) → s < length setting.net.switches → IsTrue (is_up journal s)
      → (journal_retired_mark journal == 0) ≡ false → IsSince (journal_next_message before) journal
      (machine_message_to_switch s (Collect (journal_boot_of journal s) (journal_retired_mark journal)))
  collect_sent s there up some = rw mark at (rw (own ∙ sym (left.boot s)) at (asked.sends _
      (in_right _ (journal_resent_by_switch setting here s) (journal_resent_by_controller setting here s)
      (collect_resent setting here s not_over member (ap (λ n. n == 0) mark ∙ some)))))
    where
      asked : IsAsked setting before journal s
      asked = are.asked s there

      here : List Item
      here = asked.here

      first : Stays before here
      first = stays setting before here asked.first

      left : Stays here journal
      left = stays setting here journal asked.rest

      mark : journal_retired_mark here ≡ journal_retired_mark journal
      mark = omega (
        arith,
        first.retired,
        left.retired,
        early.retired,
        late.retired,
        first.count,
        left.count,
      )

      is : IsServing here s
      is = (caused_traced setting here
          (calm_causes setting before here are.causes asked.first)).known.serving s

      serving : IsTrue (serves here s)
      serving = first.serving s
          (of_network (λ t. IsTrue (is_up before t) → IsTrue (serves before t)) setting s there
          early.serving (sym (first.up s) ∙ sym (left.up s) ∙ up))

      own : journal_known_boot here s ≡ journal_boot_of here s
      own = is.known serving

      not_over : IsFalse (is_over here s)
      not_over = is.not_over (sym (left.up s) ∙ up) own

      member : IsTrue (is_member here s)
      member = member_of here s not_over (is.opened serving)

  -- and it heard it
  collect_heard : (s : ℕ) → s < length setting.net.switches → IsTrue (is_up journal s)
      → (journal_retired_mark journal == 0) ≡ false
      → IsIn (Collect (journal_boot_of journal s) (journal_retired_mark journal)) (heard journal s)
  collect_heard s there up some = heard_in_boot journal s sent.number sent.boot body
      are.flushed.traced sent.is up boot (eq-eqb (journal_boot_of journal s) sent.boot (sym boot))
      (since_delivered setting before journal are.flushed sent.number sent.boot (machine_message_to_switch s body)
      sent.late sent.is)
    where
      body : Body
      body = Collect (journal_boot_of journal s) (journal_retired_mark journal)

      sent : IsSince (journal_next_message before) journal (machine_message_to_switch s body)
      sent = collect_sent s there up some

      x : MachineSending
      x = record { number = sent.number; message = machine_message_to_switch s body; boot = sent.boot }

      boot : sent.boot ≡ journal_boot_of journal s
      boot = own_boot journal s (journal_boot_of journal s) x
          (each_in (IsTraced journal) x (machine_sendings journal) are.flushed.traced.each sent.is).course
          refl refl

  pub hold_newest : HoldNewestAlone setting journal
  hold_newest s version there up = by_place (cases_eq version (journal_version_count journal)) where
    serving : IsTrue (serves journal s)
    serving = of_network (λ t. IsTrue (is_up journal t) → IsTrue (serves journal t)) setting s
        there late.serving up

    stamp : journal_stamp_of journal s ≡ journal_version_count journal
    stamp = of_network (λ t. IsTrue (is_up journal t) → journal_stamp_of journal t ≡ journal_version_count journal)
        setting s there late.stamps up

    by_held : version ≢ journal_version_count journal → (b : Bool) → holds_version journal s version ≡ b
        → holds_version journal s version ≡ false
    by_held apart false e = e
    by_held apart true e =
        let there_is = (tables_planned setting journal caused).held s version e in
        let below : version ≤ journal_retired_mark journal =
        omega (arith, there_is.0, there_is.1, apart, late.retired) in
        let some : (journal_retired_mark journal == 0) ≡ false =
        ne_eqb (journal_retired_mark journal) 0 (λ none. omega (arith, none, below, there_is.0)) in
        collected_gone journal s (journal_boot_of journal s) (journal_retired_mark journal) version
        (collect_heard s there up some) below

    by_place : (version ≡ journal_version_count journal) ⊎ (version ≢ journal_version_count journal)
        → holds_version journal s version ≡ (version == journal_version_count journal)
    by_place (inl same) = ap (holds_version journal s) (same ∙ sym stamp)
        ∙ (serving_hold setting journal caused s there serving).stamp
        ∙ sym (eq-eqb version (journal_version_count journal) same)
    by_place (inr apart) = by_held apart (holds_version journal s version) refl
        ∙ sym (ne_eqb version (journal_version_count journal) apart)

-- ---- caches

pub cache_newest : (setting : Setting) (journal : List Item)
    → JournalItemsHaveCauses (HasControlItemCause setting) [] journal → PacketRulesAreRight setting journal
    → IsNetworkUpdated setting journal → ForwardingCachesNewestAlone setting journal
cache_newest setting journal causes rules updated s there up =
    All-from_recursion (λ (entry : CacheEntry). entry.version ≡ journal_version_count journal)
    (journal_cache_of setting journal s).entries
    (each_of_in (λ (entry : CacheEntry). entry.version ≡ journal_version_count journal)
    (journal_cache_of setting journal s).entries
    (λ entry is. let above = (caches_above setting journal causes).each s entry is in
    let right = each_in (IsRightPacketCacheEntry setting journal) entry (journal_cache_of setting journal s).entries
    (recursion_from_All (IsRightPacketCacheEntry setting journal) (journal_cache_of setting journal s).entries
    (rules.cached s)) is in
    omega (arith, above, right.current, updated.current, stamp)))
  where
    stamp : journal_stamp_of journal s ≡ journal_version_count journal
    stamp = of_network (λ t. IsTrue (is_up journal t) → journal_stamp_of journal t ≡ journal_version_count journal)
        setting s there updated.stamps up

-- ---- after recovery and one more round nothing old is left

-- what holds of cache rules, of each journal of the network
abbrev pub RulesLaw : Type 0
RulesLaw = ControlLawHoldsReached (λ setting journal. IsMachineSetting setting → PacketRulesAreRight setting journal)

-- caches of an answer
answer_caches : RulesLaw → (setting : Setting) (events : List Event) (journal : List Item)
    → IsMachineSetting setting → AreControlNetworkEvents setting events → Answers setting events journal
    → IsNetworkUpdated setting journal → ForwardingCachesNewestAlone setting journal
answer_caches rules setting events journal is own answers updated = cache_newest setting journal
    causes (rules.answered setting events journal own answers is) updated
  where
    causes : JournalItemsHaveCauses (HasControlItemCause setting) [] journal
    causes = subst (JournalItemsHaveCauses (HasControlItemCause setting) []) (sym answers.written)
        (steps_have (HasControlItemCause setting) setting (pieces_have setting) [] answers.steps tt)

pub recovered_caches : RulesLaw → (setting : Setting) (events : List Event) (journal : List Item)
    → IsMachineSetting setting → AreControlNetworkEvents setting events → EndsInRecovery setting.net events
    → Answers setting events journal → ForwardingCachesNewestAlone setting journal
recovered_caches rules setting events journal is own ends answers = answer_caches rules setting
    events journal is own answers (recovered_updated setting events journal ends answers)

-- the second round is one that begins after recovery
two_calmly : (setting : Setting) (events : List Event) (journal : List Item)
    → (two : EndsInTwoRecoveryRounds setting.net events) → Answers setting events journal
    → (ends : EndsCalmly setting journal)
    × Answers setting two.first (journal_after_steps setting [] ends.first)
two_calmly setting events journal two answers =
    let found = ends_by setting two.first two.resends journal two.resent
    (subst (λ of. Answers setting of journal) two.ends answers) confirms in
    (found.0, record { steps = found.0.first; allowed = found.1; written = refl })
  where
    confirms : (steps : List MachineStepOfRow) → AreMachineSteps setting 1 two.first [] steps
        → All (IsConfirmed (journal_after_steps setting [] steps)) (machine_switches_of setting)
    confirms steps are =
        let middle : List Item = journal_after_steps setting [] steps in
        let first = ends_calmly setting two.first middle two.recovered
        (record { steps = steps; allowed = are; written = refl }) in
        all_confirmed_on setting (journal_after_steps setting [] first.first) middle
        (ends_calm setting middle first) first.switches

pub nothing_old : ControlLawHoldsAtEnds (Agrees HasConverged) → ControlLawHoldsAtEnds (Agrees ConvergedGetStuckApart)
    → PacketLawHoldsBetween ForwardsBy → RulesLaw → (setting : Setting) (events : List Event)
    (journal : List Item) → IsMachineSetting setting → AreControlNetworkEvents setting events
    → EndsInTwoRecoveryRounds setting.net events → Answers setting events journal
    → RecoveryLeavesNothingOld setting journal
nothing_old converge part forward rules setting events journal is own two answers = record {
  recovered = calm_recovers converge part forward setting events journal is own answers ends;
  tables = hold_newest setting (journal_after_steps setting [] ends.first) journal
      (ends_recovered setting journal ends) (recovered_updated setting two.first
      (journal_after_steps setting [] ends.first) two.recovered found.1) updated;
  caches = answer_caches rules setting events journal is own answers updated;
} where
  found : (ends : EndsCalmly setting journal)
      × Answers setting two.first (journal_after_steps setting [] ends.first)
  found = two_calmly setting events journal two answers

  ends : EndsCalmly setting journal
  ends = found.0

  updated : IsNetworkUpdated setting journal
  updated = ends_updated setting journal ends

-- ---- the laws of recovery and of rollouts, of plays

-- a play that didn't stop full answers its events
play_answers : (setting : Setting) (events : List Event) (journal : List Item) (full : Option ℕ)
    → IsMachinePlay setting events journal full → full ≡ None → Answers setting events journal
play_answers setting events journal None play whole = play.answers
play_answers setting events journal (Some row) play whole = absurd cc

-- where what holds of schedules that end in a drain is asked of this one
drained : (Holds : List Event → Type 0) (events : List Event) → EndsInForwardingDrain events
    → ((front : List Event) → Holds (front ++ Drain ∷ [])) → Holds events
drained Holds events ends hold = subst Holds (sym ends.1) (hold ends.0)

pub keep_working : ((setting : Setting) (events : List Event) (journal : List Item)
    → IsMachineSetting setting → AreControlNetworkEvents setting events → EndsInRecovery setting.net events
    → Answers setting events journal → HasRecovered setting journal)
    → ((setting : Setting) (events : List Event) (journal : List Item) → IsMachineSetting setting
    → AreControlNetworkEvents setting events → EndsInTwoRecoveryRounds setting.net events → Answers setting events journal
    → RecoveryLeavesNothingOld setting journal)
    → ((setting : Setting) (events : List Event) (journal : List Item) → IsMachineSetting setting
    → AreControlNetworkEvents setting events → NothingFailsInRollout events → JournalBeginsAnswer setting events journal
    → JournalItemsHaveCauses (ForwardingDropsNothing setting) [] journal)
    → ((setting : Setting) (events : List Event) (journal : List Item) → IsMachineSetting setting
    → AreControlNetworkEvents setting events → NothingFailsInRollout events → IsConnectedForwardingNetwork setting.net
    → JournalBeginsAnswer setting events journal → NoneIsStuck journal)
    → ((setting : Setting) (events : List Event) (journal : List Item) → IsMachineSetting setting
    → AreControlNetworkEvents setting (events ++ Drain ∷ []) → NothingFailsInRollout (events ++ Drain ∷ [])
    → Answers setting (events ++ Drain ∷ []) journal → RolloutAccountedOrCutOff setting journal)
    → ((setting : Setting) (events : List Event) (journal : List Item) → IsMachineSetting setting
    → AreControlNetworkEvents setting (events ++ Drain ∷ []) → NothingFailsInRollout (events ++ Drain ∷ []) → IsConnectedForwardingNetwork
    setting.net → Answers setting (events ++ Drain ∷ []) journal → RolloutAccountsForAll setting journal)
    → PlaysKeepForwarding
keep_working recover renew drop stuck or_cut_off account setting events journal full is own play = record {
  recovers = λ whole ends. recover setting events journal is own ends (answers whole);
  renews = λ whole ends. renew setting events journal is own ends (answers whole);
  drops_nothing = λ nothing. drop setting events journal is own nothing begins;
  leaves_none_stuck = λ nothing connected.
      stuck setting events journal is own nothing connected begins;
  accounts_or_cut_off = λ whole ends nothing. drained (λ asked. AreControlNetworkEvents setting asked
      → NothingFailsInRollout asked → Answers setting asked journal → RolloutAccountedOrCutOff setting journal)
      events ends
      (λ front mine safe answered. or_cut_off setting front journal is mine safe answered) own
      nothing (answers whole);
  accounts_for_all = λ whole ends nothing connected. drained (λ asked. AreControlNetworkEvents setting asked
      → NothingFailsInRollout asked → Answers setting asked journal → RolloutAccountsForAll setting journal) events
      ends
      (λ front mine safe answered. account setting front journal is mine safe connected answered)
      own nothing (answers whole);
} where
  begins : JournalBeginsAnswer setting events journal
  begins = play_begins setting events journal full play

  answers : full ≡ None → Answers setting events journal
  answers whole = play_answers setting events journal full play whole
