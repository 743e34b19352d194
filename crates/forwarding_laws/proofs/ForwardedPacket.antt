-- A packet that enters behind a quiet journal is followed over its step and the hops of a drain,
-- and has ended then.
use Rattle.std.proofs.Common.{[], ◌++◌, ◌+◌, ◌-◌, ◌<◌, ◌==◌, ◌∙◌, ◌∷◌, ◌≡◌, ◌≤◌, ◌⊎◌, Contains, IsTrue, List, None, Option, Some, ap, append_assoc, arith, eq-eqb, false, find, inl, inr, length, option_map, refl, subst, sym, take, true, ℕ}
use Rattle.base.proofs.Exports.{All-contains, find_none, get_or-range_with_len, length-range_with_len, range_with_len}
use Rattle.five_tuple.specs.Exports.{IsHeader}
use Rattle.update_machine.specs.Exports.{AreAllMachineEventSteps, Decision, JournalItemsHaveCauses, Header, Hop, IsQuietMachineJournal, IsMachineSetting, Item, Packet, Row, Setting, Step, MachineStepOfRow, journal_after_steps, machine_count_of, journal_decision_of, machine_item_gives_header, journal_packet_header, is_machine_packet_entry, is_up, journal_items_then, machine_lookup_items, journal_next_hop, journal_next_packet, next_travelling, machine_packet_items, journal_packets, piece, machine_policy_at, serves, machine_switches_of, travels_in_journal, journal_version_count}
use Rattle.policy_rules.specs.Exports.{IsFirstPolicyMatch, scan}
use Rattle.policy_rules.proofs.PolicyRulesCallerLemmas.{first_match-scan}
use Rattle.steps.specs.Exports.{StepSwitchExists}
use Rattle.update_machine.proofs.Exports.{count_of_append, last_given_append, switch_keeps}
use Rattle.convergence_laws.proofs.Exports.{Behind, Both, ControlLawHoldsAtEnds, NamesOwn, fact_on, have_both, have_rest, moves, stays_itself, stays_on}
use Rattle.convergence_laws.specs.Exports.{ConvergedGetStuckApart, HasConverged, IsNetworkUpdated}
use Rattle.packet_laws.specs.Exports.{AllPacketFactsKept, PacketLawHoldsBetween, IsUnknownPacket, PacketStrongCause, packet_decision_hit, packet_steps_played, packet_facts_of}
use Rattle.packet_laws.proofs.Exports.{IsSettled, IsWayItem, Past, all_kept, all_right, between, decision_out, found_in, kept_before, numbered, packet_more, piece_settled, standing_more, strongly_caused, travels_more, ways_of_all}
use Rattle.forwarding_laws.specs.Exports.{ForwardingFindsNoTarget, HasNetworkComeToRest, IsForwardedByNewest, NetworkForwards}
use Rattle.forwarding_laws.proofs.ForwardingFollowed.{Fate, Follows, IsEnded, IsFollowed, follows_on, mark_more, step_more, undecided_by}
use Rattle.forwarding_laws.proofs.RecoverySecondRounds.{MarksStay, Passes, hop_passes, marks_stay, packet_passes}
use Rattle.net_file.specs.Exports.{IsNet}

-- ---- items of a settled journal

module _ (setting : Setting) (is : IsMachineSetting setting) where
  -- the last items of a settled journal are followed, if they are those of packets
  are_followed : (before items : List Item) → IsSettled setting (before ++ items)
      → JournalItemsHaveCauses (Passes setting) before items
      → JournalItemsHaveCauses (IsFollowed setting) before items
  are_followed before items settled passes = have_both (Passes setting)
      (Both (Behind (Past (IsWayItem setting)) (AllPacketFactsKept setting)) (PacketStrongCause setting)) before
      items passes
      (have_both (Behind (Past (IsWayItem setting)) (AllPacketFactsKept setting)) (PacketStrongCause setting) before
      items (have_rest (Behind (Past (IsWayItem setting)) (AllPacketFactsKept setting)) [] before items
      (kept_before setting (before ++ items) is settled.causes)) (have_rest (PacketStrongCause setting) []
      before items (strongly_caused setting (before ++ items) is settled.causes)))

-- ---- numbers of a range

in_range : (low n x : ℕ) → low ≤ x → x < low + n → Contains (range_with_len low n) x
in_range low n x above below = let place : low + (x - low) ≡ x = omega (arith, above) in (
  x - low,
  omega (arith, length-range_with_len low n, above, below),
  get_or-range_with_len low n (x - low) x (omega (arith, above, below)) ∙ place,
)

unmapped : (o : Option ℕ) → option_map Hop o ≡ None → o ≡ None
unmapped None none = refl
unmapped (Some k) none = absurd cc

-- behind all hops of a drain no packet travels
none_travels : (now : List Item) (i : ℕ) → journal_next_hop now ≡ None → 1 ≤ i → i < journal_next_packet now
    → travels_in_journal now i ≡ false
unfolding journal_next_packet next_travelling
none_travels now i none above below = All-contains (λ k. travels_in_journal now k ≡ false) (journal_packets now) i
    (find_none (travels_in_journal now) (journal_packets now) (unmapped (find (travels_in_journal now) (journal_packets now)) none))
    (in_range 1 (machine_count_of is_machine_packet_entry now) i above (omega (arith, below)))

header_by : (before : List Item) (next : Item) (i : ℕ) (header : Header)
    → machine_item_gives_header i next ≡ Some header → journal_packet_header (before ++ next ∷ []) i ≡ Some header
unfolding journal_packet_header
header_by before next i header gives =
    cc (last_given_append (machine_item_gives_header i) before (next ∷ []), gives)

number_more : (before : List Item) (i s : ℕ) (header : Header)
    → journal_next_packet (before ++ Item.Entered i s header ∷ []) ≡ journal_next_packet before + 1
unfolding journal_next_packet
number_more before i s header =
    rw (count_of_append is_machine_packet_entry before (Item.Entered i s header ∷ [])) (omega arith)

serves_there : (setting : Setting) (journal : List Item) (s : ℕ) → IsNetworkUpdated setting journal
    → StepSwitchExists setting.net s → IsTrue (is_up journal s) → IsTrue (serves journal s)
serves_there setting journal s updated there up =
    All-contains (λ k. IsTrue (is_up journal k) → IsTrue (serves journal k)) (machine_switches_of setting) s
    updated.serving (in_range 0 (length setting.net.switches) s (omega arith) (omega arith)) up

-- ---- as it enters

module _ (setting : Setting) (journal : List Item) (row s : ℕ) (header : Header) where
  abbrev i : ℕ
  i = journal_next_packet journal

  abbrev coming : Item
  coming = Item.Row row (Packet s header)

  abbrev entering : Item
  entering = Item.Entered i s header

  abbrev here : List Item
  here = journal ++ coming ∷ []

  abbrev begun : List Item
  begun = here ++ entering ∷ []

  abbrev lookups : List Item
  lookups = machine_lookup_items setting i s begun

  own : (i == i) ≡ true
  own = eq-eqb i i refl

  marks_here : MarksStay setting journal here
  marks_here = marks_stay setting journal journal coming refl (record {
    current = refl;
    retired = refl;
    count = refl;
    policy = λ v. refl;
    plan = λ v. refl;
  })

  started : IsMachineSetting setting → IsSettled setting journal → Follows setting journal s i header begun
  started is settled =
      let new : IsUnknownPacket (packet_facts_of journal i) =
      (all_kept setting journal is settled.causes).unknown i (omega arith) in record {
        stays = stays_on setting journal is.net i here entering tt (stays_on setting journal is.net
            i journal coming tt (stays_itself setting journal i (found_in journal i ∙ new.found)));
        marks = marks_stay setting journal here entering tt marks_here;
        step = λ step present. let same : Some (Packet s header) ≡ Some step =
            sym (step_more here entering ∙ step_more journal coming) ∙ present in
            let is_packet_row : Packet s header ≡ step = cc in
            subst (λ x. IsTrue (moves x)) is_packet_row refl;
        number = omega (arith, packet_more journal coming, number_more here i s header);
        entered = header_by here entering i header (rw own refl);
        mark = mark_more here entering i ∙ rw own marks_here.retired;
        at = λ t stands. let same : Some s ≡ Some t =
            sym (standing_more here entering i ∙ rw own refl) ∙ stands in
            let at_once : s ≡ t = cc in record { rest = []; leads = at_once };
        version = λ decision decided.
            let none : journal_decision_of journal i ≡ None = decision_out journal i None new.decision in
            let same : None ≡ Some decision =
            sym (undecided_by here entering i refl ∙ undecided_by journal coming i refl ∙ none)
            ∙ decided in
            absurd cc;
        fate = inl (travels_more here entering i ∙ rw own refl);
      }

  written : IsTrue (serves journal s)
      → piece setting journal row (Packet s header) ≡ coming ∷ entering ∷ lookups
  unfolding piece machine_packet_items
  written serving =
      let still : serves here s ≡ true =
      (switch_keeps setting s journal (coming ∷ []) (refl, tt)).serving ∙ serving in
      ap (λ b. coming ∷ (elim b [
        | false ↦ Item.Closed i s ∷ []
        | true ↦ journal_items_then (entering ∷ []) (machine_lookup_items setting i s) here
      ])) still

  joined : begun ++ lookups ≡ journal ++ (coming ∷ entering ∷ lookups)
  joined = append_assoc here (entering ∷ []) lookups
      ∙ append_assoc journal (coming ∷ []) (entering ∷ lookups)

  -- behind its step
  followed_in : IsMachineSetting setting → HasConverged setting journal → IsNetworkUpdated setting journal
      → IsSettled setting journal → StepSwitchExists setting.net s → IsHeader header
      → IsTrue (is_up journal s)
      → Follows setting journal s i header (journal ++ piece setting journal row (Packet s header))
  followed_in is converged updated settled there sound up =
      let is_written = written (serves_there setting journal s updated there up) in
      let whole = joined ∙ ap (λ items. journal ++ items) (sym is_written) in
      let after = subst (IsSettled setting) (sym whole)
      (piece_settled setting journal row (Packet s header) is (there, sound) settled) in
      subst (Follows setting journal s i header) whole
      (fact_on (IsFollowed setting) (Follows setting journal s i header) (follows_on setting journal
      s i header is converged updated) begun lookups (are_followed setting is begun lookups after
      (rw is_written at (packet_passes setting journal row s header)).1.1) (started is settled))

-- ---- hops

record IsHop (step : Step) : Type 0 where
  packet : ℕ
  hops : step ≡ Hop packet

is_hop : (o : Option ℕ) (step : Step) → option_map Hop o ≡ Some step → IsHop step
is_hop None step is = absurd cc
is_hop (Some k) step is = record { packet = k; hops = cc is }

-- the packet is followed, and nothing travels
record IsDrained (setting : Setting) (journal : List Item) (s i : ℕ) (header : Header)
    (after : List Item) : Type 0 where
  follows : Follows setting journal s i header after
  settled : IsSettled setting after
  none : journal_next_hop after ≡ None

drained : (setting : Setting) (journal : List Item) (s i : ℕ) (header : Header) (later : ℕ)
    (before : List Item) (hops : List MachineStepOfRow) → IsMachineSetting setting
    → HasConverged setting journal → IsNetworkUpdated setting journal
    → AreAllMachineEventSteps setting journal_next_hop later before hops → IsSettled setting before
    → Follows setting journal s i header before
    → IsDrained setting journal s i header (journal_after_steps setting before hops)
drained setting journal s i header later before [] is converged updated none settled follows =
    record { follows = follows; settled = settled; none = none }
drained setting journal s i header later before (first ∷ hops) is converged updated all settled
    follows =
    let taken : Step = first.step in
    let items : List Item = piece setting before first.row taken in
    let hop : IsHop taken = is_hop (next_travelling before) taken all.1 in
    let after = piece_settled setting before first.row taken is
    (subst (NamesOwn setting) (sym hop.hops) tt) settled in
    drained setting journal s i header later (before ++ items) hops is converged updated all.2 after
    (fact_on (IsFollowed setting) (Follows setting journal s i header)
    (follows_on setting journal s i header is converged updated) before items (are_followed setting
    is before items after (rw hop.hops (hop_passes setting before first.row hop.packet))) follows)

-- ---- its end

ended_so : (setting : Setting) (journal : List Item) (s i : ℕ) (header : Header)
    (after : List Item) → IsMachineSetting setting → IsDrained setting journal s i header after
    → IsForwardedByNewest setting journal after i s header ⊎ ForwardingFindsNoTarget setting journal after i s header
ended_so setting journal s i header after is drained = by drained.follows.fate where
  forwarded : IsEnded setting journal s i after → IsForwardedByNewest setting journal after i s header
  forwarded ended =
      let decision : Decision = ended.decision in
      let newest = drained.follows.version decision ended.decided in
      let rows : List Row = machine_policy_at setting journal (journal_version_count journal) in
      let first : scan rows header ≡ packet_decision_hit decision =
      ap (λ v. scan (machine_policy_at setting journal v) header) (sym newest)
      ∙ ap (λ these. scan these header) (sym (drained.follows.marks.policy decision.version))
      ∙ (all_right setting after is drained.settled.causes i header decision
      drained.follows.entered ended.decided).first_match in record {
        act = decision.action;
        decided = record {
          rule = decision.rule;
          decided = ended.decided ∙ ap (λ v. Some (record {
            version = v;
            rule = decision.rule;
            action = decision.action;
          })) newest;
          first_match = subst (IsFirstPolicyMatch rows header) first (first_match-scan rows header);
        };
        ends = ended.ends;
      }

  by : Fate setting journal s i header after → IsForwardedByNewest setting journal after i s header
      ⊎ ForwardingFindsNoTarget setting journal after i s header
  by (inl on) =
      let own = numbered setting after (ways_of_all setting [] after drained.settled.causes) i on in
      absurd (cc (none_travels after i drained.none own.0 own.1))
  by (inr ended) = elim ended.how [ inl decided ↦ inl (forwarded decided) | inr finds ↦ inr finds ]

pub forwards : (setting : Setting) (journal : List Item) → IsMachineSetting setting
    → IsSettled setting journal → HasConverged setting journal → IsNetworkUpdated setting journal
    → NetworkForwards setting journal
forwards setting journal is settled converged updated row later s header hops there sound up all =
    let entered : List Item = journal ++ piece setting journal row (Packet s header) in
    ended_so setting journal s (journal_next_packet journal) header (journal_after_steps setting entered hops) is
    (drained setting journal s (journal_next_packet journal) header later entered hops is converged updated
    all (piece_settled setting journal row (Packet s header) is (there, sound) settled)
    (followed_in setting journal row s header is converged updated settled there sound up))

-- ---- what holds of quiet journals between steps, by the laws that say it one by one

-- what holds where steps end holds between them
ends_between : (Holds : Setting → List Item → Type 0) → ControlLawHoldsAtEnds Holds → PacketLawHoldsBetween Holds
ends_between Holds law = record {
  reached = λ setting journal at. rw at.written (law.stepped setting at.steps);
  answered = λ setting events journal own answers. law.answered setting events journal answers;
  so_far = λ setting events journal own answers. law.so_far setting events journal answers;
  played = λ setting events journal full own play n.
      law.stepped setting (take n (packet_steps_played setting events journal full play));
}

-- and so does what follows from two of them
both_between : (One Other Holds : Setting → List Item → Type 0)
    → ((setting : Setting) (journal : List Item) → One setting journal → Other setting journal
    → Holds setting journal) → PacketLawHoldsBetween One → PacketLawHoldsBetween Other → PacketLawHoldsBetween Holds
both_between One Other Holds follow one other = record {
  reached = λ setting journal at. follow setting journal (one.reached setting journal at)
      (other.reached setting journal at);
  answered = λ setting events journal own answers. follow setting journal
      (one.answered setting events journal own answers)
      (other.answered setting events journal own answers);
  so_far = λ setting events journal own answers. follow setting journal
      (one.so_far setting events journal own answers)
      (other.so_far setting events journal own answers);
  played = λ setting events journal full own play n. follow setting _
      (one.played setting events journal full own play n)
      (other.played setting events journal full own play n);
}

-- ---- journals of networks that have converged

abbrev ForwardsBy : Setting → List Item → Type 0
ForwardsBy setting journal = IsMachineSetting setting → HasConverged setting journal
    → IsNetworkUpdated setting journal → NetworkForwards setting journal

pub converged_forward : PacketLawHoldsBetween ForwardsBy
converged_forward = between (λ setting journal. HasConverged setting journal
    → IsNetworkUpdated setting journal → NetworkForwards setting journal) (λ setting journal is settled
    converged updated. forwards setting journal is settled converged updated)

-- ---- quiet journals

abbrev Converges : Setting → List Item → Type 0
Converges setting journal =
    IsNet setting.net → IsQuietMachineJournal setting journal → HasConverged setting journal

abbrev Updates : Setting → List Item → Type 0
Updates setting journal = IsQuietMachineJournal setting journal → IsNetworkUpdated setting journal

abbrev Parts : Setting → List Item → Type 0
Parts setting journal = IsNet setting.net → IsQuietMachineJournal setting journal → ConvergedGetStuckApart setting journal

abbrev Forwards : Setting → List Item → Type 0
Forwards setting journal = IsMachineSetting setting → IsQuietMachineJournal setting journal → NetworkForwards setting journal

abbrev Rests : Setting → List Item → Type 0
Rests setting journal = IsMachineSetting setting → IsQuietMachineJournal setting journal → HasNetworkComeToRest setting journal

abbrev Known : Setting → List Item → Type 0
Known setting journal = Converges setting journal × Updates setting journal

known_between : ControlLawHoldsAtEnds Converges → ControlLawHoldsAtEnds Updates → PacketLawHoldsBetween Known
known_between converge update =
    both_between Converges Updates Known (λ setting journal converges updates. (converges, updates))
    (ends_between Converges converge) (ends_between Updates update)

pub quiet_forwards : ControlLawHoldsAtEnds Converges → ControlLawHoldsAtEnds Updates → PacketLawHoldsBetween ForwardsBy
    → PacketLawHoldsBetween Forwards
quiet_forwards converge update forward = both_between ForwardsBy Known Forwards
    (λ setting journal forwards known is quiet. forwards is (known.0 is.net quiet) (known.1 quiet))
    forward (known_between converge update)

pub comes_to_rest : ControlLawHoldsAtEnds Converges → ControlLawHoldsAtEnds Parts → ControlLawHoldsAtEnds Updates
    → PacketLawHoldsBetween Forwards → PacketLawHoldsBetween Rests
comes_to_rest converge part update forward =
    both_between Known (λ setting journal. Parts setting journal × Forwards setting journal) Rests
    (λ setting journal known others is quiet. record {
      quiet = quiet;
      converged = known.0 is.net quiet;
      apart = others.0 is.net quiet;
      updated = known.1 quiet;
      forwards = others.1 is quiet;
    })
    (known_between converge update)
    (both_between Parts Forwards
    (λ setting journal. Parts setting journal × Forwards setting journal)
    (λ setting journal parts forwards. (parts, forwards)) (ends_between Parts part) forward)
