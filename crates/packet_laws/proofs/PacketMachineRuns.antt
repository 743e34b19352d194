-- A journal whose items have their causes is a run of the machine.
use Rattle.std.proofs.Common.{[], if◌then◌else◌, ◌++◌, ◌<◌, ◌∙◌, ◌∷◌, ◌≡◌, ◌≢◌, ◌≤◌, Bool, IsTrue, List, None, Option, Some, ap, arith, eq-eqb, false, ne_eqb, option_map, refl, subst, sym, true, ℕ, rules}
use Rattle.base.proofs.Exports.{cases_eq, some_same, ⊤}
use Rattle.update_machine.specs.Exports.{Action, Decision, Dropped, MachinePacketEnd, MachineEndsPacket, JournalItemsHaveCauses, Header, Hit, How, IsMachineRun, IsMachineSetting, Item, Leaving, LeftBy, Lost, Machine, MachinePacketMayEnd, JournalPoliciesKeep, Row, MachineRuns, Setting, Stuck, MachineTakes, first_machine, machine_item_gives_retired, journal_packet_header, is_journal_submission, journal_next_packet, machine_policy_at, journal_retired_mark, travels_in_journal, journal_version_count, machine_with_packet}
use Rattle.policy_rules.specs.Exports.{scan}
use Rattle.policy_rules.proofs.PolicyRulesCallerLemmas.{first_match-scan}
use Rattle.update_machine.specs.Machine.{Packet}
use Rattle.update_machine.proofs.Exports.{ArePolicies, have_append, policies_begin, policies_keep, policies_stay, policy_there, start_laws, takes_version}
use Rattle.control_laws.specs.Exports.{HasControlItemCause, ControlRetirementHasCause, ControlSubmissionHasCause}
use Rattle.control_laws.proofs.Exports.{Behind, bounded, caused_numbered, retired_more}
use Rattle.packet_laws.specs.Exports.{AllPacketFactsKept, IsPacketDecided, IsUnknownPacket, HasPacketItemCause, PacketFacts, packet_facts_after, is_item_of_entered_packet, packet_stage_of, packet_facts_of}
use Rattle.packet_laws.proofs.PacketsAllKept.{Before, facts_grow, facts_named, facts_other, kept_before, known_before, knows, other_number}
use Rattle.packet_laws.proofs.PacketHeaderLookups.{IsHere, decision_in, here_of, travels_in}
use Rattle.packet_laws.proofs.PacketEnds.{leaves_rightly}
use Rattle.packet_laws.proofs.KeptPacketFacts.{Knows, decided_now, stage_when, undecided_of}
use Rattle.packet_laws.proofs.PacketsAtRest.{IsWayItem, Past, switches_of_all}

-- ---- what the machine knows of a packet, by its facts

abbrev hit_in : Decision → Hit
hit_in decision = record { rule = decision.rule; action = decision.action }

record IsSeen (packet : Packet) (facts : PacketFacts) : Type 0 where
  header : facts.header ≡ Some packet.header
  mark : packet.entry_mark ≡ facts.mark
  decision : packet.decision ≡ option_map hit_in facts.decision
  end : IsTrue facts.travels → packet.end ≡ None

abbrev SeenAs : Option Packet → PacketFacts → Type 0
SeenAs None facts = facts.header ≡ None
SeenAs (Some packet) facts = IsSeen packet facts

-- the machine has the policies of all versions, the retired mark and the packets
record Matches (setting : Setting) (machine : Machine) (journal : List Item) : Type 0 where
  policies : ArePolicies setting machine.policies journal
  mark : machine.mark ≡ journal_retired_mark journal
  packets : (i : ℕ) → SeenAs (machine.packets i) (packet_facts_of journal i)

known : (o : Option Packet) (facts : PacketFacts) (header : Header) → SeenAs o facts
    → facts.header ≡ Some header → (packet : Packet) × (o ≡ Some packet) × IsSeen packet facts
known o facts header seen e = search rules

not_known : (o : Option Packet) (facts : PacketFacts) → SeenAs o facts → facts.header ≡ None
    → o ≡ None
not_known o facts seen e = search rules

-- facts that are the same to the machine
seen_same : (o : Option Packet) (one other : PacketFacts) → other.header ≡ one.header
    → other.mark ≡ one.mark → other.decision ≡ one.decision → other.travels ≡ one.travels →
    SeenAs o one → SeenAs o other
seen_same o one other h m d t seen = search rules

-- ---- items that the machine doesn't see

-- an item that leaves its packet's header, decision and travelling as they were, and no move
abbrev IsUnseen : Item → Type 0
IsUnseen (Item.Submitted file version) = ⊥
IsUnseen (Item.Retired version) = ⊥
IsUnseen (Item.Entered packet switch header) = ⊥
IsUnseen (Item.Decided packet version rule action how) = ⊥
IsUnseen (Item.Dropped packet) = ⊥
IsUnseen (Item.Left packet port leaving) = ⊥
IsUnseen (Item.Lost packet) = ⊥
IsUnseen (Item.Stuck packet switch cause leg down) = ⊥
IsUnseen _ = ⊤

unseen_facts : (mark : ℕ) (item : Item) (facts : PacketFacts) (o : Option Packet) → IsUnseen item
    → SeenAs o facts → SeenAs o (packet_facts_after mark item facts)
unseen_facts mark item facts o is seen = search rules

no_submission : (next : Item) → IsUnseen next → is_journal_submission next ≡ false
no_submission next is = search rules

no_retirement : (next : Item) → IsUnseen next → machine_item_gives_retired next ≡ None
no_retirement next is = search rules

unseen_matches : (setting : Setting) (machine : Machine) (journal : List Item) (next : Item)
    → IsUnseen next → Matches setting machine journal
    → Matches setting machine (journal ++ next ∷ [])
unseen_matches setting machine journal next is matches = record {
  policies = policies_stay setting machine.policies journal _ keep matches.policies;
  mark = matches.mark ∙ sym (rw (retired_more journal next, no_retirement next is) refl);
  packets = λ i. rw (facts_grow i journal next) (by_name i (is_item_of_entered_packet i next));
} where
  keep : JournalPoliciesKeep journal (journal ++ next ∷ [])
  keep = policies_keep journal (next ∷ []) (no_submission next is, tt)

  by_name : (i : ℕ) (b : Bool)
      → SeenAs (machine.packets i)
      (if b then packet_facts_after (journal_retired_mark journal) next (packet_facts_of journal i) else packet_facts_of journal i)
  by_name i true = unseen_facts _ next _ (machine.packets i) is (matches.packets i)
  by_name i false = matches.packets i

-- ---- items that change a packet

-- an item that moves no mark and submits no policy
record KeepsMarks (setting : Setting) (journal after : List Item) : Type 0 where
  keep : JournalPoliciesKeep journal after
  mark : journal_retired_mark after ≡ journal_retired_mark journal

keeps_marks : (setting : Setting) (journal : List Item) (next : Item) → is_journal_submission next ≡ false
    → machine_item_gives_retired next ≡ None → KeepsMarks setting journal (journal ++ next ∷ [])
keeps_marks setting journal next submits retires = record {
  keep = policies_keep journal (next ∷ []) (submits, tt);
  mark = rw (retired_more journal next, retires) refl;
}

changed_matches : (setting : Setting) (machine : Machine) (journal : List Item)
    (next : Item) (i : ℕ) (packet : Packet) → Matches setting machine journal → KeepsMarks setting
    journal (journal ++ next ∷ []) → ((j : ℕ) → j ≢ i → is_item_of_entered_packet j next ≡ false) → IsSeen packet
    (packet_facts_of (journal ++ next ∷ []) i)
    → Matches setting (machine_with_packet machine i packet) (journal ++ next ∷ [])
changed_matches setting machine journal next i packet matches keeps others seen =
    search (rules, policies_stay, cases_eq, eq-eqb, ne_eqb, facts_other)

-- what the machine makes of an item, and that it still knows the packets as the journal does
record Goes (setting : Setting) (machine : Machine) (journal : List Item) (next : Item) : Type 0
  where
    new : Machine
    takes : MachineTakes setting machine next new
    matches : Matches setting new (journal ++ next ∷ [])

ended_seen : (packet : Packet) (facts after : PacketFacts) (end : MachinePacketEnd)
    → after ≡ record facts { travels = false } → IsSeen packet facts
    → IsSeen (record packet { end = Some end }) after
ended_seen packet facts after end e seen = search rules

action_of : (packet : Packet) (facts : PacketFacts) (decision : Decision) → IsSeen packet facts
    → facts.decision ≡ Some decision → option_map (λ (h : Hit). h.action) packet.decision ≡ Some
    decision.action
action_of packet facts decision seen decided = search rules

-- ---- ends

goes_end : (setting : Setting) (machine : Machine) (journal : List Item) (next : Item) (i : ℕ)
    (end : MachinePacketEnd) → Before setting journal → Matches setting machine journal
    → IsTrue (travels_in_journal journal i)
    → ((packet : Packet) → IsSeen packet (packet_facts_of journal i) → MachinePacketMayEnd packet end)
    → packet_facts_of (journal ++ next ∷ []) i ≡ record (packet_facts_of journal i) { travels = false }
    → ((j : ℕ) → j ≢ i → is_item_of_entered_packet j next ≡ false)
    → KeepsMarks setting journal (journal ++ next ∷ [])
    → ((new : Machine) → MachineEndsPacket machine i end new → MachineTakes setting machine next new)
    → Goes setting machine journal next
goes_end setting machine journal next i end before matches travelling may after others keeps takes =
    let on : IsTrue (packet_facts_of journal i).travels = travels_in journal i travelling in
    let under = (before.kept.packets i).under_way on in
    let at = known (machine.packets i) _ under.header (matches.packets i) under.entered in record {
      new = machine_with_packet machine i (record at.0 { end = Some end });
      takes = takes (machine_with_packet machine i (record at.0 { end = Some end })) (record {
        packet = at.0;
        entered = at.1;
        not_ended = at.2.end on;
        may = may at.0 at.2;
        after = refl;
      });
      matches = changed_matches _ _ _ _ i _ matches keeps others (ended_seen _ _ _ end after at.2);
    }

-- ---- entries and decisions

goes_in : (setting : Setting) (machine : Machine) (journal : List Item) (i s : ℕ)
    (header : Header) → Before setting journal → Matches setting machine journal
    → i ≡ journal_next_packet journal → Goes setting machine journal (Item.Entered i s header)
goes_in setting machine journal i s header before matches number =
    let entered : Item = Item.Entered i s header in
    let packet : Packet = record {
      header = header;
      entry_mark = machine.mark;
      decision = None;
      end = None;
    } in
    let none : IsUnknownPacket (packet_facts_of journal i) = before.kept.unknown i (omega (arith, number)) in
    let after = facts_named i journal entered (eq-eqb i i refl) in record {
      new = machine_with_packet machine i packet;
      takes = record {
        unknown = not_known (machine.packets i) _ (matches.packets i) none.header;
        after = refl;
      };
      matches = changed_matches _ _ _ _ i packet matches (keeps_marks _ journal entered refl refl)
          (λ j apart. other_number i j apart) (subst (IsSeen packet) (sym after) (record {
            header = refl;
            mark = matches.mark;
            decision = ap (option_map hit_in) (sym none.decision);
            end = λ travels. refl;
          }));
    }

goes_decided : (setting : Setting) (machine : Machine) (journal : List Item) (i version : ℕ)
    (rule : Option ℕ) (act : Action) (by : How) → Before setting journal
    → Matches setting machine journal → IsPacketDecided setting journal i version rule act by
    → Goes setting machine journal (Item.Decided i version rule act by)
goes_decided setting machine journal i version rule act by before matches way =
    let decided : Item = Item.Decided i version rule act by in
    let knows_it : Knows setting journal i (packet_stage_of journal i) = knows setting journal i before in
    let facts : PacketFacts = packet_facts_of journal i in
    let s : ℕ = way.switch in
    let here : IsHere setting journal i s =
    here_of setting journal i s (packet_stage_of journal i) before.is knows_it.have knows_it.kept way.at in
    let header : Header = here.under.header in
    let now = decided_now _ _ i s version rule act by knows_it here (before.kept.cached s) way.by in
    let at = known (machine.packets i) facts header (matches.packets i) here.under.entered in
    let there : version ≤ journal_version_count journal =
    omega (arith, now.rightly.current, (bounded setting journal knows_it.have).there) in
    let policy : List Row = machine_policy_at setting journal version in
    let hit : scan policy at.0.header ≡ record { rule = rule; action = act } = ap (scan policy)
    (sym (some_same facts.header header at.0.header here.under.entered at.2.header))
    ∙ now.rightly.first_match in
    let after = facts_named i journal decided (eq-eqb i i refl) in
    let new : Packet = record at.0 { decision = Some (record { rule = rule; action = act }) } in
    record {
      new = machine_with_packet machine i new;
      takes = record {
        packet = at.0;
        policy = policy;
        entered = at.1;
        undecided = at.2.decision ∙ ap (option_map hit_in) (undecided_of setting journal i s
            (packet_stage_of journal i) knows_it.kept here (stage_when journal i s version now.when));
        not_ended = at.2.end here.travelling;
        not_retired = subst (λ m. m < version) (sym at.2.mark) now.rightly.not_retired;
        submitted = policy_there setting machine.policies journal version matches.policies
            (omega (arith, now.rightly.not_retired)) there;
        first_match = rw hit at (first_match-scan policy at.0.header);
        after = refl;
      };
      matches = changed_matches _ _ _ _ i new matches (keeps_marks _ journal decided refl refl)
          (λ j apart. other_number i j apart) (subst (IsSeen new) (sym after)
          (record { header = at.2.header; mark = at.2.mark; decision = refl; end = at.2.end }));
    }

-- ---- policies and marks

-- facts of packets don't change with what names none
packets_same : (machine : Machine) (journal : List Item) (next : Item)
    → ((i : ℕ) → is_item_of_entered_packet i next ≡ false)
    → ((i : ℕ) → SeenAs (machine.packets i) (packet_facts_of journal i))
    → (i : ℕ) → SeenAs (machine.packets i) (packet_facts_of (journal ++ next ∷ []) i)
packets_same machine journal next none seen i = rw (facts_other i journal next (none i)) (seen i)

goes_retired : (setting : Setting) (machine : Machine) (journal : List Item) (version : ℕ)
    → JournalItemsHaveCauses (HasControlItemCause setting) [] journal → Matches setting machine journal
    → ControlRetirementHasCause setting journal version → Goes setting machine journal (Item.Retired version)
goes_retired setting machine journal version have matches retires =
    let next : Item = Item.Retired version in
    let keep = policies_keep journal (next ∷ []) (refl, tt) in
    let marks = bounded setting (journal ++ next ∷ []) (have_append _ [] _ _ have (retires, tt)) in
    let mark : journal_retired_mark (journal ++ next ∷ []) ≡ version = rw (retired_more journal next) refl in
    record {
      new = record machine { mark = version };
      takes = record {
        rises = subst (λ m. m < version) (sym matches.mark) retires.rises;
        below_newest = omega (
          arith,
          mark,
          marks.retired,
          marks.there,
          keep.count,
          matches.policies.count,
        );
        after = refl;
      };
      matches = record {
        policies = policies_stay setting machine.policies journal _ keep matches.policies;
        mark = sym mark;
        packets = packets_same machine journal next (λ i. refl) matches.packets;
      };
    }

goes_submitted : (setting : Setting) (machine : Machine) (journal : List Item)
    (file version : ℕ) → JournalItemsHaveCauses (HasControlItemCause setting) [] journal
    → Matches setting machine journal → ControlSubmissionHasCause setting journal file version
    → Goes setting machine journal (Item.Submitted file version)
goes_submitted setting machine journal file version have matches submits =
    let next : Item = Item.Submitted file version in
    let gained = takes_version setting machine journal file version submits.rows
    (caused_numbered setting journal have) matches.policies submits.next submits.policy in record {
      new = record machine { policies = machine.policies ++ submits.rows ∷ [] };
      takes = gained.takes;
      matches = record {
        policies = gained.own;
        mark = matches.mark ∙ sym (rw (retired_more journal next) refl);
        packets = packets_same machine journal next (λ i. refl) matches.packets;
      };
    }

-- ---- all items

-- the cause of the item, where all is kept before it
abbrev KeptItem : Setting → List Item → Item → Type 0
KeptItem setting = Behind (Past (IsWayItem setting)) (AllPacketFactsKept setting)

left_action : (setting : Setting) (journal : List Item) (i port : ℕ) (leaving : Leaving)
    → Before setting journal → HasPacketItemCause setting journal (Item.Left i port leaving)
    → (packet : Packet) → IsSeen packet (packet_facts_of journal i) → MachinePacketMayEnd packet (LeftBy port)
left_action setting journal i port leaving before way packet seen =
    let rightly = leaves_rightly _ journal i port leaving (knows setting journal i before) way in
    action_of packet (packet_facts_of journal i) _ seen (decision_in journal i _ rightly.decided)

goes : (setting : Setting) (machine : Machine) (journal : List Item) (next : Item)
    → Before setting journal → IsWayItem setting journal next → Matches setting machine journal
    → Goes setting machine journal next
goes setting machine journal (Item.Submitted file version) before cause matches =
    search (rules, goes_submitted, switches_of_all)
goes setting machine journal (Item.Retired version) before cause matches = goes_retired setting
    machine journal version (switches_of_all setting [] journal before.have) matches cause.switches
goes setting machine journal (Item.Entered i s header) before cause matches =
    goes_in setting machine journal i s header before matches cause.way.0.number
goes setting machine journal (Item.Decided i version rule act by) before cause matches =
    goes_decided setting machine journal i version rule act by before matches cause.way
goes setting machine journal (Item.Left i port leaving) before cause matches =
    let next : Item = Item.Left i port leaving in
    goes_end setting machine journal next i (LeftBy port) before matches
    cause.way.at.travelling
    (left_action setting journal i port leaving before cause.way)
    (facts_named i journal next (eq-eqb i i refl)) (λ j apart. other_number i j apart)
    (keeps_marks setting journal next refl refl) (λ new ends. ends)
goes setting machine journal (Item.Dropped i) before cause matches =
    let next : Item = Item.Dropped i in
    goes_end setting machine journal next i Dropped before matches cause.way.at.travelling
    (λ packet seen. action_of packet (packet_facts_of journal i) cause.way.decision seen
    (decision_in journal i (Some cause.way.decision) cause.way.decided) ∙ ap Some cause.way.action)
    (facts_named i journal next (eq-eqb i i refl)) (λ j apart. other_number i j apart)
    (keeps_marks setting journal next refl refl) (λ new ends. ends)
goes setting machine journal (Item.Lost i) before cause matches = let next : Item = Item.Lost i in
    goes_end setting machine journal next i Lost before matches cause.way.travelling
    (λ packet seen. tt)
    (facts_named i journal next (eq-eqb i i refl)) (λ j apart. other_number i j apart)
    (keeps_marks setting journal next refl refl) (λ new ends. ends)
goes setting machine journal (Item.Stuck i switch why leg down) before cause matches =
    let next : Item = Item.Stuck i switch why leg down in
    goes_end setting machine journal next i Stuck before matches cause.way.at.travelling
    (λ packet seen. tt)
    (facts_named i journal next (eq-eqb i i refl)) (λ j apart. other_number i j apart)
    (keeps_marks setting journal next refl refl) (λ new ends. ends)
goes setting machine journal next before cause matches =
    record { new = machine; takes = refl; matches = unseen_matches setting machine journal next tt matches }

runs_from : (setting : Setting) (machine : Machine) (before items : List Item) → IsMachineSetting setting
    → JournalItemsHaveCauses (KeptItem setting) before items → Matches setting machine before
    → (new : Machine) × MachineRuns setting machine items new
runs_from setting machine before [] is have matches = (machine, refl)
runs_from setting machine before (next ∷ items) is have matches =
    let step = goes _ _ _ next (known_before _ is _ next have.0) have.0.caused.caused matches in
    let rest = runs_from setting step.new (before ++ next ∷ []) items is have.1 step.matches in
    (rest.0, (step.new, step.takes, rest.1))

matches_at_first : (setting : Setting) → IsMachineSetting setting
    → Matches setting (first_machine setting) []
unfolding packet_facts_of journal_packet_header
matches_at_first setting is = search (rules, policies_begin, start_laws)

pub caused_is_run : (setting : Setting) (journal : List Item) → IsMachineSetting setting
    → JournalItemsHaveCauses (IsWayItem setting) [] journal → IsMachineRun setting journal
caused_is_run setting journal is have = runs_from setting (first_machine setting) [] journal is
    (kept_before setting journal is have) (matches_at_first setting is)
