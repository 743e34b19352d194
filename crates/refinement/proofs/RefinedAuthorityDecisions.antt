-- An authority rule decides a packet at a switch as the journal's definitions say.
use Rattle.std.proofs.Common.{[], ◌++◌, ◌<◌, ◌==◌, ◌∙◌, ◌∷◌, ◌≡◌, Bool, Err, IsSomeAnd, IsTrue, List, None, Ok, Option, Result, Some, ap, append-nil, arith, eq-eqb, false, length, map, option_map, refl, slice_get, subst, sym, true, unwrap_or, ℕ}
use Rattle.policy_rules.specs.Exports.{ArePolicyPartitionsNumbered}
use Rattle.update_machine.specs.Exports.{MachineAuthorityRule, CacheEntry, Cause, Found, JournalItemsHaveCauses, Header, IsMachineSetting, Item, Leg, Message, Partition, Ports, Rule, Seek, Setting, Tables, machine_authority_items, journal_authority_rule, journal_cache_items, machine_end_items, journal_found_down, machine_found_items, journal_packet_header_at, machine_blocks_in_turn, is_at_machine_switch, is_machine_sending_item, machine_lookup_at, machine_lookup_items, journal_next_message, journal_plan_at, machine_policy_at, machine_cache_rule as rule_message, machine_send_items, machine_sent_items_from, serves, journal_stamp_of, journal_tables_at, journal_leg_targets}
use Rattle.switch_core.specs.Exports.{Decided, SwitchSite, SwitchValue, switch_answer_by_found, switch_site_around, switch_decision_by_entry, switch_decision_by_rule, switch_answer_by_rule, switch_looked_up, switch_next_of, no_switch_core_partition, no_switch_rule, switch_own_partition, switch_core_partition_numbered, switch_cache_rule_sent, switch_core_rule_in, switch_seek_by, switch_set_out, switch_stamp_tables}
use Rattle.switch_table.specs.Exports.{HostedPolicyPartition, switch_table_part_has_target, switch_table_part_of, tables_of}
use Rattle.refinement.proofs.RefinedSwitchKnowledge.{own_has}
use Rattle.base.proofs.Exports.{get_or_from_slice_get}
use Rattle.five_tuple.specs.Exports.{IsHeader, header_of}
use Rattle.net_file.specs.Exports.{AreNetPortOwners}
use Rattle.switch_core.specs.declared.deciding.Decision.{Decision}
use Rattle.switch_core.specs.declared.tunnel_calls.Packet.{Packet}
use Rattle.update_machine.proofs.Exports.{count_of_append}
use Rattle.packet_laws.specs.Exports.{packet_facts_of}
use Rattle.packet_laws.proofs.Exports.{Finds, FindsRule, FindsTargets, IsPlanned, IsStamped, authority_found, deciding, facts_grow, redirect_found, rule_there, stamped}
use Rattle.world_log.specs.Exports.{log_answer_items, log_cache_message, log_decided_items, log_message_list, log_set_item}
use Rattle.refinement.proofs.RefinedTakenLegs.{IsDecided, Sees, at_switch, end_law, leg_law, sees_one}
use Rattle.refinement.proofs.RefinedPacketFacts.{facts_all, sends_unnamed, unnamed}
use Rattle.tunnel.specs.Exports.{TunnelValue}
use Rattle.control_laws.specs.Exports.{HasControlItemCause}
use Rattle.travelling.specs.Travelling.{TravellingStanding}

-- ---- a switch's own partition of a number is that of the plan

unwrapped : (o : Option Partition) (this : Partition) → IsSomeAnd o (λ part. part ≡ this)
    → unwrap_or o no_switch_core_partition ≡ this
unwrapped None this is = absurd is
unwrapped (Some part) this is = is

pub own_numbered : (plan : List HostedPolicyPartition) (s version partition : ℕ) (hosted : HostedPolicyPartition)
    → ArePolicyPartitionsNumbered (map switch_table_part_of plan) → slice_get plan partition ≡ Some hosted
    → hosted.0.number ≡ partition → IsTrue (switch_table_part_has_target s hosted)
    → switch_core_partition_numbered (tables_of plan version s) partition ≡ switch_table_part_of hosted
own_numbered plan s version partition hosted numbers there number target =
    unwrapped (switch_own_partition (tables_of plan version s) partition) (switch_table_part_of hosted)
    (own_has (λ part. part ≡ switch_table_part_of hosted) plan s version partition hosted numbers there number
    target refl)

-- ---- authority decisions

-- a packet with this header that entered at this switch and found these links down
pub record IsPacket (journal : List Item) (packet : Packet) : Type 0 where
  pub entered : (packet_facts_of journal packet.number).header ≡ Some packet.header
  pub came : (packet_facts_of journal packet.number).ingress ≡ Some packet.ingress
  pub found : (packet_facts_of journal packet.number).found ≡ packet.down

pub header_is : (journal : List Item) (i : ℕ) (header : Header)
    → (packet_facts_of journal i).header ≡ Some header → journal_packet_header_at journal i ≡ header
unfolding packet_facts_of
header_is journal i header entered = ap (λ h. unwrap_or h (header_of (record {
  src = 0;
  dst = 0;
  sport = 0;
  dport = 0;
  proto = 0;
}))) entered

pub found_of : (journal : List Item) (packet : Packet) → IsPacket journal packet
    → journal_found_down journal packet.number ≡ packet.down
unfolding packet_facts_of
found_of journal packet is = is.found

-- ---- what is sent

-- the rule is at its place of its partition
abbrev pub IsOwnRule : MachineAuthorityRule → Type 0
IsOwnRule found = slice_get found.part.rules found.place ≡ Some found.rule

-- the message of the switch's answer
abbrev pub told_by_rule : ℕ → Packet → MachineAuthorityRule → Option Message
told_by_rule s packet found =
    log_cache_message packet.ingress (switch_cache_rule_sent s packet found.version found.part found.place)

-- a rule of this place is what the switch finds there
own_rule : (found : MachineAuthorityRule) → IsOwnRule found → switch_core_rule_in found.part found.place ≡ found.rule
own_rule found own = get_or_from_slice_get found.part.rules found.place found.rule no_switch_rule own

-- it tells the rule by which it decides
pub told_is : (s : ℕ) (packet : Packet) (found : MachineAuthorityRule) → IsOwnRule found → (b : Bool) → (packet.ingress == s) ≡ b
    → told_by_rule s packet found ≡ elim b [
      | true ↦ None
      | false ↦ Some (rule_message found packet.ingress packet.header)
    ]
unfolding switch_cache_rule_sent
told_is s packet found own true here = rw here refl
told_is s packet found own false other = rw (other, own_rule found own) refl

-- which is what the journal's definitions say
sends_law : (setting : Setting) (journal : List Item) (s : ℕ) (packet : Packet)
    (found : MachineAuthorityRule) → IsPacket journal packet → IsOwnRule found
    → journal_cache_items setting packet.number s found journal
    ≡ machine_sent_items_from (journal_next_message journal) (log_message_list (told_by_rule s packet found))
unfolding journal_cache_items machine_sent_items_from packet_facts_of
sends_law setting journal s packet found is own =
    ap (λ (ingress : Option ℕ). elim (is_at_machine_switch s ingress) [
      | true ↦ []
      | false ↦ machine_send_items journal (rule_message found (unwrap_or ingress 0)
          (journal_packet_header_at journal packet.number) ∷ [])
    ]) is.came
    ∙ ap (λ header. elim (packet.ingress == s) [
      | true ↦ []
      | false ↦ machine_send_items journal (rule_message found packet.ingress header ∷ [])
    ]) (header_is journal packet.number packet.header is.entered)
    ∙ by_ingress (packet.ingress == s) refl
  where
    by_ingress : (b : Bool) → (packet.ingress == s) ≡ b → elim b [
      | true ↦ []
      | false ↦ machine_send_items journal (rule_message found packet.ingress packet.header ∷ [])
    ]
        ≡ machine_sent_items_from (journal_next_message journal) (log_message_list (told_by_rule s packet found))
    by_ingress true here = cc (told_is s packet found own true here)
    by_ingress false other = cc (told_is s packet found own false other)

-- the switch is as it was behind it
sees_sent : (setting : Setting) (journal : List Item) (s : ℕ) (w : SwitchValue) (mask number : ℕ)
    (message : Option Message) → Sees setting journal s w mask
    → Sees setting (journal ++ machine_sent_items_from number (log_message_list message)) s w mask
unfolding machine_sent_items_from
sees_sent setting journal s w mask number None sees = rw (append-nil journal) sees
sees_sent setting journal s w mask number (Some message) sees =
    sees_one setting journal (Item.Sent number message) s w mask
    (record { switch = refl; links = refl; policies = refl }) sees

-- ---- what is decided

-- the packet behind its decision
decided_packet : (journal : List Item) (packet : Packet) (decision : Decision) → IsPacket journal
    packet → IsPacket (journal ++ Item.Decided packet.number decision.version decision.rule
    decision.action decision.how ∷ []) packet
decided_packet journal packet decision is =
    let own : (packet.number == packet.number) ≡ true = eq-eqb _ _ refl in
    let grown = facts_grow packet.number journal
    (Item.Decided packet.number decision.version decision.rule decision.action decision.how) in
    record {
      entered = ap (λ facts. facts.header) grown ∙ rw own is.entered;
      came = ap (λ facts. facts.ingress) grown ∙ rw own is.came;
      found = ap (λ facts. facts.found) grown ∙ rw own is.found;
    }

-- and so are its facts
pub decided_facts : (journal : List Item) (packet : Packet) (decision : Decision) → IsPacket journal
    packet → IsDecided (journal ++ Item.Decided packet.number decision.version decision.rule
    decision.action decision.how ∷ []) packet decision
unfolding packet_facts_of
decided_facts journal packet decision is =
    let decided : Item = Item.Decided packet.number decision.version decision.rule
    decision.action decision.how in
    let own : (packet.number == packet.number) ≡ true = eq-eqb _ _ refl in
    let behind = decided_packet journal packet decision is in record {
      entered = behind.entered;
      found = behind.found;
      decided = ap (λ facts. facts.decision) (facts_grow packet.number journal decided) ∙ rw own refl;
    }

-- and behind what is sent then
decided_sent : (journal : List Item) (packet : Packet) (decision : Decision) (number : ℕ)
    (message : Option Message) → IsDecided journal packet decision
    → IsDecided (journal ++ machine_sent_items_from number (log_message_list message)) packet decision
unfolding packet_facts_of
decided_sent journal packet decision number message is =
    let sent : List Item = machine_sent_items_from number (log_message_list message) in
    let same = facts_all packet.number journal sent ∙ unnamed packet.number journal sent
    (packet_facts_of journal packet.number) (sends_unnamed packet.number number message) in record {
      entered = ap (λ facts. facts.header) same ∙ is.entered;
      found = ap (λ facts. facts.found) same ∙ is.found;
      decided = ap (λ facts. facts.decision) same ∙ is.decided;
    }

-- no message is sent with a decision itself
number_stays : (journal : List Item) (packet : Packet) (decision : Decision)
    → journal_next_message (journal ++ Item.Decided packet.number decision.version decision.rule
    decision.action decision.how ∷ []) ≡ journal_next_message journal
unfolding journal_next_message
number_stays journal packet decision =
    let decided : Item = Item.Decided packet.number decision.version decision.rule
    decision.action decision.how in
    omega (arith, count_of_append is_machine_sending_item journal (decided ∷ []))

both_blocks : (first second : List Item → List Item) (journal : List Item)
    → machine_blocks_in_turn (first ∷ second ∷ []) journal ≡ first journal ++ second (journal ++ first journal)
both_blocks first second journal = cc (append-nil (second (journal ++ first journal)))

pub authority_law : (setting : Setting) (journal : List Item) (s : ℕ) (w : SwitchValue) (mask : ℕ)
    → Sees setting journal s w mask
    → s < 64 → (ports : Ports) → AreNetPortOwners setting.net.switches ports
    → (packet : Packet) → IsPacket journal packet → (found : MachineAuthorityRule) → IsOwnRule found
    → machine_authority_items setting packet.number s (Some found) journal
    ≡ log_decided_items (at_switch s packet) (switch_decision_by_rule s found.version found.part.number found.rule)
    (machine_sent_items_from (journal_next_message journal) (log_message_list (told_by_rule s packet found)))
    (switch_next_of w (switch_site_around mask ports) packet found.rule.action)
unfolding machine_authority_items
authority_law setting journal s w mask sees there ports owners packet is found own =
    let i : ℕ = packet.number in
    let decision : Decision = switch_decision_by_rule s found.version found.part.number found.rule in
    let decided = Item.Decided i decision.version decision.rule decision.action decision.how in
    let after : List Item = journal ++ decided ∷ [] in
    let sent = machine_sent_items_from (journal_next_message journal) (log_message_list (told_by_rule s packet found)) in
    let told : journal_cache_items setting i s found after ≡ sent =
    sends_law setting after s packet found (decided_packet journal packet decision is) own
    ∙ ap (λ n. machine_sent_items_from n (log_message_list (told_by_rule s packet found)))
    (number_stays journal packet decision) in
    ap (λ items. decided ∷ items)
    (both_blocks (journal_cache_items setting i s found) (machine_end_items setting i s found.rule.action) after
    ∙ ap (λ items. items ++ machine_end_items setting i s found.rule.action (after ++ items)) told
    ∙ ap (λ items. sent ++ items) (end_law setting (after ++ sent) s w mask (sees_sent setting after
    s w mask (journal_next_message journal) (told_by_rule s packet found) (sees_one setting journal decided
    s w mask (record { switch = refl; links = refl; policies = refl }) sees)) there ports owners
    packet decision (decided_sent after packet decision (journal_next_message journal) (told_by_rule s
    packet found) (decided_facts journal packet decision is)) found.rule.action refl))

-- ---- what a switch answers by a lookup is what the journal's definitions say

-- the switch serves, is as the journal says, and is asked what becomes of this packet
pub record IsAsked (setting : Setting) (journal : List Item) (s : ℕ) (w : SwitchValue) (mask : ℕ)
    (ports : Ports) (packet : Packet) : Type 0 where
  pub is : IsMachineSetting setting
  pub caused : JournalItemsHaveCauses (HasControlItemCause setting) [] journal
  pub there : s < length setting.net.switches
  pub serving : IsTrue (serves journal s)
  pub sees : Sees setting journal s w mask
  pub owners : AreNetPortOwners setting.net.switches ports
  pub sound : IsHeader packet.header
  pub of_packet : IsPacket journal packet

-- a partition of the version's plan that is the switch's own, and its rule for the header
pub record IsOurs (setting : Setting) (journal : List Item) (s : ℕ) (header : Header)
    (version partition : ℕ) : Type 0 where
  pub planned : IsPlanned setting (machine_policy_at setting journal version)
      (journal_plan_at setting journal version)
  pub hosted : HostedPolicyPartition
  pub finds : Finds (machine_policy_at setting journal version) (journal_plan_at setting journal version) header
      hosted
  pub number : hosted.0.number ≡ partition
  pub target : IsTrue (switch_table_part_has_target s hosted)

-- the switch sets out for the targets of a partition
seek_answers : (number : ℕ) (at : TravellingStanding) (leg : Leg) (way : Result TunnelValue Cause)
    → log_answer_items number at (switch_seek_by leg way) ≡ log_set_item at leg way ∷ []
seek_answers number at leg (Ok tunnel) = refl
seek_answers number at leg (Err cause) = refl

-- the targets of a partition of a plan
pub targets_are : (setting : Setting) (journal : List Item) (version partition : ℕ)
    (targets : List ℕ) (hosted : HostedPolicyPartition)
    → slice_get (journal_plan_at setting journal version) hosted.0.number ≡ Some hosted
    → hosted.0.number ≡ partition → hosted.1 ≡ targets
    → journal_leg_targets setting journal (Seek version partition) ≡ targets
targets_are setting journal version partition targets hosted at number own = cc (number, at, own)

module _ (setting : Setting) (journal : List Item) (s : ℕ) (w : SwitchValue) (mask : ℕ)
    (ports : Ports) (packet : Packet) (asked : IsAsked setting journal s w mask ports packet) where
  abbrev site : SwitchSite
  site = switch_site_around mask ports

  abbrev at : TravellingStanding
  at = at_switch s packet

  pub its_stamp : IsStamped setting journal s
  its_stamp = stamped setting journal s asked.is asked.caused asked.there asked.serving

  pub below : s < 64
  below = omega (arith, asked.there, asked.is.net.few_switches)

  -- a cached rule decides
  cached_law : (tables : Tables) (entry : CacheEntry)
      → log_answer_items (journal_next_message journal) at (switch_answer_by_found w site packet tables (Found.Cached entry))
      ≡ machine_found_items setting packet.number s (Found.Cached entry) journal
  unfolding switch_answer_by_found machine_sent_items_from
  cached_law tables entry =
      let decision : Decision = switch_decision_by_entry entry in
      let decided = Item.Decided packet.number entry.version entry.rule entry.action decision.how in
      ap (λ items. decided ∷ items)
      (sym (end_law setting (journal ++ decided ∷ []) s w mask
      (sees_one setting journal decided s w mask
      (record { switch = refl; links = refl; policies = refl }) asked.sees) below ports asked.owners
      packet decision (decided_facts journal packet decision asked.of_packet) entry.action refl))

  -- a rule of a partition decides, and the cache rule is sent, if one is
  pub ruled_law : (version partition : ℕ) (ours : IsOurs setting journal s packet.header version
      partition) → log_answer_items (journal_next_message journal) (at_switch s packet)
      (switch_answer_by_rule w (switch_site_around mask ports) packet version
      (switch_core_partition_numbered (journal_tables_at setting journal version s) partition) ours.finds.place)
      ≡ machine_authority_items setting packet.number s
      (journal_authority_rule setting journal version partition ours.finds.place) journal
  unfolding switch_answer_by_rule
  ruled_law version partition ours =
      let place : ℕ = ours.finds.place in
      let part : Partition = switch_table_part_of ours.hosted in
      let items_of : ℕ → Partition → Rule → List Item = λ number part rule.
      log_answer_items (journal_next_message journal) at (Decided (switch_decision_by_rule number version part.number rule)
      (switch_cache_rule_sent number packet version part place) (switch_next_of w site packet rule.action)) in
      let own = own_numbered (journal_plan_at setting journal version) s version partition ours.hosted
      ours.planned.parts.sound.numbers
      (ap (slice_get (journal_plan_at setting journal version)) (sym ours.number) ∙ ours.finds.at)
      ours.number ours.target in
      ap (λ part. items_of w.number part (switch_core_rule_in part place)) own
      ∙ ap (items_of w.number part)
      (get_or_from_slice_get ours.hosted.0.rules place ours.finds.rule no_switch_rule ours.finds.ruled)
      ∙ ap (λ number. items_of number part ours.finds.rule) asked.sees.number
      ∙ sym (ap (λ r. machine_authority_items setting packet.number s r journal)
      (rule_there setting journal packet.header ours.hosted version partition ours.finds ours.number)
      ∙ authority_law setting journal s w mask asked.sees below ports asked.owners packet
      asked.of_packet (deciding version ours.finds) ours.finds.ruled)

  -- what was found under the stamp of the switch
  answer_law : (what : Found) → machine_lookup_at setting journal s packet.header ≡ what
      → log_answer_items (journal_next_message journal) at
      (switch_answer_by_found w site packet (journal_tables_at setting journal (journal_stamp_of journal s) s) what)
      ≡ machine_found_items setting packet.number s what journal
  unfolding switch_answer_by_found
  answer_law (Found.Cached entry) answer =
      cached_law (journal_tables_at setting journal (journal_stamp_of journal s) s) entry
  answer_law (Found.Authority partition place) answer =
      let version : ℕ = journal_stamp_of journal s in
      let own : FindsRule setting journal s packet.header partition place =
      authority_found setting journal s packet.header partition place its_stamp asked.sound answer in
      let ours : IsOurs setting journal s packet.header version partition = record {
        planned = its_stamp.planned;
        hosted = own.part.hosted;
        finds = own.part.finds;
        number = own.part.number;
        target = own.target;
      } in
      subst (λ k. log_answer_items (journal_next_message journal) at (switch_answer_by_rule w site packet version
      (switch_core_partition_numbered (journal_tables_at setting journal version s) partition) k) ≡ machine_authority_items setting
      packet.number s (journal_authority_rule setting journal version partition k) journal) own.found_at
      (ruled_law version partition ours)
  answer_law (Found.Redirect partition targets) answer =
      let version : ℕ = journal_stamp_of journal s in
      let leg : Leg = Seek version partition in
      let own : FindsTargets setting journal s packet.header partition targets =
      redirect_found setting journal s packet.header partition targets its_stamp asked.sound answer in
      let are = targets_are setting journal version partition targets own.part.hosted
      own.part.finds.at own.part.number own.own in
      seek_answers (journal_next_message journal) at leg (switch_set_out w mask packet leg targets)
      ∙ ap (λ these. log_set_item at leg (switch_set_out w mask packet leg these) ∷ []) (sym are)
      ∙ sym (leg_law setting journal s w mask asked.sees packet (found_of journal packet asked.of_packet)
      leg)

  pub looked_law : machine_lookup_items setting packet.number s journal
      ≡ log_answer_items (journal_next_message journal) (at_switch s packet)
      (switch_looked_up w (switch_site_around mask ports) packet)
  unfolding machine_lookup_items switch_looked_up
  looked_law = let what : Found = machine_lookup_at setting journal s packet.header in
      ap (λ header. machine_found_items setting packet.number s (machine_lookup_at setting journal s header)
      journal) (header_is journal packet.number packet.header asked.of_packet.entered)
      ∙ sym (answer_law what refl)
      ∙ ap (λ tables. log_answer_items (journal_next_message journal) at (switch_answer_by_found w site packet tables what))
      (sym (asked.sees.stamped asked.serving))
      ∙ ap (λ f. log_answer_items (journal_next_message journal) at
      (switch_answer_by_found w site packet (switch_stamp_tables w) f))
      (sym (asked.sees.lookup packet.header asked.serving))
