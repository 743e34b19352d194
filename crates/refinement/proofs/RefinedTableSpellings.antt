-- How long the spelling of small tables is.
use Rattle.std.proofs.Common.{[], ◌++◌, ◌<◌, ◌^◌, ◌∙◌, ◌≡◌, ◌≤◌, All, List, Some, ap, arith, filter, flat_map, get_or, length, length-append, map, not, refl, subst, sym, ℕ}
use Rattle.base.proofs.Exports.{All-filter, All-map, each_short, get_or-map, length-filter_both, length-map}
use Rattle.update_machine.specs.Exports.{Advertise, Body, Hello, Install, Installed, IsJournalReached, IsMachineSetting, Item, Net, PartRow, Partition, Place, Row, Rule, Setting, Stamp, Stamped, Tables, journal_message_of, journal_plan_at, machine_message_to_switch}
use Rattle.wire.specs.Exports.{AreWireShort, AreWireSwitchNumbers, action, wire_install_form, message, n1, n4, partition, region, rule, wire_rule_name, wire_spelled_number, switch, tables, wire_target_count, targets, word}
use Rattle.wire.proofs.WireFrameBytes.{length_n4}
use Rattle.message_bag.proofs.BagSpellingLengths.{action_len, alone_short, length_message, rule_len, stamp_sent_short, word_len}
use Rattle.net_file.specs.Exports.{IsNet}
use Rattle.partition.specs.Plan.{HostedPolicyPartition, IsPartitionPlan}
use Rattle.switch_table.specs.Exports.{switch_table_part_has_target, switch_table_part_of, switch_table_row_of_hosted, tables_of}
use Rattle.message_bag.specs.Exports.{HasShortBagSpelling}
use Rattle.control_laws.specs.Exports.{ControlAdvertsAreOfSwitches, ControlBodiesNameThere, IsControlMessageAddressed, ControlStampsSayTouched, ControlTablesArePlanned, ControlVersionsArePlanned, control_stamp_message_to}
use Rattle.control_laws.proofs.Exports.{always, behind_both, bodies_named, of_switches, stamps_touched, tables_planned, versions_planned}
use Rattle.update_machine.proofs.Exports.{begins_planned, touched_few}
use Rattle.packet_laws.proofs.Exports.{version_planned}
use Rattle.refinement.specs.Exports.{AreRefinedMessagesSpelled}
use Rattle.ternary.specs.Exports.{WordValue}

-- ---- regions

switch_len : (s : ℕ) → length (switch.spell s) ≡ 1
unfolding switch n1 wire_spelled_number
switch_len s = refl

count_len : (n : ℕ) → length (wire_target_count.spell n) ≡ 1
unfolding wire_target_count n1 wire_spelled_number
count_len n = refl

region_len : (row : PartRow) → length row.targets ≤ 4 → length (region.spell row) ≤ 37
unfolding region targets
region_len row few =
    let all = each_short switch.spell 1 row.targets (λ k d lt. omega (arith, switch_len (get_or row.targets k d))) in
    omega (
      arith,
      few,
      all,
      word_len row.region,
      count_len (length row.targets),
      length-append (word.spell row.region)
          (wire_target_count.spell (length row.targets) ++ flat_map switch.spell row.targets),
      length-append (wire_target_count.spell (length row.targets)) (flat_map switch.spell row.targets),
    )

-- ---- partitions

one_rule : (r : Rule) → length (rule.spell r) ≤ 46
unfolding rule
one_rule r = omega (
  arith,
  length-append (word.spell r.word)
      (n4.spell r.rank ++ (wire_rule_name.spell r.rule ++ action.spell r.action)),
  length-append (n4.spell r.rank) (wire_rule_name.spell r.rule ++ action.spell r.action),
  length-append (wire_rule_name.spell r.rule) (action.spell r.action),
  word_len r.word,
  length_n4 r.rank,
  rule_len r.rule,
  action_len r.action,
)

partition_len : (part : Partition) → length part.rules ≤ 8192
    → length (partition.spell part) ≤ 376872
unfolding partition
partition_len part few = omega (
  arith,
  few,
  (each_short rule.spell 46 part.rules (λ k d lt. one_rule _)),
  length_n4 part.number,
  word_len part.region,
  length_n4 (length part.rules),
  length-append (n4.spell part.number)
      (word.spell part.region ++ (n4.spell (length part.rules) ++ flat_map rule.spell part.rules)),
  length-append (word.spell part.region)
      (n4.spell (length part.rules) ++ flat_map rule.spell part.rules),
  length-append (n4.spell (length part.rules)) (flat_map rule.spell part.rules),
)

-- ---- tables

-- as many regions and partitions as a plan may have
pub record AreSmall (t : Tables) : Type 0 where
  pub regions : length t.parts ≤ 512
  pub targets : All (λ (row : PartRow). length row.targets ≤ 4) t.parts
  pub partitions : length t.auth ≤ 512
  pub rules : All (λ (part : Partition). length part.rules ≤ 8192) t.auth

pub tables_len : (t : Tables) → AreSmall t → length (tables.spell t) < 2 ^ 39
unfolding tables
tables_len t small = omega (
  arith,
  (each_short region.spell 37 t.parts (λ k d lt. region_len _ (small.targets k d lt))),
  (each_short partition.spell 376872 t.auth (λ k d lt. partition_len _ (small.rules k d lt))),
  small.regions,
  small.partitions,
  length_n4 t.version,
  length_n4 (length t.parts),
  length_n4 (length t.auth),
  length-append (n4.spell t.version) ((n4.spell (length t.parts) ++ flat_map region.spell t.parts)
      ++ (n4.spell (length t.auth) ++ flat_map partition.spell t.auth)),
  length-append (n4.spell (length t.parts) ++ flat_map region.spell t.parts)
      (n4.spell (length t.auth) ++ flat_map partition.spell t.auth),
  length-append (n4.spell (length t.parts)) (flat_map region.spell t.parts),
  length-append (n4.spell (length t.auth)) (flat_map partition.spell t.auth),
)

-- ---- the tables of a version are small, and name switches of the network alone

module _ (rows : List Row) (net : Net) (plan : List HostedPolicyPartition) (version s : ℕ)
    (net_is : IsNet net) (is : IsPartitionPlan rows net plan) where
  -- a partition has one target and its backups
  targets_few : All (λ (hosted : HostedPolicyPartition). length hosted.1 ≤ 4) plan
  targets_few k d within =
      let parts = map (λ (hosted : HostedPolicyPartition). hosted.0) plan in
      let sizes : length (map (λ (part : _). length part.rules) parts) ≡ length plan =
      length-map parts _ ∙ length-map plan _ in
      let due = is.placement.hosted k (omega (arith, within, sizes)) in
      omega (
        arith,
        net_is.backups,
        due.number,
        ap length (get_or-map (λ (hosted : HostedPolicyPartition). hosted.1) plan k d [] within),
      )

  abbrev own : List HostedPolicyPartition
  own = filter (switch_table_part_has_target s) plan

  own_fewer : length own ≤ length plan
  own_fewer = omega (arith, length-filter_both (switch_table_part_has_target s) (λ p. not (switch_table_part_has_target s p)) (λ p. refl) plan)

  rules_few : All (λ (hosted : HostedPolicyPartition). length hosted.0.rules ≤ 8192) plan
  rules_few k d within = omega (arith, is.leaves k d within, net_is.leaf_rules)

  own_rules : All (λ part. length part.rules ≤ 8192) (map switch_table_part_of own)
  own_rules = All-map (λ part. length part.rules ≤ 8192) switch_table_part_of own
      (All-filter (switch_table_part_has_target s) (λ hosted. length hosted.0.rules ≤ 8192) plan rules_few)

  pub small : AreSmall (tables_of plan version s)
  small = record {
    regions = omega (arith, is.few, length-map plan switch_table_row_of_hosted);
    targets = All-map (λ (row : PartRow). length row.targets ≤ 4) switch_table_row_of_hosted plan targets_few;
    partitions = omega (arith, is.few, own_fewer, length-map own switch_table_part_of);
    rules = own_rules;
  }

  pub short : AreWireShort (tables_of plan version s)
  short = record {
    regions = omega (arith, is.few, length-map plan switch_table_row_of_hosted);
    targets = All-map AreWireSwitchNumbers switch_table_row_of_hosted plan
        (λ k d within j e there. omega (arith, is.targets k d within j e there, net_is.few_switches));
    partitions = omega (arith, is.few, own_fewer, length-map own switch_table_part_of);
    rules = λ k d within. omega (arith, own_rules k d within);
  }

-- ---- what was sent has a short spelling

tables_short : (to : Place) (boot : ℕ) (t : Tables) → AreSmall t
    → length (message.spell (record { to = to; body = Install boot t })) < 2 ^ 40
unfolding wire_install_form
tables_short to boot t are = omega (
  arith,
  length_message (record { to = to; body = Install boot t }),
  length-append (n4.spell boot) (tables.spell t),
  length_n4 boot,
  tables_len t are,
)

module _ (setting : Setting) (journal : List Item) (is : IsMachineSetting setting)
    (reached : IsJournalReached setting journal) where
  names : ControlBodiesNameThere setting journal
  names = bodies_named.reached setting journal reached is.net

  adverts : ControlAdvertsAreOfSwitches setting journal
  adverts = subst (ControlAdvertsAreOfSwitches setting) (sym reached.written)
      ((behind_both _ of_switches).ends.stepped setting reached.steps is.net)

  versions : ControlVersionsArePlanned setting journal
  versions = subst (ControlVersionsArePlanned setting) (sym reached.written)
      ((always _ versions_planned).behind.ends.stepped setting reached.steps)

  planned : ControlTablesArePlanned setting journal
  planned = rw reached.written ((always _ tables_planned).behind.ends.stepped setting reached.steps)

  installed : (n s boot : ℕ) (t : Tables)
      → journal_message_of journal n ≡ Some (machine_message_to_switch s (Install boot t)) → AreWireShort t × AreSmall t
  installed n s boot t sent =
      let own = planned.sent s boot n t sent in
      let plan = version_planned setting journal t.version is
      (versions.planned (begins_planned setting is) t.version own.first own.last) in (
        subst AreWireShort (sym own.planned)
            (short _ setting.net (journal_plan_at setting journal t.version) t.version s is.net plan.parts),
        subst AreSmall (sym own.planned)
            (small _ setting.net (journal_plan_at setting journal t.version) t.version s is.net plan.parts),
      )

  touches : ControlStampsSayTouched setting journal
  touches = rw reached.written ((always _ stamps_touched).behind.ends.stepped setting reached.steps)

  few : (n s boot version : ℕ) (touched : List WordValue)
      → journal_message_of journal n ≡ Some (control_stamp_message_to s boot version touched) → length touched ≤ 16
  few n s boot version touched sent = rw ((touches.sent n s boot version touched sent).says)
      (touched_few setting journal version)

  below : (s : ℕ) → s < length setting.net.switches → s < 64
  below s there = omega (arith, there, is.net.few_switches)

  spelled : (n : ℕ) (to : Place) (body : Body)
      → journal_message_of journal n ≡ Some (record { to = to; body = body }) → IsControlMessageAddressed setting to body
      → HasShortBagSpelling (record { to = to; body = body })
  spelled n (Place.Switch s) (Install boot t) sent named =
      let its = installed n s boot t sent in record {
        spelling = record { switch = below s named.0; suits = refl; fields = its.0 };
        short = tables_short (Place.Switch s) boot t its.1;
      }
  spelled n (Place.Switch s) (Stamp boot version touched) sent named = record {
    spelling = record { switch = below s named.0; suits = refl; fields = tt };
    short = stamp_sent_short (Place.Switch s) boot version touched
        (few n s boot version touched sent);
  }
  spelled n (Place.Switch s) (Advertise told) sent named = record {
    spelling = record {
      switch = below s named.0;
      suits = refl;
      fields = below told.origin (adverts.sent n s told sent);
    };
    short = alone_short _ refl;
  }
  spelled n (Place.Switch s) (Hello t boot) sent named = absurd (cc named.1)
  spelled n (Place.Switch s) (Installed t boot version) sent named = absurd (cc named.1)
  spelled n (Place.Switch s) (Stamped t boot version) sent named = absurd (cc named.1)
  spelled n (Place.Switch s) body sent named = record {
    spelling = record { switch = below s named.0; suits = refl; fields = tt };
    short = alone_short _ refl;
  }
  spelled n Place.Controller (Hello t boot) sent named = record {
    spelling = record { switch = tt; suits = refl; fields = below t named };
    short = alone_short _ refl;
  }
  spelled n Place.Controller (Installed t boot version) sent named = record {
    spelling = record { switch = tt; suits = refl; fields = below t named };
    short = alone_short _ refl;
  }
  spelled n Place.Controller (Stamped t boot version) sent named = record {
    spelling = record { switch = tt; suits = refl; fields = below t named };
    short = alone_short _ refl;
  }
  spelled n Place.Controller body sent named = absurd named

  pub reached_spelled : AreRefinedMessagesSpelled journal
  reached_spelled n m sent = spelled n m.to m.body sent (names.sent n m sent).addressed
