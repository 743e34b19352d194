use Rattle.std.proofs.Common.{◌≡◌, count_by, drop, find}
use Rattle.policy_rules.specs.Exports.{is_in_policy_partition}
use Rattle.partition.proofs.parts.find.Given as goal

abbrev pub invariant-loop-part : goal.invariant-loop-part
invariant-loop-part l = record {
  one : count_by (is_in_policy_partition l.header) (drop l.part-index l.parts) ≡ 1;
  first : find (is_in_policy_partition l.header) l.parts ≡ find (is_in_policy_partition l.header) (drop l.part-index l.parts);
}
