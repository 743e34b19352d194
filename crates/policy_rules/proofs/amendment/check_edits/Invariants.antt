use Rattle.std.proofs.Common.{◌≡◌, All, nat_cmp, take}
use Rattle.base.proofs.Exports.{contains}
use Rattle.policy_rules.specs.Exports.{ArePolicyEditsDistinct, ArePolicyEditsSeen, IsSoundPolicyEdit}
use Rattle.policy_rules.proofs.amendment.check_edits.Given as goal

abbrev pub invariant-loop-edit : goal.invariant-loop-edit
invariant-loop-edit l = record {
  counts : l.number ≡ l.edit-index;
  seen : ArePolicyEditsSeen (contains nat_cmp l.removed) (contains nat_cmp l.added)
      (take l.edit-index l.edits);
  sound : All IsSoundPolicyEdit (take l.edit-index l.edits);
  distinct : ArePolicyEditsDistinct (take l.edit-index l.edits);
}
