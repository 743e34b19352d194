use Rattle.std.proofs.Common.{[], nat_cmp}
use Rattle.base.proofs.Exports.{contains}
use Rattle.policy_rules.proofs.AmendmentEdits.{seen_add, seen_remove}
use Rattle.policy_rules.proofs.PolicyPrioritySets.{set_with}
use Rattle.policy_rules.proofs.amendment.is_policy_edit_new.Goals as goal

pub returns-in_ok-insert-in-Remove-clause-seen : goal.returns-in_ok-insert-in-Remove-clause-seen
returns-in_ok-insert-in-Remove-clause-seen c = λ earlier seen. rw c.in-Remove.is
    (seen_remove (contains nat_cmp c.args.removed.now) (contains nat_cmp c.args.added.now)
    (contains nat_cmp c.insert.new.self) earlier c.in-Remove.priority
    (set_with _ _ c.in-Remove.priority c.in_ok-insert-in-Remove.ensures.updates) seen)

pub returns-in_ok-insert-in-Add-clause-seen : goal.returns-in_ok-insert-in-Add-clause-seen
returns-in_ok-insert-in-Add-clause-seen c = λ earlier seen. rw c.in-Add.is
    (seen_add (contains nat_cmp c.args.removed.now) (contains nat_cmp c.args.added.now)
    (contains nat_cmp c.insert-in-Add.new.self) earlier c.in-Add.row
    (set_with _ _ c.in-Add.row.priority c.in_ok-insert-in-Add.ensures.updates) seen)
