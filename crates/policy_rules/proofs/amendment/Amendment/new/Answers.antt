use Rattle.std.proofs.Common.{◌∙◌, ◌≡◌, ap, subst, sym}
use Rattle.policy_rules.specs.Exports.{IsPolicyAmendment, policy_additions, policy_edits_of, policy_removals}
use Rattle.policy_rules.proofs.AmendmentEdits.{additions_of, removals_of}
use Rattle.policy_rules.proofs.amendment.Amendment.new.Goals as goal
use Rattle.policy_rules.proofs.amendment.Amendment.new.Goals.{In_ok-edits}

edits_are : (c : In_ok-edits)
    → c.in_ok-edits.edits.items ≡ policy_edits_of c.args.removed.items c.args.added.items
edits_are c = cc (c.in_ok-edits.ensures, c.deref.ensures.value, c.deref-2.ensures.value)

pub invariant_of-result : goal.invariant_of-result
invariant_of-result c = let are = edits_are (goal.at.invariant_of-result c).In_ok-edits in record {
  amendment = subst IsPolicyAmendment c.deref-3.ensures.value c.in_ok-check_edits.ensures.amendment;
  is_removed = sym (ap policy_removals are ∙ removals_of c.args.removed.items c.args.added.items);
  is_added = sym (ap policy_additions are ∙ additions_of c.args.removed.items c.args.added.items);
}

pub returns-clause-removed : goal.returns-clause-removed
returns-clause-removed c = ap policy_removals (edits_are (goal.at.returns-clause-removed c).In_ok-edits)
    ∙ removals_of c.args.removed.items c.args.added.items

pub returns-clause-added : goal.returns-clause-added
returns-clause-added c = ap policy_additions (edits_are (goal.at.returns-clause-added c).In_ok-edits)
    ∙ additions_of c.args.removed.items c.args.added.items
