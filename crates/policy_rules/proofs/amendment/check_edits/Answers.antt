use Rattle.std.proofs.Common.{[], ◌++◌, ◌+◌, ◌∙◌, ◌∷◌, ◌≡◌, All, ap, arith, false, nat_cmp, subst, sym, take, take_all}
use Rattle.base.proofs.Exports.{All-more, contains, not-true, take_more}
use Rattle.policy_rules.specs.Exports.{ArePolicyEditsDistinct, ArePolicyEditsSeen, IsSoundPolicyEdit}
use Rattle.policy_rules.proofs.AmendmentEdits.{distinct_edits_push}
use Rattle.policy_rules.proofs.amendment.check_edits.Goals as goal

pub loop-edit-preserved : goal.loop-edit-preserved
loop-edit-preserved c =
    let edits = c.args.edits.now in
    let i = c.loop-edit.edit-index in
    let edit = c.edit-item.result in
    let known = c.loop-edit.invariant in
    let within = c.loop-edit-test.true in
    let more : take (i + 1) edits ≡ take i edits ++ edit ∷ [] = take_more edits i edit within
    ∙ ap (λ next. take i edits ++ next ∷ []) (sym c.edit-item.is) in record {
      counts = ap (λ n. n + 1) known.counts;
      seen = subst (ArePolicyEditsSeen (contains nat_cmp c.is_policy_edit_new.new.removed)
          (contains nat_cmp c.is_policy_edit_new.new.added)) (sym more)
          (c.in_ok-is_policy_edit_new.ensures.seen (take i edits) known.seen);
      sound = All-more IsSoundPolicyEdit edits i edit within known.sound
          (subst IsSoundPolicyEdit c.edit-item.is c.policy_edit_is_sound.ensures);
      distinct = subst ArePolicyEditsDistinct (sym more)
          (distinct_edits_push (take i edits) edit known.distinct (not-true _
          (sym (c.in_ok-is_policy_edit_new.ensures.new (take i edits) known.seen) ∙ c.if-not-branch.false)));
    }

pub returns-clause-amendment : goal.returns-clause-amendment
returns-clause-amendment c =
    let all = take_all c.loop-edit.edit-index c.args.edits.now (omega arith) in record {
      sound = subst (All IsSoundPolicyEdit) all c.loop-edit.invariant.sound;
      distinct = subst ArePolicyEditsDistinct all c.loop-edit.invariant.distinct;
      few = c.requires;
    }
